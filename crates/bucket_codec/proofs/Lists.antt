-- Lists that are written in parts.
use Rattle.std.proofs.Common.{◌≡◌, ℕ, ◌+◌, List, [], ◌++◌, length, take, drop, refl, sym, append_assoc, append-nil}
use Rattle.std.proofs.Common.{length-drop, arith}
use Rattle.std.proofs.lemmas.List.{drop_all}
use Rattle.std.proofs.Math.Seq.{take-append_seam, drop-append_seam}

-- what stands before and behind a seam
pub taken : (xs ys : List ℕ) (n : ℕ) → length xs ≡ n → take n (xs ++ ys) ≡ xs
taken xs ys n e = rw (← e) (take-append_seam xs ys)

pub dropped : (xs ys : List ℕ) (n : ℕ) → length xs ≡ n → drop n (xs ++ ys) ≡ ys
dropped xs ys n e = rw (← e) (drop-append_seam xs ys)

-- one part more, over the first k of what is left
pub placed : (done rest text : List ℕ) (a k : ℕ) → length done ≡ a
    → take a (done ++ rest) ++ (text ++ drop k (drop a (done ++ rest))) ≡ (done ++ text) ++ drop k rest
placed done rest text a k e =
    rw (taken done rest a e, dropped done rest a e) (sym (append_assoc done text (drop k rest)))

-- two parts that fill the list
pub two_parts : (a b into : List ℕ) (n m : ℕ) → length a ≡ n → length into ≡ n + m
    → take n (a ++ drop n into) ++ (b ++ drop m (drop n (a ++ drop n into))) ≡ a ++ b
two_parts a b into n m e f =
    let rest : drop m (drop n into) ≡ [] = drop_all m (drop n into) (omega (arith, length-drop n into)) in
    rw (taken a (drop n into) n e, dropped a (drop n into) n e, rest, append-nil) refl
