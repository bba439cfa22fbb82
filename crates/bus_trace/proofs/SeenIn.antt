-- What is seen of a log, place by place.
use Rattle.std.proofs.Common.{◌≡◌, ℕ, zero, suc, ◌<◌, List, [], ◌∷◌, ◌+◌, ◌++◌, length, map, take, get_or}
use Rattle.std.proofs.Common.{min, All, refl, subst, sym, ◌∙◌, ap, arith}
use Rattle.std.specs.Prelude.{zip}
use Rattle.std.proofs.lemmas.List.Elements.{AllWithin-from_all}
use Rattle.std.proofs.lemmas.Slice.Zip.{length-zip}
use Rattle.std.proofs.lemmas.List.{length-map, get_or-map, take_more}
use Rattle.asc_base.specs.declared.block.Leaf.{Leaf}
use Rattle.bus_watch.specs.Log.{LogLists}
use Rattle.bus_schedule.specs.Shown.{starts_of, leaves_of}
use Rattle.bus_trace.specs.declared.trace.Seen.{Seen}
use Rattle.bus_trace.specs.Grammar.{IsSeen}
use Rattle.bus_trace.specs.OfLog.{seen_of, seen_in}

none : (i : ℕ) → i < 0 → ⊥
none i lt = omega (arith, lt)

pub zipped_at : {A B C : Type 0} (f : A × B → C) (xs : List A) (ys : List B) (i : ℕ) (a : A) (b : B) (d : C)
    → i < length xs → i < length ys → get_or (map f (zip xs ys)) i d ≡ f (get_or xs i a, get_or ys i b)
zipped_at f [] ys i a b d small also = absurd (none i small)
zipped_at f (x ∷ xs) [] i a b d small also = absurd (none i also)
zipped_at f (x ∷ xs) (y ∷ ys) zero a b d small also = refl
zipped_at f (x ∷ xs) (y ∷ ys) (suc i) a b d small also = zipped_at f xs ys i a b d (omega arith) (omega arith)

pub zipped_length : {A B C : Type 0} (f : A × B → C) (xs : List A) (ys : List B)
    → length (map f (zip xs ys)) ≡ min (length xs) (length ys)
zipped_length f xs ys = length-map (zip xs ys) f ∙ length-zip xs ys

abbrev pub numbers : List Leaf → List ℕ
numbers leaves = map (λ (leaf : Leaf). leaf.0) leaves

-- the starts and leaves of a log
pub record AreOf (log : LogLists) (starts : List ℕ) (leaves : List Leaf) : Type 0 where
  pub begun : starts ≡ starts_of log.events
  pub drawn : numbers leaves ≡ leaves_of log.events

pub seen_is : (levels : ℕ) (log : LogLists) (starts : List ℕ) (leaves : List Leaf) → AreOf log starts leaves
    → seen_in levels log ≡ map (seen_of levels log.moves) (zip starts (numbers leaves))
seen_is levels log starts leaves are =
    sym (ap (λ ss. map (seen_of levels log.moves) (zip ss (numbers leaves))) are.begun
    ∙ ap (λ ls. map (seen_of levels log.moves) (zip (starts_of log.events) ls)) are.drawn)

pub seen_length : (levels : ℕ) (log : LogLists) (starts : List ℕ) (leaves : List Leaf) → AreOf log starts leaves
    → length (seen_in levels log) ≡ min (length starts) (length leaves)
seen_length levels log starts leaves are =
    ap length (seen_is levels log starts leaves are) ∙ zipped_length (seen_of levels log.moves) starts (numbers leaves)
    ∙ ap (min (length starts)) (length-map leaves (λ (leaf : Leaf). leaf.0))

-- what is seen at a place
pub seen_at : (levels : ℕ) (log : LogLists) (starts : List ℕ) (leaves : List Leaf) (i start : ℕ) (leaf : Leaf)
    (d : Seen)
    → AreOf log starts leaves → i < min (length starts) (length leaves)
    → start ≡ get_or starts i start → leaf ≡ get_or leaves i leaf
    → get_or (seen_in levels log) i d ≡ seen_of levels log.moves (start, leaf.0)
seen_at levels log starts leaves i start leaf d are small s l =
    let f = seen_of levels log.moves in
    let also : i < length (numbers leaves) = rw (length-map leaves (λ (leaf : Leaf). leaf.0)) (omega arith) in
    ap (λ seen. get_or seen i d) (seen_is levels log starts leaves are)
    ∙ zipped_at f starts (numbers leaves) i start leaf.0 d (omega arith) also
    ∙ ap (λ x. f (x, get_or (numbers leaves) i leaf.0)) (sym s)
    ∙ ap (λ x. f (start, x)) (get_or-map (λ (x : Leaf). x.0) leaves i leaf leaf.0 (omega arith) ∙ ap (λ
    (x : Leaf). x.0) (sym l))

-- each slot's numbers are in their ranges
pub slot_in_ranges : (levels : ℕ) (log : LogLists) (starts : List ℕ) (leaves : List Leaf) (i start : ℕ) (leaf : Leaf)
    → All (IsSeen levels) (seen_in levels log)
    → AreOf log starts leaves → i < min (length starts) (length leaves)
    → start ≡ get_or starts i start → leaf ≡ get_or leaves i leaf
    → IsSeen levels (seen_of levels log.moves (start, leaf.0))
slot_in_ranges levels log starts leaves i start leaf all are small s l =
    let d = seen_of levels log.moves (0, 0) in
    subst (IsSeen levels) (seen_at levels log starts leaves i start leaf d are small s l)
    (AllWithin-from_all (IsSeen levels) (seen_in levels log) all i d (omega arith) (rw
    (seen_length levels log starts leaves are) small))

-- one more
pub one_more : (levels : ℕ) (log : LogLists) (starts : List ℕ) (leaves : List Leaf) (i start : ℕ) (leaf : Leaf)
    → AreOf log starts leaves → i < min (length starts) (length leaves)
    → start ≡ get_or starts i start → leaf ≡ get_or leaves i leaf
    → take (i + 1) (seen_in levels log) ≡ take i (seen_in levels log) ++ seen_of levels log.moves (start, leaf.0) ∷ []
one_more levels log starts leaves i start leaf are small s l =
    let d = seen_of levels log.moves (0, 0) in
    take_more (seen_in levels log) i d (rw (seen_length levels log starts leaves are) small)
    ∙ ap (λ x. take i (seen_in levels log) ++ x ∷ []) (seen_at levels log starts leaves i start leaf d are small s l)
