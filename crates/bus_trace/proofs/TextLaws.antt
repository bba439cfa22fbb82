-- Lines as a text.
use Rattle.std.proofs.Common.{◌≡◌, ℕ, List, [], ◌∷◌, ◌++◌, refl, ap, ◌∙◌, append-nil, append_assoc, sym}
use Rattle.std.specs.Prelude.{codes}
use Rattle.std.specs.Fmt.{decimal}
use Rattle.bus_schedule.specs.Timetable.{Public}
use Rattle.bus_trace.specs.declared.trace.Seen.{Seen}
use Rattle.std.proofs.lemmas.List.Concat.{flat_map-append}
use Rattle.bus_trace.specs.Trace.{Line, text_of, access_line, header_lines, spaced}

pub text_of_none : text_of [] ≡ []
unfolding text_of
text_of_none = refl

pub text_of_join : (first second : List Line) → text_of (first ++ second) ≡ text_of first ++ text_of second
unfolding text_of
text_of_join first second = flat_map-append (λ l. l ++ 10 ∷ []) first second

pub text_of_cons : (l : Line) (lines : List Line) → text_of (l ∷ lines) ≡ (l ++ 10 ∷ []) ++ text_of lines
unfolding text_of
text_of_cons l lines = refl

pub text_of_one : (l : Line) → text_of (l ∷ []) ≡ l ++ 10 ∷ []
unfolding text_of
text_of_one l = append-nil (l ++ 10 ∷ [])

-- a number at the end of a line
pub number_ends : (text rest : List ℕ) → ((text ++ []) ++ 10 ∷ []) ++ rest ≡ text ++ 10 ∷ rest
number_ends text rest = ap (λ x. (x ++ 10 ∷ []) ++ rest) (append-nil text) ∙ append_assoc text (10 ∷ []) rest

-- the line of an access
pub access_is : (seen : Seen) → codes "access " ++ (decimal seen.start ++ (32 ∷ (decimal seen.leaf.0
    ++ (32 ∷ (decimal seen.moves ++ 10 ∷ []))))) ≡ access_line seen ++ 10 ∷ []
access_is seen =
    let start = decimal seen.start in
    let leaf = decimal seen.leaf.0 in
    let moves = decimal seen.moves in
    ap (λ t. codes "access " ++ t)
    (sym (append_assoc start (32 ∷ (leaf ++ (32 ∷ (moves ++ [])))) (10 ∷ [])
    ∙ ap (λ t. start ++ 32 ∷ t) (append_assoc leaf (32 ∷ (moves ++ [])) (10 ∷ [])
    ∙ ap (λ t. leaf ++ 32 ∷ t) (append_assoc moves [] (10 ∷ [])))))

-- the lines of a header
abbrev pub leak_on : Public → List ℕ
leak_on h = codes "\nleak " ++ (decimal h.leak ++ 10 ∷ [])

abbrev pub epoch_on : Public → List ℕ
epoch_on h = codes "\nepoch " ++ (decimal h.epoch ++ leak_on h)

abbrev pub first_on : Public → List ℕ
first_on h = codes "\nfirst " ++ (decimal h.first ++ epoch_on h)

pub header_is : (h : Public) → codes "ascend trace 1\nlevels " ++ (decimal h.levels ++ (codes "\nrates"
    ++ (spaced h.rates ++ first_on h))) ≡ text_of (header_lines h)
unfolding text_of
header_is h =
    let leak = decimal h.leak in
    let epoch = decimal h.epoch in
    let first = decimal h.first in
    let rates = spaced h.rates in
    let l : List ℕ = codes "leak " ++ (((leak ++ []) ++ 10 ∷ []) ++ []) in
    let e : List ℕ = codes "epoch " ++ (((epoch ++ []) ++ 10 ∷ []) ++ l) in
    let f : List ℕ = codes "first " ++ (((first ++ []) ++ 10 ∷ []) ++ e) in
    let r : List ℕ = codes "rates" ++ ((rates ++ 10 ∷ []) ++ f) in
    let l_is : l ≡ codes "leak " ++ (leak ++ 10 ∷ []) = ap (λ t. codes "leak " ++ t) (number_ends leak []) in
    let e_is : e ≡ codes "epoch " ++ (epoch ++ leak_on h) =
    ap (λ t. codes "epoch " ++ t) (number_ends epoch l ∙ ap (λ t. epoch ++ 10 ∷ t) l_is) in
    let f_is : f ≡ codes "first " ++ (first ++ epoch_on h) =
    ap (λ t. codes "first " ++ t) (number_ends first e ∙ ap (λ t. first ++ 10 ∷ t) e_is) in
    let r_is : r ≡ codes "rates" ++ (rates ++ first_on h) =
    ap (λ t. codes "rates" ++ t) (append_assoc rates (10 ∷ []) f ∙ ap (λ t. rates ++ 10 ∷ t) f_is) in
    sym (ap (λ t. codes "ascend trace 1\nlevels " ++ t)
    (number_ends (decimal h.levels) r ∙ ap (λ t. decimal h.levels ++ 10 ∷ t) r_is))
