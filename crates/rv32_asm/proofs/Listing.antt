-- The labels as a map and as a list.
use Rattle.std.proofs.Common.{◌≡◌, ◌∙◌, ℕ, List, [], ◌∷◌, ◌++◌, ap, sym, refl, Bool, true, false}
use Rattle.std.specs.Prelude.{bytes_eq, cond, if◌then◌else◌, ◌&&◌, not, Option, Some, None, Ok, Err}
use Rattle.std.specs.Option.{is_some}
use Rattle.std.specs.Borrow.{Bor}
use Rattle.std.proofs.lemmas.List.{map-append}
use Rattle.indexmap.specs.IndexMap.{IndexMap, with_entries, get, get_by, insert_entry}
use Rattle.indexmap.proofs.CallerLemmas.{insert_entry-new}
use Rattle.rv32_asm.specs.Scanning.{is_name}
use Rattle.rv32_asm.specs.Passes.{place_of, labelled}
use Rattle.rv32_asm.specs.OperandViews.{text_view}
use Rattle.rv32_asm.specs.PassViews.{labels_of}
use Rattle.rv32_asm.specs.declared.fault.AsmKind.TheVariants as kind

-- looked up in the map's entries, and in the list
pub looked_up : {S : Type 0} (labels : IndexMap (Bor (List ℕ)) ℕ S) (name : List ℕ) (entries : List (Bor (List ℕ) × ℕ))
    → get_by (λ key. bytes_eq name key.now) (with_entries labels entries)
    ≡ place_of name (labels_of (with_entries labels entries))
looked_up labels name [] = refl
looked_up labels name (entry ∷ entries) =
    ap (cond (bytes_eq name entry.0.now) (Some entry.1)) (looked_up labels name entries)

chosen : {A : Type 0} (named defined : Bool) → named ≡ true → defined ≡ false → (x y : A)
    → (if named && not defined then x else y) ≡ x
chosen true false named fresh x y = refl
chosen true true named fresh x y = absurd (cc)
chosen false defined named fresh x y = absurd (cc)

none_of : (found : Option ℕ) → is_some found ≡ false → found ≡ None
none_of (Some place) fresh = absurd (cc)
none_of None fresh = refl

-- a label that is a name and isn't defined yet goes last
pub defined : {S : Type 0} (labels new : IndexMap (Bor (List ℕ)) ℕ S) (label : Option (Bor (List ℕ)))
    (name : Bor (List ℕ))
    (place : ℕ) → label ≡ Some name → is_name name.now ≡ true → is_some (place_of name.now (labels_of labels)) ≡ false
    → new.entries ≡ insert_entry (λ one other. bytes_eq one.now other.now) labels.entries name place
    → labelled (text_view label) place (labels_of labels) ≡ Ok (labels_of new)
defined labels new label name place is named fresh entries =
    ap (λ l. labelled (text_view l) place (labels_of labels)) is
    ∙ chosen (is_name name.now) (is_some (place_of name.now (labels_of labels))) named fresh
    (Ok (labels_of labels ++ (name.now, place) ∷ [])) (Err kind.Label)
    ∙ ap Ok (sym listed)
  where
    absent : get (λ one other. bytes_eq one.now other.now) labels name ≡ None
    absent = looked_up labels name.now labels.entries ∙ none_of (place_of name.now (labels_of labels)) fresh

    listed : labels_of new ≡ labels_of labels ++ (name.now, place) ∷ []
    listed =
        rw (
          entries,
          insert_entry-new (λ one other. bytes_eq one.now other.now) labels name place absent,
          map-append,
        ) refl
