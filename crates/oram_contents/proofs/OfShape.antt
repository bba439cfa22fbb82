-- What is at hand stays of the shape.
use Rattle.std.proofs.Common.{◌≡◌, List, [], ◌∷◌, ◌++◌, Option, Some, sym, subst}
use Rattle.std.proofs.Common.{arith}
use Rattle.std.proofs.lemmas.List.Elements.{All-cons, All-append}
use Rattle.asc_base.specs.declared.block.Address.{Address}
use Rattle.asc_base.specs.declared.block.Entry.{Entry}
use Rattle.asc_base.specs.declared.shape.Shape.{Shape}
use Rattle.bucket_codec.specs.Slot.{IsSlot, IsEntry, IsInRange}
use Rattle.asc_base.proofs.Lookups.{without_first-has}
use Rattle.asc_base.proofs.Members.{all_has, has_all}
use Rattle.oram_stash.specs.Entries.{is_of, without}
use Rattle.oram_contents.specs.Shapes.{AreOfShape}

abbrev IsOf : Shape → Entry → Type 0
IsOf shape entry = IsEntry entry × IsInRange shape (Some entry)

pub put_of_shape : (shape : Shape) (old new : List Entry) (entry : Entry) → new ≡ old ++ entry ∷ [] → IsEntry entry
    → IsInRange shape (Some entry) → AreOfShape shape old → AreOfShape shape new
put_of_shape shape old new entry is entry_is range all =
    subst (λ (entries : List Entry). AreOfShape shape entries) (sym is)
    (All-append (IsOf shape) old (entry ∷ []) all (All-cons (IsOf shape) entry [] (entry_is, range)
    (λ k d less. absurd (omega arith))))

-- the same for the entry of a slot
pub slot_of_shape : (shape : Shape) (found : Option Entry) (old new : List Entry) (entry : Entry) → found ≡ Some entry
    → new ≡ old ++ entry ∷ [] → IsSlot found × IsInRange shape found → AreOfShape shape old → AreOfShape shape new
slot_of_shape shape found old new entry is pushed fact all =
    let at : IsSlot (Some entry) × IsInRange shape (Some entry) = subst
    (λ (o : Option Entry). IsSlot o × IsInRange shape o) is fact in
    put_of_shape shape old new entry pushed at.0 at.1 all

pub without_of_shape : (shape : Shape) (entries : List Entry) (address : Address) → AreOfShape shape entries
    → AreOfShape shape (without entries address)
unfolding without
without_of_shape shape entries address all =
    has_all (IsOf shape) (without entries address)
    (λ entry h. all_has (IsOf shape) entry entries all (without_first-has (is_of address) entries entry h))
