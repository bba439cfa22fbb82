-- The lists of the layers up to one of them, and those of one layer more.
use Rattle.std.specs.Prelude.{min}
use Rattle.std.proofs.Common.{◌≡◌, ℕ, ◌+◌, ◌/◌, ◌%◌, ◌<◌, ◌≤◌, List, get_or, set, ◌∙◌, ap, inl, inr, arith}
use Rattle.std.proofs.lemmas.Bool.{cases_lt}
use Rattle.asc_base.specs.Shape.{places_of}
use Rattle.asc_base.specs.TreeShape.{layer_count, layer_first}
use Rattle.asc_base.proofs.Layers.{small_layers, layer_first-le, layer_first-next, layer_count-next}
use Rattle.asc_base.proofs.Places.{get_or-places, set-places}

pub record AreStacked (lines roots top : ℕ) (firsts counts : List ℕ) : Type 0 where
  pub first : get_or firsts top 0 ≡ layer_first lines top
  pub count : get_or counts top 0 ≡ layer_count lines top
  pub next : get_or firsts top 0 + get_or counts top 0 ≡ layer_first lines (top + 1)
  pub few : get_or firsts top 0 + get_or counts top 0 ≤ 270601
  pub more : roots < get_or counts top 0 → top < 4

pub stacked : (lines roots top : ℕ) (firsts counts : List ℕ) → lines ≤ 262144 → 1 ≤ roots → top ≤ 4
    → firsts ≡ places_of (layer_first lines) (top + 1) → counts ≡ places_of (layer_count lines) (top + 1)
    → AreStacked lines roots top firsts counts
stacked lines roots top firsts counts small rooted within f c =
    let first : get_or firsts top 0 ≡ layer_first lines top =
    ap (λ l. get_or l top 0) f ∙ get_or-places (layer_first lines) (top + 1) top (omega arith) (omega arith) in
    let count : get_or counts top 0 ≡ layer_count lines top =
    ap (λ l. get_or l top 0) c ∙ get_or-places (layer_count lines) (top + 1) top (omega arith) (omega arith) in
    let rise = layer_first-next lines top in
    let bounds = small_layers lines small in
    record {
      first = first;
      count = count;
      next = omega arith;
      few = omega (arith, bounds.total, layer_first-le lines (top + 1) 5 (omega arith));
      more = λ roots_fewer. elim (cases_lt top 4) [
        | inl low ↦ low
        | inr last ↦
            (let same : top ≡ 4 = omega arith in
            absurd (omega (arith, bounds.fourth, ap (layer_count lines) same)))
      ];
    }

pub stacked_firsts : (lines top first : ℕ) (firsts : List ℕ) → top < 4
    → firsts ≡ places_of (layer_first lines) (top + 1)
    → first ≡ layer_first lines (top + 1) → set firsts (top + 1) first ≡ places_of (layer_first lines) (top + 1 + 1)
stacked_firsts lines top first firsts below f e =
    rw (f, e) (set-places (layer_first lines) (top + 1) (omega arith))

pub stacked_counts : (lines top count above : ℕ) (counts : List ℕ) → top < 4
    → counts ≡ places_of (layer_count lines) (top + 1)
    → count ≡ layer_count lines top → above ≡ count / 32 + min 1 (count % 32)
    → set counts (top + 1) above ≡ places_of (layer_count lines) (top + 1 + 1)
stacked_counts lines top count above counts below f e a =
    let same : above ≡ layer_count lines (top + 1) = omega (arith, layer_count-next lines top) in
    rw (f, same) (set-places (layer_count lines) (top + 1) (omega arith))
