-- The counters of the top layer.
use Rattle.std.proofs.Common.{◌≡◌, ◌≢◌, ℕ, ◌+◌, ◌-◌, ◌%◌, ◌^◌, ◌<◌, ◌≤◌, inl, inr, arith, refl, sym, ap, ◌∙◌, subst}
use Rattle.std.proofs.Common.{cond, List, [], ◌∷◌, length, get_or, set, replicate, None, is_none}
use Rattle.std.proofs.lemmas.Bool.{cases_eq}
use Rattle.std.proofs.lemmas.List.{get_or-set_same, get_or-set_other}
use Rattle.asc_base.specs.TreeShape.{layer_first, layer_count, layer_of, parent_of}
use Rattle.asc_base.specs.declared.block.Counter.{Counter}
use Rattle.asc_base.proofs.Layers.{layer_of_in, layer_of-lt, layer_first-next, parent_of-below}
use Rattle.asc_base.proofs.Lookups.{none_is_not}
use Rattle.posmap_counters.specs.Counters.{Counters, counter_at, next_group, next_own, Change, Access, block_of, after}
use Rattle.posmap_counters.specs.Counters.{asked_changes}
use Rattle.posmap_counters.specs.Families.{HasRoots}
use Rattle.posmap_counters.proofs.ChangeLaws.{after_at, after_other}
use Rattle.posmap_counters.proofs.FamilyLaws.{zeros_at}
use Rattle.posmap_counters.proofs.AskedLaws.{some_room, asked-room}

-- a counter of the top layer
abbrev root : ℕ → Counter
root group = record { group = group; own = 0 }

module _ (lines layers : ℕ) where
  -- a block without a parent is in the top layer
  pub top_place : (a : ℕ) → a < layer_first lines layers → parent_of lines layers a ≡ None
      → (layer_first lines (layers - 1) ≤ a) × (a - layer_first lines (layers - 1) < layer_count lines (layers - 1))
  top_place a inside none =
      let at = layer_of_in lines layers a inside in
      let less = layer_of-lt lines layers a inside in
      let top : layer_of lines layers a + 1 ≡ layers =
      elim (cases_eq (layer_of lines layers a + 1) layers) [
        | inl same ↦ same
        | inr under ↦ absurd (none_is_not (sym none
            ∙ parent_of-below lines layers a (layer_of lines layers a) refl under))
      ] in
      let last : layer_of lines layers a ≡ layers - 1 = omega arith in
      let next = layer_first-next lines (layers - 1) in
      let from : layer_first lines (layers - 1) ≤ a = rw last at at.from in
      let below : a < layer_first lines (layers - 1 + 1) = rw last at at.below in
      (from, omega arith)

  pub start_roots : (n : ℕ) → HasRoots lines layers (counter_at []) (replicate n 0)
  unfolding counter_at
  start_roots n a inside none = ap root (sym (zeros_at n (a - layer_first lines (layers - 1))))

  -- an access to a block of the top layer raises its counter
  pub step_roots : (counters : Counters) (a : ℕ) (roots : List ℕ) → length roots ≡ layer_count lines (layers - 1)
      → a < layer_first lines layers → parent_of lines layers a ≡ None
      → HasRoots lines layers (counter_at counters) roots
      → HasRoots lines layers (counter_at (after lines layers counters (Access a)))
      (set roots (a - layer_first lines (layers - 1)) ((get_or roots (a - layer_first lines (layers - 1)) 0 + 1) % 2 ^
      64))
  step_roots counters a roots long inside none has b inside_b none_b =
      let place = a - layer_first lines (layers - 1) in
      let next = (get_or roots place 0 + 1) % 2 ^ 64 in
      let here = top_place a inside none in
      let there = top_place b inside_b none_b in
      elim (cases_eq b a) [
        | inl same ↦ subst (λ x. counter_at (after lines layers counters (Access a)) x
            ≡ root (get_or (set roots place next) (x - layer_first lines (layers - 1)) 0)) (sym same) (
            after_at lines layers counters (Access a)
            ∙ ap (λ o. cond (is_none o) (next_group (counter_at counters a)) (next_own (counter_at counters a))) none
            ∙ ap next_group (has a inside none)
            ∙ ap root (sym (get_or-set_same roots place next 0 (omega arith))))
        | inr other ↦ after_other lines layers counters (Access a) b other
            ∙ has b inside_b none_b
            ∙ ap root (sym (get_or-set_other roots place (b - layer_first lines (layers - 1)) next 0
            (λ e. other (omega arith))))
      ]

  -- a change below it leaves them
  pub roots_stay : (counters : Counters) (change : Change) (roots : List ℕ)
      → parent_of lines layers (block_of change) ≢ None
      → HasRoots lines layers (counter_at counters) roots
      → HasRoots lines layers (counter_at (after lines layers counters change)) roots
  roots_stay counters change roots below has b inside none =
      after_other lines layers counters change b (λ e. below (ap (parent_of lines layers) (sym e) ∙ none))
      ∙ has b inside none

  -- and no group move comes before an access there
  pub asked-root : (ic : ℕ) (counters : Counters) (held roots : List ℕ) (a : ℕ) → 1 ≤ ic → a < layer_first lines layers
      → parent_of lines layers a ≡ None → HasRoots lines layers (counter_at counters) roots
      → asked_changes lines layers ic held counters a ≡ Access a ∷ []
  asked-root ic counters held roots a some inside none has =
      let own : (counter_at counters a).own ≡ 0 = ap (λ (c : Counter). c.own) (has a inside none) in
      asked-room lines layers ic counters held a (omega (arith, some_room ic some))
