-- A block that comes to be held, and the block that it displaces, stay shown.
use Rattle.std.proofs.Common.{◌≡◌, ◌≢◌, ℕ, suc, ◌<◌, ◌≤◌, Bool, true, false, List, [], ◌∷◌}
use Rattle.std.proofs.Common.{length, take, slice_get, Option, Some, None, option_map, inl}
use Rattle.std.proofs.Common.{inr}
use Rattle.std.proofs.Common.{refl, sym, ap, ◌∙◌, subst, arith}
use Rattle.std.specs.Prelude.{if◌then◌else◌}
use Rattle.std.specs.Option.{option_map_or}
use Rattle.std.proofs.lemmas.Bool.{cases_Bool}
use Rattle.std.proofs.lemmas.Bool.Decides.{eqb_tells}
use Rattle.std.proofs.lemmas.List.{length-take}
use Rattle.request_plan.specs.Plan.{Ask}
use Rattle.asc_base.specs.TreeShape.{layer_first, children_of}
use Rattle.asc_base.specs.declared.shape.Shape.{Shape}
use Rattle.asc_base.specs.declared.block.Address.{Address}
use Rattle.asc_base.specs.declared.block.Counter.{Counter}
use Rattle.asc_base.specs.declared.block.Line.{Line}
use Rattle.asc_base.proofs.Families.{children_few}
use Rattle.asc_base.proofs.Lookups.{some_is, none_is_not}
use Rattle.posmap_counters.specs.Counters.{Counters, counter_at, is_among}
use Rattle.posmap_counters.specs.Families.{HasCounters, family_line}
use Rattle.posmap_counters.specs.Group.{GroupState, IsGroup, line_in}
use Rattle.posmap_counters.proofs.FamilyLines.{family_only}
use Rattle.posmap_lookaside.specs.Addresses.{used, AreDistinct}
use Rattle.posmap_lookaside.specs.Held.{held_at, inserted, displaced, addresses_of}
use Rattle.posmap_lookaside.specs.Walk.{WalkSizes}
use Rattle.posmap_lookaside.specs.declared.held.Held.{Held}
use Rattle.posmap_lookaside.proofs.AddressLaws.{addresses_of-inserted, addresses_of-displaced}
use Rattle.posmap_lookaside.proofs.AddressLaws.{put_distinct, used_distinct}
use Rattle.posmap_lookaside.proofs.HeldLaws.{inserted_at, inserted_room, inserted_other, inserted_gone, inserted_last}
use Rattle.posmap_lookaside.proofs.Wholes.{length-used}
use Rattle.oram_walk.specs.Memory.{Shown, Displaced, put_line}
use Rattle.oram_walk.specs.Plans.{append_plan, hold_plan}
use Rattle.oram_walk.specs.Request.{Room}
use Rattle.oram_walk.specs.Shows.{IsShown, displaced_by}
use Rattle.oram_walk.proofs.Fresh.{take_out, used_out}
use Rattle.oram_walk.proofs.Played.{Lines, Goes}
use Rattle.oram_walk.proofs.Standing.{Stands, at_number, held_among}
use Rattle.oram_walk.proofs.Visits.{front}

yes_no : true ≡ false → ⊥
yes_no e = cc

-- the lines after the append of what is displaced, and what it shows
abbrev pub appended : Option Held → Lines → Lines
appended None lines = lines
appended (Some last) lines = put_line lines last.address.0 (record { 0 = line_in last.group })

abbrev pub shown_last : Option Held → List Shown
shown_last None = []
shown_last (Some last) = Displaced last.address.0 last.counter (record { 0 = line_in last.group }) ∷ []

-- a block comes to be held
pub hold_goes : (cycles : ℕ) (shape : Shape) (ic plb : ℕ) (roots : List ℕ) (held : List Held) (block : Held)
    (lines : Lines)
    → Goes cycles (hold_plan (front cycles shape ic plb roots held) block) lines
    (shown_last (displaced plb block held)) (appended (displaced plb block held) lines)
    (front cycles shape ic plb roots (inserted plb block held)) tt
hold_goes cycles shape ic plb roots held block lines = by (displaced plb block held)
  where
    by : (d : Option Held)
        → Goes cycles (Ask Room (front cycles shape ic plb roots held)
        (λ _. append_plan d (front cycles shape ic plb roots (inserted plb block held)))) lines (shown_last d)
        (appended d lines) (front cycles shape ic plb roots (inserted plb block held)) tt
    by None = record { shows = refl; ends = refl }
    by (Some last) = record { shows = refl; ends = refl }

module _ (shape : Shape) (plb : ℕ) where
  -- What every list of held addresses is, during a walk.
  pub record AreHeld (list : List ℕ) : Type 0 where
    pub distinct : AreDistinct list
    pub fits : length list ≤ plb
    pub blocks : (a : ℕ) → is_among list a ≡ true → (a < layer_first shape.lines shape.layers)
        × (family : ℕ × ℕ) × (children_of shape.lines shape.layers a ≡ Some family)

  -- a block is used, and a block is put in front
  pub used_held : (list : List ℕ) (a : ℕ) → AreHeld list → AreHeld (used list a)
  used_held list a h = record {
    distinct = used_distinct list a h.distinct;
    fits = omega (arith, h.fits, length-used list a);
    blocks = λ x there. elim (cases_Bool (is_among list x)) [
      | inl was ↦ h.blocks x was
      | inr none ↦ absurd (yes_no (sym there ∙ used_out list a x none))
    ];
  }

  pub put_held : (list : List ℕ) (a : ℕ) → a < layer_first shape.lines shape.layers
      → (family : ℕ × ℕ) × (children_of shape.lines shape.layers a ≡ Some family) → is_among list a ≡ false
      → AreHeld list → AreHeld (take plb (a ∷ list))
  put_held list a low family absent h = record {
    distinct = put_distinct plb list a absent h.distinct;
    fits = omega (arith, length-take plb (a ∷ list));
    blocks = λ x there. elim (eqb_tells a x) [
      | inl same ↦ subst (λ y. (y < layer_first shape.lines shape.layers)
          × (family : ℕ × ℕ) × (children_of shape.lines shape.layers y ≡ Some family)) same.1 (low, family.0, family.1)
      | inr other ↦ elim (cases_Bool (is_among list x)) [
        | inl was ↦ h.blocks x was
        | inr none ↦ absurd (yes_no (sym there ∙ take_out plb (a ∷ list) x (rw (other.0, none) refl)))
      ]
    ];
  }

  module _ (some : 1 ≤ plb) (b : ℕ) (block : Held) (is_b : block.address ≡ record { 0 = b }) (roots : List ℕ)
      (held : List Held) (lines : Lines) (list : List ℕ) (counters : Counters)
      (s : Stands shape None roots held lines list counters) (h : AreHeld list) (absent : is_among list b ≡ false) where
    here : held_at (inserted plb block held) (record { 0 = b }) ≡ Some block
    here = subst (λ (a : Address). held_at (inserted plb block held) a ≡ Some block) is_b
        (inserted_at plb block held some)

    held_fits : length held ≤ plb
    held_fits = omega (arith, h.fits, ap length s.held_is, length-addresses held)
      where
        length-addresses : (xs : List Held) → length (addresses_of xs) ≡ length xs
        length-addresses [] = refl
        length-addresses (x ∷ xs) = ap suc (length-addresses xs)

    held_distinct : AreDistinct (addresses_of held)
    held_distinct = subst AreDistinct (sym s.held_is) h.distinct

    held_absent : is_among (addresses_of held) block.address.0 ≡ false
    held_absent = ap (λ l. is_among l block.address.0) s.held_is
        ∙ ap (λ (a : Address). is_among list a.0) is_b ∙ absent

    -- another block than the one that is put in front
    apart_block : (a : Address) → a.0 ≢ b → a.0 ≢ block.address.0
    apart_block a other e = other (e ∙ ap (λ (x : Address). x.0) is_b)

    -- what is displaced is shown under its counter, with its family's line
    pub last_shown : (sizes : WalkSizes) → sizes.lines ≡ shape.lines → sizes.layers ≡ shape.layers
        → shown_last (displaced plb block held)
        ≡ option_map_or (λ last. displaced_by sizes (counter_at counters) last ∷ []) (slice_get (b ∷ list) plb) []
    last_shown sizes lines_are layers_are =
        by (displaced plb block held) refl
        ∙ ap (λ (o : Option ℕ). option_map_or (λ last. displaced_by sizes (counter_at counters) last ∷ []) o [])
        (addresses_of-displaced plb block held
        ∙ ap (λ (a : Address). slice_get (a.0 ∷ addresses_of held) plb) is_b
        ∙ ap (λ l. slice_get (b ∷ l) plb) s.held_is)
      where
        by : (d : Option Held) → displaced plb block held ≡ d
            → shown_last d ≡ option_map_or (λ last. displaced_by sizes (counter_at counters) last ∷ [])
            (option_map (λ (x : Held). x.address.0) d) []
        by None e = refl
        by (Some last) e =
            let at = inserted_last plb block last held some held_fits e held_distinct held_absent in
            let among = held_among shape held list last.address last s.held_is at in
            let is = h.blocks last.address.0 among in
            let first : ℕ = (is.1).0 in
            let number : ℕ = (is.1).1 in
            let children : children_of shape.lines shape.layers last.address.0 ≡ Some (first, number) = is.2 in
            let shown = subst (λ (o : Option Held). IsShown o (lines last.address.0) (counter_at counters) first number)
            at (s.groups_are last.address first number is.0 (λ f. none_is_not f) children) in
            let few = children_few shape.lines shape.layers last.address.0 first number is.0 children in
            let group = family_only (counter_at counters) first number last.group few.0 (shown.0).children shown.1 in
            let family : children_of sizes.lines sizes.layers last.address.0 ≡ Some (first, number) =
            ap (λ n. children_of n sizes.layers last.address.0) lines_are
            ∙ ap (λ n. children_of shape.lines n last.address.0) layers_are ∙ children in
            ap (λ (c : Counter). Displaced last.address.0 c (record { 0 = line_in last.group }) ∷ [])
            (s.counters_are last.address last at)
            ∙ ap (λ (g : GroupState). Displaced last.address.0 (counter_at counters last.address.0)
            (record { 0 = line_in g }) ∷ []) group
            ∙ ap (λ (o : Option (ℕ × ℕ)). Displaced last.address.0 (counter_at counters last.address.0)
            (record { 0 = option_map_or (family_line (counter_at counters)) o [] }) ∷ []) (sym family)

    -- the counter of another block that is held after it
    other_counter : (d : Option Held) → displaced plb block held ≡ d → (a : Address) (found : Held) → a.0 ≢ b
        → held_at (inserted plb block held) a ≡ Some found → found.counter ≡ counter_at counters a.0
    other_counter None e a found other at =
        s.counters_are a found (sym (inserted_room plb block held a e (apart_block a other)) ∙ at)
    other_counter (Some last) e a found other at =
        elim (eqb_tells a.0 last.address.0) [
          | inl same ↦
              (let gone = inserted_gone plb block last held held_fits e held_distinct held_absent in
              absurd (none_is_not (sym gone
              ∙ ap (held_at (inserted plb block held)) (sym (at_number a last.address same.1)) ∙ at)))
          | inr kept ↦
              s.counters_are a found
              (sym (inserted_other plb block last held a held_fits e (apart_block a other) kept.1) ∙ at)
        ]

    -- and the family of another block
    other_group : (d : Option Held) → displaced plb block held ≡ d → (a : Address) (first number : ℕ)
        → a.0 < layer_first shape.lines shape.layers
        → children_of shape.lines shape.layers a.0 ≡ Some (first, number) → a.0 ≢ b
        → IsShown (held_at (inserted plb block held) a) (appended d lines a.0) (counter_at counters) first number
    other_group None e a first number low children other =
        subst (λ (o : Option Held). IsShown o (lines a.0) (counter_at counters) first number)
        (sym (inserted_room plb block held a e (apart_block a other)))
        (s.groups_are a first number low (λ f. none_is_not f) children)
    other_group (Some last) e a first number low children other =
        elim (eqb_tells a.0 last.address.0) [
          | inl same ↦
              let at = inserted_last plb block last held some held_fits e held_distinct held_absent in
              let was : held_at held a ≡ Some last =
              ap (held_at held) (at_number a last.address same.1) ∙ at in
              let gone : held_at (inserted plb block held) a ≡ None =
              ap (held_at (inserted plb block held)) (at_number a last.address same.1)
              ∙ inserted_gone plb block last held held_fits e held_distinct held_absent in
              let shown = subst (λ (o : Option Held). IsShown o (lines a.0) (counter_at counters) first number) was
              (s.groups_are a first number low (λ f. none_is_not f) children) in
              subst (λ (o : Option Held). IsShown o (appended (Some last) lines a.0) (counter_at counters) first number)
              (sym gone) (
                last.group,
                shown.0,
                shown.1,
                ap (λ (t : Bool). (if t then (let x : Line = record { 0 = line_in last.group } in x) else lines a.0).0)
                    same.0,
              )
          | inr kept ↦
              subst (λ (o : Option Held). IsShown o (appended (Some last) lines a.0) (counter_at counters) first number)
              (sym (inserted_other plb block last held a held_fits e (apart_block a other) kept.1))
              (subst (λ (l : Line). IsShown (held_at held a) l (counter_at counters) first number)
              (sym
              (ap (λ (t : Bool). if t then (let x : Line = record { 0 = line_in last.group } in x) else lines a.0)
              kept.0)) (s.groups_are a first number low (λ f. none_is_not f) children))
        ]

    -- and all stays shown
    pub inserted_stands : block.counter ≡ counter_at counters b → IsGroup block.group
        → ((first number : ℕ) → children_of shape.lines shape.layers b ≡ Some (first, number)
        → HasCounters (counter_at counters) first number block.group)
        → Stands shape None roots (inserted plb block held) (appended (displaced plb block held) lines)
        (take plb (b ∷ list)) counters
    inserted_stands is_counter is_group has = by (displaced plb block held) refl
      where
        by : (d : Option Held) → displaced plb block held ≡ d
            → Stands shape None roots (inserted plb block held) (appended d lines) (take plb (b ∷ list)) counters
        by d e = record {
          many = s.many;
          held_is = addresses_of-inserted plb block held
              ∙ ap (λ (a : Address). take plb (a.0 ∷ addresses_of held)) is_b ∙ ap (λ l. take plb (b ∷ l)) s.held_is;
          roots_are = s.roots_are;
          counters_are = λ a found at. elim (eqb_tells a.0 b) [
            | inl same ↦
                let one : block ≡ found = some_is (sym here
                ∙ ap (held_at (inserted plb block held)) (sym (at_number a (record { 0 = b }) same.1)) ∙ at) in
                ap (λ (x : Held). x.counter) (sym one) ∙ is_counter ∙ ap (counter_at counters) (sym same.1)
            | inr other ↦ other_counter d e a found other.1 at
          ];
          groups_are = λ a first number low apart children. elim (eqb_tells a.0 b) [
            | inl same ↦
                let at : held_at (inserted plb block held) a ≡ Some block =
                ap (held_at (inserted plb block held)) (at_number a (record { 0 = b }) same.1) ∙ here in
                subst (λ (o : Option Held). IsShown o (appended d lines a.0)
                (counter_at counters) first number) (sym at)
                (is_group, has first number (ap (children_of shape.lines shape.layers) (sym same.1) ∙ children))
            | inr other ↦ other_group d e a first number low children other.1
          ];
        }

    -- a block that wasn't held keeps its line
    pub appended_same : (x : ℕ) → is_among list x ≡ false → appended (displaced plb block held) lines x ≡ lines x
    appended_same x out = by (displaced plb block held) refl
      where
        by : (d : Option Held) → displaced plb block held ≡ d → appended d lines x ≡ lines x
        by None e = refl
        by (Some last) e =
            elim (eqb_tells x last.address.0) [
              | inl same ↦ absurd (yes_no (sym (held_among shape held list last.address last s.held_is
                  (inserted_last plb block last held some held_fits e held_distinct held_absent))
                  ∙ ap (is_among list) (sym same.1) ∙ out))
              | inr other ↦
                  ap (λ (t : Bool). if t then (let y : Line = record { 0 = line_in last.group }
                  in y) else lines x) other.0
            ]
