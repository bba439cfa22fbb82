-- The walk's refills over a memory: the plans show the walk's accesses and the blocks that these displace.
use Rattle.std.proofs.Common.{◌≡◌, ◌≢◌, ℕ, zero, suc, ◌+◌, ◌/◌, ◌<◌, ◌≤◌, Bool, true, false, cond, not, nat_le, ◌^◌}
use Rattle.std.proofs.Common.{◌-◌}
use Rattle.std.proofs.Common.{List, [], ◌∷◌, ◌++◌, map, take, reverse, slice_get, Option, Some, None}
use Rattle.std.proofs.Common.{option_map, is_some, inl, inr, refl, sym, ap, ◌∙◌, subst, arith, append-nil, append_assoc}
use Rattle.std.specs.Prelude.{if◌then◌else◌}
use Rattle.std.specs.List.{flat_map}
use Rattle.std.specs.Option.{option_map_or}
use Rattle.std.proofs.lemmas.Bool.{cases_eq, cases_Bool}
use Rattle.std.proofs.lemmas.Grind.{flat_map-append}
use Rattle.std.proofs.lemmas.List.{reverse-append}
use Rattle.std.proofs.lemmas.List.Sums.{take_while-cons}
use Rattle.request_plan.specs.Plan.{Done}
use Rattle.asc_base.specs.TreeShape.{layer_first, layer_of, index_of, parent_of, children_of}
use Rattle.asc_base.specs.declared.shape.Shape.{Shape}
use Rattle.asc_base.specs.declared.block.Address.{Address}
use Rattle.asc_base.proofs.Families.{child_of_parent, parent_above}
use Rattle.asc_base.proofs.Layers.{layer_of-lt, layer_of_is, index_of-lt, layer_first-next}
use Rattle.asc_base.proofs.Layers.{layer_count-next}
use Rattle.asc_base.proofs.Layers.{parent_of-top, parent_of-below}
use Rattle.asc_base.proofs.Lookups.{find-yes, find-no, some_is, none_is_not}
use Rattle.posmap_counters.specs.Counters.{Counters, counter_at, Change, Access, MoveChild, RenumberChild, child_move}
use Rattle.posmap_counters.specs.Counters.{after, after_all, asked_changes, group_move, siblings, is_among}
use Rattle.posmap_counters.specs.Families.{HasCounters}
use Rattle.posmap_counters.specs.Group.{GroupState, IsGroup, group_in}
use Rattle.posmap_counters.proofs.FamilyLines.{read_line}
use Rattle.posmap_lookaside.specs.Addresses.{used}
use Rattle.posmap_lookaside.specs.Held.{held_at, promoted, inserted, displaced, addresses_of}
use Rattle.posmap_lookaside.specs.Walk.{WalkAccess, WalkSizes, OnChip, Walked, Purpose as WalkPurpose}
use Rattle.posmap_lookaside.specs.Walk.{Refill as Refills, ancestors, accesses_of_all, refill, missing, looked_up}
use Rattle.posmap_lookaside.specs.declared.held.Held.{Held}
use Rattle.posmap_lookaside.proofs.AddressLaws.{is_some-held_at}
use Rattle.posmap_lookaside.proofs.HeldLaws.{inserted_at, promoted_keeps}
use Rattle.oram_walk.specs.Front.{FrontState, with_held, counter_in}
use Rattle.oram_walk.specs.Memory.{Shown, Accessed}
use Rattle.oram_walk.specs.Plans.{FrontPlan, on, visit_plan, hold_plan, refilled, refill_plan, found_plan, walk_plan}
use Rattle.oram_walk.specs.Shows.{IsShown, put_of, displaced_by, found_line, shown_by}
use Rattle.oram_walk.specs.declared.slots.Purpose.{Purpose}
use Rattle.oram_walk.specs.declared.slots.Purpose.TheVariants.{Refill, Keep}
use Rattle.oram_walk.specs.declared.slots.Seen.{Seen}
use Rattle.oram_walk.proofs.Fresh.{take_out, front_out, used_out}
use Rattle.oram_walk.proofs.Played.{Lines, Goes, goes_on}
use Rattle.oram_walk.proofs.Refills.{appended, shown_last, hold_goes, AreHeld, used_held, put_held, last_shown}
use Rattle.oram_walk.proofs.Refills.{inserted_stands, appended_same}
use Rattle.oram_walk.proofs.Standing.{Stands, held_among, not_held, used_stands}
use Rattle.oram_walk.proofs.Visits.{front, shown_all, HasParent, Visited, visit_goes}
use Rattle.oram_walk.proofs.Visits.{counter_under_parent, counter_of_root, has_group, under_of}
use Rattle.oram_walk.proofs.WalkLists.{absent_used}

module _ (cycles : ℕ) (shape : Shape) (ic plb : ℕ) (put : Purpose) where
  abbrev pub sizes : WalkSizes
  sizes = record { lines = shape.lines; layers = shape.layers; plb = plb; ic = ic }

  abbrev pub chip_of : List ℕ → Counters → OnChip
  chip_of list counters = record { held = list; counters = counters }

  abbrev pub shown_of : Lines → List WalkAccess → List Shown
  shown_of lines accesses = flat_map (shown_by sizes lines put) accesses

  -- what is shown of a displaced block
  abbrev pub last_of : Counters → Option ℕ → List Shown
  last_of counters last = option_map_or (λ a. displaced_by sizes (counter_at counters) a ∷ []) last []

  -- memories with the same data lines
  abbrev pub SameData : Lines → Lines → Type 0
  SameData lines lines' = (a : ℕ) → children_of shape.lines shape.layers a ≡ None → lines' a ≡ lines a

  -- of which the same is shown
  pub same_shown : (lines lines' : Lines) → SameData lines lines' → (accesses : List WalkAccess)
      → shown_of lines' accesses ≡ shown_of lines accesses
  same_shown lines lines' same [] = refl
  same_shown lines lines' same (access ∷ more) =
      ap (λ line. Accessed access.address access.counter (counter_at access.counters access.address)
      (put_of put access.purpose) line ∷ last_of access.counters access.displaced ++ shown_of lines' more)
      (by (children_of shape.lines shape.layers access.address) refl)
      ∙ ap (λ later. shown_by sizes lines put access ++ later) (same_shown lines lines' same more)
    where
      by : (o : Option (ℕ × ℕ)) → children_of shape.lines shape.layers access.address ≡ o
          → found_line sizes (counter_at access.counters) lines' access.address
          ≡ found_line sizes (counter_at access.counters) lines access.address
      by None none = rw none (same access.address none)
      by (Some family) children = rw children refl

  -- the accesses of changes show what the changes say, and then the displaced block
  abbrev pub AreShown : Lines → WalkPurpose → Option ℕ → Counters → List Change → Type 0
  AreShown lines purpose last counters changes =
      shown_of lines (accesses_of_all sizes purpose last counters changes)
      ≡ shown_all cycles shape ic plb lines (put_of put purpose) counters changes
      ++ last_of (after_all shape.lines shape.layers counters changes) last

  accesses_shown : (lines : Lines) (purpose : WalkPurpose) (last : Option ℕ) (list : List ℕ) (counters : Counters)
      (b : ℕ) (xs : List ℕ) → AreShown lines purpose last counters (map (child_move list) xs ++ Access b ∷ [])
  unfolding accesses_of_all after_all
  accesses_shown lines purpose last list counters b [] =
      let now : Counters = after shape.lines shape.layers counters (Access b) in
      ap (λ shown. Accessed b (counter_at counters b) (counter_at now b) (put_of put purpose)
      (found_line sizes (counter_at now) lines b) ∷ shown)
      (append-nil (last_of (after shape.lines shape.layers counters (Access b)) last))
  accesses_shown lines purpose last list counters b (x ∷ xs) =
      by (is_among list x) (λ now. accesses_shown lines purpose last list now b xs)
    where
      by : (is : Bool)
          → ((now : Counters) → AreShown lines purpose last now (map (child_move list) xs ++ Access b ∷ []))
          → AreShown lines purpose last counters
          ((if is then RenumberChild x else MoveChild x) ∷ (map (child_move list) xs ++ Access b ∷ []))
      by true again = again (after shape.lines shape.layers counters (RenumberChild x))
      by false again =
          let now : Counters = after shape.lines shape.layers counters (MoveChild x) in
          ap (λ shown. Accessed x (counter_at counters x) (counter_at now x) Keep
          (found_line sizes (counter_at now) lines x) ∷ shown) (again now)

  -- changes that are asked for are those of a group move, if any, and the access
  asked_form : (list : List ℕ) (counters : Counters) (b : ℕ)
      → (xs : List ℕ) × (asked_changes shape.lines shape.layers ic list counters b
      ≡ map (child_move list) xs ++ Access b ∷ [])
  unfolding asked_changes group_move
  asked_form list counters b = by (nat_le (2 ^ ic - 1) (counter_at counters b).own)
    where
      by : (full : Bool) → (xs : List ℕ) × ((if full then group_move shape.lines shape.layers list b ++ Access b ∷ []
          else Access b ∷ []) ≡ map (child_move list) xs ++ Access b ∷ [])
      by true = (siblings shape.lines shape.layers b, refl)
      by false = ([], refl)

  pub asked_shown : (lines : Lines) (purpose : WalkPurpose) (last : Option ℕ) (list : List ℕ) (counters : Counters)
      (b : ℕ) → AreShown lines purpose last counters (asked_changes shape.lines shape.layers ic list counters b)
  asked_shown lines purpose last list counters b =
      let form = asked_form list counters b in
      subst (AreShown lines purpose last counters) (sym form.1)
      (accesses_shown lines purpose last list counters b (form.0))

  -- a block that is in the list is held
  among_held : (held : List Held) (list : List ℕ) (q : ℕ) → addresses_of held ≡ list → is_among list q ≡ true
      → (block : Held) × (held_at held (record { 0 = q }) ≡ Some block)
  among_held held list q same there =
      by (held_at held (record { 0 = q })) refl
      (is_some-held_at held (record { 0 = q }) ∙ ap (λ l. is_among l q) same ∙ there)
    where
      by : (o : Option Held) → held_at held (record { 0 = q }) ≡ o → is_some o ≡ true
          → (block : Held) × (held_at held (record { 0 = q }) ≡ Some block)
      by None at none = absurd (cc)
      by (Some block) at some = (block, at)

  -- the counter that the front end shows
  known : (b : ℕ) (roots : List ℕ) (held : List Held) (lines : Lines) (list : List ℕ) (counters : Counters)
      → b < layer_first shape.lines shape.layers → HasParent cycles shape ic plb held b
      → Stands shape None roots held lines list counters
      → counter_in (front cycles shape ic plb roots held) (record { 0 = b }) ≡ counter_at counters b
  known b roots held lines list counters low parent s = by (parent_of shape.lines shape.layers b) refl
    where
      by : (o : Option ℕ) → parent_of shape.lines shape.layers b ≡ o
          → counter_in (front cycles shape ic plb roots held) (record { 0 = b }) ≡ counter_at counters b
      by None top = counter_of_root cycles shape ic plb b roots held counters top low s.roots_are
      by (Some p) above =
          let found = parent p above in
          let u = under_of cycles shape ic plb b p held (found.0) low above found.1 in
          counter_under_parent cycles shape ic plb b p (u.0) (u.1) (found.0) roots held lines list counters u.2
          (has_group cycles shape ic plb b p (u.0) (u.1) held (found.0) roots lines list counters u.2 s).1

  -- What a refill leaves.
  pub record Refilled (b : ℕ) (roots : List ℕ) (held : List Held) (lines : Lines) (list : List ℕ) (counters : Counters)
      (asked : ℕ) : Type 0 where
    pub roots' : List ℕ
    pub later : List Held
    pub lines' : Lines
    pub end : ℕ
    pub goes : Goes cycles (refill_plan (front cycles shape ic plb roots held) asked (record { 0 = b })) lines
        (shown_of lines (refill sizes (chip_of list counters) b).accesses) lines'
        (front cycles shape ic plb roots' later) end
    pub stands : Stands shape None roots' later lines' (take plb (b ∷ list))
        (after_all shape.lines shape.layers counters (asked_changes shape.lines shape.layers ic list counters b))
    pub at : (block : Held) × (held_at later (record { 0 = b }) ≡ Some block)
    pub same : (x : ℕ) → is_among list x ≡ false → lines' x ≡ lines x

  pub refill_goes : (b : ℕ) (roots : List ℕ) (held : List Held) (lines : Lines) (list : List ℕ) (counters : Counters)
      (asked : ℕ) → 1 ≤ ic → ic ≤ 14 → 1 ≤ plb → b < layer_first shape.lines shape.layers
      → (family : ℕ × ℕ) × (children_of shape.lines shape.layers b ≡ Some family)
      → HasParent cycles shape ic plb held b → is_among list b ≡ false → AreHeld shape plb list
      → Stands shape None roots held lines list counters
      → Refilled b roots held lines list counters asked
  refill_goes b roots held lines list counters asked bits bits_to some low family parent absent h s =
      let visited : Visited cycles shape ic plb Refill b roots held lines list counters asked =
      visit_goes cycles shape ic plb Refill b roots held lines list counters asked bits bits_to low parent absent
      (λ a first number children. refl) s in
      let now : Counters =
      after_all shape.lines shape.layers counters (asked_changes shape.lines shape.layers ic list counters b) in
      let state : FrontState = front cycles shape ic plb visited.roots' visited.later in
      let address : Address = record { 0 = b } in
      let block : Held = refilled state address (lines b) in
      let seen : Seen = record { line = lines b; end = visited.end } in
      let still : HasParent cycles shape ic plb visited.later b =
      λ p above. among_held visited.later list p visited.stands.held_is
      (held_among shape held list (record { 0 = p }) ((parent p above).0) s.held_is (parent p above).1) in
      let none : held_at visited.later address ≡ None =
      not_held shape visited.later list b visited.stands.held_is absent in
      let group : (first number : ℕ) → children_of shape.lines shape.layers b ≡ Some (first, number)
      → IsGroup block.group × HasCounters (counter_at now) first number block.group =
      λ first number children.
      let shown = subst (λ (o : Option Held). IsShown o (lines b) (counter_at now) first number) none
      (visited.stands.groups_are address first number low (λ e. none_is_not e) children) in
      let is : block.group ≡ shown.0 = ap group_in shown.3 ∙ read_line (shown.0) shown.1 in
      subst (λ (g : GroupState). IsGroup g × HasCounters (counter_at now) first number g) (sym is) (shown.1, shown.2) in
      let is_counter = known b visited.roots' visited.later lines list now low still visited.stands in
      let last : Option Held = displaced plb block visited.later in
      let lines' : Lines = appended last lines in
      let later : List Held = inserted plb block visited.later in
      let held_it = inserted_stands shape plb some b block refl visited.roots' visited.later lines list
      now visited.stands
      h absent is_counter (group ((family.0).0) ((family.0).1) family.1).0
      (λ first number children. (group first number children).1) in
      let shows : shown_all cycles shape ic plb lines Refill counters
      (asked_changes shape.lines shape.layers ic list counters b) ++ (shown_last last ++ [])
      ≡ shown_of lines (refill sizes (chip_of list counters) b).accesses =
      ap (λ x. shown_all cycles shape ic plb lines Refill counters
      (asked_changes shape.lines shape.layers ic list counters b) ++ x)
      (append-nil (shown_last last)
      ∙ last_shown shape plb some b block refl visited.roots' visited.later lines list now visited.stands h absent sizes
      refl refl)
      ∙ sym (asked_shown lines Refills (slice_get (b ∷ list) plb) list counters b) in
      record {
        roots' = visited.roots';
        later = later;
        lines' = lines';
        end = visited.end;
        goes = subst
            (λ shown. Goes cycles (refill_plan (front cycles shape ic plb roots held) asked address) lines shown
            lines' (front cycles shape ic plb visited.roots' later) visited.end) shows
            (goes_on cycles (visit_plan (front cycles shape ic plb roots held) asked address Refill)
            (λ later seen. on (hold_plan later (refilled later address seen.line)) (λ last _. Done (last, seen.end)))
            lines lines lines'
            (shown_all cycles shape ic plb lines Refill counters
            (asked_changes shape.lines shape.layers ic list counters b)) (shown_last last ++ []) state
            (front cycles shape ic plb visited.roots' later) seen visited.end visited.goes
            (goes_on cycles (hold_plan state block) (λ last _. Done (last, seen.end)) lines lines' lines'
            (shown_last last) [] (front cycles shape ic plb visited.roots' later)
            (front cycles shape ic plb visited.roots' later) tt visited.end
            (hold_goes cycles shape ic plb visited.roots' visited.later block lines)
            (record { shows = refl; ends = refl })));
        stands = held_it;
        at = (block, inserted_at plb block visited.later some);
        same = appended_same shape plb some b block refl visited.roots' visited.later lines list now visited.stands h
            absent;
      }

  -- the walk's refills alone
  abbrev pub descended : List ℕ → OnChip → Walked
  descended [] chip = record { accesses = []; chip = chip }
  descended (a ∷ below) chip =
      let first = refill sizes chip a in
      let rest = descended below first.chip in
      record { accesses = first.accesses ++ rest.accesses; chip = rest.chip }

  -- one refill more at the end
  abbrev pub one_more : Walked → ℕ → Walked
  one_more walked a =
      let last = refill sizes walked.chip a in
      record { accesses = walked.accesses ++ last.accesses; chip = last.chip }

  descended-last : (below : List ℕ) (a : ℕ) (chip : OnChip)
      → descended (below ++ a ∷ []) chip ≡ one_more (descended below chip) a
  descended-last [] a chip =
      ap (λ accesses. let w : Walked = record { accesses = accesses; chip = (refill sizes chip a).chip } in w)
      (append-nil (refill sizes chip a).accesses)
  descended-last (b ∷ below) a chip =
      let first : Walked = refill sizes chip b in
      let rest : Walked = descended below first.chip in
      ap (λ (w : Walked).
      let z : Walked = record { accesses = first.accesses ++ w.accesses; chip = w.chip } in z)
      (descended-last below a first.chip)
      ∙ ap (λ accesses.
      let w : Walked = record { accesses = accesses; chip = (refill sizes rest.chip a).chip } in w)
      (sym (append_assoc first.accesses rest.accesses (refill sizes rest.chip a).accesses))

  -- the walk's refills on the way to a block
  abbrev pub climbed : List ℕ → OnChip → Walked
  climbed above chip =
      descended (reverse (missing chip.held above)) (chip_of (looked_up chip.held above) chip.counters)

  climbed-found : (p : ℕ) (rest : List ℕ) (list : List ℕ) (counters : Counters) → is_among list p ≡ true
      → climbed (p ∷ rest) (chip_of list counters) ≡ record { accesses = []; chip = chip_of (used list p) counters }
  climbed-found p rest list counters there =
      let none : missing list (p ∷ rest) ≡ [] =
      take_while-cons (λ a. not (is_among list a)) p rest
      ∙ ap (λ b. cond (not b) (p ∷ missing list rest) []) there in
      ap (λ below. descended (reverse below) (chip_of (looked_up list (p ∷ rest)) counters)) none
      ∙ ap (λ (found : Option ℕ).
      let w : Walked = record { accesses = []; chip = chip_of (option_map_or (used list) found list) counters } in w)
      (find-yes (is_among list) p rest there)

  climbed-missing : (p : ℕ) (rest : List ℕ) (list : List ℕ) (counters : Counters) → is_among list p ≡ false
      → climbed (p ∷ rest) (chip_of list counters) ≡ one_more (climbed rest (chip_of list counters)) p
  climbed-missing p rest list counters absent =
      let more : missing list (p ∷ rest) ≡ p ∷ missing list rest =
      take_while-cons (λ a. not (is_among list a)) p rest
      ∙ ap (λ b. cond (not b) (p ∷ missing list rest) []) absent in
      ap (λ below. descended (reverse below) (chip_of (looked_up list (p ∷ rest)) counters)) more
      ∙ ap (λ below. descended below (chip_of (looked_up list (p ∷ rest)) counters))
      (reverse-append (p ∷ []) (missing list rest))
      ∙ descended-last (reverse (missing list rest)) p (chip_of (looked_up list (p ∷ rest)) counters)
      ∙ ap (λ (found : Option ℕ).
      one_more (descended (reverse (missing list rest))
      (chip_of (option_map_or (used list) found list) counters)) p) (find-no (is_among list) p rest absent)

  -- a block has so many ancestors at most
  abbrev pub Reaches : ℕ → ℕ → Type 0
  Reaches zero b = parent_of shape.lines shape.layers b ≡ None
  Reaches (suc above) b = (p : ℕ) → parent_of shape.lines shape.layers b ≡ Some p → Reaches above p

  -- What the walk to a block leaves.
  pub record Climbs (plan : FrontPlan ℕ) (walked : Walked) (b : ℕ) (lines : Lines) (list : List ℕ) : Type 0 where
    pub roots' : List ℕ
    pub later : List Held
    pub lines' : Lines
    pub end : ℕ
    pub goes : Goes cycles plan lines (shown_of lines walked.accesses) lines'
        (front cycles shape ic plb roots' later) end
    pub stands : Stands shape None roots' later lines' walked.chip.held walked.chip.counters
    pub are : AreHeld shape plb walked.chip.held
    pub out : (x : ℕ) → x ≤ b → is_among list x ≡ false → is_among walked.chip.held x ≡ false
    pub same : (x : ℕ) → x ≤ b → is_among list x ≡ false → lines' x ≡ lines x
    pub stored : SameData lines lines'
    pub parent : HasParent cycles shape ic plb later b

  -- a parent is one layer further up
  parent_layer : (b p : ℕ) → b < layer_first shape.lines shape.layers → parent_of shape.lines shape.layers b ≡ Some p
      → layer_of shape.lines shape.layers p ≡ layer_of shape.lines shape.layers b + 1
  parent_layer b p low above =
      let layer : ℕ = layer_of shape.lines shape.layers b in
      let less = layer_of-lt shape.lines shape.layers b low in
      let index = index_of-lt shape.lines shape.layers b low in
      elim (cases_eq (layer + 1) shape.layers) [
        | inl top ↦ absurd (none_is_not (sym (parent_of-top shape.lines shape.layers b layer refl top) ∙ above))
        | inr under ↦
            let place : p ≡ layer_first shape.lines (layer + 1) + index_of shape.lines shape.layers b / 32 =
            some_is (sym above ∙ parent_of-below shape.lines shape.layers b layer refl under) in
            layer_of_is shape.lines shape.layers (layer + 1) p (omega arith) (record {
              from = omega arith;
              below = omega (
                arith,
                place,
                index.0,
                layer_count-next shape.lines layer,
                layer_first-next shape.lines (layer + 1),
              );
            })
      ]

  -- so there are no more ancestors than layers
  pub reaches : (above b : ℕ) → b < layer_first shape.lines shape.layers
      → shape.layers ≤ layer_of shape.lines shape.layers b + above + 1 → Reaches above b
  reaches zero b low enough =
      let less = layer_of-lt shape.lines shape.layers b low in
      parent_of-top shape.lines shape.layers b (layer_of shape.lines shape.layers b) refl (omega arith)
  reaches (suc above) b low enough =
      λ p parent. reaches above p (parent_above shape.lines shape.layers b p low parent).1
      (omega (arith, parent_layer b p low parent))

  -- what is held has children
  childless : (a : ℕ) (list : List ℕ) → children_of shape.lines shape.layers a ≡ None → AreHeld shape plb list
      → is_among list a ≡ false
  childless a list none are = elim (cases_Bool (is_among list a)) [
    | inl there ↦ absurd (none_is_not (sym none ∙ (are.blocks a there).2))
    | inr absent ↦ absent
  ]

  -- the parent is held, or it is refilled after the walk to it
  climb_test : (above b p : ℕ) (is : Bool) (roots : List ℕ) (held : List Held) (lines : Lines) (list : List ℕ)
      (counters : Counters) (asked : ℕ) → 1 ≤ ic → ic ≤ 14 → 1 ≤ plb → b < layer_first shape.lines shape.layers
      → parent_of shape.lines shape.layers b ≡ Some p → is_among list p ≡ is
      → AreHeld shape plb list → Stands shape None roots held lines list counters
      → Climbs (walk_plan above (front cycles shape ic plb roots (promoted held (record { 0 = p }))) asked
      (record { 0 = p })) (climbed (ancestors sizes above p) (chip_of (used list p) counters)) p lines (used list p)
      → Climbs (found_plan is (front cycles shape ic plb roots (promoted held (record { 0 = p }))) asked
      (on (walk_plan above (front cycles shape ic plb roots (promoted held (record { 0 = p }))) asked
      (record { 0 = p })) (λ later end. refill_plan later end (record { 0 = p }))))
      (climbed (p ∷ ancestors sizes above p) (chip_of list counters)) b lines list
  climb_test above b p true roots held lines list counters asked bits bits_to some low parent there h s again =
      subst (λ (w : Walked). Climbs
      (Done (front cycles shape ic plb roots (promoted held (record { 0 = p })), asked)) w b lines list)
      (sym (climbed-found p (ancestors sizes above p) list counters there)) (record {
        roots' = roots;
        later = promoted held (record { 0 = p });
        lines' = lines;
        end = asked;
        goes = record { shows = refl; ends = refl };
        stands = used_stands shape (record { 0 = p }) roots held lines list counters s;
        are = used_held shape plb list p h;
        out = λ x below absent. used_out list p x absent;
        same = λ x below absent. refl;
        stored = λ a none. refl;
        parent = λ q above.
            let same : p ≡ q = some_is (sym parent ∙ above) in
            let found = among_held held list p s.held_is there in
            subst (λ r. (block : Held) × (held_at (promoted held (record { 0 = p })) (record { 0 = r }) ≡ Some block))
            same (found.0, promoted_keeps held (record { 0 = p }) (record { 0 = p }) ∙ found.1);
      })
  climb_test above b p false roots held lines list counters asked bits bits_to some low parent absent h s again =
      let start : FrontState = front cycles shape ic plb roots (promoted held (record { 0 = p })) in
      let walked : Walked = climbed (ancestors sizes above p) (chip_of list counters) in
      let first : Climbs (walk_plan above start asked (record { 0 = p })) walked p lines list =
      subst (λ l. Climbs (walk_plan above start asked (record { 0 = p }))
      (climbed (ancestors sizes above p) (chip_of l counters)) p lines l) (absent_used list p absent) again in
      let up = child_of_parent shape.lines shape.layers b p low parent in
      let over = parent_above shape.lines shape.layers b p low parent in
      let gone = first.out p (omega arith) absent in
      let one : Refilled p first.roots' first.later first.lines' walked.chip.held walked.chip.counters first.end =
      refill_goes p first.roots' first.later first.lines' walked.chip.held walked.chip.counters first.end bits bits_to
      some up.5 ((up.0, up.1), up.2) first.parent gone first.are first.stands in
      subst (λ (w : Walked). Climbs (on (walk_plan above start asked (record { 0 = p }))
      (λ later end. refill_plan later end (record { 0 = p }))) w b lines list)
      (sym (climbed-missing p (ancestors sizes above p) list counters absent)) (record {
        roots' = one.roots';
        later = one.later;
        lines' = one.lines';
        end = one.end;
        goes = subst (λ shown. Goes cycles (on (walk_plan above start asked (record { 0 = p }))
            (λ later end. refill_plan later end (record { 0 = p }))) lines shown one.lines'
            (front cycles shape ic plb one.roots' one.later) one.end)
            (sym (flat_map-append (shown_by sizes lines put) walked.accesses (refill sizes walked.chip p).accesses))
            (goes_on cycles (walk_plan above start asked (record { 0 = p }))
            (λ later end. refill_plan later end (record { 0 = p })) lines first.lines' one.lines'
            (shown_of lines walked.accesses) (shown_of lines (refill sizes walked.chip p).accesses)
            (front cycles shape ic plb first.roots' first.later) (front cycles shape ic plb one.roots' one.later)
            first.end one.end first.goes
            (subst (λ shown. Goes cycles (refill_plan (front cycles shape ic plb first.roots' first.later) first.end
            (record { 0 = p })) first.lines' shown one.lines' (front cycles shape ic plb one.roots' one.later) one.end)
            (same_shown lines first.lines' first.stored (refill sizes walked.chip p).accesses) one.goes));
        stands = one.stands;
        are = put_held shape plb walked.chip.held p up.5 ((up.0, up.1), up.2) gone first.are;
        out = λ x below none.
            let apart : p ≢ x = λ e. absurd (omega (arith, e, below, over.0)) in
            take_out plb (p ∷ walked.chip.held) x
            (front_out walked.chip.held p x apart (first.out x (omega (arith, below, over.0)) none));
        same = λ x below none.
            one.same x (first.out x (omega (arith, below, over.0)) none)
            ∙ first.same x (omega (arith, below, over.0)) none;
        stored = λ a none. one.same a (childless a walked.chip.held none first.are) ∙ first.stored a none;
        parent = λ q above.
            let same : p ≡ q = some_is (sym parent ∙ above) in
            subst (λ r. (block : Held) × (held_at one.later (record { 0 = r }) ≡ Some block)) same one.at;
      })

  climb_parent : (above b p : ℕ) (roots : List ℕ) (held : List Held) (lines : Lines) (list : List ℕ)
      (counters : Counters) (asked : ℕ) → 1 ≤ ic → ic ≤ 14 → 1 ≤ plb → b < layer_first shape.lines shape.layers
      → parent_of shape.lines shape.layers b ≡ Some p → AreHeld shape plb list
      → Stands shape None roots held lines list counters
      → Climbs (walk_plan above (front cycles shape ic plb roots (promoted held (record { 0 = p }))) asked
      (record { 0 = p })) (climbed (ancestors sizes above p) (chip_of (used list p) counters)) p lines (used list p)
      → Climbs (found_plan (is_some (held_at held (record { 0 = p })))
      (front cycles shape ic plb roots (promoted held (record { 0 = p }))) asked
      (on (walk_plan above (front cycles shape ic plb roots (promoted held (record { 0 = p }))) asked
      (record { 0 = p })) (λ later end. refill_plan later end (record { 0 = p }))))
      (climbed (p ∷ ancestors sizes above p) (chip_of list counters)) b lines list
  climb_parent above b p roots held lines list counters asked bits bits_to some low parent h s again =
      let test : is_some (held_at held (record { 0 = p })) ≡ is_among list p =
      is_some-held_at held (record { 0 = p }) ∙ ap (λ l. is_among l p) s.held_is in
      subst (λ is. Climbs (found_plan is (front cycles shape ic plb roots (promoted held (record { 0 = p }))) asked
      (on (walk_plan above (front cycles shape ic plb roots (promoted held (record { 0 = p }))) asked
      (record { 0 = p })) (λ later end. refill_plan later end (record { 0 = p }))))
      (climbed (p ∷ ancestors sizes above p) (chip_of list counters)) b lines list) (sym test)
      (climb_test above b p (is_among list p) roots held lines list counters asked bits bits_to some low parent refl h s
      again)

  -- The walk to a block climbs its ancestors.
  pub climb : (above b : ℕ) (roots : List ℕ) (held : List Held) (lines : Lines) (list : List ℕ) (counters : Counters)
      (asked : ℕ) → 1 ≤ ic → ic ≤ 14 → 1 ≤ plb → b < layer_first shape.lines shape.layers → Reaches above b
      → AreHeld shape plb list → Stands shape None roots held lines list counters
      → Climbs (walk_plan above (front cycles shape ic plb roots held) asked (record { 0 = b }))
      (climbed (ancestors sizes above b) (chip_of list counters)) b lines list
  unfolding ancestors
  climb zero b roots held lines list counters asked bits bits_to some low reach h s = record {
    roots' = roots;
    later = held;
    lines' = lines;
    end = asked;
    goes = record { shows = refl; ends = refl };
    stands = s;
    are = h;
    out = λ x below absent. absent;
    same = λ x below absent. refl;
    stored = λ a none. refl;
    parent = λ p above. absurd (none_is_not (sym reach ∙ above));
  }
  climb (suc above) b roots held lines list counters asked bits bits_to some low reach h s =
      subst (λ (o : Option ℕ). Climbs
      (option_map_or (λ (parent : Address).
      let now = with_held (front cycles shape ic plb roots held) (promoted held parent) in
      found_plan (is_some (held_at held parent)) now asked
      (on (walk_plan above now asked parent) (λ later end. refill_plan later end parent)))
      (option_map (λ n. let x : Address = record { 0 = n } in x) o)
      (Done (front cycles shape ic plb roots held, asked)))
      (climbed (option_map_or (λ p. p ∷ ancestors sizes above p) o []) (chip_of list counters)) b lines list)
      (let e : parent_of shape.lines shape.layers b ≡ parent_of shape.lines shape.layers b = refl in e)
      (by (parent_of shape.lines shape.layers b) refl
      (λ p low' reach' h' s'.
      climb above p roots (promoted held (record { 0 = p })) lines
      (used list p) counters asked bits bits_to some low'
      reach' h' s'))
    where
      by : (o : Option ℕ) → parent_of shape.lines shape.layers b ≡ o
          → ((p : ℕ) → p < layer_first shape.lines shape.layers → Reaches above p → AreHeld shape plb (used list p)
          → Stands shape None roots (promoted held (record { 0 = p })) lines (used list p) counters
          → Climbs (walk_plan above (front cycles shape ic plb roots (promoted held (record { 0 = p }))) asked
          (record { 0 = p })) (climbed (ancestors sizes above p) (chip_of (used list p) counters)) p
          lines (used list p))
          → Climbs
          (option_map_or (λ (parent : Address).
          let now = with_held (front cycles shape ic plb roots held) (promoted held parent) in
          found_plan (is_some (held_at held parent)) now asked
          (on (walk_plan above now asked parent) (λ later end. refill_plan later end parent)))
          (option_map (λ n. let x : Address = record { 0 = n } in x) o)
          (Done (front cycles shape ic plb roots held, asked)))
          (climbed (option_map_or (λ p. p ∷ ancestors sizes above p) o []) (chip_of list counters)) b lines list
      by None top again = record {
        roots' = roots;
        later = held;
        lines' = lines;
        end = asked;
        goes = record { shows = refl; ends = refl };
        stands = s;
        are = h;
        out = λ x below absent. absent;
        same = λ x below absent. refl;
        stored = λ a none. refl;
        parent = λ p above. absurd (none_is_not (sym top ∙ above));
      }
      by (Some p) parent again =
          climb_parent above b p roots held lines list counters asked bits bits_to some low parent h s
          (again p (parent_above shape.lines shape.layers b p low parent).1 (reach p parent)
          (used_held shape plb list p h) (used_stands shape (record { 0 = p }) roots held lines list counters s))
