-- A request over a memory that shows the counters shows the walk, and the counters stay shown.
use Rattle.std.proofs.Common.{◌≡◌, ℕ, suc, ◌-◌, ◌<◌, ◌≤◌, Bool, true, false, List, [], ◌∷◌, ◌++◌}
use Rattle.std.proofs.Common.{length}
use Rattle.std.proofs.Common.{reverse, Some, None, replicate, inl, inr, refl, sym, ap, ◌∙◌, subst}
use Rattle.std.proofs.Common.{arith}
use Rattle.std.proofs.Common.{append-nil, append_assoc, lit<}
use Rattle.std.specs.Prelude.{◌||◌, if◌then◌else◌}
use Rattle.std.specs.List.{flat_map}
use Rattle.std.proofs.lemmas.Bool.{cases_Bool}
use Rattle.std.proofs.lemmas.Bool.Decides.{eqb_tells}
use Rattle.std.proofs.lemmas.Grind.{flat_map-append}
use Rattle.request_plan.specs.Plan.{Done, Ask}
use Rattle.request_plan.specs.Play.{play, bare}
use Rattle.asc_base.specs.Settings.{IsConfig}
use Rattle.asc_base.specs.declared.settings.Config.{Config}
use Rattle.asc_base.specs.Has.{Has}
use Rattle.asc_base.specs.TreeShape.{layer_count, layer_first, layer_of, children_of}
use Rattle.asc_base.specs.declared.shape.Shape.{Shape}
use Rattle.asc_base.specs.declared.block.Line.{Line}
use Rattle.asc_base.proofs.Layers.{layer_of_is, layer_first-zero, layer_first-next, layer_count-zero, children_of-line}
use Rattle.asc_base.proofs.Lookups.{none_is_not}
use Rattle.asc_base.proofs.ShapeFacts.{IsLayered, shape_layered}
use Rattle.posmap_counters.specs.Counters.{Change, asked_changes, is_among}
use Rattle.posmap_counters.specs.Digits.{digits}
use Rattle.posmap_counters.specs.Group.{first_group, line_in, line_of}
use Rattle.posmap_counters.proofs.FamilyLaws.{zeros_at, start_counters}
use Rattle.posmap_counters.proofs.RootLaws.{start_roots}
use Rattle.posmap_lookaside.specs.Addresses.{AreDistinct}
use Rattle.posmap_lookaside.specs.Held.{addresses_of}
use Rattle.posmap_lookaside.specs.Walk.{OnChip, Walked, Final, ancestors, missing, looked_up, refill, visit}
use Rattle.posmap_lookaside.specs.Walk.{walk_down, walk, chip_at_start}
use Rattle.posmap_lookaside.specs.declared.held.Held.{Held}
use Rattle.oram_walk.specs.Front.{FrontState, first_front, sizes_of}
use Rattle.oram_walk.specs.Memory.{memory, put_back}
use Rattle.oram_walk.specs.Plans.{walk_plan, visit_plan, request_plan, fetch_plan, store_plan}
use Rattle.oram_walk.specs.Request.{Answer}
use Rattle.oram_walk.specs.Rows.{zeros}
use Rattle.oram_walk.specs.Shows.{Shows, shown_by}
use Rattle.oram_walk.specs.declared.slots.Purpose.{Purpose}
use Rattle.oram_walk.specs.declared.slots.Purpose.TheVariants.{Refill, Keep, Replace}
use Rattle.oram_walk.specs.declared.slots.Seen.{Seen}
use Rattle.oram_walk.proofs.Climbs.{sizes, shown_of, same_shown, asked_shown, descended, climbed, Climbs, climb}
use Rattle.oram_walk.proofs.Climbs.{reaches}
use Rattle.oram_walk.proofs.Fronts.{first_is}
use Rattle.oram_walk.proofs.Played.{Lines, Goes, goes_on, play-told, play-left}
use Rattle.oram_walk.proofs.Refills.{AreHeld}
use Rattle.oram_walk.proofs.Standing.{Stands}
use Rattle.oram_walk.proofs.Visits.{front, shown_all, Visited, visit_goes}

-- what is among a list stands in it, and the other way round
among-has : (list : List ℕ) (a : ℕ) → is_among list a ≡ true → Has a list
among-has [] a there = absurd (cc)
among-has (x ∷ list) a there =
    elim (eqb_tells x a) [
      | inl same ↦ inl (sym same.1)
      | inr other ↦ inr (among-has list a (sym (ap (λ b. b || is_among list a) other.0) ∙ there))
    ]

has-rest : (x a : ℕ) (list : List ℕ) → (x ≡ a → ⊥) → Has a (x ∷ list) → Has a list
has-rest x a list apart (inl same) = absurd (apart (sym same))
has-rest x a list apart (inr more) = more

has-among : (list : List ℕ) (a : ℕ) → Has a list → is_among list a ≡ true
has-among [] a has = absurd has
has-among (x ∷ list) a has =
    elim (eqb_tells x a) [
      | inl same ↦ ap (λ b. b || is_among list a) same.0
      | inr other ↦
          ap (λ b. b || is_among list a) other.0 ∙ has-among list a (has-rest x a list other.1 has)
    ]

length-addresses : (list : List Held) → length (addresses_of list) ≡ length list
length-addresses [] = refl
length-addresses (x ∷ list) = ap suc (length-addresses list)

-- a data line is in layer 0, and has no children
line_layer : (lines layers line : ℕ) → 1 ≤ layers → line < lines → layer_of lines layers line ≡ 0
line_layer lines layers line some low =
    layer_of_is lines layers 0 line some (record {
      from = omega (arith, layer_first-zero lines);
      below = omega (arith, layer_first-zero lines, layer_count-zero lines, layer_first-next lines 0);
    })

line_children : (lines layers line : ℕ) → 1 ≤ layers → line < lines → children_of lines layers line ≡ None
line_children lines layers line some low =
    children_of-line lines layers line (layer_of lines layers line) refl (line_layer lines layers line some low)

-- the line that a final access puts is that of a data line
keeps_lines : (lines : Lines) (shape : Shape) (line : ℕ) (put : Purpose)
    → children_of shape.lines shape.layers line ≡ None → (a first number : ℕ)
    → children_of shape.lines shape.layers a ≡ Some (first, number) → put_back lines line put a ≡ lines a
keeps_lines lines shape line Refill none a first number some = refl
keeps_lines lines shape line Keep none a first number some = refl
keeps_lines lines shape line (Replace value) none a first number some =
    elim (eqb_tells a line) [
      | inl same ↦ absurd (none_is_not (sym none ∙ ap (children_of shape.lines shape.layers) (sym same.1) ∙ some))
      | inr other ↦ ap (λ (t : Bool). if t then value else lines a) other.0
    ]

module _ (cycles : ℕ) (shape : Shape) (ic plb : ℕ) (put : Purpose) where
  -- the walk is its refills and then the final access
  abbrev ended : ℕ → Walked → Walked
  ended line walked =
      let last = visit (sizes cycles shape ic plb put) Final None walked.chip.held walked.chip line in
      record { accesses = walked.accesses ++ last.accesses; chip = last.chip }

  down-ended : (line : ℕ) (below : List ℕ) (chip : OnChip) → walk_down (sizes cycles shape ic plb put) line below chip
      ≡ ended line (descended cycles shape ic plb put below chip)
  unfolding walk_down
  down-ended line [] chip = refl
  down-ended line (a ∷ below) chip =
      let first : Walked = refill (sizes cycles shape ic plb put) chip a in
      let rest : Walked = descended cycles shape ic plb put below first.chip in
      let last : Walked = visit (sizes cycles shape ic plb put) Final None rest.chip.held rest.chip line in
      ap (λ (w : Walked). let z : Walked = record { accesses = first.accesses ++ w.accesses; chip = w.chip } in z)
      (down-ended line below first.chip)
      ∙ ap (λ accesses. let z : Walked = record { accesses = accesses; chip = last.chip } in z)
      (sym (append_assoc first.accesses rest.accesses last.accesses))

-- What a request leaves.
record Requested (cycles : ℕ) (state : FrontState) (asked line : ℕ) (put : Purpose) (lines : Lines) (chip : OnChip)
    : Type 0 where
  pub lines' : Lines
  pub now : FrontState
  pub seen : Seen
  pub goes : Goes cycles (request_plan state asked (record { 0 = line }) put) lines
      (flat_map (shown_by (sizes_of state) lines put) (walk (sizes_of state) chip line).accesses) lines' now seen
  pub shows : Shows now lines' (walk (sizes_of state) chip line).chip
  pub answer : seen.line ≡ lines line

request_goes : (cycles : ℕ) (state : FrontState) (asked line : ℕ) (put : Purpose) (lines : Lines) (chip : OnChip)
    → line < state.shape.lines → Shows state lines chip → Requested cycles state asked line put lines chip
request_goes cycles state asked line put lines chip below shown =
    let shape : Shape = state.shape in
    let ic : ℕ = state.ic in
    let plb : ℕ = state.plb in
    let facts : IsLayered shape = shape_layered shape shown.front.shape in
    let low : line < layer_first shape.lines shape.layers = omega (arith, facts.total, facts.total_from) in
    let childless = line_children shape.lines shape.layers line facts.layers_from below in
    let bits : 1 ≤ ic = omega (arith, shown.front.ic_from) in
    let are : AreHeld shape plb chip.held = record {
      distinct = shown.list.distinct;
      fits = shown.list.fits;
      blocks = λ a there. shown.list.blocks a (among-has chip.held a there);
    } in
    let stands : Stands shape None state.roots state.held lines chip.held chip.counters = record {
      many = shown.front.roots;
      held_is = shown.held;
      roots_are = shown.roots;
      counters_are = shown.counters;
      groups_are = λ a first number inside apart children.
          shown.groups a first number (omega (arith, facts.total, inside)) children;
    } in
    let absent : is_among chip.held line ≡ false = elim (cases_Bool (is_among chip.held line)) [
      | inl there ↦ absurd (none_is_not (sym childless ∙ (are.blocks line there).2))
      | inr none ↦ none
    ] in
    let above = ancestors (sizes_of state) shape.layers line in
    let walked : Walked = climbed cycles shape ic plb put above chip in
    let up : Climbs cycles shape ic plb put (walk_plan shape.layers state asked (record { 0 = line })) walked line lines
    chip.held =
    climb cycles shape ic plb put shape.layers line state.roots state.held lines chip.held chip.counters asked bits
    shown.front.ic_to shown.front.whole.some low
    (reaches cycles shape ic plb put shape.layers line low (omega arith)) are
    stands in
    let out = up.out line (omega arith) absent in
    let visited : Visited cycles shape ic plb put line up.roots' up.later up.lines' walked.chip.held
    walked.chip.counters
    up.end =
    visit_goes cycles shape ic plb put line up.roots' up.later up.lines' walked.chip.held
    walked.chip.counters up.end bits
    shown.front.ic_to low up.parent out (keeps_lines up.lines' shape line put childless) up.stands in
    let now : FrontState = front cycles shape ic plb visited.roots' visited.later in
    let seen : Seen = record { line = up.lines' line; end = visited.end } in
    let lines' : Lines = put_back up.lines' line put in
    let changes : List Change =
    asked_changes shape.lines shape.layers ic walked.chip.held walked.chip.counters line in
    let last : Walked = visit (sizes_of state) Final None walked.chip.held walked.chip line in
    let shows_last : shown_all cycles shape ic plb up.lines' put walked.chip.counters changes
    ≡ shown_of cycles shape ic plb put lines last.accesses =
    sym (asked_shown cycles shape ic plb put up.lines' Final None walked.chip.held walked.chip.counters line
    ∙ append-nil _) ∙ same_shown cycles shape ic plb put lines up.lines' up.stored last.accesses in
    let whole : walk (sizes_of state) chip line ≡ ended cycles shape ic plb put line walked =
    down-ended cycles shape ic plb put line (reverse (missing chip.held above))
    (record { held = looked_up chip.held above; counters = chip.counters }) in
    let shows_all : shown_of cycles shape ic plb put lines walked.accesses
    ++ shown_all cycles shape ic plb up.lines' put walked.chip.counters changes
    ≡ shown_of cycles shape ic plb put lines (walk (sizes_of state) chip line).accesses =
    ap (λ x. shown_of cycles shape ic plb put lines walked.accesses ++ x) shows_last
    ∙ sym (flat_map-append (shown_by (sizes_of state) lines put) walked.accesses last.accesses)
    ∙ ap (λ (w : Walked). shown_of cycles shape ic plb put lines w.accesses) (sym whole) in
    record {
      lines' = lines';
      now = now;
      seen = seen;
      goes = subst (λ x. Goes cycles (request_plan state asked (record { 0 = line }) put) lines x lines'
          now seen) shows_all
          (goes_on cycles (walk_plan shape.layers state asked (record { 0 = line }))
          (λ later end. visit_plan later end (record { 0 = line }) put) lines up.lines' lines'
          (shown_of cycles shape ic plb put lines walked.accesses)
          (shown_all cycles shape ic plb up.lines' put walked.chip.counters changes)
          (front cycles shape ic plb up.roots' up.later) now up.end seen up.goes visited.goes);
      shows = subst (λ (w : Walked). Shows now lines' w.chip) (sym whole) (record {
        front = record {
          shape = shown.front.shape;
          ic_from = shown.front.ic_from;
          ic_to = shown.front.ic_to;
          roots = visited.stands.many;
          whole = record {
            some = shown.front.whole.some;
            fits = omega (
              arith,
              up.are.fits,
              ap length visited.stands.held_is,
              length-addresses visited.later,
            );
            distinct = subst AreDistinct (sym visited.stands.held_is) up.are.distinct;
          };
          inside = λ a has.
              let there = has-among walked.chip.held a (subst (Has a) visited.stands.held_is has) in
              omega (arith, facts.total, (up.are.blocks a there).0);
        };
        held = visited.stands.held_is;
        list = record {
          fits = up.are.fits;
          distinct = up.are.distinct;
          blocks = λ a has. up.are.blocks a (has-among walked.chip.held a has);
        };
        roots = visited.stands.roots_are;
        counters = visited.stands.counters_are;
        groups = λ a first number inside children.
            visited.stands.groups_are a first number (omega (arith, facts.total, inside)) (λ e. none_is_not e) children;
      });
      answer = up.same line (omega arith) absent;
    }

-- The play of a request.
pub walks_over : (cycles asked line : ℕ) (state : FrontState) (put : Purpose) (lines : Lines) (chip : OnChip)
    → line < state.shape.lines → Shows state lines chip
    → let played = play (memory cycles) (request_plan state asked (record { 0 = line }) put) lines in
    (bare played.records ≡ flat_map (shown_by (sizes_of state) lines put) (walk (sizes_of state) chip line).accesses)
    × Shows ((played.outcome).0) played.held (walk (sizes_of state) chip line).chip
    × (((played.outcome).1).line ≡ lines line)
walks_over cycles asked line state put lines chip below shown =
    let plan = request_plan state asked (record { 0 = line }) put in
    let done : Requested cycles state asked line put lines chip =
    request_goes cycles state asked line put lines chip below shown in
    let ends = play-left cycles plan lines ∙ done.goes.ends in (
      play-told cycles plan lines ∙ done.goes.shows,
      subst (λ (r : Lines × (FrontState × Seen)). Shows ((r.1).0) (r.0) (walk (sizes_of state) chip line).chip)
          (sym ends) done.shows,
      subst (λ (r : Lines × (FrontState × Seen)). ((r.1).1).line ≡ lines line) (sym ends) done.answer,
    )

-- A fetch and a store are the same.
pub fetch_over : (cycles asked line : ℕ) (state : FrontState) (lines : Lines) (chip : OnChip)
    → line < state.shape.lines → Shows state lines chip
    → let played = play (memory cycles) (fetch_plan state asked line) lines in
    (bare played.records ≡ flat_map (shown_by (sizes_of state) lines Keep) (walk (sizes_of state) chip line).accesses)
    × Shows ((played.outcome).0) played.held (walk (sizes_of state) chip line).chip
    × (((played.outcome).1).line ≡ lines line)
fetch_over cycles asked line state lines chip below shown =
    let plan = fetch_plan state asked line in
    let done : Requested cycles state asked line Keep lines chip =
    request_goes cycles state asked line Keep lines chip below shown in
    let all = goes_on cycles (request_plan state asked (record { 0 = line }) Keep)
    (λ now seen. Ask (Answer line seen.line) now (λ _. Done (now, seen))) lines done.lines' done.lines' _ [] done.now
    done.now done.seen done.seen done.goes (record { shows = refl; ends = refl }) in
    let ends = play-left cycles plan lines ∙ all.ends in (
      play-told cycles plan lines ∙ all.shows ∙ append-nil _,
      subst (λ (r : Lines × (FrontState × Seen)). Shows ((r.1).0) (r.0) (walk (sizes_of state) chip line).chip)
          (sym ends) done.shows,
      subst (λ (r : Lines × (FrontState × Seen)). ((r.1).1).line ≡ lines line) (sym ends) done.answer,
    )

pub store_over : (cycles asked line : ℕ) (value : Line) (state : FrontState) (lines : Lines) (chip : OnChip)
    → line < state.shape.lines → Shows state lines chip
    → let played = play (memory cycles) (store_plan state asked line value) lines in
    (bare played.records
    ≡ flat_map (shown_by (sizes_of state) lines (Replace value)) (walk (sizes_of state) chip line).accesses)
    × Shows ((played.outcome).0) played.held (walk (sizes_of state) chip line).chip
store_over cycles asked line value state lines chip below shown =
    let plan = store_plan state asked line value in
    let done : Requested cycles state asked line (Replace value) lines chip =
    request_goes cycles state asked line (Replace value) lines chip below shown in
    let all = goes_on cycles (request_plan state asked (record { 0 = line }) (Replace value))
    (λ now seen. Done (now, seen.end)) lines done.lines' done.lines' _ [] done.now done.now done.seen done.seen.end
    done.goes (record { shows = refl; ends = refl }) in
    let ends = play-left cycles plan lines ∙ all.ends in (
      play-told cycles plan lines ∙ all.shows ∙ append-nil _,
      subst (λ (r : Lines × (FrontState × ℕ)). Shows ((r.1).0) (r.0) (walk (sizes_of state) chip line).chip)
          (sym ends) done.shows,
    )

-- a memory of zeros shows the counters at the start
zeros_line : replicate 64 0 ≡ line_in first_group
unfolding line_of digits
zeros_line = refl

pub start_shown : (config : Config) → IsConfig config → Shows (first_front config) zeros chip_at_start
start_shown config is =
    let shape : Shape = config.shape in record {
      front = first_is config is;
      held = refl;
      list = record { fits = omega arith; distinct = λ a. omega arith; blocks = λ a has. absurd has };
      roots = start_roots shape.lines shape.layers (layer_count shape.lines (shape.layers - 1));
      counters = λ a block at. absurd (none_is_not at);
      groups = λ a first number inside children. (
        first_group,
        record { fits = lit< tt; children = refl; own = λ child. omega (arith, zeros_at 32 child) },
        start_counters first number,
        zeros_line,
      );
    }
