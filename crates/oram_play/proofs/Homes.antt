-- Where an encrypted memory stands where a play stands, its blocks have the play's counters and lines; and while no
-- reply was altered, each is at home.
use Rattle.std.proofs.Common.{◌≡◌, ◌<◌, ◌≤◌, ◌+◌, ◌++◌, ◌==◌, inl, inr, ℕ, Bool, true, false, List, [], ◌∷◌, map}
use Rattle.std.proofs.Common.{count_by, Option, None, Some, Ok, if◌then◌else◌, refl, sym, ap, ◌∙◌, subst, arith}
use Rattle.std.specs.Option.{option_map_or}
use Rattle.std.proofs.lemmas.Bool.{cases_eq}
use Rattle.std.proofs.lemmas.Bool.Decides.{eqb_tells}
use Rattle.asc_base.specs.Has.{Has}
use Rattle.asc_base.specs.Settings.{IsConfig}
use Rattle.asc_base.specs.TreeShape.{parent_of, children_of, layer_first, layer_count, layer_of}
use Rattle.asc_base.specs.declared.block.Address.{Address}
use Rattle.asc_base.specs.declared.block.Counter.{Counter}
use Rattle.asc_base.specs.declared.block.Entry.{Entry}
use Rattle.asc_base.specs.declared.settings.Config.{Config}
use Rattle.asc_base.specs.declared.shape.Shape.{Shape}
use Rattle.asc_base.proofs.Families.{child_of_parent, children_few}
use Rattle.asc_base.proofs.Layers.{index_of-lt, layer_first-zero, layer_count-zero, children_of-above}
use Rattle.asc_base.proofs.Lookups.{find-has, find-holds, none_is_not}
use Rattle.asc_base.proofs.ShapeFacts.{shape_layered}
use Rattle.bus_schedule.specs.Timetable.{public_of}
use Rattle.bus_watch.specs.Log.{LogLists}
use Rattle.bus_watch.specs.declared.log.Altered.{Altered}
use Rattle.data_cache.specs.Lines.{LineRequest}
use Rattle.oram_contents.specs.Counts.{Ghost, line_at, line_by}
use Rattle.oram_contents.specs.Entries.{Keys, AreKeys, real, message_of, entry_of}
use Rattle.oram_contents.specs.Groups.{child_counter, moved_of}
use Rattle.oram_contents.specs.Home.{copies, tree_copies, flying}
use Rattle.oram_contents.specs.Provenance.{Known, OffOpen, message_in}
use Rattle.oram_contents.specs.Verdict.{is_first}
use Rattle.oram_contents.proofs.Lines.{children_inside, some_child}
use Rattle.oram_lines.specs.Standing.{held_block}
use Rattle.oram_lines.proofs.MoveTriples.{not_held, block_has}
use Rattle.oram_lines.proofs.ShownHeld.{group_line}
use Rattle.oram_lines.proofs.ShownLaws.{still_none, not_under}
use Rattle.oram_lines.proofs.ShownParts.{chip_addresses}
use Rattle.oram_walk.specs.Shows.{IsShown as IsFamilyShown}
use Rattle.pmmac_tags.specs.Tag.{tag}
use Rattle.posmap_counters.specs.Counters.{counter_at, next_group}
use Rattle.posmap_counters.specs.Families.{HasRoots, HasOneGroup, family_group, family_line}
use Rattle.posmap_counters.specs.Group.{GroupState, IsGroup, line_in, group_in}
use Rattle.posmap_counters.proofs.FamilyLines.{family_has, family_only, family_is, length-own_counts, read_line}
use Rattle.posmap_lookaside.specs.Held.{held_at, is_of}
use Rattle.posmap_lookaside.specs.Walk.{WalkSizes}
use Rattle.posmap_lookaside.specs.declared.held.Held.{Held}
use Rattle.rate_enforcer.specs.PortStep.{contents}
use Rattle.run_play.specs.Requests.{Standing, standing_at_start, request_slots, data_line, line_at as play_line}
use Rattle.run_play.specs.Slots.{Slot, passed}
use Rattle.oram_frontend.specs.Oram.{OramState, OramStep, Told, Wait}
use Rattle.oram_lines.specs.Lines.{IsNew, IsRequest}
use Rattle.oram_play.specs.AtHome.{IsAtHome, entry_in, times_placed, times_in_tree}
use Rattle.oram_play.specs.Playing.{PlaysAs, called}
use Rattle.oram_play.proofs.Stands.{keys_lines, new_plays, request_stands, wait_stands}

-- the block of an address that passes the test for it
of_address : (h : Held) (a : Address) → is_of a h ≡ true → h.address.0 ≡ a.0
of_address h a is = elim (eqb_tells h.address.0 a.0) [
  | inl same ↦ same.1
  | inr other ↦ absurd (let no : is_of a h ≡ false = other.0 in cc)
]

held_has : (h : Held) (list : List Held) → Has h list → Has (held_block h) (map held_block list)
held_has h [] has = has
held_has h (y ∷ list) (inl is) = inl (ap held_block is)
held_has h (y ∷ list) (inr later) = inr (held_has h list later)

-- an entry is that of a block by its leaf, its line and its tag
same_entry : (keys : Keys) (e : Entry) (a : ℕ) (c : Counter) (l : List ℕ) → e.address.0 ≡ a
    → e.leaf.0 ≡ keys.leaf_of (real a c) → e.line.0 ≡ l → e.tag ≡ tag keys.tags (message_of a c l)
    → e ≡ entry_of keys a c l
same_entry keys e a c l address leaf line tag_is =
    λ i. record {
      address = record { 0 = address i };
      leaf = record { 0 = leaf i };
      line = record { 0 = line i };
      tag = tag_is i;
    }

module _ (keys : Keys) (lawful : AreKeys keys) (levels : ℕ) (config : Config) (slots : List Slot) (now : Standing)
    (o : OramState) (x : PlaysAs keys levels config slots now o) where
  abbrev g : Ghost
  g = x.ghost

  abbrev count : ℕ → Counter
  count = counter_at now.chip.counters

  shape_is : o.front.shape ≡ keys.shape
  shape_is = x.stands.shown.shape

  lines_are : config.shape.lines ≡ keys.shape.lines
  lines_are = keys_lines keys lawful levels config slots now o x

  layers_are : config.shape.layers ≡ keys.shape.layers
  layers_are = sym (ap (λ (s : WalkSizes). s.layers) x.sizes) ∙ ap (λ (s : Shape). s.layers) shape_is

  total_is : keys.shape.total ≡ layer_first keys.shape.lines keys.shape.layers
  total_is = (shape_layered keys.shape lawful.shape).total

  roots_are : HasRoots keys.shape.lines keys.shape.layers count o.front.roots
  roots_are = subst (λ (s : Shape). HasRoots s.lines s.layers count o.front.roots) shape_is x.shows.roots

  groups_are : (address : Address) (first number : ℕ) → address.0 < keys.shape.total
      → children_of keys.shape.lines keys.shape.layers address.0 ≡ Some (first, number)
      → IsFamilyShown (held_at o.front.held address) (x.lines address.0) count first number
  groups_are = subst (λ (s : Shape). (address : Address) (first number : ℕ) → address.0 < s.total
      → children_of s.lines s.layers address.0 ≡ Some (first, number)
      → IsFamilyShown (held_at o.front.held address) (x.lines address.0) count first number) shape_is x.shows.groups

  -- the held blocks are those of the walk
  pub held_are : g.held ≡ now.chip.held
  held_are = x.stands.shown.groups.listed ∙ chip_addresses o.front.held ∙ x.shows.held

  still_of : (p : ℕ) → moved_of g.move p ≡ 0
  still_of p = still_none g.move p x.calm.move

  -- a family has the counters of its line's group, and shares its group's count
  one_group : (p first number : ℕ) → p < keys.shape.total
      → children_of keys.shape.lines keys.shape.layers p ≡ Some (first, number) → HasOneGroup g.count first number
  one_group p first number inside children k less =
      x.stands.shown.counters.siblings p first number k inside children less (still_of p)

  -- the counter of a child of a family
  child_is : (p first number k : ℕ) → p < keys.shape.total
      → children_of keys.shape.lines keys.shape.layers p ≡ Some (first, number) → k < number
      → g.count (first + k) ≡ count (first + k)
  child_is p first number k inside children less =
      by_held (held_at o.front.held (record { 0 = p })) refl
      (groups_are (record { 0 = p }) first number inside children)
    where
      few : number ≤ 32
      few = (children_few keys.shape.lines keys.shape.layers p first number (omega (arith, inside, total_is))
          children).1

      some : 0 < number
      some = some_child keys.shape p first number lawful.shape inside children

      inside_of : (j : ℕ) → j < number → first + j < keys.shape.total
      inside_of j below = children_inside keys.shape p first number j lawful.shape inside children below

      first_in : first < keys.shape.total
      first_in = omega (arith, inside_of 0 some)

      family : GroupState
      family = family_group g.count (first, number)

      by_held : (found : Option Held) → held_at o.front.held (record { 0 = p }) ≡ found
          → IsFamilyShown found (x.lines p) count first number → g.count (first + k) ≡ count (first + k)
      by_held (Some h) found (is, has) =
          let among : Has h o.front.held = find-has (is_of (record { 0 = p })) o.front.held h found in
          let here : h.address.0 ≡ p = of_address h (record { 0 = p })
          (find-holds (is_of (record { 0 = p })) o.front.held h found) in
          let shown = x.stands.shown.groups.groups (held_block h) (held_has h o.front.held among) in
          (shown.shows first number k (ap (children_of keys.shape.lines keys.shape.layers) here ∙ children) less).level
          (λ at. absurd (none_is_not (sym x.calm.stepped ∙ at)))
          ∙ ap {A = Bool} {B = Counter}
          (λ b. if b then next_group (child_counter h.group.group h.group.own k)
          else child_counter h.group.group h.group.own k)
          (not_under k (moved_of g.move h.address.0) (still_of h.address.0))
          ∙ sym (has.children k less)
      by_held None none (group, is, has, line) =
          let away : Has p g.held → ⊥ = λ at. not_held o.front.held (record { 0 = p }) none
          (subst (Has p) x.stands.shown.groups.listed at) in
          let kept : (x.lines p).0 ≡ line_at keys.shape g p = x.outside.each p inside away
          (λ at. absurd (none_is_not (sym x.calm.flight ∙ at))) in
          let same : line_in group ≡ line_in family =
          sym line ∙ kept ∙ ap (line_by g.count (g.data_lines p)) children in
          let is_family : IsGroup family = family_is g.count first number few
          (x.stands.shown.counters.group first first_in)
          (λ j below. x.stands.shown.counters.own (first + j) (inside_of j below)) in
          let group_is : group ≡ family = sym (read_line group is) ∙ ap group_in same ∙ read_line family is_family in
          (family_has g.count first number few (one_group p first number inside children)).children k less
          ∙ ap (λ (y : GroupState). child_counter y.group y.own k) (sym group_is)
          ∙ sym (has.children k less)

  -- A block has the play's counter.
  pub counts_are : (a : ℕ) → a < keys.shape.total → g.count a ≡ count a
  counts_are a inside = by_parent (parent_of keys.shape.lines keys.shape.layers a) refl
    where
      below : a < layer_first keys.shape.lines keys.shape.layers
      below = omega (arith, inside, total_is)

      by_parent : (up : Option ℕ) → parent_of keys.shape.lines keys.shape.layers a ≡ up → g.count a ≡ count a
      by_parent None top =
          sym ((x.stands.shown.groups.roots a inside top).level (λ at. absurd (none_is_not (sym x.calm.stepped ∙ at))))
          ∙ sym (roots_are a below top)
      by_parent (Some p) up =
          let (first, number, children, here, less, within) =
          child_of_parent keys.shape.lines keys.shape.layers a p below up in
          subst (λ b. g.count b ≡ count b) (sym here)
          (child_is p first number _ (omega (arith, within, total_is)) children less)

  -- a block of the shape without children is a data line
  leaf_low : (a : ℕ) → a < keys.shape.total → children_of keys.shape.lines keys.shape.layers a ≡ None
      → a < keys.shape.lines
  leaf_low a inside none =
      let lines = keys.shape.lines in
      let layers = keys.shape.layers in
      let index = index_of-lt lines layers a (omega (arith, inside, total_is)) in
      elim (cases_eq (layer_of lines layers a) 0) [
        | inl zeroth ↦
            omega (
              arith,
              index.0,
              index.1,
              ap (layer_first lines) zeroth,
              ap (layer_count lines) zeroth,
              layer_first-zero lines,
              layer_count-zero lines,
            )
        | inr over ↦ absurd (none_is_not (sym none ∙ children_of-above lines layers a _ refl over))
      ]

  -- A block's line is the play's.
  pub line_is : (a : ℕ) → a < keys.shape.total
      → line_at keys.shape g a ≡ play_line config now.chip.counters now.data_lines a
  line_is a inside =
      by_children (children_of keys.shape.lines keys.shape.layers a) refl
      ∙ sym (ap (λ (o : Option (ℕ × ℕ)). option_map_or (family_line count) o (data_line now.data_lines a)) children_are)
    where
      children_are : children_of config.shape.lines config.shape.layers a
          ≡ children_of keys.shape.lines keys.shape.layers a
      children_are = ap (λ n. children_of n config.shape.layers a) lines_are
          ∙ ap (λ n. children_of keys.shape.lines n a) layers_are

      by_children : (family : Option (ℕ × ℕ)) → children_of keys.shape.lines keys.shape.layers a ≡ family
          → line_by g.count (g.data_lines a) family
          ≡ option_map_or (family_line count) family (data_line now.data_lines a)
      by_children None leaf = x.stored a (leaf_low a inside leaf)
      by_children (Some (first, number)) children =
          let few = (children_few keys.shape.lines keys.shape.layers a first number
          (omega (arith, inside, total_is)) children).1 in
          let has = family_has g.count first number few (one_group a first number inside children) in
          ap line_in (family_only count first number (family_group g.count (first, number))
          (some_child keys.shape a first number lawful.shape inside children) (length-own_counts g.count first number)
          (record {
            children = λ k less. sym (counts_are (first + k)
                (children_inside keys.shape a first number k lawful.shape inside children less)) ∙ has.children k less;
            others = has.others;
          }))

  -- A held block is held under its counter, with the group of its line.
  held_is : (h : Held) → Has h o.front.held → (h.address.0 < keys.shape.total)
      × (h.counter ≡ count h.address.0)
      × (line_in h.group ≡ play_line config now.chip.counters now.data_lines h.address.0)
  held_is h among =
      let a : ℕ = h.address.0 in
      let listed : Has a g.held = subst (Has a) (sym x.stands.shown.groups.listed) (block_has o.front.held h among) in
      let inside : a < keys.shape.total = x.stands.shown.groups.inside a listed in
      let ((first, number), children) = x.stands.shown.groups.families a listed in
      let on_chip = held_has h o.front.held among in (
        inside,
        x.stands.shown.groups.counters (held_block h) on_chip ∙ counts_are a inside,
        group_line keys.shape g a first number h.group
            (some_child keys.shape a first number lawful.shape inside children) children x.calm.stepped x.calm.move
            (x.stands.shown.wide h among) (x.stands.shown.groups.groups (held_block h) on_chip) ∙ line_is a inside,
      )

  module _ (unaltered : o.port.tap.log.altered ≡ []) where
    -- what is known is the entry of its block
    known_is : (e : Entry) → Known keys o.port.tap.log g.count e
        → (e.address.0 < keys.shape.total) × (e ≡ entry_in keys config now e.address.0)
    known_is e (inl (reply, has, stood)) = absurd (subst (λ (l : List Altered). Has reply l) unaltered has)
    known_is e (inr genuine) =
        let a : ℕ = e.address.0 in
        let sound = x.stands.known.sound in
        let inside : a < keys.shape.total = (sound.fresh (message_in e (g.count a)) genuine.tagged).0 in
        let counter = counts_are a inside in
        let line : e.line.0 ≡ play_line config now.chip.counters now.data_lines a =
        sound.last (message_in e (g.count a)) genuine.tagged refl ∙ line_is a inside in (
          inside,
          same_entry keys e a (count a) (play_line config now.chip.counters now.data_lines a) refl
              (genuine.leaf ∙ ap (λ c. keys.leaf_of (real a c)) counter) line
              (genuine.tag_is ∙ ap (λ c. tag keys.tags (message_of a c e.line.0)) counter
              ∙ ap (λ l. tag keys.tags (message_of a (count a) l)) line),
        )

    -- how often a block stands
    times : (a : ℕ) → a < keys.shape.total
        → times_placed keys now.chip.held (contents o.port) a ≡ (if is_first (count a) then 0 else 1)
    times a inside =
        let home = x.stands.known.home unaltered a inside in
        let closed : tree_copies keys g.path (contents o.port).mirror a ≡ times_in_tree keys (contents o.port) a =
        ap (λ p. tree_copies keys p (contents o.port).mirror a) x.stands.known.closed in
        let held : count_by (λ b. b == a) g.held ≡ count_by (λ b. b == a) now.chip.held =
        ap (λ (l : List ℕ). count_by (λ b. b == a) l) held_are in
        let landed : flying a g.flight ≡ 0 = ap (flying a) x.calm.flight in
        let sum : times_placed keys now.chip.held (contents o.port) a
        ≡ copies a (contents o.port).hand + (tree_copies keys g.path (contents o.port).mirror a
        + (count_by (λ b. b == a) g.held + flying a g.flight)) = omega (arith, closed, held, landed) in
        sum ∙ home ∙ ap (λ c. if is_first c then 0 else 1) (counts_are a inside)

    -- Each block is at home.
    pub play_home : IsAtHome keys config now o.front.held (contents o.port)
    play_home = record {
      one_place = times;
      walked = x.shows.held;
      on_chip = held_is;
      at_hand = λ e has. known_is e (x.stands.known.sound.at_hand e has);
      in_tree = λ bucket e has.
          let known = known_is e (x.stands.known.sound.in_tree bucket e
          (subst (λ p. OffOpen keys.shape.levels p bucket) (sym x.stands.known.closed) tt) has) in
          (known.0, known.1, x.stands.known.always.placed bucket e has);
    }

-- So it is from the start on, after each request that is answered.
module _ (keys : Keys) (lawful : AreKeys keys) (levels : ℕ) (config : Config) where
  pub start_home : (o : OramState) → IsConfig config → IsNew keys config levels o → o.port.clock.config ≡ config
      → IsAtHome keys config (standing_at_start config) o.front.held (contents o.port)
  start_home o is new config_is =
      play_home keys lawful levels config [] (standing_at_start config) o
      (new_plays keys lawful levels config o is new config_is) (ap (λ (l : LogLists). l.altered) new.log)

  pub request_home : (slots : List Slot) (now : Standing) (request : LineRequest) (told : Told) (old new : OramState)
      → PlaysAs keys levels config slots now old → IsRequest config.shape.lines (called now.clock request)
      → OramStep keys levels old (called now.clock request) (Ok told) new → new.port.tap.log.altered ≡ []
      → IsAtHome keys config (request_slots config now request).standing new.front.held (contents new.port)
  request_home slots now request told old new x below step unaltered =
      elim (request_stands keys lawful levels config slots now request told old new x below step) [
        | inl forged ↦ absurd (subst (λ (l : List Altered). Has forged.reply l) unaltered forged.altered)
        | inr stands ↦ play_home keys lawful levels config (slots ++ (request_slots config now request).slots)
            (request_slots config now request).standing new stands.0 unaltered
      ]

  pub wait_home : (slots : List Slot) (now : Standing) (time : ℕ) (told : Told) (old new : OramState)
      → PlaysAs keys levels config slots now old → OramStep keys levels old (Wait time) (Ok told) new
      → new.port.tap.log.altered ≡ [] → IsAtHome keys config now new.front.held (contents new.port)
  wait_home slots now time told old new x step unaltered =
      let more = passed (public_of config) now.numbers time now.pace in
      let home = play_home keys lawful levels config (slots ++ more.slots) (record now { pace = more.pace }) new
      (wait_stands keys lawful levels config slots now time told old new x step).0 unaltered in
      record {
        one_place = home.one_place;
        walked = home.walked;
        on_chip = home.on_chip;
        at_hand = home.at_hand;
        in_tree = home.in_tree;
      }
