-- Accesses that show what a walk's accesses show are the walk's, where the memory has the play's data lines.
use Rattle.std.proofs.Common.{◌≡◌, ◌<◌, ◌≤◌, ℕ, List, [], ◌∷◌, Option, Some, None, inl, inr, refl, sym, ap, ◌∙◌}
use Rattle.std.proofs.Common.{arith}
use Rattle.std.specs.Option.{option_map, option_map_or}
use Rattle.std.proofs.lemmas.Bool.{cases_eq}
use Rattle.asc_base.specs.TreeShape.{layer_first, layer_count, layer_of, children_of}
use Rattle.asc_base.specs.declared.block.Counter.{Counter}
use Rattle.asc_base.specs.declared.block.Line.{Line}
use Rattle.asc_base.specs.declared.block.Message.{Message}
use Rattle.asc_base.specs.declared.settings.Config.{Config}
use Rattle.asc_base.proofs.Layers.{index_of-lt, layer_first-le, layer_first-next, layer_first-zero}
use Rattle.asc_base.proofs.Layers.{layer_count-zero, children_of-above}
use Rattle.asc_base.proofs.Lookups.{none_is_not}
use Rattle.data_cache.specs.Lines.{LineRequest, Fetch, Store}
use Rattle.oram_frontend.specs.Access.{next_message}
use Rattle.oram_walk.specs.Memory.{Accessed, Displaced}
use Rattle.oram_walk.specs.Shows.{put_of, displaced_by, found_line, shown_by}
use Rattle.oram_walk.specs.declared.slots.Access.{Access}
use Rattle.posmap_counters.specs.Counters.{Counters, counter_at}
use Rattle.posmap_counters.specs.Families.{family_line}
use Rattle.posmap_lookaside.specs.Walk.{WalkAccess, WalkSizes, OnChip, Purpose as WalkPurpose}
use Rattle.posmap_lookaside.specs.Walk.{Refill as Refills, Final, Moves, walk, IsMapBlock, IsHeldList}
use Rattle.run_play.specs.Requests.{StoredLines, data_line, walk_sizes, line_at, message_of, put_back}
use Rattle.run_play.specs.Requests.{requested, value_of}
use Rattle.oram_play.specs.InTurn.{AnsweredAccess}
use Rattle.oram_play.specs.Shown.{appended_shown, answered_shown, AreShownAs}
use Rattle.oram_play.specs.Taken.{put_in}
use Rattle.oram_play.specs.Walked.{IsWalked, AreWalked, put_for}
use Rattle.oram_play.proofs.Inside.{IsInside, AreInside, walk-inside}

-- the message of a block, by its parts
same_message : (m : Message) (address : ℕ) (counter : Counter) (line : Line) → m.address.0 ≡ address
    → m.counter ≡ counter → m.line ≡ line
    → (let made : Message = record { address = record { 0 = address }; counter = counter; line = line } in made) ≡ m
same_message m address counter line a c l =
    λ i. record { address = record { 0 = sym a i }; counter = sym c i; line = sym l i }

module _ (config : Config) (stored : StoredLines) (lines : ℕ → Line)
    (same : (a : ℕ) → a < config.shape.lines → (lines a).0 ≡ data_line stored a) where
  abbrev sizes : WalkSizes
  sizes = walk_sizes config

  -- a block of the shape without children is a data line
  leaf-low : (a : ℕ) → a < layer_first sizes.lines sizes.layers → children_of sizes.lines sizes.layers a ≡ None
      → a < config.shape.lines
  leaf-low a low none =
      let index = index_of-lt sizes.lines sizes.layers a low in
      elim (cases_eq (layer_of sizes.lines sizes.layers a) 0) [
        | inl zeroth ↦
            omega (
              arith,
              index.0,
              index.1,
              ap (layer_first sizes.lines) zeroth,
              ap (layer_count sizes.lines) zeroth,
              layer_first-zero sizes.lines,
              layer_count-zero sizes.lines,
            )
        | inr over ↦
            absurd (none_is_not (sym none ∙ children_of-above sizes.lines sizes.layers a _ refl over))
      ]

  -- the line that is found is the play's
  found-line : (counters : Counters) (a : ℕ) → a < layer_first sizes.lines sizes.layers
      → found_line sizes (counter_at counters) lines a ≡ record { 0 = line_at config counters stored a }
  found-line counters a low = by (children_of sizes.lines sizes.layers a) refl
    where
      by : (o : Option (ℕ × ℕ)) → children_of sizes.lines sizes.layers a ≡ o
          → option_map_or (λ (family : ℕ × ℕ).
          let line : Line = record { 0 = family_line (counter_at counters) family } in line) o (lines a)
          ≡ record { 0 = option_map_or (family_line (counter_at counters)) o (data_line stored a) }
      by None none = ap {B = Line} (λ (bytes : List ℕ). record { 0 = bytes }) (same a (leaf-low a low none))
      by (Some family) children = refl

  -- and so is that of what is displaced
  displaced-line : (counters : Counters) (last : ℕ) → IsMapBlock sizes last
      → displaced_by sizes (counter_at counters) last
      ≡ Displaced last (counter_at counters last) (record { 0 = line_at config counters stored last })
  displaced-line counters last is =
      ap (λ (o : Option (ℕ × ℕ)). Displaced last (counter_at counters last)
      (record { 0 = option_map_or (family_line (counter_at counters)) o [] })) is.2
      ∙ ap (λ (o : Option (ℕ × ℕ)). Displaced last (counter_at counters last)
      (record { 0 = option_map_or (family_line (counter_at counters)) o (data_line stored last) })) (sym is.2)

  same_shown : (m : Message) (address : ℕ) (counter : Counter) (line : Line)
      → Displaced m.address.0 m.counter m.line ≡ Displaced address counter line
      → (let made : Message = record { address = record { 0 = address }; counter = counter; line = line } in made) ≡ m
  same_shown m address counter line e =
      let a : m.address.0 ≡ address = cc in
      let c : m.counter ≡ counter = cc in
      let l : m.line ≡ line = cc in
      same_message m address counter line a c l

  appended-is : (counters : Counters) (d : Option ℕ) (o : Option Message)
      → ((last : ℕ) → d ≡ Some last → IsMapBlock sizes last)
      → appended_shown o ≡ option_map_or (λ last. displaced_by sizes (counter_at counters) last ∷ []) d []
      → option_map (message_of config counters stored) d ≡ o
  appended-is counters None None maps e = refl
  appended-is counters None (Some m) maps e = absurd cc
  appended-is counters (Some last) None maps e = absurd cc
  appended-is counters (Some last) (Some m) maps e =
      let head : Displaced m.address.0 m.counter m.line ≡ displaced_by sizes (counter_at counters) last = cc in
      ap (λ (x : Message). Some x)
      (same_shown m last (counter_at counters last) (record { 0 = line_at config counters stored last })
      (head ∙ displaced-line counters last (maps last refl)))

  -- what is put back
  put-is : (request : LineRequest) (purpose : WalkPurpose) (w : WalkAccess) (access : Access) (line : Line)
      → access.address.0 ≡ w.address → access.next ≡ counter_at w.counters w.address
      → line ≡ record { 0 = line_at config w.counters stored w.address }
      → put_back config stored (value_of request) w purpose ≡ put_in access line (put_of (put_for request) purpose)
  put-is request Refills w access line a c l = refl
  put-is request Moves w access line a c l =
      ap (λ (x : Message). Some x) (same_message (next_message access line) w.address _ _ a c l)
  put-is (Fetch n) Final w access line a c l =
      ap (λ (x : Message). Some x) (same_message (next_message access line) w.address _ _ a c l)
  put-is (Store n value) Final w access line a c l =
      ap (λ (x : Message). Some x)
      (same_message (next_message access (record { 0 = value })) w.address _ (record { 0 = value }) a c refl)

  one-walked : (request : LineRequest) (w : WalkAccess) (one : AnsweredAccess) → IsInside sizes w
      → answered_shown one ≡ shown_by sizes lines (put_for request) w
      → IsWalked config stored (value_of request) w one
  one-walked request w one is e =
      let head : Accessed one.access.address.0 one.access.counter one.access.next one.access.purpose one.line
      ≡ Accessed w.address w.counter (counter_at w.counters w.address) (put_of (put_for request) w.purpose)
      (found_line sizes (counter_at w.counters) lines w.address) = cc in
      let tail : appended_shown one.appended
      ≡ option_map_or (λ last. displaced_by sizes (counter_at w.counters) last ∷ []) w.displaced [] = cc in
      let address : one.access.address.0 ≡ w.address = cc in
      let counter : one.access.counter ≡ w.counter = cc in
      let next : one.access.next ≡ counter_at w.counters w.address = cc in
      let purpose : one.access.purpose ≡ put_of (put_for request) w.purpose = cc in
      let found : one.line ≡ found_line sizes (counter_at w.counters) lines w.address = cc in
      record {
        address = sym address;
        counter = sym counter;
        put = put-is request w.purpose w one.access one.line address next
            (found ∙ found-line w.counters w.address is.inside)
            ∙ ap (put_in one.access one.line) (sym purpose);
        appended = appended-is w.counters w.displaced one.appended is.displaced tail;
      }

  all-walked : (request : LineRequest) (ws : List WalkAccess) (accesses : List AnsweredAccess) → AreInside sizes ws
      → AreShownAs sizes lines (put_for request) ws accesses
      → AreWalked config stored (value_of request) ws accesses
  all-walked request [] [] inside are = tt
  all-walked request (w ∷ ws) (one ∷ more) inside are =
      (one-walked request w one inside.0 are.0, all-walked request ws more inside.1 are.1)
  all-walked request [] (one ∷ more) inside are = absurd are
  all-walked request (w ∷ ws) [] inside are = absurd are

pub shown-walked : (config : Config) (stored : StoredLines) (lines : ℕ → Line) (chip : OnChip) (request : LineRequest)
    (accesses : List AnsweredAccess) → 1 ≤ config.shape.layers → IsHeldList (walk_sizes config) chip.held
    → requested request < config.shape.lines
    → ((a : ℕ) → a < config.shape.lines → (lines a).0 ≡ data_line stored a)
    → AreShownAs (walk_sizes config) lines (put_for request)
    (walk (walk_sizes config) chip (requested request)).accesses accesses
    → AreWalked config stored (value_of request) (walk (walk_sizes config) chip (requested request)).accesses accesses
shown-walked config stored lines chip request accesses some held below same are =
    let n : ℕ = config.shape.lines in
    let low : requested request < layer_first n config.shape.layers =
    omega (
      arith,
      layer_first-le n 1 config.shape.layers some,
      layer_first-next n 0,
      layer_first-zero n,
      layer_count-zero n,
    ) in
    all-walked config stored lines same request (walk (walk_sizes config) chip (requested request)).accesses accesses
    (walk-inside (walk_sizes config) chip (requested request) low held) are
