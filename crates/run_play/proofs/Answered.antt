-- Over what stands for a list of bytes, what an access asks for is answered by these bytes.
use Rattle.std.proofs.Common.{◌≡◌, ℕ, ◌+◌, ◌-◌, ◌*◌, ◌<◌, ◌≤◌, Bool, true, false, not, ◌==◌, ◌||◌, ◌&&◌, List, []}
use Rattle.std.proofs.Common.{◌∷◌, Option, Some, None, length, refl, sym, ap, ◌∙◌, arith, inl, inr, ◌⊎◌}
use Rattle.std.specs.Prelude.{if◌then◌else◌}
use Rattle.std.proofs.lemmas.Bool.{and_parts}
use Rattle.asc_base.specs.declared.settings.Config.{Config}
use Rattle.data_cache.specs.Cached.{line_at, place_at, lists_access, HasBytes}
use Rattle.data_cache.specs.CacheLists.{Kept, Sets, Lines, needs, keeps, keeps_dirty, set_of, with_kept, victim}
use Rattle.data_cache.specs.CacheLists.{stored, fetched, set_settled, set_after, line_in, ask_all, sets_after}
use Rattle.data_cache.specs.CacheLists.{use_set, after_use, write_whole_line}
use Rattle.data_cache.specs.Lines as lines
use Rattle.data_cache.specs.Lines.{LineRequest, Fetch}
use Rattle.data_cache.proofs.Parts.{patched_own}
use Rattle.posmap_lookaside.specs.Walk.{walk}
use Rattle.request_plan.specs.Plan.{Plan, Done, bind}
use Rattle.request_plan.specs.Play.{Played, play}
use Rattle.request_plan.proofs.Plays.{play-bind}
use Rattle.rv32_core.specs.Access.{Access, Load, Store, IsAccess, slice_of, spliced}
use Rattle.rv32_core.specs.LineList.{LineUse, Read, Write}
use Rattle.rv32_core.specs.Machine.{CoreState}
use Rattle.run_play.specs.Honest.{stored_by, IsStored, IsHonest}
use Rattle.run_play.specs.Requests.{data_line}
use Rattle.run_play.specs.Play.{access_turn, image_use}
use Rattle.run_play.specs.Requests.{StoredLines, Standing, Taken, none_taken, followed, one_by_one, request_done}
use Rattle.run_play.specs.Requests.{requested, value_of, access_slot, walk_sizes, request_slots}
use Rattle.run_play.specs.Slots.{Slot}
use Rattle.run_play.specs.Turns.{unless_late, line_slots}
use Rattle.run_play.proofs.Honest.{line-front}
use Rattle.run_play.proofs.Stored.{data_in, done-data, walk-data}

-- a line that isn't kept isn't kept dirty
kept-by : (same dirty : Bool) (more less : Bool) → (less ≡ true → more ≡ true) → ((same && dirty) || less) ≡ true
    → (same || more) ≡ true
kept-by true dirty more less rest h = refl
kept-by false dirty more less rest h = rest h

dirty-kept : (set : List Kept) (n : ℕ) → keeps_dirty set n ≡ true → keeps set n ≡ true
dirty-kept [] n h = h
dirty-kept (k ∷ set) n h = kept-by (k.line == n) k.dirty (keeps set n) (keeps_dirty set n) (dirty-kept set n) h

module _ (config : Config) where
  -- ---- the data lines after a request, be it answered or too late
  abbrev Either : StoredLines → LineRequest → StoredLines → Type 0
  Either was request now = (now ≡ was) ⊎ (now ≡ stored_by was (request ∷ []))

  followed-either : (first : Taken) (rest : Standing → Taken) (late : Option ℕ) (was : StoredLines)
      (request : LineRequest) → data_in first.standing ≡ was
      → ((next : Standing) → data_in (rest next).standing ≡ stored_by (data_in next) (request ∷ []))
      → Either was request (data_in (followed first rest late).standing)
  followed-either first rest (Some late) was request is done = inl is
  followed-either first rest None was request is done =
      inr (done first.standing ∙ ap (λ l. stored_by l (request ∷ [])) is)

  request-either : (now : Standing) (request : LineRequest)
      → Either (data_in now) request (data_in (request_slots config now request).standing)
  request-either now request =
      let walked = walk (walk_sizes config) now.chip (requested request) in
      let done : Taken = one_by_one (access_slot config (value_of request)) walked.accesses now in
      followed-either done (λ after. none_taken (request_done request (record after { chip = walked.chip })))
      done.standing.late (data_in now) request (walk-data config (value_of request) walked.accesses now)
      (λ next. done-data config request (record next { chip = walked.chip }))

  unless-either : (late : Option ℕ) (now : Standing) (request : LineRequest)
      → Either (data_in now) request (data_in (unless_late late (request_slots config now request) now).standing)
  unless-either None now request = request-either now request
  unless-either (Some late) now request = inl refl

  -- a line that was last stored as the bytes have it stays so
  either-keeps : (memory : List ℕ) (was now : StoredLines) (line n : ℕ)
      → Either was (lines.Store line (line_in memory line)) now → data_line was n ≡ line_in memory n
      → data_line now n ≡ line_in memory n
  either-keeps memory was now line n (inl is) h = ap (λ l. data_line l n) is ∙ h
  either-keeps memory was now line n (inr is) h =
      ap (λ l. data_line l n) is
      ∙ line-front line (line_in memory line) was n (line_in memory n) (λ e. ap (line_in memory) (sym e)) (λ other. h)

  -- ---- what is asked of a set
  -- the dirty victim is stored, and nothing is answered
  pub record Stores (memory : List ℕ) (now : Standing) (after : Played Slot Standing (List Kept)
      (List ℕ)) : Type 0 where
    pub outcome : after.outcome ≡ memory
    pub keeps : (n : ℕ) → data_line (data_in now) n ≡ line_in memory n
        → data_line (data_in after.held) n ≡ line_in memory n

  store-by : (left : List Kept) (memory : List ℕ) (k : Kept) (dirty : Bool) (now : Standing)
      → Stores memory now
      (play (line_slots config)
      (ask_all left memory (if dirty then lines.Store k.line (line_in memory k.line) ∷ [] else [])) now)
  store-by left memory k false now = record { outcome = refl; keeps = λ n h. h }
  store-by left memory k true now = record {
    outcome = refl;
    keeps = λ n h. either-keeps memory (data_in now) _ k.line n
        (unless-either now.late now (lines.Store k.line (line_in memory k.line))) h;
  }

  store-plays : (left : List Kept) (memory : List ℕ) (last : Option Kept) (now : Standing)
      → Stores memory now (play (line_slots config) (ask_all left memory (stored memory last)) now)
  store-plays left memory None now = record { outcome = refl; keeps = λ n h. h }
  store-plays left memory (Some k) now = store-by left memory k k.dirty now

  -- a line that is fetched is answered as the bytes have it
  fetch-by : (left : List Kept) (memory : List ℕ) (line : ℕ) (need : Bool) (now : Standing)
      → 64 * line + 64 ≤ length memory → (need ≡ true → data_line (data_in now) line ≡ line_in memory line)
      → (play (line_slots config) (ask_all left memory (if need then Fetch line ∷ [] else [])) now).outcome ≡ memory
  fetch-by left memory line false now room stands = refl
  fetch-by left memory line true now room stands =
      ap (spliced memory (64 * line)) (stands refl) ∙ patched_own memory line room

  needs-none : (use_of : LineUse) (set : List Kept) (memory : List ℕ) (before : StoredLines)
      → (keeps_dirty set use_of.line ≡ true) ⊎ (data_line before use_of.line ≡ line_in memory use_of.line)
      → (needs use_of.kind && not (keeps set use_of.line)) ≡ true
      → data_line before use_of.line ≡ line_in memory use_of.line
  needs-none use_of set memory before (inr stands) need = stands
  needs-none use_of set memory before (inl dirty) need =
      let kept : keeps set use_of.line ≡ true = dirty-kept set use_of.line dirty in
      let none : not (keeps set use_of.line)
      ≡ true = (and_parts (needs use_of.kind) (not (keeps set use_of.line)) need).1 in
      let no : false ≡ true = ap not (sym kept) ∙ none in absurd cc

  -- a use of a set
  pub use-plays : (ways : ℕ) (set : List Kept) (memory : List ℕ) (use_of : LineUse) (now : Standing)
      → 64 * use_of.line + 64 ≤ length memory
      → ((needs use_of.kind && not (keeps set use_of.line)) ≡ true
      → data_line (data_in now) use_of.line ≡ line_in memory use_of.line)
      → (play (line_slots config) (use_set ways set memory use_of) now).outcome ≡ (set_after ways set use_of, memory)
  use-plays ways set memory use_of now room wants =
      let last : Option Kept = victim ways set use_of.line in
      let storing = ask_all set memory (stored memory last) in
      let after = play (line_slots config) storing now in
      let fetching = λ (m : List ℕ). ask_all (set_settled ways set last) m (fetched set use_of) in
      let end : List ℕ → Plan LineRequest (List ℕ) (List Kept) (List Kept × List ℕ) =
      (λ brought. Done (set_after ways set use_of, brought)) in
      let s : Stores memory now after = store-plays set memory last now in
      let then_fetch = λ (m : List ℕ). bind (λ (left : List Kept). left) (fetching m) end in
      ap (λ (p : Played Slot Standing (List Kept) (List Kept × List ℕ)). p.outcome)
      (play-bind (line_slots config) (λ (left : List Kept). left) storing then_fetch now)
      ∙ ap (λ m. (play (line_slots config) (then_fetch m) after.held).outcome) s.outcome
      ∙ ap (λ (p : Played Slot Standing (List Kept) (List Kept × List ℕ)). p.outcome)
      (play-bind (line_slots config) (λ (left : List Kept). left) (fetching memory) end after.held)
      ∙ ap (λ (m : List ℕ). let pair : List Kept × List ℕ = (set_after ways set use_of, m) in pair)
      (fetch-by (set_settled ways set last) memory use_of.line (needs use_of.kind && not (keeps set use_of.line))
      after.held room
      (λ need. s.keeps use_of.line (wants need)))

  -- ---- an access of a core
  -- the place of an address in its line
  place-is : (base address : ℕ) → 64 * line_at base address + place_at base address ≡ address - base
  place-is base address = omega arith

  load-plays : (base ways address size : ℕ) (lists : Lines) (now : Standing)
      → 64 * line_at base address + 64 ≤ length lists.memory
      → IsStored lists (data_in now) (line_at base address)
      → (play (line_slots config) (lists_access base ways lists (Load address size)) now).outcome
      ≡ (
        after_use lists (line_at base address)
            (set_after ways (set_of lists.sets (line_at base address))
            (record { line = line_at base address; kind = Read }))
            lists.memory,
        slice_of lists.memory (address - base) size,
      )
  load-plays base ways address size lists now room stands =
      let line : ℕ = line_at base address in
      let use_of : LineUse = record { line = line; kind = Read } in
      let set : List Kept = set_of lists.sets line in
      let end : List Kept × List ℕ → Plan LineRequest (List ℕ) Sets (Lines × List ℕ) =
      (λ r. Done (after_use lists line (r.0) (r.1), slice_of (r.1) (64 * line + place_at base address) size)) in
      ap (λ (p : Played Slot Standing Sets (Lines × List ℕ)). p.outcome)
      (play-bind (line_slots config) (with_kept lists.sets line) (use_set ways set lists.memory use_of) end now)
      ∙ ap
      (λ (r : List Kept × List ℕ). let out : Lines × List ℕ =
      (after_use lists line (r.0) (r.1), slice_of (r.1) (64 * line + place_at base address) size) in out)
      (use-plays ways set lists.memory use_of now room (needs-none use_of set lists.memory (data_in now) stands))
      ∙ ap (λ k. let out : Lines × List ℕ =
      (after_use lists line (set_after ways set use_of) lists.memory, slice_of lists.memory k size) in out)
      (place-is base address)

  store-plays-access : (base ways address : ℕ) (bytes : List ℕ) (lists : Lines) (now : Standing)
      → 64 * line_at base address + 64 ≤ length lists.memory
      → IsStored lists (data_in now) (line_at base address)
      → (play (line_slots config) (lists_access base ways lists (Store address bytes)) now).outcome
      ≡ (
        after_use lists (line_at base address)
            (set_after ways (set_of lists.sets (line_at base address))
            (record { line = line_at base address; kind = Write }))
            (spliced lists.memory (address - base) bytes),
        [],
      )
  store-plays-access base ways address bytes lists now room stands =
      let line : ℕ = line_at base address in
      let use_of : LineUse = record { line = line; kind = Write } in
      let set : List Kept = set_of lists.sets line in
      let inner : List Kept × List ℕ → Plan LineRequest (List ℕ) Sets Lines =
      (λ r. Done (after_use lists line (r.0) (spliced (r.1) (64 * line + place_at base address) bytes))) in
      let write : Plan LineRequest (List ℕ) Sets Lines =
      bind (with_kept lists.sets line) (use_set ways set lists.memory use_of) inner in
      let outer : Lines → Plan LineRequest (List ℕ) Sets (Lines × List ℕ) = (λ after. Done (after, [])) in
      ap (λ (p : Played Slot Standing Sets (Lines × List ℕ)). p.outcome)
      (play-bind (line_slots config) (λ (left : Sets). left) write outer now)
      ∙ ap (λ (p : Played Slot Standing Sets Lines). let out : Lines × List ℕ = (p.outcome, []) in out)
      (play-bind (line_slots config) (with_kept lists.sets line) (use_set ways set lists.memory use_of) inner now)
      ∙ ap
      (λ (r : List Kept × List ℕ). let out : Lines × List ℕ =
      (after_use lists line (r.0) (spliced (r.1) (64 * line + place_at base address) bytes), []) in out)
      (use-plays ways set lists.memory use_of now room (needs-none use_of set lists.memory (data_in now) stands))
      ∙ ap (λ k. let out : Lines × List ℕ =
      (after_use lists line (set_after ways set use_of) (spliced lists.memory k bytes), []) in out)
      (place-is base address)

  -- what its line has
  line-of-all : (ways count : ℕ) (lists : Lines) (before : StoredLines) (line : ℕ) → line < count
      → IsHonest ways count [] lists before → IsStored lists before line
  line-of-all ways count lists before line below h = elim (h.each line below) [
    | inl none ↦ absurd none
    | inr stands ↦ stands
  ]

  pub access-plays : (ways count : ℕ) (core : CoreState) (access : Access) (lists : Lines) (now : Standing)
      → IsAccess core.base (64 * count) access → HasBytes access → length lists.memory ≡ 64 * count
      → IsHonest ways count [] lists now.data_lines
      → let turn = access_turn ways core lists access in
      (play (line_slots config) (lists_access core.base ways lists access) now).outcome ≡ (turn.held, turn.answer)
  access-plays ways count core (Load address size) lists now is some long h =
      let low : core.base ≤ address = is.above in
      let high : address + size ≤ core.base + 64 * count = is.below in
      load-plays core.base ways address size lists now (omega arith)
      (line-of-all ways count lists now.data_lines (line_at core.base address) (omega arith) h)
  access-plays ways count core (Store address bytes) lists now is some long h =
      let low : core.base ≤ address = is.above in
      let high : address + length bytes ≤ core.base + 64 * count = is.below in
      store-plays-access core.base ways address bytes lists now (omega arith)
      (line-of-all ways count lists now.data_lines (line_at core.base address) (omega arith) h)

  -- a line that is written whole as the bytes have it
  pub whole-plays : (ways line : ℕ) (value : List ℕ) (lists : Lines) (now : Standing)
      → 64 * line + 64 ≤ length lists.memory → value ≡ line_in lists.memory line
      → (play (line_slots config) (write_whole_line ways lists line value) now).outcome
      ≡ record lists { sets = sets_after ways lists.sets (image_use line) }
  whole-plays ways line value lists now room is =
      let set : List Kept = set_of lists.sets line in
      let end : List Kept × List ℕ → Plan LineRequest (List ℕ) Sets Lines =
      (λ r. Done (after_use lists line (r.0) (spliced (r.1) (64 * line) value))) in
      ap (λ (p : Played Slot Standing Sets Lines). p.outcome)
      (play-bind (line_slots config) (with_kept lists.sets line) (use_set ways set lists.memory
      (image_use line)) end now)
      ∙ ap (λ (r : List Kept × List ℕ). after_use lists line (r.0) (spliced (r.1) (64 * line) value))
      (use-plays ways set lists.memory (image_use line) now room (λ need. absurd cc))
      ∙ ap (λ v. after_use lists line (set_after ways set (image_use line)) (spliced lists.memory (64 * line) v)) is
      ∙ ap (after_use lists line (set_after ways set (image_use line))) (patched_own lists.memory line room)
