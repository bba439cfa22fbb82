-- How a play goes on, instruction by instruction.
use Rattle.std.proofs.Common.{◌≡◌, ◌<◌, ◌≤◌, ℕ, suc, List, [], ◌∷◌, ◌++◌, Option, Some, None, refl, sym, ap, ◌∙◌}
use Rattle.std.proofs.Common.{append_assoc}
use Rattle.std.proofs.lemmas.Bool.{lt-ltb, le-ltb}
use Rattle.asc_base.specs.declared.settings.Config.{Config}
use Rattle.data_cache.specs.CacheLists.{Lines}
use Rattle.request_plan.specs.Play.{bare}
use Rattle.rv32_core.specs.Machine.{Machine}
use Rattle.run_play.specs.Slots.{Slot}
use Rattle.run_play.specs.Requests.{Standing, Taken, none_taken, followed, one_by_one, request_slots}
use Rattle.run_play.specs.Play.{Play, Budget, after_slots, instruction, begins, after_requests, comes_to, times_out}
use Rattle.run_play.specs.Play.{play_from}

-- slots before slots
pub after_slots-twice : (one two : List Slot) (rest : Play)
    → after_slots one (after_slots two rest) ≡ after_slots (one ++ two) rest
after_slots-twice one two rest =
    ap (λ slots. record rest { slots = slots }) (sym (append_assoc one two rest.slots))

-- no instruction is left
pub play-none : (config : Config) (machine : Machine) (lines : Lines) (now : Standing)
    → play_from config 0 machine lines now ≡ comes_to config Budget now
unfolding play_from
play-none config machine lines now = refl

-- no time is left
pub play-late : (config : Config) (n : ℕ) (machine : Machine) (lines : Lines) (now : Standing)
    → config.time ≤ now.clock → play_from config (suc n) machine lines now ≡ times_out config now.clock now
unfolding play_from
play-late config n machine lines now late =
    ap (begins config (play_from config n) machine lines now) (le-ltb now.clock config.time late)

-- an instruction, and then the rest
pub play-next : (config : Config) (n : ℕ) (machine : Machine) (lines : Lines) (now : Standing)
    → now.clock < config.time → let step = instruction config.ways machine lines in
    let taken = one_by_one (request_slots config) (bare step.records) now in
    play_from config (suc n) machine lines now
    ≡ after_slots taken.slots
    (after_requests config (play_from config n ((step.outcome).0) step.held) taken.standing
    ((step.outcome).1).cost taken.standing.late ((step.outcome).1).ended)
unfolding play_from
play-next config n machine lines now early =
    ap (begins config (play_from config n) machine lines now) (lt-ltb now.clock config.time early)

-- ---- requests one after another
followed-inner : (slots : List Slot) (first : Taken) (rest : Standing → Taken) (late : Option ℕ)
    → (let more = followed first rest late in
    let both : Taken = record { slots = slots ++ more.slots; standing = more.standing } in both)
    ≡ followed (record { slots = slots ++ first.slots; standing = first.standing }) rest late
followed-inner slots first rest None =
    ap (λ l. let both : Taken = record { slots = l; standing = (rest first.standing).standing } in both)
    (sym (append_assoc slots first.slots (rest first.standing).slots))
followed-inner slots first rest (Some late) = refl

module _ {Q : Type 0} (take_one : Standing → Q → Taken) where
  append-next : (xs ys : List Q) (first : Taken) (late : Option ℕ) → first.standing.late ≡ late
      → (first.standing.late ≡ None → one_by_one take_one (xs ++ ys) first.standing
      ≡ (let next = one_by_one take_one xs first.standing in
      followed next (one_by_one take_one ys) next.standing.late))
      → followed first (one_by_one take_one (xs ++ ys)) late
      ≡ (let all = followed first (one_by_one take_one xs) late in
      followed all (one_by_one take_one ys) all.standing.late)
  append-next xs ys first None is rest =
      ap
      (λ (more : Taken).
      let both : Taken = record { slots = first.slots ++ more.slots; standing = more.standing } in both)
      (rest is)
      ∙ (let next = one_by_one take_one xs first.standing in
      followed-inner first.slots next (one_by_one take_one ys) next.standing.late)
  append-next xs ys first (Some l) is rest = ap (followed first (one_by_one take_one ys)) (sym is)

  -- of two lists
  pub one_by_one-append : (xs ys : List Q) (now : Standing) → now.late ≡ None
      → one_by_one take_one (xs ++ ys) now
      ≡ (let first = one_by_one take_one xs now in
      followed first (one_by_one take_one ys) first.standing.late)
  unfolding one_by_one
  one_by_one-append [] ys now fresh = ap (followed (none_taken now) (one_by_one take_one ys)) (sym fresh)
  one_by_one-append (x ∷ xs) ys now fresh =
      append-next xs ys (take_one now x) (take_one now x).standing.late refl
      (λ is. one_by_one-append xs ys (take_one now x).standing is)
