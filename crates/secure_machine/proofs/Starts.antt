-- Before the first slot.
use Rattle.std.proofs.Common.{◌≡◌, ◌≤◌, ◌<◌, ◌+◌, ◌*◌, ◌^◌, ◌∙◌, ℕ, List, [], Option, None, Some, IsSome, option_map}
use Rattle.std.proofs.Common.{Result, Ok, Err, IfOk, OnErr, length, refl, sym}
use Rattle.std.proofs.Common.{ap, subst, arith}
use Rattle.std.specs.Prelude.{All}
use Rattle.std.proofs.lemmas.List.Elements.{All-nil}
use Rattle.std.proofs.lemmas.Nat.{mul-le}
use Rattle.asc_base.proofs.ShapeFacts.{shape_layered}
use Rattle.asc_base.specs.Settings.{IsConfig, IsPowerTo}
use Rattle.asc_base.specs.TreeShape.{olat_of}
use Rattle.asc_base.specs.declared.block.Point.{Point}
use Rattle.asc_base.specs.declared.settings.Config.{Config}
use Rattle.asc_base.specs.declared.shape.Shape.{Shape}
use Rattle.asc_outside.specs.Memory.{MemoryState, zero_buckets}
use Rattle.bus_schedule.proofs.PublicParts.{count-power}
use Rattle.bus_schedule.proofs.ScheduledLaws.{scheduled-config, scheduled-below, scheduled-codes}
use Rattle.bus_schedule.specs.Scheduled.{log_code}
use Rattle.bus_schedule.specs.Timetable.{public_of, Public, count_of}
use Rattle.bus_watch.proofs.PreparedLaws.{prepared_ties, prepared_ready}
use Rattle.bus_schedule.specs.Shown.{indices_of, leaves_of, code_of}
use Rattle.bus_watch.proofs.TiedLaws.{tied_start}
use Rattle.bus_watch.specs.declared.bus.BusStop.{BusStop}
use Rattle.bus_watch.specs.declared.bus.BusStop.TheVariants.{Device, NoMemory}
use Rattle.bus_watch.specs.Honest.{TellsMirror, MayTellMirror}
use Rattle.bus_watch.specs.Log.{TapState, LogLists}
use Rattle.bus_watch.specs.Prepared.{IsPrepared}
use Rattle.bus_watch.specs.Ready.{IsReady}
use Rattle.bus_watch.specs.Tied.{Tied}
use Rattle.epoch_learner.proofs.StandLaws.{stands_first, stands_pace}
use Rattle.epoch_learner.specs.Stands.{KeepsPace}
use Rattle.leaf_function.specs.Leaf.{AreLeaves}
use Rattle.oram_contents.specs.Entries.{AreKeys}
use Rattle.oram_contents.specs.Starts.{empty_log}
use Rattle.oram_frontend.specs.Oram.{oram_of}
use Rattle.oram_lines.specs.Lines.{IsNew}
use Rattle.oram_lines.specs.Standing.{DrawnOnce}
use Rattle.rate_enforcer.specs.PortStep.{Resting, port_of}
use Rattle.rate_enforcer.specs.Served.{keys_of}
use Rattle.secure_machine.specs.Run.{chip_keys}
use Rattle.oram_frontend.specs.declared.oram.Oram.{Oram}
use Rattle.oram_walk.specs.Front.{FrontState, first_front}
use Rattle.rate_enforcer.specs.Counts.{IsCounted}
use Rattle.rate_enforcer.specs.State.{Rests}
use Rattle.rate_enforcer.specs.declared.port.Port.{Port}
use Rattle.secure_machine.specs.Goes.{AsksMoves}
use Rattle.secure_machine.specs.LastMove.{EndsWithMove}
use Rattle.secure_machine.specs.Run.{IsInBudget, DrawsLeaves}
use Rattle.play_run.specs.Timed.{Serving}
use Rattle.secure_machine.proofs.LastMoves.{ends_with_move}

-- a fact on an Err that holds anyway
pub on_err_with : {A E X : Type 0} (result : Result A E) → X → OnErr result X
on_err_with (Ok a) x = tt
on_err_with (Err e) x = x

-- what holds of either answer
pub on_both : {A E : Type 0} (P : A → Type 0) (Q X : Type 0) (result : Result A E) → IfOk result P → OnErr result Q
    → ((a : A) → P a → X) → (Q → X) → X
on_both P Q X (Ok a) p q one other = one a p
on_both P Q X (Err e) p q one other = other q

-- two facts on an Ok, together
pub ok_both : {A E : Type 0} (P Q : A → Type 0) (result : Result A E) → IfOk result P → IfOk result Q
    → IfOk result (λ (a : A). P a × Q a)
ok_both P Q (Ok a) p q = (p, q)
ok_both P Q (Err e) p q = tt

-- a fact on an Err, from another
pub on_err_so : {A E : Type 0} (Q X : Type 0) (result : Result A E) → OnErr result Q → (Q → X) → OnErr result X
on_err_so Q X (Ok a) q other = tt
on_err_so Q X (Err e) q other = other q

-- an empty log keeps the pace up to 0
pub start_pace : (config : Config) (log : LogLists) → IsConfig config → log.events ≡ [] → log.moves ≡ []
    → KeepsPace config 0 log
start_pace config log is events moves =
    stands_pace 0 (stands_first config log is events moves) (omega arith) (omega arith)

-- an empty log draws no leaf
pub start_leaves : (config : Config) (log : LogLists) → log.events ≡ [] → DrawsLeaves config log
start_leaves config log events =
    subst (All (λ leaf. leaf < 2 ^ config.shape.levels)) (sym (ap leaves_of events))
    (All-nil (λ leaf. leaf < 2 ^ config.shape.levels))

-- in a log of no events no point was drawn twice
pub start_once : (log : LogLists) → log.events ≡ [] → DrawnOnce log.events
start_once log none = subst DrawnOnce (sym none) tt

-- a log that keeps the pace tells no more bits than the budget
pub pace_bits : (config : Config) (end : ℕ) (log : LogLists) → IsConfig config → KeepsPace config end log
    → log_code (public_of config) log < 2 ^ config.leak
pace_bits config end log is pace = scheduled-config config end log is pace.scheduled

pub pace_budget : (config : Config) (end : ℕ) (log : LogLists) → IsConfig config → KeepsPace config end log
    → IsInBudget config log
pace_budget config end log is pace =
    let power : IsPowerTo 4 (count_of (public_of config)) = count-power config is in
    record {
      code = scheduled-below (public_of config) end log pace.scheduled;
      few = scheduled-codes (public_of config) power.0 end log power.2 pace.scheduled;
    }

-- so does an empty one, which ends with no move
pub start_budget : (config : Config) (log : LogLists) → IsConfig config → log.events ≡ [] → log.moves ≡ []
    → IsInBudget config log
start_budget config log is events moves = pace_budget config 0 log is (start_pace config log is events moves)

pub start_ends : (config : Config) (log : LogLists) → IsConfig config → log.events ≡ [] → log.moves ≡ []
    → EndsWithMove config log
start_ends config log is events moves =
    ends_with_move config 0 log (start_pace config log is events moves).scheduled

-- no choice has the code 0
pub empty_code : (p : Public) (log : LogLists) → log.events ≡ [] → log_code p log ≡ 0
unfolding code_of
empty_code p log none = ap (λ events. code_of (count_of p) (indices_of events)) none

-- a prepared bus is tied from zero bytes on
pub zero_tied : (buckets levels accesses : ℕ) (m m' : MemoryState) (t t' : TapState) → t.log.moves ≡ []
    → t.log.altered ≡ [] → IsPrepared (Ok tt) buckets levels accesses m m' t t' → Tied m (zero_buckets buckets) m' t'
zero_tied buckets levels accesses m m' t t' moves altered prepared =
    subst (λ (before : List (List ℕ)). Tied m before m' t') prepared.by_answer.mirror
    (prepared_ties buckets levels accesses (Ok tt) m t.mirror moves (tied_start m t moves altered) prepared)

-- an encrypted memory of a new port serves, over a bus with room
pub new_serves : {L E : Type 0} (levels_of : L → ℕ) (config : Config) (port : Port L) (result : Result (Oram L) E)
    → IfOk result (λ (oram : Oram L). oram.front ≡ first_front config)
    → IfOk result (λ (oram : Oram L). oram.port ≡ port) → IfOk result (λ (oram : Oram L). oram.stop ≡ None)
    → port.tree.shape ≡ config.shape
    → ((notes left : ℕ) (memory : MemoryState) (tap : TapState) → tap.log.events ≡ [] → tap.log.moves ≡ []
    → config.time ≤ 64 + left * olat_of config.shape.levels
    → IsReady config.shape.buckets (2 * (config.shape.levels + 1) * left) (6 * left + notes) memory tap
    → Rests notes port.clock port.tree (levels_of port.leaves) memory tap)
    → IfOk result (λ (oram : Oram L). (left : ℕ) (memory : MemoryState) (tap : TapState) → tap.log.events ≡ []
    → tap.log.moves ≡ [] → config.time ≤ 64 + left * olat_of config.shape.levels
    → IsReady config.shape.buckets (2 * (config.shape.levels + 1) * left) (6 * left) memory tap
    → Serving (levels_of oram.port.leaves)
    (oram_of oram.front oram.port.clock oram.port.tree oram.stop memory tap))
new_serves levels_of config port (Err e) front same stop shape rests = tt
new_serves {L} levels_of config port (Ok oram) front same stop shape rests = λ left memory tap events
    moves enough ready.
    let none : 6 * left ≡ 6 * left + 0 = omega arith in
    record {
      going = stop;
      serves = record {
        rests = subst (λ (p : Port L). Rests 0 p.clock p.tree (levels_of p.leaves) memory tap) (sym same)
            (rests 0 left memory tap events moves enough
            (subst (λ n. IsReady config.shape.buckets (2 * (config.shape.levels + 1) * left) n memory tap) none ready));
        shape = ap (λ (f : FrontState). f.shape) front
            ∙ sym (ap (λ (p : Port L). p.tree.shape) same ∙ shape);
      };
    }

-- and its clock counts what an empty log notes
pub new_counts : {L E : Type 0} (port : Port L) (result : Result (Oram L) E)
    → IfOk result (λ (oram : Oram L). oram.port ≡ port)
    → ((log : LogLists) → log.events ≡ [] → IsCounted port.clock log)
    → IfOk result (λ (oram : Oram L). (log : LogLists) → log.events ≡ [] → IsCounted oram.port.clock log)
new_counts port (Err e) same counts = tt
new_counts {L} port (Ok oram) same counts =
    λ log none. subst (λ (p : Port L). IsCounted p.clock log) (sym same) (counts log none)

-- a bus that wasn't prepared has its tap as it was
pub refused_tap : (stop : BusStop) (buckets levels accesses : ℕ) (m m' : MemoryState) (t t' : TapState)
    → IsPrepared (Err stop) buckets levels accesses m m' t t' → t' ≡ t
refused_tap Device buckets levels accesses m m' t t' prepared = prepared.by_answer.kept
refused_tap NoMemory buckets levels accesses m m' t t' prepared = prepared.by_answer.kept

-- its memory failed, and counted it
pub refused_rose : (stop : BusStop) (buckets levels accesses : ℕ) (m m' : MemoryState) (t t' : TapState)
    → IsPrepared (Err stop) buckets levels accesses m m' t t' → stop ≡ Device → m.faults < m'.faults
refused_rose Device buckets levels accesses m m' t t' prepared is = prepared.by_answer.cause
refused_rose NoMemory buckets levels accesses m m' t t' prepared is = absurd cc

module _ {L E : Type 0} (leaf_of : L → Point → ℕ) (levels_of : L → ℕ) (config : Config) (codec tags : List ℕ)
    (leaves : L) (port : Port L) (result : Result (Oram L) E)
    (tagger : IfOk result (λ (oram : Oram L). oram.tagger ≡ tags))
    (same : IfOk result (λ (oram : Oram L). oram.port ≡ port)) (shape : port.tree.shape ≡ config.shape) where
  -- the keys of an encrypted memory of a new port
  pub new_keys : port.tree.key ≡ codec → port.leaves ≡ leaves → IfOk result (λ (oram : Oram L).
      keys_of oram.port.tree oram.tagger (leaf_of oram.port.leaves) ≡ chip_keys config codec tags (leaf_of leaves))
  new_keys key is = keys_by result tagger same
    where
      keys_by : (result : Result (Oram L) E) → IfOk result (λ (oram : Oram L). oram.tagger ≡ tags)
          → IfOk result (λ (oram : Oram L). oram.port ≡ port) → IfOk result (λ (oram : Oram L).
          keys_of oram.port.tree oram.tagger (leaf_of oram.port.leaves) ≡ chip_keys config codec tags (leaf_of leaves))
      keys_by (Err e) tagger same = tt
      keys_by (Ok oram) tagger same =
          let shape_is = ap (λ (p : Port L). p.tree.shape) same ∙ shape in
          let key_is = ap (λ (p : Port L). p.tree.key) same ∙ key in
          let leaves_are = ap (λ (p : Port L). leaf_of p.leaves) same ∙ ap leaf_of is in
          λ i. record { shape = shape_is i; pads = key_is i; tags = tagger i; leaf_of = leaves_are i }

  -- over a tap of zeros with an empty log it is new
  pub new_is : IfOk result (λ (oram : Oram L). oram.front ≡ first_front config) → port.tree.hand ≡ []
      → port.tree.seed ≡ 1 → port.clock.dummies ≡ 0 → port.clock.real ≡ 0
      → IfOk result (λ (oram : Oram L). (memory : MemoryState) (tap : TapState) → tap.log ≡ empty_log
      → tap.mirror ≡ zero_buckets config.shape.buckets
      → Resting 0 (levels_of oram.port.leaves) (port_of oram.port.clock oram.port.tree memory tap)
      → IsNew (keys_of oram.port.tree oram.tagger (leaf_of oram.port.leaves)) config (levels_of oram.port.leaves)
      (oram_of oram.front oram.port.clock oram.port.tree oram.stop memory tap))
  new_is front hand seed dummies real = is_by result same front
    where
      is_by : (result : Result (Oram L) E) → IfOk result (λ (oram : Oram L). oram.port ≡ port)
          → IfOk result (λ (oram : Oram L). oram.front ≡ first_front config)
          → IfOk result (λ (oram : Oram L). (memory : MemoryState) (tap : TapState) → tap.log ≡ empty_log
          → tap.mirror ≡ zero_buckets config.shape.buckets
          → Resting 0 (levels_of oram.port.leaves) (port_of oram.port.clock oram.port.tree memory tap)
          → IsNew (keys_of oram.port.tree oram.tagger (leaf_of oram.port.leaves)) config (levels_of oram.port.leaves)
          (oram_of oram.front oram.port.clock oram.port.tree oram.stop memory tap))
      is_by (Err e) same front = tt
      is_by (Ok oram) same front = λ memory tap log mirror rests.
          let shape_is = ap (λ (p : Port L). p.tree.shape) same ∙ shape in
          let hand_is = ap (λ (p : Port L). p.tree.hand) same ∙ hand in
          let seed_is = ap (λ (p : Port L). p.tree.seed) same ∙ seed in
          let mirror_is = mirror ∙ ap (λ (s : Shape). zero_buckets s.buckets) (sym shape_is) in
          record {
            shape = sym shape_is;
            front = front;
            fits = record { shape = refl; pads = refl };
            log = log;
            contents_are = λ i. record { hand = hand_is i; mirror = mirror_is i; seed = seed_is i };
            dummies = ap (λ (p : Port L). p.clock.dummies) same ∙ dummies;
            real = ap (λ (p : Port L). p.clock.real) same ∙ real;
            rests = rests;
          }

-- the keys of a chip are lawful
pub chip_lawful : {L : Type 0} (leaf_of : L → Point → ℕ) (levels_of : L → ℕ) (config : Config)
    (pads tags : List ℕ) (leaves : L) → IsConfig config → levels_of leaves ≡ config.shape.levels
    → AreLeaves (levels_of leaves) (leaf_of leaves) → AreKeys (chip_keys config pads tags (leaf_of leaves))
chip_lawful leaf_of levels_of config pads tags leaves is levels below = record {
  shape = is.is_shape;
  leaves = subst (λ n. AreLeaves n (leaf_of leaves)) levels below;
}

-- A prepared bus has room for so many slots.
pub prepared_room : (config : Config) (slots : ℕ) (m m' : MemoryState) (t t' : TapState) → IsConfig config
    → slots ≤ 2 ^ 28 + 1 → m.moved < 2 ^ 62
    → IsPrepared (Ok tt) config.shape.buckets config.shape.levels slots m m' t t'
    → IsReady config.shape.buckets (2 * (config.shape.levels + 1) * slots) (6 * slots) m' t'
prepared_room config slots m m' t t' is few moved prepared =
    let shape = config.shape in
    let levels = (shape_layered shape is.is_shape).levels_to in
    let most : slots ≤ 268435457 = omega (arith, few) in
    let moves : 2 * (shape.levels + 1) * slots ≤ 36 * 268435457 =
    mul-le (2 * (shape.levels + 1)) slots 36 268435457 (omega (arith, levels)) most in
    prepared_ready shape.buckets shape.levels slots prepared (omega (arith, moves, moved))

-- a log is empty where its lists are
pub log_empty : (log : LogLists) → log.events ≡ [] → log.moves ≡ [] → log.altered ≡ [] → log ≡ empty_log
log_empty log events moves altered = λ i. record { moves = moves i; events = events i; altered = altered i }

-- A prepared memory that told its buckets tells the mirror's, which are of zeros.
pub prepared_tells : (buckets levels accesses : ℕ) (m m' : MemoryState) (t t' : TapState) → IsSome m.told
    → IsPrepared (Ok tt) buckets levels accesses m m' t t' → TellsMirror m' t'
prepared_tells buckets levels accesses m m' t t' some prepared =
    told m.told some prepared.by_answer.told ∙ ap (λ (l : List (List ℕ)). Some l) (sym prepared.by_answer.mirror)
  where
    told : (told : Option (List (List ℕ))) → IsSome told → m'.told ≡ option_map (λ _. zero_buckets buckets) told
        → m'.told ≡ Some (zero_buckets buckets)
    told (Some all) some is = is
    told None some is = absurd cc

-- Where a prepared memory tells its buckets, whatever it told before, they are the mirror's, which are of zeros.
pub prepared_may : (buckets levels accesses : ℕ) (m m' : MemoryState) (t t' : TapState)
    → IsPrepared (Ok tt) buckets levels accesses m m' t t' → MayTellMirror m' t'
prepared_may buckets levels accesses m m' t t' prepared all is =
    zeros m.told (sym prepared.by_answer.told ∙ is) ∙ sym prepared.by_answer.mirror
  where
    zeros : (told : Option (List (List ℕ))) → option_map (λ _. zero_buckets buckets) told ≡ Some all
        → all ≡ zero_buckets buckets
    zeros (Some before) same = cc
    zeros None same = absurd cc

-- The moves of a run are all that was asked of the memory, where its log was empty.
pub all_asked : (m m' m2 : MemoryState) (t t' t2 : TapState) → t.log.moves ≡ [] → m'.moved ≡ m.moved
    → t'.log ≡ t.log → AsksMoves m' m2 t' t2 → m2.moved ≡ m.moved + length t2.log.moves
all_asked m m' m2 t t' t2 none moved log asked =
    let first : length t'.log.moves ≡ 0 = ap (λ (l : LogLists). length l.moves) log ∙ ap length none in
    omega (arith, first, moved, asked)
