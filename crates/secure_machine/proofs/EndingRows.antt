-- What logs of one slot or none show of how a run ended.
use Rattle.std.proofs.Common.{◌≡◌, ◌≤◌, ℕ, false, List, [], None, Some, Option, inr, refl, sym}
use Rattle.std.proofs.Common.{◌∙◌, subst, subst₂}
use Rattle.asc_base.specs.declared.block.Counter.{Counter}
use Rattle.asc_base.specs.declared.stop.Evidence.{Evidence}
use Rattle.asc_base.specs.declared.stop.Evidence.TheVariants.{Missing}
use Rattle.asc_base.specs.declared.stop.Stop.{Stop}
use Rattle.asc_base.specs.declared.stop.Stop.TheVariants as why
use Rattle.asc_outside.specs.Memory.{zero_buckets}
use Rattle.bus_watch.specs.Log.{LogLists, TapState}
use Rattle.bus_watch.specs.declared.log.Event.{Event}
use Rattle.log_replay.proofs.LastRows.{refused, full_appended, read, unmoved}
use Rattle.log_replay.proofs.OrderRows.{none}
use Rattle.log_replay.proofs.StopAlways.{origins_of}
use Rattle.log_replay.proofs.VerdictRows.{missing, right, full, breaks_off, buckets}
use Rattle.log_replay.specs.Judged.{HaveOrigins, SaysMirror}
use Rattle.log_replay.specs.Rows.{log_of, dummy_events, block_events, displaced, broken_log}
use Rattle.oram_contents.proofs.StartLaws.{start_always}
use Rattle.oram_contents.specs.Entries.{Keys, message_of}
use Rattle.oram_contents.specs.Fold.{Whole}
use Rattle.oram_contents.specs.Starts.{empty_log, first_contents}
use Rattle.oram_contents.specs.Verdict.{is_first}
use Rattle.posmap_counters.specs.Counters.{first_counter}
use Rattle.rv32_core.specs.declared.outcome.TrapKind.{TrapKind}
use Rattle.secure_machine.specs.Judged.{EndsInOrder, EndsReplayed, ShowsEnding}
use Rattle.secure_machine.specs.declared.report.Ending.TheVariants.{Exit, Trap, Budget, TimeUp, StashFull, Integrity}
use Rattle.secure_machine.specs.declared.report.Ending.TheVariants.{Device}

-- ---- before the first slot
module _ (keys : Keys) (stash : ℕ) (tap : TapState) (log : tap.log ≡ empty_log)
    (mirror : tap.mirror ≡ zero_buckets keys.shape.buckets) where
  says : SaysMirror keys tap.log Whole tap.mirror
  says = subst₂ (λ (l : LogLists) (m : List (List ℕ)). SaysMirror keys l Whole m) (sym log) (sym mirror) (buckets keys)

  origins : HaveOrigins keys tap.log tap.mirror
  origins = subst₂ (λ (l : LogLists) (m : List (List ℕ)). HaveOrigins keys l m) (sym log) (sym mirror)
      (origins_of keys empty_log (first_contents keys) (start_always keys))

  pub exit : (status : ℕ) → EndsReplayed keys stash (Exit status) tap
  unfolding none
  exit status = record {
    slots = subst (λ (l : LogLists). EndsInOrder keys (Exit status) l) (sym log)
        (record { order = none keys; done = tt });
    shows = subst (λ (l : LogLists). ShowsEnding keys stash (Exit status) l) (sym log) refl;
    mirror = says;
    origins = origins;
  }

  pub trap : (kind : TrapKind) (pc : ℕ) → EndsReplayed keys stash (Trap kind pc) tap
  unfolding none
  trap kind pc = record {
    slots = subst (λ (l : LogLists). EndsInOrder keys (Trap kind pc) l) (sym log)
        (record { order = none keys; done = tt });
    shows = subst (λ (l : LogLists). ShowsEnding keys stash (Trap kind pc) l) (sym log) refl;
    mirror = says;
    origins = origins;
  }

  pub budget : EndsReplayed keys stash Budget tap
  unfolding none
  budget = record {
    slots = subst (λ (l : LogLists). EndsInOrder keys Budget l) (sym log) (record { order = none keys; done = tt });
    shows = subst (λ (l : LogLists). ShowsEnding keys stash Budget l) (sym log) refl;
    mirror = says;
    origins = origins;
  }

  pub time_up : (at : ℕ) → EndsReplayed keys stash (TimeUp at) tap
  unfolding none
  time_up at = record {
    slots = subst (λ (l : LogLists). EndsInOrder keys (TimeUp at) l) (sym log)
        (record { order = none keys; done = tt });
    shows = subst (λ (l : LogLists). ShowsEnding keys stash (TimeUp at) l) (sym log) refl;
    mirror = says;
    origins = origins;
  }

-- ---- by a stop
module _ (keys : Keys) where
  pub full_ends : (a b : ℕ) (d : Counter) (l : List ℕ) → (b ≡ a → ⊥)
      → (let log = log_of (block_events keys a first_counter (displaced (message_of b d l))) in
      EndsInOrder keys (StashFull 1) log × ShowsEnding keys 0 (StashFull 1) log)
  full_ends a b d l other =
      let stops = full_appended keys 1 a b d l other in
      (record { order = stops.order; done = stops.done }, full keys a b d l)

  pub evidence_ends : (stash a : ℕ) (c : Counter) → is_first c ≡ false
      → (let log = log_of (block_events keys a c []) in
      let ending = Integrity (Missing (record { 0 = a }) c) in
      EndsInOrder keys ending log × ShowsEnding keys stash ending log)
  evidence_ends stash a c later =
      let stops = refused keys (Missing (record { 0 = a }) c) a c in
      (record { order = stops.order; done = stops.done }, missing keys stash a c later)

  pub device_ends : (stash level : ℕ) → level ≤ keys.shape.levels
      → EndsInOrder keys Device (broken_log keys level) × ShowsEnding keys stash Device (broken_log keys level)
  device_ends stash level within =
      let stops = read keys level in
      (record { order = stops.order; done = stops.done }, inr (breaks_off keys stash level within))

  -- ---- what no log of these shows
  pub no_exit : (stash a status : ℕ) (c : Counter) → is_first c ≡ false
      → ShowsEnding keys stash (Exit status) (log_of (block_events keys a c [])) → ⊥
  no_exit stash a status c later shows =
      let bad : ◌≡◌ {A = Option Stop} None (Some (why.Integrity (Missing (record { 0 = a }) c))) =
      sym shows ∙ (missing keys stash a c later).wrong in cc

  pub no_evidence : (stash : ℕ) (evidence : Evidence)
      → ShowsEnding keys stash (Integrity evidence) (log_of (dummy_events keys 0)) → ⊥
  no_evidence stash evidence shows = right keys stash (why.Integrity evidence) shows

  pub no_full : (stash held : ℕ) → ShowsEnding keys stash (StashFull held) (log_of (dummy_events keys 0)) → ⊥
  no_full stash held shows = right keys stash (why.StashFull held) shows

  pub no_device : (events : List Event) → EndsInOrder keys Device (log_of events) → ⊥
  no_device events e = unmoved keys events (record { order = e.order; done = e.done })
