-- How a run is settled.
use Rattle.std.proofs.Common.{◌≡◌, ◌∙◌, ◌+◌, ◌<◌, ◌≤◌, ℕ, List, max, refl, subst, sym, inl, inr, arith}
use Rattle.asc_base.specs.TreeShape.{olat_of}
use Rattle.asc_base.specs.declared.settings.Config.{Config}
use Rattle.asc_base.specs.declared.stop.Evidence.{Evidence}
use Rattle.asc_base.specs.declared.stop.Stop.TheVariants as stop
use Rattle.asc_outside.specs.Memory.{MemoryState}
use Rattle.bus_watch.specs.RunEnd.{RunEnd, Whole, RanOut}
use Rattle.bus_watch.specs.Tied.{Tied, TiedAt}
use Rattle.epoch_learner.specs.Stands.{KeepsPace}
use Rattle.rate_enforcer.specs.PortStep.{PortState}
use Rattle.rate_enforcer.specs.Stops.{IsEndOf}
use Rattle.secure_machine.specs.Goes.{Goes, Breaks}
use Rattle.secure_machine.specs.Finish.{Settled, Short, IsOwnEnding, IsRightEnding, IsTimeUp, moves_end}
use Rattle.secure_machine.specs.declared.report.Ending.{Ending}
use Rattle.secure_machine.specs.declared.report.Ending.TheVariants.{Exit, Trap, Budget, TimeUp, StashFull, Integrity}
use Rattle.secure_machine.specs.declared.report.Ending.TheVariants.{Device}

-- an ending of the run's own is right, and no failure
own_right : (budget time instructions cycles until last : ℕ) (ending : Ending)
    → IsOwnEnding budget time instructions cycles until ending → until ≤ last
    → IsRightEnding budget time instructions cycles last ending
own_right budget time instructions cycles until last (Exit status) h after = (h.0, h.1, omega (arith, h.2, after))
own_right budget time instructions cycles until last (Trap kind pc) h after = (h.0, omega (arith, h.1, after))
own_right budget time instructions cycles until last Budget h after = (h.0, omega (arith, h.1, after))
own_right budget time instructions cycles until last (TimeUp at) h after =
    (omega (arith, h.0), h.1, omega (arith, h.2, after))
own_right budget time instructions cycles until last (StashFull held) h after = absurd h
own_right budget time instructions cycles until last (Integrity evidence) h after = absurd h
own_right budget time instructions cycles until last Device h after = absurd h

-- and within the budget
pub own_within : (budget time instructions cycles until : ℕ) (ending : Ending)
    → IsOwnEnding budget time instructions cycles until ending → instructions ≤ budget
own_within budget time instructions cycles until (Exit status) h = h.1
own_within budget time instructions cycles until (Trap kind pc) h = omega (arith, h.0)
own_within budget time instructions cycles until Budget h = omega (arith, h.0)
own_within budget time instructions cycles until (TimeUp at) h = omega (arith, h.0)
own_within budget time instructions cycles until (StashFull held) h = absurd h
own_within budget time instructions cycles until (Integrity evidence) h = absurd h
own_within budget time instructions cycles until Device h = absurd h

own_none : (budget time instructions cycles until : ℕ) (ending : Ending)
    → IsOwnEnding budget time instructions cycles until ending → ending ≡ Device → ⊥
own_none budget time instructions cycles until ending h is =
    subst (IsOwnEnding budget time instructions cycles until) is h

-- an ending by itself comes after moves that were each answered Ok
own_whole : (budget time instructions cycles until : ℕ) (ending : Ending)
    → IsOwnEnding budget time instructions cycles until ending → moves_end ending ≡ Whole
own_whole budget time instructions cycles until (Exit status) h = refl
own_whole budget time instructions cycles until (Trap kind pc) h = refl
own_whole budget time instructions cycles until Budget h = refl
own_whole budget time instructions cycles until (TimeUp at) h = refl
own_whole budget time instructions cycles until (StashFull held) h = absurd h
own_whole budget time instructions cycles until (Integrity evidence) h = absurd h
own_whole budget time instructions cycles until Device h = absurd h

-- where time is up by itself, it is so at the clock, and some of the budget is left
own_up : (budget time instructions cycles until at : ℕ) (ending : Ending)
    → IsOwnEnding budget time instructions cycles until ending → ending ≡ TimeUp at
    → (at ≡ cycles) × (time ≤ cycles) × (instructions < budget)
own_up budget time instructions cycles until at ending h is =
    let (few, late, all, same) = subst (IsOwnEnding budget time instructions cycles until) is h in
    (same, omega (arith, late, same), few)

-- after the slots that were still to be done
pub idle_settles : (budget instructions cycles until last : ℕ) (ending : Ending) (old mid new : PortState)
    → Goes old mid → Goes mid new → KeepsPace mid.clock.config last new.tap.log
    → last < mid.clock.config.time + olat_of mid.clock.config.shape.levels → until ≤ last
    → IsOwnEnding budget old.clock.config.time instructions cycles until ending
    → Settled budget instructions cycles ending last old new
idle_settles budget instructions cycles until last ending old mid new one two pace soon after own = record {
  config = two.config ∙ one.config;
  counts = λ counted. two.counts (one.counts counted);
  tied = λ start buckets tied.
      subst (λ e. TiedAt e start buckets new.memory new.tap)
      (sym (own_whole budget old.clock.config.time instructions cycles until ending own))
      (two.tied start buckets (one.tied start buckets tied));
  later = omega (arith, one.later, two.later);
  cause = λ is. absurd (own_none budget old.clock.config.time instructions cycles until ending own is);
  pace = subst (λ (config : Config). KeepsPace config last new.tap.log) one.config pace;
  in_time = subst (λ (config : Config). last < config.time + olat_of config.shape.levels) one.config soon;
  right = own_right budget old.clock.config.time instructions cycles until last ending own after;
  time_up = λ at is. inl (own_up budget old.clock.config.time instructions cycles until at ending own is);
  unaltered = λ tells. two.unaltered (one.tells tells) ∙ one.unaltered tells;
  told = λ told. two.told (one.told told);
  prepared = two.prepared ∙ one.prepared;
  asked = omega (arith, one.asked, two.asked);
}

module _ (budget instructions cycles : ℕ) (old new : PortState) where
  -- where nothing is left open, memory and tap are tied
  whole : (end : RunEnd) → end ≡ Whole → (start : MemoryState) (buckets : List (List ℕ))
      → TiedAt end start buckets new.memory new.tap → Tied start buckets new.memory new.tap
  whole end is start buckets tied = subst (λ e. TiedAt e start buckets new.memory new.tap) is tied

  pub integrity_settles : (evidence : Evidence) → Breaks (stop.Integrity evidence) old new
      → instructions ≤ budget
      → Settled budget instructions cycles (Integrity evidence) new.clock.last old new
  integrity_settles evidence h within = record {
    config = h.config;
    counts = h.counts;
    tied = λ start buckets tied.
        let after = h.tied start buckets tied in whole after.0 after.1 start buckets after.2;
    later = h.later;
    cause = λ is. cc;
    pace = h.pace;
    in_time = h.in_time;
    right = within;
    time_up = λ at is. absurd cc;
    unaltered = h.unaltered;
    told = h.told (λ bad. cc);
    prepared = h.prepared;
    asked = h.asked;
  }

  pub full_settles : (held : ℕ) → Breaks (stop.StashFull held) old new → instructions ≤ budget
      → Settled budget instructions cycles (StashFull held) new.clock.last old new
  full_settles held h within = record {
    config = h.config;
    counts = h.counts;
    tied = λ start buckets tied.
        let after = h.tied start buckets tied in whole after.0 after.1 start buckets after.2;
    later = h.later;
    cause = λ is. cc;
    pace = h.pace;
    in_time = h.in_time;
    right = within;
    time_up = λ at is. absurd cc;
    unaltered = h.unaltered;
    told = h.told (λ bad. cc);
    prepared = h.prepared;
    asked = h.asked;
  }

  pub time_settles : (at last : ℕ) → Breaks (stop.TimeUp at) old new → instructions ≤ budget
      → last ≡ max new.clock.last old.clock.config.time
      → Settled budget instructions cycles (TimeUp at) last old new
  time_settles at last h within is = record {
    config = h.config;
    counts = h.counts;
    tied = λ start buckets tied.
        let after = h.tied start buckets tied in whole after.0 after.1 start buckets after.2;
    later = h.later;
    cause = λ is. cc;
    pace = h.pace.2 last (omega (arith, is)) (omega (arith, is, h.pace.0, h.pace.1));
    in_time = omega (arith, is, h.in_time);
    right = (within, h.pace.0, omega (arith, is));
    time_up = λ other same.
        let e : at ≡ other = cc in
        subst (IsTimeUp old.clock.config budget instructions cycles new.tap.log) e (inr h.pace.3);
    unaltered = h.unaltered;
    told = h.told (λ bad. cc);
    prepared = h.prepared;
    asked = h.asked;
  }

  pub device_settles : Breaks stop.Device old new → instructions ≤ budget
      → Settled budget instructions cycles Device new.clock.last old new
  device_settles h within = record {
    config = h.config;
    counts = h.counts;
    tied = λ start buckets tied.
        let after = h.tied start buckets tied in
        subst (λ e. TiedAt e start buckets new.memory new.tap) after.1 after.2;
    later = h.later;
    cause = λ is. h.cause refl;
    pace = h.pace;
    in_time = h.in_time;
    right = within;
    time_up = λ at is. absurd cc;
    unaltered = h.unaltered;
    told = h.told (λ bad. cc);
    prepared = h.prepared;
    asked = h.asked;
  }

  -- the ends that want of memory leaves
  ran_out : (end : RunEnd) → IsEndOf stop.NoMemory end → (start : MemoryState) (buckets : List (List ℕ))
      → TiedAt end start buckets new.memory new.tap → TiedAt RanOut start buckets new.memory new.tap
  ran_out end (inl is) start buckets tied =
      inl (subst (λ e. TiedAt e start buckets new.memory new.tap) is tied)
  ran_out end (inr is) start buckets tied = subst (λ e. TiedAt e start buckets new.memory new.tap) is tied

  pub short_of : Breaks stop.NoMemory old new → Short old new
  short_of h = record {
    config = h.config;
    counts = h.counts;
    tied = λ start buckets tied.
        let after = h.tied start buckets tied in ran_out after.0 after.1 start buckets after.2;
    later = h.later;
    end = new.clock.last;
    pace = h.pace;
    unaltered = h.unaltered;
    prepared = h.prepared;
    asked = h.asked;
  }
