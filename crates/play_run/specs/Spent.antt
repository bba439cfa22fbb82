-- What the clock of a run over an encrypted memory is made of: the costs of its image lines and of its finished
-- instructions, and what it waited for its slots.
use Rattle.std.specs.Prelude.{◌≡◌, ◌+◌, ◌-◌, ◌<◌, ◌≤◌, ℕ, zero, suc, List, None, Some, Result, Ok, Err}
use Rattle.std.specs.List.{sum_by}
use Rattle.asc_base.specs.Settings.{greatest_rate}
use Rattle.asc_base.specs.TreeShape.{olat_of}
use Rattle.asc_base.specs.declared.settings.Config.{Config}
use Rattle.asc_base.specs.declared.stop.Stop.{Stop}
use Rattle.asc_base.specs.declared.stop.Stop.TheVariants.{TimeUp}
use Rattle.bus_watch.specs.Log.{LogLists}
use Rattle.bus_watch.specs.declared.log.Event.{Event}
use Rattle.bus_watch.specs.declared.log.Event.TheVariants.{Access, Drawn, Tagged, Accepted, Chosen, Answered}
use Rattle.fed_run.specs.Fed.{Feed, FedStep, Unfed, fed_step}
use Rattle.oram_play.specs.Taken.{HasTaken}
use Rattle.play_run.specs.Timed.{TimedState}
use Rattle.rate_enforcer.specs.PortStep.{PortState}
use Rattle.run_play.specs.Slots.{Pace, Slot}
use Rattle.rv32_core.specs.Machine.{Machine}
use Rattle.rv32_core.specs.declared.outcome.Ended.{Ended}
use Rattle.rv32_core.specs.declared.outcome.Ended.TheVariants.{No, Exit, Trap}

-- How long a slot that takes so many cycles is waited for: from the time for which it was asked to its end. Nobody
-- waits for a dummy.
abbrev pub wait_of : ℕ → Event → ℕ
wait_of olat (Access start None) = 0
wait_of olat (Access start (Some asked)) = start + olat - asked
wait_of olat (Drawn point leaf) = 0
wait_of olat (Tagged message) = 0
wait_of olat (Accepted message tag) = 0
wait_of olat (Chosen index) = 0
wait_of olat (Answered line value) = 0

-- so of all slots that a log notes, of a tree with so many levels
abbrev pub waits : (levels : ℕ) → LogLists → ℕ
waits levels log = sum_by (wait_of (olat_of levels)) log.events

-- the cost of an instruction that ended so, where rest is that of those behind it; a trap finishes none
abbrev pub cost_on : (Machine → Feed → ℕ) → FedStep → Ended → ℕ
cost_on rest step No = step.done.cost + rest step.machine step.feed
cost_on rest step (Exit status) = step.done.cost
cost_on rest step (Trap kind pc) = 0

-- the same of an instruction that may not be fed
abbrev pub cost_from : (Machine → Feed → ℕ) → Result FedStep Unfed → ℕ
cost_from rest (Err why) = 0
cost_from rest (Ok step) = cost_on rest step step.done.ended

-- The cost of the instructions that finish among the first so many of a machine that is fed.
unfoldable pub fed_cost : (ways n : ℕ) → Machine → Feed → ℕ
fed_cost ways zero machine feed = 0
fed_cost ways (suc n) machine feed = cost_from (fed_cost ways n) (fed_step ways machine feed)

-- An encrypted memory took some slots, and its clock is these costs and what was waited for its slots.
pub record IsSpent (levels costs : ℕ) (s : TimedState) : Type 0 where
  pub slots : List Slot
  pub pace : Pace
  pub taken : HasTaken s.oram.port slots pace
  pub clock : s.clock ≡ costs + waits levels s.oram.port.tap.log

-- Where a request is stopped after these costs, a clock from before it is no more than they and what was waited; and
-- where no time is left, the slot that came too late starts less than a slot's cycles and the greatest rate after that.
pub record SpentAtStop (config : Config) (levels costs clock : ℕ) (stop : Stop) (new : PortState) : Type 0 where
  pub cycles : clock ≤ costs + waits levels new.tap.log
  pub time : (at : ℕ) → stop ≡ TimeUp at
      → at < costs + waits levels new.tap.log + olat_of levels
      + greatest_rate config.rates.list config.rates.count
