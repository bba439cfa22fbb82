-- A learner's running sums, and what they stand for.
use Rattle.std.specs.Prelude.{◌≡◌, ℕ, ◌+◌, ◌-◌, ◌*◌, ◌^◌, ◌<◌, ◌≤◌, max, Bool, if◌then◌else◌, List, take, length}
use Rattle.std.specs.Prelude.{Option, Some, None}
use Rattle.std.specs.Int.{abs_diff}
use Rattle.asc_base.specs.Settings.{IsConfig}
use Rattle.asc_base.specs.TreeShape.{olat_of}
use Rattle.asc_base.specs.declared.settings.Config.{Config}
use Rattle.bus_schedule.specs.declared.beat.Beat.{Beat}
use Rattle.bus_schedule.specs.Timetable.{Public, count_of, most_of, epoch_at, falls, rate_at}
use Rattle.bus_schedule.specs.Shown.{code_of}
use Rattle.epoch_learner.specs.LearnerRule.{real_of, waste_of, real_count, waiting, idle_per_access, index_by_sums}
use Rattle.epoch_learner.specs.LearnerRule.{learner_rule}
use Rattle.epoch_learner.specs.Heard.{Heard}
use Rattle.epoch_learner.specs.declared.Learner.{Learner}

-- A learner of a configuration: its numbers are those of the configuration; one of the rates is in force, no more
-- choices fell than are allowed, and the code has as many digits as choices.
pub record IsLearnerOf (config : Config) (learner : Learner) : Type 0 where
  pub is_config : IsConfig config
  pub rates : learner.rates ≡ config.rates
  pub epoch : learner.epoch ≡ config.epoch
  pub olat : learner.olat ≡ olat_of config.shape.levels
  pub most : learner.most ≡ most_of config.rates.count config.leak
  pub in_force : (index : ℕ) × (index < config.rates.count) × (learner.rate ≡ rate_at config.rates.list index)
  pub choices : learner.choices ≤ learner.most
  pub code : learner.code < config.rates.count ^ learner.choices

-- a learner of some configuration
pub record IsLearner (learner : Learner) : Type 0 where
  pub config : Config
  pub is_of : IsLearnerOf config learner

-- before the first slot
abbrev pub learner_at_start : Config → Learner
learner_at_start config = record {
  rates = config.rates;
  epoch = config.epoch;
  olat = olat_of config.shape.levels;
  most = most_of config.rates.count config.leak;
  choices = 0;
  rate = rate_at config.rates.list config.first;
  code = 0;
  reached = 0;
  since = 0;
  real = 0;
  waste = 0;
}

-- after an access, which adds to the sums
abbrev pub after_access : Learner → ℕ → Option ℕ → Learner
after_access learner start asked = record learner {
  real = learner.real + real_count asked;
  waste = learner.waste + waiting start asked;
}

-- whether a choice falls at an end
abbrev pub falls_at : Learner → ℕ → Bool
falls_at learner end = falls learner.epoch learner.most learner.reached learner.choices end

-- the rates that a learner chooses from
abbrev pub rates_of : Learner → List ℕ
rates_of learner = take learner.rates.count learner.rates.list

-- the idle cycles for each real access, where a choice falls at an end
abbrev pub idle_at : Learner → ℕ → ℕ
idle_at learner end = idle_per_access learner.olat (end - learner.since) learner.real learner.waste

-- how far the rate with an index is from them
abbrev pub apart_at : (learner : Learner) (end index : ℕ) → ℕ
apart_at learner end index = abs_diff (idle_at learner end) (rate_at (rates_of learner) index)

-- the index that a choice takes at an end, by the sums
abbrev pub chosen_at : Learner → ℕ → ℕ
chosen_at learner end = index_by_sums (rates_of learner) learner.olat (end - learner.since) learner.real learner.waste

-- after a choice at an end
abbrev pub after_choice : Learner → ℕ → Learner
after_choice learner end = record learner {
  choices = learner.choices + 1;
  rate = rate_at learner.rates.list (chosen_at learner end);
  code = learner.code + chosen_at learner end * learner.rates.count ^ learner.choices;
  reached = max learner.reached (epoch_at learner.epoch end);
  since = end;
  real = 0;
  waste = 0;
}

-- after an end
abbrev pub after_end : Learner → ℕ → Learner
after_end learner end =
    if falls_at learner end then after_choice learner end
    else record learner { reached = max learner.reached (epoch_at learner.epoch end) }

-- The running sums are those of the accesses that were heard since the last choice.
pub record Remembers (learner : Learner) (heard : Heard) : Type 0 where
  pub since : learner.since ≡ heard.since
  pub real : learner.real ≡ real_of heard.accesses
  pub waste : learner.waste ≡ waste_of heard.accesses

-- a choice by the sums at an end, exactly where one falls
abbrev pub choice_by_sums : Learner → ℕ → Option ℕ
choice_by_sums learner end = if falls_at learner end then Some (chosen_at learner end) else None

-- A choice by the LearnerRule at an end, exactly where one falls.
abbrev pub choice_at : Learner → Heard → ℕ → Option ℕ
choice_at learner heard end =
    if falls_at learner end
    then Some (learner_rule (rates_of learner) learner.olat heard.accesses (end - heard.since))
    else None

-- A learner of a configuration stands where its timetable does.
pub record Follows (config : Config) (beat : Beat) (learner : Learner) : Type 0 where
  pub is_of : IsLearnerOf config learner
  pub rate : learner.rate ≡ beat.rate
  pub reached : learner.reached ≡ beat.reached
  pub choices : learner.choices ≡ beat.choices

-- The code of a learner has these choices as its digits.
pub record HasCode (p : Public) (indices : List ℕ) (learner : Learner) : Type 0 where
  pub choices : length indices ≡ learner.choices
  pub code : learner.code ≡ code_of (count_of p) indices

-- the end of the slot that is next
abbrev pub next_end : Public → Beat → ℕ
next_end p beat = beat.next + olat_of p.levels
