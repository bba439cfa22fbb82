-- How many choices there are, and that their code has room.
use Rattle.std.proofs.Common.{◌≡◌, ℕ, ◌^◌, ◌≤◌, length, take, ap, sym, ◌∙◌, arith}
use Rattle.asc_base.specs.declared.settings.Config.{Config}
use Rattle.bus_schedule.specs.Timetable.{public_of, count_of, choices_of, most_of}
use Rattle.bus_schedule.proofs.ChoiceLaws.{codes-few}
use Rattle.epoch_learner.specs.Learner.{IsLearnerOf}
use Rattle.epoch_learner.specs.declared.Learner.{Learner}
use Rattle.epoch_learner.proofs.Facts.{has_ranges}

-- so many choices tell no more bits than the budget has
pub choices_fit : (config : Config) (learner : Learner) (choices : ℕ) → IsLearnerOf config learner
    → choices ≤ learner.most → learner.rates.count ^ choices ≤ 2 ^ config.leak
choices_fit config learner choices h within =
    let p = public_of config in
    let ranges = has_ranges config learner h in
    let number : learner.rates.count ≡ config.rates.count = ap (λ r. r.count) h.rates in
    let count : count_of p ≡ learner.rates.count =
    ap (λ r. length (take r.count r.list)) (sym h.rates) ∙ ranges.listed in
    let most : choices_of p ≡ learner.most = ap (λ n. most_of n config.leak) (count ∙ number) ∙ sym h.most in
    rw (← count) (codes-few p ranges.power.0 choices (count ∙ ranges.power.2) (omega arith))
