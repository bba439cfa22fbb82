-- What the calls of a learner keep.
use Rattle.std.specs.Prelude.{nat_lt}
use Rattle.std.proofs.Common.{◌≡◌, ℕ, ◌+◌, ◌*◌, ◌^◌, ◌<◌, ◌≤◌, ◌⊎◌, true, false, refl, ap, inl, inr, arith}
use Rattle.std.proofs.Math.Pow.{pow_mono}
use Rattle.std.proofs.lemmas.Nat.{mul-add-lt}
use Rattle.std.proofs.lemmas.Grind.{pow_more}
use Rattle.std.proofs.lemmas.Bool.{cases_Bool, le-ltb, ltb-true, ltb-false}
use Rattle.asc_base.specs.declared.settings.Config.{Config}
use Rattle.bus_schedule.specs.Timetable.{epoch_at, bits_of, most_of, falls}
use Rattle.bus_schedule.proofs.ChoiceLaws.{most-one, most-none}
use Rattle.epoch_learner.specs.Learner.{IsLearnerOf, falls_at, chosen_at, after_choice, after_end}
use Rattle.epoch_learner.specs.declared.Learner.{Learner}
use Rattle.epoch_learner.proofs.Choices.{choices_fit}
use Rattle.epoch_learner.proofs.Facts.{has_ranges, chosen_at_below}

-- where no choice falls, and where one does
pub falls_no : (epoch most reached choices end : ℕ) → (epoch_at epoch end ≤ reached) ⊎ (most ≤ choices)
    → falls epoch most reached choices end ≡ false
falls_no epoch most reached choices end h =
    elim h [
      | inl old ↦ rw (le-ltb _ _ old) refl
      | inr none ↦ elim (cases_Bool (nat_lt reached (epoch_at epoch end))) [
        | inl new ↦ rw (new, le-ltb _ _ none) refl
        | inr old ↦ rw old refl
      ]
    ]

pub falls_tells : (epoch most reached choices end : ℕ) → falls epoch most reached choices end ≡ true
    → (reached < epoch_at epoch end) × (choices < most)
falls_tells epoch most reached choices end e =
    elim (cases_Bool (nat_lt reached (epoch_at epoch end))) [
      | inl new ↦ elim (cases_Bool (nat_lt choices most)) [
        | inl left ↦ (ltb-true _ _ new, ltb-true _ _ left)
        | inr none ↦ (let no = falls_no epoch most reached choices end (inr (ltb-false _ _ none)) in cc)
      ]
      | inr old ↦ (let no = falls_no epoch most reached choices end (inl (ltb-false _ _ old)) in cc)
    ]

-- the code with a digit more
pub code_below : (code index count choices : ℕ) → code < count ^ choices → index < count
    → code + index * count ^ choices < count ^ (choices + 1)
code_below code index count choices below within =
    rw pow_more (omega (arith, mul-add-lt index (count ^ choices) code count within below))

-- a learner of a configuration stays one
pub after_choice_keeps : (config : Config) (learner : Learner) (end : ℕ) → IsLearnerOf config learner
    → falls_at learner end ≡ true → IsLearnerOf config (after_choice learner end)
after_choice_keeps config learner end h e =
    let ranges = has_ranges config learner h in
    let below = chosen_at_below learner end ranges in
    let left = falls_tells learner.epoch learner.most learner.reached learner.choices end e in
    let count : learner.rates.count ≡ config.rates.count = ap (λ r. r.count) h.rates in
    let list : learner.rates.list ≡ config.rates.list = ap (λ r. r.list) h.rates in
    record {
      is_config = h.is_config;
      rates = h.rates;
      epoch = h.epoch;
      olat = h.olat;
      most = h.most;
      in_force = (chosen_at learner end, omega arith, rw list refl);
      choices = omega (arith, left.1);
      code =
          rw (← count)
          (code_below learner.code (chosen_at learner end) learner.rates.count learner.choices (rw count h.code) below);
    }

pub after_end_keeps : (config : Config) (learner : Learner) (end : ℕ) → IsLearnerOf config learner
    → IsLearnerOf config (after_end learner end)
after_end_keeps config learner end h =
    elim (cases_Bool (falls_at learner end)) [
      | inl some ↦ rw some (after_choice_keeps config learner end h some)
      | inr none ↦ rw none record {
        is_config = h.is_config;
        rates = h.rates;
        epoch = h.epoch;
        olat = h.olat;
        most = h.most;
        in_force = h.in_force;
        choices = h.choices;
        code = h.code;
      }
    ]

-- the code has room for one more choice
pub code_room : (config : Config) (learner : Learner) → IsLearnerOf config learner → learner.choices < learner.most
    → learner.rates.count ^ (learner.choices + 1) ≤ 2 ^ 60
code_room config learner h left =
    omega (
      arith,
      choices_fit config learner (learner.choices + 1) h (omega arith),
      pow_mono {i = config.leak} {j = 60} h.is_config.leak,
    )

-- the same of a learner that is equal to that
pub after_end_is_kept : (config : Config) (learner new : Learner) (end : ℕ) → IsLearnerOf config learner
    → new ≡ after_end learner end → IsLearnerOf config new
after_end_is_kept config learner new end h same = rw same (after_end_keeps config learner end h)

-- no choice falls where none is allowed
pub falls_never : (config : Config) (learner : Learner) (end : ℕ) → IsLearnerOf config learner
    → most_of config.rates.count config.leak ≡ 0 → falls_at learner end ≡ false
falls_never config learner end h none =
    falls_no learner.epoch learner.most learner.reached learner.choices end (inr (omega (arith, h.most)))

pub falls_never_of_one : (config : Config) (learner : Learner) (end : ℕ) → IsLearnerOf config learner
    → config.rates.count ≡ 1 → falls_at learner end ≡ false
falls_never_of_one config learner end h one =
    falls_never config learner end h (most-one config.rates.count config.leak (omega arith))

pub falls_never_of_few : (config : Config) (learner : Learner) (end : ℕ) → IsLearnerOf config learner
    → config.leak < bits_of config.rates.count → falls_at learner end ≡ false
falls_never_of_few config learner end h few =
    falls_never config learner end h (most-none config.rates.count config.leak few)

-- nor after the last that is
pub falls_never_after : (learner : Learner) (end : ℕ) → learner.most ≤ learner.choices → falls_at learner end ≡ false
falls_never_after learner end all = falls_no learner.epoch learner.most learner.reached learner.choices end (inr all)

-- the codes of so many choices are no more than the budget's bits tell
pub code_fits : (config : Config) (learner : Learner) → IsLearnerOf config learner
    → (learner.code < learner.rates.count ^ learner.choices) × (learner.rates.count ^ learner.choices ≤ 2 ^ config.leak)
code_fits config learner h =
    let count : learner.rates.count ≡ config.rates.count = ap (λ r. r.count) h.rates in
    (rw count h.code, choices_fit config learner learner.choices h h.choices)
