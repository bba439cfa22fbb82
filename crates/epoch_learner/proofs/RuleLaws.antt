-- Learners and the rule.
use Rattle.std.proofs.Common.{◌≡◌, ℕ, ◌+◌, ◌-◌, ◌*◌, ◌^◌, true, false, List, [], ◌∷◌, ◌++◌, Option, refl, ap, sym}
use Rattle.std.proofs.Common.{◌∙◌, arith}
use Rattle.std.proofs.lemmas.List.{length-append}
use Rattle.std.proofs.lemmas.List.Sums.{sum_by_push}
use Rattle.asc_base.specs.TreeShape.{olat_of}
use Rattle.asc_base.specs.declared.settings.Config.{Config}
use Rattle.bus_watch.specs.declared.log.Event.{Event}
use Rattle.bus_watch.specs.declared.log.Event.TheVariants.{Access, Chosen}
use Rattle.bus_schedule.specs.declared.beat.Beat.{Beat}
use Rattle.bus_schedule.specs.Timetable.{Public, public_of, count_of, falls_next}
use Rattle.bus_schedule.specs.Shown.{code_of}
use Rattle.bus_schedule.proofs.CodeLaws.{code-append}
use Rattle.epoch_learner.specs.LearnerRule.{Seen, real_count, waiting, learner_rule}
use Rattle.epoch_learner.specs.Heard.{Heard, nothing_heard, with_access, with_choice, told_by, ChoosesByRule}
use Rattle.epoch_learner.specs.Learner.{rates_of, Follows, Remembers, HasCode, learner_at_start, after_access}
use Rattle.epoch_learner.specs.Learner.{falls_at, chosen_at, after_end, next_end}
use Rattle.epoch_learner.specs.declared.Learner.{Learner}
use Rattle.epoch_learner.proofs.FollowLaws.{has_public, falls_as_next}
use Rattle.epoch_learner.proofs.HeardLaws.{heard_of_more, by_rule_more}

pub start_remembers : (config : Config) → Remembers (learner_at_start config) nothing_heard
start_remembers config = record { since = refl; real = refl; waste = refl }

pub access_remembers : (learner : Learner) (heard : Heard) (start : ℕ) (asked : Option ℕ) (ended : ℕ)
    → Remembers learner heard
    → Remembers (after_access learner start asked) (with_access heard (record { start = start; asked = asked }) ended)
access_remembers learner heard start asked ended h =
    let seen : Seen = record { start = start; asked = asked } in
    record {
      since = h.since;
      real =
          ap (λ n. n + real_count asked) h.real
          ∙ sym (sum_by_push (λ (a : Seen). real_count a.asked) heard.accesses seen);
      waste =
          ap (λ n. n + waiting start asked) h.waste
          ∙ sym (sum_by_push (λ (a : Seen). waiting a.start a.asked) heard.accesses seen);
    }

pub end_remembers : (learner : Learner) (heard : Heard) (end : ℕ) → falls_at learner end ≡ false
    → Remembers learner heard
    → Remembers (after_end learner end) heard
end_remembers learner heard end none h = rw none record { since = h.since; real = h.real; waste = h.waste }

pub choice_remembers : (learner : Learner) (heard : Heard) (end : ℕ) → falls_at learner end ≡ true → heard.ended ≡ end
    → Remembers (after_end learner end) (with_choice heard)
choice_remembers learner heard end some last = rw some record { since = sym last; real = refl; waste = refl }

-- the sums give the index that the accesses give
pub rule_by_sums : (learner : Learner) (heard : Heard) (end : ℕ) → Remembers learner heard
    → learner_rule (rates_of learner) learner.olat heard.accesses (end - heard.since)
    ≡ chosen_at learner end
rule_by_sums learner heard end h = rw (h.since, h.real, h.waste) refl

-- an access of a log
pub access_heard : (p : Public) (learner : Learner) (events : List Event) (start : ℕ) (asked : Option ℕ)
    → Remembers learner (told_by p events)
    → Remembers (after_access learner start asked) (told_by p (events ++ Access start asked ∷ []))
access_heard p learner events start asked h =
    rw (heard_of_more (olat_of p.levels) nothing_heard events (Access start asked))
    (access_remembers learner (told_by p events) start asked (start + olat_of p.levels) h)

pub access_ended : (p : Public) (events : List Event) (start : ℕ) (asked : Option ℕ)
    → (told_by p (events ++ Access start asked ∷ [])).ended ≡ start + olat_of p.levels
access_ended p events start asked = rw (heard_of_more (olat_of p.levels) nothing_heard events (Access start asked)) refl

-- a choice of a learner is by the rule over the log
pub choice_by_rule : (config : Config) (beat : Beat) (learner : Learner) (events : List Event)
    → Follows config beat learner → Remembers learner (told_by (public_of config) events)
    → (told_by (public_of config) events).ended ≡ next_end (public_of config) beat
    → ChoosesByRule (public_of config) events
    → ChoosesByRule (public_of config) (events ++ Chosen (chosen_at learner (next_end (public_of config) beat)) ∷ [])
choice_by_rule config beat learner events follows remembers last h =
    let p = public_of config in
    let public = has_public config learner follows.is_of in
    let told = told_by p events in
    by_rule_more p.rates (olat_of p.levels) nothing_heard events (Chosen (chosen_at learner (next_end p beat))) h
    (sym (rule_by_sums learner told (next_end p beat) remembers)
    ∙ ap (λ rates. learner_rule rates learner.olat told.accesses (next_end p beat - told.since)) (sym public.rates)
    ∙ ap (λ olat. learner_rule p.rates olat told.accesses (next_end p beat - told.since)) (sym public.olat)
    ∙ ap (λ end. learner_rule p.rates (olat_of p.levels) told.accesses (end - told.since)) (sym last))

pub choice_heard : (config : Config) (beat : Beat) (learner : Learner) (events : List Event) (index : ℕ)
    → Follows config beat learner → falls_next (public_of config) beat ≡ true
    → (told_by (public_of config) events).ended ≡ next_end (public_of config) beat
    → Remembers (after_end learner (next_end (public_of config) beat))
    (told_by (public_of config) (events ++ Chosen index ∷ []))
choice_heard config beat learner events index follows some last =
    let p = public_of config in
    rw (heard_of_more (olat_of p.levels) nothing_heard events (Chosen index))
    (choice_remembers learner (told_by p events) (next_end p beat)
    (falls_as_next config beat learner follows ∙ some) last)

pub start_code : (config : Config) → HasCode (public_of config) [] (learner_at_start config)
unfolding code_of
start_code config = record { choices = refl; code = refl }

pub access_code : (p : Public) (indices : List ℕ) (learner : Learner) (start : ℕ) (asked : Option ℕ)
    → HasCode p indices learner → HasCode p indices (after_access learner start asked)
access_code p indices learner start asked h = record { choices = h.choices; code = h.code }

pub end_code : (p : Public) (indices : List ℕ) (learner : Learner) (end : ℕ) → falls_at learner end ≡ false
    → HasCode p indices learner → HasCode p indices (after_end learner end)
end_code p indices learner end none h = rw none record { choices = h.choices; code = h.code }

pub choice_code : (config : Config) (beat : Beat) (indices : List ℕ) (learner : Learner) (end : ℕ)
    → Follows config beat learner → falls_at learner end ≡ true → HasCode (public_of config) indices learner
    → HasCode (public_of config) (indices ++ chosen_at learner end ∷ []) (after_end learner end)
choice_code config beat indices learner end follows some h =
    let p = public_of config in
    let public = has_public config learner follows.is_of in
    rw some record {
      choices = omega (arith, length-append indices (chosen_at learner end ∷ []), h.choices);
      code =
          rw (code-append (count_of p) indices (chosen_at learner end), h.choices, public.count)
          (ap (λ n. n + chosen_at learner end * learner.rates.count ^ learner.choices) (rw public.count at h.code));
    }
