-- A learner and a log from slot to slot.
use Rattle.std.proofs.Common.{◌≡◌, ℕ, zero, suc, ◌+◌, ◌-◌, ◌*◌, ◌^◌, ◌<◌, ◌≤◌, true, false, List, [], ◌∷◌, ◌++◌}
use Rattle.std.proofs.Common.{Option, None, Some, refl, sym, ◌∙◌, ap, subst, inl, inr, arith, append-nil}
use Rattle.std.proofs.lemmas.Bool.{cases_Bool}
use Rattle.std.proofs.lemmas.Nat.{mul-le}
use Rattle.asc_base.specs.Settings.{IsConfig}
use Rattle.asc_base.specs.TreeShape.{olat_of}
use Rattle.asc_base.specs.declared.block.Leaf.{Leaf}
use Rattle.asc_base.specs.declared.block.Point.{Point}
use Rattle.asc_base.specs.declared.settings.Config.{Config}
use Rattle.asc_base.proofs.ShapeFacts.{shape_layered}
use Rattle.bus_watch.specs.declared.log.Event.{Event}
use Rattle.bus_watch.specs.declared.log.Event.TheVariants.{Access, Drawn, Chosen}
use Rattle.bus_watch.specs.declared.log.Move.{Move}
use Rattle.asc_outside.specs.Memory.{MemoryState}
use Rattle.bus_watch.specs.Log.{LogLists, TapState, with_event}
use Rattle.bus_watch.specs.Made.{Made}
use Rattle.bus_watch.specs.RunEnd.{RunEnd}
use Rattle.bus_watch.specs.Path.{along, reads, writes_start, slot_moves}
use Rattle.bus_schedule.specs.declared.beat.Beat.{Beat}
use Rattle.bus_schedule.specs.Timetable.{Public, public_of, count_of, digit_of, rate_at, falls_next, first_beat}
use Rattle.bus_schedule.specs.Timetable.{beat_after, beat_with, beat_at, start_at, end_at, first_from}
use Rattle.bus_schedule.specs.Shown.{starts_of, indices_of, AreSilent}
use Rattle.bus_schedule.specs.Asked.{IsFirstFrom, ServesPromptly}
use Rattle.bus_schedule.specs.Scheduled.{log_code, IsScheduled, Between, Inside, ShowsNoMore}
use Rattle.bus_schedule.proofs.TimetableLaws.{start-next, end-before, end-far}
use Rattle.bus_schedule.proofs.TimetableParts.{first-after}
use Rattle.bus_schedule.proofs.AskedLaws.{serves-none, serves-kept, serves-dummy, serves-real, between-first}
use Rattle.bus_schedule.proofs.ScheduledLaws.{between-none, between-same, between-without, between-chosen}
use Rattle.bus_schedule.proofs.ScheduledLaws.{inside-begin, inside-more, begin-indices, begin-code, same-code}
use Rattle.bus_schedule.proofs.ScheduledLaws.{shown-indices, shows-more, MoreChosen, more-chosen, beat-more}
use Rattle.bus_schedule.proofs.Windows.{scheduled-between, scheduled-reads, scheduled-writes}
use Rattle.epoch_learner.specs.Heard.{nothing_heard, heard_of, told_by, ChoosesByRule}
use Rattle.epoch_learner.specs.LearnerRule.{real_count, waiting}
use Rattle.epoch_learner.specs.Learner.{IsLearnerOf, Follows, Remembers, HasCode, learner_at_start, after_access}
use Rattle.epoch_learner.specs.Learner.{after_end, falls_at, chosen_at, choice_by_sums, next_end}
use Rattle.epoch_learner.specs.Stands.{ChoosesAtEnds, SumsTo, IsInStep, Stands, StandsIn, IsFirstFor, KeepsPace}
use Rattle.epoch_learner.specs.declared.Learner.{Learner}
use Rattle.epoch_learner.proofs.Ends.{ends_none, ends_kept, ends_begun}
use Rattle.epoch_learner.proofs.Facts.{has_ranges, chosen_at_below}
use Rattle.epoch_learner.proofs.FollowLaws.{start_is_of, start_follows, access_follows, has_public, falls_as_next}
use Rattle.epoch_learner.proofs.FollowLaws.{end_passed, end_chosen, rate_bounds}
use Rattle.epoch_learner.proofs.HeardLaws.{silence_heard, by_rule_kept, other_events}
use Rattle.epoch_learner.proofs.RuleLaws.{start_remembers, access_heard, access_ended, end_remembers, choice_heard}
use Rattle.epoch_learner.proofs.RuleLaws.{choice_by_rule, start_code, access_code, end_code, choice_code}

-- where the timetable of a log's code stands
abbrev pub beat_of : Config → ℕ → LogLists → Beat
beat_of config n log = beat_at (public_of config) (log_code (public_of config) log) n

told_none : (p : Public) → told_by p [] ≡ nothing_heard
unfolding heard_of
told_none p = refl

-- before the first slot
pub stands_first : (config : Config) (log : LogLists) → IsConfig config → log.events ≡ [] → log.moves ≡ []
    → Stands config 0 0 (learner_at_start config).rate (learner_at_start config) log
unfolding beat_at
stands_first config log is events moves =
    let p = public_of config in
    let learner = learner_at_start config in
    let follows : Follows config (first_beat p) learner = start_follows config (start_is_of config is) in
    record {
      last_is = refl;
      next_is = follows.rate;
      between = between-none p log events moves;
      step = subst (IsInStep config (first_beat p) 0 learner) (sym events) record {
        follows = follows;
        remembers = subst (Remembers learner) (sym (told_none p)) (start_remembers config);
        rule = other_events p.rates (olat_of p.levels) nothing_heard [] refl;
        ends = ends_none p;
        code = start_code config;
        prompt = serves-none;
        sums = record { real = omega arith; waste = omega arith; since = omega arith };
      };
    }

-- events that show nothing of slots leave a learner in step
step_silent : {config : Config} {beat : Beat} {end : ℕ} {learner : Learner} (old new : LogLists)
    → IsInStep config beat end learner old.events → ShowsNoMore old new → IsInStep config beat end learner new.events
step_silent {config} {beat} {end} {learner} old new s silent =
    let p = public_of config in
    let olat : ℕ = olat_of p.levels in
    let more : List Event = silent.more in
    let told : told_by p new.events ≡ told_by p old.events =
    ap (told_by p) silent.events
    ∙ silence_heard olat nothing_heard old.events more silent.silent.starts silent.silent.indices in
    record {
      follows = s.follows;
      remembers = subst (Remembers learner) (sym told) s.remembers;
      rule = subst (ChoosesByRule p) (sym silent.events)
          (by_rule_kept p.rates olat nothing_heard old.events more silent.silent.indices s.rule);
      ends = subst (ChoosesAtEnds p) (sym silent.events)
          (ends_kept p old.events more silent.silent.starts s.ends);
      code = subst (λ is. HasCode p is learner) (sym (shown-indices old new silent)) s.code;
      prompt = subst ServesPromptly (sym silent.events)
          (serves-kept old.events more silent.silent.starts s.prompt);
      sums = s.sums;
    }

pub stands_silent : {config : Config} {n last next : ℕ} {learner : Learner} {old new : LogLists}
    → Stands config n last next learner old → ShowsNoMore old new → new.moves ≡ old.moves
    → Stands config n last next learner new
stands_silent {config} {n} {last} {next} {learner} {old} {new} s silent moves =
    let p = public_of config in
    let code : log_code p old ≡ log_code p new = same-code p old new (shown-indices old new silent) in
    record {
      last_is = s.last_is ∙ ap (λ c. end_at p c n) code;
      next_is = s.next_is ∙ ap (λ c. start_at p c n) code;
      between = between-same p n old new s.between silent moves;
      step = subst (λ c. IsInStep config (beat_at p c n) last learner new.events) code
          (step_silent old new s.step silent);
    }

pub inside_silent : {config : Config} {n start leaf : ℕ} {part : List Move} {learner : Learner} {old new : LogLists}
    (more : List Move) → StandsIn config n start leaf part learner old → ShowsNoMore old new
    → new.moves ≡ old.moves ++ more → StandsIn config n start leaf (part ++ more) learner new
inside_silent {config} {n} {start} {leaf} {part} {learner} {old} {new} more s silent moves =
    let p = public_of config in
    let code : log_code p old ≡ log_code p new = same-code p old new (shown-indices old new silent) in
    let told : told_by p new.events ≡ told_by p old.events =
    ap (told_by p) silent.events
    ∙ silence_heard (olat_of p.levels) nothing_heard old.events silent.more silent.silent.starts
    silent.silent.indices in
    record {
      start_is = s.start_is ∙ ap (λ c. start_at p c n) code;
      inside = inside-more p n leaf part more old new s.inside silent moves;
      ended = ap (λ h. h.ended) told ∙ s.ended;
      step = subst (λ c. IsInStep config (beat_at p c n) (start + olat_of p.levels) learner new.events) code
          (step_silent old new s.step silent);
    }

-- a run of bus calls with such events
pub stands_ran : {cut : RunEnd} {events : List Event} {m m' : MemoryState} {t t' : TapState} {config : Config}
    {n last next : ℕ} {learner : Learner} → Stands config n last next learner t.log → AreSilent events
    → Made cut [] events m m' t t' → Stands config n last next learner t'.log
stands_ran {cut} {events} {m} {m'} {t} {t'} s silent made =
    stands_silent s (shows-more events t.log t'.log made.events_are silent)
    (made.moves_are ∙ append-nil t.log.moves)

pub inside_ran : {cut : RunEnd} {more : List Move} {events : List Event} {m m' : MemoryState} {t t' : TapState}
    {config : Config} {n start leaf : ℕ} {part : List Move} {learner : Learner}
    → StandsIn config n start leaf part learner t.log → AreSilent events
    → Made cut more events m m' t t' → StandsIn config n start leaf (part ++ more) learner t'.log
inside_ran {cut} {more} {events} {m} {m'} {t} {t'} s silent made =
    inside_silent more s
    (shows-more events t.log t'.log made.events_are silent) made.moves_are

-- the sums after an access
sums_more : (last next olat : ℕ) (learner : Learner) (asked : Option ℕ) → last ≤ next → 1 ≤ olat
    → SumsTo last learner → SumsTo (next + olat) (after_access learner next asked)
sums_more last next olat learner None up some s =
    let grown : learner.real * last ≤ learner.real * (next + olat) =
    mul-le learner.real last learner.real (next + olat) (omega arith) (omega arith) in
    let same : (learner.real + 0) * (next + olat) ≡ learner.real * (next + olat) = omega arith in
    record { real = omega (arith, s.real); waste = omega (arith, s.waste); since = omega (arith, s.since) }
sums_more last next olat learner (Some asked) up some s =
    let grown : learner.real * last ≤ learner.real * (next + olat) =
    mul-le learner.real last learner.real (next + olat) (omega arith) (omega arith) in
    let one : (learner.real + 1) * (next + olat) ≡ learner.real * (next + olat) + (next + olat) = omega arith in
    record { real = omega (arith, s.real); waste = omega (arith, s.waste); since = omega (arith, s.since) }

-- an access more is prompt, where its slot is the first from its time on
prompt_more : (p : Public) (n last next : ℕ) (asked : Option ℕ) (log : LogLists) → Between p n log
    → last ≡ end_at p (log_code p log) n → next ≡ start_at p (log_code p log) n
    → IsFirstFor (olat_of p.levels) last next asked → ServesPromptly log.events
    → ServesPromptly (log.events ++ Access next asked ∷ [])
prompt_more p n last next None log b last_is next_is first h = serves-dummy log.events next h
prompt_more p n last next (Some time) log b last_is next_is first h =
    serves-real log.events next time h
    (subst (IsFirstFrom time (starts_of log.events)) (sym next_is)
    (between-first p n time log b (omega (arith, first.0)) (omega (arith, first.1))))

-- a slot begins, and its leaf is drawn
pub stands_begun : {config : Config} {n last next : ℕ} {learner : Learner} {old : LogLists} (asked : Option ℕ)
    (point : Point) (leaf : Leaf) (mid new : LogLists) → Stands config n last next learner old
    → IsFirstFor (olat_of config.shape.levels) last next asked → mid ≡ with_event old (Access next asked)
    → new ≡ with_event mid (Drawn point leaf)
    → StandsIn config n next leaf.0 [] (after_access learner next asked) new
stands_begun {config} {n} {last} {next} {learner} {old} asked point leaf mid new s first seen drawn =
    let p = public_of config in
    let olat : ℕ = olat_of p.levels in
    let code : log_code p old ≡ log_code p new = sym (begin-code p next asked point leaf old mid new seen drawn) in
    let with_access : List Event = old.events ++ Access next asked ∷ [] in
    let events : new.events ≡ with_access ++ Drawn point leaf ∷ [] =
    ap (λ (l : LogLists). l.events) drawn
    ∙ ap (λ (l : LogLists). l.events ++ Drawn point leaf ∷ []) seen in
    let told : told_by p new.events ≡ told_by p with_access =
    ap (told_by p) events ∙ silence_heard olat nothing_heard with_access (Drawn point leaf ∷ []) refl refl in
    let learned : Learner = after_access learner next asked in
    record {
      start_is = s.next_is ∙ ap (λ c. start_at p c n) code;
      inside = inside-begin p n next asked point leaf old mid new s.between s.next_is seen drawn;
      ended = ap (λ h. h.ended) told ∙ access_ended p old.events next asked;
      step = record {
        follows = subst (λ c. Follows config (beat_at p c n) learned) code
            (access_follows config (beat_of config n old) learner next asked s.step.follows);
        remembers = subst (Remembers learned) (sym told)
            (access_heard p learner old.events next asked s.step.remembers);
        rule = subst (ChoosesByRule p) (sym events)
            (by_rule_kept p.rates olat nothing_heard with_access (Drawn point leaf ∷ []) refl
            (by_rule_kept p.rates olat nothing_heard old.events (Access next asked ∷ []) refl s.step.rule));
        ends = subst (ChoosesAtEnds p) (sym events)
            (ends_kept p with_access (Drawn point leaf ∷ []) refl
            (ends_begun p n next asked old s.between s.step.ends));
        code = subst (λ is. HasCode p is learned) (sym (begin-indices next asked point leaf old mid new seen drawn))
            (access_code p (indices_of old.events) learner next asked s.step.code);
        prompt = subst ServesPromptly (sym events)
            (serves-kept with_access (Drawn point leaf ∷ []) refl
            (prompt_more p n last next asked old s.between s.last_is s.next_is first s.step.prompt));
        sums = sums_more last next olat learner asked
            (omega (arith, s.last_is, s.next_is, end-before p (log_code p old) n)) (omega arith) s.step.sums;
      };
    }

-- what an answer at an end tells
by_none : (learner : Learner) (end : ℕ) → choice_by_sums learner end ≡ None → falls_at learner end ≡ false
by_none learner end is =
    elim (cases_Bool (falls_at learner end)) [
      | inl some ↦ (let e : choice_by_sums learner end ≡ Some (chosen_at learner end) = rw some refl in cc)
      | inr none ↦ none
    ]

by_some : (learner : Learner) (end index : ℕ) → choice_by_sums learner end ≡ Some index
    → (falls_at learner end ≡ true) × (index ≡ chosen_at learner end)
by_some learner end index is =
    elim (cases_Bool (falls_at learner end)) [
      | inl some ↦ (let e : choice_by_sums learner end ≡ Some (chosen_at learner end) = rw some refl in (some, cc))
      | inr none ↦ (let e : choice_by_sums learner end ≡ None = rw none refl in cc)
    ]

-- a slot ends without a choice
pub stands_passed : {config : Config} {n start leaf : ℕ} {learner : Learner} {log : LogLists} (end : ℕ)
    → StandsIn config n start leaf (slot_moves config.shape.levels start leaf) learner log
    → end ≡ start + olat_of config.shape.levels → choice_by_sums learner end ≡ None
    → Stands config (suc n) end (end + (after_end learner end).rate) (after_end learner end) log
unfolding beat_at
stands_passed {config} {n} {start} {leaf} {learner} {log} end s end_is answer =
    let p = public_of config in
    let code : ℕ = log_code p log in
    let b : Beat = beat_at p code n in
    let at : end ≡ next_end p b = end_is ∙ ap (λ t. t + olat_of p.levels) s.start_is in
    let none : falls_at learner end ≡ false = by_none learner end answer in
    let none_next : falls_next p b ≡ false =
    sym (falls_as_next config b learner s.step.follows) ∙ ap (falls_at learner) (sym at) ∙ none in
    let learned : Learner = after_end learner end in
    let follows : Follows config (beat_at p code (suc n)) learned =
    subst (λ t. Follows config (beat_at p code (suc n)) (after_end learner t)) (sym at)
    (end_passed config b learner (digit_of code (count_of p) b.choices) s.step.follows none_next) in
    record {
      last_is = at;
      next_is = omega (arith, at, follows.rate, start-next p code n);
      between = between-without p n leaf log
          (subst (λ t. Inside p n leaf (slot_moves p.levels t leaf) log) s.start_is s.inside) none_next;
      step = record {
        follows = follows;
        remembers = end_remembers learner (told_by p log.events) end none s.step.remembers;
        rule = s.step.rule;
        ends = s.step.ends;
        code = end_code p (indices_of log.events) learner end none s.step.code;
        prompt = s.step.prompt;
        sums = rw none (rw end_is record {
          real = s.step.sums.real;
          waste = s.step.sums.waste;
          since = s.step.sums.since;
        });
      };
    }

-- a slot ends with a choice
pub stands_chosen : {config : Config} {n start leaf : ℕ} {learner : Learner} {old : LogLists} (end index : ℕ)
    (new : LogLists) → StandsIn config n start leaf (slot_moves config.shape.levels start leaf) learner old
    → end ≡ start + olat_of config.shape.levels → choice_by_sums learner end ≡ Some index
    → new ≡ with_event old (Chosen index)
    → Stands config (suc n) end (end + (after_end learner end).rate) (after_end learner end) new
stands_chosen {config} {n} {start} {leaf} {learner} {old} end index new s end_is answer noted =
    let p = public_of config in
    let code : ℕ = log_code p old in
    let b : Beat = beat_at p code n in
    let at : end ≡ next_end p b = end_is ∙ ap (λ t. t + olat_of p.levels) s.start_is in
    let told = by_some learner end index answer in
    let some : falls_at learner end ≡ true = told.0 in
    let some_next : falls_next p b ≡ true =
    sym (falls_as_next config b learner s.step.follows) ∙ ap (falls_at learner) (sym at) ∙ some in
    let learned : Learner = after_end learner end in
    let index_is : chosen_at learner (next_end p b) ≡ index = ap (chosen_at learner) (sym at) ∙ sym told.1 in
    let of_config : IsLearnerOf config learner = s.step.follows.is_of in
    let public = has_public config learner of_config in
    let small : index < count_of p =
    omega (arith, told.1, public.count, chosen_at_below learner end (has_ranges config learner of_config)) in
    let inside : Inside p n leaf (slot_moves p.levels (start_at p code n) leaf) old =
    subst (λ t. Inside p n leaf (slot_moves p.levels t leaf) old) s.start_is s.inside in
    let more : MoreChosen p n index old new = more-chosen p n index old new inside.chosen small noted in
    let next_beat : beat_at p (log_code p new) (suc n) ≡ beat_with p b (rate_at p.rates index) (b.choices + 1) =
    beat-more p n index old new more some_next in
    let after : beat_after p b index ≡ beat_with p b (rate_at p.rates index) (b.choices + 1) = rw some_next refl in
    let follows : Follows config (beat_at p (log_code p new) (suc n)) learned =
    subst (λ x. Follows config x learned) (after ∙ sym next_beat)
    (subst (λ i. Follows config (beat_after p b i) learned) index_is
    (subst (λ t. Follows config (beat_after p b (chosen_at learner (next_end p b))) (after_end learner t)) (sym at)
    (end_chosen config b learner s.step.follows some_next))) in
    let starts : start_at p (log_code p new) n ≡ start_at p code n = ap (λ (x : Beat). x.next) (sym more.beat_is) in
    let events : new.events ≡ old.events ++ Chosen index ∷ [] = ap (λ (l : LogLists). l.events) noted in
    let heard : (told_by p old.events).ended ≡ next_end p b = s.ended ∙ sym end_is ∙ at in
    record {
      last_is = omega (arith, at, starts);
      next_is = omega (arith, at, follows.rate, start-next p (log_code p new) n, starts);
      between = between-chosen p n leaf index old new inside some_next small noted;
      step = record {
        follows = follows;
        remembers = subst (λ e. Remembers learned (told_by p e)) (sym events)
            (subst (λ t. Remembers (after_end learner t) (told_by p (old.events ++ Chosen index ∷ []))) (sym at)
            (choice_heard config b learner old.events index s.step.follows some_next heard));
        rule = subst (ChoosesByRule p) (sym events)
            (subst (λ i. ChoosesByRule p (old.events ++ Chosen i ∷ [])) index_is
            (choice_by_rule config b learner old.events s.step.follows s.step.remembers heard s.step.rule));
        ends = subst (ChoosesAtEnds p) (sym events)
            (ends_kept p old.events (Chosen index ∷ []) refl s.step.ends);
        code = subst (λ is. HasCode p is learned) (sym more.indices)
            (subst (λ i. HasCode p (indices_of old.events ++ i ∷ []) learned) (sym told.1)
            (choice_code config b (indices_of old.events) learner end s.step.follows some s.step.code));
        prompt = subst ServesPromptly (sym events)
            (serves-kept old.events (Chosen index ∷ []) refl s.step.prompt);
        sums = rw some record { real = omega arith; waste = omega arith; since = omega arith };
      };
    }

-- up to which times the log keeps the pace
paced : {config : Config} {beat : Beat} {last : ℕ} {learner : Learner} (end : ℕ) (log : LogLists)
    → IsInStep config beat last learner log.events → IsScheduled (public_of config) end log → KeepsPace config end log
paced end log s h = record { scheduled = h; rule = s.rule; ends = s.ends; prompt = s.prompt }

pub stands_pace : {config : Config} {n last next : ℕ} {learner : Learner} {log : LogLists} (end : ℕ)
    → Stands config n last next learner log → last ≤ end → end ≤ next → KeepsPace config end log
stands_pace {config} {n} {last} {next} {learner} {log} end s past before =
    paced end log s.step
    (scheduled-between (public_of config) n end log s.between (omega (arith, s.last_is, past))
    (omega (arith, s.next_is)))

pub reads_pace : {config : Config} {n start leaf : ℕ} {learner : Learner} {log : LogLists} (made end : ℕ)
    → StandsIn config n start leaf (along config.shape.levels false start leaf made) learner log
    → made ≤ config.shape.levels + 1 → start < end → start + 40 * made < end + 40 → end ≤ start + 40 * made
    → KeepsPace config end log
reads_pace {config} {n} {start} {leaf} {learner} {log} made end s few begun after until =
    paced end log s.step
    (scheduled-reads (public_of config) n start leaf made end log s.inside s.start_is few begun after until)

pub writes_pace : {config : Config} {n start leaf : ℕ} {learner : Learner} {log : LogLists} (made end : ℕ)
    → StandsIn config n start leaf
    (reads config.shape.levels start leaf
    ++ along config.shape.levels true (writes_start config.shape.levels start) leaf made) learner log
    → made ≤ config.shape.levels + 1 → writes_start config.shape.levels start + 40 * made < end + 40
    → end ≤ writes_start config.shape.levels start + 40 * made → end < start + olat_of config.shape.levels
    → KeepsPace config end log
writes_pace {config} {n} {start} {leaf} {learner} {log} made end s few after until over =
    paced end log s.step
    (scheduled-writes (public_of config) n start leaf made end log s.inside s.start_is few after until over)

-- the next slot starts at the last end plus the rate in force
by_rate : (p : Public) (code n : ℕ) → start_at p code n ≡ end_at p code n + (beat_at p code n).rate
unfolding beat_at
by_rate p code zero = omega arith
by_rate p code (suc n) = start-next p code n

pub stands_next : {config : Config} {n last next : ℕ} {learner : Learner} {log : LogLists}
    → Stands config n last next learner log → next ≡ last + learner.rate
stands_next {config} {n} {last} {next} {learner} {log} s =
    omega (
      arith,
      s.last_is,
      s.next_is,
      s.step.follows.rate,
      by_rate (public_of config) (log_code (public_of config) log) n,
    )

pub stands_apart : {config : Config} {n last next : ℕ} {learner : Learner} {log : LogLists}
    → Stands config n last next learner log → (last + 64 ≤ next) × (next ≤ last + 1048576)
stands_apart {config} {n} {last} {next} {learner} {log} s =
    let bounds = rate_bounds config learner s.step.follows.is_of in
    let next_is = stands_next s in
    (omega (arith, bounds.0, next_is), omega (arith, bounds.1, next_is))

-- so many slots took their cycles
pub stands_far : {config : Config} {n last next : ℕ} {learner : Learner} {log : LogLists}
    → Stands config n last next learner log → n * olat_of config.shape.levels ≤ last
stands_far {config} {n} {last} {next} {learner} {log} s =
    omega (arith, s.last_is, end-far (public_of config) (log_code (public_of config) log) n)

-- the next slot is the first that starts at or after a time
pub stands_from : {config : Config} {n last next : ℕ} {learner : Learner} {log : LogLists} (time : ℕ)
    → Stands config n last next learner log → time ≤ next → last < time + olat_of config.shape.levels
    → first_from (public_of config) (log_code (public_of config) log) time ≡ next
stands_from {config} {n} {last} {next} {learner} {log} time s from late =
    first-after (public_of config) (log_code (public_of config) log) time n
    (omega (arith, s.next_is)) (omega (arith, s.last_is, late))
    ∙ sym s.next_is

-- the sums of two numbers below a bound stay below its square
product_below : (real end : ℕ) → real ≤ end → end < 2 ^ 30 → real * end < 2 ^ 60
product_below real end up small =
    let most : real * end ≤ (2 ^ 30 - 1) * (2 ^ 30 - 1) =
    mul-le real end (2 ^ 30 - 1) (2 ^ 30 - 1) (omega arith) (omega arith) in
    omega arith

-- the learner can see the next slot
pub saw_fits : {config : Config} {n last next : ℕ} {learner : Learner} {log : LogLists} (asked : Option ℕ)
    → Stands config n last next learner log → next < 2 ^ 29
    → (learner.real + real_count asked < 2 ^ 32) × (learner.waste + waiting next asked < 2 ^ 60)
saw_fits {config} {n} {last} {next} {learner} {log} None s small =
    let apart = stands_apart s in
    let most : learner.real * last ≤ (2 ^ 29) * (2 ^ 29) =
    mul-le learner.real last (2 ^ 29) (2 ^ 29) (omega (arith, s.step.sums.real)) (omega arith) in
    (omega (arith, s.step.sums.real), omega (arith, s.step.sums.waste))
saw_fits {config} {n} {last} {next} {learner} {log} (Some asked) s small =
    let apart = stands_apart s in
    let most : learner.real * last ≤ (2 ^ 29) * (2 ^ 29) =
    mul-le learner.real last (2 ^ 29) (2 ^ 29) (omega (arith, s.step.sums.real)) (omega arith) in
    (omega (arith, s.step.sums.real), omega (arith, s.step.sums.waste))

-- and the end of the one that it is in
pub ended_fits : {config : Config} {n start leaf : ℕ} {part : List Move} {learner : Learner} {log : LogLists} (end : ℕ)
    → StandsIn config n start leaf part learner log → end ≡ start + olat_of config.shape.levels → start < 2 ^ 29
    → (end < 2 ^ 40) × (learner.since ≤ end) × (learner.real < 2 ^ 32) × (learner.waste < 2 ^ 60)
ended_fits {config} {n} {start} {leaf} {part} {learner} {log} end s end_is small =
    let levels = (shape_layered config.shape s.step.follows.is_of.is_config.is_shape).levels_to in
    let short : start + olat_of config.shape.levels < 2 ^ 30 = omega arith in
    let most : learner.real * (start + olat_of config.shape.levels) < 2 ^ 60 =
    product_below learner.real (start + olat_of config.shape.levels) s.step.sums.real short in (
      omega arith,
      omega (arith, s.step.sums.since),
      omega (arith, s.step.sums.real),
      omega (arith, s.step.sums.waste),
    )
