-- Behind any number of answered calls an encrypted memory stands where the play stands, and each block is at home where
-- no reply was altered.
use Rattle.std.proofs.Common.{◌≡◌, ◌⊎◌, inl, inr, ℕ, List, [], ◌∷◌, ◌++◌, sym, subst, append-nil, append_assoc}
use Rattle.asc_base.specs.Has.{Has}
use Rattle.asc_base.specs.Settings.{IsConfig}
use Rattle.asc_base.specs.declared.settings.Config.{Config}
use Rattle.bus_schedule.specs.Timetable.{public_of}
use Rattle.bus_watch.specs.declared.log.Altered.{Altered}
use Rattle.oram_contents.specs.Entries.{Keys, AreKeys}
use Rattle.oram_contents.specs.Forgery.{Forgery}
use Rattle.oram_frontend.specs.Oram.{OramState, Wait}
use Rattle.oram_lines.specs.Lines.{IsNew}
use Rattle.oram_lines.proofs.LineLaws.{forgery_call}
use Rattle.rate_enforcer.specs.PortStep.{contents}
use Rattle.run_play.specs.Requests.{Standing, standing_at_start, request_slots}
use Rattle.run_play.specs.Slots.{Slot, Numbers, passed}
use Rattle.oram_play.specs.AtHome.{IsAtHome}
use Rattle.oram_play.specs.InCalls.{PlayCall, Requests, Waits, at_clock, after_wait, AnsweredInPlay, calls_slots}
use Rattle.oram_play.specs.InCalls.{AreTold}
use Rattle.oram_play.specs.Playing.{PlaysAs, called}
use Rattle.oram_play.proofs.Homes.{play_home}
use Rattle.oram_play.proofs.Stands.{new_plays, request_stands, wait_stands}

module _ (keys : Keys) (lawful : AreKeys keys) (levels : ℕ) (config : Config) where
  -- clock and numbers say nothing of an encrypted memory
  at_any_clock : (slots : List Slot) (now : Standing) (o : OramState) (clock : ℕ) (numbers : Numbers)
      → PlaysAs keys levels config slots now o
      → PlaysAs keys levels config slots (at_clock clock numbers now) o
  at_any_clock slots now o clock numbers x = record {
    config_is = x.config_is;
    sizes = x.sizes;
    ghost = x.ghost;
    stands = x.stands;
    calm = x.calm;
    counted = x.counted;
    stored = x.stored;
    lines = x.lines;
    outside = x.outside;
    shows = x.shows;
    taken = x.taken;
    in_time = x.in_time;
  }

  -- once a forgery is there it stays
  forged_calls : (calls : List PlayCall) (now end : Standing) (old new : OramState)
      → AnsweredInPlay keys levels config now old calls end new → Forgery keys old.port.tap.log
      → Forgery keys new.port.tap.log
  forged_calls [] now end old new (stands, is) forged =
      subst (λ (o : OramState). Forgery keys o.port.tap.log) (sym is) forged
  forged_calls (Requests clock numbers request ∷ calls) now end old new (below, told, mid, step, rest) forged =
      forged_calls calls (request_slots config (at_clock clock numbers now) request).standing end mid new rest
      (forgery_call keys lawful levels old mid (called clock request) told step forged)
  forged_calls (Waits time numbers ∷ calls) now end old new (told, mid, step, rest) forged =
      forged_calls calls (after_wait config time numbers now) end mid new rest
      (forgery_call keys lawful levels old mid (Wait time) told step forged)

  -- Behind any number of answered calls it stands where the play stands.
  pub calls_stand : (slots : List Slot) (now : Standing) (old : OramState) (calls : List PlayCall) (end : Standing)
      (new : OramState) → PlaysAs keys levels config slots now old
      → (answered : AnsweredInPlay keys levels config now old calls end new)
      → Forgery keys new.port.tap.log
      ⊎ (PlaysAs keys levels config (slots ++ calls_slots config now calls) end new
      × AreTold keys levels config now old calls end new answered)
  calls_stand slots now old [] end new x (stands, is) =
      inr (
        subst (λ (taken : List Slot). PlaysAs keys levels config taken end new) (sym (append-nil slots))
            (subst (λ (s : Standing). PlaysAs keys levels config slots s new) (sym stands)
            (subst (λ (o : OramState). PlaysAs keys levels config slots now o) (sym is) x)),
        tt,
      )
  calls_stand slots now old (Requests clock numbers request ∷ calls) end new x (below, told, mid, step, rest) =
      let began : Standing = at_clock clock numbers now in
      let taken = request_slots config began request in
      elim (request_stands keys lawful levels config slots began request told old mid
      (at_any_clock slots now old clock numbers x) below step) [
        | inl forged ↦ inl (forged_calls calls taken.standing end mid new rest forged)
        | inr stands ↦ elim (calls_stand (slots ++ taken.slots) taken.standing mid calls end new stands.0 rest) [
          | inl forged ↦ inl forged
          | inr behind ↦ inr (
            subst (λ (all : List Slot). PlaysAs keys levels config all end new)
                (append_assoc slots (taken.slots) (calls_slots config (taken.standing) calls)) behind.0,
            (stands.1, stands.2, behind.1),
          )
        ]
      ]
  calls_stand slots now old (Waits time numbers ∷ calls) end new x (told, mid, step, rest) =
      let began : Standing = at_clock now.clock numbers now in
      let more = passed (public_of config) numbers time now.pace in
      let waited = wait_stands keys lawful levels config slots began time told old mid
      (at_any_clock slots now old now.clock numbers x) step in
      elim (calls_stand (slots ++ more.slots) (after_wait config time numbers now) mid calls end new waited.0 rest) [
        | inl forged ↦ inl forged
        | inr behind ↦ inr (
          subst (λ (all : List Slot). PlaysAs keys levels config all end new)
              (append_assoc slots (more.slots) (calls_slots config (after_wait config time numbers now) calls))
              behind.0,
          (waited.1, behind.1),
        )
      ]

  -- From a new encrypted memory on.
  pub calls_home : (o : OramState) → IsConfig config → IsNew keys config levels o → o.port.clock.config ≡ config
      → (calls : List PlayCall) (end : Standing) (new : OramState)
      → AnsweredInPlay keys levels config (standing_at_start config) o calls end new → new.port.tap.log.altered ≡ []
      → IsAtHome keys config end new.front.held (contents new.port)
  calls_home o is fresh config_is calls end new answered unaltered =
      elim (calls_stand [] (standing_at_start config) o calls end new
      (new_plays keys lawful levels config o is fresh config_is) answered) [
        | inl forged ↦ absurd (subst (λ (l : List Altered). Has forged.reply l) unaltered forged.altered)
        | inr stands ↦ play_home keys lawful levels config (calls_slots config (standing_at_start config) calls) end
            new stands.0 unaltered
      ]
