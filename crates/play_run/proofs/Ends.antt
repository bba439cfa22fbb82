-- What the end of a run shows of its play.
use Rattle.std.proofs.Common.{◌≡◌, ◌≤◌, ◌⊎◌, inl, inr, ℕ, max, List, [], ◌∷◌, ◌++◌, Some, None, Ok, Err}
use Rattle.std.proofs.Common.{refl, sym, ap, ◌∙◌, subst, arith, append_assoc, append-nil}
use Rattle.asc_base.specs.declared.settings.Config.{Config}
use Rattle.asc_base.specs.declared.stop.Stop.{Stop}
use Rattle.asc_base.specs.declared.stop.Stop.TheVariants.{Integrity, StashFull, TimeUp, Device, NoMemory}
use Rattle.bus_schedule.specs.Timetable.{public_of}
use Rattle.oram_contents.specs.Entries.{Keys}
use Rattle.oram_contents.specs.Forgery.{Forgery}
use Rattle.oram_frontend.specs.Oram.{OramState, OramStep, Told, Wait}
use Rattle.rate_enforcer.specs.PortStep.{PortState}
use Rattle.run_play.specs.Halt.{cut_at}
use Rattle.run_play.specs.Play as how
use Rattle.run_play.specs.Play.{Play, PlayEnding, after_slots, times_out}
use Rattle.run_play.specs.PlayEvents.{play_events}
use Rattle.run_play.specs.Requests.{Standing, Taken}
use Rattle.run_play.specs.Slots.{Slot, Numbers, Passed}
use Rattle.run_play.proofs.Halts.{cut-halted}
use Rattle.run_play.proofs.Keeping.{passed-none}
use Rattle.play_run.specs.Follows.{CutsWith, StopLeaves}
use Rattle.play_run.specs.Given.{waited, WaitPlays, WaitStops}
use Rattle.play_run.specs.Shows.{RunShows, StopShows}
use Rattle.play_run.specs.Stands.{EndsIn}
use Rattle.play_run.proofs.Kept.{IsLate, passed-left}
use Rattle.play_run.proofs.Plans.{leaves-of}

-- a cut in the slots of a whole play
cut-shows : (levels : ℕ) (whole : Play) (all more : List Slot) (ending : PlayEnding) (numbers : Numbers)
    (new : PortState) → whole.slots ≡ all ++ more → CutsWith levels all ending numbers new
    → RunShows levels whole ending numbers new.clock.last new.tap.log
cut-shows levels whole all more ending numbers new parts (stop, is, h) = (
  cut_at levels stop h.before h.slot,
  inr (cut-halted levels whole stop h.before (h.later ++ more) h.slot
      (parts ∙ (ap (λ l. l ++ more) h.are ∙ append_assoc h.before (h.slot ∷ h.later) more)) h.fits),
  record {
    events = h.said;
    ending = is;
    numbers = h.left;
    last = sym h.last;
  },
)

-- where a slot came too late, no slot passes before the time
late-ends : (config : Config) (at : ℕ) (all : List Slot) (after : Standing) → config.time ≤ after.pace.beat.next
    → after_slots all (times_out config at after)
    ≡ record {
      slots = all;
      ending = how.TimeUp at;
      numbers = after.numbers;
      last = max config.time after.pace.heard.ended;
      behind = Some after;
    }
late-ends config at all after far =
    ap
    (λ (idle : Passed). let run : Play = record {
      slots = all ++ idle.slots;
      ending = how.TimeUp at;
      numbers = after.numbers;
      last = max config.time idle.pace.heard.ended;
      behind = Some after;
    } in run)
    (passed-none (public_of config) after.numbers config.time after.pace far)
    ∙ ap
    (λ slots. let run : Play = record {
      slots = slots;
      ending = how.TimeUp at;
      numbers = after.numbers;
      last = max config.time after.pace.heard.ended;
      behind = Some after;
    } in run)
    (append-nil all)

-- What a stop shows of a whole play: it was in some of its slots, or one came too late behind them.
pub stop-shows : (levels : ℕ) (config : Config) (whole : Play) (all more : List Slot) (after : Standing)
    (numbers : Numbers) (stop : Stop) (new : PortState) → whole.slots ≡ all ++ more
    → ((at : ℕ) → after.late ≡ Some at → whole ≡ after_slots all (times_out config at after))
    → IsLate config.time after → StopLeaves levels all after numbers stop new
    → StopShows levels config whole numbers stop new
stop-shows levels config whole all more after numbers (Integrity evidence) new parts late far leaves =
    cut-shows levels whole all more (how.Integrity evidence) numbers new parts leaves
stop-shows levels config whole all more after numbers (StashFull held) new parts late far leaves =
    cut-shows levels whole all more (how.StashFull held) numbers new parts leaves
stop-shows levels config whole all more after numbers (TimeUp at) new parts late far (is, same, had, last) =
    let right = far at is in
    let run : whole ≡ record {
      slots = all;
      ending = how.TimeUp at;
      numbers = after.numbers;
      last = max config.time after.pace.heard.ended;
      behind = Some after;
    } = late at is ∙ late-ends config at all after (omega (arith, right.0, right.1)) in (
      whole,
      inl refl,
      record {
        events = had.said ∙ ap (λ (r : Play). play_events r.slots) (sym run);
        ending = ap (λ (r : Play). r.ending) run;
        numbers = ap (λ (r : Play). r.numbers) run ∙ same;
        last = ap (λ (r : Play). r.last) run ∙ ap (max config.time) (sym last);
      },
    )
stop-shows levels config whole all more after numbers Device new parts late far leaves =
    cut-shows levels whole all more how.Device numbers new parts leaves
stop-shows levels config whole all more after numbers NoMemory new parts late far leaves = tt

module _ (keys : Keys) (levels : ℕ) (config : Config) where
  -- The slots behind the last instruction passed.
  pub wait-shows : WaitPlays keys levels config → (whole : Play) (ending : PlayEnding) (numbers : Numbers) (until : ℕ)
      (old new : OramState) (told : Told) → EndsIn keys levels config whole ending numbers until old
      → OramStep keys levels old (Wait until) (Ok told) new
      → Forgery keys new.port.tap.log ⊎ RunShows levels whole ending numbers told.end new.port.tap.log
  wait-shows plays whole ending numbers until old new told x step =
      elim (plays x.slots x.now old new until told x.plays step) [
        | inl forged ↦ inl forged
        | inr (y, end) ↦ inr (
          whole,
          inl refl,
          record {
            events = y.taken.said ∙ ap (λ (r : Play). play_events r.slots) (sym x.whole_is);
            ending = ap (λ (r : Play). r.ending) x.whole_is;
            numbers = ap (λ (r : Play). r.numbers) x.whole_is ∙ x.numbers_are;
            last = ap (λ (r : Play). r.last) x.whole_is ∙ sym end;
          },
        )
      ]

  -- One of them was stopped.
  pub wait-stop-shows : WaitStops keys levels config → (whole : Play) (ending : PlayEnding) (numbers : Numbers)
      (until : ℕ) (old new : OramState) (stop : Stop) → EndsIn keys levels config whole ending numbers until old
      → old.stop ≡ None → OramStep keys levels old (Wait until) (Err stop) new
      → Forgery keys new.port.tap.log ⊎ StopShows levels config whole numbers stop new.port
  wait-stop-shows stops whole ending numbers until old new stop x going step =
      let taken : Taken = waited config until x.now in
      elim (stops x.slots x.now old new until stop x.plays going step) [
        | inl forged ↦ inl forged
        | inr leaves ↦ inr (subst (λ (n : Numbers). StopShows levels config whole n stop new.port) x.numbers_are
            (stop-shows levels config whole (x.slots ++ taken.slots) [] taken.standing x.now.numbers stop new.port
            (ap (λ (r : Play). r.slots) x.whole_is ∙ sym (append-nil (x.slots ++ taken.slots)))
            (λ at is. let no : None ≡ Some at = sym x.plays.in_time ∙ is in absurd cc)
            (λ at is. let no : None ≡ Some at = sym x.plays.in_time ∙ is in absurd cc)
            (leaves-of levels x.slots taken x.now.numbers stop new.port
            (passed-left config x.now.numbers until x.now.pace)
            (λ at is. let no : None ≡ Some at = sym x.plays.in_time ∙ is in absurd cc) leaves)))
      ]
