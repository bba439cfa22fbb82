-- Each call of an encrypted memory takes the slots of the play that it stands in.
use Rattle.std.proofs.Common.{◌≡◌, ◌<◌, inl, inr, ℕ, List, Option, refl, subst, arith}
use Rattle.asc_base.specs.Settings.{IsConfig}
use Rattle.asc_base.specs.declared.block.Line.{Line}
use Rattle.asc_base.specs.declared.settings.Config.{Config}
use Rattle.asc_base.specs.declared.stop.Stop.{Stop}
use Rattle.asc_base.specs.declared.stop.Stop.TheVariants.{Integrity, StashFull, TimeUp, Device, NoMemory}
use Rattle.bus_schedule.specs.Timetable.{public_of}
use Rattle.data_cache.specs.Lines.{LineRequest, Fetch, Store}
use Rattle.oram_contents.specs.Entries.{Keys, AreKeys}
use Rattle.oram_frontend.specs.Oram.{OramState}
use Rattle.oram_lines.specs.Lines.{IsRequest}
use Rattle.oram_play.specs.Playing.{PlaysAs, IsCut, IsTold, LeavesOf, called}
use Rattle.oram_play.specs.Stopped.{WaitLeaves}
use Rattle.oram_play.proofs.CutSteps.{wait-left}
use Rattle.oram_play.proofs.Stands.{new_plays, request_stands, wait_stands, keys_lines}
use Rattle.oram_play.proofs.StopsStand.{request-cuts}
use Rattle.rate_enforcer.specs.PortStep.{PortState}
use Rattle.run_play.specs.Halt as cut
use Rattle.run_play.specs.Halt.{Refused, Overfull, MoveFails}
use Rattle.run_play.specs.Requests.{Standing, requested}
use Rattle.run_play.specs.Slots.{Slot, passed}
use Rattle.play_run.specs.Given.{IsWhole, told_line, waited, RequestPlays, RequestStops, WaitPlays, WaitStops}
use Rattle.play_run.specs.Given.{CallsPlay}

module _ (keys : Keys) (lawful : AreKeys keys) (levels : ℕ) (config : Config) where
  -- a request is for a line of the settings
  asked : (slots : List Slot) (now : Standing) (old : OramState) (request : LineRequest)
      → PlaysAs keys levels config slots now old → requested request < keys.shape.lines → IsWhole request
      → IsRequest config.shape.lines (called now.clock request)
  asked slots now old (Fetch line) x below whole =
      omega (arith, keys_lines keys lawful levels config slots now old x, below)
  asked slots now old (Store line value) x below whole =
      (omega (arith, keys_lines keys lawful levels config slots now old x, below), whole)

  told_so : (now : Standing) (request : LineRequest) (told : Option Line) → IsTold now request told
      → told ≡ told_line now.data_lines request
  told_so now (Fetch line) told is = is
  told_so now (Store line value) told is = is

  requests : RequestPlays keys levels config
  requests slots now old new request told x below whole step =
      elim (request_stands keys lawful levels config slots now request told old new x
      (asked slots now old request x below whole) step) [
        | inl forged ↦ inl forged
        | inr (y, end, is) ↦ inr (y, end, told_so now request told.line is)
      ]

  stops : RequestStops keys levels config
  stops slots now old new request stop x going below whole step =
      request-cuts keys lawful levels config slots now old x stop new request
      (asked slots now old request x below whole) going step

  waits : WaitPlays keys levels config
  waits slots now old new time told x step =
      inr (wait_stands keys lawful levels config slots now time told old new x step)

  -- what a stop leaves of a wait
  wait-leaves : (slots : List Slot) (now : Standing) (time : ℕ) (old new : PortState) → old.clock.config ≡ config
      → (stop : Stop) → WaitLeaves keys levels now.numbers slots now.pace time old stop new
      → LeavesOf levels slots (waited config time now) stop new
  wait-leaves slots now time old new same stop = by_stop stop
    where
      at : (how : cut.Stop)
          → IsCut levels slots (passed (public_of old.clock.config) now.numbers time now.pace).slots how new
          → IsCut levels slots (waited config time now).slots how new
      at how c =
          subst (λ (c : Config). IsCut levels slots (passed (public_of c) now.numbers time now.pace).slots how new)
          same c

      by_stop : (stop : Stop) → WaitLeaves keys levels now.numbers slots now.pace time old stop new
          → LeavesOf levels slots (waited config time now) stop new
      by_stop (Integrity evidence) c = (Refused evidence, refl, at (Refused evidence) c)
      by_stop (StashFull held) c = (Overfull held, refl, at (Overfull held) c)
      by_stop (TimeUp time') c = absurd c
      by_stop Device (move, c) = (MoveFails move, refl, at (MoveFails move) c)
      by_stop NoMemory c = tt

  wait-stops : WaitStops keys levels config
  wait-stops slots now old new time stop x going step =
      let rests = x.stands.rests in
      inr (wait-leaves slots now time old.port new.port x.config_is stop
      (wait-left keys levels rests.0 time stop old new slots now.pace now.numbers x.stands.known.fits rests.2 going
      x.taken step))

  -- So an encrypted memory begins, and so each of its calls does.
  pub calls-play : IsConfig config → CallsPlay keys levels config
  calls-play is = record {
    start_plays = λ o new same sizes. new_plays keys lawful levels config o is new same;
    request_plays = requests;
    request_stops = stops;
    wait_plays = waits;
    wait_stops = wait-stops;
  }
