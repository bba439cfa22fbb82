-- A run that ends behind an instruction, over a memory that alters no reply, leaves each block at home.
use Rattle.std.proofs.Common.{◌≡◌, ◌⊎◌, inl, inr, ℕ, [], Some, Result, Ok, Err, IfOk, refl, sym, ap, subst, arith}
use Rattle.asc_base.specs.declared.settings.Config.{Config}
use Rattle.asc_base.specs.declared.stop.Stop.{Stop}
use Rattle.asc_base.specs.declared.stop.Stop.TheVariants as why
use Rattle.bus_watch.specs.Log.{LogLists}
use Rattle.oram_contents.specs.Contents.{Contents}
use Rattle.oram_contents.specs.Entries.{Keys, AreKeys}
use Rattle.oram_contents.specs.Forgery.{Forgery}
use Rattle.oram_frontend.specs.Oram.{OramState, OramStep, Told, Wait}
use Rattle.oram_lines.proofs.HonestTriples.{unforged}
use Rattle.oram_lines.proofs.LineLaws.{forgery_call}
use Rattle.oram_play.specs.AtHome.{IsAtHome}
use Rattle.oram_play.proofs.Homes.{wait_home}
use Rattle.log_replay.specs.Replayed.{IsReplayed}
use Rattle.play_run.specs.Stands.{EndsIn}
use Rattle.run_play.specs.Play.{Play, PlayEnding}
use Rattle.run_play.specs.Slots.{Numbers}
use Rattle.secure_machine.specs.Finish.{StopsLater}
use Rattle.secure_machine.specs.FlatEnds.{ending_by}
use Rattle.secure_machine.specs.Home.{EndsBehind, LeavesHome, EndsAtHome}
use Rattle.secure_machine.specs.declared.report.Ending.{Ending}
use Rattle.secure_machine.specs.declared.report.Ending.TheVariants.{TimeUp, StashFull, Integrity, Device}

module _ (keys : Keys) (lawful : AreKeys keys) (levels : ℕ) (config : Config) where
  -- the slots up to the end passed
  pub home_behind : (whole : Play) (ending : PlayEnding) (numbers : Numbers) (until : ℕ) (told : Told)
      (old new : OramState) → Forgery keys old.port.tap.log ⊎ EndsIn keys levels config whole ending numbers until old
      → OramStep keys levels old (Wait until) (Ok told) new → IsReplayed keys new → new.port.tap.log.altered ≡ []
      → LeavesHome keys config whole new.port.tap.log
  home_behind whole ending numbers until told old new (inl forged) step replayed none =
      absurd (unforged keys new.port.tap.log (forgery_call keys lawful levels old new (Wait until) told step forged)
      none)
  home_behind whole ending numbers until told old new (inr x) step replayed none = record {
    now = x.now;
    is = ap (λ (p : Play). p.behind) x.whole_is;
    held = new.front.held;
    home = subst (λ (c : Contents). IsAtHome keys config x.now new.front.held c) (sym replayed.port.contents_are)
        (wait_home keys lawful levels config x.slots x.now until told old new x.plays step none);
  }

-- a stop is no ending behind an instruction
stop_cuts : (instructions cycles : ℕ) (stop : Stop) (ending : Ending) → ending_by stop ≡ Some ending
    → StopsLater instructions cycles stop → EndsBehind instructions cycles ending → ⊥
stop_cuts instructions cycles (why.Integrity evidence) ending is late behind =
    let e : ending ≡ Integrity evidence = cc in subst (EndsBehind instructions cycles) e behind
stop_cuts instructions cycles (why.StashFull held) ending is late behind =
    let e : ending ≡ StashFull held = cc in subst (EndsBehind instructions cycles) e behind
stop_cuts instructions cycles (why.TimeUp at) ending is late behind =
    let e : ending ≡ TimeUp at = cc in
    let (some, here) = subst (EndsBehind instructions cycles) e behind in
    let more = late at refl some in
    omega (arith, here, more)
stop_cuts instructions cycles why.Device ending is late behind =
    let e : ending ≡ Device = cc in subst (EndsBehind instructions cycles) e behind
stop_cuts instructions cycles why.NoMemory ending is late behind = absurd cc

pub stopped_home : {E : Type 0} (keys : Keys) (config : Config) (whole : Play) (instructions cycles : ℕ)
    (log : LogLists) (stop : Stop) (result : Result (Ending × ℕ) E)
    → IfOk result (λ (ending, last). ending_by stop ≡ Some ending) → StopsLater instructions cycles stop
    → IfOk result (λ (ending, last). EndsAtHome keys config whole instructions cycles ending log)
stopped_home keys config whole instructions cycles log stop (Ok (ending, last)) named late =
    λ behind none. absurd (stop_cuts instructions cycles stop ending named late behind)
stopped_home keys config whole instructions cycles log stop (Err e) named late = tt
