-- What a line that is answered leaves of lines with a clock.
use Rattle.std.proofs.Common.{◌≡◌, ◌<◌, ◌+◌, ◌^◌, ◌∙◌, ℕ, None, Some, Ok, ap, arith}
use Rattle.asc_base.specs.declared.block.Line.{Line}
use Rattle.asc_base.specs.declared.settings.Config.{Config}
use Rattle.epoch_learner.proofs.StandLaws.{stands_apart}
use Rattle.oram_contents.specs.Entries.{Keys}
use Rattle.oram_frontend.specs.Oram.{OramState, OramStep, CanServe, Fetch, Store}
use Rattle.oram_frontend.specs.Slots.{FitKeys}
use Rattle.play_run.specs.Timed.{TimedState, CanAsk}
use Rattle.secure_machine.proofs.OramGoes.{oram_goes, fetch_takes}

abbrev ServesOf : ℕ → OramState → Type 0
ServesOf levels s = CanServe s.front s.port.clock s.port.tree levels s.port.memory s.port.tap

-- a line was fetched
pub fetched : (keys : Keys) (levels count : ℕ) (old : TimedState) (new : OramState) (line end : ℕ) (value : Line)
    → CanAsk levels count old → FitKeys keys old.oram.port
    → OramStep keys levels old.oram (Fetch old.clock line) (Ok (record { line = Some value; end = end })) new
    → ServesOf levels new → new.port.clock.last ≡ end
    → CanAsk levels count (record { oram = new; clock = end; fetches = old.fetches + 1 })
fetched keys levels count old new line end value ask fits step serves last =
    let goes = oram_goes keys levels old.oram new fits ask.serving (Fetch old.clock line) _ step in
    let more = fetch_takes keys levels old.oram new fits ask.serving old.clock line _ step in
    record {
      serving = record { going = step.0.1; serves = serves };
      last = omega (arith, last);
      lines = ap (λ (c : Config). c.shape.lines) goes.config ∙ ask.lines;
      counted = omega (arith, more, ask.counted);
    }

-- a line was stored
pub stored : (keys : Keys) (levels count : ℕ) (old : TimedState) (new : OramState) (line end : ℕ) (value : Line)
    → CanAsk levels count old → FitKeys keys old.oram.port
    → OramStep keys levels old.oram (Store old.clock line value) (Ok (record { line = None; end = end })) new
    → ServesOf levels new → new.port.clock.last ≡ end
    → CanAsk levels count (record { oram = new; clock = end; fetches = old.fetches })
stored keys levels count old new line end value ask fits step serves last =
    let goes = oram_goes keys levels old.oram new fits ask.serving (Store old.clock line value) _ step in
    record {
      serving = record { going = step.0.1; serves = serves };
      last = omega (arith, last);
      lines = ap (λ (c : Config). c.shape.lines) goes.config ∙ ask.lines;
      counted = omega (arith, goes.real, ask.counted);
    }

-- while it serves, the next slot starts before this cycle
pub next_early : (levels count : ℕ) (s : TimedState) → CanAsk levels count s → s.oram.port.clock.next < 2 ^ 30
next_early levels count s ask =
    let rests = ask.serving.serves.rests in
    let config = rests.stands.step.follows.is_of.is_config in
    let (least, most) = stands_apart rests.stands in
    omega (arith, rests.in_time, most, config.time.1, config.epoch.0, config.epoch.1)

-- so there is room for a fetch more
pub few_fetches : (levels count : ℕ) (s : TimedState) → CanAsk levels count s → s.fetches + 1 < 2 ^ 64
few_fetches levels count s ask =
    omega (arith, next_early levels count s ask, ask.counted, ask.serving.serves.rests.real)
