-- What is asked of lines of which a stop says nothing, since the encrypted memory behind them keeps it.
use Rattle.std.specs.Prelude.{◌≡◌, ℕ, List, Some, Result, Ok, Err}
use Rattle.asc_base.specs.declared.stop.Stop.{Stop}
use Rattle.data_cache.specs.Lines.{LineRequest}
use Rattle.oram_contents.specs.Entries.{Keys}
use Rattle.play_run.specs.Timed.{TimedState, TimedStep}
use Rattle.secure_machine.specs.declared.lines.Stopped.{Stopped}

-- An answered step is as it was. A stopped one was stopped with what is kept after it.
module _ (keys : Keys) (levels count : ℕ) where
  abbrev pub MarkedStep : TimedState → LineRequest → Result (List ℕ) Stopped → TimedState → Type 0
  MarkedStep old request (Ok bytes) new = TimedStep keys levels count old request (Ok bytes) new
  MarkedStep old request (Err mark) new =
      (stop : Stop) × (new.oram.stop ≡ Some stop) × TimedStep keys levels count old request (Err stop) new
