-- A port that was just made is what its log says, which is empty.
use Rattle.std.proofs.Common.{ℕ, refl, sym, subst}
use Rattle.asc_base.specs.declared.settings.Config.{Config}
use Rattle.bus_watch.specs.Log.{LogLists}
use Rattle.oram_contents.specs.Contents.{Contents}
use Rattle.oram_contents.specs.Entries.{Keys}
use Rattle.oram_contents.specs.Starts.{first_contents}
use Rattle.oram_frontend.specs.Oram.{OramState}
use Rattle.oram_lines.specs.Lines.{IsNew}
use Rattle.log_replay.specs.Replayed.{IsReplayedPort}
use Rattle.log_replay.proofs.Ports.{port_of_log}
use Rattle.log_replay.proofs.ReplayedLogs.{IsReplayedLog}
use Rattle.log_replay.proofs.WholeSlots.{start_replayed}

pub start_replays : (keys : Keys) (config : Config) (levels : ℕ) (o : OramState) → IsNew keys config levels o
    → IsReplayedPort keys o.port
start_replays keys config levels o is =
    port_of_log keys o.port o.port.tree.stash 0 is.fits refl is.dummies
    (subst (λ (c : Contents). IsReplayedLog keys o.port.tree.stash o.port.tap.log c 0) (sym is.contents_are)
    (subst (λ (l : LogLists). IsReplayedLog keys o.port.tree.stash l (first_contents keys) 0) (sym is.log)
    (start_replayed keys o.port.tree.stash)))
