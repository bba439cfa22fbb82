use Rattle.std.proofs.Common.{◌≡◌, None}
use Rattle.oram_frontend.specs.Oram.{CanServe}
use Rattle.oram_frontend.proofs.tests.ask_all.Given as goal

abbrev pub invariant-loop-call : goal.invariant-loop-call
invariant-loop-call g l = record {
  serves : l.oram.stop ≡ None → CanServe l.oram.front l.oram.port.clock l.oram.port.tree
      (g.L.LeafFn.levels l.oram.port.leaves) (g.M.UntrustedMemory.state l.bus.memory.now)
      (g.W.Watch.state l.bus.tap.now);
  lines : l.oram.front.shape.lines ≡ l.lines;
}
