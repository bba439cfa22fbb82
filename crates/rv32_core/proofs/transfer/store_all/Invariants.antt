use Rattle.std.proofs.Common.{◌≡◌, length}
use Rattle.request_plan.specs.Plan.{Ends, Stops}
use Rattle.rv32_core.specs.Transfer.{IsRange, pieces, stores_plan}
use Rattle.rv32_core.proofs.transfer.store_all.Given as goal

-- what is left to store completes the whole
abbrev pub invariant-loop-rest : goal.invariant-loop-rest
invariant-loop-rest g l =
    let step = g.B.Bytes.step in
    record {
      base : g.B.Bytes.base l.memory ≡ g.B.Bytes.base l.fn.memory;
      size : g.B.Bytes.size l.memory ≡ g.B.Bytes.size l.fn.memory;
      range : IsRange (g.B.Bytes.base l.fn.memory) (g.B.Bytes.size l.fn.memory) l.at (length l.rest);
      ready : g.B.Bytes.ready l.memory;
      ends : (new : _) → Ends step (stores_plan l.rest (pieces l.at (length l.rest))) l.memory new tt
          → Ends step (stores_plan l.fn.bytes (pieces l.fn.address (length l.fn.bytes))) l.fn.memory new tt;
      stops : (new : _) (stop : _) → Stops step (stores_plan l.rest (pieces l.at (length l.rest))) l.memory new stop tt
          → Stops step (stores_plan l.fn.bytes (pieces l.fn.address (length l.fn.bytes))) l.fn.memory new stop tt;
    }

abbrev pub decreases-loop-rest : goal.decreases-loop-rest
decreases-loop-rest g l = length l.rest
