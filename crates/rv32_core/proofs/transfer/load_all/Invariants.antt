use Rattle.std.proofs.Common.{◌≡◌, ◌+◌, ◌≤◌, List, ℕ, take, vec_len, vec_capacity}
use Rattle.request_plan.specs.Plan.{Ends, Stops}
use Rattle.rv32_core.specs.Transfer.{IsRange, pieces, loads_plan}
use Rattle.rv32_core.proofs.transfer.load_all.Given as goal

-- what is left to load completes the whole
abbrev pub invariant-loop-left : goal.invariant-loop-left
invariant-loop-left g l =
    let step = g.B.Bytes.step in
    record {
      base : g.B.Bytes.base l.memory ≡ g.B.Bytes.base l.fn.memory;
      size : g.B.Bytes.size l.memory ≡ g.B.Bytes.size l.fn.memory;
      range : IsRange (g.B.Bytes.base l.fn.memory) (g.B.Bytes.size l.fn.memory) l.at l.left;
      ready : g.B.Bytes.ready l.memory;
      len : vec_len l.output + l.left ≡ vec_len l.fn.output + l.fn.count;
      grown : vec_len l.fn.output ≤ vec_len l.output;
      room : vec_len l.fn.output + l.fn.count ≤ vec_capacity l.output;
      capacity : vec_capacity l.fn.output ≤ vec_capacity l.output;
      before : take (vec_len l.fn.output) l.output.items ≡ l.fn.output.items;
      ends : (new : _) (end : List ℕ) → Ends step (loads_plan l.output.items (pieces l.at l.left)) l.memory new end
          → Ends step (loads_plan l.fn.output.items (pieces l.fn.address l.fn.count)) l.fn.memory new end;
      stops : (new : _) (stop : _) → Stops step (loads_plan l.output.items (pieces l.at l.left)) l.memory new stop tt
          → Stops step (loads_plan l.fn.output.items (pieces l.fn.address l.fn.count)) l.fn.memory new stop tt;
    }

abbrev pub decreases-loop-left : goal.decreases-loop-left
decreases-loop-left g l = l.left
