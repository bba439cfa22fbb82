use Rattle.std.proofs.Common.{◌<◌, inl, inr}
use Rattle.std.specs.Prelude.{◌⊎◌}
use Rattle.bus_trace.proofs.RateLaws.{number_outside}
use Rattle.bus_trace.proofs.lines.number_of.Goals as goal
use Rattle.bus_trace.proofs.lines.number_of.Goals.{then-number-least-via-then-number-least}
use Rattle.bus_trace.proofs.lines.number_of.Goals.{then-number-least-via-else-number-least+then-most-number}

pub returns-then-number-least : goal.returns-then-number-least
returns-then-number-least c =
    let out : (c.in-Some.number < c.args.least) ⊎ (c.args.most < c.in-Some.number) =
    elim c.then-number-least.branch [
      | then-number-least-via-then-number-least w ↦ inl w.if-number-least.true
      | then-number-least-via-else-number-least+then-most-number w ↦ inr w.if-most-number.true
    ] in
    number_outside c.args.text.now c.args.word.now c.args.least c.args.most c.in-Some.number c.requires
    c.in-Some.ensures.0 c.in-Some.ensures.1 out
