use Rattle.bus_trace.proofs.RateLaws.{seen_outside, end_outside}
use Rattle.bus_trace.proofs.lines.item_of.Goals as goal

pub returns-in-None : goal.returns-in-None
returns-in-None c =
    seen_outside c.args.text.now c.args.levels c.in-Some.three.first c.in-Some.three.second c.in-Some.three.third
    c.requires c.in-Some.ensures.0 c.in-Some.ensures.1 c.in-Some.ensures.2 c.in-Some.ensures.3 c.in-None.ensures

pub returns-then-end-gt-LATEST : goal.returns-then-end-gt-LATEST
returns-then-end-gt-LATEST c =
    end_outside c.args.text.now c.args.levels c.in-Some-one_number.end c.in-Some-one_number.ensures.0
    c.in-Some-one_number.ensures.1 c.if-end-gt-LATEST.true
