use Rattle.std.proofs.Common.{rules, Some, None, sym, lit<, arith}
use Rattle.std.proofs.lemmas.Str.Pattern.{split_parts}
use Rattle.ascend_words.proofs.RatesLaws.{ends_with, part_without, reads_more, too_many}
use Rattle.ascend_words.proofs.rates.rates.Goals as goal

pub loop-preserved : goal.loop-preserved
loop-preserved c =
    let parts = split_parts 44 c.loop.rest.now (Some (c.in-Some.part, c.in-Some.more)) c.in-Some.ensures.cases (lit< tt)
    in
    record {
      text = search rules;
      reading = reads_more c.args.text.now c.loop.found c.loop.rest.now c.loop.counter c.loop.invariant.reading
          c.in-Some.part.now c.in-Some.more.now c.with_rate-found.result c.in-Some-number.rate parts.0 parts.1
          (sym c.in-Some-number.ensures) c.with_rate-found.ensures;
    }

pub returns-in-None-number : goal.returns-in-None-number
returns-in-None-number c =
    let parts = split_parts 44 c.loop.rest.now (Some (c.in-Some.part, c.in-Some.more)) c.in-Some.ensures.cases (lit< tt)
    in
    part_without c.args.text.now c.loop.found c.loop.rest.now c.loop.counter c.loop.invariant.reading
    c.in-Some.part.now c.in-Some.more.now parts.0 parts.1 (sym c.in-None-number.ensures)

pub returns-in-None : goal.returns-in-None
returns-in-None c =
    ends_with c.args.text.now c.loop.found c.loop.rest.now c.loop.counter c.loop.invariant.reading c.last.result
    (split_parts 44 c.loop.rest.now None c.in-None.ensures.cases (lit< tt)) (omega arith) c.last.ensures

pub returns : goal.returns
returns c =
    too_many c.args.text.now c.loop.found c.loop.rest.now c.loop.counter c.loop.invariant.reading (omega arith)
