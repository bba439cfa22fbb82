use Rattle.std.proofs.Common.{sym, ◌∙◌, ap, Some}
use Rattle.ascend_words.proofs.GrammarLaws.{held_some, held_none}
use Rattle.ascend_words.proofs.given.value_of.Goals as goal

pub returns-in-Some : goal.returns-in-Some
returns-in-Some c = ap Some c.as_str.ensures.value ∙ held_some c.args.given.now c.args.name c.in-Some.one.now
    (sym c.in-Some.ensures)

pub returns-in-None : goal.returns-in-None
returns-in-None c = held_none c.args.given.now c.args.name (sym c.in-None.ensures)
