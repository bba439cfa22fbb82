use Rattle.std.proofs.Common.{Some, None, sym, lit<}
use Rattle.std.proofs.lemmas.Str.Pattern.{split_parts}
use Rattle.ascend_words.proofs.GrammarLaws.{gives_pair, no_equals, no_name}
use Rattle.ascend_words.proofs.given.name_and_value.Goals as goal

pub returns : goal.returns
returns c =
    let parts = split_parts 61 c.args.word.now (Some (c.in_ok-text.text, c.in_ok-text.value))
    c.in_ok-text.ensures.cases (lit< tt) in
    gives_pair c.args.word.now c.in_ok-text.text.now c.in_ok-text.value.now _ parts.0 (sym c.in_ok-written.ensures)

pub returns-in_err-text : goal.returns-in_err-text
returns-in_err-text c =
    rw c.from_residual.ensures (no_equals c.args.word.now (split_parts 61 c.args.word.now None
    c.in_err-text.ensures.cases (lit< tt)))

pub returns-in_err-written : goal.returns-in_err-written
returns-in_err-written c =
    let parts = split_parts 61 c.args.word.now (Some (c.in_ok-text.text, c.in_ok-text.value))
    c.in_ok-text.ensures.cases (lit< tt) in
    rw c.from_residual-in_err-written.ensures
    (no_name c.args.word.now c.in_ok-text.text.now c.in_ok-text.value.now parts.0 parts.1
    (sym c.in_err-written.ensures))
