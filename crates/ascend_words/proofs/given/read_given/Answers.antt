use Rattle.std.proofs.Common.{arith, refl, sym, subst}
use Rattle.ascend_words.specs.Grammar.{AreGiven, MayFollow}
use Rattle.ascend_words.specs.Reading.{pairs}
use Rattle.ascend_words.proofs.GrammarLaws.{AreGiven-more, all_texts, misfit}
use Rattle.ascend_words.proofs.given.read_given.Goals as goal

pub returns-in_default-clause-stop : goal.returns-in_default-clause-stop
returns-in_default-clause-stop c = (
  c.loop-index.index,
  refl,
  misfit c.args.command c.args.words.now c.loop-index.index c.index-words-index.result c.as_str.result.now
      c.loop-index.given.items
      (omega arith) c.index-words-index.is c.as_str.ensures.value c.loop-index.invariant
      (λ pair e may. c.in_default.ensures pair e (subst (λ g. MayFollow c.args.command (pairs g) pair)
      (sym c.as_slice.ensures.value) may)),
)

pub loop-index-preserved : goal.loop-index-preserved
loop-index-preserved c =
    AreGiven-more c.args.command c.args.words.now c.loop-index.index c.index-words-index.result c.as_str.result.now
    c.loop-index.given.items
    c.push.new.self.items c.in_ok-one.one c.in-Some.name c.in-Some.value.now (omega arith) c.index-words-index.is
    c.as_str.ensures.value c.loop-index.invariant c.in-Some.ensures.0
    (subst (λ g. MayFollow c.args.command (pairs g) (record { name = c.in-Some.name; value = c.in-Some.value.now }))
    c.as_slice.ensures.value c.in-Some.ensures.1)
    c.in_ok-one.ensures.ok.0 c.in_ok-one.ensures.ok.1 c.in-Ok.ensures.items

pub returns-clause-read : goal.returns-clause-read
returns-clause-read c =
    subst (λ ws. AreGiven c.args.command ws (pairs c.loop-index.given.items))
    (all_texts c.args.words.now c.loop-index.index c.loop-index-test.false) c.loop-index.invariant
