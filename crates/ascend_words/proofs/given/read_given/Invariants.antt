use Rattle.std.proofs.Common.{take}
use Rattle.ascend_words.specs.Grammar.{AreGiven, texts}
use Rattle.ascend_words.specs.Reading.{pairs}
use Rattle.ascend_words.proofs.given.read_given.Given as goal

-- the words before this one were taken in
abbrev pub invariant-loop-index : goal.invariant-loop-index
invariant-loop-index l = AreGiven l.command (take l.index (texts l.words)) (pairs l.given.items)
