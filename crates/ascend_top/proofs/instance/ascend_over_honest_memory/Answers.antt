use Rattle.std.proofs.Common.{subst, sym, arith}
use Rattle.ascend_words.specs.Grammar.{IsWords}
use Rattle.ascend_top.specs.Instance.{short_read}
use Rattle.ascend_top.proofs.Instances.{short_is_read, short_right, short_room}
use Rattle.ascend_top.proofs.instance.ascend_over_honest_memory.Goals as goal

pub returns-clause-complete : goal.returns-clause-complete
returns-clause-complete g c read files is runs told right calm room =
    c.ascend.ensures.complete_play read files is runs told right calm c.requires.told (λ rose. omega (arith, rose)) room

pub returns-clause-short : goal.returns-clause-short
returns-clause-short g c files are told have calm =
    c.ascend.ensures.complete_play short_read files (subst (λ words. IsWords words short_read) (sym are) short_is_read)
    tt told (short_right files have) calm c.requires.told (λ rose. omega (arith, rose)) (short_room files)
