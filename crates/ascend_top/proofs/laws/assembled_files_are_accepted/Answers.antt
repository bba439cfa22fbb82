use Rattle.ascend_top.proofs.AssembledLaws.{no_fault, entry_is, memory_is, one_word}
use Rattle.ascend_top.proofs.laws.assembled_files_are_accepted.Goals as goal

pub returns-clause-faultless : goal.returns-clause-faultless
returns-clause-faultless c base size at bytes inside = no_fault base size at bytes inside

pub returns-clause-memory : goal.returns-clause-memory
returns-clause-memory c base size at bytes inside = memory_is base size at bytes inside

pub returns-clause-entry : goal.returns-clause-entry
returns-clause-entry c base size at bytes inside = entry_is base size at bytes inside

pub returns-clause-one : goal.returns-clause-one
returns-clause-one c = one_word
