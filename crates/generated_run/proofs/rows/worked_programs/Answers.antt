use Rattle.generated_run.proofs.Worked.{one_word, three_words, by_law}
use Rattle.generated_run.proofs.rows.worked_programs.Goals as goal

pub returns-clause-one_word : goal.returns-clause-one_word
returns-clause-one_word c = one_word

pub returns-clause-three_words : goal.returns-clause-three_words
returns-clause-three_words c = three_words

pub returns-clause-by_law : goal.returns-clause-by_law
returns-clause-by_law c = by_law
