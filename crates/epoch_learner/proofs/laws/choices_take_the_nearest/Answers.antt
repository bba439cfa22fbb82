use Rattle.epoch_learner.proofs.Facts.{has_ranges, chosen_at_below, greatest_taken, nearest_taken, smaller_taken}
use Rattle.epoch_learner.proofs.laws.choices_take_the_nearest.Goals as goal

pub returns-clause-within : goal.returns-clause-within
returns-clause-within c = λ config learner end h. chosen_at_below learner end (has_ranges config learner h)

pub returns-clause-rates : goal.returns-clause-rates
returns-clause-rates c = λ config learner h. (has_ranges config learner h).listed

pub returns-clause-greatest : goal.returns-clause-greatest
returns-clause-greatest c = greatest_taken

pub returns-clause-near : goal.returns-clause-near
returns-clause-near c = nearest_taken

pub returns-clause-tie : goal.returns-clause-tie
returns-clause-tie c = smaller_taken
