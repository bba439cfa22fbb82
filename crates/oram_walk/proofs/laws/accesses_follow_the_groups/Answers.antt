use Rattle.oram_walk.proofs.Shadows.{visit_shows, visit_leaves, hold_shows}
use Rattle.oram_walk.proofs.laws.accesses_follow_the_groups.Goals as goal

pub returns-clause-shows : goal.returns-clause-shows
returns-clause-shows c = visit_shows

pub returns-clause-groups : goal.returns-clause-groups
returns-clause-groups c = visit_leaves

pub returns-clause-displaced : goal.returns-clause-displaced
returns-clause-displaced c = hold_shows
