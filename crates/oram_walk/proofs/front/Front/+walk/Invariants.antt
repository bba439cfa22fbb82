use Rattle.oram_walk.proofs.front.Front.+walk.Given as goal

abbrev pub decreases-walk : goal.decreases-walk
decreases-walk g l = l.above
