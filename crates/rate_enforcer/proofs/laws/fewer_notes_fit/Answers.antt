use Rattle.rate_enforcer.proofs.StateLaws.{rests_less, opens_less}
use Rattle.rate_enforcer.proofs.laws.fewer_notes_fit.Goals as goal

pub returns-clause-between : goal.returns-clause-between
returns-clause-between c fewer notes levels clock tree m t less r = rests_less fewer less r

pub returns-clause-inside : goal.returns-clause-inside
returns-clause-inside c fewer notes levels clock slot tree m t less o = opens_less fewer less o
