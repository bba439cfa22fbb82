use Rattle.oram_contents.proofs.Deciding.{decides_forgery}
use Rattle.oram_contents.proofs.laws.forgeries_are_decided.Goals as goal

pub returns : goal.returns
returns c = decides_forgery
