use Rattle.ascend_words.proofs.RatesLaws.{with_rate_is}
use Rattle.ascend_words.proofs.rates.with_rate.Goals as goal

pub returns : goal.returns
returns c numbers e = with_rate_is c.args.rates c.args.rate numbers c.requires e
