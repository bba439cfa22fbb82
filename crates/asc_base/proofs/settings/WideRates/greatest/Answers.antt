use Rattle.asc_base.proofs.RateLists.{rate_count-le}
use Rattle.asc_base.proofs.settings.WideRates.greatest.Goals as goal

pub shared_ref_as_front-iter : goal.shared_ref_as_front-iter
shared_ref_as_front-iter c = (rate_count-le _ _ c.requires).1
