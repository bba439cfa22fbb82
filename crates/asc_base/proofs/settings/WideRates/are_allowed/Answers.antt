use Rattle.std.proofs.Common.{refl}
use Rattle.asc_base.proofs.RateLists.{power_count-le}
use Rattle.asc_base.proofs.settings.WideRates.are_allowed.Goals as goal

pub shared_ref_as_front-rates : goal.shared_ref_as_front-rates
shared_ref_as_front-rates c = (power_count-le _ (c.if-not-is_power_to.ensures.0 refl)).1
