use Rattle.asc_base.proofs.RateLists.{rates-le}
use Rattle.asc_base.proofs.laws.configs_have_sixteen_rates.Goals as goal

pub returns-clause-sixteen : goal.returns-clause-sixteen
returns-clause-sixteen c config is_config = is_config.sixteen

pub returns-clause-bounds : goal.returns-clause-bounds
returns-clause-bounds c config is_config =
    rates-le config.rates.list config.rates.count is_config.rates is_config.rest
