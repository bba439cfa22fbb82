use Rattle.bus_trace.proofs.RateLaws.{power_few}
use Rattle.bus_trace.proofs.reader.least_epoch.Goals as goal

pub shared_ref_as_front-iter : goal.shared_ref_as_front-iter
shared_ref_as_front-iter c = (power_few c.args.rates.now.count c.requires.rates.power).1
