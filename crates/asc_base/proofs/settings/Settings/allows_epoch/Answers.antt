use Rattle.std.proofs.Common.{arith, lit<}
use Rattle.asc_base.specs.declared.settings.Setting.TheVariants.{Rates}
use Rattle.asc_base.proofs.RateLists.{greatest_rate-le}
use Rattle.asc_base.proofs.ShapeFacts.{IsLayered, shape_layered}
use Rattle.asc_base.proofs.settings.Settings.allows_epoch.Goals as goal

pub greatest-requires : goal.greatest-requires
greatest-requires c = c.requires Rates (lit< tt)

pub overflow_add-olat : goal.overflow_add-olat
overflow_add-olat c =
    let facts : IsLayered c.shape-shape.result = shape_layered c.shape-shape.result c.shape-shape.ensures.is_shape in
    omega (arith, c.olat.ensures, c.greatest.ensures, greatest_rate-le _ _ (c.requires Rates (lit< tt)))
