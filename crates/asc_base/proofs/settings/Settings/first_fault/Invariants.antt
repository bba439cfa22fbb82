use Rattle.std.proofs.Common.{◌<◌}
use Rattle.asc_base.specs.declared.settings.Setting.{Setting}
use Rattle.asc_base.specs.Settings.{InRange, place_of}
use Rattle.asc_base.proofs.settings.Settings.first_fault.Given as goal

abbrev pub invariant-loop-setting : goal.invariant-loop-setting
invariant-loop-setting l = (earlier : Setting) → place_of earlier < l.setting-index → InRange l.self earlier
