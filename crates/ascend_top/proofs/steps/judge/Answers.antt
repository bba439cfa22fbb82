use Rattle.std.proofs.Common.{ap, refl, ◌∙◌}
use Rattle.asc_base.specs.declared.settings.Config.{Config}
use Rattle.ascend_top.proofs.StepLaws.{config_numbers, judged, misjudged}
use Rattle.ascend_top.proofs.steps.judge.Goals as goal

pub returns-in-Ok-clause-config : goal.returns-in-Ok-clause-config
returns-in-Ok-clause-config c =
    let numbers = config_numbers c.args.settings.now in
    record {
      allowed = c.in-Ok.ensures.allowed.0 refl;
      made = c.in-Ok.ensures.config;
      is_config = c.in-Ok.ensures.is_config;
      memory = c.in-Ok.ensures.is_config.memory;
      base = ap (λ (config : Config). config.base) c.in-Ok.ensures.config ∙ numbers.0;
      size = ap (λ (config : Config). config.size) c.in-Ok.ensures.config ∙ numbers.1;
      budget = ap (λ (config : Config). config.budget) c.in-Ok.ensures.config ∙ numbers.2;
    }

pub returns-in-Err-clause-refused : goal.returns-in-Err-clause-refused
returns-in-Err-clause-refused c = λ state. misjudged c.args.settings.now c.in-Err.setting state
    ((c.in-Err.ensures.fault c.in-Err.setting).0 refl)

pub returns-in-Ok-clause-judged : goal.returns-in-Ok-clause-judged
returns-in-Ok-clause-judged c = λ state. judged c.args.settings.now state (c.in-Ok.ensures.allowed.0 refl)
