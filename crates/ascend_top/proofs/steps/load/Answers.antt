use Rattle.std.proofs.Common.{rules}
use Rattle.ascend_top.proofs.StepLaws.{loaded, load_refused}
use Rattle.ascend_top.proofs.steps.load.Goals as goal

pub returns-in-Ok-clause-loaded : goal.returns-in-Ok-clause-loaded
returns-in-Ok-clause-loaded c = λ state.
    loaded c.args.file.now c.args.base c.args.size state c.in-Ok.ensures.faultless

pub returns-in-Err : goal.returns-in-Err
returns-in-Err c = record {
  memory = tt;
  image = tt;
  loaded = tt;
  refused = λ state. load_refused c.args.file.now c.args.base c.args.size c.in-Err.fault state
      (c.in-Err.ensures.first (λ e. search rules));
}
