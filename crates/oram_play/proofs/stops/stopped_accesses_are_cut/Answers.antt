use Rattle.oram_play.proofs.CutSteps.{slot-left, append-left, wait-left}
use Rattle.oram_play.proofs.stops.stopped_accesses_are_cut.Goals as goal

pub returns : goal.returns
returns c = record {
  slot = λ keys levels notes access stop old new slots pace numbers fits rests had step.
      slot-left keys levels notes numbers old new slots pace fits rests had access stop step;
  append = append-left;
  wait = wait-left;
}
