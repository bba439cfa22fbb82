use Rattle.run_play.specs.Requests.{access_slot}
use Rattle.run_play.proofs.Accesses.{access-early, access-late, passed-before, request-answered}
use Rattle.run_play.proofs.Steps.{one_by_one-append}
use Rattle.run_play.proofs.laws.accesses_take_slots.Goals as goal

pub returns : goal.returns
returns c = record {
  early = access-early;
  late = access-late;
  passed = passed-before;
  accesses = λ config value. one_by_one-append (access_slot config value);
  answered = request-answered;
}
