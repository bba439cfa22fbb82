use Rattle.run_play.proofs.Answered.{access-plays}
use Rattle.run_play.proofs.Honest.{start-honest, load-honest}
use Rattle.run_play.proofs.HonestPlays.{instruction-honest}
use Rattle.run_play.proofs.Stored.{requests-data}
use Rattle.run_play.proofs.laws.plays_stay_honest.Goals as goal

pub returns : goal.returns
returns c = record {
  start = start-honest;
  load = load-honest;
  instruction = instruction-honest;
  stored = requests-data;
  answered = access-plays;
}
