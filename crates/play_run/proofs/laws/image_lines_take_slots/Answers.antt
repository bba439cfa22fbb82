use Rattle.play_run.proofs.Runs.{start-stands, line-stands, image-done, line-stop-shows}
use Rattle.play_run.proofs.laws.image_lines_take_slots.Goals as goal

pub returns : goal.returns
returns c = record {
  start = start-stands;
  line = λ keys levels config lawful plays. line-stands keys lawful levels config plays;
  done = image-done;
  stops = λ keys levels config lawful plays stops. line-stop-shows keys lawful levels config plays stops;
}
