use Rattle.encrypted_run.proofs.ImageLaws.{loaded_is}
use Rattle.encrypted_run.proofs.WholeLaws.{start_computes, wait_computes, image_refines, whole_refines}
use Rattle.encrypted_run.proofs.whole_runs_refine_flat_runs.Goals as goal

pub returns : goal.returns
returns c = record {
  start = start_computes;
  wait = wait_computes;
  image = λ image marked count long. loaded_is image count long marked;
  lines = image_refines;
  run = whole_refines;
}
