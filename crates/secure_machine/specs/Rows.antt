-- Configurations whose plays are judged, and programs whose reports are.
use Rattle.std.specs.Prelude.{◌≡◌, ℕ, List, [], ◌∷◌, replicate}
use Rattle.asc_base.specs.declared.settings.Config.{Config}
use Rattle.elf_loader.specs.declared.image.Image.{Image}
use Rattle.fed_run.specs.Fed.{NotedLine, numbered}
use Rattle.run_play.specs.Programs.{load_words, memory_with}
use Rattle.run_play.specs.Rows.{one_held}
use Rattle.secure_machine.specs.declared.report.Ending.{Ending}
use Rattle.secure_machine.specs.declared.report.Report.{Report}

-- one root, room for one held block, and no block that may stay at hand
abbrev pub without_stash : Config
without_stash = record one_held { stash = 0 }

-- an image of a program in one line, at the beginning of a memory of 64 lines
pub record IsLoaded (words : List ℕ) (image : Image) : Type 0 where
  pub bytes : image.bytes.items ≡ memory_with 4096 0 words
  pub marked : image.marked.items ≡ 0 ∷ []
  pub entry : image.entry ≡ 0
  pub heap : image.heap ≡ 0

-- a report that so many instructions were finished, that nothing was written, and of this ending
pub record IsSaid (instructions : ℕ) (ending : Ending) (report : Report) : Type 0 where
  pub instructions_are : report.instructions ≡ instructions
  pub output : report.output.items ≡ []
  pub ending_is : report.ending ≡ ending

-- what a load of line 1 is fed with over a cache of one line: that line, of zeros, and the program's own again
abbrev pub load_lines : List NotedLine
load_lines = numbered 1 (replicate 64 0) ∷ numbered 0 (memory_with 64 0 load_words) ∷ []
