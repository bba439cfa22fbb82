-- The command `asm`: it judges the place, reads the text, which is a program's, and writes the program's file.
use Rattle.std.specs.Prelude.{ℕ, List, [], ◌∷◌, unwrap_or}
use Rattle.std.specs.Result.{result_unwrap_or}
use Rattle.asc_outside.specs.Host.{Files}
use Rattle.rv32_asm.specs.File.{assembled}
use Rattle.ascend_words.specs.Grammar.{Pair}
use Rattle.ascend_words.specs.Settings.{number_in}
use Rattle.ascend_words.specs.declared.table.Name.TheVariants.{At, Elf, Text}
use Rattle.ascend_top.specs.FlatRun.{bytes_in, file_in}
use Rattle.ascend_top.specs.Steps.{Step, JudgesNumber, Reads, Writes, AText}
use Rattle.ascend_top.specs.declared.refusal.Source.TheVariants.{Text as TextFile}

-- where the program begins
abbrev pub place_in : List Pair → ℕ
place_in given = unwrap_or (number_in given At) 65_536

abbrev pub asm_steps : List Pair → List Step
asm_steps given =
    JudgesNumber At (place_in given) ∷ Reads TextFile (file_in given Text) (AText (place_in given)) ∷ []

-- the file of a text at a place
abbrev pub file_of_text : ℕ → List ℕ → List ℕ
file_of_text at text = result_unwrap_or (assembled at text) []

-- the file of the text that words name, over these files
abbrev pub asm_file : List Pair → Files → List ℕ
asm_file given files = file_of_text (place_in given) (bytes_in files (file_in given Text))

-- the step after it
abbrev pub write_steps : List Pair → List ℕ → List Step
write_steps given file = Writes (file_in given Elf) file ∷ []
