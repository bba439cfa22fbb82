-- The command `gen`. It makes a program's file from two numbers, and has the steps of `run` with it in place of an ELF
-- file, and with an empty input. The file is written first where one is named for it.
use Rattle.std.specs.Prelude.{◌≡◌, ℕ, List, [], ◌∷◌, unwrap_or}
use Rattle.asc_base.specs.declared.settings.Settings.{Settings}
use Rattle.rv32_asm.specs.Generator.{generated_text, start}
use Rattle.ascend_words.specs.Grammar.{Pair}
use Rattle.ascend_words.specs.Settings.{number_in, settings_of, text_in}
use Rattle.ascend_words.specs.declared.table.Name.TheVariants.{Key, Save, Seed, Words}
use Rattle.ascend_top.specs.Asm.{file_of_text}
use Rattle.ascend_top.specs.FlatRun.{file_in}
use Rattle.ascend_top.specs.Parts.{IsImageOf}
use Rattle.ascend_top.specs.Steps.{Step, Judges, JudgesNumber, Loads, Reads, AKey, where_named}
use Rattle.ascend_top.specs.declared.commands.flat.Program.{Program}
use Rattle.ascend_top.specs.declared.refusal.Source.TheVariants.{Key as KeyFile}

-- the number that the program is made from, and how many data words it has
abbrev pub seed_in : List Pair → ℕ
seed_in given = unwrap_or (number_in given Seed) 0

abbrev pub count_in : List Pair → ℕ
count_in given = unwrap_or (number_in given Words) 0

-- the file of the program: what `asm` writes for its text
unfoldable pub gen_file : List Pair → List ℕ
gen_file given = file_of_text start (generated_text (seed_in given) (count_in given))

-- it is written where a file is named for it, and loaded into the memory of these settings
abbrev pub made_steps : Settings → List Pair → List Step
made_steps settings given =
    where_named (text_in given Save) (gen_file given) (Loads (gen_file given) settings.base settings.size ∷ [])

abbrev pub gen_steps : List Pair → List Step
gen_steps given =
    Judges (settings_of given) ∷ JudgesNumber Seed (seed_in given) ∷ JudgesNumber Words (count_in given)
    ∷ Reads KeyFile (file_in given Key) AKey ∷ made_steps (settings_of given) given

-- a program is the one that words make: its image is that of the file, and its input is empty
pub record IsGenerated (given : List Pair) (program : Program) : Type 0 where
  pub image : IsImageOf program.config.base program.config.size (gen_file given) program.image
  pub input : program.input.items ≡ []
