-- The command `check`: it reads the trace file, and prints what holds of the trace.
use Rattle.std.specs.Prelude.{ℕ, List, [], ◌∷◌}
use Rattle.asc_outside.specs.Host.{Files}
use Rattle.ascend_words.specs.Grammar.{Pair}
use Rattle.ascend_words.specs.declared.table.Name.TheVariants.{Trace}
use Rattle.trace_checker.specs.declared.verdict.Verdict.TheVariants.{Holds}
use Rattle.ascend_top.specs.FlatRun.{bytes_in, file_in}
use Rattle.ascend_top.specs.Steps.{Step, Reads, Prints, ATrace, IsChecked}
use Rattle.ascend_top.specs.Texts.{held_text}
use Rattle.ascend_top.specs.declared.refusal.Source.TheVariants.{Trace as TraceFile}

abbrev pub check_steps : List Pair → List Step
check_steps given = Reads TraceFile (file_in given Trace) ATrace ∷ []

-- over these files a check says that the trace holds, with this code and so many bits
abbrev pub AreHeld : List Pair → Files → (code bits : ℕ) → Type 0
AreHeld given files code bits = IsChecked (bytes_in files (file_in given Trace)) (Holds code bits)

-- the step after it
abbrev pub held_steps : (code bits : ℕ) → List Step
held_steps code bits = Prints (held_text code bits) ∷ []
