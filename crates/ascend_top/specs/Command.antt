-- What a command does, by how it ends: its steps before its work, the work, the steps after it, and the text of a
-- refusal.
use Rattle.std.specs.Prelude.{◌≡◌, ◌⊎◌, ℕ, ◌≤◌, List, [], ◌∷◌, Option, Some, None, IsSome, Result, Ok, Err}
use Rattle.std.specs.List.{AllByRecursion}
use Rattle.asc_outside.specs.Host.{HostCall, Prints as PrintsText, HostState, Files}
use Rattle.asc_outside.specs.Rose.{Rose}
use Rattle.ascend_words.specs.Grammar.{Pair, Read}
use Rattle.ascend_words.specs.declared.table.Command.{Command}
use Rattle.ascend_words.specs.declared.table.Command.TheVariants.{Run, Flat, Asm, Disasm, Check, Gen}
use Rattle.ascend_top.specs.Asm.{asm_steps, asm_file, write_steps}
use Rattle.ascend_top.specs.Check.{check_steps, held_steps, AreHeld}
use Rattle.ascend_top.specs.Disasm.{disasm_steps, disasm_listing, print_steps}
use Rattle.ascend_top.specs.Flat.{flat_steps, report_steps}
use Rattle.ascend_top.specs.FlatRun.{Report, flat_report, outcome_report}
use Rattle.ascend_top.specs.Lent.{IsIdle, Lent}
use Rattle.ascend_top.specs.Gen.{gen_steps}
use Rattle.ascend_top.specs.Made.{Made, Encrypted, Ran, Assembled, Listed, Held}
use Rattle.ascend_top.specs.Run.{IsRun, RunWants, run_report_steps, run_steps}
use Rattle.ascend_top.specs.Status.{status_of_made, status_of_refusal}
use Rattle.ascend_top.specs.Steps.{AllDone, AsksMore, IsCause, IsDone, IsRefused, PrintsMore, Shows, Step}
use Rattle.ascend_top.specs.Texts.{refusal_text}
use Rattle.ascend_top.specs.declared.commands.flat.Outcome.{Outcome}
use Rattle.ascend_top.specs.declared.commands.Product.{Product}
use Rattle.ascend_top.specs.declared.commands.Product.TheVariants as product
use Rattle.ascend_top.specs.declared.refusal.Refusal.{Refusal}
use Rattle.ascend_top.specs.declared.refusal.Refusal.TheVariants.{Usage, OutOfRange, Elf, KeyLength, TooLong, Host}
use Rattle.ascend_top.specs.declared.refusal.Refusal.TheVariants.{NoMemory, NumberOutOfRange, Assembler, Trace, Fails}

-- the steps of a command before its work: before a run, and before what was read is assembled or listed, or the end of
-- its check printed
abbrev pub steps_of : Command → List Pair → List Step
steps_of Run given = run_steps given
steps_of Flat given = flat_steps given
steps_of Asm given = asm_steps given
steps_of Disasm given = disasm_steps given
steps_of Check given = check_steps given
steps_of Gen given = gen_steps given

-- What a command's work is meant to come to, where it is no run over encrypted memory, over the files that are told or
-- shown: the report of the flat run, the text's file, the program's lines, or what a check says of the trace.
abbrev pub IsMeant : Command → List Pair → Option Files → Made → Type 0
IsMeant Run given told made = ⊥
IsMeant Flat given told made =
    Shows told (λ files. Shows told (λ later. made ≡ Ran (flat_report given files later)))
IsMeant Asm given told made = Shows told (λ files. made ≡ Assembled (asm_file given files))
IsMeant Disasm given told made = Shows told (λ files. made ≡ Listed (disasm_listing given files))
IsMeant Check given told (Held code bits) = Shows told (λ files. AreHeld given files code bits)
IsMeant Check given told made = ⊥
IsMeant Gen given told made = ⊥

-- What a command's work comes to, over files that are told or not: `run` and `gen` to a run over the memory and the
-- tap, every other command to what is meant, and it leaves memory and tap as they were.
abbrev pub IsMade : Command → List Pair → Lent → Option Files → Made → Type 0
IsMade Run given lent told (Encrypted run) = IsRun Run given told lent run
IsMade Run given lent told made = ⊥
IsMade Gen given lent told (Encrypted run) = IsRun Gen given told lent run
IsMade Gen given lent told made = ⊥
IsMade command given lent told made =
    IsIdle lent × IsMeant command given told made

-- what there is where it found no memory
abbrev pub IsLost : Command → List Pair → Lent → Option Files → Type 0
IsLost Run given lent told = RunWants Run given told lent
IsLost Gen given lent told = RunWants Gen given told lent
IsLost command given lent told = IsIdle lent

-- the steps after it
abbrev pub last_steps : List Pair → Made → List Step
last_steps given (Encrypted run) = run_report_steps given run
last_steps given (Ran report) = report_steps given report
last_steps given (Assembled file) = write_steps given file
last_steps given (Listed text) = print_steps text
last_steps given (Held code bits) = held_steps code bits

-- The steps and the work between them end so. All steps were done, with what the work made. Or one before the work was
-- refused; or there was no memory for the work; or one after it was refused. The work always made what is meant.
abbrev pub StepsEnd : {A : Type 0} → List Step → (A → List Step) → (Option Files → A → Type 0) → Result A Refusal
    → HostState → HostState
    → Type 0
StepsEnd before after Meant (Ok made) old new =
    (at : HostState) × AllDone before old at × Meant at.files made × AllDone (after made) at new
StepsEnd {A} before after Meant (Err refusal) old new =
    IsRefused before refusal old new
    ⊎ ((at : HostState) × AllDone before old at
    × (((refusal ≡ NoMemory) × (new ≡ at))
    ⊎ ((made : A) × Meant at.files made × IsRefused (after made) refusal at new)))

-- The same of a command's own steps and work, over the files as they were before it, with what it leaves of memory and
-- tap. Where a step before its work was refused, these are as they were.
abbrev pub WorkEnds : Command → List Pair → Lent → Result Made Refusal → HostState → HostState → Type 0
WorkEnds command given lent (Ok made) old new =
    (at : HostState) × AllDone (steps_of command given) old at × IsMade command given lent old.files made
    × AllDone (last_steps given made) at new
WorkEnds command given lent (Err refusal) old new =
    (IsIdle lent × IsRefused (steps_of command given) refusal old new)
    ⊎ ((at : HostState) × AllDone (steps_of command given) old at
    × (((refusal ≡ NoMemory) × (new ≡ at) × IsLost command given lent old.files)
    ⊎ ((made : Made) × IsMade command given lent old.files made
    × IsRefused (last_steps given made) refusal at new)))

-- the print of a text, if there is one
abbrev pub print_calls : Option (List ℕ) → List HostCall
print_calls None = []
print_calls (Some text) = PrintsText ∷ []

-- What was printed of a refusal: its text, or the host failed. Where it has none nothing was, but where there was no
-- memory for the print of another refusal's text.
abbrev pub TextPrinted : Refusal → Option (List ℕ) → HostState → HostState → Type 0
TextPrinted refusal None old new = (new.printed ≡ old.printed) ⊎ IsSome (refusal_text refusal)
TextPrinted refusal (Some text) old new = PrintsMore old.printed text new.printed ⊎ Rose old.faults new.faults

-- The text of a refusal is printed, and the command ends as it is refused, or for want of memory for the text.
pub record Tells (refusal end : Refusal) (old new : HostState) : Type 0 where
  pub same : (end ≡ refusal) ⊎ (IsSome (refusal_text refusal) × (end ≡ NoMemory))
  pub files : new.files ≡ old.files
  pub later : old.faults ≤ new.faults
  pub asked : AsksMore old.asked (print_calls (refusal_text end)) new.asked
  pub printed : TextPrinted refusal (refusal_text end) old new

-- A command ends so: with what its work made, or after a refusal's text.
abbrev pub CommandEnds : Read → Lent → Result Made Refusal → HostState → HostState → Type 0
CommandEnds read lent (Ok made) old new = WorkEnds read.command read.given lent (Ok made) old new
CommandEnds read lent (Err end) old new =
    (refusal : Refusal) × (mid : HostState) × WorkEnds read.command read.given lent (Err refusal) old mid
    × Tells refusal end mid new

-- over these files nothing is refused before the work
abbrev pub AreRight : Read → Files → Type 0
AreRight read files = AllByRecursion (IsDone files) (steps_of read.command read.given)

-- a refusal whose cause is in the words or the files: no failure of the host, and no want of memory
abbrev pub IsOfFiles : Refusal → Type 0
IsOfFiles Host = ⊥
IsOfFiles NoMemory = ⊥
IsOfFiles (Usage word) = Unit {0}
IsOfFiles (OutOfRange setting) = Unit {0}
IsOfFiles (NumberOutOfRange name) = Unit {0}
IsOfFiles (Assembler number kind) = Unit {0}
IsOfFiles (Elf fault) = Unit {0}
IsOfFiles (KeyLength length) = Unit {0}
IsOfFiles (TooLong source) = Unit {0}
IsOfFiles (Trace number kind) = Unit {0}
IsOfFiles (Fails number found wanted) = Unit {0}

-- over these files this is the first refusal of the steps: those before it are done, and it has its cause there
abbrev pub IsFirstRefusal : Files → List Step → Refusal → Type 0
IsFirstRefusal files [] refusal = ⊥
IsFirstRefusal files (step ∷ steps) refusal =
    IsCause files step refusal ⊎ (IsDone files step × IsFirstRefusal files steps refusal)

-- What a command comes to whose files are right and whose host never fails: its steps are all done with what its work
-- is meant to make, or there is no memory.
abbrev pub Completes : Read → Files → Lent → ℕ → HostState → HostState → Type 0
Completes read files lent status old new =
    (status ≡ status_of_refusal NoMemory)
    ⊎ ((made : Made) × IsMade read.command read.given lent (Some files) made × (status ≡ status_of_made made)
    × CommandEnds read lent (Ok made) old new)

-- what a run came to, as its end
abbrev pub run_end : Result Outcome Refusal → Result Report Refusal
run_end (Ok outcome) = Ok (outcome_report outcome)
run_end (Err refusal) = Err refusal

-- what a command came to
abbrev pub made_by : Product → Made
made_by (product.Encrypted run) = Encrypted run
made_by (product.Ran outcome) = Ran (outcome_report outcome)
made_by (product.Assembled file) = Assembled file.items
made_by (product.Listed text) = Listed text.items
made_by (product.Held held) = Held held.code held.bits

-- the same as its end
abbrev pub end_of : Result Product Refusal → Result Made Refusal
end_of (Ok product) = Ok (made_by product)
end_of (Err refusal) = Err refusal

-- the end of work that comes to bytes
abbrev pub bytes_end : {R : Type 0} → (R → List ℕ) → Result R Refusal → Result (List ℕ) Refusal
bytes_end bytes_of (Ok made) = Ok (bytes_of made)
bytes_end bytes_of (Err refusal) = Err refusal

-- the end of one command's work, as a command's
abbrev pub lifted : {A : Type 0} → (A → Made) → Result A Refusal → Result Made Refusal
lifted make (Ok made) = Ok (make made)
lifted make (Err refusal) = Err refusal
