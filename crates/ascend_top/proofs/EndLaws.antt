-- How a command ends: over right files and a host that never fails it is its run that is reported, or there is no
-- memory.
use Rattle.std.proofs.Common.{◌≡◌, ◌⊎◌, ℕ, ◌≤◌, List, [], ◌∷◌, true, Option, Some, None, Result, Ok, Err, length}
use Rattle.std.proofs.Common.{refl, sym, ap, subst, ◌∙◌, inl, inr, arith, rules}
use Rattle.std.specs.Prelude.{IsOk, IsSome, is_some}
use Rattle.std.specs.List.{AllByRecursion}
use Rattle.asc_base.specs.declared.settings.Settings.{Settings}
use Rattle.asc_outside.specs.Host.{Files, HostState, IsLonger}
use Rattle.asc_outside.specs.Rose.{Rose}
use Rattle.elf_loader.specs.Faults.{IsFaultless}
use Rattle.ascend_words.specs.Grammar.{Pair, Read}
use Rattle.ascend_words.specs.Settings.{text_in, settings_of}
use Rattle.ascend_words.specs.declared.table.Command.{Command}
use Rattle.ascend_words.specs.declared.table.Command.TheVariants.{Run, Flat, Asm, Disasm, Check, Gen}
use Rattle.ascend_words.specs.declared.table.Name.{Name}
use Rattle.ascend_words.specs.declared.table.Name.TheVariants.{Input, At, Save, Trace as TraceName}
use Rattle.bus_trace.specs.Trace.{TraceLists}
use Rattle.bus_trace.proofs.OneTrace.{no_fault, one_trace}
use Rattle.trace_checker.specs.Checker.{Says}
use Rattle.trace_checker.specs.declared.verdict.Verdict.{Verdict}
use Rattle.trace_checker.specs.declared.verdict.Verdict.TheVariants.{Holds, Fails as FailsAt}
use Rattle.trace_checker.proofs.Verdicts.{one_verdict}
use Rattle.rv32_asm.specs.declared.fault.AsmFault.{AsmFault}
use Rattle.rv32_asm.specs.declared.fault.AsmFault.TheVariants.{Bad}
use Rattle.rv32_asm.specs.File.{assembled}
use Rattle.ascend_top.specs.Command.{AreRight, CommandEnds, Completes, IsFirstRefusal, IsLost, IsMade, IsOfFiles}
use Rattle.ascend_top.specs.Command.{StepsEnd}
use Rattle.ascend_top.specs.Lent.{IsIdle, Lent}
use Rattle.ascend_top.specs.Gen.{gen_file}
use Rattle.ascend_top.specs.Command.{Tells, WorkEnds, last_steps, lifted, steps_of}
use Rattle.ascend_top.specs.Flat.{input_steps, program_steps}
use Rattle.ascend_top.specs.Asm.{place_in}
use Rattle.ascend_top.specs.Made.{Made, Encrypted, Ran, Assembled, Listed, Held}
use Rattle.ascend_top.specs.Status.{status_of, status_of_refusal}
use Rattle.ascend_top.specs.Steps.{AText, ATrace, IsChecked, IsInRange, IsNumberCause, JudgesNumber, Keeps}
use Rattle.ascend_top.specs.Steps.{AKey, AllDone, AnElf, Breaks, Does, IsCause, IsDone, IsReadCause}
use Rattle.ascend_top.specs.Steps.{IsRefused, IsRight, IsSettingCause, IsWriteCause, IsWrong, Judges, Prints, Reads}
use Rattle.ascend_top.specs.Steps.{IsLoadCause, Loads, Refuses, Rule, Step, Writes, limit_of, where_named}
use Rattle.ascend_top.specs.Texts.{refusal_text, run_text}
use Rattle.ascend_top.specs.declared.refusal.Refusal.{Refusal}
use Rattle.ascend_top.specs.declared.refusal.Refusal.TheVariants.{Usage, OutOfRange, Elf, KeyLength, TooLong, Host}
use Rattle.ascend_top.specs.declared.refusal.Refusal.TheVariants.{NoMemory, NumberOutOfRange, Assembler, Trace, Fails}
use Rattle.ascend_top.specs.declared.refusal.Source.{Source}
use Rattle.ascend_top.proofs.StepLaws.{asks_none}
use Rattle.ascend_top.proofs.Shown.{shown, shows_any}

-- a text that is there
pub some_text : (o : Option (List ℕ)) (x : List ℕ) → Some x ≡ o → IsSome o
some_text None x e = absurd (let no : ⊥ = cc in no)
some_text (Some y) x e = search rules

-- there was no memory, and nothing was asked
pub judge_lost : (settings : Settings) (state : HostState) → Refuses (Judges settings) NoMemory state state
judge_lost settings state = record {
  cause = shows_any state.files _ (λ files. tt);
  fault = λ e. absurd (let no : ⊥ = cc in no);
  files = refl;
  printed = refl;
  later = omega arith;
  asked = inl refl;
}

number_lost : (name : Name) (number : ℕ) (state : HostState) → Refuses (JudgesNumber name number) NoMemory state state
number_lost name number state = record {
  cause = shows_any state.files _ (λ files. tt);
  fault = λ e. absurd (let no : ⊥ = cc in no);
  files = refl;
  printed = refl;
  later = omega arith;
  asked = inl refl;
}

read_lost_at_start : (source : Source) (name : List ℕ) (rule : Rule) (state : HostState)
    → Refuses (Reads source name rule) NoMemory state state
read_lost_at_start source name rule state = record {
  cause = shows_any state.files _ (λ files. tt);
  fault = λ e. absurd (let no : ⊥ = cc in no);
  files = refl;
  printed = refl;
  later = omega arith;
  asked = inl refl;
}

pub lost_at_start : (command : Command) (given : List Pair) (state : HostState)
    → IsRefused (steps_of command given) NoMemory state state
lost_at_start Run given state = inl (judge_lost (settings_of given) state)
lost_at_start Flat given state = inl (judge_lost (settings_of given) state)
lost_at_start Asm given state = inl (number_lost At (place_in given) state)
lost_at_start Disasm given state = inl (judge_lost (settings_of given) state)
lost_at_start Check given state = inl (read_lost_at_start _ _ _ state)
lost_at_start Gen given state = inl (judge_lost (settings_of given) state)

pub tells_nothing : (state : HostState) → Tells NoMemory NoMemory state state
tells_nothing state = record {
  same = inl refl;
  files = refl;
  later = omega arith;
  asked = asks_none state.asked state.asked refl;
  printed = inl refl;
}

-- there was no memory for the words, whose fault has a text
pub tells_no_text : (word : ℕ) (state : HostState) → Tells (Usage word) NoMemory state state
tells_no_text word state = record {
  same = inr (search rules, refl);
  files = refl;
  later = omega arith;
  asked = asks_none state.asked state.asked refl;
  printed = inl refl;
}

-- a step that leaves all files
abbrev IsReading : Step → Type 0
IsReading (Judges settings) = Unit {0}
IsReading (JudgesNumber name number) = Unit {0}
IsReading (Reads source name rule) = Unit {0}
IsReading (Loads bytes base size) = Unit {0}
IsReading (Writes name bytes) = ⊥
IsReading (Prints text) = ⊥

does_files : (step : Step) (old new : HostState) → IsReading step → Does step old new → new.files ≡ old.files
does_files (Judges settings) old new is does = does.files
does_files (JudgesNumber name number) old new is does = does.files
does_files (Reads source name rule) old new is does = does.files
does_files (Loads bytes base size) old new is does = does.files
does_files (Writes name bytes) old new is does = absurd is
does_files (Prints text) old new is does = absurd is

all_files : (steps : List Step) (old new : HostState) → AllByRecursion IsReading steps → AllDone steps old new
    → new.files ≡ old.files
all_files [] old new are e = ap (λ (s : HostState). s.files) e
all_files (step ∷ steps) old new are (mid, does, rest) = all_files steps mid new are.1 rest
    ∙ does_files step old mid are.0 does

all_later : (steps : List Step) (old new : HostState) → AllDone steps old new → old.faults ≤ new.faults
all_later [] old new e = let same : new.faults ≡ old.faults = ap (λ (s : HostState). s.faults) e in omega arith
all_later (step ∷ steps) old new (mid, does, rest) = let later = all_later steps mid new rest in omega
    (arith, does.later, later)

input_reading : (o : Option (List ℕ)) → AllByRecursion IsReading (input_steps o)
input_reading None = tt
input_reading (Some name) = (tt, tt)

-- every command but `gen` leaves all files before its work
pub steps_reading : (command : Command) (given : List Pair) → (command ≡ Gen → ⊥)
    → AllByRecursion IsReading (steps_of command given)
steps_reading Run given other = (tt, (tt, (tt, input_reading (text_in given Input))))
steps_reading Flat given other = (tt, (tt, input_reading (text_in given Input)))
steps_reading Asm given other = (tt, (tt, tt))
steps_reading Disasm given other = (tt, (tt, tt))
steps_reading Check given other = (tt, tt)
steps_reading Gen given other = absurd (other refl)

-- a step that asks no file
abbrev IsBlind : Step → Type 0
IsBlind (Judges settings) = Unit {0}
IsBlind (JudgesNumber name number) = Unit {0}
IsBlind (Reads source name rule) = ⊥
IsBlind (Loads bytes base size) = Unit {0}
IsBlind (Writes name bytes) = Unit {0}
IsBlind (Prints text) = Unit {0}

-- behind the first write no step asks a file
abbrev IsOrderly : List Step → Type 0
IsOrderly [] = Unit {0}
IsOrderly (Writes name bytes ∷ steps) = AllByRecursion IsBlind steps
IsOrderly (step ∷ steps) = IsOrderly steps

input_orderly : (o : Option (List ℕ)) → IsOrderly (input_steps o)
input_orderly None = tt
input_orderly (Some name) = tt

named_orderly : (o : Option (List ℕ)) (bytes loaded : List ℕ) (base size : ℕ)
    → IsOrderly (where_named o bytes (Loads loaded base size ∷ []))
named_orderly None bytes loaded base size = tt
named_orderly (Some name) bytes loaded base size = (tt, tt)

-- the steps of every command before its work are so
steps_orderly : (command : Command) (given : List Pair) → IsOrderly (steps_of command given)
steps_orderly Run given = input_orderly (text_in given Input)
steps_orderly Flat given = input_orderly (text_in given Input)
steps_orderly Asm given = tt
steps_orderly Disasm given = tt
steps_orderly Check given = tt
steps_orderly Gen given =
    named_orderly (text_in given Save) (gen_file given) (gen_file given) (settings_of given).base
    (settings_of given).size

-- the input was read, where a file is named, which left all files
pub input_files : (o : Option (List ℕ)) (old new : HostState) → AllDone (input_steps o) old new → new.files ≡ old.files
input_files o old new done = all_files (input_steps o) old new (input_reading o) done

-- the ELF file and the input were read, which left all files
pub program_files : (settings : Settings) (given : List Pair) (old new : HostState)
    → AllDone (program_steps settings given) old new → new.files ≡ old.files
program_files settings given old new done =
    all_files (program_steps settings given) old new (tt, input_reading (text_in given Input)) done

-- a refusal that has no cause in the files: there is no memory, or the host failed
abbrev IsFree : Refusal → ℕ → ℕ → Type 0
IsFree refusal before now = (refusal ≡ NoMemory) ⊎ ((refusal ≡ Host) × Rose before now)

free_later : (refusal : Refusal) (a b c d : ℕ) → a ≤ b → c ≤ d → IsFree refusal b c → IsFree refusal a d
free_later refusal a b c d h k (inl e) = inl e
free_later refusal a b c d h k (inr (e, rose)) = inr (e, omega (arith, rose))

one_file : (files : Files) (name a b : List ℕ) → files name ≡ Some a → files name ≡ Some b → a ≡ b
one_file files name a b h k = let e : ◌≡◌ {A = Option (List ℕ)} (Some a) (Some b) = sym h ∙ k in cc

-- where a step is done over the files, no refusal has its cause there
abbrev HasNone : Refusal → Type 0
HasNone refusal = (refusal ≡ NoMemory) ⊎ (refusal ≡ Host)

setting_free : (settings : Settings) (files : Files) (refusal : Refusal) → IsDone files (Judges settings)
    → IsSettingCause settings refusal → HasNone refusal
setting_free settings files (OutOfRange setting) done cause = absurd (cause.fails (done setting))
setting_free settings files NoMemory done cause = inl refl
setting_free settings files Host done cause = absurd cause
setting_free settings files (Usage word) done cause = absurd cause
setting_free settings files (Elf fault) done cause = absurd cause
setting_free settings files (NumberOutOfRange name) done cause = absurd cause
setting_free settings files (Assembler number kind) done cause = absurd cause
setting_free settings files (Trace number kind) done cause = absurd cause
setting_free settings files (Fails number found wanted) done cause = absurd cause
setting_free settings files (KeyLength count) done cause = absurd cause
setting_free settings files (TooLong source) done cause = absurd cause

number_free : (name : Name) (number : ℕ) (refusal : Refusal) → IsInRange name number
    → IsNumberCause name number refusal → HasNone refusal
number_free name number (NumberOutOfRange other) done cause = absurd (cause.1 done)
number_free name number NoMemory done cause = inl refl
number_free name number refusal done cause = absurd cause

not_both : (answer : Result (List ℕ) AsmFault) (fault : AsmFault) → IsOk answer → answer ≡ Err fault → ⊥
not_both (Ok file) fault ok e = let no : ⊥ = cc in no
not_both (Err other) fault ok e = search rules

-- bytes are checked in one way
one_check : (bytes : List ℕ) (one other : Verdict) → IsChecked bytes one → IsChecked bytes other → one ≡ other
one_check bytes one other a b =
    one_verdict b.trace one other
    (subst (λ (t : TraceLists). Says t one) (one_trace bytes a.trace b.trace a.is b.is) a.says) b.says

not_held : (bytes : List ℕ) (code bits number found wanted : ℕ) → IsChecked bytes (Holds code bits)
    → IsChecked bytes (FailsAt number found wanted) → ⊥
not_held bytes code bits number found wanted holds fails =
    let same : Holds code bits ≡ FailsAt number found wanted =
    one_check bytes (Holds code bits) (FailsAt number found wanted) holds fails in
    let no : ⊥ = cc in no

-- bytes that keep a rule don't break it
keeps_breaks : (rule : Rule) (bytes : List ℕ) (refusal : Refusal) → Keeps rule bytes → Breaks rule bytes refusal → ⊥
keeps_breaks AKey bytes (KeyLength count) keeps breaks = omega (arith, keeps, breaks.0, breaks.1)
keeps_breaks (AnElf base size) bytes (Elf fault) keeps breaks = keeps fault breaks.present
keeps_breaks (AText at) bytes (Assembler number kind) keeps breaks =
    not_both (assembled at bytes) (Bad number kind) keeps breaks
keeps_breaks ATrace bytes (Trace number kind) keeps breaks =
    no_fault breaks.0 bytes kind keeps.2.trace keeps.2.is breaks.1
keeps_breaks ATrace bytes (Fails number found wanted) keeps breaks =
    not_held bytes keeps.0 keeps.1 number found wanted keeps.2 breaks
keeps_breaks rule bytes refusal keeps breaks = breaks

wrong_free : {P : Type 0} (files : Files) (source : Source) (name : List ℕ) (rule : Rule) (refusal : Refusal)
    → IsRight files source name rule → IsWrong files source name rule refusal → P
wrong_free files source name rule refusal right wrong =
    absurd (keeps_breaks rule wrong.bytes refusal (subst (Keeps rule)
    (one_file files name right.bytes wrong.bytes right.is wrong.is) right.keeps) wrong.breaks)

read_free : (files : Files) (source : Source) (name : List ℕ) (rule : Rule) (refusal : Refusal)
    → IsRight files source name rule
    → IsReadCause files source name rule refusal → HasNone refusal
read_free files source name rule (TooLong other) right (same, longer) =
    let e = ap length (one_file files name right.bytes (longer.0) right.is (longer.1)) in
    absurd (let no : ⊥ = omega (arith, e, right.within, longer.2) in no)
read_free files source name rule (KeyLength count) right cause =
    wrong_free files source name rule (KeyLength count) right cause
read_free files source name rule (Elf fault) right cause = wrong_free files source name rule (Elf fault) right cause
read_free files source name rule (Assembler number kind) right cause =
    wrong_free files source name rule (Assembler number kind) right cause
read_free files source name rule (Trace number kind) right cause =
    wrong_free files source name rule (Trace number kind) right cause
read_free files source name rule (Fails number found wanted) right cause =
    wrong_free files source name rule (Fails number found wanted) right cause
read_free files source name rule Host right cause = inr refl
read_free files source name rule NoMemory right cause = inl refl
read_free files source name rule (Usage word) right cause = absurd cause
read_free files source name rule (OutOfRange setting) right cause = absurd cause
read_free files source name rule (NumberOutOfRange other) right cause = absurd cause

load_free : (base size : ℕ) (bytes : List ℕ) (refusal : Refusal) → IsFaultless base size bytes
    → IsLoadCause base size bytes refusal → HasNone refusal
load_free base size bytes (Elf fault) done cause = absurd (done fault cause.present)
load_free base size bytes NoMemory done cause = inl refl
load_free base size bytes refusal done cause = absurd cause

write_free : (refusal : Refusal) → IsWriteCause refusal → HasNone refusal
write_free Host cause = inr refl
write_free NoMemory cause = inl refl
write_free (Usage word) cause = absurd cause
write_free (OutOfRange setting) cause = absurd cause
write_free (Elf fault) cause = absurd cause
write_free (NumberOutOfRange name) cause = absurd cause
write_free (Assembler number kind) cause = absurd cause
write_free (Trace number kind) cause = absurd cause
write_free (Fails number found wanted) cause = absurd cause
write_free (KeyLength count) cause = absurd cause
write_free (TooLong source) cause = absurd cause

cause_free : (files : Files) (step : Step) (refusal : Refusal) → IsDone files step → IsCause files step refusal
    → HasNone refusal
cause_free files (Judges settings) refusal done cause = setting_free settings files refusal done cause
cause_free files (JudgesNumber name number) refusal done cause = number_free name number refusal done cause
cause_free files (Reads source name rule) refusal done cause = read_free files source name rule refusal done cause
cause_free files (Loads bytes base size) refusal done cause = load_free base size bytes refusal done cause
cause_free files (Writes name bytes) refusal done cause = write_free refusal cause
cause_free files (Prints text) refusal done cause = write_free refusal cause

step_free : (files : Files) (step : Step) (refusal : Refusal) (old new : HostState) → IsDone files step
    → old.files ≡ Some files → Refuses step refusal old new
    → IsFree refusal old.faults new.faults
step_free files step refusal old new done told refuses = go (cause_free files step refusal done
    (shown old.files (λ f. IsCause f step refusal) refuses.cause files told))
  where
    go : HasNone refusal → IsFree refusal old.faults new.faults
    go (inl e) = inl e
    go (inr e) = inr (e, refuses.fault e)

pub still_told : (old new : Option Files) (files : Files) → is_some new ≡ is_some old → old ≡ Some files
    → (after : Files) × (new ≡ Some after)
still_told old None files e told = let t : is_some old ≡ true = ap (is_some {T = Files}) told in absurd
    (let no : ⊥ = cc in no)
still_told old (Some after) files e told = (after, refl)

-- whatever step was done, the files are still told
does_told : (step : Step) (old mid : HostState) (files : Files) → Does step old mid → old.files ≡ Some files
    → (after : Files) × (mid.files ≡ Some after)
does_told (Judges settings) old mid files does told = (files, does.files ∙ told)
does_told (JudgesNumber name number) old mid files does told = (files, does.files ∙ told)
does_told (Reads source name rule) old mid files does told = (files, does.files ∙ told)
does_told (Loads bytes base size) old mid files does told = (files, does.files ∙ told)
does_told (Writes name bytes) old mid files does told =
    still_told old.files mid.files files (does.files.0).told told
does_told (Prints text) old mid files does told = (files, does.files ∙ told)

all_told : (steps : List Step) (old new : HostState) (files : Files) → AllDone steps old new → old.files ≡ Some files
    → (after : Files) × (new.files ≡ Some after)
all_told [] old new files e told = (files, ap (λ (s : HostState). s.files) e ∙ told)
all_told (step ∷ steps) old new files (mid, does, rest) told =
    let after = does_told step old mid files does told in all_told steps mid new after.0 rest after.1

-- these steps say the same of the files that there are now as of those before all steps: they are the same, or no step
-- asks one
abbrev IsOver : Files → Files → List Step → Type 0
IsOver files now steps = ((files ≡ now) × IsOrderly steps) ⊎ AllByRecursion IsBlind steps

blind_done : (a b : Files) (step : Step) → IsBlind step → IsDone a step → IsDone b step
blind_done a b (Judges settings) is done = done
blind_done a b (JudgesNumber name number) is done = done
blind_done a b (Reads source name rule) is done = absurd is
blind_done a b (Loads bytes base size) is done = done
blind_done a b (Writes name bytes) is done = done
blind_done a b (Prints text) is done = done

blind_cause : (a b : Files) (step : Step) (refusal : Refusal) → IsBlind step → IsCause a step refusal
    → IsCause b step refusal
blind_cause a b (Judges settings) refusal is cause = cause
blind_cause a b (JudgesNumber name number) refusal is cause = cause
blind_cause a b (Reads source name rule) refusal is cause = absurd is
blind_cause a b (Loads bytes base size) refusal is cause = cause
blind_cause a b (Writes name bytes) refusal is cause = cause
blind_cause a b (Prints text) refusal is cause = cause

over_done : (files now : Files) (step : Step) (steps : List Step) → IsOver files now (step ∷ steps)
    → IsDone files step → IsDone now step
over_done files now step steps (inl (same, orderly)) done = subst (λ f. IsDone f step) same done
over_done files now step steps (inr blind) done = blind_done files now step blind.0 done

over_cause : (files now : Files) (step : Step) (steps : List Step) (refusal : Refusal) → IsOver files now (step ∷ steps)
    → IsCause files step refusal → IsCause now step refusal
over_cause files now step steps refusal (inl (same, orderly)) cause = subst (λ f. IsCause f step refusal) same cause
over_cause files now step steps refusal (inr blind) cause = blind_cause files now step refusal blind.0 cause

-- the same after the first of them was done
abbrev StillOver : Files → List Step → HostState → Type 0
StillOver files steps state = (after : Files) × (state.files ≡ Some after) × IsOver files after steps

still_over : (files now : Files) (step : Step) (steps : List Step) (old mid : HostState)
    → IsOver files now (step ∷ steps) → old.files ≡ Some now → Does step old mid → StillOver files steps mid
still_over files now step steps old mid (inr blind) told does =
    let after = does_told step old mid now does told in (after.0, after.1, inr blind.1)
still_over files now (Judges settings) steps old mid (inl over) told does = (now, does.files ∙ told, inl over)
still_over files now (JudgesNumber name number) steps old mid (inl over) told does =
    (now, does.files ∙ told, inl over)
still_over files now (Reads source name rule) steps old mid (inl over) told does = (now, does.files ∙ told, inl over)
still_over files now (Loads bytes base size) steps old mid (inl over) told does = (now, does.files ∙ told, inl over)
still_over files now (Writes name bytes) steps old mid (inl over) told does =
    let after = does_told (Writes name bytes) old mid now does told in (after.0, after.1, inr over.1)
still_over files now (Prints text) steps old mid (inl over) told does = (now, does.files ∙ told, inl over)

before_free : (files now : Files) (steps : List Step) (refusal : Refusal) (old new : HostState)
    → IsOver files now steps → AllByRecursion (IsDone files) steps
    → old.files ≡ Some now → IsRefused steps refusal old new → IsFree refusal old.faults new.faults
before_free files now [] refusal old new over right told refused = absurd refused
before_free files now (step ∷ steps) refusal old new over right told (inl refuses) =
    step_free now step refusal old new (over_done files now step steps over right.0) told refuses
before_free files now (step ∷ steps) refusal old new over right told (inr (mid, does, rest)) =
    let still = still_over files now step steps old mid over told does in
    free_later refusal old.faults mid.faults new.faults new.faults does.later (omega arith)
    (before_free files still.0 steps refusal mid new still.2 right.1 still.1 rest)

-- a step that writes or prints
abbrev IsLast : Step → Type 0
IsLast (Judges settings) = ⊥
IsLast (JudgesNumber name number) = ⊥
IsLast (Reads source name rule) = ⊥
IsLast (Loads bytes base size) = ⊥
IsLast (Writes name bytes) = Unit {0}
IsLast (Prints text) = Unit {0}

last_done : (files : Files) (step : Step) → IsLast step → IsDone files step
last_done files (Judges settings) is = absurd is
last_done files (JudgesNumber name number) is = absurd is
last_done files (Reads source name rule) is = absurd is
last_done files (Loads bytes base size) is = absurd is
last_done files (Writes name bytes) is = tt
last_done files (Prints text) is = tt

-- writes and prints are refused as is free
last_free : (files : Files) (steps : List Step) (refusal : Refusal) (old new : HostState)
    → AllByRecursion IsLast steps → old.files ≡ Some files → IsRefused steps refusal old new
    → IsFree refusal old.faults new.faults
last_free files [] refusal old new are told refused = absurd refused
last_free files (step ∷ steps) refusal old new are told (inl refuses) =
    step_free files step refusal old new (last_done files step are.0) told refuses
last_free files (step ∷ steps) refusal old new are told (inr (mid, does, rest)) =
    let still = does_told step old mid files does told in
    free_later refusal old.faults mid.faults new.faults new.faults does.later (omega arith)
    (last_free still.0 steps refusal mid new are.1 still.1 rest)

named_last : (o : Option (List ℕ)) (text : List ℕ) (steps : List Step) → AllByRecursion IsLast steps
    → AllByRecursion IsLast (where_named o text steps)
named_last None text steps are = are
named_last (Some name) text steps are = (tt, are)

-- what follows the work are writes and prints
made_last : (given : List Pair) (made : Made) → AllByRecursion IsLast (last_steps given made)
made_last given (Encrypted run) =
    (tt, named_last (text_in given TraceName) run.trace.items (Prints (run_text run.report run.altered) ∷ []) (tt, tt))
made_last given (Ran report) = (tt, (tt, tt))
made_last given (Assembled file) = (tt, tt)
made_last given (Listed text) = (tt, tt)
made_last given (Held code bits) = (tt, tt)

steps_free : (read : Read) (lent : Lent) (files : Files) (refusal : Refusal) (old new : HostState)
    → old.files ≡ Some files → AreRight read files → WorkEnds read.command read.given lent (Err refusal) old new
    → IsFree refusal old.faults new.faults
steps_free read lent files refusal old new told right (inl (idle, refused)) =
    before_free files files (steps_of read.command read.given) refusal old new
    (inl (refl, steps_orderly read.command read.given)) right told refused
steps_free read lent files refusal old new told right (inr (at, done, inl (e, same, lost))) = inl e
steps_free read lent files refusal old new told right (inr (at, done, inr (made, meant, refused))) =
    let still = all_told (steps_of read.command read.given) old at files done told in
    free_later refusal old.faults at.faults new.faults new.faults
    (all_later (steps_of read.command read.given) old at done) (omega arith)
    (last_free still.0 (last_steps read.given made) refusal at new (made_last read.given made) still.1 refused)

pub completes : (read : Read) (lent : Lent) (files : Files) (status : ℕ) (end : Result Made Refusal)
    (old new : HostState) → status ≡ status_of end → CommandEnds read lent end old new
    → old.files ≡ Some files → AreRight read files → ¬ Rose old.faults new.faults
    → Completes read files lent status old new
completes read lent files status (Ok made) old new is (at, before, meant, after) told right safe =
    inr (
      made,
      subst (λ o. IsMade read.command read.given lent o made) told meant,
      is,
      (at, before, meant, after),
    )
completes read lent files status (Err end) old new is (refusal, mid, steps, tells) told right safe = go tells.same
    (steps_free read lent files refusal old mid told right steps)
  where
    go : (end ≡ refusal) ⊎ (IsSome (refusal_text refusal) × (end ≡ NoMemory)) → IsFree refusal old.faults mid.faults
        → Completes read files lent status old new
    go (inr (some, none)) free = inl (is ∙ ap status_of_refusal none)
    go (inl same) (inl none) = inl (is ∙ ap status_of_refusal (same ∙ none))
    go (inl same) (inr (host, rose)) = absurd (safe (omega (arith, rose, tells.later)))

-- every command but `run` and `gen` leaves memory and tap as they were
abbrev IsOther : Command → Type 0
IsOther command = (command ≡ Run → ⊥) × (command ≡ Gen → ⊥)

made_idle : (command : Command) (given : List Pair) (lent : Lent) (told : Option Files) (made : Made)
    → IsOther command → IsMade command given lent told made → IsIdle lent
made_idle Run given lent told made other is = absurd (other.0 refl)
made_idle Flat given lent told made other is = is.0
made_idle Asm given lent told made other is = is.0
made_idle Disasm given lent told made other is = is.0
made_idle Check given lent told made other is = is.0
made_idle Gen given lent told made other is = absurd (other.1 refl)

lost_idle : (command : Command) (given : List Pair) (lent : Lent) (told : Option Files)
    → IsOther command → IsLost command given lent told → IsIdle lent
lost_idle Run given lent told other is = absurd (other.0 refl)
lost_idle Flat given lent told other is = is
lost_idle Asm given lent told other is = is
lost_idle Disasm given lent told other is = is
lost_idle Check given lent told other is = is
lost_idle Gen given lent told other is = absurd (other.1 refl)

pub others_idle : (read : Read) (lent : Lent) (end : Result Made Refusal) (old new : HostState)
    → IsOther read.command → CommandEnds read lent end old new → IsIdle lent
others_idle read lent (Ok made) old new other (at, before, meant, after) =
    made_idle read.command read.given lent old.files made other meant
others_idle read lent (Err end) old new other (refusal, mid, inl (idle, refused), tells) = idle
others_idle read lent (Err end) old new other (refusal, mid, inr (at, done, inl (e, same, lost)), tells) =
    lost_idle read.command read.given lent old.files other lost
others_idle read lent (Err end) old new other (refusal, mid, inr (at, done, inr (made, meant, refused)), tells) =
    made_idle read.command read.given lent old.files made other meant

-- a refusal that isn't a failure of the host or want of memory is none that has its cause elsewhere
of_files_not_free : {P : Type 0} (refusal : Refusal) → IsOfFiles refusal → HasNone refusal → P
of_files_not_free refusal of (inl e) = absurd (subst IsOfFiles e of)
of_files_not_free refusal of (inr e) = absurd (subst IsOfFiles e of)

-- two refusals of one step whose causes are in the files have one status
abbrev Agrees : Refusal → Refusal → Type 0
Agrees a b = HasNone a ⊎ (status_of_refusal a ≡ status_of_refusal b)

wrong_not_long : {P : Type 0} (files : Files) (source : Source) (name : List ℕ) (rule : Rule) (refusal : Refusal)
    → IsWrong files source name rule refusal
    → IsLonger files name (limit_of source) → P
wrong_not_long files source name rule refusal wrong longer =
    let e = ap length (one_file files name wrong.bytes (longer.0) wrong.is (longer.1)) in
    absurd (let no : ⊥ = omega (arith, e, wrong.within, longer.2) in no)

-- how bytes break a rule gives one status: a text with a fault is none that is checked
breaks_agree : (rule : Rule) (bytes : List ℕ) (a b : Refusal) → Breaks rule bytes a → Breaks rule bytes b
    → status_of_refusal a ≡ status_of_refusal b
breaks_agree AKey bytes (KeyLength m) (KeyLength n) h k = refl
breaks_agree (AnElf base size) bytes (Elf m) (Elf n) h k = refl
breaks_agree (AText at) bytes (Assembler m one) (Assembler n other) h k = refl
breaks_agree ATrace bytes (Trace m one) (Trace n other) h k = refl
breaks_agree ATrace bytes (Fails m x y) (Fails n z w) h k = refl
breaks_agree ATrace bytes (Trace m kind) (Fails n x y) h k = absurd (no_fault h.0 bytes kind k.trace k.is h.1)
breaks_agree ATrace bytes (Fails n x y) (Trace m kind) h k = absurd (no_fault k.0 bytes kind h.trace h.is k.1)
breaks_agree AKey bytes (KeyLength m) b h k = absurd k
breaks_agree (AnElf base size) bytes (Elf m) b h k = absurd k
breaks_agree (AText at) bytes (Assembler m one) b h k = absurd k
breaks_agree ATrace bytes (Trace m kind) b h k = absurd k
breaks_agree ATrace bytes (Fails n x y) b h k = absurd k
breaks_agree rule bytes a b h k = absurd h

wrong_agrees : (files : Files) (source : Source) (name : List ℕ) (rule : Rule) (a b : Refusal)
    → IsWrong files source name rule a → IsWrong files source name rule b → Agrees a b
wrong_agrees files source name rule a b h k =
    inr (breaks_agree rule k.bytes a b (subst (λ bytes. Breaks rule bytes a)
    (one_file files name h.bytes k.bytes h.is k.is) h.breaks) k.breaks)

read_agrees : (files : Files) (source : Source) (name : List ℕ) (rule : Rule) (a b : Refusal)
    → IsReadCause files source name rule a
    → IsReadCause files source name rule b → IsOfFiles b → Agrees a b
read_agrees files source name rule Host b h k of = inl (inr refl)
read_agrees files source name rule NoMemory b h k of = inl (inl refl)
read_agrees files source name rule (Usage word) b h k of = absurd h
read_agrees files source name rule (OutOfRange setting) b h k of = absurd h
read_agrees files source name rule (NumberOutOfRange number) b h k of = absurd h
read_agrees files source name rule a Host h k of = absurd of
read_agrees files source name rule a NoMemory h k of = absurd of
read_agrees files source name rule a (Usage word) h k of = absurd k
read_agrees files source name rule a (OutOfRange setting) h k of = absurd k
read_agrees files source name rule a (NumberOutOfRange number) h k of = absurd k
read_agrees files source name rule (TooLong other) (TooLong another) h k of = inr refl
read_agrees files source name rule (TooLong other) (KeyLength count) h k of =
    wrong_not_long files source name rule (KeyLength count) k (h.1)
read_agrees files source name rule (KeyLength count) (TooLong other) h k of =
    wrong_not_long files source name rule (KeyLength count) h (k.1)
read_agrees files source name rule (TooLong other) (Elf fault) h k of =
    wrong_not_long files source name rule (Elf fault) k (h.1)
read_agrees files source name rule (Elf fault) (TooLong other) h k of =
    wrong_not_long files source name rule (Elf fault) h (k.1)
read_agrees files source name rule (TooLong other) (Assembler number kind) h k of =
    wrong_not_long files source name rule (Assembler number kind) k (h.1)
read_agrees files source name rule (Assembler number kind) (TooLong other) h k of =
    wrong_not_long files source name rule (Assembler number kind) h (k.1)
read_agrees files source name rule (TooLong other) (Trace number kind) h k of =
    wrong_not_long files source name rule (Trace number kind) k (h.1)
read_agrees files source name rule (Trace number kind) (TooLong other) h k of =
    wrong_not_long files source name rule (Trace number kind) h (k.1)
read_agrees files source name rule (TooLong other) (Fails number found wanted) h k of =
    wrong_not_long files source name rule (Fails number found wanted) k (h.1)
read_agrees files source name rule (Fails number found wanted) (TooLong other) h k of =
    wrong_not_long files source name rule (Fails number found wanted) h (k.1)
read_agrees files source name rule (KeyLength count) (KeyLength length) h k of =
    wrong_agrees files source name rule (KeyLength count) (KeyLength length) h k
read_agrees files source name rule (KeyLength count) (Elf other) h k of =
    wrong_agrees files source name rule (KeyLength count) (Elf other) h k
read_agrees files source name rule (KeyLength count) (Assembler line problem) h k of =
    wrong_agrees files source name rule (KeyLength count) (Assembler line problem) h k
read_agrees files source name rule (KeyLength count) (Trace line problem) h k of =
    wrong_agrees files source name rule (KeyLength count) (Trace line problem) h k
read_agrees files source name rule (KeyLength count) (Fails line is should) h k of =
    wrong_agrees files source name rule (KeyLength count) (Fails line is should) h k
read_agrees files source name rule (Elf fault) (KeyLength length) h k of =
    wrong_agrees files source name rule (Elf fault) (KeyLength length) h k
read_agrees files source name rule (Elf fault) (Elf other) h k of =
    wrong_agrees files source name rule (Elf fault) (Elf other) h k
read_agrees files source name rule (Elf fault) (Assembler line problem) h k of =
    wrong_agrees files source name rule (Elf fault) (Assembler line problem) h k
read_agrees files source name rule (Elf fault) (Trace line problem) h k of =
    wrong_agrees files source name rule (Elf fault) (Trace line problem) h k
read_agrees files source name rule (Elf fault) (Fails line is should) h k of =
    wrong_agrees files source name rule (Elf fault) (Fails line is should) h k
read_agrees files source name rule (Assembler number kind) (KeyLength length) h k of =
    wrong_agrees files source name rule (Assembler number kind) (KeyLength length) h k
read_agrees files source name rule (Assembler number kind) (Elf other) h k of =
    wrong_agrees files source name rule (Assembler number kind) (Elf other) h k
read_agrees files source name rule (Assembler number kind) (Assembler line problem) h k of =
    wrong_agrees files source name rule (Assembler number kind) (Assembler line problem) h k
read_agrees files source name rule (Assembler number kind) (Trace line problem) h k of =
    wrong_agrees files source name rule (Assembler number kind) (Trace line problem) h k
read_agrees files source name rule (Assembler number kind) (Fails line is should) h k of =
    wrong_agrees files source name rule (Assembler number kind) (Fails line is should) h k
read_agrees files source name rule (Trace number kind) (KeyLength length) h k of =
    wrong_agrees files source name rule (Trace number kind) (KeyLength length) h k
read_agrees files source name rule (Trace number kind) (Elf other) h k of =
    wrong_agrees files source name rule (Trace number kind) (Elf other) h k
read_agrees files source name rule (Trace number kind) (Assembler line problem) h k of =
    wrong_agrees files source name rule (Trace number kind) (Assembler line problem) h k
read_agrees files source name rule (Trace number kind) (Trace line problem) h k of =
    wrong_agrees files source name rule (Trace number kind) (Trace line problem) h k
read_agrees files source name rule (Trace number kind) (Fails line is should) h k of =
    wrong_agrees files source name rule (Trace number kind) (Fails line is should) h k
read_agrees files source name rule (Fails number found wanted) (KeyLength length) h k of =
    wrong_agrees files source name rule (Fails number found wanted) (KeyLength length) h k
read_agrees files source name rule (Fails number found wanted) (Elf other) h k of =
    wrong_agrees files source name rule (Fails number found wanted) (Elf other) h k
read_agrees files source name rule (Fails number found wanted) (Assembler line problem) h k of =
    wrong_agrees files source name rule (Fails number found wanted) (Assembler line problem) h k
read_agrees files source name rule (Fails number found wanted) (Trace line problem) h k of =
    wrong_agrees files source name rule (Fails number found wanted) (Trace line problem) h k
read_agrees files source name rule (Fails number found wanted) (Fails line is should) h k of =
    wrong_agrees files source name rule (Fails number found wanted) (Fails line is should) h k

setting_agrees : (settings : Settings) (a b : Refusal) → IsSettingCause settings a → IsSettingCause settings b
    → IsOfFiles b → Agrees a b
setting_agrees settings NoMemory b h k of = inl (inl refl)
setting_agrees settings (OutOfRange x) (OutOfRange y) h k of = inr refl
setting_agrees settings (OutOfRange x) NoMemory h k of = absurd of
setting_agrees settings (OutOfRange x) Host h k of = absurd of
setting_agrees settings (OutOfRange x) (Usage word) h k of = absurd k
setting_agrees settings (OutOfRange x) (Elf fault) h k of = absurd k
setting_agrees settings (OutOfRange x) (NumberOutOfRange name) h k of = absurd k
setting_agrees settings (OutOfRange x) (Assembler number kind) h k of = absurd k
setting_agrees settings (OutOfRange x) (Trace number kind) h k of = absurd k
setting_agrees settings (OutOfRange x) (Fails number found wanted) h k of = absurd k
setting_agrees settings (OutOfRange x) (KeyLength count) h k of = absurd k
setting_agrees settings (OutOfRange x) (TooLong source) h k of = absurd k
setting_agrees settings Host b h k of = absurd h
setting_agrees settings (Usage word) b h k of = absurd h
setting_agrees settings (Elf fault) b h k of = absurd h
setting_agrees settings (NumberOutOfRange name) b h k of = absurd h
setting_agrees settings (Assembler number kind) b h k of = absurd h
setting_agrees settings (Trace number kind) b h k of = absurd h
setting_agrees settings (Fails number found wanted) b h k of = absurd h
setting_agrees settings (KeyLength count) b h k of = absurd h
setting_agrees settings (TooLong source) b h k of = absurd h

number_agrees : (name : Name) (number : ℕ) (a b : Refusal) → IsNumberCause name number a → IsNumberCause name number b
    → IsOfFiles b → Agrees a b
number_agrees name number NoMemory b h k of = inl (inl refl)
number_agrees name number (NumberOutOfRange x) (NumberOutOfRange y) h k of = inr refl
number_agrees name number (NumberOutOfRange x) NoMemory h k of = absurd of
number_agrees name number (NumberOutOfRange x) b h k of = absurd k
number_agrees name number a b h k of = absurd h

load_agrees : (base size : ℕ) (bytes : List ℕ) (a b : Refusal) → IsLoadCause base size bytes a
    → IsLoadCause base size bytes b → IsOfFiles b → Agrees a b
load_agrees base size bytes NoMemory b h k of = inl (inl refl)
load_agrees base size bytes (Elf x) (Elf y) h k of = inr refl
load_agrees base size bytes (Elf x) NoMemory h k of = absurd of
load_agrees base size bytes (Elf x) b h k of = absurd k
load_agrees base size bytes a b h k of = absurd h

cause_agrees : (files : Files) (step : Step) (a b : Refusal) → IsCause files step a → IsCause files step b
    → IsOfFiles b → Agrees a b
cause_agrees files (Judges settings) a b h k of = setting_agrees settings a b h k of
cause_agrees files (JudgesNumber name number) a b h k of = number_agrees name number a b h k of
cause_agrees files (Reads source name rule) a b h k of = read_agrees files source name rule a b h k of
cause_agrees files (Loads bytes base size) a b h k of = load_agrees base size bytes a b h k of
cause_agrees files (Writes name bytes) a b h k of = of_files_not_free b of (write_free b k)
cause_agrees files (Prints text) a b h k of = of_files_not_free b of (write_free b k)

-- where a refusal comes first over the files, the steps aren't all done, and are refused with its status or as is free
module _ (files : Files) (refusal : Refusal) (of : IsOfFiles refusal) where
  pub never_done : (now : Files) (steps : List Step) (old at : HostState) → IsOver files now steps
      → old.files ≡ Some now → AllDone steps old at → IsFirstRefusal files steps refusal → ⊥
  never_done now [] old at over told done first = first
  never_done now (step ∷ steps) old at over told (mid, does, rest) (inl cause) =
      of_files_not_free refusal of (cause_free now step refusal
      (shown old.files (λ f. IsDone f step) does.done now told)
      (over_cause files now step steps refusal over cause))
  never_done now (step ∷ steps) old at over told (mid, does, rest) (inr (right, first)) =
      let still = still_over files now step steps old mid over told does in
      never_done still.0 steps mid at still.2 still.1 rest first

  pub refused_first : (now : Files) (steps : List Step) (other : Refusal) (old new : HostState)
      → IsOver files now steps → old.files ≡ Some now → IsRefused steps other old new
      → IsFirstRefusal files steps refusal → IsFree other old.faults new.faults
      ⊎ (status_of_refusal other ≡ status_of_refusal refusal)
  refused_first now [] other old new over told refused first = absurd first
  refused_first now (step ∷ steps) other old new over told (inl refuses) (inl cause) =
      go (cause_agrees now step other refusal (shown old.files (λ f. IsCause f step other) refuses.cause now told)
      (over_cause files now step steps refusal over cause) of)
    where
      go : Agrees other refusal → IsFree other old.faults new.faults
          ⊎ (status_of_refusal other ≡ status_of_refusal refusal)
      go (inl (inl e)) = inl (inl e)
      go (inl (inr e)) = inl (inr (e, refuses.fault e))
      go (inr e) = inr e
  refused_first now (step ∷ steps) other old new over told (inl refuses) (inr (right, first)) = inl
      (step_free now step other old new (over_done files now step steps over right) told refuses)
  refused_first now (step ∷ steps) other old new over told (inr (mid, does, rest)) (inl cause) =
      of_files_not_free refusal of (cause_free now step refusal
      (shown old.files (λ f. IsDone f step) does.done now told)
      (over_cause files now step steps refusal over cause))
  refused_first now (step ∷ steps) other old new over told (inr (mid, does, rest)) (inr (right, first)) =
      let still = still_over files now step steps old mid over told does in
      go (refused_first still.0 steps other mid new still.2 still.1 rest first)
    where
      go : IsFree other mid.faults new.faults ⊎ (status_of_refusal other ≡ status_of_refusal refusal)
          → IsFree other old.faults new.faults ⊎ (status_of_refusal other ≡ status_of_refusal refusal)
      go (inl free) = inl (free_later other old.faults mid.faults new.faults new.faults does.later (omega arith) free)
      go (inr e) = inr e

-- where a refusal comes first over the files, and the host never fails, it gives the status
pub refuses_first : (read : Read) (lent : Lent) (files : Files) (refusal : Refusal) (status : ℕ)
    (end : Result Made Refusal) (old new : HostState) → status ≡ status_of end
    → CommandEnds read lent end old new → old.files ≡ Some files → IsOfFiles refusal
    → IsFirstRefusal files (steps_of read.command read.given) refusal
    → ¬ Rose old.faults new.faults → (status ≡ 11) ⊎ (status ≡ status_of_refusal refusal)
refuses_first read lent files refusal status (Ok made) old new is (at, before, meant, after) told of first safe =
    absurd (never_done files refusal of files (steps_of read.command read.given) old at
    (inl (refl, steps_orderly read.command read.given)) told before first)
refuses_first read lent files refusal status (Err end) old new is (other, mid, steps, tells) told of first safe = go
    tells.same (ends steps)
  where
    ends : WorkEnds read.command read.given lent (Err other) old mid
        → IsFree other old.faults mid.faults ⊎ (status_of_refusal other ≡ status_of_refusal refusal)
    ends (inl (idle, refused)) = refused_first files refusal of files (steps_of read.command read.given) other old mid
        (inl (refl, steps_orderly read.command read.given)) told refused first
    ends (inr (at, before, rest)) =
        absurd (never_done files refusal of files (steps_of read.command read.given) old at
        (inl (refl, steps_orderly read.command read.given)) told before first)

    go : (end ≡ other) ⊎ (IsSome (refusal_text other) × (end ≡ NoMemory)) → IsFree other old.faults mid.faults
        ⊎ (status_of_refusal other ≡ status_of_refusal refusal)
        → (status ≡ 11) ⊎ (status ≡ status_of_refusal refusal)
    go (inr (some, none)) free = inl (is ∙ ap status_of_refusal none)
    go (inl same) (inl (inl none)) = inl (is ∙ ap status_of_refusal (same ∙ none))
    go (inl same) (inl (inr (host, rose))) = absurd (safe (omega (arith, rose, tells.later)))
    go (inl same) (inr e) = inr (is ∙ ap status_of_refusal same ∙ e)

-- the end of one command's work, which leaves memory and tap, is a command's
module _ {A : Type 0} (make : A → Made) (after : A → List Step) (Meant : Option Files → A → Type 0) (command : Command)
    (given : List Pair) (lent : Lent) (idle : IsIdle lent) (not_gen : command ≡ Gen → ⊥)
    (same : (made : A) → after made ≡ last_steps given (make made))
    (are : (told : Option Files) (made : A) → Meant told made → IsMade command given lent told (make made))
    (lost : (told : Option Files) → IsLost command given lent told)
  where
    meant : (old at : HostState) (made : A) → AllDone (steps_of command given) old at
        → Meant at.files made → Meant old.files made
    meant old at made done =
        subst (λ told. Meant told made)
        (all_files (steps_of command given) old at (steps_reading command given not_gen) done)

    pub lift_ends : (end : Result A Refusal) (old new : HostState)
        → StepsEnd (steps_of command given) after Meant end old new
        → WorkEnds command given lent (lifted make end) old new
    lift_ends (Ok made) old new (at, done, told, last) = (
      at,
      done,
      are old.files made (meant old at made done told),
      subst (λ steps. AllDone steps at new) (same made) last,
    )
    lift_ends (Err refusal) old new (inl refused) = inl (idle, refused)
    lift_ends (Err refusal) old new (inr (at, done, inl (e, stays))) = inr (at, done, inl (e, stays, lost old.files))
    lift_ends (Err refusal) old new (inr (at, done, inr (made, told, refused))) =
        inr (
          at,
          done,
          inr (
            make made,
            are old.files made (meant old at made done told),
            subst (λ steps. IsRefused steps refusal at new) (same made) refused,
          ),
        )
