-- What is reported of a program's run is the flat run of its files.
use Rattle.std.proofs.Common.{◌≡◌, ℕ, List, [], ◌∷◌, Option, Some, None, Result, Ok, Err, length, ap, subst, ◌∙◌}
use Rattle.std.proofs.Common.{◌<◌, ◌≤◌, ◌+◌, ◌^◌, ◌⊎◌, IsSome, inl, inr, sym}
use Rattle.std.specs.Prelude.{IfOk, OnErr}
use Rattle.std.specs.List.{count_by}
use Rattle.asc_base.specs.Settings.{IsConfig}
use Rattle.asc_base.specs.TreeShape.{olat_of}
use Rattle.asc_base.specs.declared.settings.Config.{Config}
use Rattle.asc_base.specs.declared.settings.Settings.{Settings}
use Rattle.asc_base.specs.declared.stop.Evidence.{Evidence}
use Rattle.asc_base.specs.declared.stop.Stop.TheVariants as why
use Rattle.asc_outside.specs.Host.{Files, HostState}
use Rattle.bus_schedule.specs.Scheduled.{log_code}
use Rattle.bus_schedule.specs.Shown.{indices_of}
use Rattle.bus_schedule.specs.Timetable.{public_of}
use Rattle.bus_watch.specs.Honest.{MayTellMirror}
use Rattle.epoch_learner.specs.Stands.{KeepsPace}
use Rattle.log_replay.specs.Judged.{BreaksOffReading, HaveOrigins, SaysMirror, verdict_on}
use Rattle.log_replay.specs.LastSlot.{StopsInOrder}
use Rattle.log_replay.specs.Order.{LogOrder}
use Rattle.oram_contents.specs.Forgery.{Forgery}
use Rattle.oram_lines.specs.Standing.{DrawnOnce}
use Rattle.oram_lines.proofs.HonestTriples.{unforged}
use Rattle.rate_enforcer.specs.Counts.{is_answered, is_dummy, is_real}
use Rattle.play_run.specs.Shows.{IsPlayed}
use Rattle.secure_machine.specs.Answered.{answered_lines}
use Rattle.secure_machine.specs.Fed.{IsFed}
use Rattle.secure_machine.specs.Finish.{IsRightEnding, IsTimeUp}
use Rattle.secure_machine.specs.Home.{EndsAtHome}
use Rattle.secure_machine.specs.Judged.{EndsInOrder, SaysWanting, ShowsEnding, log_end}
use Rattle.secure_machine.specs.LastMove.{EndsWithMove}
use Rattle.secure_machine.specs.Plays.{play_report, play_with}
use Rattle.secure_machine.specs.Run.{DrawsLeaves, IsFlatReport, IsInBudget, IsTiedButLast, IsTiedOr, IsUnprepared}
use Rattle.secure_machine.specs.Spent.{IsSpentOn}
use Rattle.secure_machine.specs.declared.report.Ending.TheVariants.{Device, Integrity, TimeUp}
use Rattle.secure_machine.specs.declared.report.Report.{Report as RunReport}
use Rattle.elf_loader.specs.Elf.{entry_of}
use Rattle.elf_loader.specs.Layout.{image_bytes, first_break}
use Rattle.elf_loader.specs.declared.image.Image.{Image}
use Rattle.rv32_core.specs.FlatRun.{FlatRun, FlatEnding}
use Rattle.ascend_words.specs.Grammar.{Pair}
use Rattle.ascend_words.specs.Settings.{settings_of, text_in}
use Rattle.ascend_words.specs.declared.table.Command.{Command}
use Rattle.ascend_words.specs.declared.table.Name.TheVariants.{Elf, Key, Output, Trace}
use Rattle.ascend_top.specs.Command.{IsLost, IsMade, StepsEnd, WorkEnds, lifted, steps_of}
use Rattle.ascend_top.specs.Flat.{flat_steps, report_steps}
use Rattle.ascend_top.specs.FlatRun.{Report, bytes_in, ending_of, file_in, flat_of, flat_report, input_in}
use Rattle.ascend_top.specs.FlatRun.{outcome_report, report_of, run_over}
use Rattle.ascend_top.specs.EncryptedRun.{IsRunOf, IsWantOf, keys_from}
use Rattle.ascend_top.specs.Lent.{Lent}
use Rattle.ascend_top.specs.Made.{Encrypted as MadeEncrypted}
use Rattle.ascend_top.specs.Parts.{CanRun, EndsAs, IsConfigOf, IsImageOf, IsProgramOf, RunEnds, program_report}
use Rattle.ascend_top.specs.Run.{BegunEnds, IsBegin, IsOutcome, IsProgramBy, IsRun, RunWants, run_report_steps}
use Rattle.ascend_top.specs.Steps.{AllDone, Does, IsRefused, Prints, Refuses, Shows, Step, Writes, key_length}
use Rattle.ascend_top.specs.Steps.{where_named}
use Rattle.ascend_top.proofs.Shown.{shows_more}
use Rattle.ascend_top.specs.Texts.{run_text}
use Rattle.ascend_top.specs.declared.commands.run.Begin.{Begin}
use Rattle.ascend_top.specs.declared.commands.run.Encrypted.{Encrypted}
use Rattle.ascend_top.specs.declared.commands.flat.Program.{Program}
use Rattle.ascend_top.specs.declared.refusal.Refusal.{Refusal}
use Rattle.ascend_top.specs.declared.commands.flat.Outcome.{Outcome}

-- a run that ended so is reported so
pub reported : (run : FlatRun) (outcome : Outcome) → EndsAs run outcome.instructions outcome.ending
    outcome.output.items → outcome_report outcome ≡ report_of run
reported run outcome is =
    let made : ℕ → FlatEnding → List ℕ → Report = λ instructions ending output. record
    { instructions = instructions; ending = ending; output = output } in
    ap (λ n. made n (ending_of outcome.ending) outcome.output.items) is.finished
    ∙ ap (λ e. made run.instructions e outcome.output.items) is.ending
    ∙ ap (λ o. made run.instructions run.ending o) is.written

-- the report of a run from such a start
abbrev report_over : (budget entry base size heap : ℕ) → (bytes input : List ℕ) → Report
report_over budget entry base size heap bytes input = report_of (run_over budget entry base size heap bytes input)

module _ (given : List Pair) (files later : Files) (base size budget : ℕ) (image : Image) (input : List ℕ) where
  pub report_is : base ≡ (settings_of given).base → size ≡ (settings_of given).size
      → budget ≡ (settings_of given).budget
      → IsImageOf base size (bytes_in files (file_in given Elf)) image → input ≡ input_in later given
      → report_over budget image.entry base size image.heap image.bytes.items input ≡ flat_report given files later
  unfolding flat_report flat_of
  report_is base_is size_is budget_is is input_is =
      let elf = bytes_in files (file_in given Elf) in
      let in_full = input_in later given in
      ap (λ e. report_over budget e base size image.heap image.bytes.items input) is.entry
      ∙ ap (λ h. report_over budget (entry_of elf) base size h image.bytes.items input) is.heap
      ∙ ap (λ b. report_over budget (entry_of elf) base size (first_break base size elf) b input) is.bytes
      ∙ ap (λ i. report_over budget (entry_of elf) base size (first_break base size elf) (image_bytes base size elf)
      i) input_is
      ∙ ap (λ b. report_over budget (entry_of elf) b size (first_break b size elf) (image_bytes b size elf) in_full)
      base_is
      ∙ ap (λ s. report_over budget (entry_of elf) (settings_of given).base s
      (first_break (settings_of given).base s elf) (image_bytes (settings_of given).base s elf) in_full) size_is
      ∙ ap (λ n. report_over n (entry_of elf) (settings_of given).base (settings_of given).size
      (first_break (settings_of given).base (settings_of given).size elf)
      (image_bytes (settings_of given).base (settings_of given).size elf) in_full) budget_is

-- the program that was read is reported as its files are
pub program_reports : (given : List Pair) (told : Option Files) (config : Config) (answer : Result Program Refusal)
    → IsConfigOf (settings_of given) config → IfOk answer (λ program. program.config ≡ config)
    → IfOk answer (λ program. Shows told (λ files. Shows told (λ later. IsProgramOf given files later program)))
    → IfOk answer (λ program. Shows told (λ files. Shows told (λ later.
    program_report program ≡ flat_report given files later)))
program_reports given told config (Ok program) is same of =
    shows_more told (λ files. Shows told (λ later. IsProgramOf given files later program))
    (λ files. Shows told (λ later. program_report program ≡ flat_report given files later))
    (λ files. shows_more told (λ later. IsProgramOf given files later program)
    (λ later. program_report program ≡ flat_report given files later)
    (λ later now. report_is given files later program.config.base program.config.size program.config.budget
    program.image program.input.items (ap (λ (c : Config). c.base) same ∙ is.base)
    (ap (λ (c : Config). c.size) same ∙ is.size) (ap (λ (c : Config). c.budget) same ∙ is.budget) now.image now.input))
    of
program_reports given told config (Err refusal) is same of = tt

-- the steps of `flat` and its work end so, by what its run and the steps after it do
pub flat_ends : (given : List Pair) (expected : Report) (end : Result Report Refusal) (old at new : HostState)
    → AllDone (flat_steps given) old at
    → Shows at.files (λ files. Shows at.files (λ later. expected ≡ flat_report given files later))
    → RunEnds given expected end at new
    → StepsEnd (flat_steps given) (report_steps given)
    (λ told report. Shows told (λ files. Shows told (λ later. report ≡ flat_report given files later))) end old new
flat_ends given expected (Ok report) old at new done meant (is, after) = (
  at,
  done,
  subst (λ r. Shows at.files (λ files. Shows at.files (λ later. r ≡ flat_report given files later))) (sym is) meant,
  after,
)
flat_ends given expected (Err refusal) old at new done meant (inl (none, same)) = inr (at, done, inl (none, same))
flat_ends given expected (Err refusal) old at new done meant (inr (report, is, refused)) = inr (
  at,
  done,
  inr (
    report,
    subst (λ r. Shows at.files (λ files. Shows at.files (λ later. r ≡ flat_report given files later))) (sym is) meant,
    refused,
  ),
)

-- a run begins so
pub begins : (command : Command) (given : List Pair) (told : Option Files) (settings : Settings) (config : Config)
    (key : List ℕ) (program : Program) → settings ≡ settings_of given → IsConfigOf settings config
    → program.config ≡ config → CanRun program → length key ≡ key_length
    → ((files : Files) → told ≡ Some files → key ≡ bytes_in files (file_in given Key))
    → IsProgramBy command given told program
    → IsBegin command given told (record { key = key; program = program })
begins command given told settings config key program e is same can long key_is of =
    let now : IsConfigOf (settings_of given) config = subst (λ s. IsConfigOf s config) e is in
    record {
      allowed = now.allowed;
      config = same ∙ now.made;
      is_config = subst IsConfig (sym same) now.is_config;
      image = can.image;
      key_length = long;
      key = key_is;
      program = of;
    }

-- the write of a file, where one is named, and then the steps after it
pub named_done : (o : Option (List ℕ)) (text : List ℕ) (steps : List Step) (old mid new : HostState)
    → AllDone (where_named o text []) old mid → AllDone steps mid new → AllDone (where_named o text steps) old new
named_done None text steps old mid new e done = subst (λ state. AllDone steps state new) e done
named_done (Some name) text steps old mid new (after, does, e) done =
    (after, does, subst (λ state. AllDone steps state new) e done)

pub named_refused : (o : Option (List ℕ)) (text : List ℕ) (steps : List Step) (refusal : Refusal)
    (old new : HostState) → IsRefused (where_named o text []) refusal old new
    → IsRefused (where_named o text steps) refusal old new
named_refused None text steps refusal old new refused = absurd refused
named_refused (Some name) text steps refusal old new (inl refuses) = inl refuses
named_refused (Some name) text steps refusal old new (inr (mid, does, none)) = absurd none

pub named_then : (o : Option (List ℕ)) (text : List ℕ) (steps : List Step) (refusal : Refusal)
    (old mid new : HostState) → AllDone (where_named o text []) old mid → IsRefused steps refusal mid new
    → IsRefused (where_named o text steps) refusal old new
named_then None text steps refusal old mid new e refused = subst (λ state. IsRefused steps refusal state new) e refused
named_then (Some name) text steps refusal old mid new (after, does, e) refused =
    inr (after, does, subst (λ state. IsRefused steps refusal state new) e refused)

-- the print of the report was refused, behind the write of the output and that of the trace
pub print_refuses : (given : List Pair) (run : Encrypted) (refusal : Refusal) (old mid after new : HostState)
    → Does (Writes (file_in given Output) run.report.output.items) old mid
    → AllDone (where_named (text_in given Trace) run.trace.items []) mid after
    → Refuses (Prints (run_text run.report run.altered)) refusal after new
    → IsRefused (run_report_steps given run) refusal old new
print_refuses given run refusal old mid after new does done refuses =
    let print : List Step = Prints (run_text run.report run.altered) ∷ [] in
    let rest = named_then (text_in given Trace) run.trace.items print refusal mid after new done (inl refuses) in
    inr (mid, does, rest)

-- What the clauses of a run say of its report, in one record.
module _ (config : Config) (image : Image) (input key : List ℕ) (lent : Lent) (bits : log_code (public_of config)
    lent.tap'.log < 2 ^ config.leak) (faults : lent.memory.faults ≤ lent.memory'.faults)
    (budget : IsInBudget config lent.tap'.log)
    (asked : lent.memory'.moved ≡ lent.memory.moved + length lent.tap'.log.moves)
    (unaltered : IsSome lent.memory.told → lent.tap'.log.altered ≡ []) (leaves : DrawsLeaves config lent.tap'.log)
    (order : LogOrder (keys_from config key) lent.tap'.log)
    (points : Forgery (keys_from config key) lent.tap'.log ⊎ DrawnOnce lent.tap'.log.events)
  where
    pub ran_of : {E : Type 0} (result : Result RunReport E) → IfOk result (λ r. KeepsPace config r.last lent.tap'.log)
        → IfOk result (λ r. r.last < config.time + olat_of config.shape.levels)
        → IfOk result (λ r. r.real ≡ count_by is_real lent.tap'.log.events)
        → IfOk result (λ r. r.dummies ≡ count_by is_dummy lent.tap'.log.events)
        → IfOk result (λ r. IsTiedOr config r.ending (IsUnprepared r lent.tap lent.tap') lent.memory lent.memory'
        lent.tap')
        → IfOk result (λ r. r.ending ≡ Device → lent.memory.faults < lent.memory'.faults)
        → IfOk result (λ r. IsRightEnding config.budget config.time r.instructions r.cycles r.last r.ending)
        → IfOk result (λ r. r.choices ≡ length (indices_of lent.tap'.log.events))
        → IfOk result (λ r. r.code ≡ log_code (public_of config) lent.tap'.log)
        → IfOk result (λ r. r.fetches ≡ count_by is_answered lent.tap'.log.events)
        → IfOk result (λ r. IsSpentOn config image input r lent.tap'.log)
        → (lent.tap'.log.altered ≡ [] → IfOk result (IsFlatReport config image input))
        → (lent.tap'.log.altered ≡ [] → IfOk result (λ r. (evidence : Evidence) → r.ending ≡ Integrity evidence → ⊥))
        → IfOk result (λ r. Forgery (keys_from config key) lent.tap'.log ⊎ IsFlatReport config image input r)
        → IfOk result (λ r. Forgery (keys_from config key) lent.tap'.log
        ⊎ IsPlayed config (play_with config image input) (play_report r) lent.tap'.log)
        → (lent.tap'.log.altered ≡ []
        → IfOk result (λ r. IsPlayed config (play_with config image input) (play_report r) lent.tap'.log))
        → IfOk result (λ r. IsFed config image input r (answered_lines lent.tap'.log.events))
        → IfOk result (λ r. ShowsEnding (keys_from config key) config.stash r.ending lent.tap'.log)
        → IfOk result (λ r. SaysMirror (keys_from config key) lent.tap'.log (log_end r.ending) lent.tap'.mirror
        ⊎ IsUnprepared r lent.tap lent.tap')
        → IfOk result (λ r. MayTellMirror lent.memory' lent.tap' ⊎ IsUnprepared r lent.tap lent.tap')
        → IfOk result (λ _. lent.memory'.count ≡ config.shape.buckets)
        → IfOk result (λ r. (at : ℕ) → r.ending ≡ TimeUp at
        → IsTimeUp config config.budget r.instructions r.cycles lent.tap'.log at)
        → IfOk result (λ r. EndsInOrder (keys_from config key) r.ending lent.tap'.log
        ⊎ IsUnprepared r lent.tap lent.tap')
        → IfOk result (λ r. EndsAtHome (keys_from config key) config (play_with config image input) r.instructions
        r.cycles r.ending lent.tap'.log)
        → IfOk result (λ r. HaveOrigins (keys_from config key) lent.tap'.log lent.tap'.mirror
        ⊎ IsUnprepared r lent.tap lent.tap')
        → IfOk result (IsRunOf config image input key lent)
    ran_of (Err none) pace in_time real dummies tied device right choices code fetches spent flat honest refines plays
        played fed verdict contents told count time_up done home origins = tt
    ran_of (Ok report) pace in_time real dummies tied device right choices code fetches spent flat honest refines plays
        played fed verdict contents told count time_up done home origins = record {
          dishonest = record {
            refinement = record { flat = refines; plays = plays };
            schedule = record {
              pace = pace;
              in_time = in_time;
              bits = bits;
              asked = asked;
              tied = tied;
              told = told;
              count = count;
            };
            contents = record {
              order = order;
              done = done;
              leaves = leaves;
              contents = contents;
              origins = origins;
              points = points;
            };
            rates = record { choices = choices; code = code; budget = budget };
            verdicts = record { verdict = verdict };
            core = record { fetches = fetches; fed = fed; spent = spent };
          };
          end_to_end = record {
            flat = flat;
            played = played;
            honest = honest;
            unforged = λ none forged. unforged (keys_from config key) lent.tap'.log forged none;
            home = home;
            unaltered = unaltered;
          };
          causes = record {
            faults = faults;
            device = device;
            right = right;
            time_up = time_up;
            real = real;
            dummies = dummies;
          };
        }

    -- the same of one that found no memory
    pub wants_of : {A E : Type 0} (result : Result A E)
        → OnErr result ((end : ℕ) × KeepsPace config end lent.tap'.log)
        → OnErr result (EndsWithMove config lent.tap'.log)
        → OnErr result (IsTiedButLast config lent.memory lent.memory' lent.tap lent.tap')
        → OnErr result ((verdict_on (keys_from config key) config.stash lent.tap'.log ≡ None)
        ⊎ BreaksOffReading (keys_from config key) config.stash lent.tap'.log)
        → OnErr result (SaysWanting (keys_from config key) lent.tap'.log lent.tap'.mirror ⊎ (lent.tap' ≡ lent.tap))
        → OnErr result ((lent.memory'.count ≡ 0) ⊎ (lent.memory'.count ≡ config.shape.buckets))
        → OnErr result (StopsInOrder (keys_from config key) why.NoMemory lent.tap'.log)
        → OnErr result (HaveOrigins (keys_from config key) lent.tap'.log lent.tap'.mirror ⊎ (lent.tap' ≡ lent.tap))
        → OnErr result (IsWantOf config image input key lent)
    wants_of (Ok report) pace last_move tied verdict contents count done origins = tt
    wants_of (Err none) (end, pace) last_move tied verdict contents count done origins = record {
      end = end;
      pace = pace;
      leaves = leaves;
      bits = bits;
      tied = tied;
      faults = faults;
      last_move = last_move;
      budget = budget;
      asked = asked;
      unaltered = unaltered;
      order = order;
      done = done;
      verdict = verdict;
      contents = contents;
      origins = origins;
      points = points;
      count = count;
    }

-- Where the steps of `run` or `gen` before its run were done, and it began so, its run and the steps after it end its
-- work.
module _ (command : Command) (given : List Pair) (lent : Lent) (begin : Begin) (old at new : HostState)
    (made : (run : Encrypted) → IsRun command given old.files lent run
    → IsMade command given lent old.files (MadeEncrypted run))
    (lost : RunWants command given old.files lent → IsLost command given lent old.files)
    (before : AllDone (steps_of command given) old at) (is : IsBegin command given old.files begin)
  where
    is_run : (run : Encrypted) → IsOutcome given begin lent run → IsRun command given old.files lent run
    is_run run outcome = record { begin = begin; begins = is; outcome = outcome }

    pub begun_ends : (end : Result Encrypted Refusal) → BegunEnds given begin lent end at new
        → WorkEnds command given lent (lifted MadeEncrypted end) old new
    begun_ends (Ok run) (outcome, done) = (at, before, made run (is_run run outcome), done)
    begun_ends (Err refusal) (inl (none, same, wants)) =
        inr (at, before, inl (none, same, lost (record { begin = begin; begins = is; wants = wants })))
    begun_ends (Err refusal) (inr (run, outcome, refused)) =
        inr (at, before, inr (MadeEncrypted run, made run (is_run run outcome), refused))
