-- What `run` and `gen` come to over files that are told and a memory that tells its buckets, where neither the host nor
-- the memory fails.
use Rattle.std.specs.Prelude.{◌≡◌, ◌⊎◌, ℕ, List, Some, Ok}
use Rattle.asc_outside.specs.Host.{Files, HostState}
use Rattle.play_run.specs.Shows.{IsWholePlay}
use Rattle.run_play.specs.Play.{PlayEnding, Exited, Trapped, Budget, TimeUp, StashFull, Integrity, Device}
use Rattle.secure_machine.specs.Full.{NoSlotIsFull}
use Rattle.secure_machine.specs.Plays.{play_report}
use Rattle.ascend_words.specs.Grammar.{Pair, Read}
use Rattle.ascend_words.specs.declared.table.Command.{Command}
use Rattle.ascend_top.specs.Command.{CommandEnds}
use Rattle.ascend_top.specs.EncryptedRun.{keys_from}
use Rattle.ascend_top.specs.Lent.{Lent}
use Rattle.ascend_top.specs.Headline.{program_play}
use Rattle.ascend_top.specs.Made.{Encrypted}
use Rattle.ascend_top.specs.Run.{IsBegin, IsRun}
use Rattle.ascend_top.specs.Status.{status_of_refusal}
use Rattle.ascend_top.specs.declared.commands.run.Begin.{Begin}
use Rattle.ascend_top.specs.declared.commands.run.Encrypted.{Encrypted as EncryptedRun}
use Rattle.ascend_top.specs.declared.refusal.Refusal.TheVariants.{NoMemory}

-- no slot of the Play finds too many blocks, of the program, input, key and settings that the words and files give
abbrev pub HasRoom : Command → List Pair → Files → Type 0
HasRoom command given files = (begin : Begin) → IsBegin command given (Some files) begin
    → NoSlotIsFull (keys_from begin.program.config begin.key) begin.program.config.stash (program_play begin.program)

-- the status of a command whose Play ends so, by itself or by the settings
abbrev pub IsPlayStatus : PlayEnding → (status : ℕ) → Type 0
IsPlayStatus (Exited code) status = status ≡ 0
IsPlayStatus (Trapped kind pc) status = status ≡ 1
IsPlayStatus (TimeUp at) status = status ≡ 8
IsPlayStatus Budget status = status ≡ 9
IsPlayStatus (StashFull held) status = ⊥
IsPlayStatus (Integrity evidence) status = ⊥
IsPlayStatus Device status = ⊥

-- The command is done: its run is the whole Play, its status is that of the Play's end, and the steps behind the run,
-- which write the output and the trace and print the report, were all done.
pub record IsWholeRun (read : Read) (files : Files) (lent : Lent) (status : ℕ) (old new : HostState) : Type 0 where
  pub run : EncryptedRun
  pub ran : IsRun read.command read.given (Some files) lent run
  pub play : IsWholePlay ran.begin.program.config (program_play ran.begin.program) (play_report run.report)
      lent.tap'.log
  pub ends_so : IsPlayStatus (program_play ran.begin.program).ending status
  pub ends : CommandEnds read lent (Ok (Encrypted run)) old new

-- or there was no memory
abbrev pub CompletesPlay : Read → Files → Lent → (status : ℕ) → HostState → HostState → Type 0
CompletesPlay read files lent status old new =
    (status ≡ status_of_refusal NoMemory) ⊎ IsWholeRun read files lent status old new
