-- Words of which the premises of completeness hold, over any files that have their key; what a memory means whose calls
-- never fail; a program, a report and what they leave, of which the headline holds; and a log that shows a forgery.
use Rattle.std.specs.Prelude.{◌≡◌, ◌<◌, ◌+◌, ℕ, List, [], ◌∷◌, ◌++◌, length, codes, None, Some}
use Rattle.asc_base.specs.declared.block.Counter.{Counter}
use Rattle.asc_outside.specs.Host.{Files}
use Rattle.asc_outside.specs.Memories.{BucketsState, told_by_buckets}
use Rattle.asc_outside.specs.Memory.{MemoryState}
use Rattle.bucket_codec.specs.Bucket.{bucket_text}
use Rattle.bus_watch.specs.Log.{LogLists}
use Rattle.bus_watch.specs.Path.{reads}
use Rattle.bus_watch.specs.declared.log.Event.TheVariants.{Accepted}
use Rattle.oram_contents.specs.Entries.{Keys, real, message_of, entry_of}
use Rattle.oram_contents.specs.Slots.{drawn_events}
use Rattle.run_play.specs.Programs.{exit_words}
use Rattle.run_play.specs.Rows.{small}
use Rattle.secure_machine.specs.Rows.{IsLoaded, IsSaid}
use Rattle.secure_machine.specs.declared.report.Ending.{Ending}
use Rattle.secure_machine.specs.declared.report.Report.{Report}
use Rattle.ascend_words.specs.Grammar.{Read}
use Rattle.ascend_words.specs.declared.table.Command.TheVariants.{Gen}
use Rattle.ascend_words.specs.declared.table.Name.TheVariants.{Key, Output, Seed, Time, Words}
use Rattle.ascend_top.specs.EncryptedRun.{keys_from}
use Rattle.ascend_top.specs.Lent.{Lent}
use Rattle.ascend_top.specs.Steps.{key_length}
use Rattle.ascend_top.specs.declared.commands.flat.Program.{Program}

-- a program of one data word, with as many cycles as there are before the first slot
abbrev pub short_words : List (List ℕ)
short_words =
    codes "gen" ∷ codes "seed=0" ∷ codes "words=1" ∷ codes "key=k" ∷ codes "output=o" ∷ codes "time=16384" ∷ []

-- what they are read as
abbrev pub short_read : Read
short_read = record {
  command = Gen;
  given = record { name = Seed; value = codes "0" } ∷ record { name = Words; value = codes "1" }
      ∷ record { name = Key; value = codes "k" } ∷ record { name = Output; value = codes "o" }
      ∷ record { name = Time; value = codes "16384" } ∷ [];
}

-- the file that they name for the key has the length of one
abbrev pub HaveKey : Files → Type 0
HaveKey files = (bytes : List ℕ) × (files (codes "k") ≡ Some bytes) × (length bytes ≡ key_length)

-- it tells its buckets, and never counts a fault
abbrev pub without_faults : BucketsState → MemoryState
without_faults memory = record (told_by_buckets memory) { faults = 0 }

-- a program that exits at once, in a memory of 64 lines, without input
pub record IsExit (program : Program) : Type 0 where
  pub config : program.config ≡ small
  pub image : IsLoaded exit_words program.image
  pub input : program.input.items ≡ []

-- a report of two instructions and twelve cycles, before the first slot
pub record IsShort (ending : Ending) (report : Report) : Type 0 where
  pub said : IsSaid 2 ending report
  pub cycles : report.cycles ≡ 12
  pub last : report.last ≡ 12
  pub fetches : report.fetches ≡ 0
  pub real : report.real ≡ 0
  pub dummies : report.dummies ≡ 0
  pub choices : report.choices ≡ 0
  pub code : report.code ≡ 0

-- no event is noted, and no reply was altered
pub record IsQuiet (lent : Lent) : Type 0 where
  pub events : lent.tap'.log.events ≡ []
  pub altered : lent.tap'.log.altered ≡ []

-- and no move was made
pub record IsUnmoved (lent : Lent) : Type 0 where
  pub quiet : IsQuiet lent
  pub moves : lent.tap'.log.moves ≡ []
  pub asked : lent.memory'.moved ≡ lent.memory.moved

-- A log of one slot that was asked for, up to the reads of its path. The root's reply is altered, so that an entry of a
-- block stands in it with a line under a counter and its valid tag; and this line is accepted, though nothing was
-- tagged.
abbrev pub forged_log : Keys → ℕ → Counter → List ℕ → LogLists
forged_log keys a c l = record {
  moves = reads keys.shape.levels 256 (keys.leaf_of (real a c));
  events = drawn_events keys 256 (Some 0) (real a c) ++ Accepted (message_of a c l) (entry_of keys a c l).tag ∷ [];
  altered = record {
    time = 256;
    bucket = 0;
    bytes = bucket_text keys.pads 1 (Some (entry_of keys a c l) ∷ None ∷ None ∷ None ∷ []);
    before = 2;
  } ∷ [];
}

-- A program in a memory of 64 lines leaves such a log of a block and a line, over a memory that tells nothing and that
-- was asked for the six reads.
pub record IsForgedRun (program : Program) (key : List ℕ) (lent : Lent) (a : ℕ) (c : Counter) (l : List ℕ)
    : Type 0 where
  pub config : program.config ≡ small
  pub inside : a < 66
  pub whole : length l ≡ 64
  pub untold : lent.memory.told ≡ None
  pub log : lent.tap'.log ≡ forged_log (keys_from small key) a c l
  pub asked : lent.memory'.moved ≡ lent.memory.moved + 6
