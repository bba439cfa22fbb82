-- The tables of the command line: how each command and each name is written, the names that a command requires and
-- those that it may have, and what the value of a name is. A further command or name is a further row.
use Rattle.std.specs.Prelude.{ℕ, List, [], ◌∷◌, codes, Bool, ◌||◌, Option}
use Rattle.std.specs.List.{find, list_any}
use Rattle.std.specs.Str.{bytes_eq}
use Rattle.ascend_words.specs.declared.table.Command.{Command}
use Rattle.ascend_words.specs.declared.table.Command.TheVariants.{Run, Flat, Asm, Disasm, Check, Gen}
use Rattle.ascend_words.specs.declared.table.Kind.{Kind}
use Rattle.ascend_words.specs.declared.table.Kind.TheVariants.{File, Number, Rates as Numbers}
use Rattle.ascend_words.specs.declared.table.Name.{Name}
use Rattle.ascend_words.specs.declared.table.Name.TheVariants.{Elf, Key, Output, Input, Text, Trace, At, Size, Base}
use Rattle.ascend_words.specs.declared.table.Name.TheVariants.{Sets, Ways, Plb, Roots, Ic, Stash, Budget, Time, Leak}
use Rattle.ascend_words.specs.declared.table.Name.TheVariants.{Rates, First, Epoch, Save, Seed, Words}

-- the commands
abbrev pub commands : List Command
commands = Run ∷ Flat ∷ Asm ∷ Disasm ∷ Check ∷ Gen ∷ []

abbrev pub command_text : Command → List ℕ
command_text Run = codes "run"
command_text Flat = codes "flat"
command_text Asm = codes "asm"
command_text Disasm = codes "disasm"
command_text Check = codes "check"
command_text Gen = codes "gen"

abbrev pub required : Command → List Name
required Run = Elf ∷ Key ∷ Output ∷ []
required Flat = Elf ∷ Output ∷ []
required Asm = Text ∷ Elf ∷ []
required Disasm = Elf ∷ []
required Check = Trace ∷ []
required Gen = Seed ∷ Words ∷ Key ∷ Output ∷ []

abbrev pub optional : Command → List Name
optional Run =
    Input ∷ Trace ∷ Size ∷ Base ∷ Sets ∷ Ways ∷ Plb ∷ Roots ∷ Ic ∷ Stash ∷ Budget ∷ Time ∷ Leak ∷ Rates ∷ First
    ∷ Epoch ∷ []
optional Flat = Input ∷ Size ∷ Base ∷ Budget ∷ []
optional Asm = At ∷ []
optional Disasm = Size ∷ Base ∷ []
optional Check = []
optional Gen =
    Save ∷ Trace ∷ Size ∷ Base ∷ Sets ∷ Ways ∷ Plb ∷ Roots ∷ Ic ∷ Stash ∷ Budget ∷ Time ∷ Leak ∷ Rates ∷ First
    ∷ Epoch ∷ []

-- the names
abbrev pub names : List Name
names =
    Elf ∷ Key ∷ Output ∷ Input ∷ Text ∷ Trace ∷ Save ∷ At ∷ Seed ∷ Words ∷ Size ∷ Base ∷ Sets ∷ Ways ∷ Plb ∷ Roots
    ∷ Ic ∷ Stash ∷ Budget ∷ Time ∷ Leak ∷ Rates ∷ First ∷ Epoch ∷ []

abbrev pub name_text : Name → List ℕ
name_text Elf = codes "elf"
name_text Key = codes "key"
name_text Output = codes "output"
name_text Input = codes "input"
name_text Text = codes "text"
name_text Trace = codes "trace"
name_text Save = codes "save"
name_text At = codes "at"
name_text Seed = codes "seed"
name_text Words = codes "words"
name_text Size = codes "size"
name_text Base = codes "base"
name_text Sets = codes "sets"
name_text Ways = codes "ways"
name_text Plb = codes "plb"
name_text Roots = codes "roots"
name_text Ic = codes "ic"
name_text Stash = codes "stash"
name_text Budget = codes "budget"
name_text Time = codes "time"
name_text Leak = codes "leak"
name_text Rates = codes "rates"
name_text First = codes "first"
name_text Epoch = codes "epoch"

abbrev pub kind_of : Name → Kind
kind_of Elf = File
kind_of Key = File
kind_of Output = File
kind_of Input = File
kind_of Text = File
kind_of Trace = File
kind_of Save = File
kind_of At = Number
kind_of Seed = Number
kind_of Words = Number
kind_of Size = Number
kind_of Base = Number
kind_of Sets = Number
kind_of Ways = Number
kind_of Plb = Number
kind_of Roots = Number
kind_of Ic = Number
kind_of Stash = Number
kind_of Budget = Number
kind_of Time = Number
kind_of Leak = Number
kind_of Rates = Numbers
kind_of First = Number
kind_of Epoch = Number

-- What follows from the tables.

-- the command that is written so
abbrev pub commanded : List ℕ → Option Command
commanded text = find (λ command. bytes_eq (command_text command) text) commands

-- the name that is written so
abbrev pub named : List ℕ → Option Name
named text = find (λ name. bytes_eq (name_text name) text) names

-- two names are the same: they are written the same
abbrev pub is_same : Name → Name → Bool
is_same a b = bytes_eq (name_text a) (name_text b)

-- the name is one of these
abbrev pub is_among : Name → List Name → Bool
is_among name list = list_any (λ other. is_same other name) list

-- the name is one of the command's
abbrev pub is_name_of : Command → Name → Bool
is_name_of command name = is_among name (required command) || is_among name (optional command)
