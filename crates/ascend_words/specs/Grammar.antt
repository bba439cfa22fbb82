-- The grammar of the command line, over the tables of Tables.antt. The first word is the command; each other word is
-- `name=value` with a name of the command, each at most once, in any order, and each required name is given. Texts are
-- lists of bytes.
use Rattle.std.specs.Prelude.{◌≡◌, ◌≢◌, ℕ, ◌+◌, List, [], ◌∷◌, ◌++◌, length, map, codes, String, string_bytes}
use Rattle.std.specs.Prelude.{Option, None, option_map, is_some, IsSome, Bool, IsTrue}
use Rattle.std.specs.List.{find, list_all}
use Rattle.ascend_words.specs.Numbers.{number_of, rates_of}
use Rattle.ascend_words.specs.Tables.{command_text, name_text, required, kind_of, is_name_of, is_same}
use Rattle.ascend_words.specs.declared.table.Command.{Command}
use Rattle.ascend_words.specs.declared.table.Kind.{Kind}
use Rattle.ascend_words.specs.declared.table.Kind.TheVariants.{File, Number, Rates}
use Rattle.ascend_words.specs.declared.table.Name.{Name}

-- the bytes of each text
abbrev pub texts : {Z : Type 0} → List (String Z) → List (List ℕ)
texts words = map string_bytes words

-- a name and its value
pub record Pair : Type 0 where
  pub name : Name
  pub value : List ℕ

-- what words are read as: the command, and the names with their values in the order of the words
pub record Read : Type 0 where
  pub command : Command
  pub given : List Pair

-- how a pair is written: no name has a `=`, so the value is what follows the first
abbrev pub word_of : Pair → List ℕ
word_of pair = name_text pair.name ++ (codes "=" ++ pair.value)

-- a value has the form of its kind: a file's is any text that isn't empty
abbrev pub HasForm : Kind → List ℕ → Type 0
HasForm File value = value ≢ []
HasForm Number value = IsSome (number_of value)
HasForm Rates value = IsSome (rates_of value)

-- the value that these pairs give a name, if they give one
abbrev pub value_in : List Pair → Name → Option (List ℕ)
value_in given name = option_map (λ (pair : Pair). pair.value) (find (λ (pair : Pair). is_same pair.name name) given)

-- a pair keeps the rules after these: its name is one of the command's and has no value yet, and its value has its form
pub record MayFollow (command : Command) (earlier : List Pair) (pair : Pair) : Type 0 where
  pub of_command : IsTrue (is_name_of command pair.name)
  pub first : value_in earlier pair.name ≡ None
  pub form : HasForm (kind_of pair.name) pair.value

-- each pair keeps the rules after all before it
abbrev pub AllFollow : Command → List Pair → List Pair → Type 0
AllFollow command earlier [] = Unit {0}
AllFollow command earlier (pair ∷ pairs) =
    MayFollow command earlier pair × AllFollow command (earlier ++ pair ∷ []) pairs

-- the words after the command are these pairs, and each keeps the rules
pub record AreGiven (command : Command) (words : List (List ℕ)) (given : List Pair) : Type 0 where
  pub written : words ≡ map word_of given
  pub follow : AllFollow command [] given

-- the words are a command and pairs that keep the rules
abbrev pub Keeps : List (List ℕ) → Read → Type 0
Keeps [] read = ⊥
Keeps (first ∷ rest) read = (first ≡ command_text read.command) × AreGiven read.command rest read.given

-- each required name has a value
abbrev pub has_required : Read → Bool
has_required read = list_all (λ name. is_some (value_in read.given name)) (required read.command)

-- the words are right, and read so
pub record IsWords (words : List (List ℕ)) (read : Read) : Type 0 where
  pub keeps : Keeps words read
  pub complete : IsTrue (has_required read)

-- the words keep the rules so far, whatever may still be missing
abbrev pub KeepRules : List (List ℕ) → Type 0
KeepRules [] = Unit {0}
KeepRules (word ∷ words) = (read : Read) × Keeps (word ∷ words) read

-- The word `n`, counted from 1, is the first that breaks a rule; where none does and something required is missing, the
-- command or a name, `n` is the number of words plus 1.
pub data IsFault (words : List (List ℕ)) (n : ℕ) : Type 0 where
  breaks : (before after : List (List ℕ)) (word : List ℕ) → words ≡ before ++ word ∷ after → KeepRules before
      → ¬ KeepRules (before ++ word ∷ []) → n ≡ length before + 1 → IsFault words n
  missing : KeepRules words → ((read : Read) → ¬ IsWords words read) → n ≡ length words + 1 → IsFault words n
