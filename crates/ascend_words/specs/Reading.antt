-- What the parts of the reader say.
use Rattle.std.specs.Prelude.{◌≡◌, ℕ, ◌+◌, List, ◌∷◌, ◌++◌, map, length, take, drop, ◌<◌, string_bytes}
use Rattle.ascend_words.specs.Grammar.{Pair, AreGiven, IsFault, MayFollow, word_of}
use Rattle.ascend_words.specs.declared.fault.WordFault.{WordFault}
use Rattle.ascend_words.specs.declared.fault.WordFault.TheVariants.{Usage, NoMemory}
use Rattle.ascend_words.specs.declared.given.Given.{Given}
use Rattle.ascend_words.specs.declared.table.Command.{Command}

-- the pairs that are held
abbrev pub pair_of : Given → Pair
pair_of given = record { name = given.name; value = string_bytes given.value }

abbrev pub pairs : List Given → List Pair
pairs given = map pair_of given

-- the words up to one are pairs that keep the rules, and that one is none that does
pub record IsMisfit (command : Command) (words : List (List ℕ)) (index : ℕ) : Type 0 where
  pub given : List Pair
  pub before : AreGiven command (take index words) given
  pub place : index < length words
  pub word : List ℕ
  pub split : words ≡ take index words ++ word ∷ drop (index + 1) words
  pub breaks : (pair : Pair) → word ≡ word_of pair → ¬ MayFollow command given pair

-- why the words after the command aren't read
abbrev pub IsStop : Command → List (List ℕ) → WordFault → Type 0
IsStop command words (Usage word) = (index : ℕ) × (word ≡ index + 2) × IsMisfit command words index
IsStop command words NoMemory = Unit {0}

-- why words aren't read
abbrev pub IsFaultOf : List (List ℕ) → WordFault → Type 0
IsFaultOf words (Usage word) = IsFault words word
IsFaultOf words NoMemory = Unit {0}
