-- What the reader answers, by the grammar.
use Rattle.std.proofs.Common.{◌≡◌, ◌⊎◌, ℕ, List, ◌∷◌, Result, Ok, Err, refl, sym, ap, subst, inl, inr}
use Rattle.ascend_words.specs.Grammar.{Read, IsFault, IsWords}
use Rattle.ascend_words.specs.Reading.{IsFaultOf, IsStop}
use Rattle.ascend_words.specs.Tables.{command_text}
use Rattle.ascend_words.specs.declared.fault.WordFault.{WordFault}
use Rattle.ascend_words.specs.declared.fault.WordFault.TheVariants.{Usage, NoMemory}
use Rattle.ascend_words.specs.declared.table.Command.{Command}
use Rattle.ascend_words.proofs.GrammarLaws.{IsFault-one, IsWords-not-IsFault, Keeps-one, fault_of_word}

-- words that are right are accepted, or there is no memory
abbrev pub IsAccepted : List (List ℕ) → Result Read WordFault → Type 0
IsAccepted words answer = (read : Read) → IsWords words read → (answer ≡ Ok read) ⊎ (answer ≡ Err NoMemory)

-- words with a fault are refused with it, or there is no memory
abbrev pub IsRefused : List (List ℕ) → Result Read WordFault → Type 0
IsRefused words answer = (word : ℕ) → IsFault words word → (answer ≡ Err (Usage word)) ⊎ (answer ≡ Err NoMemory)

pub accepted_read : (words : List (List ℕ)) (one : Read) → IsWords words one → IsAccepted words (Ok one)
accepted_read words one is read other = inl (ap Ok (Keeps-one words one read is.keeps other.keeps))

pub refused_read : (words : List (List ℕ)) (one : Read) → IsWords words one → IsRefused words (Ok one)
refused_read words one is word fault = absurd (IsWords-not-IsFault words one word is fault)

pub accepted_fault : (words : List (List ℕ)) (fault : WordFault) → IsFaultOf words fault → IsAccepted words (Err fault)
accepted_fault words (Usage word) is read right = absurd (IsWords-not-IsFault words read word right is)
accepted_fault words NoMemory is read right = inr refl

pub refused_fault : (words : List (List ℕ)) (fault : WordFault) → IsFaultOf words fault → IsRefused words (Err fault)
refused_fault words (Usage word) is other fault = inl (ap (λ k. Err (Usage k)) (IsFault-one words word other is fault))
refused_fault words NoMemory is other fault = inr refl

-- why the words after the command aren't read is why the words aren't
pub stop_fault : (command : Command) (first : List ℕ) (rest : List (List ℕ)) (fault : WordFault)
    → first ≡ command_text command
    → IsStop command rest fault → IsFaultOf (first ∷ rest) fault
stop_fault command first rest (Usage word) is (index, e, m) = subst (IsFault (first ∷ rest)) (sym e)
    (fault_of_word command first rest index is m)
stop_fault command first rest NoMemory is stop = tt
