-- The instructions of the program stand in its words, and each is decoded from its own.
use Rattle.std.proofs.Common.{◌≡◌, ◌∙◌, ℕ, zero, suc, ◌^◌, ◌<◌, List, [], ◌∷◌, ◌++◌, length, map, ap, sym, refl, arith}
use Rattle.std.proofs.Common.{Bool, true}
use Rattle.std.specs.Prelude.{nat_lt, slice_index, slice_index_or, Some, None}
use Rattle.std.specs.List.{list_all}
use Rattle.std.proofs.lemmas.List.{get_or_append_left, get_or-map}
use Rattle.std.proofs.lemmas.Bool.{ltb-true}
use Rattle.rv32_table.specs.Encoded.{word_of}
use Rattle.rv32_table.specs.Table.{decoded, table}
use Rattle.rv32_table.specs.declared.instruction.Instr.{Instr}
use Rattle.rv32_table.specs.declared.instruction.Instr.TheVariants.{Ecall}
use Rattle.rv32_asm.specs.Generator.{program}
use Rattle.rv32_asm.proofs.TestLaws.{and_first, and_second}
use Rattle.generated_run.specs.States.{code}
use Rattle.generated_run.proofs.Steps.{IsCoded}

-- the instruction of this index
abbrev pub instr_at : ℕ → Instr
instr_at index = slice_index_or program index Ecall

abbrev is_word : ℕ → Bool
is_word number = nat_lt number (2 ^ 32)

all_decode : map decoded code ≡ map (λ i. Some i) program
unfolding program word_of decoded table
all_decode = refl

all_words : list_all is_word code ≡ true
unfolding program word_of
all_words = refl

pub length_code : length code ≡ 29
unfolding program
length_code = refl

length_program : length program ≡ 29
unfolding program
length_program = refl

-- each element of a list passes what all pass
passes : (xs : List ℕ) (k : ℕ) → k < length xs → list_all is_word xs ≡ true → is_word (slice_index xs k) ≡ true
passes [] k inside all = absurd (omega arith)
passes (x ∷ xs) zero inside all = and_first (is_word x) (list_all is_word xs) all
passes (x ∷ xs) (suc k) inside all =
    passes xs k (omega arith) (and_second (is_word x) (list_all is_word xs) all)

pub coded : (rest : List ℕ) (k : ℕ) → k < 29 → IsCoded (code ++ rest) k (instr_at k)
coded rest k few =
    let in_code : k < length code = omega (arith, length_code) in
    let in_program : k < length program = omega (arith, length_program) in
    record {
      word = slice_index code k;
      at = get_or_append_left code rest 0 k in_code;
      small = ltb-true (slice_index code k) (2 ^ 32) (passes code k in_code all_words);
      decodes = sym (get_or-map decoded code k 0 None in_code)
          ∙ ap (λ found. slice_index_or found k None) all_decode
          ∙ get_or-map (λ i. Some i) program k Ecall None in_program;
    }
