-- Texts and what they are, checked by computing.
use Rattle.std.proofs.Common.{◌≡◌, refl, [], ◌∷◌, ◌++◌}
use Rattle.std.specs.Prelude.{Ok, Err, codes}
use Rattle.rv32_table.specs.Encoded.{word_of}
use Rattle.rv32_asm.specs.Forms.{forms}
use Rattle.rv32_asm.specs.Scanning.{numbered, named}
use Rattle.rv32_asm.specs.Values.{multiples}
use Rattle.rv32_asm.specs.Passes.{program_of}
use Rattle.rv32_asm.specs.Generator.{data_words}
use Rattle.rv32_asm.specs.declared.fault.AsmKind.TheVariants.{Range}
use Rattle.rv32_asm.specs.declared.fault.AsmFault.TheVariants.{Bad}

out_of_range : program_of 65536 (codes "addi x5, x0, 4096") ≡ Err (Bad 1 Range)
unfolding forms numbered named multiples word_of
out_of_range = refl

exits : program_of 65536 (codes "addi x17, x0, 93 # exit") ≡ Ok (0x93 ∷ 0x08 ∷ 0xd0 ∷ 0x05 ∷ [])
unfolding forms numbered named multiples word_of
exits = refl

back : program_of 65536 (codes " a:nop" ++ 10 ∷ codes "j a") ≡ Ok (0x13 ∷ 0 ∷ 0 ∷ 0 ∷ 0x6f ∷ 0xf0 ∷ 0xdf ∷ 0xff ∷ [])
unfolding forms numbered named multiples word_of
back = refl

empty : program_of 65536 [] ≡ Ok []
empty = refl

-- made from a seed of 0 and of 7
first_word : data_words 0 1 ≡ 0x1405_7b7e ∷ []
first_word = refl

three_words : data_words 7 3 ≡ 0x7e43_28bc ∷ 0xf4a6_1a7f ∷ 0xe815_5a62 ∷ []
three_words = refl
