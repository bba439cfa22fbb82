-- The hash that a generated program writes.
use Rattle.std.specs.Prelude.{ℕ, zero, suc, ◌+◌, ◌*◌, ◌%◌, ◌^◌}
use Rattle.rv32_asm.specs.Generator.{data_word}

-- the hash after a word: 33 times the hash so far, and the word, modulo 2^32
abbrev pub hash_after : ℕ → ℕ → ℕ
hash_after so_far word = (33 * so_far + word) % 2 ^ 32

-- The hash of the first data words of a seed. That of none is 0.
abbrev pub hash_of : ℕ → ℕ → ℕ
hash_of seed zero = 0
hash_of seed (suc count) = hash_after (hash_of seed count) (data_word seed count)
