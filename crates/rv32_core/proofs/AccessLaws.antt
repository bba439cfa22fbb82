-- The number that a load's bytes are, with zeros behind them.
use Rattle.std.proofs.Common.{◌≡◌, ℕ, ◌*◌, ◌-◌, ◌^◌, ◌<◌, List, [], ◌∷◌, ◌++◌, All, refl, arith, replicate, length}
use Rattle.std.specs.Int.{from_le_bytes, w32}
use Rattle.rv32_table.specs.Meaning.{load_width}
use Rattle.rv32_table.specs.declared.instruction.LoadOp.{LoadOp}
use Rattle.rv32_table.specs.declared.instruction.LoadOp.TheVariants.{Lb, Lh, Lw, Lbu, Lhu}
use Rattle.rv32_core.specs.Access.{Load, IsAnswer}

-- a byte, two and four are the same number with zeros behind them
one_byte : (bytes : List ℕ) → length bytes ≡ 1
    → from_le_bytes w32 (bytes ++ replicate (4 - 1) 0) ≡ from_le_bytes w32 bytes
one_byte (a ∷ []) count = refl
one_byte [] count = absurd (omega arith)
one_byte (a ∷ b ∷ more) count = absurd (omega arith)

two_bytes : (bytes : List ℕ) → length bytes ≡ 2
    → from_le_bytes w32 (bytes ++ replicate (4 - 2) 0) ≡ from_le_bytes w32 bytes
two_bytes (a ∷ b ∷ []) count = refl
two_bytes [] count = absurd (omega arith)
two_bytes (a ∷ []) count = absurd (omega arith)
two_bytes (a ∷ b ∷ c ∷ more) count = absurd (omega arith)

four_bytes : (bytes : List ℕ) → length bytes ≡ 4 → from_le_bytes w32 (bytes ++ replicate (4 - 4) 0)
    ≡ from_le_bytes w32 bytes
four_bytes (a ∷ b ∷ c ∷ d ∷ []) count = refl
four_bytes [] count = absurd (omega arith)
four_bytes (a ∷ []) count = absurd (omega arith)
four_bytes (a ∷ b ∷ []) count = absurd (omega arith)
four_bytes (a ∷ b ∷ c ∷ []) count = absurd (omega arith)
four_bytes (a ∷ b ∷ c ∷ d ∷ e ∷ more) count = absurd (omega arith)

-- the bytes of a load are the same number with zeros behind them
padded : (op : LoadOp) (bytes : List ℕ) → length bytes ≡ load_width op
    → from_le_bytes w32 (bytes ++ replicate (4 - load_width op) 0) ≡ from_le_bytes w32 bytes
padded Lb bytes count = one_byte bytes count
padded Lh bytes count = two_bytes bytes count
padded Lw bytes count = four_bytes bytes count
padded Lbu bytes count = one_byte bytes count
padded Lhu bytes count = two_bytes bytes count

pub loaded-is : (op : LoadOp) (address : ℕ) (bytes : List ℕ) → IsAnswer (Load address (load_width op)) bytes
    → from_le_bytes w32 (bytes ++ replicate (4 - load_width op) 0) ≡ from_le_bytes w32 bytes
loaded-is op address bytes answer = padded op bytes answer.0

-- a byte, two and four are below what they can be
one_below : (bytes : List ℕ) → length bytes ≡ 1 → All (λ b. b < 256) bytes → from_le_bytes w32 bytes < 2 ^ 8
one_below (a ∷ []) count low = let first : a < 256 = low 0 0 (omega arith) in omega arith
one_below [] count low = absurd (omega arith)
one_below (a ∷ b ∷ more) count low = absurd (omega arith)

two_below : (bytes : List ℕ) → length bytes ≡ 2 → All (λ b. b < 256) bytes → from_le_bytes w32 bytes < 2 ^ 16
two_below (a ∷ b ∷ []) count low = let first : a < 256 = low 0 0 (omega arith) in let second : b
    < 256 = low 1 0 (omega arith) in omega arith
two_below [] count low = absurd (omega arith)
two_below (a ∷ []) count low = absurd (omega arith)
two_below (a ∷ b ∷ c ∷ more) count low = absurd (omega arith)

four_below : (bytes : List ℕ) → length bytes ≡ 4 → All (λ b. b < 256) bytes → from_le_bytes w32 bytes < 2 ^ 32
four_below (a ∷ b ∷ c ∷ d ∷ []) count low =
    let first : a < 256 = low 0 0 (omega arith) in
    let second : b < 256 = low 1 0 (omega arith) in
    let third : c < 256 = low 2 0 (omega arith) in
    let fourth : d < 256 = low 3 0 (omega arith) in
    omega arith
four_below [] count low = absurd (omega arith)
four_below (a ∷ []) count low = absurd (omega arith)
four_below (a ∷ b ∷ []) count low = absurd (omega arith)
four_below (a ∷ b ∷ c ∷ []) count low = absurd (omega arith)
four_below (a ∷ b ∷ c ∷ d ∷ e ∷ more) count low = absurd (omega arith)

-- and so is the number of a load
pub loaded-below : (op : LoadOp) (address : ℕ) (bytes : List ℕ) → IsAnswer (Load address (load_width op)) bytes
    → from_le_bytes w32 bytes < 2 ^ (8 * load_width op)
loaded-below Lb address bytes answer = one_below bytes answer.0 answer.1
loaded-below Lh address bytes answer = two_below bytes answer.0 answer.1
loaded-below Lw address bytes answer = four_below bytes answer.0 answer.1
loaded-below Lbu address bytes answer = one_below bytes answer.0 answer.1
loaded-below Lhu address bytes answer = two_below bytes answer.0 answer.1
