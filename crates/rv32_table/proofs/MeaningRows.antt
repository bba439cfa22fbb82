-- Rows of the manual on what operations answer, checked by computing.
use Rattle.std.proofs.Common.{◌≡◌, refl}
use Rattle.std.specs.Prelude.{pos, negsuc, true, false}
use Rattle.rv32_table.specs.Meaning.{register_meaning, immediate_meaning, branch_meaning, load_meaning, target_of}
use Rattle.rv32_table.specs.Meaning.{jump_target}
use Rattle.rv32_table.specs.declared.instruction.BranchOp.TheVariants.{Bge, Bgeu, Blt, Bltu}
use Rattle.rv32_table.specs.declared.instruction.LoadOp.TheVariants.{Lb, Lh, Lbu}
use Rattle.rv32_table.specs.declared.instruction.ImmOp.TheVariants.{Addi, Sltiu, Srai}
use Rattle.rv32_table.specs.declared.instruction.RegOp.TheVariants.{Sub, Slt, Sra, Mul, Mulh, Mulhsu, Mulhu, Div, Divu}
use Rattle.rv32_table.specs.declared.instruction.RegOp.TheVariants.{Rem, Remu}

-- by zero (M, table of the semantics for division by zero and division overflow)
div-zero : register_meaning Div 7 0 ≡ 4294967295
unfolding register_meaning
div-zero = refl

divu-zero : register_meaning Divu 7 0 ≡ 4294967295
unfolding register_meaning
divu-zero = refl

rem-zero : register_meaning Rem 7 0 ≡ 7
unfolding register_meaning
rem-zero = refl

remu-zero : register_meaning Remu 7 0 ≡ 7
unfolding register_meaning
remu-zero = refl

-- -2^31 by -1
div-overflow : register_meaning Div 2147483648 4294967295 ≡ 2147483648
unfolding register_meaning
div-overflow = refl

rem-overflow : register_meaning Rem 2147483648 4294967295 ≡ 0
unfolding register_meaning
rem-overflow = refl

-- -7 by 2 is -3, and leaves -1
div-negative : register_meaning Div 4294967289 2 ≡ 4294967293
unfolding register_meaning
div-negative = refl

rem-negative : register_meaning Rem 4294967289 2 ≡ 4294967295
unfolding register_meaning
rem-negative = refl

-- all ones by all ones
mul-ones : register_meaning Mul 4294967295 4294967295 ≡ 1
unfolding register_meaning
mul-ones = refl

mulh-ones : register_meaning Mulh 4294967295 4294967295 ≡ 0
unfolding register_meaning
mulh-ones = refl

mulhsu-ones : register_meaning Mulhsu 4294967295 4294967295 ≡ 4294967295
unfolding register_meaning
mulhsu-ones = refl

mulhu-ones : register_meaning Mulhu 4294967295 4294967295 ≡ 4294967294
unfolding register_meaning
mulhu-ones = refl

sub-wraps : register_meaning Sub 0 1 ≡ 4294967295
unfolding register_meaning
sub-wraps = refl

slt-signed : register_meaning Slt 4294967295 0 ≡ 1
unfolding register_meaning
slt-signed = refl

-- -8 shifted right by 33, which is 1
sra-negative : register_meaning Sra 4294967288 33 ≡ 4294967292
unfolding register_meaning
sra-negative = refl

-- -1 shifted right by 31
srai-ones : immediate_meaning Srai 4294967295 (pos 31) ≡ 4294967295
unfolding register_meaning
srai-ones = refl

addi-wraps : immediate_meaning Addi 0 (negsuc 0) ≡ 4294967295
unfolding register_meaning
addi-wraps = refl

-- 5 is less than -1 as an unsigned number
sltiu-extends : immediate_meaning Sltiu 5 (negsuc 0) ≡ 1
unfolding register_meaning
sltiu-extends = refl

blt-signed : branch_meaning Blt 4294967295 0 ≡ true
unfolding branch_meaning
blt-signed = refl

bge-signed : branch_meaning Bge 4294967295 0 ≡ false
unfolding branch_meaning
bge-signed = refl

bltu-unsigned : branch_meaning Bltu 4294967295 0 ≡ false
unfolding branch_meaning
bltu-unsigned = refl

bgeu-unsigned : branch_meaning Bgeu 4294967295 0 ≡ true
unfolding branch_meaning
bgeu-unsigned = refl

lb-extends : load_meaning Lb 128 ≡ 4294967168
unfolding load_meaning
lb-extends = refl

lh-extends : load_meaning Lh 32768 ≡ 4294934528
unfolding load_meaning
lh-extends = refl

lbu-zeros : load_meaning Lbu 128 ≡ 128
unfolding load_meaning
lbu-zeros = refl

jump-clears : jump_target 7 (negsuc 1) ≡ 4
jump-clears = refl

target-wraps : target_of 0 (negsuc 3) ≡ 4294967292
target-wraps = refl
