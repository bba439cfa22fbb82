-- Instructions whose registers there are.
use Rattle.std.specs.Prelude.{◌<◌}
use Rattle.rv32_table.specs.Fits.{Fits}
use Rattle.rv32_table.specs.declared.instruction.Instr.{Instr}
use Rattle.rv32_table.specs.declared.instruction.Instr.TheVariants.{Lui, Auipc, Jal, Jalr, Branch, Load, Store, OpImm}
use Rattle.rv32_table.specs.declared.instruction.Instr.TheVariants.{Op, Fence, FenceI, Ecall, Ebreak}
use Rattle.rv32_asm.specs.declared.operands.Line as line
use Rattle.rv32_asm.specs.declared.operands.Line.TheVariants as lines

-- the registers of an instruction that takes a number
abbrev pub HasRegisters : Instr → Type 0
HasRegisters (Lui rd imm) = rd < 32
HasRegisters (Auipc rd imm) = rd < 32
HasRegisters (Jal rd offset) = rd < 32
HasRegisters (Jalr rd rs1 imm) = (rd < 32) × (rs1 < 32)
HasRegisters (Branch op rs1 rs2 offset) = (rs1 < 32) × (rs2 < 32)
HasRegisters (Load op rd rs1 imm) = (rd < 32) × (rs1 < 32)
HasRegisters (Store op rs1 rs2 imm) = (rs1 < 32) × (rs2 < 32)
HasRegisters (OpImm op rd rs1 imm) = (rd < 32) × (rs1 < 32)
HasRegisters (Op op rd rs1 rs2) = Unit {0}
HasRegisters (Fence rest) = Unit {0}
HasRegisters (FenceI rest) = Unit {0}
HasRegisters Ecall = Unit {0}
HasRegisters Ebreak = Unit {0}

-- the same of a statement; an instruction without a number has a word
abbrev pub IsReady : line.Line → Type 0
IsReady (lines.Plain instr) = Fits instr
IsReady (lines.Numbered instr number) = HasRegisters instr
IsReady (lines.Relative instr target) = HasRegisters instr
IsReady (lines.Puts rd target) = rd < 32
IsReady (lines.Word target) = Unit {0}
IsReady (lines.Byte number) = Unit {0}
IsReady (lines.Text text) = Unit {0}
IsReady (lines.Zeros count) = Unit {0}
IsReady (lines.Multiple multiple) = Unit {0}
