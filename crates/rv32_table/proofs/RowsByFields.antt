-- What each row of the table is by the fields.
use Rattle.std.proofs.Common.{◌≡◌, ℕ, ◌<◌, ◌^◌, lit<}
use Rattle.std.specs.Prelude.{Some}
use Rattle.rv32_table.specs.Fields.{opcode_of, funct7_of}
use Rattle.rv32_table.specs.ByFields.{by_opcode}
use Rattle.rv32_table.specs.Table.{table, Matches, instruction_of}
use Rattle.rv32_table.proofs.ListLaws.{◌▹◌, EachRow}
use Rattle.rv32_table.proofs.FieldLaws.{at_opcode, at_funct3, at_funct7, at_whole, any_funct7, by_lui, by_auipc, by_jal}
use Rattle.rv32_table.proofs.FieldLaws.{by_jalr, by_branch, by_load, by_store, by_op_imm, by_op, by_fence, by_ecall}
use Rattle.rv32_table.proofs.FieldLaws.{by_ebreak}

pub rows-by_opcode : (w : ℕ) → w < 2 ^ 32
    → EachRow (λ r. Matches w r → by_opcode (opcode_of w) w ≡ Some (instruction_of r.form w)) table
unfolding table
rows-by_opcode w fits =
    (λ e. by_lui w (at_opcode w 55 e))
    ▹ (λ e. by_auipc w (at_opcode w 23 e))
    ▹ (λ e. by_jal w (at_opcode w 111 e))
    ▹ (λ e. by_jalr w 0 (at_funct3 w 103 0 (lit< tt) e))
    ▹ (λ e. by_branch w 0 (at_funct3 w 99 0 (lit< tt) e))
    ▹ (λ e. by_branch w 1 (at_funct3 w 99 1 (lit< tt) e))
    ▹ (λ e. by_branch w 4 (at_funct3 w 99 4 (lit< tt) e))
    ▹ (λ e. by_branch w 5 (at_funct3 w 99 5 (lit< tt) e))
    ▹ (λ e. by_branch w 6 (at_funct3 w 99 6 (lit< tt) e))
    ▹ (λ e. by_branch w 7 (at_funct3 w 99 7 (lit< tt) e))
    ▹ (λ e. by_load w 0 (at_funct3 w 3 0 (lit< tt) e))
    ▹ (λ e. by_load w 1 (at_funct3 w 3 1 (lit< tt) e))
    ▹ (λ e. by_load w 2 (at_funct3 w 3 2 (lit< tt) e))
    ▹ (λ e. by_load w 4 (at_funct3 w 3 4 (lit< tt) e))
    ▹ (λ e. by_load w 5 (at_funct3 w 3 5 (lit< tt) e))
    ▹ (λ e. by_store w 0 (at_funct3 w 35 0 (lit< tt) e))
    ▹ (λ e. by_store w 1 (at_funct3 w 35 1 (lit< tt) e))
    ▹ (λ e. by_store w 2 (at_funct3 w 35 2 (lit< tt) e))
    ▹ (λ e. by_op_imm w 0 (funct7_of w) (any_funct7 w 19 0 (at_funct3 w 19 0 (lit< tt) e)))
    ▹ (λ e. by_op_imm w 2 (funct7_of w) (any_funct7 w 19 2 (at_funct3 w 19 2 (lit< tt) e)))
    ▹ (λ e. by_op_imm w 3 (funct7_of w) (any_funct7 w 19 3 (at_funct3 w 19 3 (lit< tt) e)))
    ▹ (λ e. by_op_imm w 4 (funct7_of w) (any_funct7 w 19 4 (at_funct3 w 19 4 (lit< tt) e)))
    ▹ (λ e. by_op_imm w 6 (funct7_of w) (any_funct7 w 19 6 (at_funct3 w 19 6 (lit< tt) e)))
    ▹ (λ e. by_op_imm w 7 (funct7_of w) (any_funct7 w 19 7 (at_funct3 w 19 7 (lit< tt) e)))
    ▹ (λ e. by_op_imm w 1 0 (at_funct7 w 19 1 0 fits (lit< tt) (lit< tt) e))
    ▹ (λ e. by_op_imm w 5 0 (at_funct7 w 19 5 0 fits (lit< tt) (lit< tt) e))
    ▹ (λ e. by_op_imm w 5 32 (at_funct7 w 19 5 32 fits (lit< tt) (lit< tt) e))
    ▹ (λ e. by_op w 0 0 (at_funct7 w 51 0 0 fits (lit< tt) (lit< tt) e))
    ▹ (λ e. by_op w 0 32 (at_funct7 w 51 0 32 fits (lit< tt) (lit< tt) e))
    ▹ (λ e. by_op w 1 0 (at_funct7 w 51 1 0 fits (lit< tt) (lit< tt) e))
    ▹ (λ e. by_op w 2 0 (at_funct7 w 51 2 0 fits (lit< tt) (lit< tt) e))
    ▹ (λ e. by_op w 3 0 (at_funct7 w 51 3 0 fits (lit< tt) (lit< tt) e))
    ▹ (λ e. by_op w 4 0 (at_funct7 w 51 4 0 fits (lit< tt) (lit< tt) e))
    ▹ (λ e. by_op w 5 0 (at_funct7 w 51 5 0 fits (lit< tt) (lit< tt) e))
    ▹ (λ e. by_op w 5 32 (at_funct7 w 51 5 32 fits (lit< tt) (lit< tt) e))
    ▹ (λ e. by_op w 6 0 (at_funct7 w 51 6 0 fits (lit< tt) (lit< tt) e))
    ▹ (λ e. by_op w 7 0 (at_funct7 w 51 7 0 fits (lit< tt) (lit< tt) e))
    ▹ (λ e. by_fence w 0 (at_funct3 w 15 0 (lit< tt) e))
    ▹ (λ e. by_ecall w (at_whole w 0x0000_0073 fits e))
    ▹ (λ e. by_ebreak w (at_whole w 0x0010_0073 fits e))
    ▹ (λ e. by_fence w 1 (at_funct3 w 15 1 (lit< tt) e))
    ▹ (λ e. by_op w 0 1 (at_funct7 w 51 0 1 fits (lit< tt) (lit< tt) e))
    ▹ (λ e. by_op w 1 1 (at_funct7 w 51 1 1 fits (lit< tt) (lit< tt) e))
    ▹ (λ e. by_op w 2 1 (at_funct7 w 51 2 1 fits (lit< tt) (lit< tt) e))
    ▹ (λ e. by_op w 3 1 (at_funct7 w 51 3 1 fits (lit< tt) (lit< tt) e))
    ▹ (λ e. by_op w 4 1 (at_funct7 w 51 4 1 fits (lit< tt) (lit< tt) e))
    ▹ (λ e. by_op w 5 1 (at_funct7 w 51 5 1 fits (lit< tt) (lit< tt) e))
    ▹ (λ e. by_op w 6 1 (at_funct7 w 51 6 1 fits (lit< tt) (lit< tt) e))
    ▹ (λ e. by_op w 7 1 (at_funct7 w 51 7 1 fits (lit< tt) (lit< tt) e))
    ▹ tt
