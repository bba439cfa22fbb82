-- In a readable file the headers can be read, and so can the parts of its segments.
use Rattle.std.proofs.Common.{rules, ◌+◌, ◌≤◌, length, arith, sym, subst}
use Rattle.elf_loader.specs.Faults.{IsLoad}
use Rattle.elf_loader.proofs.Clear.{readable_table, readable_within}
use Rattle.elf_loader.proofs.part.Goals as goal

pub nth-header-requires-clause-table : goal.nth-header-requires-clause-table
nth-header-requires-clause-table c = readable_table c.args.file.now c.requires

pub part-requires : goal.part-requires
part-requires c =
    let load : IsLoad c.nth-header.result = search rules in
    subst (λ h. h.offset + h.file_size ≤ length c.args.file.now) (sym c.nth-header.ensures)
    (readable_within c.args.file.now c.args.index c.requires (omega arith) (subst IsLoad c.nth-header.ensures load))
