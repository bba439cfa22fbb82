-- The parts of the headers so far are in their places.
use Rattle.elf_loader.proofs.Laid.{IsLaidOutTo}
use Rattle.elf_loader.proofs.image.place_parts.Given as goal

abbrev pub invariant-loop-index : goal.invariant-loop-index
invariant-loop-index l = IsLaidOutTo l.base l.size l.file l.index l.bytes
