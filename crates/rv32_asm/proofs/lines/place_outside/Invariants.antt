use Rattle.std.proofs.Common.{◌≡◌, ◌+◌, drop}
use Rattle.rv32_asm.specs.Lines.{place_outside}
use Rattle.rv32_asm.specs.declared.lines.Quote.TheVariants.{Outside}
use Rattle.rv32_asm.proofs.lines.place_outside.Given as goal

abbrev pub invariant-loop-place : goal.invariant-loop-place
invariant-loop-place l =
    l.place + place_outside l.stop l.quote (drop l.place l.line) ≡ place_outside l.stop Outside l.line
