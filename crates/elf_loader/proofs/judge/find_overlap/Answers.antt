-- The segment of this index is the next that overlaps none of lower index.
use Rattle.std.proofs.Common.{◌≡◌, inl, inr, arith, subst}
use Rattle.std.proofs.lemmas.Bool.{cases_lt}
use Rattle.elf_loader.specs.Faults.{OverlapsLower}
use Rattle.elf_loader.proofs.judge.find_overlap.Goals as goal

pub loop-index-preserved : goal.loop-index-preserved
loop-index-preserved c = λ k before overlaps. elim (cases_lt k c.loop-index.index) [
  | inl lower ↦ c.loop-index.invariant k lower overlaps
  | inr not ↦
      let same : k ≡ c.loop-index.index = omega arith in
      c.overlaps_lower.ensures.none c.if-overlaps_lower.false
      (subst (λ j. OverlapsLower c.args.file.now j) same overlaps)
]

pub returns-clause-none : goal.returns-clause-none
returns-clause-none c = λ k below. c.loop-index.invariant k (omega arith)
