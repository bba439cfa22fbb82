-- The first fault is of the first kind that the program headers have.
use Rattle.std.proofs.Common.{◌≡◌, ◌≤◌, ◌<◌, ◌+◌, ◌%◌, subst, sym, IsTrue}
use Rattle.elf_loader.proofs.Clear.{first_entry, first_overlap, judged, other_entry, right_entry}
use Rattle.elf_loader.proofs.judge.judge_segments.Goals as goal

pub returns-in-Some-find_overlap-clause-first : goal.returns-in-Some-find_overlap-clause-first
returns-in-Some-find_overlap-clause-first c =
    first_overlap c.args.base c.args.size c.args.file.now c.in-Some-find_overlap.index
    (record {
      clear = c.requires.clear;
      static = c.has_interpreter.ensures.none c.if-has_interpreter.false;
      sound = c.in_default.ensures.none;
      inside = c.in_default-find_outside.ensures.none;
    })
    c.in-Some-find_overlap.ensures.within c.in-Some-find_overlap.ensures.found c.in-Some-find_overlap.ensures.least

pub returns-then-not-is_entry-clause-first : goal.returns-then-not-is_entry-clause-first
returns-then-not-is_entry-clause-first c =
    first_entry c.args.base c.args.size c.args.file.now
    (record {
      clear = c.requires.clear;
      static = c.has_interpreter.ensures.none c.if-has_interpreter.false;
      sound = c.in_default.ensures.none;
      inside = c.in_default-find_outside.ensures.none;
    })
    c.in_default-find_overlap.ensures.none
    (other_entry c.args.base c.args.size c.args.file.now (λ right. (let inside : IsTrue c.is_entry.result =
    c.is_entry.ensures.1
    (subst (λ n. (n % 4 ≡ 0) × (c.args.base ≤ n) × (n < c.args.base + c.args.size)) (sym c.entry.ensures) right) in
    let no : ⊥ = cc in
    no)))

pub returns-clause-faultless : goal.returns-clause-faultless
returns-clause-faultless c =
    judged c.args.base c.args.size c.args.file.now
    (record {
      clear = c.requires.clear;
      static = c.has_interpreter.ensures.none c.if-has_interpreter.false;
      sound = c.in_default.ensures.none;
      inside = c.in_default-find_outside.ensures.none;
    })
    c.in_default-find_overlap.ensures.none
    (right_entry c.args.base c.args.size c.args.file.now
    (subst (λ n. (n % 4 ≡ 0) × (c.args.base ≤ n) × (n < c.args.base + c.args.size)) c.entry.ensures
    (c.is_entry.ensures.0 c.if-not-is_entry.false)))
