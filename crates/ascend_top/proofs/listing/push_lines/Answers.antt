use Rattle.std.proofs.Common.{◌≡◌, ◌∙◌, ◌++◌, ◌+◌, ◌-◌, ◌≤◌, List, ℕ, length, drop, length-drop, ap, arith}
use Rattle.std.proofs.lemmas.List.{take_rest}
use Rattle.ascend_top.specs.Disasm.{lines_of}
use Rattle.ascend_top.proofs.ListingLaws.{lines_step}
use Rattle.ascend_top.proofs.listing.push_lines.Goals as goal

within_step : (address total : ℕ) (rest : List ℕ) → 4 ≤ length rest → address + length rest ≤ total
    → address + 4 + length (drop 4 rest) ≤ total
within_step address total rest long within =
    let less : length (drop 4 rest) ≡ length rest - 4 = length-drop 4 rest in omega arith

pub loop-rest-preserved : goal.loop-rest-preserved
loop-rest-preserved c =
    let rest : List ℕ = c.loop-rest.rest.now in
    let long : 4 ≤ length rest = omega arith in
    record {
      all = ap (λ r. c.push_line.new.into.items ++ lines_of (c.loop-rest.address + 4) r) (take_rest rest 4)
          ∙ lines_step c.loop-rest.address c.from_le_bytes-word.result rest c.loop-rest.into.items
          c.push_line.new.into.items _ long c.from_le_bytes-word.ensures c.in_ok-push_line.ensures
          c.loop-rest.invariant.all;
      within = rw (take_rest rest 4) (within_step c.loop-rest.address _ rest long c.loop-rest.invariant.within);
    }
