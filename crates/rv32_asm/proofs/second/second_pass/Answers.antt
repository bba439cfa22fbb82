use Rattle.std.proofs.Common.{◌≡◌, ◌∙◌, ◌+◌, ◌≤◌, ℕ, List, length, [], ap, sym, subst, arith, Ok, ◌∷◌}
use Rattle.std.specs.Prelude.{Result, Some}
use Rattle.rv32_asm.specs.declared.fault.AsmKind.{AsmKind}
use Rattle.std.proofs.lemmas.Grind.{common_steps}
use Rattle.rv32_asm.specs.Lines.{lines_of}
use Rattle.rv32_asm.specs.LineViews.{lines_from}
use Rattle.rv32_asm.specs.Passes.{Labels, valued, first_pass, second_pass}
use Rattle.rv32_asm.specs.PassViews.{labels_of, measure_of, behind_bytes, left_of}
use Rattle.rv32_asm.proofs.SizeLaws.{track_more, second_more, second_stop, gives_stop, left_less, IsStepped}
use Rattle.rv32_asm.proofs.second.second_pass.Goals as goal

pub loop-rest-init : goal.loop-rest-init
loop-rest-init c =
    let P : List ℕ → Type 0 =
    λ items. first_pass c.args.at 1 (lines_of c.args.text.now) (measure_of [] (length items))
    ≡ Ok (measure_of (labels_of c.args.labels.now) c.args.count) in
    let none : length c.new-into.result.items ≡ 0 = ap length c.new-into.ensures.items in
    record {
      passes = ap (second_pass c.args.at 1 (lines_of c.args.text.now) (labels_of c.args.labels.now))
          c.new-into.ensures.items;
      track = record {
        defined = [];
        ends = labels_of c.args.labels.now;
        passes = subst P (sym c.new-into.ensures.items) c.requires.measured;
      };
      within = omega (arith, none, c.requires.place);
      lines = omega arith;
    }

pub returns-in-Err-clause-value : goal.returns-in-Err-clause-value
returns-in-Err-clause-value c =
    let long : c.len.result ≡ length c.loop-rest.into.items = grind (arith, common_steps) in
    let labels : Labels = labels_of c.args.labels.now in
    let split : lines_from c.loop-rest.rest ≡ c.split_line.result.0.now ∷ lines_from c.split_line.result.1 =
    ap lines_from c.in-Some.is ∙ c.split_line.ensures.lines in
    let at_place : ℕ → Result (List ℕ) AsmKind =
    λ n. behind_bytes c.loop-rest.into.items (valued (c.args.at + n) c.split_line.result.0.now labels) in
    gives_stop c.in-Err.problem c.loop-rest.line (at_place c.len.result) _ c.in_line.result c.in_line.ensures
    c.in-Err.ensures
    (λ wrong is. sym c.loop-rest.invariant.passes
    ∙ second_stop c.args.at c.loop-rest.line c.split_line.result.0.now (lines_from c.split_line.result.1) labels
    c.loop-rest.into.items (lines_from c.loop-rest.rest) wrong split (ap at_place (sym long) ∙ is))

pub loop-rest-preserved : goal.loop-rest-preserved
loop-rest-preserved c =
    let long : c.len.result ≡ length c.loop-rest.into.items = grind (arith, common_steps) in
    let labels : Labels = labels_of c.args.labels.now in
    let split : lines_from c.loop-rest.rest ≡ c.split_line.result.0.now ∷ lines_from c.split_line.result.1 =
    ap lines_from c.in-Some.is ∙ c.split_line.ensures.lines in
    let at_place : ℕ → Result (List ℕ) AsmKind =
    λ n. behind_bytes c.loop-rest.into.items (valued (c.args.at + n) c.split_line.result.0.now labels) in
    let values : at_place (length c.loop-rest.into.items) ≡ Ok c.push_line.new.into.items =
    ap at_place (sym long) ∙ c.in-Ok.ensures in
    let step : IsStepped c.args.at c.loop-rest.line (lines_from c.split_line.result.1)
    c.push_line.new.into.items c.args.count =
    track_more c.args.at c.loop-rest.line c.split_line.result.0.now (lines_from c.split_line.result.1) labels
    c.loop-rest.into.items (lines_from c.loop-rest.rest) c.args.count c.push_line.new.into.items
    c.loop-rest.invariant.track split values in
    let left : left_of c.loop-rest.rest ≡ left_of (Some c.in-Some.text) = ap left_of c.in-Some.is in
    let less : left_of c.split_line.result.1 ≤ length c.in-Some.text.now =
    left_less c.split_line.result.1 (length c.in-Some.text.now) c.split_line.ensures.shorter in
    record {
      passes = sym (second_more c.args.at c.loop-rest.line c.split_line.result.0.now (lines_from c.split_line.result.1)
          labels c.loop-rest.into.items (lines_from c.loop-rest.rest) c.push_line.new.into.items split values)
          ∙ c.loop-rest.invariant.passes;
      track = step.track;
      within = step.within;
      lines = omega (arith, left, less, c.loop-rest.invariant.lines);
    }
