use Rattle.std.proofs.Common.{ℕ, List, [], ◌∷◌, ◌++◌, ◌∙◌, ap}
use Rattle.std.proofs.lemmas.Result.{on_ok_weaker}
use Rattle.rv32_asm.specs.Disassembly.{text_of}
use Rattle.ascend_top.specs.Disasm.{column}
use Rattle.ascend_top.proofs.ListingLaws.{appended}
use Rattle.ascend_top.proofs.listing.push_line.Goals as goal

pub returns : goal.returns
returns c =
    let lines : ℕ → List ℕ = λ word.
    c.args.into.now.items ++ (column c.args.address ++ (column word ++ (text_of c.args.word ++ (10 ∷ [])))) in
    on_ok_weaker c.push.result
    (λ last. appended c.args.into.now.items (column c.args.address) (column c.from.result)
    (text_of c.args.word) (10 ∷ [])
    c.push_column.new.into.items c.push_column-2.new.into.items c.disassemble.new.into.items c.push.new.into.items
    c.in_ok-push_column.ensures c.in_ok-push_column-2.ensures c.in_ok-disassemble.ensures.ok last
    ∙ ap lines c.from.ensures)
    c.push.ensures
