use Rattle.std.proofs.Common.{◌≡◌, Ok}
use Rattle.std.proofs.lemmas.Result.{IfOk-weaker}
use Rattle.rv32_asm.specs.File.{assembled}
use Rattle.rv32_asm.specs.Generator.{generated_text, start}
use Rattle.ascend_top.specs.Gen.{gen_file}
use Rattle.ascend_top.proofs.GenLaws.{made_file}
use Rattle.ascend_top.proofs.commands.generated.make_file.Goals as goal

pub returns : goal.returns
returns c =
    let given = c.args.words.now.given in
    IfOk-weaker c.generate.result (λ file. assembled start (generated_text c.args.seed c.args.count) ≡ Ok file.items)
    (λ file. file.items ≡ gen_file given)
    (λ file made. made_file given c.args.seed c.args.count file.items c.requires.seed c.requires.count made)
    c.generate.ensures
