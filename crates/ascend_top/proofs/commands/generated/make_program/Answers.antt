use Rattle.ascend_words.specs.Settings.{settings_of, text_in}
use Rattle.ascend_words.specs.declared.table.Name.TheVariants.{Save}
use Rattle.ascend_top.specs.Gen.{gen_file}
use Rattle.ascend_top.proofs.StepLaws.{made_lost}
use Rattle.ascend_top.proofs.commands.generated.make_program.Goals as goal

pub returns-in-Err-clause-refused : goal.returns-in-Err-clause-refused
returns-in-Err-clause-refused g c =
    let given = c.args.words.now.given in
    made_lost (text_in given Save) (gen_file given) (gen_file given) (settings_of given).base (settings_of given).size
    (g.H.Host.state c.args.host.now)
