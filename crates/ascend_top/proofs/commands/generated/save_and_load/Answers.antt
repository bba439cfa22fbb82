use Rattle.ascend_words.specs.Settings.{settings_of, text_in}
use Rattle.ascend_words.specs.declared.table.Name.TheVariants.{Save}
use Rattle.ascend_top.specs.Gen.{gen_file}
use Rattle.ascend_top.proofs.GenLaws.{made_done, made_refused}
use Rattle.ascend_top.proofs.commands.generated.save_and_load.Goals as goal

pub returns-in-Ok-load-clause-done : goal.returns-in-Ok-load-clause-done
returns-in-Ok-load-clause-done g c =
    let given = c.args.words.now.given in
    let mid = g.H.Host.state c.write_where_named.new.host in
    made_done (text_in given Save) c.args.file.now (gen_file given) c.args.config.now.base (settings_of given).base
    c.args.config.now.size (settings_of given).size (g.H.Host.state c.args.host.now) mid c.requires.file
    c.requires.config.base c.requires.config.size c.in-Ok.ensures.done (c.in-Ok-load.ensures.loaded mid)

pub returns-in-Err-load-clause-refused : goal.returns-in-Err-load-clause-refused
returns-in-Err-load-clause-refused g c =
    let given = c.args.words.now.given in
    let mid = g.H.Host.state c.write_where_named.new.host in
    made_refused (text_in given Save) c.args.file.now (gen_file given) c.args.config.now.base (settings_of given).base
    c.args.config.now.size (settings_of given).size (g.H.Host.state c.args.host.now) mid c.requires.file
    c.requires.config.base c.requires.config.size c.in-Ok.ensures.done c.in-Err-load.refusal
    (c.in-Err-load.ensures.refused mid)
