use Rattle.std.proofs.Common.{◌≡◌, sym, subst}
use Rattle.ascend_words.specs.Settings.{text_in}
use Rattle.ascend_words.specs.declared.table.Name.TheVariants.{Input}
use Rattle.ascend_top.specs.FlatRun.{bytes_in, input_in}
use Rattle.ascend_top.specs.Parts.{IsImageOf, IsProgramOf}
use Rattle.ascend_top.specs.Steps.{Shows}
use Rattle.ascend_top.specs.declared.commands.flat.Program.{Program}
use Rattle.ascend_top.proofs.EndLaws.{input_files}
use Rattle.ascend_top.proofs.Shown.{shows_more}
use Rattle.ascend_top.proofs.commands.flat.read_program.Goals as goal

pub returns-clause-told : goal.returns-clause-told
returns-clause-told g c =
    let given = c.args.words.now.given in
    let config = c.args.config.now in
    let program : Program = record {
      config = config;
      image = c.in-Ok.image;
      input = c.in-Ok-read_input.input;
    } in
    let now = (g.H.Host.state c.read_input.new.host).files in
    let same = sym (input_files (text_in given Input) (g.H.Host.state c.read_elf.new.host)
    (g.H.Host.state c.read_input.new.host) c.in-Ok-read_input.ensures.done) in
    let image = subst (λ told. Shows told (λ files. IsImageOf config.base config.size
    (bytes_in files c.file_of-elf.result.now) c.in-Ok.image)) same c.in-Ok.ensures.image in
    shows_more now (λ files. IsImageOf config.base config.size (bytes_in files c.file_of-elf.result.now) c.in-Ok.image)
    (λ files. Shows now (λ later. IsProgramOf given files later program))
    (λ files is. shows_more now (λ later. c.in-Ok-read_input.input.items ≡ input_in later given)
    (λ later. IsProgramOf given files later program)
    (λ later input. record {
      image = subst (λ name. IsImageOf config.base config.size (bytes_in files name) c.in-Ok.image)
          c.file_of-elf.ensures is;
      input = input;
    }) c.in-Ok-read_input.ensures.input) image
