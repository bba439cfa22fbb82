use Rattle.ascend_top.proofs.StepLaws.{elf_faulty, read_done}
use Rattle.ascend_top.specs.declared.refusal.Source.TheVariants.{Elf as ElfFile}
use Rattle.elf_loader.specs.Faults.{IsFaultless, IsFirstFault}
use Rattle.std.proofs.Common.{rules, subst}
use Rattle.ascend_top.specs.Steps.{AnElf}
use Rattle.ascend_top.proofs.steps.read_elf.Goals as goal

pub returns-in-Err-clause-refused : goal.returns-in-Err-clause-refused
returns-in-Err-clause-refused g c = c.in-Err.ensures.refused (AnElf c.args.base c.args.size)

pub returns-in-Ok-parse-clause-read : goal.returns-in-Ok-parse-clause-read
returns-in-Ok-parse-clause-read g c =
    read_done ElfFile c.args.name.now c.in-Ok.file.items (AnElf c.args.base c.args.size)
    (g.H.Host.state c.args.host.now) (g.H.Host.state c.read_file.new.host) c.in-Ok.ensures.read
    (subst (λ bytes. IsFaultless c.args.base c.args.size bytes) c.as_slice.ensures.value
    c.in-Ok-parse.ensures.faultless)

pub returns : goal.returns
returns g c = record {
  memory = tt;
  image = tt;
  read = tt;
  refused = elf_faulty ElfFile c.args.name.now c.in-Ok.file.items (AnElf c.args.base c.args.size)
      (g.H.Host.state c.args.host.now) (g.H.Host.state c.read_file.new.host) c.in-Ok.ensures.read
      c.in-Err-parse.fault
      (subst (λ bytes. IsFirstFault c.args.base c.args.size bytes c.in-Err-parse.fault) c.as_slice.ensures.value
      (c.in-Err-parse.ensures.first (λ e. search rules)));
}
