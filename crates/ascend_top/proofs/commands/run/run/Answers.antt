use Rattle.ascend_words.specs.declared.table.Command.TheVariants.{Run}
use Rattle.ascend_top.specs.Lent.{lent_as}
use Rattle.ascend_top.proofs.RunLaws.{begun_ends}
use Rattle.ascend_top.proofs.commands.run.run.Goals as goal

pub returns-in-Ok : goal.returns-in-Ok
returns-in-Ok g c =
    let lent = lent_as (g.M.UntrustedMemory.state c.args.memory.now)
    (g.M.UntrustedMemory.state c.run_and_report.new.memory) c.args.tap.now c.run_and_report.new.tap in
    begun_ends Run c.args.words.now.given lent c.in-Ok.begin (g.H.Host.state c.args.host.now)
    (g.H.Host.state c.prepare.new.host) (g.H.Host.state c.run_and_report.new.host) (λ run is. is) (λ wants. wants)
    c.in-Ok.ensures.done c.in-Ok.ensures.begin c.run_and_report.result c.run_and_report.ensures
