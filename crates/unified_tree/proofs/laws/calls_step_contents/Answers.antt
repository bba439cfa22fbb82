use Rattle.unified_tree.proofs.Slots.{read_is, put_is, write_is}
use Rattle.unified_tree.proofs.laws.calls_step_contents.Goals as goal

pub returns-clause-read : goal.returns-clause-read
returns-clause-read c = read_is

pub returns-clause-put : goal.returns-clause-put
returns-clause-put c = put_is

pub returns-clause-write : goal.returns-clause-write
returns-clause-write c = write_is
