use Rattle.data_cache.proofs.MirrorLaws.{read_alike, write_alike, whole_alike}
use Rattle.data_cache.proofs.AccessAlike.{access-alike}
use Rattle.data_cache.proofs.laws.asks_as_its_lists.Goals as goal

pub returns-clause-read : goal.returns-clause-read
returns-clause-read c = read_alike

pub returns-clause-write : goal.returns-clause-write
returns-clause-write c = write_alike

pub returns-clause-write_line : goal.returns-clause-write_line
returns-clause-write_line c = whole_alike

pub returns-clause-access : goal.returns-clause-access
returns-clause-access c = access-alike
