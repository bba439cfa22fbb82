use Rattle.asc_base.proofs.Bytes.{byte_of, bytes_at}
use Rattle.asc_base.proofs.byte_laws.bytes_by_place.Goals as goal

pub returns-clause-each : goal.returns-clause-each
returns-clause-each c bytes all i = byte_of bytes i all

pub returns-clause-all : goal.returns-clause-all
returns-clause-all c = bytes_at
