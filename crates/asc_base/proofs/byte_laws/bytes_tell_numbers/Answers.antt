use Rattle.asc_base.proofs.Bytes.{number_of_2, number_of_4, number_of_8}
use Rattle.asc_base.proofs.byte_laws.bytes_tell_numbers.Goals as goal

pub returns-clause-two : goal.returns-clause-two
returns-clause-two c = number_of_2

pub returns-clause-four : goal.returns-clause-four
returns-clause-four c = number_of_4

pub returns-clause-eight : goal.returns-clause-eight
returns-clause-eight c = number_of_8
