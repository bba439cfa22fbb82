use Rattle.hmac_sha.proofs.Codes.{length-hmac, bytes-hmac, length-derive, bytes-derive}
use Rattle.hmac_sha.proofs.laws.codes_have_32_bytes.Goals as goal

pub returns-clause-code : goal.returns-clause-code
returns-clause-code c = length-hmac

pub returns-clause-code_bytes : goal.returns-clause-code_bytes
returns-clause-code_bytes c = bytes-hmac

pub returns-clause-derived : goal.returns-clause-derived
returns-clause-derived c = length-derive

pub returns-clause-derived_bytes : goal.returns-clause-derived_bytes
returns-clause-derived_bytes c = bytes-derive
