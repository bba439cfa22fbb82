use Rattle.posmap_lookaside.proofs.AddressLaws.{is_some-held_at, addresses_of-promoted, addresses_of-changed}
use Rattle.posmap_lookaside.proofs.AddressLaws.{addresses_of-inserted, addresses_of-displaced}
use Rattle.posmap_lookaside.proofs.laws.addresses_follow.Goals as goal

pub returns-clause-held : goal.returns-clause-held
returns-clause-held c = is_some-held_at

pub returns-clause-promoted : goal.returns-clause-promoted
returns-clause-promoted c = addresses_of-promoted

pub returns-clause-changed : goal.returns-clause-changed
returns-clause-changed c = addresses_of-changed

pub returns-clause-inserted : goal.returns-clause-inserted
returns-clause-inserted c = addresses_of-inserted

pub returns-clause-displaced : goal.returns-clause-displaced
returns-clause-displaced c = addresses_of-displaced
