use Rattle.std.proofs.Common.{arith}
use Rattle.posmap_lookaside.proofs.WalkHeld.{walk-held, after-list, after-first}
use Rattle.posmap_lookaside.proofs.walk_laws.walks_hold_by_addresses.Goals as goal

pub returns-clause-held : goal.returns-clause-held
returns-clause-held c = walk-held

pub returns-clause-list : goal.returns-clause-list
returns-clause-list c = after-list

pub returns-clause-first : goal.returns-clause-first
returns-clause-first c = after-first

pub returns-clause-start : goal.returns-clause-start
returns-clause-start c sizes = record {
  fits = omega arith;
  distinct = λ a. omega arith;
  blocks = λ a has. absurd has;
}
