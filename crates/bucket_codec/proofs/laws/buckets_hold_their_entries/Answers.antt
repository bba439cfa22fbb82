use Rattle.bucket_codec.proofs.Opened.{opened_holds, sealed_holds, held_typed, held_range}
use Rattle.bucket_codec.proofs.laws.buckets_hold_their_entries.Goals as goal

pub returns-clause-opened : goal.returns-clause-opened
returns-clause-opened c = opened_holds

pub returns-clause-sealed : goal.returns-clause-sealed
returns-clause-sealed c = sealed_holds

pub returns-clause-typed : goal.returns-clause-typed
returns-clause-typed c = held_typed

pub returns-clause-range : goal.returns-clause-range
returns-clause-range c = held_range

pub returns-clause-unwritten : goal.returns-clause-unwritten
returns-clause-unwritten c key shape bytes entry none h = h.written none
