use Rattle.std.proofs.Common.{sym, ◌∙◌}
use Rattle.asc_base.proofs.Lookups.{is_some-find}
use Rattle.posmap_lookaside.specs.Held.{is_of}
use Rattle.posmap_lookaside.proofs.lookaside.is_there.Goals as goal

pub returns : goal.returns
returns c =
    c.is_some.ensures ∙ sym (is_some-find (is_of c.args.address) c.args.list.now c.place_of.result c.place_of.ensures)
