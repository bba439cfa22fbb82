use Rattle.std.proofs.Common.{is_none, sym, subst}
use Rattle.oram_stash.specs.Entries.{AreApart}
use Rattle.oram_stash.proofs.Apart.{AreApart-where_placed}
use Rattle.oram_stash.proofs.Stash.keep_unplaced.Goals as goal

pub invariant_of-self : goal.invariant_of-self
invariant_of-self c =
    subst (λ l. AreApart l) (sym c.keep_unplaced.ensures.items)
    (AreApart-where_placed is_none c.args.places.now c.self.inside.entries.items c.self.invariant)

pub returns-clause-apart : goal.returns-clause-apart
returns-clause-apart c =
    subst (λ l. AreApart l) (sym c.keep_unplaced.ensures.items)
    (AreApart-where_placed is_none c.args.places.now c.self.inside.entries.items c.self.invariant)
