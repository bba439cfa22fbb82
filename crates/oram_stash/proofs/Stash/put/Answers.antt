use Rattle.std.proofs.Common.{position, refl, sym, ap, subst, ◌∙◌}
use Rattle.oram_stash.specs.Entries.{is_of, AreApart}
use Rattle.oram_stash.proofs.Apart.{AreApart-append}
use Rattle.oram_stash.proofs.Held.{is_some-held, held-no_place}
use Rattle.oram_stash.proofs.Stash.put.Goals as goal

pub returns-then-is_some-clause-refused : goal.returns-then-is_some-clause-refused
returns-then-is_some-clause-refused c =
    let same = c.deref.ensures.value ∙ ap (λ s. s.entries) c.self.view_is in
    let held_there = is_some-held c.args.entry.address c.args.self.now.entries c.place_of.result
    (c.place_of.ensures ∙ ap (position (is_of c.args.entry.address)) same) in
    (λ _. held_there ∙ sym c.if-is_some.ensures, λ _. refl)

pub returns-clause-refused : goal.returns-clause-refused
returns-clause-refused c =
    let same = c.deref.ensures.value ∙ ap (λ s. s.entries) c.self.view_is in
    let held_there = is_some-held c.args.entry.address c.args.self.now.entries c.place_of.result
    (c.place_of.ensures ∙ ap (position (is_of c.args.entry.address)) same) in
    (λ f. held_there ∙ sym c.if-is_some.ensures ∙ f, λ is. c.if-is_some.ensures ∙ sym held_there ∙ is)

pub invariant_of-self : goal.invariant_of-self
invariant_of-self c =
    let none = held-no_place c.args.entry.address c.self.inside.entries.items c.place_of.result
    (c.place_of.ensures ∙ ap (position (is_of c.args.entry.address)) c.deref.ensures.value)
    (sym c.if-is_some.ensures) in
    subst (λ l. AreApart l) (sym c.in-Ok.ensures.items)
    (AreApart-append c.self.inside.entries.items c.args.entry c.self.invariant none)

pub returns-clause-apart : goal.returns-clause-apart
returns-clause-apart c =
    let none = held-no_place c.args.entry.address c.self.inside.entries.items c.place_of.result
    (c.place_of.ensures ∙ ap (position (is_of c.args.entry.address)) c.deref.ensures.value)
    (sym c.if-is_some.ensures) in
    subst (λ l. AreApart l) (sym c.in-Ok.ensures.items)
    (AreApart-append c.self.inside.entries.items c.args.entry c.self.invariant none)
