use Rattle.std.proofs.Common.{◌+◌, ◌++◌, Some, position, take, drop, get_or, sym, ap, subst, ◌∙◌}
use Rattle.oram_stash.specs.Entries.{is_of, AreApart}
use Rattle.oram_stash.proofs.Apart.{AreApart-without}
use Rattle.oram_stash.proofs.Held.{held-place, without-place, held-absent, without-none}
use Rattle.oram_stash.proofs.Stash.take.Goals as goal

pub returns-in_err-place-clause-taken : goal.returns-in_err-place-clause-taken
returns-in_err-place-clause-taken c =
    let same = c.deref.ensures.value ∙ ap (λ s. s.entries) c.self.view_is in
    let at = sym (c.place_of.ensures ∙ ap (position (is_of c.args.address)) same) ∙ c.in_err-place.was in
    c.from_residual.ensures ∙ sym (held-absent c.args.address c.args.self.now.entries at)

pub returns-in_err-place-clause-others : goal.returns-in_err-place-clause-others
returns-in_err-place-clause-others c =
    let same = c.deref.ensures.value ∙ ap (λ s. s.entries) c.self.view_is in
    let at = sym (c.place_of.ensures ∙ ap (position (is_of c.args.address)) same) ∙ c.in_err-place.was in
    sym (without-none c.args.self.now.entries c.args.address (held-absent c.args.address c.args.self.now.entries at))

pub returns-clause-taken : goal.returns-clause-taken
returns-clause-taken c =
    let seen = ap (λ s. s.entries) c.self.view_is in
    let same = c.deref.ensures.value ∙ seen in
    let at = sym (c.place_of.ensures ∙ ap (position (is_of c.args.address)) same) ∙ c.in_ok-place.was in
    ap Some (c.remove.ensures.value ∙ ap (λ entries. get_or entries c.in_ok-place.place c.remove.result) seen)
    ∙ sym (held-place c.args.address c.args.self.now.entries c.in_ok-place.place c.remove.result at)

pub returns-clause-others : goal.returns-clause-others
returns-clause-others c =
    let seen = ap (λ s. s.entries) c.self.view_is in
    let same = c.deref.ensures.value ∙ seen in
    let at = sym (c.place_of.ensures ∙ ap (position (is_of c.args.address)) same) ∙ c.in_ok-place.was in
    c.remove.ensures.by_index.2
    ∙ ap (λ entries. take c.in_ok-place.place entries ++ drop (c.in_ok-place.place + 1) entries) seen
    ∙ sym (without-place c.args.address c.args.self.now.entries c.in_ok-place.place at)

pub invariant_of-self : goal.invariant_of-self
invariant_of-self c =
    let entries = c.self.inside.entries.items in
    let at = sym (c.place_of.ensures ∙ ap (position (is_of c.args.address)) c.deref.ensures.value)
    ∙ c.in_ok-place.was in
    subst (λ l. AreApart l)
    (sym (c.remove.ensures.by_index.2 ∙ sym (without-place c.args.address entries c.in_ok-place.place at)))
    (AreApart-without entries c.args.address c.self.invariant)

pub returns-clause-apart : goal.returns-clause-apart
returns-clause-apart c =
    let entries = c.self.inside.entries.items in
    let at = sym (c.place_of.ensures ∙ ap (position (is_of c.args.address)) c.deref.ensures.value)
    ∙ c.in_ok-place.was in
    subst (λ l. AreApart l)
    (sym (c.remove.ensures.by_index.2 ∙ sym (without-place c.args.address entries c.in_ok-place.place at)))
    (AreApart-without entries c.args.address c.self.invariant)
