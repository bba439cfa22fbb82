use Rattle.std.proofs.Common.{refl, ◌%◌, length, ◌∙◌, ap, arith}
use Rattle.std.proofs.lemmas.Result.{err_from_is_err_and}
use Rattle.data_cache.specs.Contents.{first_bytes}
use Rattle.rv32_core.specs.Access.{slice_of}
use Rattle.data_cache.proofs.SetLaws.{below_at, below_set, read_ends, read_stops}
use Rattle.data_cache.proofs.cache.Cache.read.Goals as goal

pub bring-requires-clause-lines : goal.bring-requires-clause-lines
bring-requires-clause-lines g c =
    rw c.index_mut-set.ensures.value (below_at (λ v. v.items) _ c.self.inside.sets.items c.set_index-index.result _
    (rw (← c.self.view_is) at c.requires.lines)
    (omega (arith, c.self.inside.sets.ok.0, c.set_index-index.ensures.inside)))

pub returns-in_err-bring-clause-err : goal.returns-in_err-bring-clause-err
returns-in_err-bring-clause-err g c =
    let p = err_from_is_err_and c.from_residual.result c.from_residual.ensures.1 in
    rw (p.1, p.2) (rw (← c.self.view_is) (read_stops g.S.LineStore.step (λ v. v.items) _ _ c.self.inside.sets.items
    c.set_index-index.result _ c.bring.new.set (c.set_index-index.ensures.set
    ∙ ap (λ z. c.args.line % z) c.self.inside.sets.ok.0)
    (omega (arith, c.self.inside.sets.ok.0, c.set_index-index.ensures.inside)) _ _ _ _ _
    (rw c.index_mut-set.ensures.value at c.in_err-bring.ensures.err)))

pub returns-clause-ok : goal.returns-clause-ok
returns-clause-ok g c =
    rw (← c.self.view_is) (read_ends g.S.LineStore.step (λ v. v.items) _ _ c.self.inside.sets.items
    c.set_index-index.result _ c.bring.new.set (c.set_index-index.ensures.set
    ∙ ap (λ z. c.args.line % z) c.self.inside.sets.ok.0)
    (omega (arith, c.self.inside.sets.ok.0, c.set_index-index.ensures.inside)) c.args.offset _ _ _ _ _
    (rw c.index_mut-set.ensures.value at c.in_ok-bring.ensures.ok) refl
    (c.read_first.ensures
    ∙ ap (λ s. slice_of (first_bytes s) c.args.offset (length c.args.into.now)) c.deref.ensures.value))

pub returns-in_err-bring-clause-below : goal.returns-in_err-bring-clause-below
returns-in_err-bring-clause-below g c =
    rw c.in_err-bring.ensures.same (below_set (λ v. v.items)
    (g.S.LineStore.lines c.args.store.now) c.self.inside.sets.items
    c.set_index-index.result c.bring.new.set (rw
    (← c.self.view_is) at c.requires.lines) c.in_err-bring.ensures.below)

pub returns-clause-below : goal.returns-clause-below
returns-clause-below g c =
    rw c.in_ok-bring.ensures.same (below_set (λ v. v.items)
    (g.S.LineStore.lines c.args.store.now) c.self.inside.sets.items
    c.set_index-index.result c.bring.new.set (rw
    (← c.self.view_is) at c.requires.lines) c.in_ok-bring.ensures.below)
