use Rattle.std.proofs.Common.{◌%◌, ◌∙◌, ap, arith}
use Rattle.std.proofs.lemmas.Result.{err_from_is_err_and}
use Rattle.data_cache.proofs.SetLaws.{below_at, below_set, below_written, write_ends, write_stops}
use Rattle.data_cache.proofs.cache.Cache.write.Goals as goal

pub bring-requires-clause-lines : goal.bring-requires-clause-lines
bring-requires-clause-lines g c =
    rw c.index_mut-set.ensures.value (below_at (λ v. v.items) _ c.self.inside.sets.items c.set_index-index.result _
    (rw (← c.self.view_is) at c.requires.lines)
    (omega (arith, c.self.inside.sets.ok.0, c.set_index-index.ensures.inside)))

pub returns-in_err-bring-clause-err : goal.returns-in_err-bring-clause-err
returns-in_err-bring-clause-err g c =
    let p = err_from_is_err_and c.from_residual.result c.from_residual.ensures.1 in
    rw (p.1, p.2) (rw (← c.self.view_is) (write_stops g.S.LineStore.step (λ v. v.items) _ _ c.self.inside.sets.items
    c.set_index-index.result _ c.bring.new.set (c.set_index-index.ensures.set
    ∙ ap (λ z. c.args.line % z) c.self.inside.sets.ok.0)
    (omega (arith, c.self.inside.sets.ok.0, c.set_index-index.ensures.inside)) c.args.offset c.args.bytes.now _ _ _
    (rw c.index_mut-set.ensures.value at c.in_err-bring.ensures.err)))

pub returns-clause-ok : goal.returns-clause-ok
returns-clause-ok g c =
    rw (← c.self.view_is) (write_ends g.S.LineStore.step (λ v. v.items) _ _ c.self.inside.sets.items
    c.set_index-index.result _ c.write_first.new.set (c.set_index-index.ensures.set
    ∙ ap (λ z. c.args.line % z) c.self.inside.sets.ok.0)
    (omega (arith, c.self.inside.sets.ok.0, c.set_index-index.ensures.inside)) c.args.offset c.args.bytes.now _ _ _
    (rw c.index_mut-set.ensures.value at c.in_ok-bring.ensures.ok) c.write_first.ensures.items)

pub returns-in_err-bring-clause-below : goal.returns-in_err-bring-clause-below
returns-in_err-bring-clause-below g c =
    rw c.in_err-bring.ensures.same (below_set (λ v. v.items)
    (g.S.LineStore.lines c.args.store.now) c.self.inside.sets.items
    c.set_index-index.result c.bring.new.set (rw
    (← c.self.view_is) at c.requires.lines) c.in_err-bring.ensures.below)

pub returns-clause-below : goal.returns-clause-below
returns-clause-below g c =
    rw c.in_ok-bring.ensures.same (below_set (λ v. v.items)
    (g.S.LineStore.lines c.args.store.now) c.self.inside.sets.items
    c.set_index-index.result c.write_first.new.set (rw (← c.self.view_is) at c.requires.lines)
    (rw c.write_first.ensures.items (below_written (g.S.LineStore.lines c.args.store.now) c.args.offset c.args.bytes.now
    c.bring.new.set.items c.in_ok-bring.ensures.below)))
