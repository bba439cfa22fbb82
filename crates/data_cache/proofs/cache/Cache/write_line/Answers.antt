use Rattle.std.proofs.Common.{◌%◌, ◌∙◌, ap, arith}
use Rattle.std.proofs.lemmas.Result.{err_from_is_err_and}
use Rattle.data_cache.proofs.SetLaws.{below_at, below_set, whole_ends, whole_stops}
use Rattle.data_cache.proofs.cache.Cache.write_line.Goals as goal

pub put_whole-requires-clause-lines : goal.put_whole-requires-clause-lines
put_whole-requires-clause-lines g c =
    rw c.index_mut-set.ensures.value (below_at (λ v. v.items) _ c.self.inside.sets.items c.set_index-index.result _
    (rw (← c.self.view_is) at c.requires.lines)
    (omega (arith, c.self.inside.sets.ok.0, c.set_index-index.ensures.inside)))

pub returns-in_err-put_whole-clause-err : goal.returns-in_err-put_whole-clause-err
returns-in_err-put_whole-clause-err g c =
    let p = err_from_is_err_and c.from_residual.result c.from_residual.ensures.1 in
    rw (p.1, p.2) (rw (← c.self.view_is) (whole_stops g.S.LineStore.step (λ v. v.items) _ _ c.self.inside.sets.items
    c.set_index-index.result _ c.put_whole.new.set (c.set_index-index.ensures.set
    ∙ ap (λ z. c.args.line % z) c.self.inside.sets.ok.0)
    (omega (arith, c.self.inside.sets.ok.0, c.set_index-index.ensures.inside)) c.args.value.now _ _ _
    (rw c.index_mut-set.ensures.value at c.in_err-put_whole.ensures.err)))

pub returns-clause-ok : goal.returns-clause-ok
returns-clause-ok g c =
    rw (← c.self.view_is) (whole_ends g.S.LineStore.step (λ v. v.items) _ _ c.self.inside.sets.items
    c.set_index-index.result _ c.put_whole.new.set (c.set_index-index.ensures.set
    ∙ ap (λ z. c.args.line % z) c.self.inside.sets.ok.0)
    (omega (arith, c.self.inside.sets.ok.0, c.set_index-index.ensures.inside)) c.args.value.now _ _
    (rw c.index_mut-set.ensures.value at c.in_ok-put_whole.ensures.ok))

pub returns-in_err-put_whole-clause-below : goal.returns-in_err-put_whole-clause-below
returns-in_err-put_whole-clause-below g c =
    rw c.in_err-put_whole.ensures.same (below_set (λ v. v.items)
    (g.S.LineStore.lines c.args.store.now) c.self.inside.sets.items
    c.set_index-index.result c.put_whole.new.set (rw
    (← c.self.view_is) at c.requires.lines) c.in_err-put_whole.ensures.below)

pub returns-clause-below : goal.returns-clause-below
returns-clause-below g c =
    rw c.in_ok-put_whole.ensures.same (below_set (λ v. v.items)
    (g.S.LineStore.lines c.args.store.now) c.self.inside.sets.items
    c.set_index-index.result c.put_whole.new.set (rw
    (← c.self.view_is) at c.requires.lines) c.in_ok-put_whole.ensures.below)
