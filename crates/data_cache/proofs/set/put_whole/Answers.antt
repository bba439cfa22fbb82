use Rattle.std.proofs.Common.{true, ◌<◌, sym, subst}
use Rattle.std.proofs.lemmas.List.Elements.{All-set}
use Rattle.data_cache.specs.Contents.{HoldsBelow}
use Rattle.data_cache.specs.declared.set.Held.{Held}
use Rattle.data_cache.proofs.SetLaws.{below_moved, below_front}
use Rattle.data_cache.proofs.set.put_whole.Goals as goal

pub returns-in-Some-clause-below : goal.returns-in-Some-clause-below
returns-in-Some-clause-below g c =
    let lines = g.S.LineStore.lines c.args.store.now in
    let set = subst (HoldsBelow lines) (sym c.deref_mut.ensures.value) c.requires.lines in
    let front = subst (HoldsBelow lines) (sym c.to_front.ensures)
    (below_moved lines c.in-Some.i c.deref_mut.result.now set) in
    All-set (λ (h : Held). h.line < lines) _ 0
    (record { line = c.args.line; dirty = true; value = c.args.value }) c.requires.line
    (below_front lines c.args.set.now.len c.to_front.new.set c.args.set.now.items front c.requires.lines)
