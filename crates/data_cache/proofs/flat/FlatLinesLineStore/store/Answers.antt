use Rattle.std.proofs.Common.{refl}
use Rattle.std.proofs.lemmas.List.{map-set}
use Rattle.asc_base.specs.declared.block.Line.{Line}
use Rattle.data_cache.proofs.flat.FlatLinesLineStore.store.Goals as goal

pub returns : goal.returns
returns c =
    rw (← c.self.view_is) (map-set (λ (l : Line). l.0) c.self.inside.list.items c.args.line c.args.value.now, refl)
