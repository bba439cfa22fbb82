use Rattle.std.proofs.Common.{◌≡◌, Some, length, refl, subst}
use Rattle.data_cache.specs.Lines.{FlatStep, FlatStep-answers, FlatStep-told, FlatStep-fetch, FlatStep-store}
use Rattle.data_cache.specs.Standing.{StandFor}
use Rattle.data_cache.specs.declared.flat.Never.{Never}
use Rattle.data_cache.proofs.ToldLaws.{read-stands}
use Rattle.data_cache.proofs.flat.read_flat.Goals as goal

pub returns-clause-flat : goal.returns-clause-flat
returns-clause-flat c memory st =
    read-stands (FlatStep {E = Never}) length Some (λ s t q bytes h. FlatStep-answers Never s t q bytes h)
    (λ s list e. FlatStep-told s list e) (λ s t n bytes h. FlatStep-fetch Never s t n bytes h)
    (λ s t n value done h. FlatStep-store Never s t n value done h) c.args.flat.now c.read.new.store c.args.cache.now
    c.read.new.self c.args.line c.args.offset (length c.args.into.now) c.read.new.into memory c.requires.line
    c.requires.range
    (λ list e. let same : c.args.flat.now ≡ list = cc in subst (λ z. StandFor c.args.cache.now z memory) same st)
    c.in-Ok.ensures.ok c.read.new.store refl
