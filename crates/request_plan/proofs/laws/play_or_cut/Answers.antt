use Rattle.request_plan.specs.Laws.{Within}
use Rattle.request_plan.specs.Play.{play}
use Rattle.request_plan.proofs.Keeps.{Ends-narrows, Stops-narrows}
use Rattle.request_plan.proofs.Plays.{Ends-follows, Stops-follows, Stops-late, halt_at}
use Rattle.request_plan.proofs.laws.play_or_cut.Goals as goal

pub returns-clause-ends : goal.returns-clause-ends
returns-clause-ends g c keeps serve noted items stays turns plan start end a holds h =
    let step = g.S.Stepped.step in
    Ends-follows (Within (g.S.Kept.holds) step) serve (g.S.Follows.stands_for) noted items
    (g.S.Guarded.clean) stays turns plan start end a
    ((Ends-narrows step (g.S.Kept.holds) keeps plan start end a holds h).0)

pub returns-clause-cut : goal.returns-clause-cut
returns-clause-cut g c keeps serve noted items stays turns cuts plan start end stop left holds h
    does clean held stands =
    let step = g.S.Stepped.step in
    let cut = Stops-follows (Within (g.S.Kept.holds) step) serve (g.S.Follows.stands_for) noted items
    (g.S.Guarded.clean) stays turns (g.S.Follows.cuts) (g.S.Follows.part) cuts
    plan start end stop left (Stops-narrows step (g.S.Kept.holds) keeps plan start end stop left holds h) does
    clean held stands in
    (cut.done, cut.cut, cut.some, cut.is, cut.notes, cut.part)

pub returns-clause-halt : goal.returns-clause-halt
returns-clause-halt g c none serve plan held done cut left is = halt_at none (play serve plan held) done cut left is

pub returns-clause-late : goal.returns-clause-late
returns-clause-late g c keeps serve noted items stays turns ends silent plan start end stop left
    holds h =
    let step = g.S.Stepped.step in
    Stops-late (Within (g.S.Kept.holds) step) serve (g.S.Follows.stands_for) noted items (g.S.Guarded.clean) stays turns
    (g.S.Follows.late) (g.S.Follows.quiet) ends silent
    plan start end stop left (Stops-narrows step (g.S.Kept.holds) keeps plan start end stop left holds h)
