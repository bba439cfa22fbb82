use Rattle.std.proofs.Common.{[], ◌∷◌, ◌++◌}
use Rattle.generated_run.proofs.Loop.{Turned, turned, words_pass}
use Rattle.generated_run.proofs.Whole.{at_loop, bytes_at_start, to_loop, first_turn, last_written}
use Rattle.generated_run.proofs.laws.loop_keeps_its_invariant.Goals as goal

pub returns-clause-first : goal.returns-clause-first
returns-clause-first c = λ around all room some.
    (at_loop around all room, bytes_at_start around all room, to_loop around all room, first_turn around all room some)

pub returns-clause-turn : goal.returns-clause-turn
returns-clause-turn c = λ around all taken left word machine memory room words turning.
    let next : Turned around all (taken ++ (word ∷ [])) left 8 machine memory =
    turned around all (words_pass all words) room taken left word machine memory turning in
    (next.next, next.after, next.leads, next.turning)

pub returns-clause-last : goal.returns-clause-last
returns-clause-last c = λ around all machine memory n room turning.
    last_written around all room machine memory turning n
