use Rattle.std.proofs.Common.{◌≡◌, ℕ, ◌<◌, ◌≤◌, List, [], ◌++◌, length, take, Option, Some, None, IfSome, sym, ap}
use Rattle.std.proofs.Common.{subst, ◌∙◌, arith, vec_len}
use Rattle.std.specs.Prelude.{option_map}
use Rattle.std.proofs.lemmas.Grind.{common_steps}
use Rattle.ascend.proofs.std_host.read_limited.Goals as goal

-- a list of which fewer are taken than asked for is taken whole
taken_whole : (rest : List ℕ) (most : ℕ) → length (take most rest) < most → take most rest ≡ rest
taken_whole rest most few = grind (arith, common_steps)

-- what was read is all that was left, where it is less than was asked for
all_read : (known : Option (List ℕ)) (start read : List ℕ) (most : ℕ) → start ≡ []
    → IfSome (option_map (take most) known) (λ xs. read ≡ start ++ xs)
    → length read < most → IfSome known (λ rest. read ≡ rest)
all_read None start read most none e few = tt
all_read (Some rest) start read most none e few =
    let taken : read ≡ take most rest = e ∙ ap (λ s. s ++ take most rest) none in
    taken ∙ taken_whole rest most (subst (λ l. length l < most) taken few)

pub returns-clause-whole : goal.returns-clause-whole
returns-clause-whole g c =
    let buf = c.read_to_end.new.buf in
    let few : length buf.items < c.take.result.limit = omega (
      arith,
      c.take.ensures.limit,
      c.saturating_add-most.ensures,
      c.len.ensures,
      buf.small,
      buf.ok,
    ) in
    subst (λ r. IfSome (g.F.Read.remaining r) (λ rest. buf.items ≡ rest)) c.take.ensures.inner
    (all_read (g.F.Read.remaining c.take.result.inner) c.new-bytes.result.items buf.items c.take.result.limit
    c.new-bytes.ensures.items c.in_ok-read_to_end.ensures.bytes few)
