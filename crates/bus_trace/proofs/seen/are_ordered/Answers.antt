use Rattle.std.proofs.Common.{arith, sym, subst, ◌-◌, ◌≤◌, ◌<◌, length, take, get_or, List}
use Rattle.std.proofs.Common.{false}
use Rattle.std.proofs.lemmas.List.{take_more, take_all, length-take-le, get_or-take, get_or_default}
use Rattle.std.proofs.lemmas.List.Sorted.{IsNonDecreasingBy-push}
use Rattle.std.specs.List.Sorted.{IsNonDecreasingBy}
use Rattle.bus_watch.specs.declared.log.Move.{Move}
use Rattle.bus_trace.proofs.seen.are_ordered.Goals as goal

abbrev time : Move → Prim.Native.Nat.ℕ
time m = m.time

abbrev nil : Move
nil = record { time = 0; write = false; bucket = 0 }

last : (xs : List Move) (k : Prim.Native.Nat.ℕ) → k < length xs → 1 ≤ k → (d : Move) → time (get_or xs
    (k - 1) nil) ≤ time (get_or xs k nil)
    → time (get_or (take k xs) (length (take k xs) - 1) d) ≤ time (get_or xs k nil)
last xs k inside some d le =
    let before : k - 1 < k = omega arith in
    let within : k - 1 < length xs = omega arith in
    rw (length-take-le k xs (omega arith), get_or-take k xs (k - 1) d before, get_or_default xs (k - 1) d nil within) le

pub loop-place-preserved : goal.loop-place-preserved
loop-place-preserved c =
    let xs = c.args.moves.now in
    let k = c.loop-place.place in
    let inside : k < length xs = omega (arith, c.loop-place-test.true, c.loop-place.auto.place-end) in
    let P : List Move → Type 0 = λ ms. IsNonDecreasingBy time ms in
    subst P (sym (take_more xs k nil inside)) (IsNonDecreasingBy-push time (take k xs)
    (get_or xs k nil) c.loop-place.invariant (λ d some. last xs k c.loop-place-test.true
    c.loop-place.auto.place d c.if-moves-place.false))

pub returns : goal.returns
returns c = λ _. let P : List Move → Type 0 = λ ms. IsNonDecreasingBy time ms in
    subst P (take_all c.loop-place.place c.args.moves.now c.loop-place-test.false) c.loop-place.invariant
