-- What a verdict says of the codes that fit a trace.
use Rattle.std.proofs.Common.{◌≡◌, ℕ, suc, ◌+◌, ◌<◌, inl, inr, length, refl, sym, ◌∙◌, ap, subst}
use Rattle.std.proofs.Common.{arith, Some}
use Rattle.std.specs.Prelude.{slice_get}
use Rattle.std.proofs.lemmas.Bool.{cases_order}
use Rattle.std.proofs.lemmas.Option.{slice_get_within}
use Rattle.bus_schedule.specs.Timetable.{AgreeTo, beat_at}
use Rattle.bus_schedule.proofs.Digits.{starts-tell}
use Rattle.bus_trace.specs.Trace.{TraceLists}
use Rattle.bus_trace.specs.Grammar.{IsTrace}
use Rattle.bus_trace.specs.declared.trace.Seen.{Seen}
use Rattle.trace_checker.specs.Checker.{IsAllowed, Fits, IsLeast, IsMost, Next, Tells, Says, HoldsBy, moves_by, bits_by}
use Rattle.trace_checker.specs.Checker.{start, moves, end, holds, fails}
use Rattle.trace_checker.specs.declared.verdict.Verdict.{Verdict}
use Rattle.trace_checker.specs.declared.verdict.Verdict.TheVariants.{Holds, Fails}
use Rattle.trace_checker.proofs.HeaderLaws.{some_count, rates_rise}
use Rattle.trace_checker.proofs.Allowed.{allows_fewer, allows_last, of_fits}
use Rattle.trace_checker.proofs.EndLaws.{seen_of}

-- a trace that some code fits holds, with the least such code
pub fit_holds : (t : TraceLists) (code : ℕ) (verdict : Verdict) → Fits t code → Says t verdict → HoldsBy t code verdict
fit_holds t code (Holds _ _) fits (holds least is) = record {
  least = least;
  bits = bits_by t least;
  is = refl;
  fits = is.has;
  below = is.least code fits;
}
fit_holds t code (Fails _ _ _) fits (fails k found wanted some none tells) =
    absurd (none (code, of_fits t (suc k) code fits))

-- codes that fit one trace agree on the digits that show
pub fits_agree : (t : TraceLists) (code other n : ℕ) → IsTrace t → Fits t code → Fits t other → n < length t.accesses
    → AgreeTo t.header code other (beat_at t.header code n).choices
fits_agree t code other n is fits also shows =
    starts-tell t.header code other n (rates_rise t.header is.header) (some_count t.header is.header).0
    (λ k within.
    let one = seen_of t k (omega (arith, within, shows)) in
    (allows_last t k code one.0 (of_fits t (k + 1) code fits) one.1).starts
    ∙ sym (allows_last t k other one.0 (of_fits t (k + 1) other also) one.1).starts)

-- ---- a trace has one verdict

one_least : (Has : ℕ → Type 0) (one other : ℕ) → IsLeast Has one → IsLeast Has other → one ≡ other
one_least Has one other a b = omega (arith, a.least other b.has, b.least one a.has)

one_most : (Has : ℕ → Type 0) (one other : ℕ) → IsMost Has one → IsMost Has other → one ≡ other
one_most Has one other a b = omega (arith, a.most other b.has, b.most one a.has)

same_seen : (t : TraceLists) (k : ℕ) (one other : Seen) → slice_get t.accesses k ≡ Some one
    → slice_get t.accesses k ≡ Some other → one ≡ other
same_seen t k one other a b = let both : Some one ≡ Some other = sym a ∙ b in cc

one_tells : (t : TraceLists) (k found wanted other also : ℕ) → Tells t k found wanted → Tells t k other also
    → (found ≡ other) × (wanted ≡ also)
one_tells t k _ wanted _ also (start seen _ at none least) (start other _ here bars most) =
    (ap (λ (s : Seen). s.start) (same_seen t k seen other at here), one_least (Next t k) wanted also least most)
one_tells t k _ wanted _ _ (start seen _ at none least) (moves other here next) =
    absurd (none (subst (λ (s : Seen). Next t k s.start) (same_seen t k other seen here at) next))
one_tells t k _ wanted _ also (start seen _ at none least) (end _ last most) =
    absurd (omega (arith, slice_get_within t.accesses k seen at, last))
one_tells t k _ _ _ also (moves seen at next) (start other _ here bars most) =
    absurd (bars (subst (λ (s : Seen). Next t k s.start) (same_seen t k seen other at here) next))
one_tells t k _ _ _ _ (moves seen at next) (moves other here also) =
    let same = same_seen t k seen other at here in
    (ap (λ (s : Seen). s.moves) same, ap (λ (s : Seen). moves_by t.header t.end s.start) same)
one_tells t k _ _ _ also (moves seen at next) (end _ last most) =
    absurd (omega (arith, slice_get_within t.accesses k seen at, last))
one_tells t k _ wanted _ also (end _ last most) (start other _ here bars least) =
    absurd (omega (arith, slice_get_within t.accesses k other here, last))
one_tells t k _ wanted _ _ (end _ last most) (moves other here next) =
    absurd (omega (arith, slice_get_within t.accesses k other here, last))
one_tells t k _ wanted _ also (end _ last most) (end _ here greatest) =
    (refl, one_most (Next t k) wanted also most greatest)

-- the first line that no code allows is one
one_line : (t : TraceLists) (k j : ℕ) → IsAllowed t k → ¬ IsAllowed t (suc k) → IsAllowed t j → ¬ IsAllowed t (suc j)
    → k ≡ j
one_line t k j some none also bars =
    elim (cases_order k j) [
      | inl same ↦ same
      | inr apart ↦ elim apart [
        | inl before ↦ absurd (none (also.0, allows_fewer t (suc k) j also.0 (omega (arith, before)) also.1))
        | inr after ↦ absurd (bars (some.0, allows_fewer t (suc j) k some.0 (omega (arith, after)) some.1))
      ]
    ]

pub one_verdict : (t : TraceLists) (first second : Verdict) → Says t first → Says t second → first ≡ second
one_verdict t _ _ (holds code is) (holds other also) =
    let same = one_least (Fits t) code other is also in ap (λ c. Holds c (bits_by t c)) same
one_verdict t _ _ (holds code is) (fails k found wanted some none tells) =
    absurd (none (code, of_fits t (suc k) code is.has))
one_verdict t _ _ (fails k found wanted some none tells) (holds code is) =
    absurd (none (code, of_fits t (suc k) code is.has))
one_verdict t _ _ (fails k found wanted some none tells) (fails j other also here bars says) =
    let line = one_line t k j some none here bars in
    let told = one_tells t k found wanted other also tells (subst (λ n. Tells t n other also) (sym line) says) in
    ap (λ n. Fails (7 + n) found wanted) line ∙ ap (λ f. Fails (7 + j) f wanted) told.0
    ∙ ap (λ w. Fails (7 + j) other w) told.1

pub fails_all : (t : TraceLists) (line found wanted code : ℕ) → Says t (Fails line found wanted) → ¬ Fits t code
fails_all t line found wanted code says = λ fits.
    let one = fit_holds t code (Fails line found wanted) fits says in
    let same : Fails line found wanted ≡ Holds one.least one.bits = one.is in
    cc
