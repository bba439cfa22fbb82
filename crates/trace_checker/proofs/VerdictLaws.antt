-- The verdicts of the checker's steps.
use Rattle.std.proofs.Common.{◌≡◌, ℕ, suc, ◌+◌, ◌-◌, ◌*◌, ◌<◌, ◌≤◌, length, refl, sym, ◌∙◌, ap, subst}
use Rattle.std.proofs.Common.{arith, Some}
use Rattle.std.specs.Prelude.{slice_get}
use Rattle.std.proofs.Math.Nat.{pow-zero}
use Rattle.bus_schedule.specs.declared.beat.Beat.{Beat}
use Rattle.bus_schedule.specs.Timetable.{count_of, bits_of, beat_at, first_beat, fallen}
use Rattle.bus_trace.specs.Trace.{TraceLists}
use Rattle.bus_trace.specs.Grammar.{IsTrace}
use Rattle.bus_trace.specs.declared.trace.Seen.{Seen}
use Rattle.trace_checker.specs.Checker.{Allows, Fits, IsLeast, Next, Says, moves_by}
use Rattle.trace_checker.specs.Checker.{start, moves, end, holds, fails}
use Rattle.trace_checker.specs.Steps.{Follows, FollowsNext, KnownAt, KnowsNext, Knows, MayStartNext, OpenAt, SlotAt}
use Rattle.trace_checker.specs.Steps.{IsEarly, TakesNext, first_start, start_with, with_index}
use Rattle.trace_checker.specs.declared.progress.Next.{Next as NextSlot}
use Rattle.trace_checker.specs.declared.progress.Next.TheVariants.{Known, Open}
use Rattle.trace_checker.specs.declared.progress.Progress.{Progress}
use Rattle.trace_checker.specs.declared.progress.Slot.{Slot}
use Rattle.trace_checker.specs.declared.verdict.Verdict.TheVariants.{Holds, Fails}
use Rattle.trace_checker.proofs.StepLaws.{known_slot, open_slot, known_none}
use Rattle.trace_checker.proofs.StepLaws.{open_none, known_least, known_most, open_least}
use Rattle.trace_checker.proofs.StepLaws.{open_most, slot_known, slot_open, no_start, no_moves}
use Rattle.trace_checker.proofs.EndLaws.{FellBy, known_end, no_end, open_early, open_end}

-- before the first access
pub first_known : (t : TraceLists) (progress : Progress) → IsTrace t
    → progress ≡ record { code = 0; next = Known (first_beat t.header) } → Knows t 0 progress
unfolding beat_at
first_known t progress is same = subst (Knows t 0) (sym same) known
  where
    known : KnownAt t 0 0 (first_beat t.header)
    known = record {
      allows = record { first = refl };
      beat_is = refl;
      fits = omega (arith, pow-zero (count_of t.header));
      others = λ other allows place below. absurd (omega (arith, below));
      kept = λ last same. absurd (omega (arith, same));
    }

knows_early : (t : TraceLists) (k code : ℕ) (next : NextSlot) → IsTrace t → k ≤ length t.accesses
    → KnowsNext t k code next → IsEarly next
knows_early t k code (Known beat) is within knows = tt
knows_early t k code (Open before) is within knows = omega (arith, (open_early t k code before is within knows).0)

pub early_next : (t : TraceLists) (k : ℕ) (progress : Progress) → IsTrace t → k ≤ length t.accesses
    → Knows t k progress → IsEarly progress.next
early_next t k progress is within knows = knows_early t k progress.code progress.next is within knows

-- the slot with a start that may come next
slot_next : (t : TraceLists) (k code : ℕ) (next : NextSlot) (at : ℕ) (slot : Slot) → IsTrace t → k ≤ length t.accesses
    → KnowsNext t k code next → TakesNext t.header code next at slot → SlotAt t k slot at
slot_next t k code (Known beat) at slot is within knows takes =
    known_slot t k code beat at slot knows takes.starts takes.code_is takes.beat_is
slot_next t k code (Open before) at slot is within knows takes =
    open_slot t k code before at takes.index slot is within knows takes.within takes.starts takes.code_is takes.beat_is

pub slot_of : (t : TraceLists) (k : ℕ) (progress : Progress) (at : ℕ) (slot : Slot) → IsTrace t
    → k ≤ length t.accesses → Knows t k progress → TakesNext t.header progress.code progress.next at slot
    → SlotAt t k slot at
slot_of t k progress at slot is within knows takes =
    slot_next t k progress.code progress.next at slot is within knows takes

-- no slot has the start
none_next : (t : TraceLists) (k code : ℕ) (next : NextSlot) (at : ℕ) → IsTrace t → KnowsNext t k code next
    → ¬ MayStartNext t.header next at → ¬ Next t k at
none_next t k code (Known beat) at is knows not = known_none t k code beat at knows not
none_next t k code (Open before) at is knows not =
    open_none t k code before at is knows (λ index small starts. not (index, small, starts))

least_next : (t : TraceLists) (k code : ℕ) (next : NextSlot) → IsTrace t → k ≤ length t.accesses
    → KnowsNext t k code next → IsLeast (Next t k) (first_start t.header next)
least_next t k code (Known beat) is within knows = known_least t k code beat knows
least_next t k code (Open before) is within knows = open_least t k code before is knows within

next_code : (t : TraceLists) (k code : ℕ) (next : NextSlot) → KnowsNext t k code next → Allows t k code
next_code t k code (Known beat) knows = knows.allows
next_code t k code (Open before) knows = knows.allows

pub says_start : (t : TraceLists) (k : ℕ) (progress : Progress) (seen : Seen) (line wanted : ℕ) → IsTrace t
    → k ≤ length t.accesses → Knows t k progress → slice_get t.accesses k ≡ Some seen
    → ¬ MayStartNext t.header progress.next seen.start → line ≡ 7 + k → wanted ≡ first_start t.header progress.next
    → Says t (Fails line seen.start wanted)
says_start t k progress seen line wanted is within knows shows not at least =
    let none = none_next t k progress.code progress.next seen.start is knows not in
    subst (λ n. Says t (Fails n seen.start wanted)) (sym at)
    (subst (λ w. Says t (Fails (7 + k) seen.start w)) (sym least)
    (fails k seen.start (first_start t.header progress.next)
    (progress.code, next_code t k progress.code progress.next knows) (no_start t k seen shows none)
    (start seen (first_start t.header progress.next) shows none
    (least_next t k progress.code progress.next is within knows))))

pub says_moves : (t : TraceLists) (k : ℕ) (slot : Slot) (seen : Seen) (line found wanted : ℕ)
    → SlotAt t k slot seen.start → slice_get t.accesses k ≡ Some seen → found ≡ seen.moves
    → wanted ≡ moves_by t.header t.end seen.start → ¬ (wanted ≡ seen.moves) → line ≡ 7 + k
    → Says t (Fails line found wanted)
says_moves t k slot seen line found wanted at shows found_is counted not is_line =
    let one : Says t (Fails (7 + k) seen.moves (moves_by t.header t.end seen.start)) =
    fails k seen.moves (moves_by t.header t.end seen.start) (slot.code, at.allows)
    (no_moves t k seen shows (λ same. not (counted ∙ same)))
    (moves seen shows (record {
      code = slot.code;
      allows = at.allows;
      starts = ap (λ (b : Beat). b.next) (sym at.beat_is) ∙ at.next;
    })) in
    subst (λ n. Says t (Fails n found wanted)) (sym is_line)
    (subst (λ f. Says t (Fails (7 + k) f wanted)) (sym found_is)
    (subst (λ w. Says t (Fails (7 + k) seen.moves w)) (sym counted) one))

-- what is known after a slot
knows_next : (t : TraceLists) (k code : ℕ) (next : NextSlot) (slot : Slot) (seen : Seen) → IsTrace t
    → SlotAt t k slot seen.start → slice_get t.accesses k ≡ Some seen
    → moves_by t.header t.end seen.start ≡ seen.moves → 1 ≤ seen.moves → code ≡ slot.code
    → FollowsNext t.header slot.beat next → KnowsNext t (suc k) code next
knows_next t k code (Known beat) slot seen is at shows same some code_is follows =
    subst (λ c. KnownAt t (suc k) c beat) (sym code_is)
    (subst (KnownAt t (suc k) slot.code) (sym follows.1) (slot_known t k slot seen is at shows same some follows.0))
knows_next t k code (Open before) slot seen is at shows same some code_is follows =
    subst (λ c. OpenAt t (suc k) c before) (sym code_is)
    (subst (OpenAt t (suc k) slot.code) (sym follows.1) (slot_open t k slot seen at shows same some follows.0))

pub knows_more : (t : TraceLists) (k : ℕ) (slot : Slot) (seen : Seen) (progress : Progress) → IsTrace t
    → SlotAt t k slot seen.start → slice_get t.accesses k ≡ Some seen
    → moves_by t.header t.end seen.start ≡ seen.moves → 1 ≤ seen.moves → Follows t.header slot progress
    → Knows t (k + 1) progress
knows_more t k slot seen progress is at shows same some follows =
    subst (λ n. Knows t n progress) (let e : suc k ≡ k + 1 = omega arith in e)
    (knows_next t k progress.code progress.next slot seen is at shows same some follows.code_is follows.next)

-- ---- the end

pub says_late : (t : TraceLists) (n code : ℕ) (beat : Beat) (line wanted : ℕ) → n ≡ length t.accesses
    → KnownAt t n code beat → wanted ≡ beat.next → beat.next < t.end → line ≡ 7 + n
    → Says t (Fails line t.end wanted)
says_late t n code beat line wanted counted known next early at =
    let most = known_most t n code beat known in
    subst (λ m. Says t (Fails m t.end wanted)) (sym at)
    (subst (λ w. Says t (Fails (7 + n) t.end w)) (sym next)
    (fails n t.end beat.next (code, known.allows) (no_end t n beat.next counted most early)
    (end beat.next counted most)))

pub says_open_late : (t : TraceLists) (n code : ℕ) (before : Beat) (line wanted : ℕ) → IsTrace t
    → n ≡ length t.accesses → OpenAt t n code before
    → wanted ≡ start_with t.header before (count_of t.header - 1) → wanted < t.end → line ≡ 7 + n
    → Says t (Fails line t.end wanted)
says_open_late t n code before line wanted is counted opened last early at =
    let latest = start_with t.header before (count_of t.header - 1) in
    let most = open_most t n code before is opened (omega (arith, counted)) in
    subst (λ m. Says t (Fails m t.end wanted)) (sym at)
    (subst (λ w. Says t (Fails (7 + n) t.end w)) (sym last)
    (fails n t.end latest (code, opened.allows) (no_end t n latest counted most (omega (arith, early, last)))
    (end latest counted most)))

says_holds : (t : TraceLists) (code fell bits : ℕ) → IsLeast (Fits t) code → fallen t.header code t.end ≡ fell
    → bits ≡ fell * bits_of (count_of t.header) → Says t (Holds code bits)
says_holds t code fell bits least fallen_is counted =
    subst (λ b. Says t (Holds code b))
    (ap (λ n. n * bits_of (count_of t.header)) fallen_is ∙ sym counted) (holds code least)

pub says_known : (t : TraceLists) (n code : ℕ) (beat : Beat) (bits : ℕ) → IsTrace t → n ≡ length t.accesses
    → KnownAt t n code beat → t.end ≤ beat.next → bits ≡ beat.choices * bits_of (count_of t.header)
    → Says t (Holds code bits)
says_known t n code beat bits is counted known late count =
    let ends = known_end t n code beat is counted known late in
    says_holds t code beat.choices bits ends.0 ends.1 count

pub says_open : (t : TraceLists) (n code : ℕ) (before : Beat) (index fell made bits : ℕ) → IsTrace t
    → n ≡ length t.accesses → OpenAt t n code before → index < count_of t.header
    → t.end ≤ start_with t.header before index
    → ((lower : ℕ) → lower < index → start_with t.header before lower < t.end) → FellBy t before fell
    → made ≡ with_index t.header code before.choices index → bits ≡ fell * bits_of (count_of t.header)
    → Says t (Holds made bits)
says_open t n code before index fell made bits is counted opened small late lower by made_is count =
    let ends = open_end t n code before index fell is counted opened small late lower by in
    subst (λ c. Says t (Holds c bits)) (sym made_is)
    (says_holds t (with_index t.header code before.choices index) fell bits ends.0 ends.1 count)
