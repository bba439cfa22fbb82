-- Chains of requests for lines with a clock are chains of an encrypted memory's calls, and so refine a list of bytes.
use Rattle.std.proofs.Common.{zero, suc, ◌+◌, [], ◌∷◌, take, get_or, ◌≡◌, ◌<◌, ◌*◌, ◌⊎◌, ◌∙◌, inl, inr, ℕ, List, Result}
use Rattle.std.proofs.Common.{Ok, Err, length, refl, sym, ap, subst, arith}
use Rattle.request_plan.specs.Plan.{Plan, Done, Ask, Ends, Stops, through}
use Rattle.request_plan.proofs.Keeps.{Ends-has}
use Rattle.fed_run.proofs.RunChains.{outcomes-through}
use Rattle.rv32_core.proofs.RunLaws.{step_plan-keeps}
use Rattle.asc_base.specs.declared.block.Line.{Line}
use Rattle.asc_base.specs.declared.block.Point.{Point}
use Rattle.asc_base.specs.declared.shape.Shape.{Shape}
use Rattle.asc_base.specs.declared.stop.Stop.{Stop}
use Rattle.asc_outside.specs.Memory.{MemoryState}
use Rattle.bus_watch.specs.Log.{TapState}
use Rattle.data_cache.specs.Cached.{cache_access}
use Rattle.data_cache.specs.Contents.{Contents, write_line_plan}
use Rattle.data_cache.specs.Lines.{LineRequest, Fetch, Store}
use Rattle.encrypted_run.specs.Refined.{OramLine, Computes, loaded}
use Rattle.data_cache.specs.CacheLists.{line_in}
use Rattle.encrypted_run.proofs.RefinedLaws.{forgery_plan, instruction_refines, line_refines}
use Rattle.encrypted_run.proofs.HonestLaws.{plan_blameless, plan_points, wait_clear}
use Rattle.encrypted_run.proofs.StopLaws.{plan_stop}
use Rattle.oram_contents.specs.Entries.{Keys, AreKeys}
use Rattle.oram_contents.specs.Forgery.{Forgery}
use Rattle.oram_frontend.specs.Oram.{OramState, OramStep, Wait, Told}
use Rattle.oram_lines.proofs.HonestLaws.{points_stop}
use Rattle.oram_lines.proofs.HonestTriples.{unforged}
use Rattle.oram_lines.proofs.LineLaws.{call_holds, forgery_call, forgery_stop}
use Rattle.rv32_core.specs.Access.{spliced}
use Rattle.rv32_core.specs.FlatMachine.{flat_step}
use Rattle.rv32_core.specs.Machine.{Machine, IsCore}
use Rattle.rv32_core.specs.StepPlan.{step_plan}
use Rattle.rv32_core.specs.declared.outcome.Done.{Done as Finished}
use Rattle.secure_machine.specs.Refines.{IsForged, StandFor, Knows, IsUnblamed, DrewOnce, StopUnblamed}
use Rattle.play_run.specs.Timed.{Serving}
use Rattle.secure_machine.specs.Runs.{Ready}
use Rattle.secure_machine.specs.Same.{IsSameLines, timed_of, keys_in, oram_over}
use Rattle.oram_frontend.specs.declared.oram.Oram.{Oram}
use Rattle.rate_enforcer.specs.Served.{keys_of}
use Rattle.secure_machine.specs.declared.lines.TimedLines.{TimedLines}
use Rattle.secure_machine.proofs.LineChains.{LinesStep, same_lines, same_then, keys_stay}

-- one line more is written
pub loaded_more : (image marked : List ℕ) (at line : ℕ) (memory : List ℕ) → at < length marked
    → line ≡ get_or marked at line
    → loaded image (take (at + 1) marked) memory
    ≡ spliced (loaded image (take at marked) memory) (64 * line) (line_in image line)
loaded_more image [] at line memory below is = absurd (omega (arith, below))
loaded_more image (first ∷ marked) zero line memory below is =
    ap (λ n. spliced memory (64 * n) (line_in image n)) (sym is)
loaded_more image (first ∷ marked) (suc at) line memory below is =
    let e : suc at + 1 ≡ suc (at + 1) = omega arith in
    ap (λ n. loaded image (take n (first ∷ marked)) memory) e
    ∙ loaded_more image marked at line (spliced memory (64 * first) (line_in image first)) (omega (arith, below)) is

module _ {M W L : Type 0} (memory_of : M → MemoryState) (tap_of : W → TapState) (leaf_of : L → Point → ℕ)
    (levels_of : L → ℕ) where
  abbrev Lines : Type 0
  Lines = TimedLines M W L

  abbrev Step : Lines → LineRequest → Result (List ℕ) Stop → Lines → Type 0
  Step = LinesStep memory_of tap_of leaf_of levels_of

  abbrev oram : Lines → OramState
  oram s = (timed_of memory_of tap_of s).oram

  abbrev levels : Lines → ℕ
  levels s = levels_of s.oram.now.port.leaves

  -- the keys stay
  pub keys_same : (s t : Lines) → IsSameLines s t → keys_in leaf_of t ≡ keys_in leaf_of s
  keys_same s t same = keys_stay leaf_of s t same

  -- one request
  line_call : (s t : Lines) (request : LineRequest) (bytes : List ℕ) → Step s request (Ok bytes) t
      → OramLine (keys_in leaf_of s) (levels s) (oram s) request (Ok bytes) (oram t)
  line_call s t (Fetch line) bytes (same, answered) =
      let (step, fetches, is_line, can, below) = answered in
      let count : s.oram.now.port.tree.shape.lines ≡ s.count =
      ap (λ (shape : Shape). shape.lines) (sym same.tree.shape ∙ can.serving.serves.rests.is_for.shape) ∙ can.lines in
      (omega (arith, count, below), is_line, s.clock, t.clock, step)
  line_call s t (Store line value) bytes (same, answered) =
      let (step, fetches, none, can, below, whole) = answered in
      let count : s.oram.now.port.tree.shape.lines ≡ s.count =
      ap (λ (shape : Shape). shape.lines) (sym same.tree.shape ∙ can.serving.serves.rests.is_for.shape) ∙ can.lines in
      (omega (arith, count, below), whole, none, s.clock, t.clock, step)

  line_stop : (s t : Lines) (request : LineRequest) (stop : Stop) → (keys_in leaf_of s).shape.lines ≡ s.count
      → Step s request (Err stop) t → OramLine (keys_in leaf_of s) (levels s) (oram s) request (Err stop) (oram t)
  line_stop s t (Fetch line) stop count (same, (step, fetches, clock, below)) =
      (omega (arith, count, below), s.clock, step)
  line_stop s t (Store line value) stop count (same, (step, fetches, clock, below, whole)) =
      (omega (arith, count, below), whole, s.clock, step)

  -- requests that were answered
  pub chain_calls : {B A : Type 0} (plan : Plan LineRequest (List ℕ) B A) (s t : Lines) (a : A) (keys : Keys) (n : ℕ)
      → keys_in leaf_of s ≡ keys → levels s ≡ n → Ends Step plan s t a
      → Ends (OramLine keys n) plan (oram s) (oram t) a × IsSameLines s t
  chain_calls (Done x) s t a keys n is at ends =
      ((ends.0, ap oram ends.1), subst (λ (u : Lines). IsSameLines s u) (sym ends.1) (same_lines s))
  chain_calls (Ask q b k) s t a keys n is at (x, mid, one, rest) =
      let call = subst (λ m. OramLine keys m (oram s) q (Ok x) (oram mid)) at
      (subst (λ (z : Keys). OramLine z (levels s) (oram s) q (Ok x) (oram mid)) is (line_call s mid q x one)) in
      let (calls, same) = chain_calls (k x) mid t a keys n (keys_same s mid one.0 ∙ is)
      (ap levels_of one.0.leaves ∙ at) rest in
      ((x, oram mid, call, calls), same_then one.0 same)

  -- and up to one that was stopped
  pub chain_stops : {B A : Type 0} (plan : Plan LineRequest (List ℕ) B A) (s t : Lines) (stop : Stop) (left : B)
      (keys : Keys) (n : ℕ) → keys_in leaf_of s ≡ keys → levels s ≡ n → keys.shape.lines ≡ s.count
      → Stops Step plan s t stop left
      → Stops (OramLine keys n) plan (oram s) (oram t) stop left × IsSameLines s t
  chain_stops (Done x) s t stop left keys n is at count stops = absurd stops
  chain_stops (Ask q b k) s t stop left keys n is at count (inl (one, leaves)) = (
    inl (
      subst (λ m. OramLine keys m (oram s) q (Err stop) (oram t)) at
          (subst (λ (z : Keys). OramLine z (levels s) (oram s) q (Err stop) (oram t)) is
          (line_stop s t q stop (ap (λ (z : Keys). z.shape.lines) is ∙ count) one)),
      leaves,
    ),
    one.0,
  )
  chain_stops (Ask q b k) s t stop left keys n is at count (inr (x, mid, one, rest)) =
      let call = subst (λ m. OramLine keys m (oram s) q (Ok x) (oram mid)) at
      (subst (λ (z : Keys). OramLine z (levels s) (oram s) q (Ok x) (oram mid)) is (line_call s mid q x one)) in
      let (calls, same) = chain_stops (k x) mid t stop left keys n (keys_same s mid one.0 ∙ is)
      (ap levels_of one.0.leaves ∙ at) (count ∙ sym one.0.count) rest in
      (inr (x, oram mid, call, calls), same_then one.0 same)

  -- what is known with the keys of before is known with those of now
  as_now : (s t : Lines) (cache : Contents) (memory : List ℕ) → IsSameLines s t
      → Forgery (keys_in leaf_of s) (oram t).port.tap.log
      ⊎ Computes (keys_in leaf_of s) (levels s) cache memory (oram t)
      → Knows memory_of tap_of leaf_of levels_of cache memory t
  as_now s t cache memory same known =
      subst (λ n. Forgery (keys_in leaf_of t) (oram t).port.tap.log
      ⊎ Computes (keys_in leaf_of t) n cache memory (oram t)) (sym (ap levels_of same.leaves))
      (subst (λ (z : Keys). Forgery z (oram t).port.tap.log ⊎ Computes z (levels s) cache memory (oram t))
      (sym (keys_same s t same)) known)

  pub forged_now : (s t : Lines) → IsSameLines s t → Forgery (keys_in leaf_of s) (oram t).port.tap.log
      → IsForged memory_of tap_of leaf_of levels_of t
  forged_now s t same forged =
      subst (λ (z : Keys). Forgery z (oram t).port.tap.log) (sym (keys_same s t same)) forged

  -- An image line that is written whole.
  pub line_known : (s t : Lines) (cache after : Contents) (memory : List ℕ) (line : ℕ) (value : Line)
      → AreKeys (keys_in leaf_of s) → line < (keys_in leaf_of s).shape.lines → length value.0 ≡ 64
      → Knows memory_of tap_of leaf_of levels_of cache memory s → Ends Step (write_line_plan cache line value) s t after
      → Knows memory_of tap_of leaf_of levels_of after (spliced memory (64 * line) value.0) t
  line_known s t cache after memory line value lawful below whole known ends =
      let (calls, same) = chain_calls (write_line_plan cache line value) s t after (keys_in leaf_of s) (levels s) refl
      refl ends in
      as_now s t after (spliced memory (64 * line) value.0) same (elim known [
        | inl forged ↦ inl (forgery_plan (keys_in leaf_of s) lawful (levels s)
            (write_line_plan cache line value) (oram s)
            (oram t) after calls forged)
        | inr stands ↦ line_refines (keys_in leaf_of s) lawful (levels s) line value below whole memory
            (oram s) (oram t)
            cache after stands calls
      ])

  -- An instruction.
  pub instruction_known : (s t : Lines) (machine : Machine) (cache after : Contents) (memory : List ℕ)
      (end : Machine × Finished) → AreKeys (keys_in leaf_of s) → IsCore machine.core
      → machine.core.size ≡ 64 * (keys_in leaf_of s).shape.lines
      → Knows memory_of tap_of leaf_of levels_of cache memory s
      → Ends Step (through (cache_access machine.core.base) (step_plan machine) cache) s t (after, end)
      → IsForged memory_of tap_of leaf_of levels_of t
      ⊎ ((now : List ℕ) × (flat_step machine memory ≡ record { machine = end.0; memory = now; done = end.1 })
      × StandFor memory_of tap_of leaf_of levels_of after now t)
  instruction_known s t machine cache after memory end lawful is size known ends =
      let plan = through (cache_access machine.core.base) (step_plan machine) cache in
      let (calls, same) = chain_calls plan s t (after, end) (keys_in leaf_of s) (levels s) refl refl ends in
      elim known [
        | inl forged ↦ inl
            (forged_now s t same (forgery_plan (keys_in leaf_of s) lawful (levels s) plan (oram s) (oram t)
            (after, end) calls forged))
        | inr stands ↦ elim (instruction_refines (keys_in leaf_of s) lawful (levels s) machine is size memory (oram s)
            (oram t) cache after end stands calls) [
              | inl forged ↦ inl (forged_now s t same forged)
              | inr (now, step, later) ↦ inr (
                now,
                step,
                subst (λ n. Computes (keys_in leaf_of t) n after now (oram t)) (sym (ap levels_of same.leaves))
                    (subst (λ (z : Keys). Computes z (levels s) after now (oram t)) (sym (keys_same s t same)) later),
              )
            ]
      ]

  -- It keeps what a core is.
  pub instruction_core : (s t : Lines) (machine : Machine) (cache after : Contents) (end : Machine × Finished)
      → IsCore machine.core
      → Ends Step (through (cache_access machine.core.base) (step_plan machine) cache) s t (after, end)
      → IsCore (end.0).core
  instruction_core s t machine cache after end is ends =
      (Ends-has Step (λ (r : Contents × (Machine × Finished)). IsCore (((r.1).0).core)
      × (((r.1).0).core.base ≡ machine.core.base) × (((r.1).0).core.size ≡ machine.core.size))
      (through (cache_access machine.core.base) (step_plan machine) cache)
      (outcomes-through (λ (e : Machine × Finished). IsCore ((e.0).core)
      × ((e.0).core.base ≡ machine.core.base) × ((e.0).core.size ≡ machine.core.size)) (cache_access machine.core.base)
      (step_plan machine) cache (step_plan-keeps machine is)) s t (after, end) ends).0

  -- A forgery stays over requests that were answered.
  pub chain_forged : {B A : Type 0} (plan : Plan LineRequest (List ℕ) B A) (s t : Lines) (a : A)
      → AreKeys (keys_in leaf_of s) → Ends Step plan s t a → IsForged memory_of tap_of leaf_of levels_of s
      → IsForged memory_of tap_of leaf_of levels_of t
  chain_forged plan s t a lawful ends forged =
      let (calls, same) = chain_calls plan s t a (keys_in leaf_of s) (levels s) refl refl ends in
      forged_now s t same (forgery_plan (keys_in leaf_of s) lawful (levels s) plan (oram s) (oram t) a calls forged)

  -- so many lines there are
  pub lines_in : (s : Lines) → Ready memory_of tap_of levels_of s → (keys_in leaf_of s).shape.lines ≡ s.count
  lines_in s can = ap (λ (shape : Shape). shape.lines) can.serving.serves.rests.is_for.shape ∙ can.lines

  -- what is said of memory, tap and encrypted memory is said of them where the clock went on
  pub spent_is : (F : Oram L → M → W → Type 0) (t u : Lines) → u.memory.now ≡ t.memory.now → u.tap.now ≡ t.tap.now
      → u.oram.now ≡ t.oram.now → F t.oram.now t.memory.now t.tap.now → F u.oram.now u.memory.now u.tap.now
  spent_is F t u memory tap oram_is f =
      subst (λ o. F o u.memory.now u.tap.now) (sym oram_is)
      (subst (λ m. F t.oram.now m u.tap.now) (sym memory)
      (subst (λ w. F t.oram.now t.memory.now w) (sym tap) f))

  -- the same with parts in place of lines
  abbrev pub ForgedBy : Oram L → M → W → Type 0
  ForgedBy o m w = Forgery (keys_of o.port.tree o.tagger (leaf_of o.port.leaves))
      (oram_over memory_of tap_of o m w).port.tap.log

  abbrev pub StandBy : Contents → List ℕ → Oram L → M → W → Type 0
  StandBy cache memory o m w = Computes (keys_of o.port.tree o.tagger (leaf_of o.port.leaves)) (levels_of o.port.leaves)
      cache memory (oram_over memory_of tap_of o m w)

  abbrev pub SteppedBy : List ℕ → Machine → Machine × Finished → Contents → Oram L → M → W → Type 0
  SteppedBy memory machine end cache o m w = ForgedBy o m w
      ⊎ ((now : List ℕ) × (flat_step machine memory ≡ record { machine = end.0; memory = now; done = end.1 })
      × StandBy cache now o m w)

  -- A forgery stays over requests of which the last was stopped.
  pub stop_forged : {B A : Type 0} (plan : Plan LineRequest (List ℕ) B A) (s t : Lines) (stop : Stop) (left : B)
      → AreKeys (keys_in leaf_of s) → Ready memory_of tap_of levels_of s → Stops Step plan s t stop left
      → IsForged memory_of tap_of leaf_of levels_of s → IsForged memory_of tap_of leaf_of levels_of t
  stop_forged plan s t stop left lawful ready stops forged =
      let (calls, same) = chain_stops plan s t stop left (keys_in leaf_of s) (levels s) refl refl (lines_in s ready)
      stops in
      forged_now s t same (plan_stop (keys_in leaf_of s) lawful (levels s) plan (oram s)
      (oram t) stop left calls forged)

  -- Where no reply was altered no request is stopped by evidence.
  stop_evidence : {B A : Type 0} (plan : Plan LineRequest (List ℕ) B A) (s t : Lines) (stop : Stop) (left : B)
      (cache : Contents) (memory : List ℕ) → AreKeys (keys_in leaf_of s) → Ready memory_of tap_of levels_of s
      → Knows memory_of tap_of leaf_of levels_of cache memory s → Stops Step plan s t stop left
      → IsUnblamed stop (oram t).port.tap.log
  stop_evidence plan s t stop left cache memory lawful ready known stops evidence is none =
      let (calls, same) = chain_stops plan s t stop left (keys_in leaf_of s) (levels s) refl refl (lines_in s ready)
      stops in
      elim known [
        | inl forged ↦ unforged (keys_in leaf_of s) (oram t).port.tap.log
            (plan_stop (keys_in leaf_of s) lawful (levels s) plan (oram s) (oram t) stop left calls forged) none
        | inr stands ↦ plan_blameless (keys_in leaf_of s) lawful (levels s) plan stands.list (oram s) (oram t) evidence
            left stands.held ready.serving.going
            (subst (λ (e : Stop). Stops (OramLine (keys_in leaf_of s) (levels s)) plan (oram s) (oram t) e left) is
            calls) none
      ]

  -- where one is stopped no point was drawn twice, or the log shows a forgery
  stop_points : {B A : Type 0} (plan : Plan LineRequest (List ℕ) B A) (s t : Lines) (stop : Stop) (left : B)
      (cache : Contents) (memory : List ℕ) → AreKeys (keys_in leaf_of s) → Ready memory_of tap_of levels_of s
      → Knows memory_of tap_of leaf_of levels_of cache memory s → Stops Step plan s t stop left
      → DrewOnce memory_of tap_of leaf_of levels_of t
  stop_points plan s t stop left cache memory lawful ready known stops =
      let (calls, same) = chain_stops plan s t stop left (keys_in leaf_of s) (levels s) refl refl (lines_in s ready)
      stops in
      elim known [
        | inl forged ↦ inl (forged_now s t same
            (plan_stop (keys_in leaf_of s) lawful (levels s) plan (oram s) (oram t) stop left calls forged))
        | inr stands ↦ elim (plan_points (keys_in leaf_of s) lawful (levels s) plan stands.list (oram s) (oram t) stop
            left stands.held calls) [
              | inl forged ↦ inl (forged_now s t same forged)
              | inr once ↦ inr once
            ]
      ]

  pub stop_unblamed : {B A : Type 0} (plan : Plan LineRequest (List ℕ) B A) (s t : Lines) (stop : Stop) (left : B)
      (cache : Contents) (memory : List ℕ) → AreKeys (keys_in leaf_of s) → Ready memory_of tap_of levels_of s
      → Knows memory_of tap_of leaf_of levels_of cache memory s → Stops Step plan s t stop left
      → StopUnblamed memory_of tap_of leaf_of levels_of stop t
  stop_unblamed plan s t stop left cache memory lawful ready known stops = (
    stop_evidence plan s t stop left cache memory lawful ready known stops,
    stop_points plan s t stop left cache memory lawful ready known stops,
  )

  -- no point is drawn twice in the slots up to a time, whether they stop or not
  pub waited_points : (s t : Lines) (time : ℕ) (told : Told) (cache : Contents) (memory : List ℕ)
      → AreKeys (keys_in leaf_of s) → IsSameLines s t → Knows memory_of tap_of leaf_of levels_of cache memory s
      → OramStep (keys_in leaf_of s) (levels s) (oram s) (Wait time) (Ok told) (oram t)
      → DrewOnce memory_of tap_of leaf_of levels_of t
  waited_points s t time told cache memory lawful same known step = elim known [
    | inl forged ↦ inl (forged_now s t same
        (forgery_call (keys_in leaf_of s) lawful (levels s) (oram s) (oram t) (Wait time) told step forged))
    | inr stands ↦ elim (call_holds (keys_in leaf_of s) lawful (levels s) (λ n. get_or stands.list n []) (oram s)
        (oram t) (Wait time) told stands.held.holds tt step) [
          | inl forged ↦ inl (forged_now s t same forged)
          | inr (holds, right) ↦ inr holds.stands.known.points
        ]
  ]

  pub wait_points : (s t : Lines) (time : ℕ) (stop : Stop) (cache : Contents) (memory : List ℕ)
      → AreKeys (keys_in leaf_of s) → IsSameLines s t → Knows memory_of tap_of leaf_of levels_of cache memory s
      → OramStep (keys_in leaf_of s) (levels s) (oram s) (Wait time) (Err stop) (oram t)
      → DrewOnce memory_of tap_of leaf_of levels_of t
  wait_points s t time stop cache memory lawful same known step = elim known [
    | inl forged ↦ inl (forged_now s t same
        (forgery_stop (keys_in leaf_of s) lawful (levels s) (oram s) (oram t) (Wait time) stop step forged))
    | inr stands ↦ elim (points_stop (keys_in leaf_of s) lawful (levels s) (λ n. get_or stands.list n []) (oram s)
        (oram t) (Wait time) stop stands.held.holds tt step) [
          | inl forged ↦ inl (forged_now s t same forged)
          | inr once ↦ inr once
        ]
  ]

  -- nor are the slots up to a time stopped by evidence
  pub wait_unblamed : (s t : Lines) (time : ℕ) (stop : Stop) (cache : Contents) (memory : List ℕ)
      → AreKeys (keys_in leaf_of s) → Serving (levels s) (oram s)
      → Knows memory_of tap_of leaf_of levels_of cache memory s
      → OramStep (keys_in leaf_of s) (levels s) (oram s) (Wait time) (Err stop) (oram t)
      → IsUnblamed stop (oram t).port.tap.log
  wait_unblamed s t time stop cache memory lawful serving known step evidence is none = elim known [
    | inl forged ↦ unforged (keys_in leaf_of s) (oram t).port.tap.log
        (forgery_stop (keys_in leaf_of s) lawful (levels s) (oram s) (oram t) (Wait time) stop step forged) none
    | inr stands ↦ wait_clear (keys_in leaf_of s) lawful (levels s) memory cache (oram s) (oram t) time evidence stands
        serving.going
        (subst (λ (e : Stop). OramStep (keys_in leaf_of s) (levels s) (oram s) (Wait time) (Err e) (oram t)) is step)
        none
  ]

  -- what is said of parts is said of lines with these parts
  pub at_parts : (F : Oram L → M → W → Type 0) (s : Lines) (o : Oram L) (m : M) (w : W) → s.memory.now ≡ m
      → s.tap.now ≡ w → s.oram.now ≡ o → F o m w → F s.oram.now s.memory.now s.tap.now
  at_parts F s o m w memory tap oram_is f =
      subst (λ x. F x s.memory.now s.tap.now) (sym oram_is)
      (subst (λ x. F o x s.tap.now) (sym memory) (subst (λ x. F o m x) (sym tap) f))

  -- the keys of lines with this encrypted memory
  abbrev pub keys_by : Oram L → Keys
  keys_by o = keys_of o.port.tree o.tagger (leaf_of o.port.leaves)

  -- a forgery under the keys of now is one under those of before
  pub forged_first : (s t : Lines) (o : Oram L) → s.oram.now ≡ o → IsSameLines s t
      → IsForged memory_of tap_of leaf_of levels_of t → Forgery (keys_by o) (tap_of t.tap.now).log
  forged_first s t o is same forged =
      subst (λ (z : Keys). Forgery z (tap_of t.tap.now).log) (keys_same s t same ∙ ap keys_by is) forged
