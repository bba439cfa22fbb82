-- What a cut of a play is.
use Rattle.std.proofs.Common.{◌≡◌, ◌<◌, ◌≤◌, ℕ, zero, suc, Bool, true, false, cond, List, [], ◌∷◌, ◌++◌, take, length}
use Rattle.std.proofs.Common.{Option, Some, None, refl, sym, ap, ◌∙◌, arith, append_assoc, append-nil, length-append}
use Rattle.std.proofs.Common.{◌⊎◌, ◌+◌, ◌-◌, ◌*◌, inl, inr}
use Rattle.std.specs.Prelude.{slice_get, map, nat_le}
use Rattle.std.specs.Option.{option_map_or}
use Rattle.std.proofs.Math.Seq.{take-append_seam}
use Rattle.std.proofs.lemmas.Bool.{cases_lt, lt-ltb, le-ltb}
use Rattle.std.proofs.lemmas.List.{map-append, length-map}
use Rattle.std.proofs.lemmas.List.Concat.{flat_map-append}
use Rattle.asc_base.specs.TreeShape.{olat_of}
use Rattle.asc_base.specs.declared.block.Message.{Message}
use Rattle.bus_watch.specs.Path.{writes_start}
use Rattle.run_play.specs.Slots.{Slot}
use Rattle.run_play.specs.Play.{Play, after_slots}
use Rattle.run_play.specs.Halt.{Stop, Refused, Overfull, MoveFails, AppendRefused, AppendOverfull, ending_of, end_of}
use Rattle.run_play.specs.Halt.{before_put, after_put, Fits, part_of, cut_at, unprepared, halt, IsHalted}
use Rattle.run_play.specs.PlayEvents.{PlayEvent, Starts, Draws, tags_of, chooses_of, slot_events, play_events}
use Rattle.run_play.specs.PlayEvents.{starts_in, points_in}

-- the slot after others
seam : (before later : List Slot) (cut : Slot) → slice_get (before ++ cut ∷ later) (length before) ≡ Some cut
seam [] later cut = refl
seam (b ∷ before) later cut = seam before later cut

-- A play with a slot after others, cut in that slot.
pub halt-at : (levels : ℕ) (run : Play) (stop : Stop) (before later : List Slot) (cut : Slot)
    → run.slots ≡ before ++ cut ∷ later → halt levels run (suc (length before)) stop ≡ cut_at levels stop before cut
halt-at levels run stop before later cut parts =
    ap (λ slots. option_map_or (cut_at levels stop (take (length before) slots)) (slice_get slots (length before)) run)
    parts
    ∙ ap
    (λ found. option_map_or (cut_at levels stop (take (length before) (before ++ cut ∷ later))) found run)
    (seam before later cut)
    ∙ ap (λ kept. cut_at levels stop kept cut) (take-append_seam before (cut ∷ later))

-- where slots were done before
pub halt-later : (levels : ℕ) (run : Play) (stop : Stop) (done before later : List Slot) (cut : Slot)
    → run.slots ≡ before ++ cut ∷ later
    → halt levels (after_slots done run) (suc (length (done ++ before))) stop ≡ cut_at levels stop (done ++ before) cut
halt-later levels run stop done before later cut parts =
    halt-at levels (after_slots done run) stop (done ++ before) later cut
    (ap (λ l. done ++ l) parts ∙ sym (append_assoc done before (cut ∷ later)))

-- a list with more than so many items
pub record Parted (slots : List Slot) (k : ℕ) : Type 0 where
  pub before : List Slot
  pub cut : Slot
  pub later : List Slot
  pub parts : slots ≡ before ++ cut ∷ later
  pub counted : length before ≡ k

pub parted : (slots : List Slot) (k : ℕ) → k < length slots → Parted slots k
parted [] k below = absurd (omega arith)
parted (s ∷ slots) zero below =
    record { before = []; cut = s; later = slots; parts = refl; counted = refl }
parted (s ∷ slots) (suc k) below =
    let rest : Parted slots k = parted slots k (omega arith) in
    record {
      before = s ∷ rest.before;
      cut = rest.cut;
      later = rest.later;
      parts = ap (λ l. s ∷ l) rest.parts;
      counted = ap suc rest.counted;
    }

-- no slot is at a place behind the last
pub none-at : (slots : List Slot) (k : ℕ) → length slots ≤ k → slice_get slots k ≡ None
none-at [] k over = refl
none-at (s ∷ slots) zero over = absurd (omega arith)
none-at (s ∷ slots) (suc k) over = none-at slots k (omega arith)

-- a play with fewer slots stays
pub halt-behind : (levels : ℕ) (run : Play) (stop : Stop) (k : ℕ) → length run.slots ≤ k
    → halt levels run (suc k) stop ≡ run
halt-behind levels run stop k over =
    ap (λ found. option_map_or (cut_at levels stop (take k run.slots)) found run) (none-at run.slots k over)

pub halt-over : (levels : ℕ) (run : Play) (stop : Stop) (k : ℕ) → length run.slots < k → halt levels run k stop ≡ run
halt-over levels run stop zero over = absurd (omega arith)
halt-over levels run stop (suc k) over = halt-behind levels run stop k (omega arith)

pub halt-none : (levels : ℕ) (run : Play) (stop : Stop) → halt levels run 0 stop ≡ unprepared
halt-none levels run stop = refl

-- the numbers, the ending and the end time of a cut
pub halt-numbers : (levels : ℕ) (run : Play) (k : ℕ) (stop : Stop) (slot : Slot) → slice_get run.slots k ≡ Some slot
    → ((halt levels run (suc k) stop).numbers ≡ slot.left) × ((halt levels run (suc k) stop).ending ≡ ending_of stop)
    × ((halt levels run (suc k) stop).last ≡ end_of levels slot.start stop)
halt-numbers levels run k stop slot is =
    let whole : halt levels run (suc k) stop ≡ cut_at levels stop (take k run.slots) slot =
    ap (λ found. option_map_or (cut_at levels stop (take k run.slots)) found run) is in (
      ap (λ (r : Play). r.numbers) whole,
      ap (λ (r : Play). r.ending) whole,
      ap (λ (r : Play). r.last) whole,
    )

-- ---- a run that is halted
-- It is the slots before one and a part of that one, cut by a stop that can come there.
pub halted-parts : (levels : ℕ) (whole run : Play) → (h : IsHalted levels whole run)
    → (before later : List Slot) × (whole.slots ≡ before ++ h.slot ∷ later)
    × (run ≡ cut_at levels h.stop before h.slot)
halted-parts levels whole run h = by-place (cases_lt h.before (length whole.slots))
  where
    by-place : (h.before < length whole.slots) ⊎ (length whole.slots ≤ h.before)
        → (before later : List Slot) × (whole.slots ≡ before ++ h.slot ∷ later)
        × (run ≡ cut_at levels h.stop before h.slot)
    by-place (inr over) =
        absurd (let bad : ◌≡◌ {A = Option Slot} None (Some h.slot) = sym (none-at whole.slots h.before over) ∙ h.at in
        cc)
    by-place (inl below) =
        let p : Parted whole.slots h.before = parted whole.slots h.before below in
        let found : Some p.cut ≡ Some h.slot =
        sym (seam p.before p.later p.cut) ∙ ap (slice_get (p.before ++ p.cut ∷ p.later)) p.counted
        ∙ ap (λ (l : List Slot). slice_get l h.before) (sym p.parts) ∙ h.at in
        let same : p.cut ≡ h.slot = cc in
        let parts : whole.slots ≡ p.before ++ h.slot ∷ p.later =
        p.parts ∙ ap (λ (s : Slot). p.before ++ s ∷ p.later) same in (
          p.before,
          p.later,
          parts,
          h.is ∙ ap (λ n. halt levels whole (suc n) h.stop) (sym p.counted)
              ∙ halt-at levels whole h.stop p.before p.later h.slot parts,
        )

-- every such cut is one
pub cut-halted : (levels : ℕ) (whole : Play) (stop : Stop) (before later : List Slot) (slot : Slot)
    → whole.slots ≡ before ++ slot ∷ later → Fits levels stop slot
    → IsHalted levels whole (cut_at levels stop before slot)
cut-halted levels whole stop before later slot parts fits = record {
  before = length before;
  slot = slot;
  at = ap (λ (l : List Slot). slice_get l (length before)) parts ∙ seam before later slot;
  stop = stop;
  fits = fits;
  is = sym (halt-at levels whole stop before later slot parts);
}

-- its end time
end-within : (levels start : ℕ) (stop : Stop) (slot : Slot) → Fits levels stop slot
    → (start < end_of levels start stop) × (end_of levels start stop ≤ start + olat_of levels)
end-within levels start (Refused evidence) slot fits = (omega arith, omega arith)
end-within levels start (Overfull held) slot fits = (omega arith, omega arith)
end-within levels start (AppendRefused evidence) slot fits = (omega arith, omega arith)
end-within levels start (AppendOverfull held) slot fits = (omega arith, omega arith)
end-within levels start (MoveFails move) slot fits = by-move (cases_lt move (levels + 1))
  where
    by-move : (move < levels + 1) ⊎ (levels + 1 ≤ move)
        → (start < end_of levels start (MoveFails move))
        × (end_of levels start (MoveFails move) ≤ start + olat_of levels)
    by-move (inl less) =
        let is : end_of levels start (MoveFails move) ≡ start + 40 * move + 1 =
        ap (λ b. cond {A = ℕ} b (start + 40 * move) (writes_start levels start + 40 * (move - (levels + 1))) + 1)
        (lt-ltb move (levels + 1) less) in
        (omega (arith, is), omega (arith, is, less))
    by-move (inr over) =
        let is : end_of levels start (MoveFails move)
        ≡ writes_start levels start + 40 * (move - (levels + 1)) + 1 =
        ap (λ b. cond {A = ℕ} b (start + 40 * move) (writes_start levels start + 40 * (move - (levels + 1))) + 1)
        (le-ltb move (levels + 1) over) in
        (omega (arith, is), omega (arith, is, over, fits))

pub halted-ends : (levels : ℕ) (whole run : Play) → (h : IsHalted levels whole run)
    → (h.slot.start < run.last) × (run.last ≤ h.slot.start + olat_of levels)
halted-ends levels whole run h =
    let last : run.last ≡ end_of levels h.slot.start h.stop =
    ap (λ (r : Play). r.last) h.is ∙ (halt-numbers levels whole h.before h.stop h.slot h.at).2 in
    let within = end-within levels h.slot.start h.stop h.slot h.fits in
    (omega (arith, last, within.0), omega (arith, last, within.1))

-- ---- what no stop changes of a slot
-- the slot with other messages and another choice
abbrev pub changed : Slot → Option Message → Option ℕ → Option Message → Slot
changed slot put chosen appended = record slot { put = put; chosen = chosen; appended = appended }

pub part-keeps : {X : Type 0} (f : Slot → X) (levels : ℕ) (stop : Stop) (slot : Slot)
    → ((put : Option Message) (chosen : Option ℕ) (appended : Option Message)
    → f (changed slot put chosen appended) ≡ f slot)
    → f (part_of levels stop slot) ≡ f slot
part-keeps f levels (Refused evidence) slot same = same None None None
part-keeps f levels (Overfull held) slot same = same slot.put None None
part-keeps f levels (MoveFails move) slot same = by-move (nat_le move levels)
  where
    by-move : (early : Bool) → f (cond {A = Slot} early (before_put slot) (after_put slot)) ≡ f slot
    by-move true = same None None None
    by-move false = same slot.put None None
part-keeps f levels (AppendRefused evidence) slot same = refl
part-keeps f levels (AppendOverfull held) slot same = refl

-- the first so many, the last of which is this
first-with : {X : Type 0} (first later : List X) (x : X) (k : ℕ) → length first ≡ k
    → first ++ x ∷ [] ≡ take (suc k) (first ++ x ∷ later)
first-with first later x k counted =
    sym (take-append_seam (first ++ x ∷ []) later)
    ∙ ap (λ n. take n ((first ++ x ∷ []) ++ later))
    (let e : length (first ++ x ∷ []) ≡ suc k = omega (arith, length-append first (x ∷ []), counted) in e)
    ∙ ap (take (suc k)) (append_assoc first (x ∷ []) later)

-- the slots of a cut have the first of what the play's have
halt-keeps : {X : Type 0} (f : Slot → X) (levels : ℕ)
    → ((slot : Slot) (put : Option Message) (chosen : Option ℕ) (appended : Option Message)
    → f (changed slot put chosen appended) ≡ f slot)
    → (run : Play) (k : ℕ) (stop : Stop) → k ≤ length run.slots
    → map f (halt levels run k stop).slots ≡ take k (map f run.slots)
halt-keeps f levels same run zero stop below = refl
halt-keeps f levels same run (suc k) stop below =
    let p : Parted run.slots k = parted run.slots k (omega arith) in
    ap (λ n. map f (halt levels run (suc n) stop).slots) (sym p.counted)
    ∙ ap (λ (r : Play). map f r.slots) (halt-at levels run stop p.before p.later p.cut p.parts)
    ∙ map-append f p.before (part_of levels stop p.cut ∷ [])
    ∙ ap (λ x. map f p.before ++ x ∷ []) (part-keeps f levels stop p.cut (same p.cut))
    ∙ first-with (map f p.before) (map f p.later) (f p.cut) k (length-map p.before f ∙ p.counted)
    ∙ ap (take (suc k)) (sym (ap (map f) p.parts ∙ map-append f p.before (p.cut ∷ p.later)))

pub halt-starts : (levels : ℕ) (run : Play) (k : ℕ) (stop : Stop) → k ≤ length run.slots
    → starts_in (halt levels run k stop).slots ≡ take k (starts_in run.slots)
halt-starts levels = halt-keeps (λ (s : Slot). s.start) levels (λ slot put chosen appended. refl)

pub halt-points : (levels : ℕ) (run : Play) (k : ℕ) (stop : Stop) → k ≤ length run.slots
    → points_in (halt levels run k stop).slots ≡ take k (points_in run.slots)
halt-points levels = halt-keeps (λ (s : Slot). s.point) levels (λ slot put chosen appended. refl)

-- ---- the events of a cut
abbrev Begins : List PlayEvent → List PlayEvent → Type 0
Begins whole part = (rest : List PlayEvent) × (whole ≡ part ++ rest)

same-put : (put : Option Message) (chosen appended : List PlayEvent)
    → (tags_of put ++ chosen) ++ appended ≡ ((tags_of put ++ []) ++ []) ++ (chosen ++ appended)
same-put None chosen appended = refl
same-put (Some put) chosen appended = refl

begins-put : (slot : Slot) → Begins (slot_events slot) (slot_events (after_put slot))
begins-put slot = (
  chooses_of slot.chosen ++ tags_of slot.appended,
  ap (λ l. Starts slot.start slot.asked ∷ Draws slot.point ∷ l)
      (same-put slot.put (chooses_of slot.chosen) (tags_of slot.appended)),
)

begins-part : (levels : ℕ) (stop : Stop) (slot : Slot)
    → Begins (slot_events slot) (slot_events (part_of levels stop slot))
begins-part levels (Refused evidence) slot =
    (tags_of slot.put ++ chooses_of slot.chosen ++ tags_of slot.appended, refl)
begins-part levels (Overfull held) slot = begins-put slot
begins-part levels (MoveFails move) slot = by-move (nat_le move levels)
  where
    by-move : (early : Bool)
        → Begins (slot_events slot) (slot_events (cond {A = Slot} early (before_put slot) (after_put slot)))
    by-move true = (tags_of slot.put ++ chooses_of slot.chosen ++ tags_of slot.appended, refl)
    by-move false = begins-put slot
begins-part levels (AppendRefused evidence) slot = ([], sym (append-nil (slot_events slot)))
begins-part levels (AppendOverfull held) slot = ([], sym (append-nil (slot_events slot)))

cut-events : (levels : ℕ) (run : Play) (stop : Stop) (k : ℕ) → k < length run.slots
    → Begins (play_events run.slots) (play_events (halt levels run (suc k) stop).slots)
cut-events levels run stop k below =
    let p : Parted run.slots k = parted run.slots k below in
    let cut : Begins (slot_events p.cut) (slot_events (part_of levels stop p.cut)) =
    begins-part levels stop p.cut in
    let first : List PlayEvent = play_events p.before in
    let part : List PlayEvent = slot_events (part_of levels stop p.cut) in
    let more : List PlayEvent = play_events p.later in
    let is : play_events (halt levels run (suc k) stop).slots ≡ first ++ part =
    ap (λ n. play_events (halt levels run (suc n) stop).slots) (sym p.counted)
    ∙ ap (λ (r : Play). play_events r.slots) (halt-at levels run stop p.before p.later p.cut p.parts)
    ∙ flat_map-append slot_events p.before (part_of levels stop p.cut ∷ [])
    ∙ ap (λ l. first ++ l) (append-nil part) in (
      cut.0 ++ more,
      ap play_events p.parts
          ∙ flat_map-append slot_events p.before (p.cut ∷ p.later)
          ∙ ap (λ l. first ++ (l ++ more)) cut.1
          ∙ ap (λ l. first ++ l) (append_assoc part (cut.0) more)
          ∙ sym (append_assoc first part (cut.0 ++ more))
          ∙ ap (λ l. l ++ (cut.0 ++ more)) (sym is),
    )

pub halt-events : (levels : ℕ) (run : Play) (k : ℕ) (stop : Stop)
    → Begins (play_events run.slots) (play_events (halt levels run k stop).slots)
halt-events levels run zero stop = (play_events run.slots, refl)
halt-events levels run (suc k) stop = elim (cases_lt k (length run.slots)) [
  | inl below ↦ cut-events levels run stop k below
  | inr over ↦ (
    [],
    sym (append-nil (play_events run.slots))
        ∙ ap (λ (r : Play). play_events r.slots ++ []) (sym (halt-behind levels run stop k over)),
  )
]
