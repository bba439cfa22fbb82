-- The press and the folder meet what the laws ask of single steps.
use Rattle.std.proofs.Common.{◌≡◌, ℕ, zero, suc, ◌+◌, ◌-◌, ◌*◌, ◌<◌, Bool, true, false, if◌then◌else◌, [], ◌∷◌, ◌++◌}
use Rattle.std.proofs.Common.{Some, None, Ok, Err, refl, sym, ap, subst, inl, inr, ◌∙◌, append-nil, arith}
use Rattle.std.proofs.lemmas.Grind.{flat_map-append}
use Rattle.std.specs.List.{flat_map}
use Rattle.request_plan.specs.Plan.{Ends, Stops, ComesTo}
use Rattle.request_plan.specs.Play.{Turn, play, bare, halt}
use Rattle.request_plan.specs.Laws.{AnswersKeep, Within, EndsBelow, StopsBelow, Tells, NotesAnswers, StopsUnnoted}
use Rattle.request_plan.specs.Laws.{StaysClean, TakesTurns, CutsTurns, EndsTurns, StaysQuiet}
use Rattle.request_plan.specs.Press.{PressState, loaded, with_sheet, Prints, IsSound, IsFew, sheets_to, pages_of, pages}
use Rattle.request_plan.specs.Press.{IsFirstPage, IsJam, IsOut, shift_of, shift, IsLike, IsEmpty, told_sheets}
use Rattle.request_plan.specs.Press.{count_sheet, numbers, FolderState, leaflet_plan, Folds, hand_out, sheets_plan}
use Rattle.request_plan.specs.declared.press.Halted.TheVariants.{NoPaper, Jammed}
use Rattle.request_plan.proofs.Plays.{IsCut, Stops-follows, Stops-late}
use Rattle.request_plan.proofs.Keeps.{Stops-narrows}

-- after an answer
after-sheet : (s t : PressState) → t ≡ with_sheet s
    → (t.sheets ≡ s.sheets + 1) × (t.paper ≡ s.paper - 1) × (t.jammed ≡ s.jammed)
after-sheet s t e =
    (ap (λ (p : PressState). p.sheets) e, ap (λ (p : PressState). p.paper) e, ap (λ (p : PressState). p.jammed) e)

pub press-keeps : AnswersKeep Prints IsSound
press-keeps s t q x h sound = (after-sheet s t h.3).2 ∙ sound

pub press-clean : StaysClean (Within IsSound Prints) IsFew
press-clean s t q (Ok x) h few =
    let more : t.sheets ≡ s.sheets + 1 = (after-sheet s t (h.1).3).0 in omega arith
press-clean s t q (Err NoPaper) h few = subst IsFew ((h.1).2) few
press-clean s t q (Err Jammed) h few =
    let same : t.sheets ≡ s.sheets = ap (λ (p : PressState). p.sheets) ((h.1).0) in omega arith

-- the turn of a server with some paper
shift-some : (n paper : ℕ) → 0 < paper
    → shift_of n paper ≡ record { records = (n + 1) ∷ []; held = (n + 1, paper - 1); answer = n + 1 }
shift-some n zero some = absurd (omega arith)
shift-some n (suc paper) some =
    ap
    (λ (k : ℕ). let turn : Turn ℕ (ℕ × ℕ) ℕ = record {
      records = (n + 1) ∷ [];
      held = (n + 1, k);
      answer = n + 1;
    } in turn)
    (let e : paper ≡ suc paper - 1 = omega arith in e)

-- the pages of a press that hasn't jammed
pages-sound : (p : PressState) (n : ℕ) → p.jammed ≡ false → p.sheets ≡ n → pages p ≡ flat_map pages_of (sheets_to n)
pages-sound p n sound is =
    ap (λ b. flat_map pages_of (sheets_to p.sheets) ++ (if b then (2 * (p.sheets + 1)) ∷ [] else [])) sound
    ∙ append-nil (flat_map pages_of (sheets_to p.sheets))
    ∙ ap (λ k. flat_map pages_of (sheets_to k)) is

-- one sheet more
sheets-next : (n : ℕ) → sheets_to (n + 1) ≡ sheets_to n ++ (n + 1) ∷ []
sheets-next n = let e : n + 1 ≡ suc n = omega arith in rw e refl

pages-next : (n : ℕ)
    → flat_map pages_of (sheets_to (n + 1)) ≡ flat_map pages_of (sheets_to n) ++ flat_map pages_of ((n + 1) ∷ [])
pages-next n = ap (flat_map pages_of) (sheets-next n) ∙ flat_map-append pages_of (sheets_to n) ((n + 1) ∷ [])

pub press-turns : TakesTurns (Within IsSound Prints) shift IsLike pages pages_of IsFew
press-turns s t q x h few held like =
    let n : ℕ = held.0 in
    let some : 0 < held.1 = omega (arith, (h.1).1, like.1) in
    let after = after-sheet s t ((h.1).3) in
    let turn = shift-some n (held.1) some in
    let sheets : s.sheets ≡ n = like.0 in
    let more : t.sheets ≡ n + 1 = omega (arith, after.0, sheets) in
    let less : t.paper ≡ held.1 - 1 = omega (arith, after.1, like.1) in
    let number : x ≡ n + 1 = omega (arith, (h.1).4, sheets) in
    subst (λ (turn : Turn ℕ (ℕ × ℕ) ℕ). (x ≡ turn.answer) × IsLike t turn.held
    × (pages t ≡ pages s ++ flat_map pages_of turn.records))
    (sym turn) (
      number,
      (more, less),
      pages-sound t (n + 1) (after.2 ∙ h.0) more
          ∙ pages-next n
          ∙ ap (λ l. l ++ flat_map pages_of ((n + 1) ∷ [])) (sym (pages-sound s n (h.0) sheets)),
    )

-- a jammed press printed one page more
pages-jammed : (s t : PressState) (n : ℕ) → t ≡ record s { jammed = true } → s.jammed ≡ false → s.sheets ≡ n
    → pages t ≡ pages s ++ (2 * (n + 1)) ∷ []
pages-jammed s t n e sound is =
    ap pages e
    ∙ ap (λ l. l ++ (2 * (s.sheets + 1)) ∷ []) (sym (pages-sound s (s.sheets) sound refl))
    ∙ ap (λ k. pages s ++ (2 * (k + 1)) ∷ []) is

pub press-cuts : CutsTurns (Within IsSound Prints) shift IsLike pages pages_of IsJam IsFirstPage IsFew
press-cuts s t q Jammed h jam few held (sheets, paper) =
    let n : ℕ = held.0 in
    let some : 0 < s.paper = elim ((h.1).1) [
      | inl jammed ↦ absurd (let never : true ≡ false = sym jammed ∙ h.0 in cc)
      | inr fresh ↦ fresh.1
    ] in
    let turn = shift-some n (held.1) (omega (arith, some, paper)) in (
      [],
      n + 1,
      [],
      (2 * (n + 1)) ∷ [],
      ap (λ (turn : Turn ℕ (ℕ × ℕ) ℕ). turn.records) turn,
      pages-jammed s t n ((h.1).0) (h.0) sheets ∙ ap (λ l. l ++ (2 * (n + 1)) ∷ []) (sym (append-nil (pages s))),
      refl,
    )
press-cuts s t q NoPaper h jam few held like = absurd (cc)

-- a server without paper
shift-none : (n paper : ℕ) → paper ≡ 0 → shift_of n paper ≡ record { records = []; held = (n, 0); answer = 0 }
shift-none n paper e = rw e refl

pub press-late : EndsTurns (Within IsSound Prints) shift IsLike pages pages_of IsOut IsEmpty IsFew
press-late s t q NoPaper h out few held like =
    let none : held.1 ≡ 0 = omega (arith, (h.1).1, like.1) in
    subst (λ (turn : Turn ℕ (ℕ × ℕ) ℕ). IsEmpty turn.held × IsLike t turn.held
    × (pages t ≡ pages s ++ flat_map pages_of turn.records))
    (sym (shift-none (held.0) (held.1) none)) (
      refl,
      (ap (λ (p : PressState). p.sheets) ((h.1).2) ∙ like.0, ap (λ (p : PressState). p.paper) ((h.1).2) ∙ (h.1).1),
      ap pages ((h.1).2) ∙ sym (append-nil (pages s)),
    )
press-late s t q Jammed h out few held like = absurd (cc)

pub press-quiet : StaysQuiet shift IsLike IsEmpty
press-quiet held q empty =
    subst (λ (turn : Turn ℕ (ℕ × ℕ) ℕ). (turn.records ≡ []) × IsEmpty turn.held × ((t : PressState) → IsLike t held
    → IsLike t turn.held))
    (sym (shift-none (held.0) (held.1) empty)) (refl, refl, λ t like. (like.0, like.1 ∙ empty))

pub press-notes : NotesAnswers (Within IsSound Prints) numbers (λ (p : PressState). sheets_to p.sheets)
press-notes s t q x h =
    let after : t.sheets ≡ s.sheets + 1 = (after-sheet s t ((h.1).3)).0 in
    (s.sheets + 1, ap sheets_to after ∙ sheets-next s.sheets, ap Some (sym ((h.1).4)))

pub press-unnoted : StopsUnnoted (Within IsSound Prints) (λ (p : PressState). sheets_to p.sheets)
press-unnoted s t q NoPaper h = ap (λ (p : PressState). sheets_to p.sheets) ((h.1).2)
press-unnoted s t q Jammed h = ap (λ (p : PressState). sheets_to p.sheets) ((h.1).0)

pub press-tells : Tells (Within IsSound Prints) told_sheets count_sheet
press-tells s t q x h held e =
    let after = after-sheet s t ((h.1).3) in
    let now : told_sheets t ≡ Some t.sheets = ap (λ b. if b then None else Some t.sheets) (after.2 ∙ h.0) in
    let same : t.sheets ≡ held = cc in (
      s.sheets,
      ap (λ b. if b then None else Some s.sheets) (h.0),
      ap (λ k. (k, s.sheets + 1)) (sym ((h.1).4)) ∙ ap (λ k. (x, k)) (sym after.0 ∙ same),
    )

-- A folder's steps are its plan's, by what a step of it is.
pub folder-ends : EndsBelow Prints Folds (λ (f : FolderState). f.press) (λ (f : FolderState). f.leaflets) leaflet_plan
folder-ends s t q x h = h

pub folder-stops : StopsBelow Prints Folds
    (λ (f : FolderState). f.press) (λ (f : FolderState). f.leaflets) (λ (f : FolderState). tt) leaflet_plan
folder-stops s t q e h = h.0

-- ---- rows
-- A jammed press answers so for good.
pub stays_jammed : (s : PressState) → s.jammed ≡ true → Prints s tt (Err Jammed) s
stays_jammed s jammed = (ap (λ (b : Bool). let p : PressState = record s { jammed = b } in p) jammed, inl jammed)

-- Two sheets of a press that has three and jams after two.
abbrev pub after_two : PressState
after_two = record { sheets = 2; paper = 1; sound = 0; jammed = false }

pub two_sheets : Ends Prints (sheets_plan 2) (loaded 3 2) after_two 2
two_sheets = (
  1,
  with_sheet (loaded 3 2),
  (refl, omega arith, omega arith, refl, refl),
  (2, after_two, (refl, omega arith, omega arith, refl, refl), (refl, refl)),
)

-- The third is cut: its first page was printed, and one sheet was left to do.
pub third_is_cut : Stops Prints (sheets_plan 3) (loaded 3 2) (record after_two { jammed = true }) Jammed 1
third_is_cut = inr (
  1,
  with_sheet (loaded 3 2),
  (refl, omega arith, omega arith, refl, refl),
  inr (
    2,
    after_two,
    (refl, omega arith, omega arith, refl, refl),
    inl ((refl, inr (refl, omega arith, refl)), refl),
  ),
)

pub third-noted : IsCut pages_of IsFirstPage pages (play shift (sheets_plan 3) (0, 3)) (loaded 3 2)
    (record after_two { jammed = true }) Jammed 1
third-noted =
    Stops-follows (Within IsSound Prints) shift IsLike pages pages_of IsFew press-clean press-turns IsJam
    IsFirstPage press-cuts
    (sheets_plan 3) (loaded 3 2) (record after_two { jammed = true }) Jammed 1
    (Stops-narrows Prints IsSound press-keeps (sheets_plan 3) (loaded 3 2)
    (record after_two { jammed = true }) Jammed 1 refl third_is_cut)
    refl (omega arith) (0, 3) (refl, refl)

pub third_halt : halt 0 (play shift (sheets_plan 3) (0, 3)) 3 ≡ (1 ∷ 2 ∷ 3 ∷ [], 1)
third_halt = refl

pub third_pages : pages (record after_two { jammed = true }) ≡ 2 ∷ 3 ∷ 4 ∷ 5 ∷ 6 ∷ []
third_pages = refl

-- A press with paper for two has no third, and printed the whole play.
abbrev pub out_of_paper : PressState
out_of_paper = record { sheets = 2; paper = 0; sound = 7; jammed = false }

pub third_is_late : Stops Prints (sheets_plan 3) (loaded 2 9) out_of_paper NoPaper 1
third_is_late = inr (
  1,
  with_sheet (loaded 2 9),
  (refl, omega arith, omega arith, refl, refl),
  inr (
    2,
    out_of_paper,
    (refl, omega arith, omega arith, refl, refl),
    inl ((refl, refl, refl), refl),
  ),
)

pub late-noted : pages out_of_paper ≡ flat_map pages_of (bare ((play shift (sheets_plan 3) (0, 2)).records))
late-noted =
    (Stops-late (Within IsSound Prints) shift IsLike pages pages_of IsFew press-clean press-turns IsOut IsEmpty
    press-late press-quiet
    (sheets_plan 3) (loaded 2 9) out_of_paper NoPaper 1
    (Stops-narrows Prints IsSound press-keeps (sheets_plan 3) (loaded 2 9) out_of_paper NoPaper 1 refl third_is_late)
    refl (omega arith) (0, 2) (refl, refl)).1

-- A sheet is handed out, or refused for its number.
pub handed : ComesTo Prints (hand_out 1 tt) (loaded 3 2) (Ok 1) (with_sheet (loaded 3 2))
handed = (1, with_sheet (loaded 3 2), (refl, omega arith, omega arith, refl, refl), (refl, refl))

pub refused : ComesTo Prints (hand_out 0 tt) (loaded 3 2) (Err NoPaper) (with_sheet (loaded 3 2))
refused = inl (1, with_sheet (loaded 3 2), (refl, omega arith, omega arith, refl, refl), (refl, refl))
