-- What an answered request keeps of what is known, or a forgery.
use Rattle.std.proofs.Common.{◌≡◌, ◌<◌, ◌+◌, ◌++◌, ◌⊎◌, inl, inr, ℕ, zero, suc, List, [], ◌∷◌, Option, None, Some}
use Rattle.std.proofs.Common.{length}
use Rattle.std.proofs.Common.{count_by, refl, sym, ap, ◌∙◌, subst, arith, append-nil, append_assoc, length-append}
use Rattle.std.proofs.lemmas.Bool.{cases_eq}
use Rattle.asc_base.proofs.Lookups.{count_by-cons}
use Rattle.asc_base.specs.Has.{Has}
use Rattle.asc_base.specs.TreeShape.{parent_of, children_of}
use Rattle.asc_base.specs.declared.block.Counter.{Counter}
use Rattle.asc_base.specs.declared.block.Entry.{Entry}
use Rattle.bus_watch.specs.Log.{LogLists}
use Rattle.asc_base.specs.declared.block.Point.{Point}
use Rattle.asc_base.specs.declared.block.Point.TheVariants.{Dummy}
use Rattle.bus_watch.specs.declared.log.Event.{Event}
use Rattle.bus_watch.specs.declared.log.Event.TheVariants.{Access as Starts, Drawn, Accepted, Chosen, Tagged}
use Rattle.oram_contents.specs.Contents.{Contents, after_write}
use Rattle.oram_contents.specs.Counts.{Ghost, line_at, line_by, put_at}
use Rattle.oram_contents.specs.Decided.{draws}
use Rattle.oram_contents.specs.Entries.{Keys, AreKeys, real, message_of}
use Rattle.oram_contents.specs.Forgery.{Forgery}
use Rattle.oram_contents.specs.Provenance.{Sound, Always}
use Rattle.oram_contents.specs.Slots.{ArePasses, IsAccess, IsRefill, IsEnd, MayRise, HasSeeds, drawn_events, done}
use Rattle.oram_contents.specs.Slots.{refilled, passed_by}
use Rattle.oram_contents.specs.Steps.{Adds, accepted}
use Rattle.oram_contents.proofs.GrowSteps.{forgery_more}
use Rattle.oram_contents.proofs.DummySteps.{passes_keep}
use Rattle.oram_contents.proofs.RefillSteps.{refill_sound, refill_always}
use Rattle.oram_stash.specs.Entries.{without}
use Rattle.oram_contents.specs.Verdict.{line_found}
use Rattle.oram_contents.proofs.Ends.{sound_ends, always_ends, forgery_ends}
use Rattle.asc_base.proofs.Families.{parent_above}
use Rattle.asc_base.proofs.ShapeFacts.{shape_layered}
use Rattle.posmap_counters.proofs.DigitLaws.{length-digits}
use Rattle.posmap_counters.proofs.Order.{before_irreflexive}
use Rattle.posmap_counters.specs.Digits.{digits}
use Rattle.posmap_counters.specs.Group.{line_of}
use Rattle.std.specs.Int.Digits.{number_from_digits}
use Rattle.oram_contents.proofs.Lines.{put_same, put_other, line_same}
use Rattle.oram_contents.proofs.HomeSlots.{access_home, refill_home, passes_home}
use Rattle.oram_contents.specs.Home.{Home, AreInForm}
use Rattle.oram_contents.proofs.Final.{final_sound, final_always}
use Rattle.oram_walk.specs.declared.slots.Access.{Access}
use Rattle.oram_walk.specs.declared.slots.Purpose.{Purpose}
use Rattle.oram_walk.specs.declared.slots.Purpose.TheVariants.{Refill, Keep, Replace}
use Rattle.oram_walk.specs.declared.slots.Seen.{Seen}
use Rattle.rate_enforcer.specs.PortStep.{PortState, contents}
use Rattle.oram_frontend.specs.Slots.{IsServedSlot, SlotOf, Keeps}
use Rattle.oram_contents.proofs.FormLaws.{access_forms, refill_forms, passes_forms}
use Rattle.oram_lines.proofs.HomePlaces.{none_before, passes_none}
use Rattle.oram_lines.proofs.PointLaws.{passes_once, passes_has, slot_once, end_once, silent_by}
use Rattle.oram_lines.specs.Standing.{IsKnown, Undrawn, DrawnOnce, after_access, later, FitsPurpose}

pub count_append : (xs ys : List Event) → count_by draws (xs ++ ys) ≡ count_by draws xs + count_by draws ys
count_append [] ys = omega arith
count_append (x ∷ xs) ys =
    let next = count_append xs ys in
    let whole = count_by-cons draws x (xs ++ ys) in
    let part = count_by-cons draws x xs in
    omega arith

-- a slot's start draws one point
begin_draws : (keys : Keys) (start : ℕ) (asked : Option ℕ) (p : Point)
    → count_by draws (drawn_events keys start asked p) ≡ 1
begin_draws keys start asked p =
    let first = count_by-cons draws (Starts start asked) (Drawn p (record { 0 = keys.leaf_of p }) ∷ []) in
    let second = count_by-cons draws (Drawn p (record { 0 = keys.leaf_of p })) [] in
    omega arith

-- a choice draws nothing
end_draws : (old new : LogLists) → IsEnd old new → count_by draws new.events ≡ count_by draws old.events
end_draws old new e = by_event e.events
  where
    by_event : (new.events ≡ old.events) ⊎ ((index : ℕ) × (new.events ≡ old.events ++ Chosen index ∷ []))
        → count_by draws new.events ≡ count_by draws old.events
    by_event (inl same) = ap (count_by draws) same
    by_event (inr (index, is)) =
        let whole = ap (count_by draws) is in
        let both = count_append old.events (Chosen index ∷ []) in
        let none = count_by-cons draws (Chosen index) [] in
        omega arith

-- each dummy draws one point
pub passes_draw : (keys : Keys) (k : ℕ) (old new : LogLists) (now after : Contents) (n : ℕ)
    → ArePasses keys k old new now after n → count_by draws new.events ≡ count_by draws old.events + k
passes_draw keys zero old new now after n are =
    let same = ap (λ (l : LogLists). count_by draws l.events) are.0 in omega arith
passes_draw keys (suc k) old new now after n are =
    let before = passes_draw keys k old are.0 now are.1 n are.3 in
    let x = are.5 in
    let last = end_draws x.mid new x.ends in
    let start = drawn_events keys are.2 x.pass.asked (Dummy (n + k)) in
    let both = count_append are.0.events start in
    let is = ap (count_by draws) x.pass.events_are in
    let one = begin_draws keys are.2 x.pass.asked (Dummy (n + k)) in
    omega arith

pub passed_is : (g : Ghost) (k : ℕ) → g.path ≡ None → passed_by k g ≡ later g k
passed_is g zero closed = let same : g.dummies ≡ g.dummies + 0 = omega arith in λ i. record g { dummies = same i }
passed_is g (suc k) closed =
    let before = passed_is g k closed in
    let same : g.dummies + k + 1 ≡ g.dummies + suc k = omega arith in
    ap (λ (h : Ghost). record h { path = None; dummies = h.dummies + 1 }) before
    ∙ (λ i. record g { path = sym closed i; dummies = same i })

-- what is accepted draws nothing, and what is tagged neither
accepted_draws : (a : ℕ) (c : Counter) (found : Option Entry) → count_by draws (accepted a c found) ≡ 0
accepted_draws a c None = refl
accepted_draws a c (Some e) = count_by-cons draws (Accepted (message_of a c e.line.0) e.tag) []

-- a position-map block's line has 64 bytes
line_of-length : (group : ℕ) (own : List ℕ) → length (line_of group own) ≡ 64
unfolding line_of
line_of-length group own =
    let first = length-digits 256 8 group in
    let second = length-digits 256 56 (number_from_digits 16384 own) in
    length-append (digits 256 8 group) (digits 256 56 (number_from_digits 16384 own)) ∙ omega (arith, first, second)

module _ (keys : Keys) (lawful : AreKeys keys) where
  -- a block's line is the same after its slot, in which that line is put back
  pub kept_line : (g : Ghost) (a : ℕ) (c : Counter) (l : List ℕ) → a < keys.shape.total → l ≡ line_at keys.shape g a
      → l ≡ line_at keys.shape (done g a c l) a
  kept_line g a c l inside is = by_children (children_of keys.shape.lines keys.shape.layers a) refl
    where
      other : parent_of keys.shape.lines keys.shape.layers a ≡ Some a → ⊥
      other up =
          let above = parent_above keys.shape.lines keys.shape.layers a a
          (omega (arith, inside, (shape_layered keys.shape lawful.shape).total)) up in
          absurd (omega (arith, above.0))

      by_children : (o : Option (ℕ × ℕ)) → children_of keys.shape.lines keys.shape.layers a ≡ o
          → l ≡ line_at keys.shape (done g a c l) a
      by_children None at =
          sym (ap (line_by (put_at g.count a c) (put_at g.data_lines a l a)) at ∙ put_same g.data_lines a l)
      by_children (Some family) at =
          let now : line_at keys.shape (done g a c l) a
          ≡ line_by g.count (put_at g.data_lines a l a) (children_of keys.shape.lines keys.shape.layers a) =
          line_same keys.shape g.count a c (put_at g.data_lines a l a) a lawful.shape inside other in
          is ∙ ap (line_by g.count (g.data_lines a)) at
          ∙ sym (now ∙ ap (line_by g.count (put_at g.data_lines a l a)) at)

  -- a data line is what was stored
  pub stored_line : (g : Ghost) (a : ℕ) (c : Counter) (l : List ℕ)
      → children_of keys.shape.lines keys.shape.layers a ≡ None → l ≡ line_at keys.shape (done g a c l) a
  stored_line g a c l at =
      sym (ap (line_by (put_at g.count a c) (put_at g.data_lines a l a)) at ∙ put_same g.data_lines a l)

  -- each line has 64 bytes
  pub line_length : (g : Ghost) (a : ℕ) → length (g.data_lines a) ≡ 64 → length (line_at keys.shape g a) ≡ 64
  line_length g a bytes = by_children (children_of keys.shape.lines keys.shape.layers a)
    where
      by_children : (o : Option (ℕ × ℕ)) → length (line_by g.count (g.data_lines a) o) ≡ 64
      by_children None = bytes
      by_children (Some family) = line_of-length _ _

  -- a slot that puts its block back is, up to what it puts back, a refill's
  as_refill : (old new : LogLists) (now after : Contents) (start a : ℕ) (c c' : Counter) (found : Option Entry)
      (l : List ℕ) → IsAccess keys old new now after start a c c' found l
      → (log : LogLists) × (then_ : Contents) × IsRefill keys old log now then_ start a c found
      × Adds log new (Tagged (message_of a c' l) ∷ []) []
  as_refill old new now after start a c c' found l x = (
    record {
      moves = new.moves;
      events = old.events ++ (drawn_events keys start x.asked (real a c) ++ accepted a c found);
      altered = new.altered;
    },
    after_write keys.pads keys.shape.levels (keys.leaf_of (real a c))
        (record now { hand = without x.joined (record { 0 = a }) }),
    record {
      asked = x.asked;
      altered = x.altered;
      joined = x.joined;
      events_are = refl;
      altered_are = x.altered_are;
      noted = x.noted;
      read = x.read;
      of_shape = x.of_shape;
      found_is = x.found_is;
      right = x.right;
      after_is = refl;
    },
    record {
      events_are = x.events_are ∙ sym (append_assoc old.events
          (drawn_events keys start x.asked (real a c) ++ accepted a c found) (Tagged (message_of a c' l) ∷ [])
          ∙ ap (λ e. old.events ++ e) (append_assoc (drawn_events keys start x.asked (real a c)) (accepted a c found)
          (Tagged (message_of a c' l) ∷ [])));
      altered_are = sym (append-nil new.altered);
    },
  )

  -- what is found is the block's line, or the log shows a forgery
  found_right : (old new : LogLists) (g : Ghost) (now after : Contents) (start a : ℕ) (c' : Counter)
      (found : Option Entry) (l : List ℕ) → IsAccess keys old new now after start a (g.count a) c' found l
      → g.path ≡ None → g.pend ≡ Some a → MayRise keys g a c' → HasSeeds now → Always keys old now
      → Sound keys old g now → Forgery keys new ⊎ (line_found found ≡ line_at keys.shape g a)
  found_right old new g now after start a c' found l x closed next rises room w s =
      let (log, then_, refill, adds) = as_refill old new now after start a (g.count a) c' found l x in
      elim (refill_sound keys lawful old log g now then_ start a c' found refill closed next rises room w s) [
        | inl forged ↦ inl (forgery_more keys log new (Tagged (message_of a c' l) ∷ []) [] adds forged)
        | inr both ↦ inr both.1
      ]

  -- what is known after a slot whose block was put back or is in flight
  known_after : (old new : PortState) (g g' : Ghost) (log : LogLists) (levels least k start : ℕ) (a : ℕ) (c : Counter)
      (found : Option Entry) (asked : Option ℕ) (mid : LogLists) (between : Contents) (tail : List Event)
      → IsKnown keys g old → Undrawn old.tap.log.events (real a c) → Keeps keys levels least old new
      → ArePasses keys k old.tap.log mid (contents old) between old.clock.dummies
      → log.events ≡ mid.events ++ (drawn_events keys start asked (real a c) ++ (accepted a c found ++ tail))
      → count_by draws tail ≡ 0 → IsEnd log new.tap.log
      → new.clock.dummies ≡ old.clock.dummies + k → new.clock.real ≡ old.clock.real + 1
      → g'.dummies ≡ g.dummies + k → g'.path ≡ None → ((b : ℕ) → length (g'.data_lines b) ≡ 64)
      → Sound keys log g' (contents new) → Always keys log (contents new) → AreInForm keys new.tap.mirror
      → (log.altered ≡ [] → Home keys g' (contents new)) → IsKnown keys g' new
  known_after old new g g' log levels least k start a c found asked mid between tail known unseen keeps
      passes events silent
      ends dummies real_is number closed bytes s w forms home = record {
        fits = keeps.fits;
        sound = sound_ends keys log new.tap.log g' (contents new) ends s;
        always = always_ends keys log new.tap.log (contents new) ends w;
        closed = closed;
        dummies = omega (arith, dummies, number, known.dummies);
        drawn =
            let before = passes_draw keys k old.tap.log mid (contents old) between old.clock.dummies passes in
            let last = end_draws log new.tap.log ends in
            let is = ap (count_by draws) events in
            let first = count_append mid.events
            (drawn_events keys start asked (real a c) ++ (accepted a c found ++ tail)) in
            let second = count_append (drawn_events keys start asked (real a c)) (accepted a c found ++ tail) in
            let third = count_append (accepted a c found) tail in
            let one = begin_draws keys start asked (real a c) in
            let none = accepted_draws a c found in
            omega (arith, before, last, is, first, second, third, one, none, silent, known.drawn, dummies, real_is);
        points =
            let (once, below) = passes_once keys k old.tap.log mid (contents old) between old.clock.dummies passes
            known.points (λ m x has. let less = known.sound.dummies m x has in omega (arith, less, known.dummies)) in
            let quiet : count_by draws (accepted a c found ++ tail) ≡ 0 =
            omega (arith, count_append (accepted a c found) tail, accepted_draws a c found, silent) in
            end_once keys log new.tap.log ends (subst DrawnOnce (sym events)
            (slot_once keys mid.events start asked (real a c) (accepted a c found ++ tail) once
            (λ x has. unseen x
            (passes_has keys k old.tap.log mid (contents old) between old.clock.dummies passes a c x has))
            (silent_by (accepted a c found ++ tail) quiet)));
        forms = forms;
        home = λ none. home (sym ends.altered ∙ none);
        bytes = bytes;
      }

  put_bytes : (g : Ghost) (a : ℕ) (l : List ℕ) → ((b : ℕ) → length (g.data_lines b) ≡ 64) → length l ≡ 64
      → (b : ℕ) → length (put_at g.data_lines a l b) ≡ 64
  put_bytes g a l bytes whole b = elim (cases_eq b a) [
    | inl is ↦ subst (λ n. length (put_at g.data_lines a l n) ≡ 64) (sym is)
        (ap length (put_same g.data_lines a l) ∙ whole)
    | inr other ↦ ap length (put_other g.data_lines a l b other) ∙ bytes b
  ]

  -- a served access: the answered line is the block's, and what is known stays so, or the log shows a forgery
  module _ (g : Ghost) (access : Access) (seen : Seen) (old new : PortState) (levels least : ℕ)
      (known : IsKnown keys g old) (x : IsServedSlot keys access seen old new)
      (keeps : Keeps keys levels least old new) (flight : g.flight ≡ None)
      (pend : g.pend ≡ Some access.address.0) (counter : access.counter ≡ g.count access.address.0)
      (rises : MayRise keys g access.address.0 access.next) (unheld : Has access.address.0 g.held → ⊥)
      (unseen : Undrawn old.tap.log.events (real access.address.0 access.counter)) where
    abbrev a : ℕ
    a = access.address.0

    abbrev next : Ghost
    next = later g x.passed

    abbrev Right : Purpose → Type 0
    Right purpose = Forgery keys new.tap.log
        ⊎ (IsKnown keys (after_access keys.shape next access purpose) new
        × (seen.line.0 ≡ line_at keys.shape g access.address.0))

    before : Always keys x.mid x.between × Sound keys x.mid next x.between
    before =
        let both = passes_keep keys lawful x.passed old.tap.log x.mid g (contents old) x.between old.clock.dummies
        x.passes known.closed known.dummies known.always known.sound in
        (both.0, subst (λ h. Sound keys x.mid h x.between) (passed_is g x.passed known.closed) both.1)

    rises_next : MayRise keys next access.address.0 access.next
    rises_next = record { inside = rises.inside; up = rises.up; parent = rises.parent }

    mid_home : x.mid.altered ≡ [] → Home keys next x.between
    mid_home none =
        let both = passes_home keys lawful x.passed old.tap.log x.mid g
        (contents old) x.between old.clock.dummies x.passes
        none known.closed known.always (known.home (passes_none keys x.passed old.tap.log x.mid (contents old) x.between
        old.clock.dummies x.passes none)) in
        subst (λ h. Home keys h x.between) (passed_is g x.passed known.closed) both.1

    forms : AreInForm keys x.between.mirror
    forms = (passes_forms keys lawful x.passed old.tap.log x.mid g (contents old) x.between old.clock.dummies x.passes
        known.always known.forms).1

    forged : Forgery keys x.log → Forgery keys new.tap.log
    forged f = forgery_ends keys x.log new.tap.log x.ends f

    put_right : (purpose : Purpose) (l : List ℕ)
        → IsAccess keys x.mid x.log x.between (contents new) x.start a access.counter access.next x.found l
        → after_access keys.shape next access purpose ≡ done next a access.next l
        → l ≡ line_at keys.shape (done next a access.next l) a → length l ≡ 64 → Right purpose
    put_right purpose l y is line whole =
        let z = subst (λ c. IsAccess keys x.mid x.log x.between (contents new) x.start a c access.next x.found l)
        counter y in
        let (w, s) = before in
        let w1 = final_always keys lawful x.mid x.log next x.between (contents new) x.start a access.next x.found l z
        rises.inside whole x.seeds w in
        elim (final_sound keys lawful x.mid x.log next x.between (contents new) x.start a access.next x.found l z
        (record { path = known.closed; flight = flight }) pend rises_next unheld line whole x.seeds w s) [
          | inl f ↦ inl (forged f)
          | inr both ↦ inr (
            subst (λ h. IsKnown keys h new) (sym is)
                (known_after old new g (done next a access.next l) x.log levels least x.passed x.start a access.counter
                x.found y.asked x.mid x.between (Tagged (message_of a access.next l) ∷ []) known unseen keeps x.passes
                y.events_are (count_by-cons draws (Tagged (message_of a access.next l)) []) x.ends x.dummies x.real
                refl refl (put_bytes g a l known.bytes whole) both.0 w1
                (access_forms keys lawful x.mid x.log next x.between (contents new) x.start a access.next x.found l z
                rises.inside whole x.seeds w forms) (λ none.
                access_home keys lawful x.mid x.log next x.between (contents new) x.start a access.next x.found l z none
                known.closed flight rises.inside whole rises.up x.seeds w
                (mid_home (none_before x.mid.altered z.altered x.log.altered z.altered_are none)))),
            x.line ∙ both.1,
          )
        ]

    keep_right : IsAccess keys x.mid x.log x.between (contents new) x.start a access.counter access.next x.found
        (line_found x.found) → Right Keep
    keep_right y =
        let z = subst (λ c. IsAccess keys x.mid x.log x.between (contents new) x.start a c access.next x.found
        (line_found x.found)) counter y in
        let (w, s) = before in
        elim (found_right x.mid x.log next x.between (contents new) x.start a access.next x.found (line_found x.found)
        z known.closed pend rises_next x.seeds w s) [
          | inl f ↦ inl (forged f)
          | inr same ↦ put_right Keep (line_found x.found) y
              (ap (λ (l : List ℕ). done next a access.next l) (sym same))
              (kept_line next a access.next (line_found x.found) rises.inside same)
              (ap length same ∙ line_length g a (known.bytes a))
        ]

    refill_right : IsRefill keys x.mid x.log x.between (contents new) x.start a access.counter x.found → Right Refill
    refill_right y =
        let z = subst (λ c. IsRefill keys x.mid x.log x.between (contents new) x.start a c x.found) counter y in
        let (w, s) = before in
        let w1 = refill_always keys lawful x.mid x.log next x.between (contents new) x.start a access.next x.found z
        x.seeds w in
        elim (refill_sound keys lawful x.mid x.log next x.between (contents new) x.start a access.next x.found z
        known.closed pend rises_next x.seeds w s) [
          | inl f ↦ inl (forged f)
          | inr both ↦ inr (
            known_after old new g (refilled next a access.next) x.log levels least x.passed x.start a access.counter
                x.found y.asked x.mid x.between [] known unseen keeps x.passes
                (y.events_are
                ∙ ap (λ e. x.mid.events ++ (drawn_events keys x.start y.asked (real a access.counter) ++ e))
                (sym (append-nil (accepted a access.counter x.found)))) refl x.ends x.dummies x.real refl refl
                known.bytes both.0 w1
                (refill_forms keys lawful x.mid x.log next x.between (contents new) x.start a x.found z x.seeds w forms)
                (λ none. refill_home keys lawful x.mid x.log next x.between (contents new) x.start
                a access.next x.found z none known.closed flight rises.up x.seeds w
                (mid_home (none_before x.mid.altered z.altered x.log.altered z.altered_are none))),
            x.line ∙ both.1,
          )
        ]

    pub served_right : FitsPurpose keys.shape access.address.0 access.purpose → Right access.purpose
    served_right fits = by_purpose access.purpose x.slot fits
      where
        by_purpose : (purpose : Purpose)
            → SlotOf keys access purpose x.mid x.log x.between (contents new) x.start x.found
            → FitsPurpose keys.shape access.address.0 purpose → Right purpose
        by_purpose Refill y fits = refill_right y
        by_purpose Keep y fits = keep_right y
        by_purpose (Replace value) y fits = put_right (Replace value) value.0 y refl
            (stored_line next a access.next value.0 fits.0) fits.1

-- a block's counter was drawn under in no slot, while the block doesn't wait for one
pub undrawn : (keys : Keys) (g : Ghost) (s : PortState) (a : ℕ) → g.pend ≡ None → IsKnown keys g s
    → Undrawn s.tap.log.events (real a (g.count a))
undrawn keys g s a free known x has = elim (known.sound.drawn a (g.count a) x has) [
  | inl before ↦ absurd (before_irreflexive (g.count a) before)
  | inr (waits, same) ↦ absurd (let bad : ◌≡◌ {A = Option ℕ} None (Some a) = sym free ∙ waits in cc)
]
