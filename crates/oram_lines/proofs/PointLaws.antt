-- No point is drawn twice: what dummies and an access leave of that.
use Rattle.std.proofs.Common.{◌≡◌, ◌<◌, ◌+◌, ◌++◌, ◌⊎◌, inl, inr, ℕ, zero, suc, List, [], ◌∷◌, true, false, Option}
use Rattle.std.proofs.Common.{count_by, refl, sym, ap, ◌∙◌, subst, arith}
use Rattle.asc_base.proofs.Lookups.{count_by-cons}
use Rattle.asc_base.specs.Has.{Has}
use Rattle.asc_base.specs.declared.block.Counter.{Counter}
use Rattle.asc_base.specs.declared.block.Leaf.{Leaf}
use Rattle.asc_base.specs.declared.block.Point.{Point}
use Rattle.asc_base.specs.declared.block.Point.TheVariants.{Dummy}
use Rattle.bus_watch.specs.Log.{LogLists}
use Rattle.bus_watch.specs.declared.log.Event.{Event}
use Rattle.bus_watch.specs.declared.log.Event.TheVariants.{Access as Starts, Drawn, Accepted, Chosen, Tagged, Answered}
use Rattle.oram_contents.specs.Contents.{Contents}
use Rattle.oram_contents.specs.Decided.{draws}
use Rattle.oram_contents.specs.Entries.{Keys, real}
use Rattle.oram_contents.specs.Slots.{ArePasses, IsEnd, drawn_events}
use Rattle.oram_lines.specs.Standing.{Undrawn, DrawnOnce}

-- no leaf is drawn among these
abbrev pub Silent : List Event → Type 0
Silent events = (p : Point) → Undrawn events p

-- what is in two lists, one behind the other, is in one of them
has_split : (xs ys : List Event) (e : Event) → Has e (xs ++ ys) → Has e xs ⊎ Has e ys
has_split [] ys e has = inr has
has_split (x ∷ xs) ys e (inl is) = inl (inl is)
has_split (x ∷ xs) ys e (inr later) = elim (has_split xs ys e later) [ inl a ↦ inl (inr a) | inr b ↦ inr b ]

-- where nothing is drawn, nothing is drawn twice
silent_once : (events : List Event) → Silent events → DrawnOnce events
silent_once [] silent = tt
silent_once (e ∷ events) silent = (
  λ p x is y has. silent p x (inl (sym is)),
  silent_once events (λ p x has. silent p x (inr has)),
)

-- two lists in which different points are drawn
once_append : (xs ys : List Event) → DrawnOnce xs → DrawnOnce ys
    → ((p : Point) (x y : Leaf) → Has (Drawn p x) xs → Has (Drawn p y) ys → ⊥) → DrawnOnce (xs ++ ys)
once_append [] ys one two apart = two
once_append (e ∷ xs) ys (first, one) two apart = (
  λ p x is y has. elim (has_split xs ys (Drawn p y) has) [
    | inl here ↦ first p x is y here
    | inr there ↦ apart p x y (inl (sym is)) there
  ],
  once_append xs ys one two (λ p x y here there. apart p x y (inr here) there),
)

pub once_silent : (xs ys : List Event) → DrawnOnce xs → Silent ys → DrawnOnce (xs ++ ys)
once_silent xs ys one silent = once_append xs ys one (silent_once ys silent) (λ p x y here there. silent p y there)

-- where no event is counted that draws, none draws
pub silent_by : (events : List Event) → count_by draws events ≡ 0 → Silent events
silent_by [] none p x has = has
silent_by (e ∷ events) none p x (inl is) =
    let whole = count_by-cons draws e events in
    let one : count_by draws (Drawn p x ∷ []) ≡ 1 = count_by-cons draws (Drawn p x) [] in
    let draw : draws e ≡ true = ap draws (sym is) in
    absurd (drawn_counts e events draw none)
  where
    drawn_counts : (e : Event) (events : List Event) → draws e ≡ true → count_by draws (e ∷ events) ≡ 0 → ⊥
    drawn_counts (Starts start asked) events draw none = absurd (let bad : false ≡ true = draw in cc)
    drawn_counts (Drawn q y) events draw none = omega (arith, count_by-cons draws (Drawn q y) events, none)
    drawn_counts (Tagged m) events draw none = absurd (let bad : false ≡ true = draw in cc)
    drawn_counts (Accepted m t) events draw none = absurd (let bad : false ≡ true = draw in cc)
    drawn_counts (Chosen index) events draw none = absurd (let bad : false ≡ true = draw in cc)
    drawn_counts (Answered line value) events draw none = absurd (let bad : false ≡ true = draw in cc)
silent_by (e ∷ events) none p x (inr later) =
    silent_by events (let whole = count_by-cons draws e events in omega (arith, whole, none)) p x later

-- a choice draws none
choice_silent : (index : ℕ) → Silent (Chosen index ∷ [])
choice_silent index = silent_by (Chosen index ∷ []) (count_by-cons draws (Chosen index) [])

once_ends : (old new : LogLists) → IsEnd old new → DrawnOnce old.events → DrawnOnce new.events
once_ends old new e once = by_event e.events
  where
    by_event : (new.events ≡ old.events) ⊎ ((index : ℕ) × (new.events ≡ old.events ++ Chosen index ∷ []))
        → DrawnOnce new.events
    by_event (inl same) = subst DrawnOnce (sym same) once
    by_event (inr (index, is)) =
        subst DrawnOnce (sym is) (once_silent old.events (Chosen index ∷ []) once (choice_silent index))

-- and what was drawn before it is all that was drawn
end_has : (old new : LogLists) → IsEnd old new → (p : Point) (x : Leaf) → Has (Drawn p x) new.events
    → Has (Drawn p x) old.events
end_has old new e p x has = by_event e.events
  where
    by_event : (new.events ≡ old.events) ⊎ ((index : ℕ) × (new.events ≡ old.events ++ Chosen index ∷ []))
        → Has (Drawn p x) old.events
    by_event (inl same) = subst (Has (Drawn p x)) same has
    by_event (inr (index, is)) =
        elim (has_split old.events (Chosen index ∷ []) (Drawn p x) (subst (Has (Drawn p x)) is has)) [
          | inl here ↦ here
          | inr there ↦ absurd (choice_silent index p x there)
        ]

-- the point of an event that draws
point_of : (p q : Point) (x y : Leaf) → Drawn p x ≡ Drawn q y → p ≡ q
point_of p q x y is = cc

module _ (keys : Keys) where
  -- a slot's first events draw its point alone, where nothing is drawn behind them
  start_has : (start : ℕ) (asked : Option ℕ) (p q : Point) (x : Leaf) (rest : List Event) → Silent rest
      → Has (Drawn q x) (drawn_events keys start asked p ++ rest) → q ≡ p
  start_has start asked p q x rest silent (inl is) = absurd (cc)
  start_has start asked p q x rest silent (inr (inl is)) = point_of q p x (record { 0 = keys.leaf_of p }) is
  start_has start asked p q x rest silent (inr (inr later)) = absurd (silent q x later)

  start_once : (start : ℕ) (asked : Option ℕ) (p : Point) (rest : List Event) → Silent rest
      → DrawnOnce (drawn_events keys start asked p ++ rest)
  start_once start asked p rest silent = (
    λ q x is. absurd (cc),
    (λ q x is y later. silent q y later, silent_once rest silent),
  )

  -- a slot whose point wasn't drawn before
  pub slot_once : (events : List Event) (start : ℕ) (asked : Option ℕ) (p : Point) (rest : List Event)
      → DrawnOnce events → Undrawn events p → Silent rest
      → DrawnOnce (events ++ (drawn_events keys start asked p ++ rest))
  slot_once events start asked p rest once free silent =
      once_append events (drawn_events keys start asked p ++ rest) once (start_once start asked p rest silent)
      (λ q x y here there.
      free x (subst (λ (z : Point). Has (Drawn z x) events) (start_has start asked p q y rest silent there) here))

  -- dummies, whose numbers weren't drawn before
  pub passes_once : (k : ℕ) (old new : LogLists) (now after : Contents) (n : ℕ) → ArePasses keys k old new now after n
      → DrawnOnce old.events → ((m : ℕ) (x : Leaf) → Has (Drawn (Dummy m) x) old.events → m < n)
      → DrawnOnce new.events × ((m : ℕ) (x : Leaf) → Has (Drawn (Dummy m) x) new.events → m < n + k)
  passes_once zero old new now after n are once below =
      let same : new.events ≡ old.events = ap (λ (l : LogLists). l.events) are.0 in (
        subst DrawnOnce (sym same) once,
        λ m x has. let less = below m x (subst (Has (Drawn (Dummy m) x)) same has) in omega (arith, less),
      )
  passes_once (suc k) old new now after n are once below =
      let (first, less) = passes_once k old are.0 now are.1 n are.3 once below in
      let pass = are.5.pass in
      let events_are = pass.events_are in (
        once_ends are.5.mid new are.5.ends (subst DrawnOnce (sym (events_are
            ∙ ap (λ (l : List Event). (are.0).events ++ l) (sym (nil_behind are.2 pass.asked (Dummy (n + k))))))
            (slot_once (are.0).events are.2 pass.asked (Dummy (n + k)) [] first
            (λ x has. absurd (let bad = less (n + k) x has in omega (arith, bad))) (λ p x has. has))),
        λ m x has. elim (has_split (are.0).events (drawn_events keys are.2 pass.asked (Dummy (n + k)))
            (Drawn (Dummy m) x)
            (subst (Has (Drawn (Dummy m) x)) events_are (end_has are.5.mid new are.5.ends (Dummy m) x has))) [
              | inl here ↦ (let l = less m x here in omega (arith, l))
              | inr there ↦ (let is = start_has are.2 pass.asked (Dummy (n + k)) (Dummy m) x [] (λ p y h. h)
                  (subst (Has (Drawn (Dummy m) x)) (sym (nil_behind are.2 pass.asked (Dummy (n + k)))) there) in
                  let number : m ≡ n + k = dummy_of m (n + k) is in omega (arith, number))
            ],
      )
    where
      nil_behind : (start : ℕ) (asked : Option ℕ) (p : Point)
          → drawn_events keys start asked p ++ [] ≡ drawn_events keys start asked p
      nil_behind start asked p = refl

      dummy_of : (m j : ℕ) → Dummy m ≡ Dummy j → m ≡ j
      dummy_of m j is = cc

  -- and they draw no block's point
  pub passes_has : (k : ℕ) (old new : LogLists) (now after : Contents) (n : ℕ) → ArePasses keys k old new now after n
      → (a : ℕ) (c : Counter) (x : Leaf) → Has (Drawn (real a c) x) new.events → Has (Drawn (real a c) x) old.events
  passes_has zero old new now after n are a c x has =
      subst (λ (l : LogLists). Has (Drawn (real a c) x) l.events) are.0 has
  passes_has (suc k) old new now after n are a c x has =
      let pass = are.5.pass in
      elim (has_split (are.0).events (drawn_events keys are.2 pass.asked (Dummy (n + k))) (Drawn (real a c) x)
      (subst (Has (Drawn (real a c) x)) pass.events_are (end_has are.5.mid new are.5.ends (real a c) x has))) [
        | inl here ↦ passes_has k old are.0 now are.1 n are.3 a c x here
        | inr (inl is) ↦ absurd (cc)
        | inr (inr (inl is)) ↦ absurd (let same = point_of (real a c) (Dummy (n + k)) x
            (record { 0 = keys.leaf_of (Dummy (n + k)) }) is in cc)
        | inr (inr (inr none)) ↦ absurd none
      ]

  -- a choice at a slot's end
  pub end_once : (old new : LogLists) → IsEnd old new → DrawnOnce old.events → DrawnOnce new.events
  end_once old new ends once = once_ends old new ends once
