-- Counters stay small.
use Rattle.std.proofs.Common.{◌≡◌, ◌<◌, ◌≤◌, ◌+◌, ◌-◌, ◌^◌, ◌⊎◌, inl, inr, ℕ, List, [], ◌∷◌, ◌++◌}
use Rattle.std.proofs.Common.{count_by, None, refl, sym, ◌∙◌, ap, subst, arith}
use Rattle.std.proofs.Math.Pow.{pow_mono}
use Rattle.std.proofs.lemmas.Bool.{cases_eq}
use Rattle.asc_base.proofs.Lookups.{count_by-cons}
use Rattle.asc_base.specs.TreeShape.{parent_of}
use Rattle.asc_base.specs.declared.block.Counter.{Counter}
use Rattle.asc_base.specs.declared.shape.Shape.{Shape}
use Rattle.bus_watch.specs.Log.{LogLists}
use Rattle.bus_watch.specs.declared.log.Altered.{Altered}
use Rattle.bus_watch.specs.declared.log.Event.{Event}
use Rattle.posmap_counters.specs.Counters.{IsBefore, first_counter, next_group, next_own}
use Rattle.oram_contents.specs.Counts.{put_at}
use Rattle.oram_contents.specs.Decided.{draws}
use Rattle.oram_contents.specs.Groups.{AreSmall}
use Rattle.oram_contents.specs.Starts.{empty_log}
use Rattle.oram_contents.specs.Steps.{Adds}
use Rattle.oram_contents.proofs.Lines.{put_same, put_other}

count_append : (xs ys : List Event) → count_by draws (xs ++ ys) ≡ count_by draws xs + count_by draws ys
count_append [] ys = omega arith
count_append (x ∷ xs) ys =
    let next = count_append xs ys in
    let whole = count_by-cons draws x (xs ++ ys) in
    let part = count_by-cons draws x xs in
    omega arith

pub small_start : (shape : Shape) (ic : ℕ) → AreSmall shape ic empty_log (λ a. first_counter)
small_start shape ic = record {
  top = λ a inside none. refl;
  own = λ a inside. omega arith;
  drawn = λ a inside. omega arith;
}

pub small_more : (shape : Shape) (ic : ℕ) (old new : LogLists) (events : List Event) (altered : List Altered)
    (count : ℕ → Counter) → Adds old new events altered → AreSmall shape ic old count → AreSmall shape ic new count
small_more shape ic old new events altered count adds s = record {
  top = s.top;
  own = s.own;
  drawn = λ a inside. omega (
    arith,
    s.drawn a inside,
    ap
        (count_by draws) adds.events_are,
    count_append old.events events,
  );
}

-- a block's counter changes within its room
pub small_raised : (shape : Shape) (ic : ℕ) (log : LogLists) (count : ℕ → Counter) (a : ℕ) (c : Counter)
    → (parent_of shape.lines shape.layers a ≡ None → c.own ≡ 0) → c.own ≤ 2 ^ ic - 1
    → c.group + c.own ≤ count_by draws log.events → AreSmall shape ic log count
    → AreSmall shape ic log (put_at count a c)
small_raised shape ic log count a c at_top own_fits fits s = record {
  top = λ b inside none. top_of b inside none (cases_eq b a);
  own = λ b inside. own_of b inside (cases_eq b a);
  drawn = λ b inside. drawn_of b inside (cases_eq b a);
}
  where
    mine : (b : ℕ) → b ≡ a → put_at count a c b ≡ c
    mine b is = ap (put_at count a c) is ∙ put_same count a c

    top_of : (b : ℕ) → b < shape.total → parent_of shape.lines shape.layers b ≡ None → (b ≡ a) ⊎ (b ≡ a → ⊥)
        → (put_at count a c b).own ≡ 0
    top_of b inside none (inl is) =
        ap (λ (x : Counter). x.own) (mine b is) ∙ at_top (ap (parent_of shape.lines shape.layers) (sym is) ∙ none)
    top_of b inside none (inr other) = ap (λ (x : Counter). x.own) (put_other count a c b other) ∙ s.top b inside none

    own_of : (b : ℕ) → b < shape.total → (b ≡ a) ⊎ (b ≡ a → ⊥) → (put_at count a c b).own ≤ 2 ^ ic - 1
    own_of b inside (inl is) = subst (λ (x : Counter). x.own ≤ 2 ^ ic - 1) (sym (mine b is)) own_fits
    own_of b inside (inr other) =
        subst (λ (x : Counter). x.own ≤ 2 ^ ic - 1) (sym (put_other count a c b other)) (s.own b inside)

    drawn_of : (b : ℕ) → b < shape.total → (b ≡ a) ⊎ (b ≡ a → ⊥)
        → (put_at count a c b).group + (put_at count a c b).own ≤ count_by draws log.events
    drawn_of b inside (inl is) =
        subst (λ (x : Counter). x.group + x.own ≤ count_by draws log.events) (sym (mine b is)) fits
    drawn_of b inside (inr other) =
        subst (λ (x : Counter). x.group + x.own ≤ count_by draws log.events) (sym (put_other count a c b other))
        (s.drawn b inside)

-- a point more is drawn, and its block comes to the next group, or to the next own count where that has room
pub small_drawn : (shape : Shape) (ic : ℕ) (old new : LogLists) (count : ℕ → Counter) (a : ℕ) (c : Counter)
    → a < shape.total → count_by draws old.events < count_by draws new.events
    → (c ≡ next_group (count a)) ⊎ ((c ≡ next_own (count a)) × ((count a).own < 2 ^ ic - 1)
    × (parent_of shape.lines shape.layers a ≡ None → ⊥))
    → AreSmall shape ic old count → AreSmall shape ic new (put_at count a c)
small_drawn shape ic old new count a c inside more rises s = by rises
  where
    later : AreSmall shape ic new count
    later = record { top = s.top; own = s.own; drawn = λ b within. omega (arith, s.drawn b within, more) }

    by : (c ≡ next_group (count a)) ⊎ ((c ≡ next_own (count a)) × ((count a).own < 2 ^ ic - 1)
        × (parent_of shape.lines shape.layers a ≡ None → ⊥)) → AreSmall shape ic new (put_at count a c)
    by (inl is) = subst (λ (x : Counter). AreSmall shape ic new (put_at count a x)) (sym is)
        (small_raised shape ic new count a (next_group (count a)) (λ none. refl) (omega arith)
        (omega (arith, s.drawn a inside, more)) later)
    by (inr own) = subst (λ (x : Counter). AreSmall shape ic new (put_at count a x)) (sym own.0)
        (small_raised shape ic new count a (next_own (count a)) (λ none. absurd (own.2 none)) (omega (arith, own.1))
        (omega (arith, s.drawn a inside, more)) later)

-- a held child is renumbered, and a sibling is past the first counter of its group
pub small_renumbered : (shape : Shape) (ic : ℕ) (log : LogLists) (count : ℕ → Counter) (a sibling : ℕ)
    → a < shape.total → sibling < shape.total
    → IsBefore (record { group = (count a).group; own = 0 }) (count sibling)
    → AreSmall shape ic log count → AreSmall shape ic log (put_at count a (next_group (count a)))
small_renumbered shape ic log count a sibling inside within past s =
    small_raised shape ic log count a (next_group (count a)) (λ none. refl) (omega arith) (fits past) s
  where
    fits : IsBefore (record { group = (count a).group; own = 0 }) (count sibling)
        → (next_group (count a)).group + 0 ≤ count_by draws log.events
    fits (inl less) = omega (arith, s.drawn sibling within, less)
    fits (inr same) = omega (arith, s.drawn sibling within, same.0, same.1)

-- so no counter wraps, and each fits its place in a line
pub small_fits : (shape : Shape) (ic : ℕ) (log : LogLists) (count : ℕ → Counter) → ic ≤ 14
    → count_by draws log.events < 2 ^ 28 → AreSmall shape ic log count
    → (a : ℕ) → a < shape.total → ((count a).group < 2 ^ 28) × ((count a).own < 16384)
small_fits shape ic log count bits few s a inside =
    let most : 2 ^ ic ≤ 2 ^ 14 = pow_mono {i = ic} {j = 14} bits in
    (omega (arith, s.drawn a inside), omega (arith, s.own a inside))
