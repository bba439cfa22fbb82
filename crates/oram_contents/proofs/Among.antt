-- How what stands in a list is found again.
use Rattle.std.proofs.Common.{◌≡◌, ◌⊎◌, inl, inr, ℕ, List, [], ◌∷◌, ◌++◌, refl, sym, ap}
use Rattle.std.proofs.lemmas.Bool.{cases_eq}
use Rattle.asc_base.specs.declared.block.Message.{Message}
use Rattle.bus_watch.specs.declared.log.Event.{Event}
use Rattle.bus_watch.specs.declared.log.Event.TheVariants.{Access, Drawn, Tagged, Accepted, Chosen, Answered}
use Rattle.asc_base.specs.Has.{Has}
use Rattle.asc_base.proofs.Members.{has_split}
use Rattle.oram_contents.specs.Provenance.{AtMostOnce}

-- two lists of numbers are the same or not
pub cases_bytes : (xs ys : List ℕ) → (xs ≡ ys) ⊎ (xs ≡ ys → ⊥)
cases_bytes [] [] = inl refl
cases_bytes [] (y ∷ ys) = inr (λ e. cc)
cases_bytes (x ∷ xs) [] = inr (λ e. cc)
cases_bytes (x ∷ xs) (y ∷ ys) = both (cases_eq x y) (cases_bytes xs ys)
  where
    both : (x ≡ y) ⊎ (x ≡ y → ⊥) → (xs ≡ ys) ⊎ (xs ≡ ys → ⊥) → ((x ∷ xs) ≡ (y ∷ ys)) ⊎ ((x ∷ xs) ≡ (y ∷ ys) → ⊥)
    both (inl p) (inl q) = inl cc
    both (inr n) q = inr (λ e. n cc)
    both (inl p) (inr n) = inr (λ e. n cc)

pub same_message : (m n : Message) → m.address.0 ≡ n.address.0 → m.counter.group ≡ n.counter.group
    → m.counter.own ≡ n.counter.own → m.line.0 ≡ n.line.0 → m ≡ n
same_message m n a g o l = λ i. record {
  address = record { 0 = a i };
  counter = record { group = g i; own = o i };
  line = record { 0 = l i };
}

pub cases_message : (m n : Message) → (m ≡ n) ⊎ (m ≡ n → ⊥)
cases_message m n = all (cases_eq m.address.0 n.address.0) (cases_eq m.counter.group n.counter.group)
    (cases_eq m.counter.own n.counter.own) (cases_bytes m.line.0 n.line.0)
  where
    all : (m.address.0 ≡ n.address.0) ⊎ (m.address.0 ≡ n.address.0 → ⊥)
        → (m.counter.group ≡ n.counter.group) ⊎ (m.counter.group ≡ n.counter.group → ⊥)
        → (m.counter.own ≡ n.counter.own) ⊎ (m.counter.own ≡ n.counter.own → ⊥)
        → (m.line.0 ≡ n.line.0) ⊎ (m.line.0 ≡ n.line.0 → ⊥) → (m ≡ n) ⊎ (m ≡ n → ⊥)
    all (inl a) (inl g) (inl o) (inl l) = inl (same_message m n a g o l)
    all (inr differs) g o l = inr (λ e. differs (ap (λ (x : Message). x.address.0) e))
    all (inl a) (inr differs) o l = inr (λ e. differs (ap (λ (x : Message). x.counter.group) e))
    all (inl a) (inl g) (inr differs) l = inr (λ e. differs (ap (λ (x : Message). x.counter.own) e))
    all (inl a) (inl g) (inl o) (inr differs) = inr (λ e. differs (ap (λ (x : Message). x.line.0) e))

pub tagged_same : (m n : Message) → Tagged m ≡ Tagged n → m ≡ n
tagged_same m n e = cc

-- a message was tagged or not
pub cases_tagged : (m : Message) (events : List Event) → Has (Tagged m) events ⊎ (Has (Tagged m) events → ⊥)
cases_tagged m [] = inr (λ h. h)
cases_tagged m (e ∷ events) = both (first e) (cases_tagged m events)
  where
    first : (e : Event) → (Tagged m ≡ e) ⊎ (Tagged m ≡ e → ⊥)
    first (Access start asked) = inr (λ p. cc)
    first (Drawn point leaf) = inr (λ p. cc)
    first (Accepted n t) = inr (λ p. cc)
    first (Chosen index) = inr (λ p. cc)
    first (Answered line value) = inr (λ p. cc)
    first (Tagged n) = elim (cases_message m n) [
      | inl p ↦ inl (ap Tagged p)
      | inr differs ↦ inr
          (λ p. differs (tagged_same m n p))
    ]

    both : (Tagged m ≡ e) ⊎ (Tagged m ≡ e → ⊥) → Has (Tagged m) events ⊎ (Has (Tagged m) events → ⊥)
        → Has (Tagged m) (e ∷ events) ⊎ (Has (Tagged m) (e ∷ events) → ⊥)
    both (inl p) q = inl (inl p)
    both (inr differs) (inl h) = inl (inr h)
    both (inr differs) (inr none) = inr (λ h. elim h [ inl p ↦ differs p | inr k ↦ none k ])

-- tagged at most once, in two lists of which none repeats the other
pub once_append : (xs ys : List Event) → AtMostOnce xs → AtMostOnce ys
    → ((m n : Message) → Has (Tagged m) xs → Has (Tagged n) ys → n.address.0 ≡ m.address.0 → n.counter ≡ m.counter → ⊥)
    → AtMostOnce (xs ++ ys)
once_append [] ys s t cross = t
once_append (e ∷ xs) ys s t cross = (
  λ m is n h a c. elim (has_split (Tagged n) xs ys h) [
    | inl l ↦ s.0 m is n l a c
    | inr r ↦ cross m n
        (inl (sym is)) r a c
  ],
  once_append xs ys s.1 t (λ m n h k. cross m n (inr h) k),
)

pub once_none : (ys : List Event) → ((m : Message) → Has (Tagged m) ys → ⊥) → AtMostOnce ys
once_none [] none = tt
once_none (e ∷ ys) none = (λ m is n h a c. none m (inl (sym is)), once_none ys (λ m h. none m (inr h)))
