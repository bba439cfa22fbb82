-- Counters are ordered by group counter, then by own count.
use Rattle.std.proofs.Common.{◌≡◌, ◌+◌, ◌%◌, ◌^◌, ◌<◌, ◌⊎◌, inl, inr, refl, sym, ◌∙◌, subst, arith}
use Rattle.std.proofs.Math.Nat.{mod-eq_of_lt}
use Rattle.std.proofs.lemmas.Bool.{cases_eq, cases_lt}
use Rattle.asc_base.specs.declared.block.Counter.{Counter}
use Rattle.posmap_counters.specs.Counters.{IsBefore, IsNotAfter, first_counter, next_group, next_own}

-- counters with the same numbers are one
pub same_counter : (c d : Counter) → c.group ≡ d.group → c.own ≡ d.own → c ≡ d
same_counter c d group own = λ i. record { group = group i; own = own i }

pub before_trans : (c d e : Counter) → IsBefore c d → IsNotAfter d e → IsBefore c e
before_trans c d e p (inl same) = subst (IsBefore c) same p
before_trans c d e (inl p) (inr (inl q)) = inl (omega arith)
before_trans c d e (inl p) (inr (inr q)) = let same = q.0 in inl (omega arith)
before_trans c d e (inr p) (inr (inl q)) = let same = p.0 in inl (omega arith)
before_trans c d e (inr p) (inr (inr q)) = let low = p.1 in let high = q.1 in inr (p.0 ∙ q.0, omega arith)

pub not_after_trans : (c d e : Counter) → IsNotAfter c d → IsNotAfter d e → IsNotAfter c e
not_after_trans c d e (inl same) q = subst (λ x. IsNotAfter x e) (sym same) q
not_after_trans c d e (inr p) q = inr (before_trans c d e p q)

pub not_after_before : (c d e : Counter) → IsNotAfter c d → IsBefore d e → IsBefore c e
not_after_before c d e (inl same) q = subst (λ x. IsBefore x e) (sym same) q
not_after_before c d e (inr p) q = before_trans c d e p (inr q)

pub before_irreflexive : (c : Counter) → IsBefore c c → ⊥
before_irreflexive c (inl p) = absurd (omega arith)
before_irreflexive c (inr p) = let below = p.1 in absurd (omega arith)

pub before_total : (c d : Counter) → IsBefore c d ⊎ IsNotAfter d c
before_total c d =
    elim (cases_eq c.group d.group) [
      | inl same ↦ elim (cases_lt c.own d.own) [
        | inl low ↦ inl (inr (same, low))
        | inr high ↦ elim (cases_eq c.own d.own) [
          | inl own ↦ inr (inl (sym (same_counter c d same own)))
          | inr other ↦ inr (inr (inr (sym same, omega arith)))
        ]
      ]
      | inr other ↦ elim (cases_lt c.group d.group) [
        | inl low ↦ inl (inl low)
        | inr high ↦ inr (inr (inl (omega arith)))
      ]
    ]

-- nothing is before (0,0)
pub first_not_after : (c : Counter) → IsNotAfter first_counter c
first_not_after c =
    elim (cases_eq c.group 0) [
      | inl group ↦ elim (cases_eq c.own 0) [
        | inl own ↦ inl (sym (same_counter c first_counter group own))
        | inr some ↦ inr (inr (sym group, omega arith))
      ]
      | inr some ↦ inr (inl (omega arith))
    ]

pub next_group-before : (c : Counter) → c.group + 1 < 2 ^ 64 → IsBefore c (next_group c)
next_group-before c room =
    let same : (c.group + 1) % 2 ^ 64 ≡ c.group + 1 = mod-eq_of_lt room in inl (rw same (omega arith))

pub next_own-before : (c : Counter) → IsBefore c (next_own c)
next_own-before c = inr (refl, omega arith)
