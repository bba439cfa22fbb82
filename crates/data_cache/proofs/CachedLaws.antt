-- Chains of accesses to a cache over a store are chains of the store's steps.
use Rattle.std.proofs.Common.{◌≡◌, ℕ, List, Result, Ok, Err, IfOk, IfErr, refl, subst, ◌∙◌}
use Rattle.request_plan.specs.Plan.{Plan, Ends, Stops, through}
use Rattle.request_plan.specs.Laws.{Within}
use Rattle.request_plan.proofs.Through.{Ends-through, Stops-through}
use Rattle.request_plan.proofs.Keeps.{Ends-keeps, Stops-keeps, Ends-narrows, Stops-narrows}
use Rattle.rv32_core.specs.Access.{Access}
use Rattle.data_cache.specs.Lines.{LineRequest}
use Rattle.data_cache.specs.Contents.{Contents}
use Rattle.data_cache.specs.Cached.{cache_access, CachedStep}

-- values that hold a base, a cache and a store, and two names that no step changes
module _ {B S E N M : Type 0} (step : S → LineRequest → Result (List ℕ) E → S → Type 0)
    (base_of : B → ℕ) (cache_of : B → Contents) (store_of : B → S) (cache_name : B → N) (store_name : B → M) where
  abbrev pub Stepped : B → Access → Result (List ℕ) E → B → Type 0
  Stepped b access answer c =
      (base_of c ≡ base_of b) × (cache_name c ≡ cache_name b) × (store_name c ≡ store_name b)
      × CachedStep step (base_of b) (cache_of b) (store_of b) access answer (cache_of c) (store_of c)

  abbrev HasBase : ℕ → B → Type 0
  HasBase base b = base_of b ≡ base

  ends-below : (base : ℕ) (b c : B) (access : Access) (bytes : List ℕ)
      → Within (HasBase base) Stepped b access (Ok bytes) c
      → Ends step (cache_access base (cache_of b) access) (store_of b) (store_of c) (cache_of c, bytes)
  ends-below base b c access bytes h =
      subst (λ n. Ends step (cache_access n (cache_of b) access) (store_of b) (store_of c) (cache_of c, bytes)) (h.0)
      (h.1.3.0)

  stops-below : (base : ℕ) (b c : B) (access : Access) (stop : E)
      → Within (HasBase base) Stepped b access (Err stop) c
      → Stops step (cache_access base (cache_of b) access) (store_of b) (store_of c) stop (cache_of c)
  stops-below base b c access stop h =
      subst (λ n. Stops step (cache_access n (cache_of b) access) (store_of b) (store_of c) stop (cache_of c)) (h.0)
      (h.1.3)

  pub chain-ends : {L A : Type 0} (plan : Plan Access (List ℕ) L A) (b c : B) (a : A) → Ends Stepped plan b c a
      → Ends step (through (cache_access (base_of b)) plan (cache_of b)) (store_of b) (store_of c) (cache_of c, a)
  chain-ends plan b c a ends =
      let narrow = Ends-narrows Stepped (HasBase (base_of b)) (λ s t q x h holds. h.0 ∙ holds) plan b c a
      refl ends in
      Ends-through step (Within (HasBase (base_of b)) Stepped) store_of cache_of (cache_access (base_of b))
      (ends-below (base_of b)) plan b c a (narrow.0)

  pub chain-stops : {L A : Type 0} (plan : Plan Access (List ℕ) L A) (b c : B) (stop : E) (left : L)
      → Stops Stepped plan b c stop left
      → Stops step (through (cache_access (base_of b)) plan (cache_of b)) (store_of b) (store_of c) stop
      (cache_of c, left)
  chain-stops plan b c stop left stops =
      Stops-through step (Within (HasBase (base_of b)) Stepped) store_of cache_of (cache_access (base_of b))
      (ends-below (base_of b)) cache_of (stops-below (base_of b)) plan b c stop left
      (Stops-narrows Stepped (HasBase (base_of b)) (λ s t q x h holds. h.0 ∙ holds) plan b c stop left
      refl stops)

  pub cache_name-ends : {L A : Type 0} (plan : Plan Access (List ℕ) L A) (b c : B) (a : A) → Ends Stepped plan b c a
      → cache_name c ≡ cache_name b
  cache_name-ends plan b c a ends = Ends-keeps Stepped cache_name (λ s t q x h. h.1) plan b c a ends

  pub cache_name-stops : {L A : Type 0} (plan : Plan Access (List ℕ) L A) (b c : B) (stop : E) (left : L)
      → Stops Stepped plan b c stop left → cache_name c ≡ cache_name b
  cache_name-stops plan b c stop left stops =
      Stops-keeps Stepped cache_name stop (λ s t q x h. h.1) (λ s t q h. h.1) plan b c left stops

  pub store_name-ends : {L A : Type 0} (plan : Plan Access (List ℕ) L A) (b c : B) (a : A) → Ends Stepped plan b c a
      → store_name c ≡ store_name b
  store_name-ends plan b c a ends = Ends-keeps Stepped store_name (λ s t q x h. h.2) plan b c a ends

  pub store_name-stops : {L A : Type 0} (plan : Plan Access (List ℕ) L A) (b c : B) (stop : E) (left : L)
      → Stops Stepped plan b c stop left → store_name c ≡ store_name b
  store_name-stops plan b c stop left stops =
      Stops-keeps Stepped store_name stop (λ s t q x h. h.2) (λ s t q h. h.2) plan b c left stops

-- what holds at an answer and at a stop holds
pub on-both : {T E : Type 0} (P : Type 0) (r : Result T E) → IfOk r (λ x. P)
    → IfErr r (λ x. P) → P
on-both P (Ok x) h g = h
on-both P (Err e) h g = g
