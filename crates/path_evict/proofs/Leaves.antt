-- The rule leaves the rest: what waits for a level, level by level, is a queue whose length at the root is the greatest
-- excess.
use Rattle.std.proofs.Common.{◌≡◌, ◌≢◌, ℕ, zero, suc, ◌+◌, ◌*◌, ◌-◌, ◌≤◌, ◌<◌, List, [], ◌∷◌, Option, Some, None}
use Rattle.std.proofs.Common.{true, false, length, max, arith, refl, inl, inr, ap, ◌∙◌, replicate, nat_le, nat_eq}
use Rattle.std.proofs.Common.{is_none, count_by, All}
use Rattle.std.proofs.lemmas.Bool.Decides.{leb_tells, eqb_tells}
use Rattle.std.proofs.lemmas.List.Elements.{All-head, All-tail}
use Rattle.path_evict.specs.Placement.{slots, left}
use Rattle.path_evict.specs.Eviction.{fill, fill_up, eviction}
use Rattle.path_evict.specs.Rest.{count_within, excess, rest}
use Rattle.path_evict.proofs.Counts.{waiting, waiting-fill, FitsFrom, FitsFrom-fill, FitsFrom-empty}
use Rattle.path_evict.proofs.Highest.{excess-le-rest}
use Rattle.asc_base.proofs.Lookups.{count_by-yes, count_by-no}

-- how many entries have exactly this depth
abbrev count_exact : List ℕ → ℕ → ℕ
count_exact depths k = count_by (λ depth. nat_eq depth k) depths

waiting-yes : (level depth : ℕ) (depths : List ℕ) (places : List (Option ℕ)) → nat_le level depth ≡ true
    → waiting level (depth ∷ depths) (None ∷ places) ≡ 1 + waiting level depths places
waiting-yes level depth depths places e = rw e

waiting-no : (level depth : ℕ) (depths : List ℕ) (places : List (Option ℕ)) → nat_le level depth ≡ false
    → waiting level (depth ∷ depths) (None ∷ places) ≡ 0 + waiting level depths places
waiting-no level depth depths places e = rw e (omega arith)

le_true : (a b : ℕ) → a ≤ b → nat_le a b ≡ true
le_true a b h = elim (leb_tells a b) [ inl t ↦ t.0 | inr t ↦ absurd (omega (arith, t.1)) ]

le_false : (a b : ℕ) → b < a → nat_le a b ≡ false
le_false a b h = elim (leb_tells a b) [ inl t ↦ absurd (omega (arith, t.1)) | inr t ↦ t.0 ]

-- no entry of this depth was placed before, so all of them wait
waiting-next : (level : ℕ) (depths : List ℕ) (places : List (Option ℕ)) → FitsFrom (suc level) depths places
    → waiting level depths places ≡ waiting (suc level) depths places + count_exact depths level
waiting-next level [] [] f = omega arith
waiting-next level [] (place ∷ places) f = absurd f
waiting-next level (depth ∷ depths) [] f = absurd f
waiting-next level (depth ∷ depths) (Some place ∷ places) f =
    elim (eqb_tells depth level) [
      | inl same ↦ let e : depth ≡ level = same.1 in let b : suc level ≤ place = f.0 in let a : place ≤ depth = f.1 in
          absurd (omega arith)
      | inr differs ↦
          let others : waiting level depths places ≡ waiting (suc level) depths places + count_exact depths level =
          waiting-next level depths places f.2 in
          let step : count_exact (depth ∷ depths) level ≡ 0 + count_exact depths level =
          count_by-no (λ d. nat_eq d level) depth depths differs.0 in
          omega arith
    ]
waiting-next level (depth ∷ depths) (None ∷ places) f =
    let others : waiting level depths places ≡ waiting (suc level) depths places + count_exact depths level =
    waiting-next level depths places f in
    elim (eqb_tells depth level) [
      | inl same ↦
          let e : depth ≡ level = same.1 in
          let step : count_exact (depth ∷ depths) level ≡ 1 + count_exact depths level =
          count_by-yes (λ d. nat_eq d level) depth depths same.0 in
          let here : waiting level (depth ∷ depths) (None ∷ places) ≡ 1 + waiting level depths places =
          waiting-yes level depth depths places (le_true level depth (omega arith)) in
          let next : waiting (suc level) (depth ∷ depths) (None ∷ places) ≡ 0 + waiting (suc level) depths places =
          waiting-no (suc level) depth depths places (le_false (suc level) depth (omega arith)) in
          omega arith
      | inr differs ↦
          let apart : depth ≢ level = differs.1 in
          let step : count_exact (depth ∷ depths) level ≡ 0 + count_exact depths level =
          count_by-no (λ d. nat_eq d level) depth depths differs.0 in
          elim (leb_tells level depth) [
            | inl h ↦
                let reaches : level ≤ depth = h.1 in
                let here : waiting level (depth ∷ depths) (None ∷ places) ≡ 1 + waiting level depths places =
                waiting-yes level depth depths places h.0 in
                let next : waiting (suc level) (depth ∷ depths) (None ∷ places)
                ≡ 1 + waiting (suc level) depths places =
                waiting-yes (suc level) depth depths places (le_true (suc level) depth (omega arith)) in
                omega arith
            | inr h ↦
                let short : depth < level = h.1 in
                let here : waiting level (depth ∷ depths) (None ∷ places) ≡ 0 + waiting level depths places =
                waiting-no level depth depths places h.0 in
                let next : waiting (suc level) (depth ∷ depths) (None ∷ places)
                ≡ 0 + waiting (suc level) depths places =
                waiting-no (suc level) depth depths places (le_false (suc level) depth (omega arith)) in
                omega arith
          ]
    ]

within-next : (depths : List ℕ) (k : ℕ)
    → count_within depths (suc k) ≡ count_within depths k + count_exact depths (suc k)
within-next [] k = omega arith
within-next (depth ∷ depths) k =
    let others : count_within depths (suc k) ≡ count_within depths k + count_exact depths (suc k) =
    within-next depths k in
    elim (eqb_tells depth (suc k)) [
      | inl same ↦
          let e : depth ≡ suc k = same.1 in
          let exact : count_exact (depth ∷ depths) (suc k) ≡ 1 + count_exact depths (suc k) =
          count_by-yes (λ d. nat_eq d (suc k)) depth depths same.0 in
          let more : count_within (depth ∷ depths) (suc k) ≡ 1 + count_within depths (suc k) =
          count_by-yes (λ d. nat_le d (suc k)) depth depths (le_true depth (suc k) (omega arith)) in
          let less : count_within (depth ∷ depths) k ≡ 0 + count_within depths k =
          count_by-no (λ d. nat_le d k) depth depths (le_false depth k (omega arith)) in
          omega arith
      | inr differs ↦
          let apart : depth ≢ suc k = differs.1 in
          let exact : count_exact (depth ∷ depths) (suc k) ≡ 0 + count_exact depths (suc k) =
          count_by-no (λ d. nat_eq d (suc k)) depth depths differs.0 in
          elim (leb_tells depth k) [
            | inl h ↦
                let within : depth ≤ k = h.1 in
                let more : count_within (depth ∷ depths) (suc k) ≡ 1 + count_within depths (suc k) =
                count_by-yes (λ d. nat_le d (suc k)) depth depths (le_true depth (suc k) (omega arith)) in
                let less : count_within (depth ∷ depths) k ≡ 1 + count_within depths k =
                count_by-yes (λ d. nat_le d k) depth depths h.0 in
                omega arith
            | inr h ↦
                let beyond : k < depth = h.1 in
                let more : count_within (depth ∷ depths) (suc k) ≡ 0 + count_within depths (suc k) =
                count_by-no (λ d. nat_le d (suc k)) depth depths (le_false depth (suc k) (omega arith)) in
                let less : count_within (depth ∷ depths) k ≡ 0 + count_within depths k =
                count_by-no (λ d. nat_le d k) depth depths h.0 in
                omega arith
          ]
    ]

within-zero : (depths : List ℕ) → count_within depths 0 ≡ count_exact depths 0
within-zero [] = refl
within-zero (depth ∷ depths) =
    let others : count_within depths 0 ≡ count_exact depths 0 = within-zero depths in
    elim (eqb_tells depth 0) [
      | inl same ↦
          let e : depth ≡ 0 = same.1 in
          let exact : count_exact (depth ∷ depths) 0 ≡ 1 + count_exact depths 0 =
          count_by-yes (λ d. nat_eq d 0) depth depths same.0 in
          let within : count_within (depth ∷ depths) 0 ≡ 1 + count_within depths 0 =
          count_by-yes (λ d. nat_le d 0) depth depths (le_true depth 0 (omega arith)) in
          omega arith
      | inr differs ↦
          let apart : depth ≢ 0 = differs.1 in
          let exact : count_exact (depth ∷ depths) 0 ≡ 0 + count_exact depths 0 =
          count_by-no (λ d. nat_eq d 0) depth depths differs.0 in
          let within : count_within (depth ∷ depths) 0 ≡ 0 + count_within depths 0 =
          count_by-no (λ d. nat_le d 0) depth depths (le_false depth 0 (omega arith)) in
          omega arith
    ]

-- at the root all that aren't placed wait
waiting-zero : (bound : ℕ) (depths : List ℕ) (places : List (Option ℕ)) → FitsFrom bound depths places
    → waiting 0 depths places ≡ left places
waiting-zero bound [] [] f = refl
waiting-zero bound [] (place ∷ places) f = absurd f
waiting-zero bound (depth ∷ depths) [] f = absurd f
waiting-zero bound (depth ∷ depths) (Some place ∷ places) f =
    let others : waiting 0 depths places ≡ left places = waiting-zero bound depths places f.2 in
    let goes : left (Some place ∷ places) ≡ 0 + left places = count_by-no is_none (Some place) places refl in
    omega arith
waiting-zero bound (depth ∷ depths) (None ∷ places) f =
    let others : waiting 0 depths places ≡ left places = waiting-zero bound depths places f in
    let stays : left (None ∷ places) ≡ 1 + left places = count_by-yes is_none None places refl in
    let here : waiting 0 (depth ∷ depths) (None ∷ places) ≡ 1 + waiting 0 depths places =
    waiting-yes 0 depth depths places (le_true 0 depth (omega arith)) in
    omega arith

-- nothing waits above the deepest level
waiting-above : (levels : ℕ) (depths : List ℕ) (places : List (Option ℕ)) → All (λ depth. depth ≤ levels) depths
    → waiting (suc levels) depths places ≡ 0
waiting-above levels [] places all = refl
waiting-above levels (depth ∷ depths) [] all = refl
waiting-above levels (depth ∷ depths) (Some place ∷ places) all =
    waiting-above levels depths places (All-tail (λ d. d ≤ levels) depth depths all)
waiting-above levels (depth ∷ depths) (None ∷ places) all =
    let within : depth ≤ levels = All-head (λ d. d ≤ levels) depth depths all in
    waiting-no (suc levels) depth depths places (le_false (suc levels) depth (omega arith))
    ∙ ap (λ n. 0 + n) (waiting-above levels depths places (All-tail (λ d. d ≤ levels) depth depths all))

-- with so many waiting from deeper levels, the levels up to the root leave the greatest excess or what is left of these
left-fill_up : (level : ℕ) (depths : List ℕ) (places : List (Option ℕ)) → FitsFrom (suc level) depths places
    → left (fill_up level depths places) ≡ max (rest depths level)
    (waiting (suc level) depths places + count_within depths level - slots * (level + 1))
unfolding fill_up rest
left-fill_up zero depths places f =
    let at_root : waiting 0 depths (fill 0 4 depths places) ≡ left (fill 0 4 depths places) =
    waiting-zero 0 depths (fill 0 4 depths places) (FitsFrom-fill 0 4 depths places f) in
    let taken : waiting 0 depths (fill 0 4 depths places) ≡ waiting 0 depths places - 4 =
    waiting-fill 0 4 depths places in
    let next : waiting 0 depths places ≡ waiting 1 depths places + count_exact depths 0 =
    waiting-next 0 depths places f in
    let within : count_within depths 0 ≡ count_exact depths 0 = within-zero depths in
    omega arith
left-fill_up (suc level) depths places f =
    let above : left (fill_up level depths (fill (suc level) 4 depths places)) ≡ max (rest depths level)
    (waiting (suc level) depths (fill (suc level) 4 depths places) + count_within depths level - 4 * (level + 1)) =
    left-fill_up level depths (fill (suc level) 4 depths places) (FitsFrom-fill (suc level) 4 depths places f) in
    let taken : waiting (suc level) depths (fill (suc level) 4 depths places)
    ≡ waiting (suc level) depths places - 4 = waiting-fill (suc level) 4 depths places in
    let next : waiting (suc level) depths places
    ≡ waiting (suc (suc level)) depths places + count_exact depths (suc level) =
    waiting-next (suc level) depths places f in
    let within : count_within depths (suc level) ≡ count_within depths level + count_exact depths (suc level) =
    within-next depths level in
    let sooner : excess depths level ≤ rest depths level = excess-le-rest depths level level (omega arith) in
    omega arith

pub left-eviction : (depths : List ℕ) (levels : ℕ) → All (λ depth. depth ≤ levels) depths
    → left (eviction depths levels) ≡ rest depths levels
unfolding eviction
left-eviction depths levels all =
    let met : left (fill_up levels depths (replicate (length depths) None)) ≡ max (rest depths levels)
    (waiting (suc levels) depths (replicate (length depths) None) + count_within depths levels - 4 * (levels + 1)) =
    left-fill_up levels depths (replicate (length depths) None) (FitsFrom-empty (suc levels) depths) in
    let none : waiting (suc levels) depths (replicate (length depths) None) ≡ 0 =
    waiting-above levels depths (replicate (length depths) None) all in
    let reached : excess depths levels ≤ rest depths levels = excess-le-rest depths levels levels (omega arith) in
    omega arith
