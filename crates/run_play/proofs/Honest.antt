-- A use of a line keeps what stands for a list of bytes.
use Rattle.std.proofs.Common.{◌≡◌, ℕ, ◌-◌, ◌%◌, ◌<◌, ◌≤◌, Bool, true, false, cond, not, ◌==◌, ◌||◌, ◌&&◌, List, []}
use Rattle.std.proofs.Common.{◌∷◌, ◌++◌, Option, Some, None, length, take, refl, sym, ap, subst, ◌∙◌, arith, inl, inr}
use Rattle.std.proofs.Common.{◌⊎◌, eqb-true, eq-eqb, length-set, length-take}
use Rattle.std.specs.Prelude.{slice_index_or, nat_eq, replicate, unwrap_or, if◌then◌else◌}
use Rattle.std.specs.List.{All}
use Rattle.std.specs.Map.{lookup}
use Rattle.std.proofs.lemmas.Bool.{or_parts}
use Rattle.std.proofs.lemmas.Bool.Decides.{eqb_tells}
use Rattle.std.proofs.lemmas.Nat.{mod_below}
use Rattle.std.proofs.lemmas.List.{get_or-set_other}
use Rattle.std.proofs.lemmas.Grind.{get_or-set_at}
use Rattle.std.proofs.lemmas.List.{length-replicate}
use Rattle.std.proofs.lemmas.List.Elements.{All-set, All-replicate}
use Rattle.data_cache.specs.CacheLists.{Kept, Lines, changes, needs, set_of, keeps, keeps_dirty, others, set_after}
use Rattle.data_cache.specs.CacheLists.{victim, sets_after, line_in, stored, fetched, requests_of, no_lines}
use Rattle.data_cache.specs.Lines.{LineRequest, Fetch, Store}
use Rattle.rv32_core.specs.LineList.{LineUse}
use Rattle.asc_base.specs.Has.{Has}
use Rattle.run_play.specs.Play.{image_use}
use Rattle.run_play.specs.Requests.{StoredLines}
use Rattle.run_play.specs.Honest.{stored_by, IsStored, IsHonest}
use Rattle.run_play.specs.Requests.{data_line}
use Rattle.run_play.proofs.Sets.{others-dirty, others-few, stays-or-last, take-first}

-- ---- the data lines after requests
-- a line that is stored last
front-by : (value : List ℕ) (rest : Option (List ℕ)) (is : List ℕ) (b : Bool) → (b ≡ true → value ≡ is)
    → (b ≡ false → unwrap_or rest (replicate 64 0) ≡ is)
    → unwrap_or (cond {A = Option (List ℕ)} b (Some value) rest) (replicate 64 0) ≡ is
front-by value rest is true one other = one refl
front-by value rest is false one other = other refl

pub line-front : (line : ℕ) (value : List ℕ) (lines : StoredLines) (n : ℕ) (is : List ℕ) → (n ≡ line → value ≡ is)
    → ((n ≡ line → ⊥) → data_line lines n ≡ is) → data_line ((line, value) ∷ lines) n ≡ is
line-front line value lines n is one other =
    front-by value (lookup (nat_eq n) lines) is (n == line) (λ e. one (eqb-true n line e))
    (λ e. other (λ same. (let no : true ≡ false = sym (eq-eqb n line same) ∙ e in absurd cc)))

-- a fetch stores nothing
fetched-keeps : (lines : StoredLines) (set : List Kept) (use_of : LineUse)
    → stored_by lines (fetched set use_of) ≡ lines
fetched-keeps lines set use_of = by-need (needs use_of.kind && not (keeps set use_of.line))
  where
    by-need : (need : Bool) → stored_by lines (if need then Fetch use_of.line ∷ [] else []) ≡ lines
    by-need true = refl
    by-need false = refl

module _ (memory : List ℕ) (lines : StoredLines) (set : List Kept) (use_of : LineUse) (n : ℕ) where
  dirty-keeps : (k : Kept) (dirty : Bool) → data_line lines n ≡ line_in memory n
      → data_line (stored_by lines ((if dirty then Store k.line
      (line_in memory k.line) ∷ [] else []) ++ fetched set use_of)) n
      ≡ line_in memory n
  dirty-keeps k true same =
      ap (λ l. data_line l n) (fetched-keeps ((k.line, line_in memory k.line) ∷ lines) set use_of)
      ∙ line-front k.line (line_in memory k.line) lines n (line_in memory n) (λ e. ap (line_in memory) (sym e))
      (λ other. same)
  dirty-keeps k false same = ap (λ l. data_line l n) (fetched-keeps lines set use_of) ∙ same

  -- what was stored as the list of bytes has it stays so
  keeps-stored : (last : Option Kept) → data_line lines n ≡ line_in memory n
      → data_line (stored_by lines (stored memory last ++ fetched set use_of)) n ≡ line_in memory n
  keeps-stored None same = ap (λ l. data_line l n) (fetched-keeps lines set use_of) ∙ same
  keeps-stored (Some k) same = dirty-keeps k k.dirty same

  dirty-stores : (k : Kept) (dirty : Bool) → dirty ≡ true → k.line ≡ n
      → data_line (stored_by lines ((if dirty then Store k.line
      (line_in memory k.line) ∷ [] else []) ++ fetched set use_of)) n
      ≡ line_in memory n
  dirty-stores k true is at =
      ap (λ l. data_line l n) (fetched-keeps ((k.line, line_in memory k.line) ∷ lines) set use_of)
      ∙ line-front k.line (line_in memory k.line) lines n (line_in memory n) (λ e. ap (line_in memory) (sym e))
      (λ other. absurd (other (sym at)))
  dirty-stores k false is at = absurd cc

  -- and so is a dirty victim
  victim-stored : (last : Option Kept) (k : Kept) → last ≡ Some k → k.dirty ≡ true → k.line ≡ n
      → data_line (stored_by lines (stored memory last ++ fetched set use_of)) n ≡ line_in memory n
  victim-stored last k is dirty at =
      ap (λ o. data_line (stored_by lines (stored memory o ++ fetched set use_of)) n) is
      ∙ dirty-stores k k.dirty dirty at

-- ---- a use
module _ (ways : ℕ) (lines : Lines) (memory : List ℕ) (use_of : LineUse) (before : StoredLines) (some : 0 < ways)
    (sets : 0 < length lines.sets) (few : length (set_of lines.sets use_of.line) ≤ ways)
    (same : (n : ℕ) → (n ≡ use_of.line → ⊥) → line_in memory n ≡ line_in lines.memory n)
    (kept : changes use_of.kind ≡ false → memory ≡ lines.memory) where
  abbrev set : List Kept
  set = set_of lines.sets use_of.line

  abbrev new : List Kept
  new = set_after ways set use_of

  abbrev after : Lines
  after = record { memory = memory; sets = sets_after ways lines.sets use_of }

  abbrev requests : List LineRequest
  requests = requests_of ways lines.memory lines.sets use_of

  new-is : new ≡ record { line = use_of.line; dirty = keeps_dirty set use_of.line || changes use_of.kind }
      ∷ take (ways - 1) (others set use_of.line)
  new-is = take-first ways _ (others set use_of.line) some

  or-true : (a b : Bool) → b ≡ true → (a || b) ≡ true
  or-true true b e = refl
  or-true false b e = e

  -- the line that is used
  used-line : (dirty : Bool) → (keeps_dirty set use_of.line || changes use_of.kind) ≡ dirty
      → IsStored lines before use_of.line
      → (keeps_dirty new use_of.line ≡ true)
      ⊎ (data_line (stored_by before requests) use_of.line ≡ line_in memory use_of.line)
  used-line true is was =
      inl (ap (λ l. keeps_dirty l use_of.line) new-is
      ∙ ap (λ b. ((use_of.line == use_of.line) && b) || keeps_dirty (take (ways - 1)
      (others set use_of.line)) use_of.line) is
      ∙ ap (λ b. (b && true) || keeps_dirty (take (ways - 1) (others set use_of.line)) use_of.line)
      (eq-eqb use_of.line use_of.line refl))
  used-line false is (inl dirty) =
      let none : keeps_dirty set use_of.line ≡ false =
      (or_parts (keeps_dirty set use_of.line) (changes use_of.kind) is).0 in absurd cc
  used-line false is (inr stands) =
      let clean : changes use_of.kind ≡ false = (or_parts (keeps_dirty set use_of.line) (changes use_of.kind) is).1 in
      inr (keeps-stored lines.memory before set use_of use_of.line (victim ways set use_of.line) stands
      ∙ ap (λ m. line_in m use_of.line) (sym (kept clean)))

  -- it is dirty where the use changes it
  changed-line : changes use_of.kind ≡ true → keeps_dirty new use_of.line ≡ true
  changed-line is =
      ap (λ l. keeps_dirty l use_of.line) new-is
      ∙ ap (λ b. ((use_of.line == use_of.line) && b) || keeps_dirty (take (ways - 1)
      (others set use_of.line)) use_of.line)
      (or-true (keeps_dirty set use_of.line) (changes use_of.kind) is)
      ∙ ap (λ b. (b && true) || keeps_dirty (take (ways - 1) (others set use_of.line)) use_of.line)
      (eq-eqb use_of.line use_of.line refl)

  -- another line of its set
  other-line : (n : ℕ) → (n ≡ use_of.line → ⊥)
      → (keeps_dirty set n ≡ true) ⊎ (data_line before n ≡ line_in lines.memory n)
      → (keeps_dirty new n ≡ true) ⊎ (data_line (stored_by before requests) n ≡ line_in memory n)
  other-line n ne (inl dirty) =
      elim (stays-or-last (others set use_of.line) (ways - 1) n (omega (arith, others-few set use_of.line))
      (others-dirty set use_of.line n ne ∙ dirty)) [
        | inl stays ↦ inl (ap (λ l. keeps_dirty l n) new-is ∙ or-true _ _ stays)
        | inr last ↦ inr (victim-stored lines.memory before set use_of n (victim ways set use_of.line) last.0 last.1
            last.3 last.2 ∙ sym (same n ne))
      ]
  other-line n ne (inr stands) =
      inr (keeps-stored lines.memory before set use_of n (victim ways set use_of.line) stands ∙ sym (same n ne))

  -- in its set, and in another
  in-set : (n : ℕ) → n % length lines.sets ≡ use_of.line % length lines.sets → set_of after.sets n ≡ new
  in-set n at =
      ap (λ k. slice_index_or after.sets (n % k) []) (length-set lines.sets (use_of.line % length lines.sets) new)
      ∙ get_or-set_at lines.sets (use_of.line % length lines.sets) (n % length lines.sets) new [] at
      (mod_below use_of.line (length lines.sets) sets)

  off-set : (n : ℕ) → (n % length lines.sets ≡ use_of.line % length lines.sets → ⊥)
      → set_of after.sets n ≡ set_of lines.sets n
  off-set n ne =
      ap (λ k. slice_index_or after.sets (n % k) []) (length-set lines.sets (use_of.line % length lines.sets) new)
      ∙ get_or-set_other lines.sets (use_of.line % length lines.sets) (n % length lines.sets) new [] ne

  pub each-stored : (n : ℕ) → IsStored lines before n → IsStored after (stored_by before requests) n
  each-stored n was = elim (eqb_tells (n % length lines.sets) (use_of.line % length lines.sets)) [
    | inr off ↦ elim was [
      | inl dirty ↦ inl (ap (λ s. keeps_dirty s n) (off-set n off.1) ∙ dirty)
      | inr stands ↦ inr (keeps-stored lines.memory before set use_of n (victim ways set use_of.line) stands
          ∙ sym (same n (λ e. off.1 (ap (λ k. k % length lines.sets) e))))
    ]
    | inl on ↦ elim (eqb_tells n use_of.line) [
      | inl is ↦ (
          let is_set : set_of after.sets use_of.line ≡ new = in-set use_of.line refl in
          subst (IsStored after (stored_by before requests)) (sym is.1)
          (elim (used-line (keeps_dirty set use_of.line || changes use_of.kind) refl (subst
          (IsStored lines before) is.1 was)) [
            | inl dirty ↦ inl (ap (λ s. keeps_dirty s use_of.line) is_set ∙ dirty)
            | inr stands ↦ inr stands
          ])
          )
      | inr not_it ↦ (
          let same_set : set_of lines.sets n ≡ set = ap (λ k. slice_index_or lines.sets k []) on.1 in
          elim (other-line n not_it.1 (elim was [
            | inl dirty ↦ inl (ap (λ s. keeps_dirty s n) (sym same_set) ∙ dirty)
            | inr stands ↦ inr stands
          ])) [
            | inl dirty ↦ inl (ap (λ s. keeps_dirty s n) (in-set n on.1) ∙ dirty)
            | inr stands ↦ inr stands
          ]
          )
    ]
  ]

  pub changed-stored : changes use_of.kind ≡ true → IsStored after (stored_by before requests) use_of.line
  changed-stored is = inl (ap (λ s. keeps_dirty s use_of.line) (in-set use_of.line refl) ∙ changed-line is)

  pub after-room : All (λ (s : List Kept). length s ≤ ways) lines.sets
      → All (λ (s : List Kept). length s ≤ ways) after.sets
  after-room room =
      let first : Kept = record { line = use_of.line; dirty = keeps_dirty set use_of.line || changes use_of.kind } in
      All-set (λ (s : List Kept). length s ≤ ways) lines.sets (use_of.line % length lines.sets) new
      (omega (arith, length-take ways (first ∷ others set use_of.line))) room

  pub after-some : 0 < length after.sets
  after-some = omega (arith, sets, length-set lines.sets (use_of.line % length lines.sets) new)

-- a use of lines that are all loaded
pub use-honest : (ways count : ℕ) (pending : List ℕ) (lines : Lines) (memory : List ℕ) (use_of : LineUse)
    (before : StoredLines) → 0 < ways → IsHonest ways count pending lines before
    → ((n : ℕ) → (n ≡ use_of.line → ⊥) → line_in memory n ≡ line_in lines.memory n)
    → (changes use_of.kind ≡ false → memory ≡ lines.memory)
    → IsHonest ways count pending (record { memory = memory; sets = sets_after ways lines.sets use_of })
    (stored_by before (requests_of ways lines.memory lines.sets use_of))
use-honest ways count pending lines memory use_of before some h same kept =
    let few : length (set_of lines.sets use_of.line) ≤ ways =
    h.room (use_of.line % length lines.sets) [] (mod_below use_of.line (length lines.sets) h.some) in
    record {
      some = after-some ways lines memory use_of before some h.some few same kept;
      room = after-room ways lines memory use_of before some h.some few same kept h.room;
      each = λ n below. elim (h.each n below) [
        | inl waits ↦ inl waits
        | inr was ↦ inr (each-stored ways lines memory use_of before some h.some few same kept n was)
      ];
    }

-- a line of the image that is loaded
pub load-honest : (ways count line : ℕ) (pending : List ℕ) (lines : Lines) (before : StoredLines) → 0 < ways
    → IsHonest ways count (line ∷ pending) lines before
    → IsHonest ways count pending (record lines { sets = sets_after ways lines.sets (image_use line) })
    (stored_by before (requests_of ways lines.memory lines.sets (image_use line)))
load-honest ways count line pending lines before some h =
    let few : length (set_of lines.sets line) ≤ ways =
    h.room (line % length lines.sets) [] (mod_below line (length lines.sets) h.some) in
    let all : IsHonest ways count (line ∷ pending) (record lines { sets = sets_after ways lines.sets (image_use line) })
    (stored_by before (requests_of ways lines.memory lines.sets (image_use line))) =
    use-honest ways count (line ∷ pending) lines lines.memory (image_use line) before some h (λ n ne. refl)
    (λ e. refl) in
    record {
      some = all.some;
      room = all.room;
      each = λ n below. elim (all.each n below) [
        | inl waits ↦ elim waits [
          | inl it ↦ inr (subst (IsStored (record lines { sets = sets_after ways lines.sets (image_use line) })
              (stored_by before (requests_of ways lines.memory lines.sets (image_use line)))) (sym it)
              (changed-stored ways lines lines.memory (image_use line) before some h.some few (λ n ne. refl) (λ e. refl)
              refl))
          | inr later ↦ inl later
        ]
        | inr stands ↦ inr stands
      ];
    }

-- nothing is kept and nothing was stored
pub start-honest : (ways sets count : ℕ) (memory marked : List ℕ) → 0 < sets
    → ((line : ℕ) → line < count → Has line marked ⊎ (line_in memory line ≡ replicate 64 0))
    → IsHonest ways count marked (record { memory = memory; sets = no_lines sets }) []
start-honest ways sets count memory marked some zeros = record {
  some = omega (arith, some, length-replicate {A = List Kept} sets []);
  room = All-replicate (λ (set : List Kept). length set ≤ ways) sets [] (omega arith);
  each = λ line below. elim (zeros line below) [
    | inl waits ↦ inl waits
    | inr none ↦ inr (inr (sym none))
  ];
}
