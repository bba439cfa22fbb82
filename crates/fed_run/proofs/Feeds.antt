-- A use of a line that is fed: what it changes, and that it can go before or behind a write to another line.
use Rattle.std.proofs.Common.{◌≡◌, ◌⊎◌, ℕ, ◌+◌, ◌*◌, ◌≤◌, Bool, true, false, List, [], ◌∷◌, ◌++◌, Result, Ok, Err}
use Rattle.std.proofs.Common.{◌==◌, if◌then◌else◌, length, refl, ap, ◌∙◌, arith, inl, inr}
use Rattle.rv32_core.specs.Access.{slice_of, spliced, length-spliced}
use Rattle.rv32_core.specs.LineList.{LineUse}
use Rattle.data_cache.specs.CacheLists.{sets_after}
use Rattle.fed_run.specs.Fed.{Feed, asks, fed_line, fed_use, fed_uses}
use Rattle.fed_run.specs.Answered.{AreLines}
use Rattle.fed_run.specs.Fed.{NoneLeft, AnotherLine, NotedLine, Unfed, fed_map, fed_then}
use Rattle.fed_run.proofs.Splices.{lines-commute, slice-elsewhere}

-- what a fetch takes where the next line is its own, and where it isn't
abbrev pub if_own : Bool → List ℕ → List NotedLine → Result (List ℕ × List NotedLine) Unfed
if_own own memory rest = if own then Ok (memory, rest) else Err AnotherLine

-- lines behind lines
pub AreLines-append : (first rest : List NotedLine) → AreLines first → AreLines rest → AreLines (first ++ rest)
AreLines-append [] rest h g = g
AreLines-append (noted ∷ more) rest h g = (h.0, AreLines-append more rest (h.1) g)

-- A feed of so many bytes, whose lines are lines.
pub record IsFeed (size : ℕ) (feed : Feed) : Type 0 where
  pub long : length feed.memory ≡ size
  pub lines : AreLines feed.left

-- a feed with bytes put into its list of bytes
abbrev pub put : ℕ → List ℕ → Feed → Feed
put at bytes feed = record feed { memory = spliced feed.memory at bytes }

pub put-is : (size at : ℕ) (bytes : List ℕ) (feed : Feed) → IsFeed size feed → at + length bytes ≤ size
    → IsFeed size (put at bytes feed)
put-is size at bytes feed is fits =
    let long : length feed.memory ≡ size = is.long in
    record { long = length-spliced feed.memory at bytes (omega arith) ∙ long; lines = is.lines }

-- a list of bytes is another, or that with a line put in
abbrev pub Patched : ℕ → List ℕ → List ℕ → Type 0
Patched line memory now =
    (now ≡ memory) ⊎ ((bytes : List ℕ) × (length bytes ≡ 64) × (now ≡ spliced memory (64 * line) bytes))

-- ---- one use
-- what a use leaves
abbrev after_line : ℕ → Feed → LineUse → List ℕ × List NotedLine → Feed
after_line ways feed use_of r = record { memory = r.0; sets = sets_after ways feed.sets use_of; left = r.1 }

module _ (size ways : ℕ) (feed : Feed) (use_of : LineUse) where
  cases : (P : Result Feed Unfed → Type 0) → length feed.memory ≡ size → 64 * use_of.line + 64 ≤ size
      → ((why : Unfed) → P (Err why))
      → ((now : Feed) → IsFeed size now → Patched use_of.line feed.memory now.memory → P (Ok now))
      → (left : List NotedLine) → AreLines left → (b : Bool)
      → P (fed_map (after_line ways feed use_of) (fed_line feed.memory use_of.line left b))
  cases P long room none some left lines false =
      some (after_line ways feed use_of (feed.memory, left)) (record { long = long; lines = lines }) (inl refl)
  cases P long room none some [] lines true = none NoneLeft
  cases P long room none some (noted ∷ rest) lines true = own (noted.line == use_of.line)
    where
      own : (b : Bool) → P (fed_map (after_line ways feed use_of)
          (if_own b (spliced feed.memory (64 * use_of.line) noted.bytes) rest))
      own false = none AnotherLine
      own true =
          let whole : length noted.bytes ≡ 64 = lines.0 in
          some (after_line ways feed use_of (spliced feed.memory (64 * use_of.line) noted.bytes, rest))
          (record {
            long = length-spliced feed.memory (64 * use_of.line) noted.bytes (omega arith) ∙ long;
            lines = lines.1;
          }) (inr (noted.bytes, whole, refl))

  -- What holds where no line is fed, and of each feed that a use may leave, holds of what it leaves.
  pub use-cases : (P : Result Feed Unfed → Type 0) → IsFeed size feed → 64 * use_of.line + 64 ≤ size
      → ((why : Unfed) → P (Err why))
      → ((now : Feed) → IsFeed size now → Patched use_of.line feed.memory now.memory → P (Ok now))
      → P (fed_use ways feed use_of)
  use-cases P is room none some = cases P is.long room none some feed.left is.lines (asks feed.sets use_of)

-- ---- a write to another line
module _ (size ways line place : ℕ) (bytes : List ℕ) (fits : place + length bytes ≤ 64)
    (inside : 64 * line + 64 ≤ size) where
  line-put : (memory : List ℕ) (n : ℕ) → length memory ≡ size → 64 * n + 64 ≤ size → (n ≡ line → ⊥)
      → (left : List NotedLine) → AreLines left → (b : Bool)
      → fed_line (spliced memory (64 * line + place) bytes) n left b
      ≡ fed_map (λ (r : List ℕ × List NotedLine). (spliced (r.0) (64 * line + place) bytes, r.1))
      (fed_line memory n left b)
  line-put memory n long room ne left lines false = refl
  line-put memory n long room ne [] lines true = refl
  line-put memory n long room ne (noted ∷ rest) lines true = own (noted.line == n)
    where
      own : (b : Bool)
          → if_own b (spliced (spliced memory (64 * line + place) bytes) (64 * n) noted.bytes) rest
          ≡ fed_map (λ (r : List ℕ × List NotedLine). (spliced (r.0) (64 * line + place) bytes, r.1))
          (if_own b (spliced memory (64 * n) noted.bytes) rest)
      own false = refl
      own true =
          ap (λ (z : List ℕ). Ok (z, rest))
          (lines-commute memory noted.bytes bytes n line place ne (lines.0) fits (omega arith) (omega arith))

  built-put : (feed : Feed) (use_of : LineUse) (r : Result (List ℕ × List NotedLine) Unfed)
      → fed_map (after_line ways (put (64 * line + place) bytes feed) use_of)
      (fed_map (λ (r : List ℕ × List NotedLine). (spliced (r.0) (64 * line + place) bytes, r.1)) r)
      ≡ fed_map (put (64 * line + place) bytes) (fed_map (after_line ways feed use_of) r)
  built-put feed use_of (Err why) = refl
  built-put feed use_of (Ok r) = refl

  use-put : (feed : Feed) (use_of : LineUse) → IsFeed size feed → 64 * use_of.line + 64 ≤ size
      → (use_of.line ≡ line → ⊥)
      → fed_use ways (put (64 * line + place) bytes feed) use_of
      ≡ fed_map (put (64 * line + place) bytes) (fed_use ways feed use_of)
  use-put feed use_of is room ne =
      ap (fed_map (after_line ways (put (64 * line + place) bytes feed) use_of))
      (line-put feed.memory use_of.line is.long room ne feed.left is.lines (asks feed.sets use_of))
      ∙ built-put feed use_of (fed_line feed.memory use_of.line feed.left (asks feed.sets use_of))

-- uses of other lines, which lie in the list of bytes
abbrev pub Elsewhere : ℕ → ℕ → List LineUse → Type 0
Elsewhere size line [] = Unit {0}
Elsewhere size line (first ∷ others) =
    (first.line ≡ line → ⊥) × (64 * first.line + 64 ≤ size) × Elsewhere size line others

pub uses-put : (size ways line place : ℕ) (bytes : List ℕ) → place + length bytes ≤ 64 → 64 * line + 64 ≤ size
    → (feed : Feed) (uses : List LineUse) → IsFeed size feed → Elsewhere size line uses
    → fed_uses ways (put (64 * line + place) bytes feed) uses
    ≡ fed_map (put (64 * line + place) bytes) (fed_uses ways feed uses)
uses-put size ways line place bytes fits inside feed [] is other = refl
uses-put size ways line place bytes fits inside feed (first ∷ others) is other =
    ap (fed_then (λ (now : Feed). fed_uses ways now others))
    (use-put size ways line place bytes fits inside feed first is (other.1) (other.0))
    ∙ use-cases size ways feed first
    (λ r. fed_then (λ (now : Feed). fed_uses ways now others)
    (fed_map (put (64 * line + place) bytes) r)
    ≡ fed_map (put (64 * line + place) bytes) (fed_then (λ (now : Feed). fed_uses ways now others) r))
    is (other.1) (λ why. refl)
    (λ now good patched. uses-put size ways line place bytes fits inside now others good (other.2))

-- ---- bytes of another line
slice-patched : (memory now : List ℕ) (n line place count : ℕ) → (n ≡ line → ⊥) → place + count ≤ 64
    → 64 * n + 64 ≤ length memory → Patched n memory now
    → slice_of now (64 * line + place) count ≡ slice_of memory (64 * line + place) count
slice-patched memory now n line place count ne fits room (inl same) =
    ap (λ m. slice_of m (64 * line + place) count) same
slice-patched memory now n line place count ne fits room (inr one) =
    ap (λ m. slice_of m (64 * line + place) count) (one.2)
    ∙ slice-elsewhere memory (one.0) n line place count ne (one.1) fits room

-- What is made of the bytes of a line after uses of other lines is made of the bytes before them.
pub uses-slice : {Z : Type 0} (size ways line place count : ℕ) (make : List ℕ → Feed → Z) (piece : List ℕ)
    → place + count ≤ 64 → (feed : Feed) (uses : List LineUse) → IsFeed size feed → Elsewhere size line uses
    → slice_of feed.memory (64 * line + place) count ≡ piece
    → fed_map (λ (now : Feed). make (slice_of now.memory (64 * line + place) count) now) (fed_uses ways feed uses)
    ≡ fed_map (λ (now : Feed). make piece now) (fed_uses ways feed uses)
uses-slice size ways line place count make piece fits feed [] is other same =
    ap (λ (z : List ℕ). Ok (make z feed)) same
uses-slice {Z} size ways line place count make piece fits feed (first ∷ others) is other same =
    let long : length feed.memory ≡ size = is.long in
    use-cases size ways feed first
    (λ r. ◌≡◌ {A = Result Z Unfed}
    (fed_map (λ (now : Feed). make (slice_of now.memory (64 * line + place) count) now)
    (fed_then (λ (now : Feed). fed_uses ways now others) r))
    (fed_map (λ (now : Feed). make piece now) (fed_then (λ (now : Feed). fed_uses ways now others) r)))
    is (other.1) (λ why. refl)
    (λ now good patched. uses-slice size ways line place count make piece fits now others good (other.2)
    (slice-patched feed.memory now.memory first.line line place count (other.0) fits (omega (arith, other.1)) patched
    ∙ same))
