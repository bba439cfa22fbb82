-- A host call's bytes, in pieces: its lines are used first, and then its bytes move at once.
use Rattle.std.proofs.Common.{◌≡◌, ℕ, zero, suc, ◌+◌, ◌-◌, ◌*◌, ◌%◌, ◌<◌, ◌≤◌, List, [], ◌∷◌, ◌++◌, Result, Ok, Err}
use Rattle.std.proofs.Common.{length, take, drop, refl, sym, ap, subst, ◌∙◌, arith, append_assoc, append-nil}
use Rattle.std.proofs.Common.{length-drop}
use Rattle.std.proofs.lemmas.List.{length-take-le, take-append-drop}
use Rattle.request_plan.specs.Plan.{Plan}
use Rattle.rv32_core.specs.Access.{Access, slice_of, spliced}
use Rattle.rv32_core.specs.Machine.{CoreState}
use Rattle.rv32_core.specs.Transfer.{pieces_within, pieces, stores_plan, loads_plan}
use Rattle.rv32_core.specs.LineList.{LineKind, Read, Write, LineUse, line_of, lines_of, used}
use Rattle.rv32_core.proofs.TransferLaws.{first_length, pieces_within-none, pieces_within-more, spliced-spliced}
use Rattle.rv32_core.proofs.TransferLaws.{spliced-none, slice_of-append}
use Rattle.rv32_core.proofs.LineLaws.{lines_of-more}
use Rattle.data_cache.specs.Cached.{line_at, place_at}
use Rattle.fed_run.specs.Fed.{Feed, fed_uses}
use Rattle.fed_run.specs.Fed.{Unfed, fed_map, fed_then}
use Rattle.fed_run.proofs.AccessCourses.{fed_served}
use Rattle.fed_run.proofs.Feeds.{IsFeed, put, put-is, use-cases, Elsewhere, uses-put, uses-slice}

-- ---- what was fed
pub map-same : {A B : Type 0} (f g : A → B) → ((a : A) → f a ≡ g a) → (r : Result A Unfed) → fed_map f r ≡ fed_map g r
map-same f g each (Err why) = refl
map-same f g each (Ok a) = ap Ok (each a)

pub map-twice : {A B C : Type 0} (f : A → B) (g : B → C) (h : A → C) → ((a : A) → g (f a) ≡ h a) → (r : Result A Unfed)
    → fed_map g (fed_map f r) ≡ fed_map h r
map-twice f g h each (Err why) = refl
map-twice f g h each (Ok a) = ap Ok (each a)

-- ---- what a host call does with its bytes
-- they are put in, and nothing is answered
abbrev pub stored : CoreState → ℕ → List ℕ → Feed → Unit {0} × Feed
stored core address bytes now = (tt, put (address - core.base) bytes now)

-- they are appended
abbrev pub loaded : CoreState → ℕ → ℕ → List ℕ → Feed → List ℕ × Feed
loaded core address count so_far now = (so_far ++ slice_of now.memory (address - core.base) count, now)

-- ---- the lines behind a piece
-- a memory of whole lines
pub record IsPlace (core : CoreState) (size : ℕ) : Type 0 where
  pub base : core.base % 64 ≡ 0
  pub whole : size % 64 ≡ 0

module _ (core : CoreState) (size : ℕ) (place : IsPlace core size) where
  lines-beyond : (kind : LineKind) (line most address count : ℕ) → count ≤ most
      → (0 < count → core.base ≤ address) → (0 < count → address + count ≤ core.base + size)
      → (0 < count → line < line_of core address)
      → Elsewhere size line (used kind (lines_of core address count))
  lines-beyond kind line most address zero fits low high less = tt
  lines-beyond kind line zero address (suc n) fits low high less = absurd (omega arith)
  lines-beyond kind line (suc most) address (suc n) fits low high less =
      let count : ℕ = suc n in
      let part : ℕ = first_length address count in
      let base : core.base ≤ address = low (omega arith) in
      let end : address + count ≤ core.base + size = high (omega arith) in
      let beyond : line < line_of core address = less (omega arith) in
      let aligned : core.base % 64 ≡ 0 = place.base in
      let whole : size % 64 ≡ 0 = place.whole in
      let rest = lines-beyond kind line most (address + part) (count - part) (omega arith)
      (λ more. omega arith) (λ more. omega arith) (λ more. omega arith) in
      subst (λ l. Elsewhere size line (used kind l)) (sym (lines_of-more core address count aligned base (omega arith)))
      (λ e. omega arith, omega arith, rest)

  -- the first piece is in its line
  first-in-line : (address count : ℕ) → core.base ≤ address
      → place_at core.base address + first_length address count ≤ 64
  first-in-line address count low = let aligned : core.base % 64 ≡ 0 = place.base in omega arith

  -- a line of the memory
  line-inside : (address count : ℕ) → core.base ≤ address → address + count ≤ core.base + size → 0 < count
      → 64 * line_at core.base address + 64 ≤ size
  line-inside address count low high some = let whole : size % 64 ≡ 0 = place.whole in omega arith

  at-line : (address : ℕ) → core.base ≤ address
      → 64 * line_at core.base address + place_at core.base address ≡ address - core.base
  at-line address low = omega arith

  module _ (ways : ℕ) where
    -- ---- a host read
    stored-twice : (address part : ℕ) (bytes : List ℕ) → core.base ≤ address → length (take part bytes) ≡ part
        → (now : Feed)
        → stored core (address + part) (drop part bytes) (put (address - core.base) (take part bytes) now)
        ≡ stored core address bytes now
    stored-twice address part bytes low whole now =
        let at : (address + part) - core.base ≡ (address - core.base) + length (take part bytes) =
        omega (arith, whole) in
        ap (λ (m : List ℕ). let z : Unit {0} × Feed = (tt, record now { memory = m }) in z)
        (ap (λ n. spliced (spliced now.memory (address - core.base) (take part bytes)) n (drop part bytes)) at
        ∙ spliced-spliced now.memory (take part bytes) (drop part bytes) (address - core.base)
        ∙ ap (spliced now.memory (address - core.base)) (take-append-drop part bytes))

    stores-within : (most address : ℕ) (bytes : List ℕ) (feed : Feed) → length bytes ≤ most
        → (0 < length bytes → core.base ≤ address) → (0 < length bytes → address + length bytes ≤ core.base + size)
        → IsFeed size feed
        → fed_served core.base ways (stores_plan bytes (pieces_within most address (length bytes))) feed
        ≡ fed_map (stored core address bytes)
        (fed_uses ways feed (used Write (lines_of core address (length bytes))))
    stores-within most address [] feed fits low high is =
        ap (λ l. fed_served core.base ways (stores_plan [] l) feed) (pieces_within-none most address)
        ∙ ap (λ (m : List ℕ). let z : Unit {0} × Feed = (tt, record feed { memory = m }) in Ok z)
        (sym (spliced-none feed.memory (address - core.base)))
    stores-within zero address (b ∷ bs) feed fits low high is = absurd (omega arith)
    stores-within (suc most) address (b ∷ bs) feed fits low high is =
        let bytes : List ℕ = b ∷ bs in
        let count : ℕ = length bytes in
        let part : ℕ = first_length address count in
        let piece : List ℕ = take part bytes in
        let later : List ℕ = drop part bytes in
        let some : 0 < count = omega arith in
        let base : core.base ≤ address = low some in
        let end : address + count ≤ core.base + size = high some in
        let aligned : core.base % 64 ≡ 0 = place.base in
        let first : LineUse = record { line = line_of core address; kind = Write } in
        let others : List LineUse = used Write (lines_of core (address + part) (count - part)) in
        let whole : length piece ≡ part = length-take-le part bytes (omega arith) in
        let left : length later ≡ count - part = length-drop part bytes in
        let within : place_at core.base address + length piece ≤ 64 =
        (let h : place_at core.base address + part ≤ 64 = first-in-line address count base in omega (arith, whole)) in
        let inside : 64 * line_at core.base address + 64 ≤ size = line-inside address count base end some in
        let beyond : Elsewhere size (line_of core address) others =
        lines-beyond Write (line_of core address) most (address + part) (count - part) (omega arith)
        (λ more. omega arith) (λ more. omega arith) (λ more. omega arith) in
        let at : 64 * line_at core.base address + place_at core.base address ≡ address - core.base =
        at-line address base in
        let rest : Plan Access (List ℕ) (Unit {0}) (Unit {0}) =
        stores_plan later (pieces_within most (address + part) (count - part)) in
        ap (λ l. fed_served core.base ways (stores_plan bytes l) feed) (pieces_within-more most address count some)
        ∙ use-cases size ways feed first
        (λ r. fed_then
        (λ (now : Feed). fed_served core.base ways rest (put (address - core.base) piece now)) r
        ≡ fed_map (stored core address bytes) (fed_then (λ (now : Feed). fed_uses ways now others) r))
        is inside (λ why. refl)
        (λ now good patched.
        ap (λ n. fed_served core.base ways (stores_plan later (pieces_within most (address + part) n))
        (put (address - core.base) piece now)) (sym left)
        ∙ stores-within most (address + part) later (put (address - core.base) piece now) (omega (arith, left))
        (λ more. omega arith) (λ more. omega (arith, left))
        (put-is size (address - core.base) piece now good (omega (arith, whole)))
        ∙ ap (λ n. fed_map (stored core (address + part) later)
        (fed_uses ways (put (address - core.base) piece now) (used Write (lines_of core (address + part) n)))) left
        ∙ ap (fed_map (stored core (address + part) later))
        (ap (λ n. fed_uses ways (put n piece now) others) (sym at)
        ∙ uses-put size ways (line_at core.base address) (place_at core.base address) piece within inside now others
        good beyond
        ∙ ap (λ n. fed_map (put n piece) (fed_uses ways now others)) at)
        ∙ map-twice (put (address - core.base) piece) (stored core (address + part) later) (stored core address bytes)
        (stored-twice address part bytes base whole) (fed_uses ways now others))
        ∙ ap (λ l. fed_map (stored core address bytes) (fed_uses ways feed (used Write l)))
        (sym (lines_of-more core address count aligned base some))

    pub served-stores : (address : ℕ) (bytes : List ℕ) (feed : Feed)
        → (0 < length bytes → core.base ≤ address) → (0 < length bytes → address + length bytes ≤ core.base + size)
        → IsFeed size feed
        → fed_served core.base ways (stores_plan bytes (pieces address (length bytes))) feed
        ≡ fed_map (stored core address bytes)
        (fed_uses ways feed (used Write (lines_of core address (length bytes))))
    served-stores address bytes feed low high is =
        stores-within (length bytes) address bytes feed (omega arith) low high is

    -- ---- a host write
    loaded-twice : (address count part : ℕ) (so_far : List ℕ) → core.base ≤ address → part ≤ count → (now : Feed)
        → ◌≡◌ {A = List ℕ × Feed} (
          (so_far ++ slice_of now.memory (address - core.base) part)
              ++ slice_of now.memory ((address + part) - core.base) (count - part),
          now,
        )
        (loaded core address count so_far now)
    loaded-twice address count part so_far low less now =
        let from : ℕ = address - core.base in
        let at : (address + part) - core.base ≡ from + part = omega arith in
        let all : part + (count - part) ≡ count = omega arith in
        ap (λ (l : List ℕ). let z : List ℕ × Feed = (l, now) in z)
        (append_assoc so_far (slice_of now.memory from part)
        (slice_of now.memory ((address + part) - core.base) (count - part))
        ∙ ap (λ l. so_far ++ l)
        (ap (λ n. slice_of now.memory from part ++ slice_of now.memory n (count - part)) at
        ∙ slice_of-append now.memory from part (count - part)
        ∙ ap (slice_of now.memory from) all))

    loads-within : (most address count : ℕ) (so_far : List ℕ) (feed : Feed) → count ≤ most
        → (0 < count → core.base ≤ address) → (0 < count → address + count ≤ core.base + size)
        → IsFeed size feed
        → fed_served core.base ways (loads_plan so_far (pieces_within most address count)) feed
        ≡ fed_map (loaded core address count so_far) (fed_uses ways feed (used Read (lines_of core address count)))
    loads-within most address zero so_far feed fits low high is =
        ap (λ l. fed_served core.base ways (loads_plan so_far l) feed) (pieces_within-none most address)
        ∙ ap (λ (l : List ℕ). let z : List ℕ × Feed = (l, feed) in Ok z) (sym (append-nil so_far))
    loads-within zero address (suc n) so_far feed fits low high is = absurd (omega arith)
    loads-within (suc most) address (suc n) so_far feed fits low high is =
        let count : ℕ = suc n in
        let part : ℕ = first_length address count in
        let some : 0 < count = omega arith in
        let base : core.base ≤ address = low some in
        let end : address + count ≤ core.base + size = high some in
        let aligned : core.base % 64 ≡ 0 = place.base in
        let first : LineUse = record { line = line_of core address; kind = Read } in
        let others : List LineUse = used Read (lines_of core (address + part) (count - part)) in
        let within : place_at core.base address + part ≤ 64 = first-in-line address count base in
        let inside : 64 * line_at core.base address + 64 ≤ size = line-inside address count base end some in
        let beyond : Elsewhere size (line_of core address) others =
        lines-beyond Read (line_of core address) most (address + part) (count - part) (omega arith)
        (λ more. omega arith) (λ more. omega arith) (λ more. omega arith) in
        let at : 64 * line_at core.base address + place_at core.base address ≡ address - core.base =
        at-line address base in
        let make : List ℕ → Feed → List ℕ × Feed = λ piece now.
        ((so_far ++ piece) ++ slice_of now.memory ((address + part) - core.base) (count - part), now) in
        ap (λ l. fed_served core.base ways (loads_plan so_far l) feed) (pieces_within-more most address count some)
        ∙ use-cases size ways feed first
        (λ r. fed_then
        (λ (now : Feed). fed_served core.base ways
        (loads_plan (so_far ++ slice_of now.memory (address - core.base) part)
        (pieces_within most (address + part) (count - part))) now) r
        ≡ fed_map (loaded core address count so_far) (fed_then (λ (now : Feed). fed_uses ways now others) r))
        is inside (λ why. refl)
        (λ now good patched.
        let piece : List ℕ = slice_of now.memory (address - core.base) part in
        let same : slice_of now.memory (64 * line_at core.base address + place_at core.base address) part ≡ piece =
        ap (λ n. slice_of now.memory n part) at in
        loads-within most (address + part) (count - part) (so_far ++ piece) now (omega arith)
        (λ more. omega arith) (λ more. omega arith) good
        ∙ sym (uses-slice size ways (line_at core.base address) (place_at core.base address) part make piece within now
        others good beyond same)
        ∙ ap (λ k. fed_map (λ (f : Feed). make (slice_of f.memory k part) f) (fed_uses ways now others)) at
        ∙ map-same (λ (f : Feed). make (slice_of f.memory (address - core.base) part) f)
        (loaded core address count so_far)
        (loaded-twice address count part so_far base (omega arith)) (fed_uses ways now others))
        ∙ ap (λ l. fed_map (loaded core address count so_far) (fed_uses ways feed (used Read l)))
        (sym (lines_of-more core address count aligned base some))

    pub served-loads : (address count : ℕ) (so_far : List ℕ) (feed : Feed)
        → (0 < count → core.base ≤ address) → (0 < count → address + count ≤ core.base + size)
        → IsFeed size feed
        → fed_served core.base ways (loads_plan so_far (pieces address count)) feed
        ≡ fed_map (loaded core address count so_far) (fed_uses ways feed (used Read (lines_of core address count)))
    served-loads address count so_far feed low high is =
        loads-within count address count so_far feed (omega arith) low high is
