-- A cache and its lists ask alike for an access.
use Rattle.std.proofs.Common.{◌≡◌, ℕ, ◌+◌, ◌*◌, ◌%◌, ◌<◌, ◌≤◌, ◌==◌, false, if◌then◌else◌, List, [], length, refl, sym}
use Rattle.std.proofs.Common.{subst, ◌∙◌, arith}
use Rattle.std.proofs.lemmas.Bool.Decides.{nat_tests}
use Rattle.asc_base.specs.declared.block.Line.{Line}
use Rattle.request_plan.specs.Plan.{Plan, Done, Ask, bind, Outcomes, Alike}
use Rattle.request_plan.proofs.Alike.{SameBeside, Alike-bind}
use Rattle.rv32_core.specs.Access.{Access, Load, Store, IsAccess, slice_of}
use Rattle.data_cache.specs.Lines.{LineRequest, IsLineAnswer}
use Rattle.data_cache.specs.CacheLists.{Sets, Lines, read_lines, write_lines, write_whole_line}
use Rattle.data_cache.specs.Contents.{Contents, held_in, with_set, obtain, replace, first_bytes, written, read_plan}
use Rattle.data_cache.specs.Contents.{write_plan, write_line_plan}
use Rattle.data_cache.specs.Mirror.{Mirrors}
use Rattle.data_cache.specs.Cached.{line_at, place_at, cache_access, lists_access, HasBytes, StandsAs, StandsLeft}
use Rattle.data_cache.proofs.MirrorLaws.{read_alike, write_alike, whole_alike}

-- what each outcome has besides
Alike-more : {Q X B C A D : Type 0} (Fine : Q → X → Type 0) (P : A → Type 0) (Left Left' : B → C → Type 0)
    (Out Out' : A → D → Type 0) → ((b : B) (c : C) → Left b c → Left' b c)
    → ((a : A) (d : D) → P a → Out a d → Out' a d) → (p : Plan Q X B A) (r : Plan Q X C D)
    → Outcomes P p → Alike Fine Left Out p r → Alike Fine Left' Out' p r
Alike-more Fine P Left Left' Out Out' left out (Done a) (Done d) has same = out a d has same
Alike-more Fine P Left Left' Out Out' left out (Ask q b k) (Ask r c l) has same = (
  same.0,
  left b c (same.1),
  λ x fine. Alike-more Fine P Left Left' Out Out' left out (k x) (l x) (has x)
      (same.2 x fine),
)
Alike-more Fine P Left Left' Out Out' left out (Done a) (Ask r c l) has same = absurd same
Alike-more Fine P Left Left' Out Out' left out (Ask q b k) (Done d) has same = absurd same

-- what is made of each outcome
Outcomes-last : {Q X B C A D : Type 0} (P : D → Type 0) (put : B → C) (p : Plan Q X B A) (f : A → D)
    → ((a : A) → P (f a)) → Outcomes P (bind put p (λ a. Done (f a)))
Outcomes-last P put (Done a) f each = each a
Outcomes-last P put (Ask q b k) f each = λ x. Outcomes-last P put (k x) f each

-- a choice of an access that has bytes
some-bytes : {A : Type 0} (count : ℕ) (none some : A) → 0 < count → (if count == 0 then none else some) ≡ some
some-bytes count none some h = let no : (count == 0) ≡ false = grind (arith, nat_tests) in rw no refl

module _ (count base ways : ℕ) (aligned : base % 64 ≡ 0) where
  read-stands : (cache : Contents) (lines : Lines) (n offset len : ℕ) → StandsAs count ways cache lines → n < count
      → offset + len ≤ 64
      → Alike IsLineAnswer (StandsLeft count) (SameBeside (StandsAs count ways))
      (read_plan cache n offset len) (read_lines ways lines n offset len)
  read-stands cache lines n offset len stands less fits =
      subst (λ w. Alike IsLineAnswer (StandsLeft count) (SameBeside (StandsAs count ways))
      (read_plan cache n offset len) (read_lines w lines n offset len)) (stands.1)
      (Alike-more IsLineAnswer (λ (a : Contents × List ℕ). (a.0).ways ≡ cache.ways)
      (λ (left : Contents) (sets : Sets). Mirrors count left (record { memory = lines.memory; sets = sets }))
      (StandsLeft count)
      (λ (a : Contents × List ℕ) (d : Lines × List ℕ). Mirrors count (a.0) (d.0) × (a.1 ≡ d.1))
      (SameBeside (StandsAs count ways))
      (λ left sets h. (lines.memory, h)) (λ a d same h. ((h.0, same ∙ stands.1), h.1))
      (read_plan cache n offset len) (read_lines (cache.ways) lines n offset len)
      (Outcomes-last (λ (a : Contents × List ℕ). (a.0).ways ≡ cache.ways) (with_set cache n)
      (obtain (cache.ways) (held_in cache n) n)
      (λ s. (with_set cache n s, slice_of (first_bytes s) offset len)) (λ s. refl))
      (read_alike count cache lines n offset len (stands.0) less fits))

  write-stands : (cache : Contents) (lines : Lines) (n offset : ℕ) (bytes : List ℕ) → StandsAs count ways cache lines
      → n < count → offset + length bytes ≤ 64
      → Alike IsLineAnswer (StandsLeft count) (StandsAs count ways)
      (write_plan cache n offset bytes) (write_lines ways lines n offset bytes)
  write-stands cache lines n offset bytes stands less fits =
      subst (λ w. Alike IsLineAnswer (StandsLeft count) (StandsAs count ways)
      (write_plan cache n offset bytes) (write_lines w lines n offset bytes)) (stands.1)
      (Alike-more IsLineAnswer (λ (a : Contents). a.ways ≡ cache.ways)
      (λ (left : Contents) (sets : Sets). Mirrors count left (record { memory = lines.memory; sets = sets }))
      (StandsLeft count) (Mirrors count) (StandsAs count ways)
      (λ left sets h. (lines.memory, h)) (λ a d same h. (h, same ∙ stands.1))
      (write_plan cache n offset bytes) (write_lines (cache.ways) lines n offset bytes)
      (Outcomes-last (λ (a : Contents). a.ways ≡ cache.ways) (with_set cache n)
      (obtain (cache.ways) (held_in cache n) n)
      (λ s. with_set cache n (written offset bytes s)) (λ s. refl))
      (write_alike count cache lines n offset bytes (stands.0) less fits))

  -- A write of a whole line.
  pub whole-stands-as : (cache : Contents) (lines : Lines) (n : ℕ) (value : Line) → StandsAs count ways cache lines
      → n < count → length (value.0) ≡ 64
      → Alike IsLineAnswer (StandsLeft count) (StandsAs count ways)
      (write_line_plan cache n value) (write_whole_line ways lines n (value.0))
  whole-stands-as cache lines n value stands less whole =
      subst (λ w. Alike IsLineAnswer (StandsLeft count) (StandsAs count ways)
      (write_line_plan cache n value) (write_whole_line w lines n (value.0))) (stands.1)
      (Alike-more IsLineAnswer (λ (a : Contents). a.ways ≡ cache.ways)
      (λ (left : Contents) (sets : Sets). Mirrors count left (record { memory = lines.memory; sets = sets }))
      (StandsLeft count) (Mirrors count) (StandsAs count ways)
      (λ left sets h. (lines.memory, h)) (λ a d same h. (h, same ∙ stands.1))
      (write_line_plan cache n value) (write_whole_line (cache.ways) lines n (value.0))
      (Outcomes-last (λ (a : Contents). a.ways ≡ cache.ways) (with_set cache n)
      (replace (cache.ways) (held_in cache n) n value) (λ s. with_set cache n s) (λ s. refl))
      (whole_alike count cache lines n value (stands.0) less whole))

  -- An access inside the memory, in one line, of some bytes.
  pub access-alike : (cache : Contents) (lines : Lines) (access : Access) → StandsAs count ways cache lines
      → IsAccess base (64 * count) access → HasBytes access
      → Alike IsLineAnswer (StandsLeft count) (SameBeside (StandsAs count ways))
      (cache_access base cache access) (lists_access base ways lines access)
  access-alike cache lines (Load address len) stands is some =
      let low : base ≤ address = is.above in
      let high : address + len ≤ base + 64 * count = is.below in
      let line : address % 64 + len ≤ 64 = is.in_line in
      subst (λ p. Alike IsLineAnswer (StandsLeft count) (SameBeside (StandsAs count ways)) p
      (lists_access base ways lines (Load address len)))
      (sym (some-bytes len (Done (cache, [])) (read_plan cache (line_at base address)
      (place_at base address) len) some))
      (read-stands cache lines (line_at base address) (place_at base address) len stands (omega arith) (omega arith))
  access-alike cache lines (Store address bytes) stands is some =
      let low : base ≤ address = is.above in
      let high : address + length bytes ≤ base + 64 * count = is.below in
      let line : address % 64 + length bytes ≤ 64 = is.in_line in
      let asks : Plan LineRequest (List ℕ) Contents Contents =
      write_plan cache (line_at base address) (place_at base address) bytes in
      subst (λ p. Alike IsLineAnswer (StandsLeft count) (SameBeside (StandsAs count ways)) p
      (lists_access base ways lines (Store address bytes)))
      (sym (some-bytes (length bytes) (Done (cache, []))
      (bind (λ (left : Contents). left) asks (λ after. Done (after, []))) some))
      (Alike-bind IsLineAnswer (StandsLeft count) (StandsAs count ways) (StandsLeft count)
      (SameBeside (StandsAs count ways)) (λ left. left) (λ left. left) asks
      (write_lines ways lines (line_at base address) (place_at base address) bytes)
      (λ after. Done (after, [])) (λ after. Done (after, []))
      (λ left sets h. h) (λ a d h. (h, refl))
      (write-stands cache lines (line_at base address) (place_at base address) bytes stands (omega arith)
      (omega arith)))
