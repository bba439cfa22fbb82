-- A cache and its lists over a list of bytes ask alike, and stand for the same bytes after each call.
use Rattle.std.proofs.Common.{◌≡◌, ◌⊎◌, ℕ, ◌+◌, ◌*◌, ◌%◌, ◌<◌, ◌≤◌, List, [], ◌∷◌, ◌++◌, length, take, drop, map}
use Rattle.std.proofs.Common.{get_or, set, refl, sym, ap, subst, ◌∙◌, arith, inl, inr, length-set, get_or-set_same}
use Rattle.std.proofs.Common.{get_or-set_other}
use Rattle.std.proofs.lemmas.List.{map-set, length-map, get_or-map}
use Rattle.std.proofs.lemmas.Bool.Decides.{eqb_tells}
use Rattle.asc_base.specs.declared.block.Line.{Line}
use Rattle.request_plan.specs.Plan.{Alike}
use Rattle.request_plan.proofs.Alike.{Alike-bind}
use Rattle.rv32_core.specs.Access.{spliced, length-spliced}
use Rattle.rv32_core.specs.LineList.{Read, Write, WholeWrite}
use Rattle.data_cache.specs.Lines.{IsLineAnswer}
use Rattle.data_cache.specs.CacheLists.{Kept, Sets, Lines, set_of, with_kept, line_in, use_set, read_lines, write_lines}
use Rattle.data_cache.specs.CacheLists.{write_whole_line}
use Rattle.data_cache.specs.Contents.{Contents, held_in, with_set, obtain, replace, first_bytes, written, read_plan}
use Rattle.data_cache.specs.Contents.{write_plan, write_line_plan}
use Rattle.data_cache.specs.Mirror.{marks, pairs, NotIn, Fit, Mirrors}
use Rattle.data_cache.specs.declared.set.Held.{Held}
use Rattle.data_cache.proofs.KeptLaws.{Same, First, SOut, OOut, WOut, used_by, or_false, or_true, Fit-other}
use Rattle.data_cache.proofs.KeptLaws.{Fit-elsewhere, obtain_alike, replace_alike}
use Rattle.data_cache.proofs.Parts.{part_of_line, line-spliced, other_line, other-patched}

is-or : (a b : ℕ) → (a ≡ b) ⊎ (a ≡ b → ⊥)
is-or a b = elim (eqb_tells a b) [ inl h ↦ inl h.1 | inr h ↦ inr h.1 ]

below-mod : (n m : ℕ) → 0 < m → n % m < m
below-mod n m h = omega arith

module _ (count : ℕ) where
  -- the lists of a cache, beside a list of bytes
  abbrev lines_of : Contents → List ℕ → Lines
  lines_of c mem = record { memory = mem; sets = map marks (c.sets) }

  -- a set is put in its place
  Mirrors-put : (c : Contents) (mem now : List ℕ) (n : ℕ) (l : List Held) (ms : List Kept)
      → Mirrors count c (lines_of c mem) → ms ≡ marks l → length l ≤ c.ways
      → Fit (length (c.sets)) (n % length (c.sets)) count now (pairs l) → Same n mem now
      → Mirrors count (with_set c n l) (record { memory = now; sets = with_kept (map marks (c.sets)) n ms })
  Mirrors-put c mem now n l ms m e long f same =
      let i : ℕ = n % length (c.sets) in
      let lt : n % length (c.sets) < length (c.sets) = below-mod n (length (c.sets)) m.some in
      record {
        is = rw (length-map (c.sets) marks, e) (sym (map-set marks (c.sets) (n % length (c.sets)) l));
        some = rw length-set m.some;
        ways = m.ways;
        size = same.0 ∙ m.size;
        fits = λ k h. fit k h lt (is-or k (n % length (c.sets)));
        each = λ k h. rw length-set (each-at k (rw length-set at h) lt (is-or k (n % length (c.sets))));
      }
    where
      fit : (k : ℕ) → k < length (set (c.sets) (n % length (c.sets)) l) → n % length (c.sets) < length (c.sets)
          → (k ≡ n % length (c.sets)) ⊎ (k ≡ n % length (c.sets) → ⊥)
          → length (get_or (set (c.sets) (n % length (c.sets)) l) k []) ≤ c.ways
      fit k h lt (inl q) = rw q (rw get_or-set_same long)
      fit k h lt (inr ne) = rw get_or-set_other (m.fits k (rw length-set at h))

      each-at : (k : ℕ) → k < length (c.sets) → n % length (c.sets) < length (c.sets)
          → (k ≡ n % length (c.sets)) ⊎ (k ≡ n % length (c.sets) → ⊥)
          → Fit (length (c.sets)) k count now (pairs (get_or (set (c.sets) (n % length (c.sets)) l) k []))
      each-at k h lt (inl q) = rw q (rw get_or-set_same f)
      each-at k h lt (inr ne) =
          rw get_or-set_other (Fit-other (length (c.sets)) k count n mem now (pairs (get_or (c.sets) k [])) (same.1)
          (Fit-elsewhere (length (c.sets)) k count n mem (pairs (get_or (c.sets) k [])) (λ q. ne (sym q))
          (m.each k h)) (m.each k h))

  -- what the first line is
  first_line : (sets k n : ℕ) (mem : List ℕ) (l : List Held) → First n l → Fit sets k count mem (pairs l)
      → first_bytes l ≡ line_in mem n
  first_line sets k n mem [] h f = absurd h
  first_line sets k n mem (w ∷ ws) h f = sym (f.2) ∙ ap (line_in mem) h

  -- the set of the lists is that of the cache, marked
  pub set_of_is : (c : Contents) (n : ℕ) → 0 < length (c.sets) → set_of (map marks (c.sets)) n ≡ marks (held_in c n)
  set_of_is c n h =
      rw (length-map (c.sets) marks) (get_or-map marks (c.sets) (n % length (c.sets)) [] [] (below-mod n (length
      (c.sets)) h))

  -- a read changes no mark
  used-read : (l : List Held) → used_by 0 0 0 Read (marks l) ≡ marks l
  used-read [] = refl
  used-read (w ∷ ws) = ap (λ b. record { line = w.line; dirty = b } ∷ marks ws) (or_false (w.dirty))

  abbrev OutRead : Contents × List ℕ → Lines × List ℕ → Type 0
  OutRead a d = Mirrors count (a.0) (d.0) × (a.1 ≡ d.1)

  -- a read is made alike
  read-of : (c : Contents) (mem : List ℕ) (n offset len : ℕ) → Mirrors count c (lines_of c mem) → n < count
      → offset + len ≤ 64
      → Alike IsLineAnswer (λ (left : Contents) (sets : Sets). Mirrors count left
      (record { memory = mem; sets = sets })) OutRead
      (read_plan c n offset len) (read_lines (c.ways) (lines_of c mem) n offset len)
  read-of c mem n offset len m lt range =
      let k : ℕ = n % length (c.sets) in
      let l : List Held = held_in c n in
      let inside : n % length (c.sets) < length (c.sets) = below-mod n (length (c.sets)) m.some in
      let f : Fit (length (c.sets)) (n % length (c.sets)) count mem (pairs (held_in c n)) = m.each (n % length
      (c.sets)) inside in
      let long : length (held_in c n) ≤ c.ways = m.fits (n % length (c.sets)) inside in
      Alike-bind IsLineAnswer (SOut (length (c.sets)) (n % length (c.sets)) count (held_in c n))
      (OOut (length (c.sets)) (n % length (c.sets)) count Read (c.ways) n mem)
      (λ (left : Contents) (sets : Sets). Mirrors count left (record { memory = mem; sets = sets })) OutRead _ _ _ _ _ _
      (λ s ms x. Mirrors-put c mem mem n s ms m (x.0) (omega (arith, x.2, long))
      (subst (Fit (length (c.sets)) (n % length (c.sets)) count mem) (sym (x.1)) f) (refl, λ j ne. refl))
      (λ s r x. (
        Mirrors-put c mem (r.1) n s (r.0) m (x.1 ∙ used-read s) (x.4) (x.2) (x.3),
        ap (λ xs. take len (drop offset xs)) (first_line (length (c.sets)) (n % length (c.sets)) n (r.1) s (x.0) (x.2))
            ∙ sym (part_of_line (r.1) n offset len range),
      ))
      (subst (λ z. Alike IsLineAnswer (SOut (length (c.sets)) (n % length (c.sets)) count (held_in c n))
      (OOut (length (c.sets)) (n % length (c.sets)) count Read (c.ways) n mem) (obtain (c.ways) (held_in c n) n)
      (use_set (c.ways) z mem (record { line = n; kind = Read }))) (sym (set_of_is c n m.some))
      (obtain_alike (length (c.sets)) (n % length (c.sets)) count Read (c.ways) n mem
      (held_in c n) refl m.ways long refl lt m.size f))

  pub read_alike : (c : Contents) (lines : Lines) (n offset len : ℕ) → Mirrors count c lines → n < count
      → offset + len ≤ 64
      → Alike IsLineAnswer (λ (left : Contents) (sets : Sets). Mirrors count left
      (record { memory = lines.memory; sets = sets }))
      (λ (a : Contents × List ℕ) (d : Lines × List ℕ). Mirrors count (a.0) (d.0) × (a.1 ≡ d.1))
      (read_plan c n offset len) (read_lines (c.ways) lines n offset len)
  read_alike c lines n offset len m lt range =
      subst (λ (ss : Sets). Alike IsLineAnswer (λ (left : Contents) (sets : Sets). Mirrors count left
      (record { memory = lines.memory; sets = sets }))
      (λ (a : Contents × List ℕ) (d : Lines × List ℕ). Mirrors count (a.0) (d.0) × (a.1 ≡ d.1))
      (read_plan c n offset len) (read_lines (c.ways) (record { memory = lines.memory; sets = ss }) n offset len))
      (sym m.is)
      (read-of c (lines.memory) n offset len
      (subst (λ (ss : Sets). Mirrors count c (record { memory = lines.memory; sets = ss })) m.is m) lt range)

  -- a write into the first line
  write_first : (sets k n offset : ℕ) (mem bytes : List ℕ) (l : List Held) → offset + length bytes ≤ 64
      → 64 * n + 64 ≤ length mem
      → First n l → Fit sets k count mem (pairs l)
      → (used_by 0 0 0 Write (marks l) ≡ marks (written offset bytes l))
      × Fit sets k count (spliced mem (64 * n + offset) bytes) (pairs (written offset bytes l))
      × (length (written offset bytes l) ≡ length l)
  write_first sets k n offset mem bytes [] h g first f = absurd first
  write_first sets k n offset mem bytes (w ∷ ws) h g first f =
      let out : NotIn n (pairs ws) = subst (λ z. NotIn z (pairs ws)) first (f.3) in
      let other : (m : ℕ) → (m ≡ n → ⊥) → line_in (spliced mem (64 * n + offset) bytes) m ≡ line_in mem m =
      λ m ne. other_line mem n offset m bytes h g ne in
      let was : line_in mem n ≡ w.value.0 = ap (line_in mem) (sym first) ∙ f.2 in (
        ap (λ b. record { line = w.line; dirty = b } ∷ marks ws) (or_true (w.dirty)),
        (
          f.0,
          f.1,
          ap (line_in (spliced mem (64 * n + offset) bytes)) first ∙ line-spliced mem n offset bytes h g
              ∙ ap (λ xs. take offset xs ++ bytes ++ drop (offset + length bytes) xs) was,
          f.3,
          Fit-other sets k count n mem (spliced mem (64 * n + offset) bytes) (pairs ws) other out (f.4),
        ),
        refl,
      )

  -- a write is made alike
  write-of : (c : Contents) (mem : List ℕ) (n offset : ℕ) (bytes : List ℕ) → Mirrors count c (lines_of c mem)
      → n < count
      → offset + length bytes ≤ 64
      → Alike IsLineAnswer (λ (left : Contents) (sets : Sets). Mirrors count left
      (record { memory = mem; sets = sets })) (Mirrors count)
      (write_plan c n offset bytes) (write_lines (c.ways) (lines_of c mem) n offset bytes)
  write-of c mem n offset bytes m lt range =
      let inside : n % length (c.sets) < length (c.sets) = below-mod n (length (c.sets)) m.some in
      let f : Fit (length (c.sets)) (n % length (c.sets)) count mem (pairs (held_in c n)) = m.each (n % length
      (c.sets)) inside in
      let long : length (held_in c n) ≤ c.ways = m.fits (n % length (c.sets)) inside in
      Alike-bind IsLineAnswer (SOut (length (c.sets)) (n % length (c.sets)) count (held_in c n))
      (OOut (length (c.sets)) (n % length (c.sets)) count Write (c.ways) n mem)
      (λ (left : Contents) (sets : Sets). Mirrors count left (record { memory = mem; sets = sets }))
      (Mirrors count) _ _ _ _ _ _
      (λ s ms x. Mirrors-put c mem mem n s ms m (x.0) (omega (arith, x.2, long))
      (subst (Fit (length (c.sets)) (n % length (c.sets)) count mem) (sym (x.1)) f) (refl, λ j ne. refl))
      (λ s r x.
      let room : 64 * n + 64 ≤ length (r.1) = omega (arith, x.3.0, m.size) in
      let w = write_first (length (c.sets)) (n % length (c.sets)) n offset (r.1) bytes s range room (x.0) (x.2) in
      Mirrors-put c mem (spliced (r.1) (64 * n + offset) bytes) n (written offset bytes s) (r.0) m (x.1 ∙ w.0)
      (subst (λ z. z ≤ c.ways) (sym (w.2)) (x.4)) (w.1) (
        length-spliced (r.1) (64 * n + offset) bytes (omega (arith, range, room)) ∙ x.3.0,
        λ j ne. other_line (r.1) n offset j bytes range room ne ∙ x.3.1 j ne,
      ))
      (subst (λ z. Alike IsLineAnswer (SOut (length (c.sets)) (n % length (c.sets)) count (held_in c n))
      (OOut (length (c.sets)) (n % length (c.sets)) count Write (c.ways) n mem) (obtain (c.ways) (held_in c n) n)
      (use_set (c.ways) z mem (record { line = n; kind = Write }))) (sym (set_of_is c n m.some))
      (obtain_alike (length (c.sets)) (n % length (c.sets)) count Write (c.ways) n mem
      (held_in c n) refl m.ways long refl lt m.size f))

  pub write_alike : (c : Contents) (lines : Lines) (n offset : ℕ) (bytes : List ℕ) → Mirrors count c lines → n < count
      → offset + length bytes ≤ 64
      → Alike IsLineAnswer (λ (left : Contents) (sets : Sets). Mirrors count left
      (record { memory = lines.memory; sets = sets }))
      (Mirrors count) (write_plan c n offset bytes) (write_lines (c.ways) lines n offset bytes)
  write_alike c lines n offset bytes m lt range =
      subst (λ (ss : Sets). Alike IsLineAnswer (λ (left : Contents) (sets : Sets). Mirrors count left
      (record { memory = lines.memory; sets = sets }))
      (Mirrors count) (write_plan c n offset bytes) (write_lines (c.ways)
      (record { memory = lines.memory; sets = ss }) n offset bytes)) (sym m.is)
      (write-of c (lines.memory) n offset bytes
      (subst (λ (ss : Sets). Mirrors count c (record { memory = lines.memory; sets = ss })) m.is m) lt range)

  -- and so is a write of a whole line
  whole-of : (c : Contents) (mem : List ℕ) (n : ℕ) (value : Line) → Mirrors count c (lines_of c mem) → n < count
      → length (value.0) ≡ 64
      → Alike IsLineAnswer (λ (left : Contents) (sets : Sets). Mirrors count left
      (record { memory = mem; sets = sets })) (Mirrors count)
      (write_line_plan c n value) (write_whole_line (c.ways) (lines_of c mem) n (value.0))
  whole-of c mem n value m lt whole =
      let inside : n % length (c.sets) < length (c.sets) = below-mod n (length (c.sets)) m.some in
      let f : Fit (length (c.sets)) (n % length (c.sets)) count mem (pairs (held_in c n)) = m.each (n % length
      (c.sets)) inside in
      let long : length (held_in c n) ≤ c.ways = m.fits (n % length (c.sets)) inside in
      let room : 64 * n + 64 ≤ length mem = omega (arith, m.size) in
      Alike-bind IsLineAnswer (SOut (length (c.sets)) (n % length (c.sets)) count (held_in c n))
      (WOut (length (c.sets)) (n % length (c.sets)) count (c.ways) n mem value)
      (λ (left : Contents) (sets : Sets). Mirrors count left (record { memory = mem; sets = sets }))
      (Mirrors count) _ _ _ _ _ _
      (λ s ms x. Mirrors-put c mem mem n s ms m (x.0) (omega (arith, x.2, long))
      (subst (Fit (length (c.sets)) (n % length (c.sets)) count mem) (sym (x.1)) f) (refl, λ j ne. refl))
      (λ s r x. subst (λ (now : List ℕ). Mirrors count (with_set c n s) (record {
        memory = spliced now (64 * n)
            (value.0);
        sets = with_kept (map marks (c.sets)) n (r.0);
      }))
      (sym (x.1))
      (Mirrors-put c mem (spliced mem (64 * n) (value.0)) n s (r.0) m (x.0) (x.3) (x.2) (
        length-spliced mem (64 * n) (value.0) (omega (arith, whole, room)),
        λ j ne. other-patched mem n j
            (value.0) whole room ne,
      )))
      (subst (λ z. Alike IsLineAnswer (SOut (length (c.sets)) (n % length (c.sets)) count (held_in c n))
      (WOut (length (c.sets)) (n % length (c.sets)) count (c.ways) n mem value) (replace (c.ways) (held_in c n) n value)
      (use_set (c.ways) z mem (record { line = n; kind = WholeWrite }))) (sym (set_of_is c n m.some))
      (replace_alike (length (c.sets)) (n % length (c.sets)) count (c.ways) n mem value
      (held_in c n) m.ways long refl lt m.size whole f))

  pub whole_alike : (c : Contents) (lines : Lines) (n : ℕ) (value : Line) → Mirrors count c lines → n < count
      → length (value.0) ≡ 64
      → Alike IsLineAnswer (λ (left : Contents) (sets : Sets). Mirrors count left
      (record { memory = lines.memory; sets = sets }))
      (Mirrors count) (write_line_plan c n value) (write_whole_line (c.ways) lines n (value.0))
  whole_alike c lines n value m lt whole =
      subst (λ (ss : Sets). Alike IsLineAnswer (λ (left : Contents) (sets : Sets). Mirrors count left
      (record { memory = lines.memory; sets = sets }))
      (Mirrors count) (write_line_plan c n value) (write_whole_line (c.ways)
      (record { memory = lines.memory; sets = ss }) n (value.0))) (sym m.is)
      (whole-of c (lines.memory) n value
      (subst (λ (ss : Sets). Mirrors count c (record { memory = lines.memory; sets = ss })) m.is m) lt whole)
