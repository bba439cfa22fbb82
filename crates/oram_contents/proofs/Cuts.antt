-- The contents of a log whose last slot failed in one of its writes.
use Rattle.std.proofs.Common.{◌≡◌, ◌≤◌, ◌+◌, ◌-◌, ℕ, zero, suc, inl, inr, Bool, true, false, if◌then◌else◌, ◌==◌}
use Rattle.std.proofs.Common.{List, [], ◌∷◌, ◌++◌, Option, None, Some, refl, ◌∙◌, ap}
use Rattle.std.proofs.Common.{arith, add-one}
use Rattle.std.proofs.lemmas.Bool.Decides.{eqb_tells}
use Rattle.asc_base.specs.declared.block.Point.{Point}
use Rattle.bus_watch.specs.Path.{along, reads, reads_end, writes, slot_moves}
use Rattle.bus_watch.specs.Log.{LogLists}
use Rattle.bus_watch.specs.declared.log.Move.{Move}
use Rattle.oram_contents.specs.Contents.{Contents}
use Rattle.oram_contents.specs.PathWritten.{sealed}
use Rattle.oram_contents.specs.Entries.{Keys}
use Rattle.oram_contents.specs.Fold.{Fold, IsCut, LogEnd, Whole, LastFailed, RanOut, settle, partly, whole, writes_run}
use Rattle.oram_contents.specs.Fold.{written_ok, fold_events, contents_of_log}

run_append : (n : ℕ) (xs ys : List Move) → writes_run n (xs ++ ys) ≡ writes_run (writes_run n xs) ys
run_append n [] ys = refl
run_append n (x ∷ xs) ys = run_append (if x.write then n + 1 else 0) xs ys

run_writes : (levels first leaf m n : ℕ) → writes_run m (along levels true first leaf n) ≡ m + n
unfolding along
run_writes levels first leaf m zero = omega arith
run_writes levels first leaf m (suc n) = run_append m (along levels true first leaf n) _
    ∙ (let before = run_writes levels first leaf m n in omega arith)

run_reads : (levels first leaf m n : ℕ) → writes_run m (along levels false first leaf (suc n)) ≡ 0
unfolding along
run_reads levels first leaf m n = run_append m (along levels false first leaf n) _

-- how many writes were answered Ok, where the last move is the write at a level, and failed
pub written_at : (levels start leaf level : ℕ) (old new : List Move)
    → new ≡ old ++ (reads levels start leaf ++ along levels true (reads_end levels start + 16) leaf (level + 1))
    → writes_run 0 new ≡ level + 1
written_at levels start leaf level old new is =
    ap (writes_run 0) is ∙ run_append 0 old (reads levels start leaf ++ along levels true
    (reads_end levels start + 16) leaf (level + 1))
    ∙ run_append (writes_run 0 old) (reads levels start leaf)
    (along levels true (reads_end levels start + 16) leaf (level + 1))
    ∙ run_writes levels (reads_end levels start + 16) leaf
    (writes_run (writes_run 0 old) (along levels false start leaf (levels + 1))) (level + 1)
    ∙ (let none : writes_run (writes_run 0 old) (along levels false start leaf (levels + 1)) ≡ 0 = ap
    (λ n. writes_run (writes_run 0 old) (along levels false start leaf n)) add_one_is
    ∙ run_reads levels start leaf (writes_run 0 old) levels in omega arith)
  where
    add_one_is : levels + 1 ≡ suc levels
    add_one_is = rw add-one refl

cut_number : (end : LogEnd) → IsCut end → (moves : List Move) → written_ok end moves ≡ writes_run 0 moves - 1
cut_number Whole cut moves = absurd cut
cut_number LastFailed cut moves = refl
cut_number RanOut cut moves = refl

module _ (keys : Keys) (first : Fold) (log : LogLists) where
  abbrev folded : Fold
  folded = fold_events keys log.altered 0 log.events first

  part : (end : LogEnd) (level : ℕ) → written_ok end log.moves ≡ level → level ≤ keys.shape.levels
      → contents_of_log keys first log end ≡ partly keys level folded
  part end level wrote within =
      ap (λ (b : Bool). (if b then (settle keys folded).now else partly keys (written_ok end log.moves) folded)) less
      ∙ ap (λ w. partly keys w folded) wrote
    where
      less : (written_ok end log.moves == keys.shape.levels + 1) ≡ false
      less = elim (eqb_tells (written_ok end log.moves) (keys.shape.levels + 1))
          [ inl same ↦ absurd (omega (arith, same.1, wrote)) | inr other ↦ other.0 ]

  by_path : (f : Fold) (level : ℕ) (p : Point) (leaf : ℕ) → f.path ≡ Some (p, leaf)
      → (partly keys level f).mirror ≡ sealed keys.pads keys.shape.levels leaf f.now.seed f.now.hand f.now.mirror level
  by_path f level p leaf is = ap (λ o. (partly keys level (record f { path = o })).mirror) is

  none_written : (f : Fold) (path : Option (Point × ℕ)) → f.path ≡ path → (partly keys 0 f).mirror ≡ f.now.mirror
  unfolding sealed
  none_written f None is = ap (λ o. (partly keys 0 (record f { path = o })).mirror) is
  none_written f (Some (p, leaf)) is = ap (λ o. (partly keys 0 (record f { path = o })).mirror) is

  -- the buckets of the levels above are written, and the others stand as they were
  pub cut_contents : (before : List Move) (end : LogEnd) (start level : ℕ) (p : Point) (leaf : ℕ) → IsCut end
      → level ≤ keys.shape.levels
      → log.moves ≡ before ++ (reads keys.shape.levels start leaf ++ along keys.shape.levels true
      (reads_end keys.shape.levels start + 16) leaf (level + 1))
      → folded.path ≡ Some (p, leaf)
      → (contents_of_log keys first log end).mirror ≡ sealed keys.pads keys.shape.levels leaf folded.now.seed
      folded.now.hand folded.now.mirror level
  cut_contents before end start level p leaf cut within moves opened =
      let wrote : written_ok end log.moves ≡ level = (let number = cut_number end cut log.moves in let all = written_at
      keys.shape.levels start leaf level before log.moves moves in omega arith) in
      ap (λ (c : Contents). c.mirror) (part end level wrote within) ∙ by_path folded level p leaf opened

  -- a slot ended in its reads or after them, however the log ended: no bucket is written
  pub read_contents : (before : List Move) (end : LogEnd) (start n leaf : ℕ)
      → log.moves ≡ before ++ along keys.shape.levels false start leaf (suc n)
      → (contents_of_log keys first log end).mirror ≡ folded.now.mirror
  read_contents before end start n leaf moves =
      let none : writes_run 0 log.moves ≡ 0 = ap (writes_run 0) moves
      ∙ run_append 0 before (along keys.shape.levels false start leaf (suc n))
      ∙ run_reads keys.shape.levels start leaf (writes_run 0 before) n in
      ap (λ (c : Contents). c.mirror) (part end 0 (by_end end none) (omega arith))
      ∙ none_written folded folded.path refl
    where
      by_end : (end : LogEnd) → writes_run 0 log.moves ≡ 0 → written_ok end log.moves ≡ 0
      by_end Whole none = none
      by_end LastFailed none = omega (arith, none)
      by_end RanOut none = omega (arith, none)

  -- the last slot was finished
  pub whole_contents : (before : List Move) (start leaf : ℕ)
      → log.moves ≡ before ++ slot_moves keys.shape.levels start leaf
      → contents_of_log keys first log Whole ≡ whole keys first log
  whole_contents before start leaf moves = ap (λ (b : Bool).
      (if b then (settle keys folded).now else partly keys (written_ok Whole log.moves) folded)) all
    where
      add_one_is : keys.shape.levels + 1 ≡ suc keys.shape.levels
      add_one_is = rw add-one refl

      run : writes_run 0 log.moves ≡ keys.shape.levels + 1
      run =
          let none : writes_run (writes_run 0 before) (along keys.shape.levels false start leaf
          (keys.shape.levels + 1)) ≡ 0 =
          ap (λ n. writes_run (writes_run 0 before) (along keys.shape.levels false start leaf n)) add_one_is
          ∙ run_reads keys.shape.levels start leaf (writes_run 0 before) keys.shape.levels in
          let all_writes = run_writes keys.shape.levels (reads_end keys.shape.levels start + 16) leaf
          (writes_run (writes_run 0 before) (along keys.shape.levels false start leaf (keys.shape.levels + 1)))
          (keys.shape.levels + 1) in
          ap (writes_run 0) moves ∙ run_append 0 before (slot_moves keys.shape.levels start leaf)
          ∙ run_append (writes_run 0 before) (reads keys.shape.levels start leaf) (writes keys.shape.levels start leaf)
          ∙ all_writes ∙ omega (arith, none)

      all : (written_ok Whole log.moves == keys.shape.levels + 1) ≡ true
      all = elim (eqb_tells (written_ok Whole log.moves) (keys.shape.levels + 1))
          [ inl same ↦ same.0 | inr other ↦ absurd (other.1 run) ]
