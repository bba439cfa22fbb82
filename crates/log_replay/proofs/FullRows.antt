-- A slot in which more entries are at hand than its path has room for.
use Rattle.std.proofs.Common.{◌≡◌, ◌≤◌, ◌^◌, ◌==◌, inl, inr, ℕ, zero, suc, true, nat_le, nat_lt, max, if◌then◌else◌}
use Rattle.std.proofs.Common.{List, [], ◌∷◌, ◌++◌, All, None, Some, Ok, refl, sym, ◌∙◌, ap, ap₂, subst, arith}
use Rattle.std.proofs.lemmas.Bool.Decides.{eqb_tells, leb_tells}
use Rattle.std.proofs.Math.Pow.{pow_mono}
use Rattle.asc_base.specs.TreeShape.{bucket_of}
use Rattle.asc_base.specs.declared.block.Counter.{Counter}
use Rattle.asc_base.specs.declared.block.Entry.{Entry}
use Rattle.asc_base.specs.declared.stop.Stop.TheVariants.{StashFull}
use Rattle.asc_base.proofs.Paths.{shared_iff}
use Rattle.asc_base.proofs.ShapeFacts.{IsLayered, shape_layered}
use Rattle.bucket_codec.specs.Bucket.{opened}
use Rattle.bucket_codec.specs.Slot.{IsEntry, IsSlot, IsInRange}
use Rattle.bucket_codec.proofs.Buckets.{opened_bucket}
use Rattle.bus_watch.specs.declared.log.Altered.{Altered}
use Rattle.bus_watch.specs.declared.log.Event.TheVariants.{Tagged}
use Rattle.asc_base.specs.Lookup.{without_first}
use Rattle.oram_contents.specs.Contents.{IsReadTo}
use Rattle.oram_contents.specs.Entries.{Keys, real, message_of, entry_of}
use Rattle.oram_contents.specs.Fold.{hand_after}
use Rattle.oram_contents.specs.PathRead.{join_slots}
use Rattle.oram_contents.specs.PathWritten.{rest_of}
use Rattle.oram_contents.specs.Starts.{empty_log, first_contents}
use Rattle.oram_contents.specs.Verdict.{first_of, integrity, judged, read_verdict, write_verdict}
use Rattle.oram_stash.specs.Entries.{held, without}
use Rattle.path_evict.specs.Rest.{rest, count_within, excess}
use Rattle.posmap_counters.specs.Counters.{first_counter}
use Rattle.log_replay.specs.Judged.{IsFirstVerdict}
use Rattle.log_replay.specs.Rows.{leaf_entry, four_entries, full_reply, full_log, AreApartBelow}
use Rattle.log_replay.proofs.FirstReads.{read_altered}

all_within : (k : ℕ) → nat_le 0 k ≡ true
all_within k = elim (leb_tells 0 k) [ inl less ↦ less.0 | inr more ↦ absurd (omega (arith, more.1)) ]

five_within : (k : ℕ) → count_within (0 ∷ 0 ∷ 0 ∷ 0 ∷ 0 ∷ []) k ≡ 5
five_within k = rw (all_within k) refl

-- of five entries that fit the root alone one has no slot
five_rest : (levels : ℕ) → rest (0 ∷ 0 ∷ 0 ∷ 0 ∷ 0 ∷ []) levels ≡ 1
unfolding rest
five_rest zero = refl
five_rest (suc level) =
    let none : excess (0 ∷ 0 ∷ 0 ∷ 0 ∷ 0 ∷ []) (suc level) ≡ 0 = (let all = five_within (suc level) in omega arith) in
    ap₂ max (five_rest level) none

module _ (keys : Keys) (c : Counter) (leaf : ℕ) (l tag : List ℕ) (x : AreApartBelow keys c leaf l tag) where
  abbrev path_leaf : ℕ
  path_leaf = keys.leaf_of (real 0 first_counter)

  abbrev four : List Entry
  four = leaf_entry 1 leaf l tag ∷ leaf_entry 2 leaf l tag ∷ leaf_entry 3 leaf l tag ∷ leaf_entry 4 leaf l tag ∷ []

  typed : (a : ℕ) → a ≤ 4 → IsEntry (leaf_entry a leaf l tag)
  typed a less =
      let layered : IsLayered keys.shape = shape_layered keys.shape x.lawful.shape in record {
        address = omega (arith, less);
        leaf = omega (arith, x.within, few keys.shape.levels layered.levels_to);
        line = x.line;
        tag = x.tagged;
      }
    where
      few : (n : ℕ) → n ≤ 17 → 2 ^ n ≤ 2 ^ 17
      few n less = pow_mono {i = n} {j = 17} less

  opens : opened keys.pads keys.shape (full_reply keys leaf l tag).bytes ≡ Ok (four_entries leaf l tag)
  opens = opened_bucket keys.pads keys.shape 1 (four_entries leaf l tag) (omega arith) (omega arith)
      (record { four = refl; each = each_slot }) each_range
    where
      each_slot : All IsSlot (four_entries leaf l tag)
      each_slot zero d less = typed 1 (omega arith)
      each_slot (suc zero) d less = typed 2 (omega arith)
      each_slot (suc (suc zero)) d less = typed 3 (omega arith)
      each_slot (suc (suc (suc zero))) d less = typed 4 (omega arith)
      each_slot (suc (suc (suc (suc k)))) d less = absurd (omega arith)

      each_range : All (IsInRange keys.shape) (four_entries leaf l tag)
      each_range zero d less = (omega (arith, x.blocks), x.within)
      each_range (suc zero) d less = (omega (arith, x.blocks), x.within)
      each_range (suc (suc zero)) d less = (omega (arith, x.blocks), x.within)
      each_range (suc (suc (suc zero))) d less = (omega (arith, x.blocks), x.within)
      each_range (suc (suc (suc (suc k)))) d less = absurd (omega arith)

  -- each of them has the root on its path
  in_root : (bucket_of keys.shape.levels leaf 0 == bucket_of keys.shape.levels path_leaf 0) ≡ true
  in_root = elim (eqb_tells (bucket_of keys.shape.levels leaf 0) (bucket_of keys.shape.levels path_leaf 0)) [
    | inl same ↦ same.0
    | inr other ↦ absurd (other.1 ((shared_iff keys.shape.levels leaf path_leaf 0 x.within
        (x.lawful.leaves (real 0 first_counter)) (omega arith)).1 (omega arith)))
  ]

  joins_four : join_slots keys.shape.levels path_leaf 0 0 (four_entries leaf l tag) [] ≡ Ok four
  unfolding held
  joins_four = rw in_root refl

  pub read_full : IsReadTo keys.pads keys.shape 256 path_leaf (full_reply keys leaf l tag ∷ []) (first_contents keys)
      four
  read_full = read_altered keys path_leaf (full_reply keys leaf l tag) refl (four_entries leaf l tag) four opens
      joins_four

  none_found : integrity (judged keys 0 first_counter (held four (record { 0 = 0 }))) ≡ None
  unfolding held
  none_found = refl

  all_stay : without four (record { 0 = 0 }) ≡ four
  unfolding without without_first
  all_stay = refl

  one_left : rest_of keys.shape.levels path_leaf (four ++ entry_of keys 0 c l ∷ []) ≡ 1
  one_left =
      ap₂ (λ d e. rest (d ∷ d ∷ d ∷ d ∷ e ∷ []) keys.shape.levels) x.others x.again ∙ five_rest keys.shape.levels

  full_write : write_verdict keys 0 path_leaf (four ++ entry_of keys 0 c l ∷ []) ≡ Some (StashFull 1)
  full_write = ap (λ n. if nat_lt 0 n then Some (StashFull n) else None) one_left

  pub overfull : IsFirstVerdict keys 0 (full_log keys c leaf l tag) (StashFull 1)
  overfull = record {
    before = empty_log;
    last = record {
      events = (full_log keys c leaf l tag).events;
      altered = full_reply keys leaf l tag ∷ [];
      adds = record { events_are = refl; altered_are = refl };
      noted = noted;
      last = inl (record {
        start = 256;
        asked = Some 0;
        point = real 0 first_counter;
        leaf = record { 0 = path_leaf };
        more = Tagged (message_of 0 c l) ∷ [];
        are = refl;
        one = refl;
      });
    };
    right = refl;
    wrong =
        subst (λ r. first_of (first_of (read_verdict keys (real 0 first_counter) r) None)
        (write_verdict keys 0 path_leaf (hand_after (real 0 first_counter) [] r ++ entry_of keys 0 c l ∷ []))
        ≡ Some (StashFull 1)) (sym read_full)
        (ap₂ (λ v h. first_of (first_of v None) (write_verdict keys 0 path_leaf (h ++ entry_of keys 0 c l ∷ [])))
        none_found all_stay ∙ full_write);
  }
    where
      noted : All (λ (reply : Altered). reply.before ≡ 2) (full_reply keys leaf l tag ∷ [])
      noted zero d less = refl
      noted (suc k) d less = absurd (omega arith)
