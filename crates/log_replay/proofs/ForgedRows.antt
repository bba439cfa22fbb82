-- The verdict on a log of two slots that shows a forgery.
use Rattle.std.proofs.Common.{◌≡◌, ◌<◌, ◌≤◌, ◌+◌, inl, inr, ℕ, zero, suc, Bool, true, false, if◌then◌else◌}
use Rattle.std.proofs.Common.{nat_le, get_or}
use Rattle.std.proofs.Common.{List, [], ◌∷◌, ◌++◌, length, Option, None, Some, Ok, Result, refl, sym, ◌∙◌, ap, ap₂}
use Rattle.std.proofs.Common.{bytes_eq, arith}
use Rattle.std.specs.Prelude.{unwrap_or}
use Rattle.std.proofs.lemmas.Bool.{cases_eq}
use Rattle.std.proofs.lemmas.Bool.Decides.{leb_tells}
use Rattle.std.proofs.lemmas.Option.{unwrap_or-slice_get}
use Rattle.std.proofs.lemmas.Slice.Eq.{bytes_eq-Decides}
use Rattle.asc_base.specs.Lookup.{without_first}
use Rattle.asc_base.specs.TreeShape.{bucket_of, shared_of}
use Rattle.asc_base.specs.declared.block.Counter.{Counter}
use Rattle.asc_base.specs.declared.block.Entry.{Entry}
use Rattle.asc_base.specs.declared.stop.Evidence.{Evidence}
use Rattle.asc_base.specs.declared.stop.Evidence.TheVariants.{BadTag, Unexpected}
use Rattle.asc_base.specs.declared.stop.Stop.{Stop}
use Rattle.asc_base.proofs.Paths.{shared_iff, bucket_of-apart}
use Rattle.asc_outside.specs.Memory.{zero_buckets}
use Rattle.bucket_codec.specs.Bucket.{opened, empty_slots, bucket_text}
use Rattle.bus_watch.specs.declared.log.Altered.{Altered}
use Rattle.oram_contents.specs.Contents.{Contents, after_write}
use Rattle.oram_contents.specs.Entries.{Keys, AreKeys, real, message_of, entry_of}
use Rattle.oram_contents.specs.Fold.{hand_after}
use Rattle.oram_contents.specs.PathRead.{replies, path_read, join_slots, then_join}
use Rattle.oram_contents.specs.PathWritten.{sealed, stays}
use Rattle.oram_contents.specs.Starts.{first_contents, altered_log}
use Rattle.oram_contents.specs.Verdict.{is_first, first_of, integrity, judged, read_verdict, write_verdict}
use Rattle.oram_contents.proofs.ContentsLaws.{sealed-off}
use Rattle.oram_stash.specs.Entries.{without}
use Rattle.path_evict.specs.Eviction.{fill, fill_up, eviction}
use Rattle.path_evict.specs.Placed.{kept}
use Rattle.path_evict.proofs.Room.{fill-no}
use Rattle.pmmac_tags.specs.Tag.{tag}
use Rattle.pmmac_tags.proofs.Tags.{length-tag}
use Rattle.posmap_counters.specs.Counters.{first_counter}
use Rattle.log_replay.specs.Judged.{verdict_on}
use Rattle.log_replay.specs.Rows.{CanStand}
use Rattle.log_replay.proofs.AlteredRows.{same_number, opens, joins_it, held_found}
use Rattle.log_replay.proofs.FirstReads.{opens_empty, read_over}
use Rattle.log_replay.proofs.Rests.{write_right}
use Rattle.log_replay.proofs.VerdictRows.{none_stays, first_part}

-- an entry that fits the root alone is placed there
none_deeper : (level : ℕ) → nat_le (suc level) 0 ≡ false
none_deeper level = elim (leb_tells (suc level) 0) [ inl less ↦ absurd (omega (arith, less.1)) | inr more ↦ more.0 ]

one_placed : (levels : ℕ) → fill_up levels (0 ∷ []) (None ∷ []) ≡ Some 0 ∷ []
unfolding fill_up fill
one_placed zero = refl
one_placed (suc level) =
    ap (fill_up level (0 ∷ [])) (fill-no (suc level) 3 0 [] [] (none_deeper level)) ∙ one_placed level

placed_at_root : (levels : ℕ) → eviction (0 ∷ []) levels ≡ Some 0 ∷ []
unfolding eviction
placed_at_root levels = one_placed levels

module _ (keys : Keys) (lawful : AreKeys keys) (stash a : ℕ) (c : Counter) (put found : List ℕ)
    (inside : a < keys.shape.total) (whole : length found ≡ 64) (later : is_first c ≡ false)
    (part : shared_of keys.shape.levels (keys.leaf_of (real a c)) (keys.leaf_of (real a first_counter)) ≡ 0) where
  abbrev before : ℕ
  before = keys.leaf_of (real a first_counter)

  abbrev leaf : ℕ
  leaf = keys.leaf_of (real a c)

  abbrev it : Entry
  it = entry_of keys a c found

  abbrev root_reply : Altered
  root_reply = record {
    time = 1008;
    bucket = 0;
    bytes = bucket_text keys.pads 1 (Some (entry_of keys a c found) ∷ None ∷ None ∷ None ∷ []);
    before = 5;
  }

  can : CanStand keys a found (tag keys.tags (message_of a c found))
  can = record {
    lawful = lawful;
    inside = inside;
    line = whole;
    tagged = length-tag keys.tags (message_of a c found);
  }

  -- what was put back stands in the root, and nothing stays at hand
  none_at_hand : stays keys.shape.levels before (entry_of keys a c put ∷ []) ≡ []
  none_at_hand =
      ap (λ d. kept (eviction (d ∷ []) keys.shape.levels) (entry_of keys a c put ∷ [])) part
      ∙ ap (λ places. kept places (entry_of keys a c put ∷ [])) (placed_at_root keys.shape.levels)

  abbrev written : Contents
  written = after_write keys.pads keys.shape.levels before
      (record (first_contents keys) { hand = entry_of keys a c put ∷ [] })

  -- below the root the second path was never written
  other_bucket : (level low : ℕ) → 0 < level → level ≤ keys.shape.levels → low < keys.shape.levels + 1
      → bucket_of keys.shape.levels before low ≡ bucket_of keys.shape.levels leaf level → ⊥
  other_bucket level low some within less same = elim (cases_eq low level) [
    | inl is ↦ omega (
      arith,
      part,
      some,
      (shared_iff keys.shape.levels leaf before level (lawful.leaves (real a c))
          (lawful.leaves (real a first_counter)) within).0
          (sym same ∙ ap (bucket_of keys.shape.levels before) is),
    )
    | inr other ↦ bucket_of-apart keys.shape.levels before leaf low level other (omega arith) within
        (lawful.leaves (real a first_counter)) (lawful.leaves (real a c)) same
  ]

  empty : (level : ℕ) → 0 < level → level ≤ keys.shape.levels
      → opened keys.pads keys.shape (get_or written.mirror (bucket_of keys.shape.levels leaf level) []) ≡ Ok empty_slots
  empty level some within =
      let b = bucket_of keys.shape.levels leaf level in
      let same = sealed-off keys.pads keys.shape.levels before 1 (entry_of keys a c put ∷ [])
      (zero_buckets keys.shape.buckets) (keys.shape.levels + 1) b
      (λ low less is. other_bucket level low some within less is) in
      let bytes : get_or written.mirror b [] ≡ get_or (zero_buckets keys.shape.buckets) b [] =
      sym (unwrap_or-slice_get written.mirror b []) ∙ ap (λ o. unwrap_or o []) same
      ∙ unwrap_or-slice_get (zero_buckets keys.shape.buckets) b [] in
      ap (opened keys.pads keys.shape) bytes ∙ opens_empty keys keys.shape.buckets b

  abbrev second_read : List Entry → Result (List Entry) Evidence
  second_read hand = path_read keys.pads keys.shape leaf
      (replies keys.shape.levels 1008 leaf written.mirror (root_reply ∷ [])) hand

  read_it : second_read [] ≡ Ok (it ∷ [])
  read_it = read_over keys leaf 1008 (record written { hand = [] }) root_reply refl empty
      (Some it ∷ None ∷ None ∷ None ∷ []) (it ∷ [])
      (opens keys a c found (tag keys.tags (message_of a c found)) can)
      (ap (λ r. then_join r (join_slots keys.shape.levels leaf 0 1 (None ∷ None ∷ None ∷ [])))
      (joins_it keys a c found (tag keys.tags (message_of a c found)) can))

  same_tag : bytes_eq it.tag it.tag ≡ true
  same_tag = (bytes_eq-Decides it.tag it.tag).1 refl

  right : integrity (judged keys a c (Some it)) ≡ None
  right = ap (λ (b : Bool). integrity (if b then Some (Unexpected (record { 0 = a }))
      else (if bytes_eq it.tag it.tag then None else Some (BadTag (message_of a c found) it.tag it.tag)))) later
      ∙ ap (λ (b : Bool). integrity (if b then None else Some (BadTag (message_of a c found) it.tag it.tag))) same_tag

  none_left : without (it ∷ []) (record { 0 = a }) ≡ []
  unfolding without without_first
  none_left = ap (λ (b : Bool). if b then [] else it ∷ []) (same_number a)

  -- the verdict on the second slot
  abbrev second : Result (List Entry) Evidence → Option Stop
  second r = first_of (first_of (read_verdict keys (real a c) r) None)
      (write_verdict keys stash leaf (hand_after (real a c) [] r))

  second_right : second (Ok (it ∷ [])) ≡ None
  second_right =
      ap₂ (λ f h. first_of (first_of (integrity (judged keys a c f)) None) (write_verdict keys stash leaf h))
      (held_found keys a c found (tag keys.tags (message_of a c found)) can) none_left
      ∙ ap₂ (λ v w. first_of (first_of v None) w) right (none_stays keys stash leaf)

  pub forged_right : verdict_on keys stash (altered_log keys a c put found found) ≡ None
  forged_right =
      rw (same_number a) (first_part keys stash a first_counter
      (λ v h. first_of (first_of v (first_of (write_verdict keys stash before (h ++ entry_of keys a c put ∷ []))
      (first_of (read_verdict keys (real a c) (path_read keys.pads keys.shape leaf
      (replies keys.shape.levels 1008 leaf (sealed keys.pads keys.shape.levels before 1
      (h ++ entry_of keys a c put ∷ []) (zero_buckets keys.shape.buckets) (keys.shape.levels + 1)) (root_reply ∷ []))
      (stays keys.shape.levels before (h ++ entry_of keys a c put ∷ [])))) None)))
      (write_verdict keys stash leaf (hand_after (real a c)
      (stays keys.shape.levels before (h ++ entry_of keys a c put ∷ []))
      (path_read keys.pads keys.shape leaf
      (replies keys.shape.levels 1008 leaf (sealed keys.pads keys.shape.levels before 1
      (h ++ entry_of keys a c put ∷ []) (zero_buckets keys.shape.buckets) (keys.shape.levels + 1)) (root_reply ∷ []))
      (stays keys.shape.levels before (h ++ entry_of keys a c put ∷ []))))) ≡ None)
      (ap₂ (λ w h. first_of (first_of None (first_of w (first_of (read_verdict keys (real a c) (second_read h)) None)))
      (write_verdict keys stash leaf (hand_after (real a c) h (second_read h))))
      (write_right keys stash before (entry_of keys a c put ∷ []) (omega (arith, ap (length {A = Entry}) none_at_hand)))
      none_at_hand
      ∙ ap second read_it ∙ second_right))
