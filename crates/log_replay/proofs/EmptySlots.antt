-- Slots of blocks that were never accessed leave nothing at hand and every bucket empty; so a message that is appended
-- behind two of them is one too many where none may stay.
use Rattle.std.proofs.Common.{◌≡◌, ◌<◌, ◌≤◌, ◌+◌, ◌^◌, ◌==◌, ℕ, zero, suc, Bool, false, List, [], ◌∷◌, ◌++◌}
use Rattle.std.proofs.Common.{map, get_or, set, slice_get, Option, None, Some, Ok, refl, sym, ◌∙◌, ap, ap₂}
use Rattle.std.proofs.Common.{inr, subst, arith, length, is_none, if◌then◌else◌}
use Rattle.std.specs.List.{range_with_len}
use Rattle.asc_base.specs.Lookup.{without_first}
use Rattle.asc_base.specs.TreeShape.{bucket_of}
use Rattle.asc_base.specs.declared.block.Entry.{Entry}
use Rattle.asc_base.specs.declared.block.Message.{Message}
use Rattle.asc_base.specs.declared.block.Point.{Point}
use Rattle.asc_base.specs.declared.stop.Stop.{Stop}
use Rattle.asc_base.specs.declared.stop.Stop.TheVariants.{StashFull}
use Rattle.bucket_codec.specs.Bucket.{opened, empty_slots, bucket_text}
use Rattle.bus_watch.specs.declared.log.Event.{Event}
use Rattle.bus_watch.specs.declared.log.Event.TheVariants.{Access, Drawn, Tagged}
use Rattle.oram_contents.specs.Contents.{after_write}
use Rattle.oram_contents.specs.Entries.{Keys, real}
use Rattle.oram_contents.specs.Fold.{Fold, settled, settle, after_event, hand_after, is_open_for}
use Rattle.oram_contents.specs.PathRead.{then_join, join_bucket, join_buckets, path_read, replies}
use Rattle.oram_contents.specs.PathWritten.{places_of, sealed, slots_at, stays}
use Rattle.oram_contents.specs.Shapes.{AreOfShape}
use Rattle.oram_contents.specs.Slots.{drawn_events}
use Rattle.oram_contents.specs.Starts.{first_fold}
use Rattle.oram_contents.specs.Verdict.{event_verdict, first_of, open_verdict, read_verdict, append_verdict}
use Rattle.oram_contents.proofs.ContentsLaws.{opened-sealed}
use Rattle.oram_stash.specs.Entries.{held, without}
use Rattle.path_evict.specs.Placed.{where_placed}
use Rattle.path_evict.specs.Placement.{stands_at}
use Rattle.posmap_counters.specs.Counters.{first_counter}
use Rattle.log_replay.specs.Judged.{IsFirstVerdict}
use Rattle.log_replay.specs.Rows.{log_of}
use Rattle.log_replay.proofs.FirstReads.{opens_empty}
use Rattle.log_replay.proofs.Rests.{write_right}

-- nothing is placed of no items
none_placed : {A : Type 0} (test : Option ℕ → Bool) (places : List (Option ℕ))
    → where_placed {A = A} test places [] ≡ []
none_placed test [] = refl
none_placed test (place ∷ places) = refl

-- what holds of an item, and of each of a list, holds of each after the item is set
set_keeps : {A : Type 0} (P : A → Type 0) (items : List A) (at k : ℕ) (item other : A) → P item
    → ((j : ℕ) → P (get_or items j other)) → P (get_or (set items at item) k other)
set_keeps P [] at k item other one all = all k
set_keeps P (first ∷ items) zero zero item other one all = one
set_keeps P (first ∷ items) zero (suc k) item other one all = all (suc k)
set_keeps P (first ∷ items) (suc at) zero item other one all = all zero
set_keeps P (first ∷ items) (suc at) (suc k) item other one all =
    set_keeps P items at k item other one (λ j. all (suc j))

-- four verdicts that nothing is wrong
skip_four : {one two three four last : Option Stop} → one ≡ None → two ≡ None → three ≡ None → four ≡ None
    → first_of one (first_of two (first_of three (first_of four last))) ≡ last
skip_four {last = last} first second third fourth =
    ap₂ first_of first (ap₂ first_of second (ap₂ first_of third (ap (λ v. first_of v last) fourth)))

module _ (keys : Keys) (few_levels : keys.shape.levels ≤ 17) where
  -- each bucket has four empty slots
  abbrev AreEmpty : List (List ℕ) → Type 0
  AreEmpty mirror = (b : ℕ) → opened keys.pads keys.shape (get_or mirror b []) ≡ Ok empty_slots

  -- replies with four empty slots give no entry
  joins_none : (leaf level : ℕ) (reply : ℕ → List ℕ)
      → ((l : ℕ) → opened keys.pads keys.shape (reply l) ≡ Ok empty_slots) → (from many : ℕ)
      → join_buckets keys.shape.levels leaf level
      (map (opened keys.pads keys.shape) (map reply (range_with_len from many))) [] ≡ Ok []
  joins_none leaf level reply empty from zero = refl
  joins_none leaf level reply empty from (suc many) =
      ap (λ r. then_join (join_bucket keys.shape.levels leaf level r []) (join_buckets keys.shape.levels leaf
      (level + 1) (map (opened keys.pads keys.shape) (map reply (range_with_len (from + 1) many))))) (empty from)
      ∙ joins_none leaf (level + 1) reply empty (from + 1) many

  no_slots : (leaf level : ℕ) → slots_at keys.shape.levels leaf [] level ≡ empty_slots
  no_slots leaf level = ap (λ (taken : List Entry). map (slice_get taken) (0 ∷ 1 ∷ 2 ∷ 3 ∷ []))
      (none_placed (stands_at level) (places_of keys.shape.levels leaf []))

  -- buckets stay empty where a path is written with nothing at hand
  written_empty : (leaf seed n : ℕ) (mirror : List (List ℕ)) → 0 < seed → seed + n ≤ 2 ^ 64 → AreEmpty mirror
      → AreEmpty (sealed keys.pads keys.shape.levels leaf seed [] mirror n)
  unfolding sealed
  written_empty leaf seed zero mirror some few empty b = empty b
  written_empty leaf seed (suc level) mirror some few empty b =
      set_keeps (λ bytes. opened keys.pads keys.shape bytes ≡ Ok empty_slots)
      (sealed keys.pads keys.shape.levels leaf seed [] mirror level) (bucket_of keys.shape.levels leaf level) b
      (bucket_text keys.pads (seed + level) (slots_at keys.shape.levels leaf [] level)) []
      (opened-sealed keys.pads keys.shape leaf (seed + level) level [] (omega (arith, some)) (omega (arith, few))
      none_of_shape ∙ ap Ok (no_slots leaf level))
      (written_empty leaf seed level mirror some (omega (arith, few)) empty)
    where
      none_of_shape : AreOfShape keys.shape []
      none_of_shape k e less = absurd (omega (arith, less))

  -- nothing is at hand, and each bucket is empty; the next seed is one from 1 on, up to so many
  pub record IsBlank (f : Fold) (most : ℕ) : Type 0 where
    pub hand : f.now.hand ≡ []
    pub mirror : AreEmpty f.now.mirror
    pub some : 0 < f.now.seed
    pub few : f.now.seed ≤ most

  pub start_blank : IsBlank (first_fold keys) 1
  start_blank = record {
    hand = refl;
    mirror = λ b. opens_empty keys keys.shape.buckets b;
    some = omega arith;
    few = omega arith;
  }

  pub settle_blank : (f : Fold) (most : ℕ) → most ≤ 2 ^ 62 → IsBlank f most → IsBlank (settle keys f) (most + 18)
  settle_blank f most small blank = by_path f.path
    where
      by_path : (path : Option (Point × ℕ))
          → IsBlank (record { now = settled keys path f.now; start = f.start; path = None }) (most + 18)
      by_path None = record {
        hand = blank.hand;
        mirror = blank.mirror;
        some = blank.some;
        few = omega (arith, blank.few);
      }
      by_path (Some (p, leaf)) = record {
        hand = ap (λ h. (after_write keys.pads keys.shape.levels leaf (record f.now { hand = h })).hand) blank.hand
            ∙ none_placed is_none (places_of keys.shape.levels leaf []);
        mirror = subst (λ h. AreEmpty (sealed keys.pads keys.shape.levels leaf f.now.seed h f.now.mirror
            (keys.shape.levels + 1))) (sym blank.hand)
            (written_empty leaf f.now.seed (keys.shape.levels + 1) f.now.mirror blank.some
            (omega (arith, blank.few, few_levels, small)) blank.mirror);
        some = omega (arith, blank.some);
        few = omega (arith, blank.few, few_levels);
      }

  -- its open path can be written
  pub open_blank : (stash most : ℕ) (f : Fold) → IsBlank f most → open_verdict keys stash f.path f.now ≡ None
  open_blank stash most f blank = by_path f.path
    where
      by_path : (path : Option (Point × ℕ)) → open_verdict keys stash path f.now ≡ None
      by_path None = refl
      by_path (Some (p, leaf)) =
          let none : stays keys.shape.levels leaf f.now.hand ≡ [] =
          ap (stays keys.shape.levels leaf) blank.hand ∙ none_placed is_none (places_of keys.shape.levels leaf []) in
          let few : length (stays keys.shape.levels leaf f.now.hand) ≡ 0 =
          ap (λ (hand : List Entry). length hand) none in
          write_right keys stash leaf f.now.hand (omega (arith, few))

  -- and a path is read to nothing
  pub read_blank : (f : Fold) (most leaf : ℕ) → IsBlank f most
      → path_read keys.pads keys.shape leaf (replies keys.shape.levels f.start leaf f.now.mirror []) f.now.hand ≡ Ok []
  read_blank f most leaf blank =
      ap (path_read keys.pads keys.shape leaf (replies keys.shape.levels f.start leaf f.now.mirror [])) blank.hand
      ∙ joins_none leaf 0 (λ level. get_or f.now.mirror (bucket_of keys.shape.levels leaf level) [])
      (λ level. blank.mirror (bucket_of keys.shape.levels leaf level)) 0 (keys.shape.levels + 1)

  -- a slot of a block that was never accessed, in the events of which nothing is wrong, and after which it is so again
  pub after_access : (f : Fold) (most start n : ℕ) (asked : Option ℕ) → most ≤ 2 ^ 62 → IsBlank f most
      → IsBlank (after_event keys [] n (Access start asked) f) (most + 18)
  after_access f most start n asked small blank =
      let settled = settle_blank f most small blank in record {
        hand = settled.hand;
        mirror = settled.mirror;
        some = settled.some;
        few = settled.few;
      }

  after_first : (f : Fold) (most a leaf n : ℕ) → most ≤ 2 ^ 62 → IsBlank f most
      → IsBlank (after_event keys [] n (Drawn (real a first_counter) (record { 0 = leaf })) f) (most + 18)
  unfolding without without_first
  after_first f most a leaf n small blank =
      let settled = settle_blank f most small blank in record {
        hand = ap₂ (hand_after (real a first_counter)) settled.hand
            (read_blank (settle keys f) (most + 18) leaf settled);
        mirror = settled.mirror;
        some = settled.some;
        few = settled.few;
      }

  access_right : (stash most start n : ℕ) (f : Fold) (asked : Option ℕ) → IsBlank f most
      → event_verdict keys stash [] n (Access start asked) f ≡ None
  access_right stash most start n f asked blank = open_blank stash most f blank

  first_right : (stash most a leaf n : ℕ) (f : Fold) → most ≤ 2 ^ 62 → IsBlank f most
      → event_verdict keys stash [] n (Drawn (real a first_counter) (record { 0 = leaf })) f ≡ None
  unfolding held
  first_right stash most a leaf n f small blank =
      ap₂ first_of (open_blank stash most f blank)
      (ap (read_verdict keys (real a first_counter))
      (read_blank (settle keys f) (most + 18) leaf (settle_blank f most small blank)))

  -- a message that is appended behind it is one too many
  append_full : (most a leaf n : ℕ) (m : Message) (f : Fold) → most ≤ 2 ^ 62 → IsBlank f most
      → f.path ≡ Some (real a first_counter, leaf) → (a == m.address.0) ≡ false
      → event_verdict keys 0 [] n (Tagged m) f ≡ Some (StashFull 1)
  unfolding held
  append_full most a leaf n m f small blank path other =
      let settled = settle_blank f most small blank in
      ap (λ (p : Option (Point × ℕ)). (if is_open_for m p then None
      else first_of (open_verdict keys 0 f.path f.now) (append_verdict 0 m.address (settle keys f).now.hand))) path
      ∙ ap (λ b. (if b then None
      else first_of (open_verdict keys 0 f.path f.now) (append_verdict 0 m.address (settle keys f).now.hand))) other
      ∙ ap₂ (λ v h. first_of v (append_verdict 0 m.address h)) (open_blank 0 most f blank) settled.hand

  module _ (start later a b : ℕ) (asked next : Option ℕ) where
    abbrev slots : List Event
    slots = drawn_events keys start asked (real a first_counter) ++ drawn_events keys later next (real b first_counter)

    abbrev f1 : Fold
    f1 = after_event keys [] 0 (Access start asked) (first_fold keys)

    abbrev f2 : Fold
    f2 = after_event keys [] 1 (Drawn (real a first_counter) (record { 0 = keys.leaf_of (real a first_counter) })) f1

    abbrev f3 : Fold
    f3 = after_event keys [] 2 (Access later next) f2

    abbrev f4 : Fold
    f4 = after_event keys [] 3 (Drawn (real b first_counter) (record { 0 = keys.leaf_of (real b first_counter) })) f3

    blank1 : IsBlank f1 19
    blank1 = after_access (first_fold keys) 1 start 0 asked (omega arith) start_blank

    blank2 : IsBlank f2 37
    blank2 = after_first f1 19 a (keys.leaf_of (real a first_counter)) 1 (omega arith) blank1

    blank3 : IsBlank f3 55
    blank3 = after_access f2 37 later 2 next (omega arith) blank2

    blank4 : IsBlank f4 73
    blank4 = after_first f3 55 b (keys.leaf_of (real b first_counter)) 3 (omega arith) blank3

    none_wrong : (last : Option Stop)
        → first_of (event_verdict keys 0 [] 0 (Access start asked) (first_fold keys))
        (first_of (event_verdict keys 0 [] 1 (Drawn (real a first_counter)
        (record { 0 = keys.leaf_of (real a first_counter) })) f1)
        (first_of (event_verdict keys 0 [] 2 (Access later next) f2)
        (first_of (event_verdict keys 0 [] 3 (Drawn (real b first_counter)
        (record { 0 = keys.leaf_of (real b first_counter) })) f3) last))) ≡ last
    none_wrong last =
        skip_four (access_right 0 1 start 0 (first_fold keys) asked start_blank)
        (first_right 0 19 a (keys.leaf_of (real a first_counter)) 1 f1 (omega arith) blank1)
        (access_right 0 37 later 2 f2 next blank2)
        (first_right 0 55 b (keys.leaf_of (real b first_counter)) 3 f3 (omega arith) blank3)

    -- A message of another block that is appended behind two such slots is the first that is wrong.
    pub appended_full : (m : Message) → (b == m.address.0) ≡ false
        → IsFirstVerdict keys 0 (log_of (slots ++ Tagged m ∷ [])) (StashFull 1)
    appended_full m other = record {
      before = log_of slots;
      last = record {
        events = Tagged m ∷ [];
        altered = [];
        adds = record { events_are = refl; altered_are = refl };
        noted = λ k reply less. absurd (omega (arith, less));
        last = inr (m, refl, refl);
      };
      right = ap₂ first_of (none_wrong None) (open_blank 0 73 f4 blank4);
      wrong =
          let full = append_full 73 b (keys.leaf_of (real b first_counter)) 4 m f4 (omega arith) blank4 refl other in
          let f5 = after_event keys [] 4 (Tagged m) f4 in
          ap (λ v. first_of v (open_verdict keys 0 f5.path f5.now))
          (none_wrong (first_of (event_verdict keys 0 [] 4 (Tagged m) f4) None) ∙ ap (λ v. first_of v None) full);
    }
