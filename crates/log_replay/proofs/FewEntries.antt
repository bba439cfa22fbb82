-- A log of few slots shows no full stash, whatever was altered: each path that is read gives four entries a bucket at
-- most, and each message that is tagged one.
use Rattle.std.proofs.Common.{◌≡◌, ◌≤◌, ◌+◌, ◌*◌, ◌==◌, inl, inr, ℕ, zero, suc, Bool, true, false}
use Rattle.std.proofs.Common.{if◌then◌else◌, List, [], ◌∷◌, ◌++◌, length, map, Option, None, Some, Result, Ok, Err}
use Rattle.std.proofs.Common.{is_none, is_some, nat_lt, refl, sym, ◌∙◌, ap, arith, length-append}
use Rattle.std.specs.List.{range_with_len}
use Rattle.std.proofs.lemmas.Bool.{le-ltb}
use Rattle.std.proofs.lemmas.List.{length-map}
use Rattle.std.proofs.lemmas.List.Sums.{sum_by-cons}
use Rattle.asc_base.specs.Lookup.{without_first}
use Rattle.asc_base.specs.TreeShape.{bucket_of}
use Rattle.asc_base.specs.declared.block.Address.{Address}
use Rattle.asc_base.specs.declared.block.Entry.{Entry}
use Rattle.asc_base.specs.declared.block.Point.{Point}
use Rattle.asc_base.specs.declared.block.Point.TheVariants.{Real, Dummy}
use Rattle.asc_base.specs.declared.shape.Shape.{Shape}
use Rattle.asc_base.specs.declared.stop.Evidence.{Evidence}
use Rattle.asc_base.specs.declared.stop.Evidence.TheVariants.{Doubled, OffPath}
use Rattle.asc_base.specs.declared.stop.Stop.{Stop}
use Rattle.asc_base.specs.declared.stop.Stop.TheVariants.{Integrity, StashFull}
use Rattle.bucket_codec.specs.Bucket.{before, empty_slots, in_order, opened, slot_at, slots_in, body_in, seed_in}
use Rattle.bucket_codec.specs.declared.codec.BadSlot.{BadSlot as Bad}
use Rattle.bus_watch.specs.Log.{LogLists}
use Rattle.bus_watch.specs.declared.log.Altered.{Altered}
use Rattle.bus_watch.specs.declared.log.Event.{Event}
use Rattle.bus_watch.specs.declared.log.Event.TheVariants.{Access, Drawn, Accepted, Tagged, Chosen, Answered}
use Rattle.oram_contents.specs.Contents.{Contents}
use Rattle.oram_contents.specs.Entries.{Keys}
use Rattle.oram_contents.specs.Fold.{Fold, leave, settle, settled, noted_at, after_event, fold_events, hand_after}
use Rattle.oram_contents.specs.Fold.{is_open_for, tagged_entry}
use Rattle.oram_contents.specs.PathRead.{then_join, join_slots, join_bucket, join_buckets}
use Rattle.oram_contents.specs.PathRead.{path_read, replies, reply_at}
use Rattle.oram_contents.specs.PathWritten.{places_of, rest_of}
use Rattle.oram_contents.specs.Starts.{first_fold}
use Rattle.oram_contents.specs.Verdict.{judged, read_verdict, append_verdict, event_verdict, events_verdict}
use Rattle.oram_contents.specs.Verdict.{first_of, open_verdict, write_verdict}
use Rattle.oram_stash.specs.Entries.{held, without}
use Rattle.path_evict.specs.Placed.{where_placed}
use Rattle.log_replay.specs.Judged.{verdict_on}
use Rattle.log_replay.specs.Few.{entries_by, most_entries}
use Rattle.log_replay.proofs.Rests.{rest_stays}
use Rattle.log_replay.proofs.UntaggedLogs.{first_cases, integrity_other, none_some}

-- ---- lists
placed_few : {A : Type 0} (test : Option ℕ → Bool) (places : List (Option ℕ)) (items : List A)
    → length (where_placed test places items) ≤ length items
placed_few test [] items = omega arith
placed_few test (place ∷ places) [] = omega arith
placed_few test (place ∷ places) (item ∷ items) = by_test (test place) (placed_few test places items)
  where
    by_test : (b : Bool) → length (where_placed test places items) ≤ length items
        → length (if b then (item ∷ where_placed test places items) else where_placed test places items)
        ≤ length (item ∷ items)
    by_test true rest = omega (arith, rest)
    by_test false rest = omega (arith, rest)

without_few : {A : Type 0} (test : A → Bool) (items : List A) → length (without_first test items) ≤ length items
unfolding without_first
without_few test [] = omega arith
without_few test (item ∷ items) = by_test (test item) (without_few test items)
  where
    by_test : (b : Bool) → length (without_first test items) ≤ length items
        → length (if b then items else (item ∷ without_first test items)) ≤ length (item ∷ items)
    by_test true rest = omega arith
    by_test false rest = omega (arith, rest)

leave_few : (p : Point) (hand : List Entry) → length (leave p hand) ≤ length hand
unfolding without
leave_few (Real a c) hand = without_few _ hand
leave_few (Dummy n) hand = omega arith

-- ---- a bucket has four slots
slots_four : (slot : ℕ) (found : List (Option (Option Entry))) (slots : List (Option Entry))
    → in_order slot found ≡ Ok slots → length slots ≡ length found
slots_four slot [] slots is =
    let same : [] ≡ slots = cc in ap length (sym same)
slots_four slot (None ∷ found) slots is = absurd (cc)
slots_four slot (Some one ∷ found) slots is =
    by_rest (in_order (slot + 1) found) (λ later made. slots_four (slot + 1) found later made) is
  where
    by_rest : (r : Result (List (Option Entry)) Bad)
        → ((later : List (Option Entry)) → r ≡ Ok later → length later ≡ length found)
        → before one r ≡ Ok slots → length slots ≡ suc (length found)
    by_rest (Ok later) rest is =
        let same : one ∷ later ≡ slots = cc in
        sym (ap length same) ∙ ap suc (rest later refl)
    by_rest (Err bad) rest is = absurd (cc)

opened_four : (key : List ℕ) (shape : Shape) (bytes : List ℕ) (slots : List (Option Entry))
    → opened key shape bytes ≡ Ok slots → length slots ≡ 4
unfolding opened
opened_four key shape bytes slots = by_seed (seed_in bytes == 0)
  where
    by_seed : (b : Bool) → (if b then Ok empty_slots else slots_in shape (body_in key bytes)) ≡ Ok slots
        → length slots ≡ 4
    by_seed true is = let same : empty_slots ≡ slots = cc in sym (ap length same)
    by_seed false is = slots_four 0 (map (slot_at shape (body_in key bytes)) (0 ∷ 1 ∷ 2 ∷ 3 ∷ [])) slots is

-- ---- a path that is read
-- what joins is one entry at most for each slot
slots_join : (levels leaf level slot : ℕ) (slots : List (Option Entry)) (hand joined : List Entry)
    → join_slots levels leaf level slot slots hand ≡ Ok joined → length joined ≤ length hand + length slots
slots_join levels leaf level slot [] hand joined is =
    let same : hand ≡ joined = cc in omega (arith, ap length same)
slots_join levels leaf level slot (None ∷ slots) hand joined is =
    let rest = slots_join levels leaf level (slot + 1) slots hand joined is in omega (arith, rest)
slots_join levels leaf level slot (Some entry ∷ slots) hand joined is =
    by_tests (bucket_of levels entry.leaf.0 level == bucket_of levels leaf level) (is_some (held hand entry.address))
    (slots_join levels leaf level (slot + 1) slots (hand ++ entry ∷ []) joined) is
  where
    by_tests : (b c : Bool)
        → (join_slots levels leaf level (slot + 1) slots (hand ++ entry ∷ []) ≡ Ok joined
        → length joined ≤ length (hand ++ entry ∷ []) + length slots)
        → then_join (if b then (if c then Err (Doubled entry.address) else Ok (hand ++ entry ∷ []))
        else Err (OffPath (bucket_of levels leaf level) slot))
        (join_slots levels leaf level (slot + 1) slots) ≡ Ok joined
        → length joined ≤ length hand + suc (length slots)
    by_tests true true then_is is = absurd (cc)
    by_tests true false then_is is =
        let rest = then_is is in
        let more = length-append hand (entry ∷ []) in
        omega (arith, rest, more)
    by_tests false c then_is is = absurd (cc)

module _ (keys : Keys) where
  buckets_join : (leaf level : ℕ) (texts : List (List ℕ)) (hand joined : List Entry)
      → join_buckets keys.shape.levels leaf level (map (opened keys.pads keys.shape) texts) hand ≡ Ok joined
      → length joined ≤ length hand + 4 * length texts
  buckets_join leaf level [] hand joined is =
      let same : hand ≡ joined = cc in omega (arith, ap length same)
  buckets_join leaf level (text ∷ texts) hand joined is =
      by_bucket (λ next. buckets_join leaf (level + 1) texts next joined) (opened keys.pads keys.shape text) refl is
    where
      Rest : Type 0
      Rest = (next : List Entry) → join_buckets keys.shape.levels leaf (level + 1)
          (map (opened keys.pads keys.shape) texts) next ≡ Ok joined → length joined ≤ length next + 4 * length texts

      then_rest : Rest → (r : Result (List Entry) Evidence) (most : ℕ)
          → ((next : List Entry) → r ≡ Ok next → length next ≤ most)
          → then_join r (join_buckets keys.shape.levels leaf (level + 1)
          (map (opened keys.pads keys.shape) texts)) ≡ Ok joined
          → length joined ≤ most + 4 * length texts
      then_rest each (Ok next) most few is =
          let rest = each next is in
          let some = few next refl in
          omega (arith, rest, some)
      then_rest each (Err evidence) most few is = absurd (cc)

      by_bucket : Rest → (bucket : Result (List (Option Entry)) Bad) → opened keys.pads keys.shape text ≡ bucket
          → then_join (join_bucket keys.shape.levels leaf level bucket hand)
          (join_buckets keys.shape.levels leaf (level + 1) (map (opened keys.pads keys.shape) texts)) ≡ Ok joined
          → length joined ≤ length hand + 4 * suc (length texts)
      by_bucket each (Ok slots) opens is =
          let four = opened_four keys.pads keys.shape text slots opens in
          let all = then_rest each (join_slots keys.shape.levels leaf level 0 slots hand) (length hand + 4)
          (λ next made. let some = slots_join keys.shape.levels leaf level 0 slots hand next made in
          omega (arith, some, four)) is in
          omega (arith, all)
      by_bucket each (Err bad) opens is = absurd (cc)

  range_length : (from many : ℕ) → length (range_with_len from many) ≡ many
  range_length from zero = refl
  range_length from (suc many) = ap suc (range_length (from + 1) many)

  -- the hand behind a path that was read
  read_few : (p : Point) (start leaf : ℕ) (mirror : List (List ℕ)) (altered : List Altered) (hand : List Entry)
      → length (hand_after p hand (path_read keys.pads keys.shape leaf
      (replies keys.shape.levels start leaf mirror altered) hand)) ≤ length hand + 4 * (keys.shape.levels + 1)
  read_few p start leaf mirror altered hand =
      by_read (path_read keys.pads keys.shape leaf (replies keys.shape.levels start leaf mirror altered) hand) refl
    where
      by_read : (r : Result (List Entry) Evidence)
          → path_read keys.pads keys.shape leaf (replies keys.shape.levels start leaf mirror altered) hand ≡ r
          → length (hand_after p hand r) ≤ length hand + 4 * (keys.shape.levels + 1)
      by_read (Ok joined) is =
          let some = buckets_join leaf 0 (replies keys.shape.levels start leaf mirror altered) hand joined is in
          let number = length-map (range_with_len 0 (keys.shape.levels + 1))
          (λ level. reply_at mirror altered (start + 40 * level) (bucket_of keys.shape.levels leaf level)) in
          let all = range_length 0 (keys.shape.levels + 1) in
          let left = leave_few p joined in
          omega (arith, some, number, all, left)
      by_read (Err evidence) is = omega arith

  -- the hand where a path is closed
  settled_few : (path : Option (Point × ℕ)) (now : Contents)
      → length (settled keys path now).hand ≤ length now.hand
  settled_few None now = omega arith
  settled_few (Some (p, leaf)) now = placed_few is_none (places_of keys.shape.levels leaf now.hand) now.hand

  -- ---- events
  abbrev more_by : Event → ℕ
  more_by e = entries_by keys.shape.levels e

  event_few : (altered : List Altered) (n : ℕ) (e : Event) (f : Fold)
      → length (after_event keys altered n e f).now.hand ≤ length f.now.hand + more_by e
  event_few altered n (Access start asked) f = let kept = settled_few f.path f.now in omega (arith, kept)
  event_few altered n (Drawn p x) f =
      let kept = settled_few f.path f.now in
      let g = settle keys f in
      let read = read_few p g.start x.0 g.now.mirror (noted_at (n + 1) altered) g.now.hand in
      omega (arith, kept, read)
  event_few altered n (Accepted m t) f = omega arith
  event_few altered n (Tagged m) f = by_test (is_open_for m f.path)
    where
      by_test : (b : Bool)
          → length ((if b then f else settle keys f).now.hand ++ tagged_entry keys m ∷ []) ≤ length f.now.hand + 1
      by_test true = let more = length-append f.now.hand (tagged_entry keys m ∷ []) in omega (arith, more)
      by_test false =
          let kept = settled_few f.path f.now in
          let more = length-append (settle keys f).now.hand (tagged_entry keys m ∷ []) in
          omega (arith, kept, more)
  event_few altered n (Chosen index) f = let kept = settled_few f.path f.now in omega (arith, kept)
  event_few altered n (Answered line value) f = let kept = settled_few f.path f.now in omega (arith, kept)

  module _ (stash : ℕ) where
    write_other : (leaf held : ℕ) (hand : List Entry) → length hand ≤ stash
        → write_verdict keys stash leaf hand ≡ Some (StashFull held) → ⊥
    write_other leaf held hand few =
        let some = rest_stays keys.shape.levels leaf hand in
        let fewer = placed_few is_none (places_of keys.shape.levels leaf hand) hand in
        let right : nat_lt stash (rest_of keys.shape.levels leaf hand) ≡ false = le-ltb stash
        (rest_of keys.shape.levels leaf hand) (omega (arith, some, fewer, few)) in
        none_some held (ap (λ (b : Bool). if b then Some (StashFull (rest_of keys.shape.levels leaf hand)) else None)
        right)

    open_other : (path : Option (Point × ℕ)) (now : Contents) (held : ℕ) → length now.hand ≤ stash
        → open_verdict keys stash path now ≡ Some (StashFull held) → ⊥
    open_other None now held few is = cc
    open_other (Some (p, leaf)) now held few is = write_other leaf held now.hand few is

    read_other : (p : Point) (r : Result (List Entry) Evidence) (held : ℕ)
        → read_verdict keys p r ≡ Some (StashFull held) → ⊥
    read_other p (Err evidence) held is = cc
    read_other (Real a c) (Ok joined) held is = integrity_other (judged keys a.0 c _) held is
    read_other (Dummy n) (Ok joined) held is = cc

    append_other : (address : Address) (hand : List Entry) (held' : ℕ) → length hand + 1 ≤ stash
        → append_verdict stash address hand ≡ Some (StashFull held') → ⊥
    append_other address hand held' few = by_test (is_some (held hand address))
      where
        right : nat_lt stash (length hand + 1) ≡ false
        right = le-ltb stash (length hand + 1) few

        by_test : (b : Bool)
            → ◌≡◌ {A = Option Stop} (if b then Some (Integrity (Doubled address))
            else (if nat_lt stash (length hand + 1) then Some (StashFull (length hand + 1)) else None))
            (Some (StashFull held')) → ⊥
        by_test true is = cc
        by_test false is = none_some held'
            (ap (λ (b : Bool). if b then Some (StashFull (length hand + 1)) else None) right) is

    event_other : (altered : List Altered) (n held : ℕ) (e : Event) (f : Fold) → length f.now.hand + more_by e ≤ stash
        → event_verdict keys stash altered n e f ≡ Some (StashFull held) → ⊥
    event_other altered n held (Access start asked) f few is = open_other f.path f.now held (omega (arith, few)) is
    event_other altered n held (Drawn p x) f few is =
        elim (first_cases (open_verdict keys stash f.path f.now) _ (StashFull held) is) [
          | inl one ↦ open_other f.path f.now held (omega (arith, few)) one
          | inr two ↦ read_other p _ held two
        ]
    event_other altered n held (Accepted m t) f few is = cc
    event_other altered n held (Tagged m) f few is = by_test (is_open_for m f.path) is
      where
        by_test : (b : Bool) → (if b then None else first_of (open_verdict keys stash f.path f.now)
            (append_verdict stash m.address (settle keys f).now.hand)) ≡ Some (StashFull held) → ⊥
        by_test true is = let bad : ◌≡◌ {A = Option Stop} None (Some (StashFull held)) = is in cc
        by_test false is =
            elim (first_cases (open_verdict keys stash f.path f.now) _ (StashFull held) is) [
              | inl one ↦ open_other f.path f.now held (omega (arith, few)) one
              | inr two ↦ append_other m.address (settle keys f).now.hand held
                  (let kept = settled_few f.path f.now in omega (arith, few, kept)) two
            ]
    event_other altered n held (Chosen index) f few is = open_other f.path f.now held (omega (arith, few)) is
    event_other altered n held (Answered line value) f few is = open_other f.path f.now held (omega (arith, few)) is

    events_other : (altered : List Altered) (n held : ℕ) (events : List Event) (f : Fold)
        → length f.now.hand + most_entries keys.shape.levels events ≤ stash
        → first_of (events_verdict keys stash altered n events f)
        (open_verdict keys stash (fold_events keys altered n events f).path (fold_events keys altered n events f).now)
        ≡ Some (StashFull held) → ⊥
    events_other altered n held [] f few is = open_other f.path f.now held (omega (arith, few)) is
    events_other altered n held (e ∷ events) f few is =
        let g = after_event keys altered n e f in
        let parts : most_entries keys.shape.levels (e ∷ events) ≡ more_by e + most_entries keys.shape.levels events =
        sum_by-cons (entries_by keys.shape.levels) e events in
        let kept = event_few altered n e f in
        by_case (event_verdict keys stash altered n e f) (events_verdict keys stash altered (n + 1) events g)
        (open_verdict keys stash (fold_events keys altered (n + 1) events g).path
        (fold_events keys altered (n + 1) events g).now)
        (event_other altered n held e f (omega (arith, few, parts)))
        (events_other altered (n + 1) held events g (omega (arith, few, parts, kept))) is
      where
        by_case : (one more last : Option Stop) → (one ≡ Some (StashFull held) → ⊥)
            → (first_of more last ≡ Some (StashFull held) → ⊥)
            → first_of (first_of one more) last ≡ Some (StashFull held) → ⊥
        by_case None more last first then_is is = then_is is
        by_case (Some stop) more last first then_is is = first is

  pub few_other : (stash held : ℕ) (log : LogLists) → most_entries keys.shape.levels log.events ≤ stash
      → verdict_on keys stash log ≡ Some (StashFull held) → ⊥
  few_other stash held log few = events_other stash log.altered 0 held log.events (first_fold keys)
      (omega (arith, few))
