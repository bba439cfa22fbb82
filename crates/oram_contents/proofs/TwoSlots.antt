-- The log with an altered reply that shows a forgery is one of two slots, where their paths share the root alone.
use Rattle.std.proofs.Common.{◌≡◌, ◌<◌, ◌≤◌, ◌+◌, ◌*◌, inl, inr, ℕ, zero, suc, Bool, true, false}
use Rattle.std.proofs.Common.{List, [], ◌∷◌, ◌++◌, length, map, get_or, All, None, Some, Ok, refl, sym, ◌∙◌, ap}
use Rattle.std.proofs.Common.{arith, add-one, is_none}
use Rattle.std.specs.Prelude.{bytes_eq, nat_le, unwrap_or}
use Rattle.std.specs.List.{range_with_len}
use Rattle.std.proofs.lemmas.Bool.Decides.{eqb_tells}
use Rattle.std.proofs.lemmas.List.Elements.{All-cons}
use Rattle.std.proofs.lemmas.List.Sums.{count_by-le-length}
use Rattle.std.proofs.lemmas.Option.{unwrap_or-slice_get}
use Rattle.std.proofs.lemmas.Slice.Eq.{bytes_eq-Decides}
use Rattle.asc_base.specs.TreeShape.{bucket_of, shared_of}
use Rattle.asc_base.specs.declared.block.Counter.{Counter}
use Rattle.asc_base.specs.declared.block.Entry.{Entry}
use Rattle.asc_base.proofs.Paths.{bucket_of-apart, shared_iff, shared_of-le}
use Rattle.bucket_codec.specs.Bucket.{opened, empty_slots}
use Rattle.bucket_codec.specs.Slot.{IsEntry, IsInRange}
use Rattle.bus_watch.specs.Log.{LogLists}
use Rattle.bus_watch.specs.declared.log.Altered.{Altered}
use Rattle.bus_watch.specs.declared.log.Event.TheVariants.{Tagged}
use Rattle.oram_stash.specs.Entries.{held, without}
use Rattle.path_evict.specs.Rest.{rest}
use Rattle.path_evict.proofs.Highest.{rest-le}
use Rattle.path_evict.proofs.Leaves.{left-eviction}
use Rattle.path_evict.proofs.Placed.{length-where_placed}
use Rattle.pmmac_tags.specs.Tag.{tag}
use Rattle.asc_base.specs.Lookup.{without_first}
use Rattle.posmap_counters.specs.Counters.{first_counter}
use Rattle.oram_contents.specs.Contents.{Contents, IsReadTo, after_write}
use Rattle.oram_contents.specs.Entries.{Keys, AreKeys, real, message_of, entry_of}
use Rattle.oram_contents.specs.Fold.{with_entry}
use Rattle.oram_contents.specs.PathRead.{join_bucket, join_buckets, join_entry, reply_at, then_join}
use Rattle.oram_contents.specs.PathWritten.{places_of, stays}
use Rattle.oram_contents.specs.Slots.{IsAccess, IsRefill, drawn_events}
use Rattle.oram_contents.specs.Starts.{empty_log, first_contents, altered_log}
use Rattle.oram_contents.specs.Verdict.{is_first, judged}
use Rattle.oram_contents.proofs.AlteredLogs.{root_reply, one_opens}
use Rattle.oram_contents.proofs.ContentsLaws.{sealed-off}
use Rattle.oram_contents.proofs.FirstSlots.{nothing_read}
use Rattle.oram_contents.proofs.FormLaws.{zeros_open}
use Rattle.oram_contents.proofs.Found.{first_is}
use Rattle.oram_contents.proofs.PutSteps.{entry_typed}

-- one entry never stays
few_rest : (depth levels : ℕ) → rest (depth ∷ []) levels ≤ 0
few_rest depth levels = rest-le (depth ∷ []) levels 0 (λ k within. omega
    (arith, count_by-le-length (λ d. nat_le d k) (depth ∷ [])))

none_of : (es : List Entry) → length es ≤ 0 → es ≡ []
none_of [] few = refl
none_of (e ∷ es) few = absurd (omega arith)

one_placed : (levels leaf : ℕ) (e : Entry) → stays levels leaf (e ∷ []) ≡ []
one_placed levels leaf e =
    let depth = shared_of levels e.leaf.0 leaf in
    let places = places_of levels leaf (e ∷ []) in
    let within : All (λ d. d ≤ levels) (depth ∷ []) = All-cons (λ d. d ≤ levels) depth []
    (shared_of-le levels e.leaf.0 leaf) (λ k d less. absurd (omega arith)) in
    none_of (stays levels leaf (e ∷ [])) (omega (
      arith,
      length-where_placed is_none places (e ∷ []),
      left-eviction (depth ∷ []) levels within,
      few_rest depth levels,
    ))

-- buckets without entries join nothing
empty_join : (keys : Keys) (leaf : ℕ) (r : ℕ → List ℕ) (hand : List Entry) (from n : ℕ)
    → ((k : ℕ) → from ≤ k → k < from + n → opened keys.pads keys.shape (r k) ≡ Ok empty_slots)
    → join_buckets keys.shape.levels leaf from (map (opened keys.pads keys.shape) (map r (range_with_len from n))) hand
    ≡ Ok hand
empty_join keys leaf r hand from zero none = refl
empty_join keys leaf r hand from (suc n) none =
    ap (λ b. then_join (join_bucket keys.shape.levels leaf from b hand) (join_buckets keys.shape.levels leaf (from + 1)
    (map (opened keys.pads keys.shape) (map r (range_with_len (from + 1) n))))) (none from (omega arith) (omega arith))
    ∙ empty_join keys leaf r hand (from + 1) n (λ k low high. none k (omega arith) (omega arith))

-- an entry of the path's own leaf joins an empty hand
one_joins : (levels level slot : ℕ) (e : Entry) → join_entry levels e.leaf.0 level slot e [] ≡ Ok (e ∷ [])
unfolding held
one_joins levels level slot e = elim (eqb_tells (bucket_of levels e.leaf.0 level) (bucket_of levels e.leaf.0 level)) [
  | inl same ↦ rw same.0 refl
  | inr other ↦ absurd (other.1 refl)
]

found_there : (e : Entry) → held (e ∷ []) e.address ≡ Some e
unfolding held
found_there e = elim (eqb_tells e.address.0 e.address.0) [
  | inl same ↦ rw same.0 refl
  | inr other ↦ absurd (other.1 refl)
]

not_first : (c : Counter) → (c ≡ first_counter → ⊥) → is_first c ≡ false
not_first c other = by (is_first c) refl
  where
    by : (b : Bool) → is_first c ≡ b → is_first c ≡ false
    by true is = absurd (other (first_is c is))
    by false is = is

right_there : (keys : Keys) (a : ℕ) (c : Counter) (l : List ℕ) → (c ≡ first_counter → ⊥)
    → judged keys a c (Some (entry_of keys a c l)) ≡ None
right_there keys a c l other =
    let same : bytes_eq (tag keys.tags (message_of a c l)) (tag keys.tags (message_of a c l)) ≡ true =
    (bytes_eq-Decides (tag keys.tags (message_of a c l)) (tag keys.tags (message_of a c l))).1 refl in
    rw (not_first c other, same) refl

module _ (keys : Keys) (lawful : AreKeys keys) (a : ℕ) (c : Counter) (inside : a < keys.shape.total)
    (other : c ≡ first_counter → ⊥) (put found : List ℕ) (whole : length found ≡ 64) where
  abbrev before : ℕ
  before = keys.leaf_of (real a first_counter)

  abbrev leaf : ℕ
  leaf = keys.leaf_of (real a c)

  -- the log after the first slot, and the contents then
  abbrev mid : LogLists
  mid = record {
    moves = [];
    events = drawn_events keys 256 (Some 0) (real a first_counter) ++ Tagged (message_of a c put) ∷ [];
    altered = [];
  }

  abbrev between : Contents
  between = after_write keys.pads keys.shape.levels before (with_entry (first_contents keys) (entry_of keys a c put))

  abbrev entry : Entry
  entry = entry_of keys a c found

  abbrev reply_of : ℕ → List ℕ
  reply_of level = reply_at between.mirror (root_reply keys a c found ∷ []) (1008 + 40 * level)
      (bucket_of keys.shape.levels leaf level)

  first_slot : IsAccess keys empty_log mid (first_contents keys) between 256 a first_counter c None put
  unfolding held without without_first
  first_slot = record {
    asked = Some 0;
    altered = [];
    joined = [];
    events_are = refl;
    altered_are = refl;
    noted = λ k d less. absurd (omega arith);
    read = nothing_read keys lawful 256 (real a first_counter);
    of_shape = λ k d less. absurd (omega arith);
    found_is = refl;
    right = refl;
    after_is = refl;
  }

  module _ (parted : shared_of keys.shape.levels before leaf ≡ 0) where
    -- below the root nothing was written
    below_root : (k : ℕ) → 1 ≤ k → k < 1 + keys.shape.levels → opened keys.pads keys.shape (reply_of k) ≡ Ok empty_slots
    below_root k low high =
        let at : reply_of k ≡ get_or between.mirror (bucket_of keys.shape.levels leaf k) [] = later in
        let kept = sealed-off keys.pads keys.shape.levels before 1 (entry_of keys a c put ∷ [])
        (first_contents keys).mirror (keys.shape.levels + 1) (bucket_of keys.shape.levels leaf k) off in
        let same : get_or between.mirror (bucket_of keys.shape.levels leaf k) []
        ≡ get_or (first_contents keys).mirror (bucket_of keys.shape.levels leaf k) [] =
        sym (unwrap_or-slice_get between.mirror (bucket_of keys.shape.levels leaf k) [])
        ∙ ap (λ o. unwrap_or o []) kept
        ∙ unwrap_or-slice_get (first_contents keys).mirror (bucket_of keys.shape.levels leaf k) [] in
        ap (opened keys.pads keys.shape) (at ∙ same) ∙ zeros_open keys (bucket_of keys.shape.levels leaf k)
      where
        later : reply_of k ≡ get_or between.mirror (bucket_of keys.shape.levels leaf k) []
        later = elim (eqb_tells 1008 (1008 + 40 * k)) [
          | inl is ↦ absurd (omega (arith, is.1, low))
          | inr apart ↦ rw apart.0 refl
        ]

        off : (level : ℕ) → level < keys.shape.levels + 1
            → bucket_of keys.shape.levels before level ≡ bucket_of keys.shape.levels leaf k → ⊥
        off level less is = elim (eqb_tells level k) [
          | inl same ↦
              (let one : bucket_of keys.shape.levels before k ≡ bucket_of keys.shape.levels leaf k =
              ap (bucket_of keys.shape.levels before) (sym same.1) ∙ is in
              let deep = (shared_iff keys.shape.levels before leaf k (lawful.leaves (real a first_counter))
              (lawful.leaves (real a c)) (omega (arith, high))).0 one in
              omega (arith, deep, parted, low))
          | inr differ ↦ bucket_of-apart keys.shape.levels before leaf level k differ.1 (omega (arith, less))
              (omega (arith, high)) (lawful.leaves (real a first_counter)) (lawful.leaves (real a c)) is
        ]

    read_there : IsReadTo keys.pads keys.shape 1008 leaf (root_reply keys a c found ∷ []) between (entry ∷ [])
    read_there =
        ap (λ n. join_buckets keys.shape.levels leaf 0
        (map (opened keys.pads keys.shape) (map reply_of (range_with_len 0 n))) between.hand) one_more
        ∙ ap (λ hand. join_buckets keys.shape.levels leaf 0
        (map (opened keys.pads keys.shape) (map reply_of (range_with_len 0 (suc keys.shape.levels)))) hand)
        (one_placed keys.shape.levels before (entry_of keys a c put))
        ∙ ap (λ b. then_join (join_bucket keys.shape.levels leaf 0 b []) (join_buckets keys.shape.levels leaf 1
        (map (opened keys.pads keys.shape) (map reply_of (range_with_len 1 keys.shape.levels)))))
        (one_opens keys lawful a c inside found whole)
        ∙ ap (λ r. then_join (then_join r (λ hand. Ok hand)) (join_buckets keys.shape.levels leaf 1
        (map (opened keys.pads keys.shape) (map reply_of (range_with_len 1 keys.shape.levels)))))
        (one_joins keys.shape.levels 0 0 entry)
        ∙ empty_join keys leaf reply_of (entry ∷ []) 1 keys.shape.levels below_root
      where
        one_more : keys.shape.levels + 1 ≡ suc keys.shape.levels
        one_more = rw add-one refl

    second_slot : IsRefill keys mid (altered_log keys a c put found found) between
        (after_write keys.pads keys.shape.levels leaf (record between {
          hand = without (entry ∷ []) (record { 0 = a });
        })) 1008 a c (Some entry)
    second_slot = record {
      asked = Some 752;
      altered = root_reply keys a c found ∷ [];
      joined = entry ∷ [];
      events_are = refl;
      altered_are = refl;
      noted = All-cons (λ (reply : Altered). reply.before ≡ length mid.events + 2) (root_reply keys a c found) [] refl
          (λ k d less. absurd (omega arith));
      read = read_there;
      of_shape = All-cons (λ (e : Entry). IsEntry e × IsInRange keys.shape (Some e)) entry []
          (entry_typed keys lawful a c found inside whole, (inside, lawful.leaves (real a c)))
          (λ k d less. absurd (omega arith));
      found_is = found_there entry;
      right = right_there keys a c found other;
      after_is = refl;
    }

pub two_slots : (keys : Keys) → AreKeys keys → (a : ℕ) (c : Counter) → a < keys.shape.total
    → (c ≡ first_counter → ⊥) → (put found : List ℕ) → length found ≡ 64
    → shared_of keys.shape.levels (keys.leaf_of (real a first_counter)) (keys.leaf_of (real a c)) ≡ 0
    → (mid : LogLists) × (between : Contents) × (after : Contents)
    × IsAccess keys empty_log mid (first_contents keys) between 256 a first_counter c None put
    × IsRefill keys mid (altered_log keys a c put found found) between after 1008 a c (Some (entry_of keys a c found))
two_slots keys lawful a c inside other put found whole parted = (
  mid keys lawful a c inside other put found whole,
  between keys lawful a c inside other put found whole,
  after_write keys.pads keys.shape.levels (keys.leaf_of (real a c)) (record
      (between keys lawful a c inside other put found whole) {
        hand = without (entry_of keys a c found ∷ []) (record { 0 = a });
      }),
  first_slot keys lawful a c inside other put found whole,
  second_slot keys lawful a c inside other put found whole parted,
)
