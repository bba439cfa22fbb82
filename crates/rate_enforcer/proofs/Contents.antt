-- What a port's slots make of the contents, over plain trees and taps.
use Rattle.std.proofs.Common.{◌≡◌, ◌<◌, ◌≤◌, ◌+◌, ◌-◌, ◌^◌, ◌++◌, ℕ, suc, List, [], ◌∷◌, Option, None, map}
use Rattle.std.specs.Option.{IsSome}
use Rattle.std.proofs.Common.{Some, ◌↔◌, length, length-append, nat_lt, false, Ok, refl, sym, ap, subst, ◌∙◌, arith}
use Rattle.std.proofs.Common.{append_assoc, append-nil}
use Rattle.asc_base.specs.declared.block.Entry.{Entry}
use Rattle.asc_base.specs.declared.block.Leaf.{Leaf}
use Rattle.asc_base.specs.declared.block.Point.{Point}
use Rattle.asc_base.specs.declared.block.Point.TheVariants.{Dummy}
use Rattle.asc_base.specs.declared.shape.Shape.{Shape}
use Rattle.bus_watch.specs.declared.log.Event.TheVariants.{Access, Drawn}
use Rattle.bus_watch.specs.Log.{LogLists, TapState, with_event}
use Rattle.bucket_codec.specs.Bucket.{opened}
use Rattle.oram_contents.proofs.Joined.{buckets-apart}
use Rattle.oram_contents.specs.PathRead.{path_read}
use Rattle.asc_base.specs.declared.block.Address.{Address}
use Rattle.oram_contents.specs.Verdict.{append_verdict}
use Rattle.oram_stash.specs.Entries.{AreApart, held}
use Rattle.oram_contents.specs.Contents.{Contents, after_write}
use Rattle.oram_contents.specs.Entries.{Keys}
use Rattle.oram_contents.specs.Shapes.{AreOfShape}
use Rattle.oram_contents.specs.Slots.{IsRead, IsEnd, IsDummy, drawn_events}
use Rattle.oram_contents.specs.Steps.{Adds}
use Rattle.unified_tree.proofs.Slots.{read_is}
use Rattle.unified_tree.specs.Slot.{contents_of, WasRead}
use Rattle.unified_tree.specs.Tree.{TreeState, IsSameTree}
use Rattle.rate_enforcer.specs.Served.{keys_of, begin_events, HavePassed}

-- the two events of a slot's start
pub two_events : (t t1 t2 t3 : TapState) (start : ℕ) (asked : Option ℕ) (point : Point) (leaf : Leaf) (n : ℕ)
    → leaf.0 ≡ n → t1.log ≡ with_event t.log (Access start asked) → t2.log ≡ with_event t1.log (Drawn point leaf)
    → t3.log.events ≡ t2.log.events → t3.log.events ≡ t.log.events ++ begin_events start asked point n
two_events t t1 t2 t3 start asked point leaf n is first second silent =
    silent ∙ ap (λ (x : LogLists). x.events) second
    ∙ ap (λ (x : LogLists). x.events ++ Drawn point leaf ∷ []) first
    ∙ append_assoc t.log.events (Access start asked ∷ []) (Drawn point leaf ∷ [])
    ∙ ap (λ k. t.log.events ++ begin_events start asked point k) is

-- a path was read
pub slot_read : (tags : List ℕ) (leaf_of : Point → ℕ) (old mid new : TreeState) (start : ℕ) (asked : Option ℕ)
    (point : Point) (leaf : Leaf) (t t1 t2 t3 : TapState) → IsSameTree old mid → IsSameTree mid new
    → mid.hand ≡ old.hand → mid.seed ≡ old.seed → leaf.0 ≡ leaf_of point
    → t1.log ≡ with_event t.log (Access start asked) → t2.log ≡ with_event t1.log (Drawn point leaf)
    → t2.mirror ≡ t.mirror → t3.log.events ≡ t2.log.events
    → WasRead mid.key mid.shape start leaf.0 (Ok tt) t2 t3 mid.hand new.hand → AreOfShape new.shape new.hand
    → IsRead (keys_of old tags leaf_of) t.log t3.log (contents_of old t) start point new.hand
slot_read tags leaf_of old mid new start asked point leaf t t1 t2 t3 same1 same2 hand seed is first second mirror silent
    was of_shape =
    let keys : Keys = keys_of old tags leaf_of in
    let drawn : Adds t.log t2.log (drawn_events keys start asked point) [] = record {
      events_are = two_events t t1 t2 t2 start asked point leaf (leaf_of point) is first second refl;
      altered_are = ap (λ (x : LogLists). x.altered) second ∙ ap (λ (x : LogLists). x.altered) first
          ∙ sym (append-nil t.log.altered);
    } in
    let read = read_is keys t.log t2 t3 mid new start asked point (sym same1.shape) (sym same1.key) drawn silent
    (subst (λ x. WasRead mid.key mid.shape start x (Ok tt) t2 t3 mid.hand new.hand) is was)
    (subst (λ (s : Shape). AreOfShape s new.hand) same2.shape of_shape) in
    let before : contents_of mid t2 ≡ contents_of old t =
    ap (λ x. let d : Contents = record { hand = x; mirror = t2.mirror; seed = mid.seed } in d) hand
    ∙ ap (λ x. let d : Contents = record { hand = old.hand; mirror = x; seed = mid.seed } in d) mirror
    ∙ ap (λ x. let d : Contents = record { hand = old.hand; mirror = t.mirror; seed = x } in d) seed in
    subst (λ (d : Contents). IsRead keys t.log t3.log d start point new.hand) before read

-- a dummy's two halves
pub dummy_of : (old mid new : TreeState) (tags : List ℕ) (leaf_of : Point → ℕ) (start number leaf : ℕ)
    (t t2 t3 : TapState) → IsSameTree old mid → leaf ≡ leaf_of (Dummy number) → mid.seed ≡ old.seed
    → t2.mirror ≡ t.mirror
    → IsRead (keys_of old tags leaf_of) t.log t2.log (contents_of old t) start (Dummy number) mid.hand
    → t2.log.events ≡ t.log.events ++ begin_events start None (Dummy number) (leaf_of (Dummy number))
    → contents_of new t3 ≡ after_write mid.key mid.shape.levels leaf (contents_of mid t2) → IsEnd t2.log t3.log
    → IsDummy (keys_of old tags leaf_of) t.log t3.log (contents_of old t) (contents_of new t3) start number
dummy_of old mid new tags leaf_of start number leaf t t2 t3 kept leaf_is seed mirror r begins written ends = record {
  mid = t2.log;
  pass = record {
    asked = None;
    altered = r.altered;
    joined = mid.hand;
    events_are = begins;
    altered_are = r.adds.altered_are;
    noted = r.noted;
    read = r.read;
    of_shape = r.of_shape;
    after_is = written ∙ ap (λ k. after_write k mid.shape.levels leaf (contents_of mid t2)) kept.key
        ∙ ap (λ (s : Shape). after_write old.key s.levels leaf (contents_of mid t2)) kept.shape
        ∙ ap (λ x. after_write old.key old.shape.levels x (contents_of mid t2)) leaf_is
        ∙ ap (λ x. after_write old.key old.shape.levels (leaf_of (Dummy number))
        (record { hand = mid.hand; mirror = x; seed = mid.seed })) mirror
        ∙ ap (λ x. after_write old.key old.shape.levels (leaf_of (Dummy number))
        (record { hand = mid.hand; mirror = t.mirror; seed = x })) seed;
  };
  unasked = refl;
  ends = ends;
}

-- no dummy
pub none_passed : (keys : Keys) (stash d : ℕ) (log : LogLists) (now : Contents)
    → HavePassed keys stash (d - d) log log now now d
none_passed keys stash d log now =
    let none : 0 ≡ d - d = omega arith in
    subst (λ k. HavePassed keys stash k log log now now d) none ((refl, refl), tt)

-- one dummy more
pub dummies_more : (old mid new : TreeState) (tags : List ℕ) (leaf_of : Point → ℕ) (start d0 d d' : ℕ)
    (t t2 t3 : TapState) → IsSameTree old mid → d0 ≤ d → d' ≡ d + 1 → mid.seed < 2 ^ 63
    → length new.hand ≤ old.stash
    → HavePassed (keys_of old tags leaf_of) old.stash (d - d0) t.log t2.log (contents_of old t) (contents_of mid t2) d0
    → IsDummy (keys_of mid tags leaf_of) t2.log t3.log (contents_of mid t2) (contents_of new t3) start d
    → HavePassed (keys_of old tags leaf_of) old.stash (d' - d0) t.log t3.log (contents_of old t) (contents_of new t3) d0
dummies_more old mid new tags leaf_of start d0 d d' t t2 t3 kept less is seeds few before one =
    let keys = keys_of old tags leaf_of in
    let same : keys_of mid tags leaf_of ≡ keys =
    λ i. record { shape = kept.shape i; pads = kept.key i; tags = tags; leaf_of = leaf_of } in
    let number : d' - d0 ≡ suc (d - d0) = omega arith in
    let at : d ≡ d0 + (d - d0) = omega arith in
    let one2 = subst (λ n. IsDummy keys t2.log t3.log (contents_of mid t2) (contents_of new t3) start n) at
    (subst (λ k. IsDummy k t2.log t3.log (contents_of mid t2) (contents_of new t3) start d) same one) in
    subst (λ k. HavePassed keys old.stash k t.log t3.log (contents_of old t) (contents_of new t3) d0) (sym number)
    ((t2.log, contents_of mid t2, start, before.0, seeds, one2), (before.1, few))

-- a path's read without evidence leaves addresses that differ
pub read_apart : (key : List ℕ) (shape : Shape) (leaf : ℕ) (texts : List (List ℕ)) (hand joined : List Entry)
    → path_read key shape leaf texts hand ≡ Ok joined → AreApart hand → AreApart joined
read_apart key shape leaf texts hand joined is apart =
    buckets-apart shape.levels leaf 0 (map (opened key shape) texts) hand joined is apart

-- where a hand takes an entry, none of its address was there
pub was_absent : {A : Type 0} (found : Option Entry) → (A ↔ IsSome found) → (A → ⊥) → found ≡ None
was_absent None refused taken = refl
was_absent (Some entry) refused taken = absurd (taken (refused.1 refl))

-- and nothing is wrong where it then has room
pub append_right : (stash : ℕ) (address : Address) (hand joined : List Entry) (entry : Entry)
    → held hand address ≡ None → joined ≡ hand ++ entry ∷ [] → length joined ≤ stash
    → append_verdict stash address hand ≡ None
append_right stash address hand joined entry absent is few =
    let more : length joined ≡ length hand + 1 = ap length is ∙ length-append hand (entry ∷ []) in
    let no : nat_lt stash (length hand + 1) ≡ false = grind arith in
    rw absent (rw no refl)
