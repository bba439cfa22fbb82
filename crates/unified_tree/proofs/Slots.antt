-- A read and a write over the bus are the parts of a slot on the contents, and its parts make a whole slot.
use Rattle.std.proofs.Common.{◌≡◌, ◌+◌, ℕ, List, [], ◌∷◌, ◌++◌, length, All, Option, Ok, sym, ◌∙◌, ap}
use Rattle.std.proofs.Common.{subst, length-append, append_assoc, append-nil}
use Rattle.asc_base.specs.declared.block.Counter.{Counter}
use Rattle.asc_base.specs.declared.block.Entry.{Entry}
use Rattle.asc_base.specs.declared.block.Point.{Point}
use Rattle.asc_base.specs.declared.block.Point.TheVariants.{Dummy}
use Rattle.asc_base.specs.declared.shape.Shape.{Shape}
use Rattle.bus_watch.specs.Log.{LogLists, TapState}
use Rattle.bus_watch.specs.declared.log.Altered.{Altered}
use Rattle.bus_watch.specs.declared.log.Event.TheVariants.{Tagged}
use Rattle.oram_stash.specs.Entries.{without}
use Rattle.oram_contents.specs.Contents.{Contents, IsReadTo, after_write}
use Rattle.oram_contents.specs.Entries.{Keys, real, message_of, entry_of}
use Rattle.oram_contents.specs.PathWritten.{stays, sealed}
use Rattle.oram_contents.specs.Shapes.{AreOfShape}
use Rattle.oram_contents.specs.Slots.{drawn_events, IsRead, IsFound, IsPut, IsAccess, IsRefill, IsPass}
use Rattle.oram_contents.specs.Steps.{Adds, accepted}
use Rattle.unified_tree.specs.Slot.{contents_of, WasRead}
use Rattle.unified_tree.specs.Tree.{TreeState}

pub read_is : (keys : Keys) (old : LogLists) (tap tap' : TapState) (tree tree' : TreeState) (start : ℕ)
    (asked : Option ℕ) (p : Point) → keys.shape ≡ tree.shape → keys.pads ≡ tree.key
    → Adds old tap.log (drawn_events keys start asked p) [] → tap'.log.events ≡ tap.log.events
    → WasRead tree.key tree.shape start (keys.leaf_of p) (Ok tt) tap tap' tree.hand tree'.hand
    → AreOfShape tree.shape tree'.hand → IsRead keys old tap'.log (contents_of tree tap) start p tree'.hand
read_is keys old tap tap' tree tree' start asked p shape_is pads_is drawn silent was of_shape =
    let altered = was.gains.altered in
    let drawn_altered : tap.log.altered ≡ old.altered = drawn.altered_are ∙ append-nil old.altered in
    let number : length tap.log.events ≡ length old.events + 2 =
    ap length drawn.events_are ∙ length-append old.events (drawn_events keys start asked p) in
    record {
      asked = asked;
      altered = altered;
      adds = record {
        events_are = silent ∙ drawn.events_are;
        altered_are = was.gains.gained ∙ ap (λ before. before ++ altered) drawn_altered;
      };
      noted = subst (λ n. All (λ (reply : Altered). reply.before ≡ n) altered) number was.gains.noted;
      read = subst (λ (s : Shape). IsReadTo keys.pads s start (keys.leaf_of p) altered
          (contents_of tree tap) tree'.hand)
          (sym shape_is)
          (subst (λ k. IsReadTo k tree.shape start (keys.leaf_of p) altered (contents_of tree tap) tree'.hand)
          (sym pads_is) was.says);
      of_shape = subst (λ (s : Shape). AreOfShape s tree'.hand) (sym shape_is) of_shape;
    }

pub write_is : (keys : Keys) (tap tap' : TapState) (tree tree' : TreeState) (leaf : ℕ) → keys.shape ≡ tree.shape
    → keys.pads ≡ tree.key → tree'.hand ≡ stays tree.shape.levels leaf tree.hand
    → tap'.mirror ≡ sealed tree.key tree.shape.levels leaf tree.seed tree.hand tap.mirror (tree.shape.levels + 1)
    → tree'.seed ≡ tree.seed + (tree.shape.levels + 1)
    → contents_of tree' tap' ≡ after_write keys.pads keys.shape.levels leaf (contents_of tree tap)
write_is keys tap tap' tree tree' leaf shape_is pads_is hand_is mirror_is seed_is =
    let now : Contents = contents_of tree tap in
    let same : contents_of tree' tap' ≡ after_write tree.key tree.shape.levels leaf now =
    ap (λ h. let c : Contents = record { hand = h; mirror = tap'.mirror; seed = tree'.seed } in c) hand_is
    ∙ ap (λ m. let c : Contents = record {
      hand = stays tree.shape.levels leaf tree.hand;
      mirror = m;
      seed = tree'.seed;
    } in c) mirror_is
    ∙ ap (λ s. let c : Contents = record {
      hand = stays tree.shape.levels leaf tree.hand;
      mirror = sealed tree.key tree.shape.levels leaf tree.seed tree.hand tap.mirror (tree.shape.levels + 1);
      seed = s;
    } in c) seed_is in
    same ∙ ap (λ k. after_write k tree.shape.levels leaf now) (sym pads_is)
    ∙ ap (λ (s : Shape). after_write keys.pads s.levels leaf now) (sym shape_is)

pub put_is : (keys : Keys) (tap tap' : TapState) (tree tree' : TreeState) (a : ℕ) (c : Counter) (l : List ℕ)
    → tree'.hand ≡ tree.hand ++ entry_of keys a c l ∷ [] → tree'.seed ≡ tree.seed → tap'.mirror ≡ tap.mirror
    → Adds tap.log tap'.log (Tagged (message_of a c l) ∷ []) []
    → IsPut keys tap.log tap'.log (contents_of tree tap) (contents_of tree' tap') a c l
put_is keys tap tap' tree tree' a c l hand_is seed_is mirror_is adds = record {
  adds = adds;
  after_is =
      ap (λ h. let c : Contents = record { hand = h; mirror = tap'.mirror; seed = tree'.seed } in c) hand_is
      ∙ ap (λ m. let d : Contents = record {
        hand = tree.hand ++ entry_of keys a c l ∷ [];
        mirror = m;
        seed = tree'.seed;
      } in d) mirror_is
      ∙ ap (λ s. let d : Contents = record {
        hand = tree.hand ++ entry_of keys a c l ∷ [];
        mirror = tap.mirror;
        seed = s;
      } in d) seed_is;
}

-- lists that grow by nothing
none_more : {A : Type 0} {xs ys : List A} → ys ≡ xs ++ [] → ys ≡ xs
none_more {xs = xs} is = is ∙ append-nil xs

pub pass_is : (keys : Keys) (old mid new : LogLists) (now after : Contents) (start n : ℕ) (joined : List Entry)
    → IsRead keys old mid now start (Dummy n) joined → Adds mid new [] []
    → after ≡ after_write keys.pads keys.shape.levels (keys.leaf_of (Dummy n)) (record now { hand = joined })
    → IsPass keys old new now after start n
pass_is keys old mid new now after start n joined read closed after_is = record {
  asked = read.asked;
  altered = read.altered;
  joined = joined;
  events_are = none_more closed.events_are ∙ read.adds.events_are;
  altered_are = none_more closed.altered_are ∙ read.adds.altered_are;
  noted = read.noted;
  read = read.read;
  of_shape = read.of_shape;
  after_is = after_is;
}

pub access_is : (keys : Keys) (old mid looked last new : LogLists) (now put after : Contents) (start a : ℕ)
    (c c' : Counter) (joined : List Entry) (found : Option Entry) (l : List ℕ)
    → IsRead keys old mid now start (real a c) joined → IsFound keys mid looked joined a c found
    → IsPut keys looked last (record now { hand = without joined (record { 0 = a }) }) put a c' l
    → Adds last new [] [] → after ≡ after_write keys.pads keys.shape.levels (keys.leaf_of (real a c)) put
    → IsAccess keys old new now after start a c c' found l
access_is keys old mid looked last new now put after start a c c' joined found l read look puts closed after_is =
    let drawn = drawn_events keys start read.asked (real a c) in
    let tagged = Tagged (message_of a c' l) ∷ [] in
    record {
      asked = read.asked;
      altered = read.altered;
      joined = joined;
      events_are = none_more closed.events_are ∙ puts.adds.events_are
          ∙ ap (λ es. es ++ tagged) (look.adds.events_are ∙ ap (λ es. es ++ accepted a c found) read.adds.events_are)
          ∙ append_assoc (old.events ++ drawn) (accepted a c found) tagged
          ∙ append_assoc old.events drawn (accepted a c found ++ tagged);
      altered_are = none_more closed.altered_are ∙ none_more puts.adds.altered_are
          ∙ none_more look.adds.altered_are ∙ read.adds.altered_are;
      noted = read.noted;
      read = read.read;
      of_shape = read.of_shape;
      found_is = look.found_is;
      right = look.right;
      after_is = after_is ∙ ap (λ d. after_write keys.pads keys.shape.levels (keys.leaf_of (real a c)) d) puts.after_is;
    }

pub refill_is : (keys : Keys) (old mid looked new : LogLists) (now after : Contents) (start a : ℕ) (c : Counter)
    (joined : List Entry) (found : Option Entry)
    → IsRead keys old mid now start (real a c) joined → IsFound keys mid looked joined a c found
    → Adds looked new [] [] → after ≡ after_write keys.pads keys.shape.levels (keys.leaf_of (real a c))
    (record now { hand = without joined (record { 0 = a }) })
    → IsRefill keys old new now after start a c found
refill_is keys old mid looked new now after start a c joined found read look closed after_is =
    let drawn = drawn_events keys start read.asked (real a c) in
    record {
      asked = read.asked;
      altered = read.altered;
      joined = joined;
      events_are = none_more closed.events_are ∙ look.adds.events_are
          ∙ ap (λ es. es ++ accepted a c found) read.adds.events_are
          ∙ append_assoc old.events drawn (accepted a c found);
      altered_are = none_more closed.altered_are ∙ none_more look.adds.altered_are ∙ read.adds.altered_are;
      noted = read.noted;
      read = read.read;
      of_shape = read.of_shape;
      found_is = look.found_is;
      right = look.right;
      after_is = after_is;
    }
