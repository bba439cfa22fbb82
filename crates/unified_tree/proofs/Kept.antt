-- The tree's calls keep what is known of the contents.
use Rattle.std.proofs.Common.{◌≡◌, ◌<◌, ◌^◌, ◌⊎◌, inl, ℕ, List, [], ◌∷◌, ◌++◌, length, Option, None}
use Rattle.std.proofs.Common.{Some, refl, sym, ◌∙◌, subst, append-nil}
use Rattle.asc_base.specs.Has.{Has}
use Rattle.asc_base.specs.declared.block.Counter.{Counter}
use Rattle.asc_base.specs.declared.block.Entry.{Entry}
use Rattle.asc_base.specs.declared.block.Point.{Point}
use Rattle.bus_watch.specs.Log.{LogLists, TapState}
use Rattle.bus_watch.specs.declared.log.Altered.{Altered}
use Rattle.oram_contents.specs.Contents.{Contents, IsReadTo, after_write}
use Rattle.oram_contents.specs.Counts.{Ghost, line_at}
use Rattle.oram_contents.specs.Entries.{Keys, AreKeys, real, message_of}
use Rattle.oram_contents.specs.Forgery.{Forgery, LastDrawn}
use Rattle.oram_contents.specs.Home.{Home}
use Rattle.oram_contents.specs.Provenance.{Always, Sound}
use Rattle.oram_contents.specs.Slots.{MayDraw, MayRise, IsRead, IsFound, IsPut, IsEnd}
use Rattle.oram_contents.specs.Starts.{first_ghost}
use Rattle.oram_contents.specs.Steps.{Adds, opened_at, taken, stored, landed, closed}
use Rattle.oram_contents.specs.Verdict.{line_found}
use Rattle.oram_contents.proofs.Ends.{always_ends, sound_ends}
use Rattle.oram_contents.proofs.HomeLaws.{home_read, home_write}
use Rattle.oram_contents.proofs.HomeSteps.{home_take, home_put}
use Rattle.oram_contents.proofs.PutSteps.{put_back_sound, put_always}
use Rattle.oram_contents.proofs.ReadSteps.{read_sound, read_always}
use Rattle.oram_contents.proofs.StopSteps.{refused_sound, refused_always}
use Rattle.oram_contents.proofs.TakeSteps.{take_keeps, take_always}
use Rattle.oram_contents.proofs.WriteSteps.{write_sound, write_always}
use Rattle.oram_stash.specs.Entries.{without}
use Rattle.oram_stash.proofs.Held.{held-none}
use Rattle.unified_tree.specs.Left.{LeftByRead, LeftByTake, LeftByPut, LeftByWrite}
use Rattle.unified_tree.specs.Left.{LeftByPutCut}
use Rattle.unified_tree.specs.Slot.{contents_of}
use Rattle.unified_tree.specs.Tree.{TreeState}
use Rattle.unified_tree.proofs.Slots.{read_is, put_is, write_is}

abbrev contents : List Entry → List (List ℕ) → ℕ → Contents
contents hand mirror seed = record { hand = hand; mirror = mirror; seed = seed }

pub same_contents : {hand hand' : List Entry} {mirror mirror' : List (List ℕ)} {seed seed' : ℕ} → hand' ≡ hand
    → mirror' ≡ mirror → seed' ≡ seed → contents hand' mirror' seed' ≡ contents hand mirror seed
same_contents h m s = λ i. record { hand = h i; mirror = m i; seed = s i }

-- two lists that are none together
pub none_right : {A : Type 0} (xs ys zs : List A) → zs ≡ xs ++ ys → zs ≡ [] → ys ≡ []
none_right [] ys zs is none = sym is ∙ none
none_right (x ∷ xs) ys zs is none = absurd (let bad : (x ∷ (xs ++ ys)) ≡ [] = sym is ∙ none in cc)

pub none_left : {A : Type 0} (xs ys zs : List A) → zs ≡ xs ++ ys → zs ≡ [] → xs ≡ []
none_left [] ys zs is none = refl
none_left (x ∷ xs) ys zs is none = absurd (let bad : (x ∷ (xs ++ ys)) ≡ [] = sym is ∙ none in cc)

-- nothing was noted
pub ended : {old new : LogLists} → Adds old new [] [] → IsEnd old new
ended {old = old} adds = record {
  altered = adds.altered_are ∙ append-nil old.altered;
  events = inl (adds.events_are ∙ append-nil old.events);
}

-- a read

module _ (keys : Keys) (old : LogLists) (tap tap' : TapState) (tree tree' : TreeState) (start : ℕ)
    (asked : Option ℕ) (p : Point) (x : LeftByRead keys tap tap' tree tree' old start asked p) where
  is_read : IsRead keys old tap'.log (contents_of tree tap) start p tree'.hand
  is_read = read_is keys old tap tap' tree tree' start asked p x.shape x.pads x.drawn x.silent x.read x.of_shape

  after_read : contents_of tree' tap' ≡ record (contents_of tree tap) { hand = tree'.hand }
  after_read = same_contents refl x.mirror x.seed

  pub read_keeps_always : Always keys old (contents_of tree tap) → Always keys tap'.log (contents_of tree' tap')
  read_keeps_always w = subst (λ c. Always keys tap'.log c) (sym after_read)
      (read_always keys old tap'.log first_ghost (contents_of tree tap) start p tree'.hand is_read w)

  pub read_keeps_sound : (g : Ghost) → g.path ≡ None → MayDraw g p → Sound keys old g (contents_of tree tap)
      → Sound keys tap'.log (opened_at g p (keys.leaf_of p)) (contents_of tree' tap')
  read_keeps_sound g shut may s = subst (λ c. Sound keys tap'.log (opened_at g p (keys.leaf_of p)) c) (sym after_read)
      (read_sound keys old tap'.log g (contents_of tree tap) start p tree'.hand is_read shut may s)

  pub read_keeps_home : AreKeys keys → tap'.log.altered ≡ [] → (g : Ghost) → g.path ≡ None
      → Home keys g (contents_of tree tap) → Home keys (opened_at g p (keys.leaf_of p)) (contents_of tree' tap')
  read_keeps_home lawful none g shut home =
      let unaltered : IsReadTo keys.pads keys.shape start (keys.leaf_of p) [] (contents_of tree tap) tree'.hand =
      subst (λ (r : List Altered). IsReadTo keys.pads keys.shape start (keys.leaf_of p) r (contents_of tree tap)
      tree'.hand) (none_right old.altered is_read.altered tap'.log.altered is_read.adds.altered_are none) is_read.read
      in
      subst (λ c. Home keys (opened_at g p (keys.leaf_of p)) c) (sym after_read)
      (home_read keys lawful g (contents_of tree tap) start (keys.leaf_of p) tree'.hand
      (opened_at g p (keys.leaf_of p)).dummies (lawful.leaves p) shut unaltered home)

-- a take

module _ (keys : Keys) (tap tap' : TapState) (tree tree' : TreeState) (a : ℕ) (c : Counter) (found : Option Entry)
    (x : LeftByTake keys tap tap' tree tree' a c found) where
  is_found : IsFound keys tap.log tap'.log tree.hand a c found
  is_found = record { found_is = sym x.taken; right = x.right; adds = x.noted }

  after_take : contents_of tree' tap' ≡ record (contents_of tree tap) { hand = without tree.hand (record { 0 = a }) }
  after_take = same_contents x.hand x.mirror x.seed

  pub take_keeps_always : Always keys tap.log (contents_of tree tap) → Always keys tap'.log (contents_of tree' tap')
  take_keeps_always w = subst (λ c. Always keys tap'.log c) (sym after_take)
      (take_always keys tap.log tap'.log (contents_of tree tap) a c found is_found w)

pub take_keeps_sound : (keys : Keys) → AreKeys keys → (tap tap' : TapState) (tree tree' : TreeState) (g : Ghost)
    (a : ℕ) (c : Counter) (found : Option Entry) → LeftByTake keys tap tap' tree tree' a (g.count a) found
    → g.path ≡ Some (keys.leaf_of (real a (g.count a))) → g.pend ≡ Some a → LastDrawn tap.log.events a (g.count a)
    → MayRise keys g a c → Always keys tap.log (contents_of tree tap) → Sound keys tap.log g (contents_of tree tap)
    → Forgery keys tap'.log
    ⊎ (Sound keys tap'.log (taken g a c) (contents_of tree' tap') × (line_found found ≡ line_at keys.shape g a))
take_keeps_sound keys lawful tap tap' tree tree' g a c found x opened next drawn rises w s =
    subst (λ d. Forgery keys tap'.log ⊎ (Sound keys tap'.log (taken g a c) d
    × (line_found found ≡ line_at keys.shape g a))) (sym (after_take keys tap tap' tree tree' a (g.count a) found x))
    (take_keeps keys lawful tap.log tap'.log g (contents_of tree tap) a c found opened next drawn rises
    (is_found keys tap tap' tree tree' a (g.count a) found x) w s)

pub take_keeps_home : (keys : Keys) (tap tap' : TapState) (tree tree' : TreeState) (g : Ghost) (a : ℕ) (c : Counter)
    (found : Option Entry) → LeftByTake keys tap tap' tree tree' a (g.count a) found → g.flight ≡ None
    → MayRise keys g a c → Home keys g (contents_of tree tap) → Home keys (taken g a c) (contents_of tree' tap')
take_keeps_home keys tap tap' tree tree' g a c found x grounded rises home =
    subst (λ d. Home keys (taken g a c) d) (sym (after_take keys tap tap' tree tree' a (g.count a) found x))
    (home_take keys g (contents_of tree tap) a c found grounded rises.up (sym x.taken) x.right home)

-- a put

module _ (keys : Keys) (tap tap' : TapState) (tree tree' : TreeState) (a : ℕ) (c : Counter) (l : List ℕ)
    (x : LeftByPut keys tap tap' tree tree' a c l) where
  is_put : IsPut keys tap.log tap'.log (contents_of tree tap) (contents_of tree' tap') a c l
  is_put = put_is keys tap tap' tree tree' a c l x.hand x.seed x.mirror x.noted

pub put_keeps_always : (keys : Keys) → AreKeys keys → (tap tap' : TapState) (tree tree' : TreeState) (a : ℕ)
    (c : Counter) (l : List ℕ) → LeftByPut keys tap tap' tree tree' a c l → a < keys.shape.total → length l ≡ 64
    → Always keys tap.log (contents_of tree tap) → Always keys tap'.log (contents_of tree' tap')
put_keeps_always keys lawful tap tap' tree tree' a c l x inside whole w =
    put_always keys lawful tap.log tap'.log (contents_of tree tap) (contents_of tree' tap') a c l inside whole
    (λ e h is. held-none tree.hand (record { 0 = a }) e x.free h is) (is_put keys tap tap' tree tree' a c l x) w

pub put_keeps_sound : (keys : Keys) (tap tap' : TapState) (tree tree' : TreeState) (g : Ghost) (a : ℕ) (l : List ℕ)
    → LeftByPut keys tap tap' tree tree' a (g.count a) l → g.flight ≡ Some a → (Has a g.held → ⊥)
    → l ≡ line_at keys.shape (stored g a l) a → Sound keys tap.log g (contents_of tree tap)
    → Sound keys tap'.log (landed (stored g a l)) (contents_of tree' tap')
put_keeps_sound keys tap tap' tree tree' g a l x flying unheld is s =
    put_back_sound keys tap.log tap'.log g (contents_of tree tap) (contents_of tree' tap') a l flying unheld is
    (is_put keys tap tap' tree tree' a (g.count a) l x) s

pub put_keeps_home : (keys : Keys) (tap tap' : TapState) (tree tree' : TreeState) (g : Ghost) (a : ℕ) (l : List ℕ)
    → LeftByPut keys tap tap' tree tree' a (g.count a) l → g.flight ≡ Some a → Home keys g (contents_of tree tap)
    → Home keys (landed (stored g a l)) (contents_of tree' tap')
put_keeps_home keys tap tap' tree tree' g a l x flying home =
    subst (λ d. Home keys (landed (stored g a l)) d)
    (sym (is_put keys tap tap' tree tree' a (g.count a) l x).after_is)
    (home_put keys (stored g a l) (contents_of tree tap) a _ refl flying home)

-- a put that was refused

pub put_cut_keeps_always : (keys : Keys) (tap tap' : TapState) (tree tree' : TreeState) (a : ℕ) (c : Counter)
    (l : List ℕ) → LeftByPutCut keys tap tap' tree tree' a c l → Always keys tap.log (contents_of tree tap)
    → Always keys tap'.log (contents_of tree' tap')
put_cut_keeps_always keys tap tap' tree tree' a c l x w =
    subst (λ d. Always keys tap'.log d) (sym (same_contents x.hand x.mirror x.seed))
    (refused_always keys tap.log tap'.log (contents_of tree tap) (message_of a c l) x.noted w)

pub put_cut_keeps_sound : (keys : Keys) (tap tap' : TapState) (tree tree' : TreeState) (g : Ghost) (a : ℕ) (l : List ℕ)
    → LeftByPutCut keys tap tap' tree tree' a (g.count a) l → g.flight ≡ Some a → (Has a g.held → ⊥)
    → l ≡ line_at keys.shape g a → Sound keys tap.log g (contents_of tree tap)
    → Sound keys tap'.log (landed g) (contents_of tree' tap')
put_cut_keeps_sound keys tap tap' tree tree' g a l x flying unheld is s =
    subst (λ d. Sound keys tap'.log (landed g) d) (sym (same_contents x.hand x.mirror x.seed))
    (refused_sound keys tap.log tap'.log g (contents_of tree tap) a l flying unheld is x.noted s)

-- a write

module _ (keys : Keys) (lawful : AreKeys keys) (tap tap' : TapState) (tree tree' : TreeState) (leaf : ℕ)
    (x : LeftByWrite keys tap tap' tree tree' leaf) (within : leaf < 2 ^ keys.shape.levels)
    (room : tree.seed < 2 ^ 63) (w : Always keys tap.log (contents_of tree tap)) where
  after_is : contents_of tree' tap' ≡ after_write keys.pads keys.shape.levels leaf (contents_of tree tap)
  after_is = write_is keys tap tap' tree tree' leaf x.shape x.pads x.hand x.mirror x.seed

  pub write_keeps_always : Always keys tap'.log (contents_of tree' tap')
  write_keeps_always = subst (λ c. Always keys tap'.log c) (sym after_is)
      (always_ends keys tap.log tap'.log _ (ended x.silent)
      (write_always keys lawful tap.log (contents_of tree tap) leaf within room w))

  pub write_keeps_sound : (g : Ghost) → g.path ≡ Some leaf → Sound keys tap.log g (contents_of tree tap)
      → Sound keys tap'.log (closed g) (contents_of tree' tap')
  write_keeps_sound g opened s = subst (λ c. Sound keys tap'.log (closed g) c) (sym after_is)
      (sound_ends keys tap.log tap'.log (closed g) _ (ended x.silent)
      (write_sound keys lawful tap.log (contents_of tree tap) leaf within room w g opened s))

  pub write_keeps_home : (g : Ghost) → g.path ≡ Some leaf → Home keys g (contents_of tree tap)
      → Home keys (closed g) (contents_of tree' tap')
  write_keeps_home g opened home = subst (λ c. Home keys (closed g) c) (sym after_is)
      (home_write keys lawful g (contents_of tree tap) leaf within opened w.of_shape w.mirrored w.seeds room home)
