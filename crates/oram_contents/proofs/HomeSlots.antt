-- Whole slots keep Home where no reply was altered: of a block that is put back, of a refill, of a dummy.
use Rattle.std.proofs.Common.{◌≡◌, ◌<◌, ◌+◌, ℕ, zero, suc, List, [], ◌∷◌, ◌++◌, length, Option, None, Some, refl, sym}
use Rattle.std.proofs.Common.{◌∙◌, subst}
use Rattle.asc_base.specs.declared.block.Counter.{Counter}
use Rattle.asc_base.specs.declared.block.Entry.{Entry}
use Rattle.asc_base.specs.declared.block.Point.TheVariants.{Dummy}
use Rattle.bus_watch.specs.Log.{LogLists}
use Rattle.bus_watch.specs.declared.log.Altered.{Altered}
use Rattle.oram_stash.specs.Entries.{without}
use Rattle.posmap_counters.specs.Counters.{IsBefore}
use Rattle.oram_contents.specs.Contents.{Contents, IsReadTo}
use Rattle.oram_contents.specs.Entries.{Keys, AreKeys, real}
use Rattle.oram_contents.specs.Counts.{Ghost}
use Rattle.oram_contents.specs.Home.{Home}
use Rattle.oram_contents.specs.Provenance.{Always}
use Rattle.oram_contents.specs.Slots.{IsAccess, IsPass, IsRefill, ArePasses, HasSeeds, done, passed, refilled}
use Rattle.oram_contents.specs.Slots.{passed_by}
use Rattle.oram_contents.specs.Steps.{opened_at, taken}
use Rattle.oram_contents.proofs.ReadSteps.{read_always}
use Rattle.oram_contents.proofs.TakeSteps.{take_always}
use Rattle.oram_contents.proofs.DummySteps.{pass_read, pass_always, passed_path}
use Rattle.oram_contents.proofs.RefillSteps.{refill_log, refill_read, refill_found}
use Rattle.oram_contents.proofs.Ends.{always_ends}
use Rattle.oram_contents.proofs.Final.{put_hand_always}
use Rattle.oram_contents.proofs.HomeLaws.{home_read, home_write}
use Rattle.oram_contents.proofs.HomeSteps.{home_access, home_take}

-- two lists that are none together
none_left : {A : Type 0} (xs ys zs : List A) → zs ≡ xs ++ ys → zs ≡ [] → xs ≡ []
none_left [] ys zs is none = refl
none_left (x ∷ xs) ys zs is none = absurd (let bad : (x ∷ (xs ++ ys)) ≡ [] = sym is ∙ none in cc)

none_right : {A : Type 0} (xs ys zs : List A) → zs ≡ xs ++ ys → zs ≡ [] → ys ≡ []
none_right [] ys zs is none = sym is ∙ none
none_right (x ∷ xs) ys zs is none = absurd (let bad : (x ∷ (xs ++ ys)) ≡ [] = sym is ∙ none in cc)

module _ (keys : Keys) (lawful : AreKeys keys) where
  pub access_home : (old new : LogLists) (g : Ghost) (now after : Contents) (start a : ℕ) (c : Counter)
      (found : Option Entry) (l : List ℕ)
      → IsAccess keys old new now after start a (g.count a) c found l → new.altered ≡ [] → g.path ≡ None
      → g.flight ≡ None
      → a < keys.shape.total → length l ≡ 64 → IsBefore (g.count a) c → HasSeeds now → Always keys old now
      → Home keys g now
      → Home keys (done g a c l) after
  access_home old new g now after start a c found l x none shut grounded inside whole up room w home =
      home_access keys lawful old new g now after start a c found l x
      (none_right old.altered x.altered new.altered x.altered_are none) shut grounded up room
      (put_hand_always keys lawful old new g now after start a c found l x inside whole w) home

  pub pass_home : (old new : LogLists) (g : Ghost) (now after : Contents) (start n : ℕ)
      → IsPass keys old new now after start n
      → new.altered ≡ [] → g.path ≡ None → HasSeeds now → Always keys old now → Home keys g now
      → Home keys (passed g) after
  pass_home old new g now after start n x none shut room w home =
      let leaf = keys.leaf_of (Dummy n) in
      let within = lawful.leaves (Dummy n) in
      let at_hand : Contents = record now { hand = x.joined } in
      let w1 = read_always keys old new g now start (Dummy n) x.joined
      (pass_read keys lawful old new g now after start n x) w in
      let unaltered : IsReadTo keys.pads keys.shape start leaf [] now x.joined =
      subst (λ (r : List Altered). IsReadTo keys.pads keys.shape start leaf r now x.joined)
      (none_right old.altered x.altered new.altered x.altered_are none) x.read in
      let h1 = home_read keys lawful g now start leaf x.joined g.dummies within shut unaltered home in
      subst (λ y. Home keys (passed g) y) (sym x.after_is)
      (home_write keys lawful (record g { path = Some leaf; dummies = g.dummies }) at_hand leaf within refl w1.of_shape
      w1.mirrored w1.seeds room h1)

  pub refill_home : (old new : LogLists) (g : Ghost) (now after : Contents) (start a : ℕ) (c : Counter)
      (found : Option Entry)
      → IsRefill keys old new now after start a (g.count a) found → new.altered ≡ [] → g.path ≡ None → g.flight ≡ None
      → IsBefore (g.count a) c → HasSeeds now → Always keys old now → Home keys g now → Home keys (refilled g a c) after
  refill_home old new g now after start a c found x none shut grounded up room w home =
      let leaf = keys.leaf_of (real a (g.count a)) in
      let within = lawful.leaves (real a (g.count a)) in
      let at_hand : Contents = record now { hand = x.joined } in
      let left : Contents = record now { hand = without x.joined (record { 0 = a }) } in
      let log1 = refill_log keys lawful old new start a (g.count a) x.asked in
      let w1 = read_always keys old log1 g now start (real a (g.count a)) x.joined
      (refill_read keys lawful old new g now after start a c found x) w in
      let w2 = take_always keys log1 new at_hand a (g.count a) found
      (refill_found keys lawful old new g now after start a c found x) w1 in
      let unaltered : IsReadTo keys.pads keys.shape start leaf [] now x.joined =
      subst (λ (r : List Altered). IsReadTo keys.pads keys.shape start leaf r now x.joined)
      (none_right old.altered x.altered new.altered x.altered_are none) x.read in
      let g1 = opened_at g (real a (g.count a)) leaf in
      let h1 = home_read keys lawful g now start leaf x.joined g.dummies within shut unaltered home in
      let h2 = home_take keys g1 at_hand a c found grounded up x.found_is x.right h1 in
      subst (λ y. Home keys (refilled g a c) y) (sym x.after_is)
      (home_write keys lawful (taken g1 a c) left leaf within refl w2.of_shape w2.mirrored w2.seeds room h2)

  pub passes_home : (k : ℕ) (old new : LogLists) (g : Ghost) (now after : Contents) (n : ℕ)
      → ArePasses keys k old new now after n
      → new.altered ≡ [] → g.path ≡ None → Always keys old now → Home keys g now
      → Always keys new after × Home keys (passed_by k g) after
  passes_home zero old new g now after n are none shut w home = (
    subst (λ l. Always keys l after) (sym are.0) (subst (λ y. Always keys old y) (sym are.1) w),
    subst
        (λ y. Home keys g y) (sym are.1) home,
  )
  passes_home (suc k) old new g now after n are none shut w home =
      let x = are.5 in
      let mid_none : x.mid.altered ≡ [] = sym x.ends.altered ∙ none in
      let before = passes_home k old are.0 g now are.1 n are.3
      (none_left are.0.altered x.pass.altered x.mid.altered x.pass.altered_are mid_none) shut w home in (
        always_ends keys x.mid new after x.ends (pass_always keys lawful are.0 x.mid (passed_by k g) are.1 after are.2
            (n + k) x.pass are.4 before.0),
        pass_home are.0 x.mid (passed_by k g) are.1 after are.2 (n + k) x.pass mid_none
            (passed_path keys lawful k g shut) are.4 before.0 before.1,
      )
