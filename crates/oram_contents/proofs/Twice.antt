-- A data line whose parent is on top is stored, dummies pass, and it is accessed again: what is found is what was
-- stored.
use Rattle.std.proofs.Common.{◌≡◌, ◌<◌, ◌+◌, ◌⊎◌, inl, inr, ℕ, zero, suc, List, [], ◌∷◌, ◌++◌, length, Option}
use Rattle.std.proofs.Common.{None, Some, refl, sym, ◌∙◌, ap, subst}
use Rattle.asc_base.specs.TreeShape.{parent_of, children_of}
use Rattle.asc_base.specs.declared.block.Counter.{Counter}
use Rattle.asc_base.specs.declared.block.Entry.{Entry}
use Rattle.asc_base.specs.declared.block.Point.TheVariants.{Dummy}
use Rattle.bus_watch.specs.Log.{LogLists}
use Rattle.bus_watch.specs.declared.log.Event.TheVariants.{Tagged}
use Rattle.posmap_counters.specs.Counters.{IsBefore}
use Rattle.oram_contents.specs.Contents.{Contents}
use Rattle.oram_contents.specs.Entries.{Keys, AreKeys, real, message_of}
use Rattle.asc_base.specs.Has.{Has}
use Rattle.oram_contents.specs.Counts.{Ghost, line_at, line_by, put_at}
use Rattle.oram_contents.specs.Verdict.{line_found}
use Rattle.oram_contents.specs.Forgery.{Forgery}
use Rattle.oram_contents.specs.Provenance.{Sound, Always}
use Rattle.oram_contents.specs.Steps.{accepted}
use Rattle.oram_contents.specs.Slots.{drawn_events, HasSeeds, IsAccess, ArePasses, IsBetween, done}
use Rattle.oram_contents.specs.Slots.{passed_by}
use Rattle.oram_contents.proofs.Lines.{put_same}
use Rattle.oram_contents.proofs.GrowSteps.{forgery_more}
use Rattle.oram_contents.proofs.DummySteps.{passes_keep, passed_path}
use Rattle.oram_contents.proofs.InsertSteps.{pend_sound}
use Rattle.oram_contents.proofs.Final.{final_sound, final_always}
use Rattle.oram_contents.proofs.Ends.{forgery_ends}

-- dummies change nothing but their number and the open path
passed_count : (k : ℕ) (g : Ghost) → (passed_by k g).count ≡ g.count
passed_count zero g = refl
passed_count (suc k) g = passed_count k g

passed_data : (k : ℕ) (g : Ghost) → (passed_by k g).data_lines ≡ g.data_lines
passed_data zero g = refl
passed_data (suc k) g = passed_data k g

passed_held : (k : ℕ) (g : Ghost) → (passed_by k g).held ≡ g.held
passed_held zero g = refl
passed_held (suc k) g = passed_held k g

passed_flight : (k : ℕ) (g : Ghost) → (passed_by k g).flight ≡ g.flight
passed_flight zero g = refl
passed_flight (suc k) g = passed_flight k g

passed_pend : (k : ℕ) (g : Ghost) → (passed_by k g).pend ≡ g.pend
passed_pend zero g = refl
passed_pend (suc k) g = passed_pend k g

-- the block's slot comes next again
abbrev waiting : Ghost → ℕ → Counter → List ℕ → Ghost
waiting g a c l = record (done g a c l) { pend = Some a }

module _ (keys : Keys) where
  -- forgeries stay
  access_more : (old new : LogLists) (now after : Contents) (start a : ℕ) (c d : Counter) (found : Option Entry)
      (l : List ℕ) → IsAccess keys old new now after start a c d found l → Forgery keys old → Forgery keys new
  access_more old new now after start a c d found l x f = forgery_more keys old new
      (drawn_events keys start x.asked (real a c) ++ (accepted a c found ++ Tagged (message_of a d l) ∷ [])) x.altered
      (record { events_are = x.events_are; altered_are = x.altered_are }) f

  passes_more : (k : ℕ) (old new : LogLists) (now after : Contents) (n : ℕ) → ArePasses keys k old new now after n
      → Forgery keys old → Forgery keys new
  passes_more zero old new now after n are f = subst (λ l. Forgery keys l) (sym are.0) f
  passes_more (suc k) old new now after n are f =
      let x = are.5 in
      forgery_ends keys x.mid new x.ends (forgery_more keys are.0 x.mid
      (drawn_events keys are.2 x.pass.asked (Dummy (n + k))) x.pass.altered
      (record { events_are = x.pass.events_are; altered_are = x.pass.altered_are })
      (passes_more k old are.0 now are.1 n are.3 f))

  stored_line : (g : Ghost) (a : ℕ) (c : Counter) (l : List ℕ)
      → children_of keys.shape.lines keys.shape.layers a ≡ None → l ≡ line_at keys.shape (done g a c l) a
  stored_line g a c l none = sym (ap (line_by (put_at g.count a c) (put_at g.data_lines a l a)) none
      ∙ put_same g.data_lines a l)

  pub stored_is_found : (lawful : AreKeys keys) (l0 l1 l2 l3 : LogLists) (g : Ghost) (n0 n1 n2 n3 : Contents)
      (s1 s2 a k : ℕ) (c1 c2 : Counter) (found1 found2 : Option Entry) (v1 v2 : List ℕ)
      → IsAccess keys l0 l1 n0 n1 s1 a (g.count a) c1 found1 v1 → ArePasses keys k l1 l2 n1 n2 g.dummies
      → IsAccess keys l2 l3 n2 n3 s2 a c1 c2 found2 v2
      → children_of keys.shape.lines keys.shape.layers a ≡ None → parent_of keys.shape.lines keys.shape.layers a ≡ None
      → a < keys.shape.total
      → IsBefore (g.count a) c1 → IsBefore c1 c2 → (Has a g.held → ⊥) → length v1 ≡ 64 → length v2 ≡ 64 → HasSeeds n0
      → HasSeeds n2
      → IsBetween g → g.pend ≡ Some a → Always keys l0 n0 → Sound keys l0 g n0
      → Forgery keys l3 ⊎ (line_found found2 ≡ v1)
  stored_is_found lawful l0 l1 l2 l3 g n0 n1 n2 n3 s1 s2 a k c1 c2 found1 found2 v1 v2 x1 ps x2 leafy top inside up1
      up2 unheld whole1 whole2 room0 room2 between next w s =
      elim (final_sound keys lawful l0 l1 g n0 n1 s1 a c1 found1 v1 x1 between next
      (record { inside = inside; up = up1; parent = no_parent g }) unheld
      (stored_line g a c1 v1 leafy) whole1 room0 w s) [
        | inl f ↦ inl (access_more l2 l3 n2 n3 s2 a c1 c2 found2 v2 x2 (passes_more k l1 l2 n1 n2 g.dummies ps f))
        | inr first ↦ again first.0
      ]
    where
      no_parent : (h : Ghost) (p : ℕ) → parent_of keys.shape.lines keys.shape.layers a ≡ Some p
          → Has p h.held ⊎ (h.flight ≡ Some p)
      no_parent h p is = absurd (let bad : None ≡ Some p = sym top ∙ is in cc)

      again : Sound keys l1 (done g a c1 v1) n1 → Forgery keys l3 ⊎ (line_found found2 ≡ v1)
      again s1_sound =
          let w1 = final_always keys lawful l0 l1 g n0 n1 s1 a c1 found1 v1 x1 inside whole1 room0 w in
          let kept = passes_keep keys lawful k l1 l2 (waiting g a c1 v1) n1 n2 g.dummies ps refl refl w1
          (pend_sound keys lawful l1 (done g a c1 v1) n1 a refl s1_sound) in
          let g2 = passed_by k (waiting g a c1 v1) in
          let counted : g2.count a ≡ c1 = ap (λ f. f a) (passed_count k (waiting g a c1 v1)) ∙ put_same g.count a c1 in
          let kept_line : g2.data_lines a ≡ v1 = ap (λ f. f a) (passed_data k (waiting g a c1 v1))
          ∙ put_same g.data_lines a v1 in
          let x2_at : IsAccess keys l2 l3 n2 n3 s2 a (g2.count a) c2 found2 v2 = subst
          (λ c. IsAccess keys l2 l3 n2 n3 s2 a c c2 found2 v2) (sym counted) x2 in
          elim (final_sound keys lawful l2 l3 g2 n2 n3 s2 a c2 found2 v2 x2_at
          (record {
            path = passed_path keys lawful k (waiting g a c1 v1) refl;
            flight = passed_flight k
                (waiting g a c1 v1);
          }) (passed_pend k (waiting g a c1 v1))
          (record { inside = inside; up = subst (λ c. IsBefore c c2) (sym counted) up2; parent = no_parent g2 })
          (λ h. unheld (subst (λ l. Has a l) (passed_held k (waiting g a c1 v1)) h))
          (stored_line g2 a c2 v2 leafy) whole2 room2 kept.0 kept.1) [
            | inl f ↦ inl f
            | inr same ↦ inr (same.1 ∙ ap (line_by g2.count (g2.data_lines a)) leafy ∙ kept_line)
          ]
