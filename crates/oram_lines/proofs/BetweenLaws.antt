-- What is known over the steps between two slots: an append, an answer, and a block that comes to be held.
use Rattle.std.proofs.Common.{◌≡◌, ◌≤◌, inl, inr, ℕ, List, [], ◌∷◌, Option, None, Some, length}
use Rattle.std.proofs.Common.{count_by, refl, sym, ap, ◌∙◌, subst, arith, append-nil}
use Rattle.asc_base.proofs.Lookups.{count_by-cons}
use Rattle.asc_base.specs.Has.{Has}
use Rattle.asc_base.specs.declared.block.Address.{Address}
use Rattle.asc_base.specs.declared.block.Entry.{Entry}
use Rattle.asc_base.specs.declared.block.Line.{Line}
use Rattle.asc_base.specs.declared.block.Message.{Message}
use Rattle.asc_base.specs.declared.stop.Evidence.TheVariants.{Doubled}
use Rattle.asc_base.specs.declared.stop.Stop.{Stop}
use Rattle.asc_base.specs.declared.stop.Stop.TheVariants.{Integrity}
use Rattle.bus_watch.specs.declared.log.Event.TheVariants.{Tagged, Answered}
use Rattle.oram_contents.specs.Contents.{Contents}
use Rattle.oram_contents.specs.Counts.{Ghost, line_at}
use Rattle.oram_contents.specs.Decided.{draws}
use Rattle.oram_contents.specs.Entries.{Keys, AreKeys}
use Rattle.oram_contents.specs.Provenance.{Sound, Always}
use Rattle.oram_contents.specs.Slots.{IsPut}
use Rattle.oram_contents.specs.Steps.{Adds, landed, inserted}
use Rattle.oram_contents.specs.Verdict.{append_verdict}
use Rattle.oram_contents.proofs.PutSteps.{put_sound, put_always}
use Rattle.oram_contents.proofs.GrowSteps.{always_adds, sound_log, came_more}
use Rattle.oram_contents.proofs.InsertSteps.{insert_sound}
use Rattle.oram_contents.proofs.HomeSteps.{home_put, home_insert}
use Rattle.oram_contents.specs.Fold.{tagged_entry}
use Rattle.oram_contents.specs.Home.{Home, AreInForm}
use Rattle.oram_stash.proofs.Held.{held-none}
use Rattle.oram_stash.specs.Entries.{held}
use Rattle.rate_enforcer.specs.PortStep.{PortState, contents}
use Rattle.oram_frontend.specs.Slots.{IsServedAppend, IsServedAnswer, Keeps}
use Rattle.oram_lines.proofs.PointLaws.{once_silent, silent_by}
use Rattle.oram_lines.specs.Standing.{IsKnown, DrawnOnce}
use Rattle.oram_lines.proofs.KnownLaws.{count_append, line_length}

-- where nothing is wrong with an append none of its address was at hand
absent : (stash : ℕ) (address : Address) (hand : List Entry) → append_verdict stash address hand ≡ None
    → held hand address ≡ None
absent stash address hand right = by_found (held hand address) refl
  where
    by_found : (found : Option Entry) → held hand address ≡ found → held hand address ≡ None
    by_found None is = is
    by_found (Some e) is =
        let there : append_verdict stash address hand ≡ Some (Integrity (Doubled address)) = rw is refl in
        let bad : ◌≡◌ {A = Option Stop} None (Some (Integrity (Doubled address))) = sym right ∙ there in
        absurd (cc)

module _ (keys : Keys) (lawful : AreKeys keys) where
  -- the block in flight is put at hand
  pub append_known : (g : Ghost) (m : Message) (old new : PortState) (levels least : ℕ) → IsKnown keys g old
      → IsServedAppend keys m old new → Keeps keys levels least old new → g.flight ≡ Some m.address.0
      → m.counter ≡ g.count m.address.0 → m.line.0 ≡ line_at keys.shape g m.address.0
      → (Has m.address.0 g.held → ⊥) → IsKnown keys (landed g) new
  append_known g m old new levels least known x keeps flying counter line unheld = record {
    fits = keeps.fits;
    sound = put_sound keys old.tap.log new.tap.log g (contents old) (contents new) m.address.0 m.line.0 flying unheld
        line put known.sound;
    always = put_always keys lawful old.tap.log new.tap.log (contents old) (contents new) m.address.0
        (g.count m.address.0) m.line.0 (known.sound.away m.address.0 (inr flying)).0
        (ap length line ∙ line_length keys lawful g m.address.0 (known.bytes m.address.0))
        (λ e h is. held-none old.tree.hand m.address e
        (absent old.tree.stash m.address old.tree.hand x.right) h is) put known.always;
    closed = known.closed;
    dummies = ap (λ c. c.dummies) x.clock ∙ known.dummies;
    drawn =
        let is = ap (count_by draws) x.events in
        let both = count_append old.tap.log.events (Tagged m ∷ []) in
        let none = count_by-cons draws (Tagged m) [] in
        omega (arith, is, both, none, known.drawn, ap (λ c. c.dummies) x.clock, ap (λ c. c.real) x.clock);
    points = subst DrawnOnce (sym x.events) (once_silent old.tap.log.events (Tagged m ∷ []) known.points
        (silent_by (Tagged m ∷ []) (count_by-cons draws (Tagged m) [])));
    forms = subst (λ (c : Contents). AreInForm keys c.mirror) (sym x.contents_are) known.forms;
    home = λ none. subst (λ c. Home keys (landed g) c) (sym x.contents_are)
        (home_put keys g (contents old) m.address.0 (tagged_entry keys m) refl flying
        (known.home (sym x.altered ∙ none)));
    bytes = known.bytes;
  }
    where
      put : IsPut keys old.tap.log new.tap.log (contents old) (contents new) m.address.0 (g.count m.address.0) m.line.0
      put = subst (λ c. IsPut keys old.tap.log new.tap.log (contents old) (contents new) m.address.0 c m.line.0) counter
          (record {
            adds = record {
              events_are = x.events;
              altered_are = x.altered ∙ sym (append-nil old.tap.log.altered);
            };
            after_is = x.contents_are;
          })

  -- a line is answered
  pub answer_known : (g : Ghost) (line : ℕ) (value : Line) (old new : PortState) (levels least : ℕ)
      → IsKnown keys g old → IsServedAnswer line value old new → Keeps keys levels least old new → IsKnown keys g new
  answer_known g line value old new levels least known x keeps = record {
    fits = keeps.fits;
    sound = subst (λ c. Sound keys new.tap.log g c) (sym x.contents_are)
        (sound_log keys old.tap.log new.tap.log (Answered line value ∷ []) [] g (contents old) adds
        (λ m h. elim h [ inl is ↦ absurd (cc) | inr n ↦ n ])
        (λ a c p h. elim h [ inl is ↦ absurd (cc) | inr n ↦ absurd n ])
        (λ n p h. elim h [ inl is ↦ absurd (cc) | inr n ↦ absurd n ]) known.sound);
    always = subst (λ c. Always keys new.tap.log c) (sym x.contents_are)
        (always_adds keys old.tap.log new.tap.log (Answered line value ∷ []) (contents old) old.tree.hand adds
        known.always.apart known.always.of_shape
        (λ e h. came_more keys old.tap.log new.tap.log (Answered line value ∷ []) [] e adds
        (known.always.hand_came e h)) known.always);
    closed = known.closed;
    dummies = ap (λ c. c.dummies) x.clock ∙ known.dummies;
    drawn =
        let is = ap (count_by draws) x.events in
        let both = count_append old.tap.log.events (Answered line value ∷ []) in
        let none = count_by-cons draws (Answered line value) [] in
        omega (arith, is, both, none, known.drawn, ap (λ c. c.dummies) x.clock, ap (λ c. c.real) x.clock);
    points = subst DrawnOnce (sym x.events) (once_silent old.tap.log.events (Answered line value ∷ []) known.points
        (silent_by (Answered line value ∷ []) (count_by-cons draws (Answered line value) [])));
    forms = subst (λ (c : Contents). AreInForm keys c.mirror) (sym x.contents_are) known.forms;
    home = λ none. subst (λ c. Home keys g c) (sym x.contents_are) (known.home (sym x.altered ∙ none));
    bytes = known.bytes;
  }
    where
      adds : Adds old.tap.log new.tap.log (Answered line value ∷ []) []
      adds = record { events_are = x.events; altered_are = x.altered ∙ sym (append-nil old.tap.log.altered) }

  -- the block in flight is held from now on
  pub insert_known : (g : Ghost) (s : PortState) (plb a : ℕ) → IsKnown keys g s → g.flight ≡ Some a
      → length g.held ≤ plb → IsKnown keys (inserted g plb a) s
  insert_known g s plb a known flying few = record {
    fits = known.fits;
    sound = insert_sound keys lawful s.tap.log g (contents s) plb a flying known.sound;
    always = known.always;
    closed = known.closed;
    dummies = known.dummies;
    drawn = known.drawn;
    points = known.points;
    forms = known.forms;
    home = λ none. home_insert keys g (contents s) plb a flying few (known.home none);
    bytes = known.bytes;
  }

  -- another ghost record that says the same of what is known
  pub known_as : (g h : Ghost) (s : PortState) → g ≡ h → IsKnown keys g s → IsKnown keys h s
  known_as g h s is known = subst (λ (x : Ghost). IsKnown keys x s) is known
