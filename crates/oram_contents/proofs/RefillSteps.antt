-- A refill's slot: a block is taken and nothing is put back, so it is in flight from then on.
use Rattle.std.proofs.Common.{◌≡◌, ◌⊎◌, inl, inr, ℕ, [], ◌∷◌, ◌++◌, Option, None, Some, refl, sym, ◌∙◌, subst}
use Rattle.std.proofs.Common.{append_assoc, append-nil}
use Rattle.asc_base.specs.declared.block.Counter.{Counter}
use Rattle.asc_base.specs.declared.block.Entry.{Entry}
use Rattle.bus_watch.specs.Log.{LogLists}
use Rattle.bus_watch.specs.declared.log.Event.TheVariants.{Drawn, Access}
use Rattle.oram_contents.specs.Contents.{Contents}
use Rattle.oram_contents.specs.Entries.{Keys, AreKeys, real}
use Rattle.oram_contents.specs.Counts.{Ghost, line_at}
use Rattle.oram_contents.specs.Provenance.{Sound, Always}
use Rattle.oram_stash.specs.Entries.{without}
use Rattle.oram_contents.specs.Verdict.{line_found}
use Rattle.oram_contents.specs.Forgery.{Forgery, LastDrawn}
use Rattle.oram_contents.specs.Steps.{opened_at, taken, accepted}
use Rattle.oram_contents.specs.Slots.{drawn_events, IsRead, IsFound, MayRise, HasSeeds, IsRefill, refilled}
use Rattle.oram_contents.proofs.ReadSteps.{read_sound, read_always}
use Rattle.oram_contents.proofs.TakeSteps.{take_sound, take_line, take_always}
use Rattle.oram_contents.proofs.WriteSteps.{write_sound, write_always}

module _ (keys : Keys) (lawful : AreKeys keys) where
  -- the log of a refill after its path is read
  abbrev pub refill_log : LogLists → LogLists → ℕ → ℕ → Counter → Option ℕ → LogLists
  refill_log old new start a c asked = record {
    moves = new.moves;
    events = old.events ++ drawn_events keys start asked
        (real a c);
    altered = new.altered;
  }

  -- a refill: the block is in flight from then on
  module _ (old new : LogLists) (g : Ghost) (now after : Contents) (start a : ℕ) (c : Counter) (found : Option Entry)
      (x : IsRefill keys old new now after start a (g.count a) found) where
    abbrev log1 : LogLists
    log1 = refill_log old new start a (g.count a) x.asked

    pub refill_read : IsRead keys old log1 now start (real a (g.count a)) x.joined
    refill_read = record {
      asked = x.asked;
      altered = x.altered;
      adds = record
          { events_are = refl; altered_are = x.altered_are };
      noted = x.noted;
      read = x.read;
      of_shape = x.of_shape;
    }

    pub refill_found : IsFound keys log1 new x.joined a (g.count a) found
    refill_found = record {
      found_is = x.found_is;
      right = x.right;
      adds = record {
        events_are = x.events_are ∙ sym (append_assoc old.events
            (drawn_events keys start x.asked (real a (g.count a))) (accepted a (g.count a) found));
        altered_are = sym
            (append-nil new.altered);
      };
    }

    drawn_last : LastDrawn (old.events ++ drawn_events keys start x.asked (real a (g.count a))) a (g.count a)
    drawn_last = (
      old.events ++ Access start x.asked ∷ [],
      [],
      record { 0 = keys.leaf_of (real a (g.count a)) },
      sym (append_assoc old.events (Access start x.asked ∷ [])
          (Drawn (real a (g.count a)) (record { 0 = keys.leaf_of (real a (g.count a)) }) ∷ [])),
      λ p y h. h,
    )

    pub refill_always : HasSeeds now → Always keys old now → Always keys new after
    refill_always room w =
        let w1 = read_always keys old log1 g now start (real a (g.count a)) x.joined refill_read w in
        let w2 = take_always keys log1 new (record now { hand = x.joined }) a (g.count a) found refill_found w1 in
        subst (λ y. Always keys new y) (sym x.after_is)
        (write_always keys lawful new (record now { hand = without x.joined (record { 0 = a }) })
        (keys.leaf_of (real a (g.count a))) (lawful.leaves (real a (g.count a))) room w2)

    pub refill_sound : g.path ≡ None → g.pend ≡ Some a → MayRise keys g a c → HasSeeds now → Always keys old now
        → Sound keys old g now
        → Forgery keys new ⊎ (Sound keys new (refilled g a c) after × (line_found found ≡ line_at keys.shape g a))
    refill_sound shut next rises room w s =
        let g1 = opened_at g (real a (g.count a)) (keys.leaf_of (real a (g.count a))) in
        let rises1 : MayRise keys g1 a c = record { inside = rises.inside; up = rises.up; parent = rises.parent } in
        let at_hand : Contents = record now { hand = x.joined } in
        let left : Contents = record now { hand = without x.joined (record { 0 = a }) } in
        let w1 = read_always keys old log1 g now start (real a (g.count a)) x.joined refill_read w in
        let s1 = read_sound keys old log1 g now start (real a (g.count a)) x.joined refill_read shut (next, refl) s in
        let w2 = take_always keys log1 new at_hand a (g.count a) found refill_found w1 in
        let s2 = take_sound keys lawful log1 new g1 at_hand a c found refl next drawn_last rises1 refill_found w1 s1 in
        let line = take_line keys lawful log1 new g1 at_hand a c found refl next drawn_last rises1 refill_found w1 s1 in
        let s3 = write_sound keys lawful new left (keys.leaf_of (real a (g.count a)))
        (lawful.leaves (real a (g.count a))) room w2 (taken g1 a c) refl s2 in
        elim line [
          | inl f ↦ inl f
          | inr same ↦ inr (subst (λ y. Sound keys new (refilled g a c) y) (sym x.after_is) s3, same)
        ]
