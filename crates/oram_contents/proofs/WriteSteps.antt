-- The open path is written.
use Rattle.std.proofs.Common.{◌≡◌, ◌<◌, ◌⊎◌, inl, inr, ℕ, None, Some, sym, ◌∙◌, subst, arith, ◌+◌, ◌^◌}
use Rattle.asc_base.specs.declared.block.Entry.{Entry}
use Rattle.bus_watch.specs.Log.{LogLists}
use Rattle.oram_contents.specs.Contents.{Contents, after_write}
use Rattle.oram_contents.specs.Entries.{Keys, AreKeys, entries_at, OnPath}
use Rattle.asc_base.specs.Has.{Has}
use Rattle.oram_contents.specs.Counts.{Ghost}
use Rattle.oram_contents.specs.Provenance.{OffOpen, Sound, Always}
use Rattle.bucket_codec.specs.Bucket.{opened}
use Rattle.bucket_codec.specs.Slot.{IsEntry, IsInRange}
use Rattle.oram_contents.specs.PathWritten.{places_of}
use Rattle.oram_contents.specs.Steps.{closed}
use Rattle.oram_contents.specs.Slots.{HasSeeds}
use Rattle.oram_stash.proofs.Apart.{AreApart-where_placed}
use Rattle.path_evict.proofs.Placed.{where_placed-has, All-where_placed}
use Rattle.oram_contents.proofs.ContentsLaws.{sealed-length}
use Rattle.oram_contents.proofs.Placing.{written_from}

module _ (keys : Keys) where
  -- The path is written: in its buckets stand entries that were at hand, and the other buckets stay.
  pub sound_write : (log : LogLists) (g : Ghost) (now new : Contents) (leaf : ℕ) → g.path ≡ Some leaf
      → ((b : ℕ) (e : Entry) → Has e (entries_at keys new.mirror b)
      → (Has e (entries_at keys now.mirror b) × (OnPath keys.shape.levels leaf b → ⊥)) ⊎ Has e now.hand)
      → ((e : Entry) → Has e new.hand → Has e now.hand)
      → Sound keys log g now → Sound keys log (record g { path = None }) new
  sound_write log g now new leaf opened placed less s = record {
    fresh = s.fresh;
    last = s.last;
    once = s.once;
    blank = s.blank;
    drawn = s.drawn;
    dummies = s.dummies;
    away = s.away;
    at_hand = λ e h. s.at_hand e (less e h);
    in_tree = λ b e off h. elim (placed b e h) [
      | inl kept ↦ s.in_tree b e (subst (λ p. OffOpen keys.shape.levels p b) (sym opened) kept.1) kept.0
      | inr from ↦ s.at_hand e from
    ];
  }

  -- the open path is written
  module _ (lawful : AreKeys keys) (log : LogLists) (now : Contents) (leaf : ℕ) (within : leaf < 2 ^ keys.shape.levels)
      (room : HasSeeds now) (w : Always keys log now) where
    pub write_sound : (g : Ghost) → g.path ≡ Some leaf → Sound keys log g now
        → Sound keys log (closed g) (after_write keys.pads keys.shape.levels leaf now)
    write_sound g opened s = sound_write log g now (after_write keys.pads keys.shape.levels leaf now) leaf opened
        (λ b e h. elim (written_from keys lawful leaf now b e within w.of_shape w.mirrored w.seeds room h)
        [ inl kept ↦ inl kept | inr from ↦ inr from.0 ])
        (λ e h. where_placed-has _ (places_of keys.shape.levels leaf now.hand) now.hand e h) s

    pub write_always : Always keys log (after_write keys.pads keys.shape.levels leaf now)
    write_always = record {
      placed = λ b e h. elim (written_from keys lawful leaf now b e within w.of_shape w.mirrored w.seeds room h)
          [ inl kept ↦ w.placed b e kept.0 | inr from ↦ from.1 ];
      apart = AreApart-where_placed _ (places_of keys.shape.levels leaf now.hand) now.hand w.apart;
      of_shape = All-where_placed (λ (e : Entry). IsEntry e × IsInRange keys.shape (Some e)) _
          (places_of keys.shape.levels leaf now.hand) now.hand w.of_shape;
      hand_came = λ e h. w.hand_came e (where_placed-has _ (places_of keys.shape.levels leaf now.hand) now.hand e h);
      tree_came = λ b e h. elim (written_from keys lawful leaf now b e within w.of_shape w.mirrored w.seeds room h)
          [ inl kept ↦ w.tree_came b e kept.0 | inr from ↦ w.hand_came e from.0 ];
      past = w.past;
      mirrored = sealed-length keys.pads keys.shape.levels leaf now.seed now.hand now.mirror (keys.shape.levels + 1)
          ∙ w.mirrored;
      seeds = omega (arith, w.seeds);
    }
