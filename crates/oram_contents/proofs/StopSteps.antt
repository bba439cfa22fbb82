-- A slot stops in its writes, or an append is refused.
use Rattle.std.proofs.Common.{◌≡◌, ◌<◌, inl, inr, ℕ, List, [], ◌∷◌, ◌++◌, Some, sym, ◌∙◌, ap, subst, arith, ◌≤◌, ◌+◌}
use Rattle.std.proofs.Common.{◌^◌, get_or}
use Rattle.std.proofs.lemmas.Option.{unwrap_or-slice_get}
use Rattle.std.specs.Prelude.{unwrap_or}
use Rattle.asc_base.specs.declared.block.Message.{Message}
use Rattle.bus_watch.specs.Log.{LogLists}
use Rattle.bus_watch.specs.declared.log.Event.TheVariants.{Tagged}
use Rattle.oram_contents.specs.Contents.{Contents}
use Rattle.oram_contents.specs.Entries.{Keys, AreKeys, message_of, entry_of, OnPath, entries_in}
use Rattle.asc_base.specs.Has.{Has}
use Rattle.oram_contents.specs.Counts.{Ghost, line_at}
use Rattle.oram_contents.specs.Provenance.{OffOpen, Sound, Always}
use Rattle.oram_contents.specs.Steps.{Adds, landed}
use Rattle.asc_base.proofs.Members.{has_left}
use Rattle.bucket_codec.specs.Bucket.{opened}
use Rattle.oram_contents.specs.PathWritten.{sealed}
use Rattle.oram_contents.specs.Slots.{HasSeeds}
use Rattle.oram_contents.proofs.ContentsLaws.{sealed-length, sealed-off}
use Rattle.oram_contents.proofs.Placing.{written_to}
use Rattle.oram_contents.proofs.GrowSteps.{came_more, always_adds}
use Rattle.oram_contents.proofs.TakeSteps.{sound_fewer}
use Rattle.oram_contents.proofs.PutSteps.{sound_put}

module _ (keys : Keys) where
  -- the writes of the open path stop behind so many
  pub part_sound : (log : LogLists) (g : Ghost) (now : Contents) (leaf n : ℕ) → g.path ≡ Some leaf
      → n ≤ keys.shape.levels + 1 → Sound keys log g now
      → Sound keys log g (record now {
        mirror = sealed keys.pads keys.shape.levels leaf now.seed now.hand now.mirror n;
      })
  part_sound log g now leaf n opened within s = record {
    fresh = s.fresh;
    last = s.last;
    once = s.once;
    blank = s.blank;
    drawn = s.drawn;
    dummies = s.dummies;
    away = s.away;
    at_hand = s.at_hand;
    in_tree = λ b e off h. s.in_tree b e off (subst (λ t. Has e (entries_in keys t)) (kept b off) h);
  }
    where
      kept : (b : ℕ) → OffOpen keys.shape.levels g.path b
          → get_or (sealed keys.pads keys.shape.levels leaf now.seed now.hand now.mirror n) b []
          ≡ get_or now.mirror b []
      kept b off =
          let away : OnPath keys.shape.levels leaf b → ⊥ = subst (λ p. OffOpen keys.shape.levels p b) opened off in
          sym (unwrap_or-slice_get _ b [])
          ∙ ap (λ o. unwrap_or o [])
          (sealed-off keys.pads keys.shape.levels leaf now.seed now.hand now.mirror n b
          (λ level less is. away (level, omega (arith, less, within), sym is)))
          ∙ unwrap_or-slice_get now.mirror b []

  -- the same of what holds always, however many seeds are used up
  pub part_always : AreKeys keys → (log : LogLists) (now : Contents) (leaf n used : ℕ) → leaf < 2 ^ keys.shape.levels
      → n ≤ keys.shape.levels + 1 → HasSeeds now → Always keys log now
      → Always keys log (record now {
        mirror = sealed keys.pads keys.shape.levels leaf now.seed now.hand now.mirror n;
        seed = now.seed + used;
      })
  part_always lawful log now leaf n used within few room w = record {
    placed = λ b e h. elim (written_to keys lawful leaf n now b e within few w.of_shape w.mirrored w.seeds room h)
        [ inl kept ↦ w.placed b e kept.0 | inr from ↦ from.1 ];
    apart = w.apart;
    of_shape = w.of_shape;
    hand_came = w.hand_came;
    tree_came = λ b e h. elim (written_to keys lawful leaf n now b e within few w.of_shape w.mirrored w.seeds room h)
        [ inl kept ↦ w.tree_came b e kept.0 | inr from ↦ w.hand_came e from.0 ];
    past = w.past;
    mirrored = sealed-length keys.pads keys.shape.levels leaf now.seed now.hand now.mirror n ∙ w.mirrored;
    seeds = omega (arith, w.seeds);
  }

  -- an append is refused, since its address is at hand: its message is noted, and the hand is as it was
  pub refused_sound : (old new : LogLists) (g : Ghost) (now : Contents) (a : ℕ) (l : List ℕ) → g.flight ≡ Some a
      → (Has a g.held → ⊥) → l ≡ line_at keys.shape g a → Adds old new (Tagged (message_of a (g.count a) l) ∷ []) []
      → Sound keys old g now → Sound keys new (landed g) now
  refused_sound old new g now a l flying unheld is adds s =
      sound_fewer keys new (landed g) (record now { hand = now.hand ++ entry_of keys a (g.count a) l ∷ [] }) now.hand
      (λ e h. has_left e now.hand (entry_of keys a (g.count a) l ∷ []) h)
      (sound_put keys old new g now a l flying unheld is adds s)

  pub refused_always : (old new : LogLists) (now : Contents) (m : Message) → Adds old new (Tagged m ∷ []) []
      → Always keys old now → Always keys new now
  refused_always old new now m adds s = always_adds keys old new (Tagged m ∷ []) now now.hand adds s.apart s.of_shape
      (λ e h. came_more keys old new (Tagged m ∷ []) [] e adds (s.hand_came e h)) s
