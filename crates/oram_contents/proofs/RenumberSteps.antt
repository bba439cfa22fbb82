-- A held block is renumbered.
use Rattle.std.proofs.Common.{◌≡◌, ℕ, Some, ap}
use Rattle.asc_base.specs.TreeShape.{parent_of}
use Rattle.asc_base.specs.declared.block.Counter.{Counter}
use Rattle.asc_base.specs.declared.block.Entry.{Entry}
use Rattle.bus_watch.specs.Log.{LogLists}
use Rattle.posmap_counters.specs.Counters.{IsBefore}
use Rattle.oram_contents.specs.Contents.{Contents}
use Rattle.oram_contents.specs.Entries.{Keys, AreKeys}
use Rattle.oram_contents.specs.Counts.{Ghost, IsAway}
use Rattle.oram_contents.specs.Provenance.{Genuine, Sound}
use Rattle.oram_contents.specs.Steps.{raised}
use Rattle.oram_contents.proofs.TakeSteps.{sound_raised}

module _ (keys : Keys) (lawful : AreKeys keys) where
  pub renumber_sound : (log : LogLists) (g : Ghost) (now : Contents) (a : ℕ) (c : Counter) → IsAway g a
      → IsBefore (g.count a) c
      → ((p : ℕ) → parent_of keys.shape.lines keys.shape.layers a ≡ Some p → IsAway g p) → Sound keys log g now
      → Sound keys log (raised g a c g.pend) now
  renumber_sound log g now a c away up parent s = sound_raised keys lawful log g now a c g.pend up parent
      (λ b other is. is) (λ e h is k. stale e is k) (λ b e off h is k. stale e is k) s
    where
      stale : (e : Entry) → e.address.0 ≡ a → Genuine keys log g.count e → ⊥
      stale e is k = (s.away a away).2 _ k.tagged is (ap g.count is)
