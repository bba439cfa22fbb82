-- An answered line changes neither contents nor what is known of them.
use Rattle.std.proofs.Common.{[], ◌∷◌, inl, inr, ℕ}
use Rattle.asc_base.specs.declared.block.Line.{Line}
use Rattle.bus_watch.specs.Log.{LogLists}
use Rattle.bus_watch.specs.declared.log.Event.TheVariants.{Answered}
use Rattle.oram_contents.specs.Contents.{Contents}
use Rattle.oram_contents.specs.Counts.{Ghost}
use Rattle.oram_contents.specs.Entries.{Keys}
use Rattle.oram_contents.specs.Provenance.{Sound, Always}
use Rattle.oram_contents.specs.Steps.{Adds}
use Rattle.oram_contents.proofs.GrowSteps.{always_adds, sound_log, came_more}

module _ (keys : Keys) (old new : LogLists) (now : Contents) (line : ℕ) (value : Line)
    (adds : Adds old new (Answered line value ∷ []) []) where
  pub answered_sound : (g : Ghost) → Sound keys old g now → Sound keys new g now
  answered_sound g s =
      sound_log keys old new (Answered line value ∷ []) [] g now adds
      (λ m h. elim h [ inl is ↦ absurd (cc) | inr n ↦ n ])
      (λ a c p h. elim h [ inl is ↦ absurd (cc) | inr n ↦ absurd n ])
      (λ n p h. elim h [ inl is ↦ absurd (cc) | inr n ↦ absurd n ]) s

  pub answered_always : Always keys old now → Always keys new now
  answered_always w =
      always_adds keys old new (Answered line value ∷ []) now now.hand adds w.apart w.of_shape
      (λ e h. came_more keys old new (Answered line value ∷ []) [] e adds (w.hand_came e h)) w
