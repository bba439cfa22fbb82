-- What one call leaves of a memory that tells the mirror's buckets.
use Rattle.std.proofs.Common.{◌≡◌, ◌≢◌, ℕ, List, Option, None, Some, refl, sym, ◌∙◌, ap, option_map, slice_set}
use Rattle.asc_outside.specs.Memory.{MemoryState, Keeps}
use Rattle.bus_watch.specs.Honest.{TellsMirror, MayTellMirror, StaysHonest}
use Rattle.bus_watch.specs.Log.{TapState}
use Rattle.bus_watch.specs.RunEnd.{RunEnd, Whole, MoveFailed, RanOut}

pub whole_not_out : Whole ≢ RanOut
whole_not_out = λ e. cc

pub honest_none : (m : MemoryState) (t : TapState) → StaysHonest Whole m m t t
honest_none m t = record { unaltered = λ h. refl; whole = λ e h. h; told = λ e h. h }

pub honest_then : {end : RunEnd} {m m' m'' : MemoryState} {t t' t'' : TapState}
    → StaysHonest Whole m m' t t' → StaysHonest end m' m'' t' t'' → StaysHonest end m m'' t t''
honest_then first second = record {
  unaltered = λ h. second.unaltered (first.whole refl h) ∙ first.unaltered h;
  whole = λ e h. second.whole e (first.whole refl h);
  told = λ e h. second.told e (first.told whole_not_out h);
}

pub honest_short : {m m' : MemoryState} {t t' : TapState} → StaysHonest Whole m m' t t' → StaysHonest RanOut m m' t t'
honest_short honest = record {
  unaltered = honest.unaltered;
  whole = λ e h. honest.whole refl h;
  told = λ e h. honest.told whole_not_out h;
}

module _ (m m' : MemoryState) (t t' : TapState) where
  pub honest_failed : Keeps m.told m'.told → t'.mirror ≡ t.mirror → t'.log.altered ≡ t.log.altered
      → StaysHonest MoveFailed m m' t t'
  honest_failed keeps mirror altered = record {
    unaltered = λ h. altered;
    whole = λ e h. cc;
    told = λ e h all is. h all (keeps all is) ∙ sym mirror;
  }

  pub honest_out : t'.log.altered ≡ t.log.altered → StaysHonest RanOut m m' t t'
  honest_out altered = record {
    unaltered = λ h. altered;
    whole = λ e h. cc;
    told = λ e h. absurd (e refl);
  }

  pub honest_same : m'.told ≡ m.told → t'.mirror ≡ t.mirror → (TellsMirror m t → t'.log.altered ≡ t.log.altered)
      → StaysHonest Whole m m' t t'
  honest_same told mirror altered = record {
    unaltered = altered;
    whole = λ e h. told ∙ h ∙ ap Some (sym mirror);
    told = λ e h all is. h all (sym told ∙ is) ∙ sym mirror;
  }

  pub honest_write : (number : ℕ) (text : List ℕ) → m'.told ≡ option_map (λ all. slice_set all number text) m.told
      → t'.mirror ≡ slice_set t.mirror number text → t'.log.altered ≡ t.log.altered → StaysHonest Whole m m' t t'
  honest_write number text told mirror altered = record {
    unaltered = λ h. altered;
    whole = λ e h. told ∙ ap (option_map (λ all. slice_set all number text)) h ∙ ap Some (sym mirror);
    told = λ e h all is. among m.told refl h all (sym told ∙ is);
  }
    where
      among : (o : Option (List (List ℕ))) → m.told ≡ o → MayTellMirror m t → (all : List (List ℕ))
          → option_map (λ all. slice_set all number text) o ≡ Some all → all ≡ t'.mirror
      among None at h all is = cc
      among (Some old) at h all is =
          let new : slice_set old number text ≡ all = cc in
          sym new ∙ ap (λ l. slice_set l number text) (h old at) ∙ sym mirror
