-- Answered accesses that show what a walk's accesses show are these, one by one.
use Rattle.std.proofs.Common.{◌≡◌, ℕ, List, [], ◌∷◌, ◌++◌, Option, Some, None, refl}
use Rattle.std.specs.List.{flat_map}
use Rattle.std.specs.Option.{option_map_or}
use Rattle.asc_base.specs.declared.block.Line.{Line}
use Rattle.asc_base.specs.declared.block.Message.{Message}
use Rattle.oram_walk.specs.Memory.{Shown, Accessed}
use Rattle.oram_walk.specs.Shows.{shown_by, displaced_by, found_line, put_of}
use Rattle.oram_walk.specs.declared.slots.Purpose.{Purpose}
use Rattle.posmap_counters.specs.Counters.{Counters, counter_at}
use Rattle.posmap_lookaside.specs.Walk.{WalkAccess, WalkSizes}
use Rattle.oram_play.specs.InTurn.{AnsweredAccess}
use Rattle.oram_play.specs.Shown.{appended_shown, answered_shown, AreShownAs}

module _ (sizes : WalkSizes) (lines : ℕ → Line) (put : Purpose) where
  -- what is displaced in a walk
  abbrev pub last_shown : Counters → Option ℕ → List Shown
  last_shown counters displaced =
      option_map_or (λ last. displaced_by sizes (counter_at counters) last ∷ []) displaced []

  -- the first appended message and all later accesses, and the same of a walk
  split : (o : Option Message) (more : List AnsweredAccess) (d : Option ℕ) (counters : Counters)
      (ws : List WalkAccess)
      → appended_shown o ++ flat_map answered_shown more
      ≡ last_shown counters d ++ flat_map (shown_by sizes lines put) ws
      → (appended_shown o ≡ last_shown counters d)
      × (flat_map answered_shown more ≡ flat_map (shown_by sizes lines put) ws)
  split None more None counters ws e = (refl, e)
  split None [] (Some last) counters ws e = absurd cc
  split None (one ∷ more) (Some last) counters ws e = absurd cc
  split (Some message) more None counters [] e = absurd cc
  split (Some message) more None counters (w ∷ ws) e = absurd cc
  split (Some message) more (Some last) counters ws e = (cc, cc)

  pub pairs : (accesses : List AnsweredAccess) (ws : List WalkAccess)
      → flat_map answered_shown accesses ≡ flat_map (shown_by sizes lines put) ws
      → AreShownAs sizes lines put ws accesses
  pairs [] [] e = tt
  pairs [] (w ∷ ws) e = absurd cc
  pairs (one ∷ more) [] e = absurd cc
  pairs (one ∷ more) (w ∷ ws) e =
      let tails : appended_shown one.appended ++ flat_map answered_shown more
      ≡ last_shown w.counters w.displaced ++ flat_map (shown_by sizes lines put) ws = cc in
      let parts = split one.appended more w.displaced w.counters ws tails in
      let head : Accessed one.access.address.0 one.access.counter one.access.next one.access.purpose one.line
      ≡ Accessed w.address w.counter (counter_at w.counters w.address) (put_of put w.purpose)
      (found_line sizes (counter_at w.counters) lines w.address) = cc in
      (cc, pairs more ws parts.1)
