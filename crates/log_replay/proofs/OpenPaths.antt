-- The path that is open behind a slot is that of its block, or none is.
use Rattle.std.proofs.Common.{◌≡◌, ◌+◌, inl, inr, ℕ, Bool, true, false, if◌then◌else◌, List, [], ◌∷◌, ◌++◌, Option}
use Rattle.std.proofs.Common.{None, Some, refl, sym, ◌∙◌, ap}
use Rattle.std.proofs.lemmas.Bool.Decides.{eqb_tells}
use Rattle.asc_base.specs.declared.block.Counter.{Counter}
use Rattle.asc_base.specs.declared.block.Entry.{Entry}
use Rattle.asc_base.specs.declared.block.Message.{Message}
use Rattle.asc_base.specs.declared.block.Point.{Point}
use Rattle.asc_base.specs.declared.block.Point.TheVariants.{Real, Dummy}
use Rattle.bus_watch.specs.declared.log.Altered.{Altered}
use Rattle.bus_watch.specs.declared.log.Event.{Event}
use Rattle.bus_watch.specs.declared.log.Event.TheVariants.{Access, Drawn, Tagged, Accepted, Chosen, Answered}
use Rattle.oram_contents.specs.Entries.{Keys, real}
use Rattle.oram_contents.specs.Fold.{Fold, settle, is_open_for, joined_by, after_event, fold_events}
use Rattle.oram_contents.specs.Verdict.{put_events}
use Rattle.log_replay.specs.Order.{Behind, Nothing, Appends, Answers, SlotNotes, accepted_events, chosen_events}
use Rattle.log_replay.specs.Order.{behind_events}
use Rattle.log_replay.proofs.Orders.{later_events}

-- the events that begin no slot leave the open path as it is, or settle it
abbrev pub IsQuiet : Event → Type 0
IsQuiet (Access start asked) = ⊥
IsQuiet (Drawn p x) = ⊥
IsQuiet (Tagged m) = Unit {0}
IsQuiet (Accepted m t) = Unit {0}
IsQuiet (Chosen index) = Unit {0}
IsQuiet (Answered line value) = Unit {0}

abbrev pub AreQuiet : List Event → Type 0
AreQuiet [] = Unit {0}
AreQuiet (e ∷ events) = IsQuiet e × AreQuiet events

quiet_both : (xs ys : List Event) → AreQuiet xs → AreQuiet ys → AreQuiet (xs ++ ys)
quiet_both [] ys a b = b
quiet_both (x ∷ xs) ys a b = (a.0, quiet_both xs ys a.1 b)

quiet_accepted : (p : Point) (found : Option Entry) → AreQuiet (accepted_events p found)
quiet_accepted (Real a c) None = tt
quiet_accepted (Real a c) (Some e) = (tt, tt)
quiet_accepted (Dummy n) found = tt

quiet_put : (put : Option Message) → AreQuiet (put_events put)
quiet_put None = tt
quiet_put (Some m) = (tt, tt)

quiet_chosen : (index : Option ℕ) → AreQuiet (chosen_events index)
quiet_chosen None = tt
quiet_chosen (Some index) = (tt, tt)

quiet_behind : (b : Behind) → AreQuiet (behind_events b)
quiet_behind Nothing = tt
quiet_behind (Appends m) = (tt, tt)
quiet_behind (Answers line value) = (tt, tt)

pub quiet_later : (s : SlotNotes) → AreQuiet (later_events s)
quiet_later s = quiet_both (accepted_events s.point s.found)
    (put_events s.put ++ (chosen_events s.chosen ++ behind_events s.behind)) (quiet_accepted s.point s.found)
    (quiet_both (put_events s.put) (chosen_events s.chosen ++ behind_events s.behind) (quiet_put s.put)
    (quiet_both (chosen_events s.chosen) (behind_events s.behind) (quiet_chosen s.chosen) (quiet_behind s.behind)))

module _ (keys : Keys) (m : Message) where
  quiet_step : (altered : List Altered) (n : ℕ) (e : Event) (f : Fold) → IsQuiet e → is_open_for m f.path ≡ false
      → is_open_for m (after_event keys altered n e f).path ≡ false
  quiet_step altered n (Access start asked) f quiet shut = absurd quiet
  quiet_step altered n (Drawn p x) f quiet shut = absurd quiet
  quiet_step altered n (Accepted k t) f quiet shut = shut
  quiet_step altered n (Tagged k) f quiet shut = by_test (is_open_for k f.path)
    where
      by_test : (b : Bool) → is_open_for m (joined_by keys k (if b then f else settle keys f)).path ≡ false
      by_test true = shut
      by_test false = refl
  quiet_step altered n (Chosen index) f quiet shut = refl
  quiet_step altered n (Answered line value) f quiet shut = refl

  pub quiet_fold : (altered : List Altered) (n : ℕ) (events : List Event) (f : Fold) → AreQuiet events
      → is_open_for m f.path ≡ false → is_open_for m (fold_events keys altered n events f).path ≡ false
  quiet_fold altered n [] f quiet shut = shut
  quiet_fold altered n (e ∷ events) f quiet shut =
      quiet_fold altered (n + 1) events (after_event keys altered n e f) quiet.1
      (quiet_step altered n e f quiet.0 shut)

  pub other_open : (p : Point) (a : ℕ) (c : Counter) (x : ℕ) → p ≡ real a c → (m.address.0 ≡ a → ⊥)
      → is_open_for m (Some (p, x)) ≡ false
  other_open p a c x is other = elim (eqb_tells a m.address.0) [
    | inl same ↦ absurd (other (sym same.1))
    | inr apart ↦ ap (λ q. is_open_for m (Some (q, x))) is ∙ apart.0
  ]
