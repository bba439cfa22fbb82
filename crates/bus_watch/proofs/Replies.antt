-- What a reply leaves of a log.
use Rattle.std.proofs.Common.{◌≡◌, ◌≢◌, ◌≤◌, ℕ, Bool, true, false, List, [], ◌∷◌, ◌++◌, length, map, refl, sym, ◌∙◌}
use Rattle.std.proofs.Common.{Option, None, Some, IfSome, ap, subst, if◌then◌else◌, slice_get, arith}
use Rattle.std.proofs.lemmas.List.{append-nil, map-append}
use Rattle.std.proofs.lemmas.List.Elements.{All-nil, All-cons}
use Rattle.std.proofs.lemmas.Slice.Eq.{bytes_eq-Decides}
use Rattle.bus_watch.specs.declared.log.Altered.{Altered}
use Rattle.bus_watch.specs.Log.{LogLists, is_bucket, is_text, with_reply, with_altered, altered_reply}
use Rattle.bus_watch.specs.Made.{GainsAltered}
use Rattle.bus_watch.specs.Tied.{reply_of, unlike}

-- an altered reply has the number of the events before the run, and of those after it
abbrev pub IsAmid : LogLists → LogLists → Altered → Type 0
IsAmid log log' a = (length log.events ≤ a.before) × (a.before ≤ length log'.events)

-- no reply more
pub gains_none : (log log' : LogLists) → log'.altered ≡ log.altered → GainsAltered log log'
gains_none log log' same = record {
  altered = [];
  gained = same ∙ sym (append-nil log.altered);
  before = All-nil (IsAmid log log');
}

module _ (log : LogLists) (mirror : List (List ℕ)) (at number : ℕ) (text : List ℕ) where
  -- what is no part of the altered replies stays
  pub reply-moves : (with_reply log mirror at number text).moves ≡ log.moves
  reply-moves = both (is_bucket mirror number text)
    where
      both : (b : Bool) → (if b then log else with_altered log (altered_reply log at number text)).moves ≡ log.moves
      both true = refl
      both false = refl

  pub reply-events : (with_reply log mirror at number text).events ≡ log.events
  reply-events = both (is_bucket mirror number text)
    where
      both : (b : Bool) → (if b then log else with_altered log (altered_reply log at number text)).events ≡ log.events
      both true = refl
      both false = refl

  -- at most the one reply is noted, and with the events before it
  pub reply-gains : GainsAltered log (with_reply log mirror at number text)
  reply-gains = both (is_bucket mirror number text)
    where
      both : (b : Bool) → GainsAltered log (if b then log else with_altered log (altered_reply log at number text))
      both true = gains_none log log refl
      both false = record {
        altered = altered_reply log at number text ∷ [];
        gained = refl;
        before = All-cons (IsAmid log (with_altered log (altered_reply log at number text)))
            (altered_reply log at number text) [] (omega arith, omega arith)
            (All-nil (IsAmid log (with_altered log (altered_reply log at number text))));
      }

  pub reply-altered : map reply_of (with_reply log mirror at number text).altered
      ≡ map reply_of log.altered ++ unlike mirror at number (Some text)
  reply-altered = both (is_bucket mirror number text) refl
    where
      both : (b : Bool) → is_bucket mirror number text ≡ b
          → map reply_of (with_reply log mirror at number text).altered
          ≡ map reply_of log.altered ++ unlike mirror at number (Some text)
      both true is = rw is (sym (append-nil (map reply_of log.altered)))
      both false is = rw is (map-append reply_of log.altered _)

  pub reply_same : slice_get mirror number ≡ Some text → with_reply log mirror at number text ≡ log
  reply_same is =
      let same : is_bucket mirror number text ≡ true =
      ap (λ o. is_text o text) is ∙ (bytes_eq-Decides text text).1 refl in
      ap (λ b. if b then log else with_altered log (altered_reply log at number text)) same

  -- a memory that tells the mirror's buckets gives this one
  pub reply_honest : (told : Option (List (List ℕ))) → IfSome told (λ all. slice_get all number ≡ Some text)
      → told ≡ Some mirror → (with_reply log mirror at number text).altered ≡ log.altered
  reply_honest told gives is =
      let Gives : Option (List (List ℕ)) → Type 0 = λ o. IfSome o (λ all. slice_get all number ≡ Some text) in
      ap (λ (l : LogLists). l.altered) (reply_same (subst Gives is gives))

is_text-other : (o : Option (List ℕ)) (text : List ℕ) → o ≢ Some text → is_text o text ≡ false
is_text-other None text other = refl
is_text-other (Some held) text other = decide (is_text (Some held) text) refl
  where
    decide : (b : Bool) → is_text (Some held) text ≡ b → b ≡ false
    decide false is = refl
    decide true is = absurd (other (ap Some ((bytes_eq-Decides held text).0 is)))

pub reply_other : (log : LogLists) (mirror : List (List ℕ)) (at number : ℕ) (text : List ℕ)
    → slice_get mirror number ≢ Some text
    → with_reply log mirror at number text ≡ with_altered log (altered_reply log at number text)
reply_other log mirror at number text other =
    ap (λ b. if b then log else with_altered log (altered_reply log at number text))
    (is_text-other (slice_get mirror number) text other)
