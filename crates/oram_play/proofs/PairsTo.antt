-- Answered accesses that show the first of what a walk's accesses show are the first of these.
use Rattle.std.proofs.Common.{◌≡◌, ℕ, List, [], ◌∷◌, ◌++◌, Option, Some, None, refl, ap}
use Rattle.std.specs.List.{flat_map}
use Rattle.asc_base.specs.declared.block.Line.{Line}
use Rattle.asc_base.specs.declared.block.Message.{Message}
use Rattle.oram_walk.specs.Memory.{Shown, Accessed, Displaced}
use Rattle.oram_walk.specs.Shows.{shown_by, found_line, put_of}
use Rattle.oram_walk.specs.declared.slots.Access.{Access}
use Rattle.oram_walk.specs.declared.slots.Purpose.{Purpose}
use Rattle.posmap_counters.specs.Counters.{Counters, counter_at}
use Rattle.posmap_lookaside.specs.Walk.{WalkAccess, WalkSizes}
use Rattle.oram_play.specs.InTurn.{AnsweredAccess}
use Rattle.oram_play.specs.Shown.{appended_shown, answered_shown}
use Rattle.oram_play.specs.StopsInTurn.{IsNextOf, IsLastOf}
use Rattle.oram_play.proofs.Pairs.{last_shown}

module _ (sizes : WalkSizes) (lines : ℕ → Line) (put : Purpose) where
  -- what these accesses show, and those of a walk
  abbrev answers : List AnsweredAccess → List Shown
  answers accesses = flat_map answered_shown accesses

  abbrev walks : List WalkAccess → List Shown
  walks ws = flat_map (shown_by sizes lines put) ws

  abbrev accessed : Access → Line → Shown
  accessed access line = Accessed access.address.0 access.counter access.next access.purpose line

  abbrev displaced : Message → Shown
  displaced message = Displaced message.address.0 message.counter message.line

  -- the first appended message and all that is shown behind it, an access first
  split_access : (o : Option Message) (more : List AnsweredAccess) (access : Access) (line : Line)
      (rest : List Shown) (d : Option ℕ) (counters : Counters) (ws : List WalkAccess)
      → last_shown sizes lines put counters d ++ walks ws
      ≡ (appended_shown o ++ answers more) ++ accessed access line ∷ rest
      → (appended_shown o ≡ last_shown sizes lines put counters d)
      × (walks ws ≡ answers more ++ accessed access line ∷ rest)
  split_access None more access line rest None counters ws e = (refl, e)
  split_access None [] access line rest (Some last) counters ws e = absurd cc
  split_access None (one ∷ more) access line rest (Some last) counters ws e = absurd cc
  split_access (Some message) more access line rest None counters [] e = absurd cc
  split_access (Some message) more access line rest None counters (w ∷ ws) e = absurd cc
  split_access (Some message) more access line rest (Some last) counters ws e = (cc, cc)

  pub pairs_access : (accesses : List AnsweredAccess) (ws : List WalkAccess) (access : Access) (line : Line)
      (rest : List Shown)
      → walks ws ≡ answers accesses ++ (accessed access line ∷ [] ++ rest)
      → IsNextOf sizes lines put ws accesses access line
  pairs_access [] [] access line rest e = absurd cc
  pairs_access [] (w ∷ ws) access line rest e = record {
    before = [];
    next = w;
    later = ws;
    are = refl;
    shown = tt;
    is = cc;
  }
  pairs_access (one ∷ more) [] access line rest e = absurd cc
  pairs_access (one ∷ more) (w ∷ ws) access line rest e =
      let tails : last_shown sizes lines put w.counters w.displaced ++ walks ws
      ≡ (appended_shown one.appended ++ answers more) ++ accessed access line ∷ rest = cc in
      let parts = split_access one.appended more access line rest w.displaced w.counters ws tails in
      let head : Accessed one.access.address.0 one.access.counter one.access.next one.access.purpose one.line
      ≡ Accessed w.address w.counter (counter_at w.counters w.address) (put_of put w.purpose)
      (found_line sizes (counter_at w.counters) lines w.address) = cc in
      let later = pairs_access more ws access line rest parts.1 in
      record {
        before = w ∷ later.before;
        next = later.next;
        later = later.later;
        are = ap (λ l. w ∷ l) later.are;
        shown = (cc, later.shown);
        is = later.is;
      }

  -- the same where other accesses come before a message that is appended
  split_more : (o : Option Message) (one : AnsweredAccess) (more : List AnsweredAccess) (tail : List Shown)
      (d : Option ℕ) (counters : Counters) (ws : List WalkAccess)
      → last_shown sizes lines put counters d ++ walks ws ≡ (appended_shown o ++ answers (one ∷ more)) ++ tail
      → (appended_shown o ≡ last_shown sizes lines put counters d) × (walks ws ≡ answers (one ∷ more) ++ tail)
  split_more None one more tail None counters ws e = (refl, e)
  split_more None one more tail (Some last) counters ws e = absurd cc
  split_more (Some message) one more tail None counters [] e = absurd cc
  split_more (Some message) one more tail None counters (w ∷ ws) e = absurd cc
  split_more (Some message) one more tail (Some last) counters ws e = (cc, cc)

  -- and where none do
  split_last : (o : Option Message) (message : Message) (rest : List Shown) (d : Option ℕ) (counters : Counters)
      (ws : List WalkAccess)
      → last_shown sizes lines put counters d ++ walks ws ≡ (appended_shown o ++ []) ++ displaced message ∷ rest
      → displaced message ∷ [] ≡ last_shown sizes lines put counters d
  split_last None message rest None counters [] e = absurd cc
  split_last None message rest None counters (w ∷ ws) e = absurd cc
  split_last None message rest (Some last) counters ws e = cc
  split_last (Some first) message rest None counters [] e = absurd cc
  split_last (Some first) message rest None counters (w ∷ ws) e = absurd cc
  split_last (Some first) message rest (Some last) counters [] e = absurd cc
  split_last (Some first) message rest (Some last) counters (w ∷ ws) e = absurd cc

  pub pairs_append : (accesses : List AnsweredAccess) (ws : List WalkAccess) (message : Message) (rest : List Shown)
      → walks ws ≡ answers accesses ++ (displaced message ∷ [] ++ rest) → IsLastOf sizes lines put ws accesses message
  pairs_append [] [] message rest e = absurd cc
  pairs_append [] (w ∷ ws) message rest e = absurd cc
  pairs_append (one ∷ more) [] message rest e = absurd cc
  pairs_append (one ∷ []) (w ∷ ws) message rest e =
      let tails : last_shown sizes lines put w.counters w.displaced ++ walks ws
      ≡ (appended_shown one.appended ++ []) ++ displaced message ∷ rest = cc in
      let last = split_last one.appended message rest w.displaced w.counters ws tails in
      let head : Accessed one.access.address.0 one.access.counter one.access.next one.access.purpose one.line
      ≡ Accessed w.address w.counter (counter_at w.counters w.address) (put_of put w.purpose)
      (found_line sizes (counter_at w.counters) lines w.address) = cc in
      record {
        before = [];
        next = w;
        later = ws;
        are = refl;
        first = [];
        last = one;
        parts = refl;
        shown = tt;
        is = cc;
      }
  pairs_append (one ∷ two ∷ more) (w ∷ ws) message rest e =
      let tails : last_shown sizes lines put w.counters w.displaced ++ walks ws
      ≡ (appended_shown one.appended ++ answers (two ∷ more)) ++ displaced message ∷ rest = cc in
      let parts = split_more one.appended two more (displaced message ∷ rest) w.displaced w.counters ws tails in
      let head : Accessed one.access.address.0 one.access.counter one.access.next one.access.purpose one.line
      ≡ Accessed w.address w.counter (counter_at w.counters w.address) (put_of put w.purpose)
      (found_line sizes (counter_at w.counters) lines w.address) = cc in
      let later = pairs_append (two ∷ more) ws message rest parts.1 in
      record {
        before = w ∷ later.before;
        next = later.next;
        later = later.later;
        are = ap (λ l. w ∷ l) later.are;
        first = one ∷ later.first;
        last = later.last;
        parts = ap (λ l. one ∷ l) later.parts;
        shown = (cc, later.shown);
        is = later.is;
      }
