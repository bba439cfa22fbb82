-- What was stopped on a walk over a memory with the data lines as last stored is on the walk of a play's request.
use Rattle.std.proofs.Common.{◌≡◌, ◌<◌, ◌≤◌, ℕ, List, [], ◌∷◌, ◌++◌, Option, Some, None, map, refl, sym, ap, ◌∙◌}
use Rattle.std.proofs.Common.{subst}
use Rattle.std.specs.Option.{option_map, option_map_or}
use Rattle.asc_base.specs.TreeShape.{children_of}
use Rattle.asc_base.specs.declared.block.Line.{Line}
use Rattle.asc_base.specs.declared.block.Message.{Message}
use Rattle.asc_base.specs.declared.settings.Config.{Config}
use Rattle.asc_base.specs.declared.stop.Stop.{Stop}
use Rattle.data_cache.specs.Lines.{LineRequest}
use Rattle.oram_contents.specs.Entries.{Keys}
use Rattle.oram_walk.specs.Memory.{Shown}
use Rattle.oram_walk.specs.Shows.{shown_by, displaced_by, found_line, put_of}
use Rattle.oram_walk.specs.declared.slots.Purpose.{Purpose}
use Rattle.posmap_counters.specs.Counters.{Counters, counter_at}
use Rattle.posmap_counters.specs.Families.{family_line}
use Rattle.posmap_lookaside.specs.Walk.{WalkAccess, WalkSizes, IsHeldList, walk}
use Rattle.rate_enforcer.specs.PortStep.{PortState}
use Rattle.run_play.specs.Requests.{StoredLines, Standing, requested, value_of, walk_sizes, data_line}
use Rattle.run_play.specs.Slots.{Pace, Numbers, Slot}
use Rattle.oram_play.specs.InTurn.{AnsweredAccess}
use Rattle.oram_play.specs.OnPlay.{IsOnPlay}
use Rattle.oram_play.specs.Shown.{appended_shown, answered_shown, lines_in_turn, AreShownAs}
use Rattle.oram_play.specs.StopsInTurn.{StopsNext, AtAccess, AtAppend, NoRoom, IsOnWalk}
use Rattle.oram_play.specs.Walked.{IsWalked, AreWalked, put_for}
use Rattle.oram_play.proofs.Found.{shown-walked}

module _ (sizes : WalkSizes) (lines : ℕ → Line) (put : Purpose) where
  -- the message of a displaced block in a walk
  abbrev message_by : Counters → ℕ → Message
  message_by counters last = record {
    address = record { 0 = last };
    counter = counter_at counters last;
    line = record {
      0 = option_map_or (family_line (counter_at counters)) (children_of sizes.lines sizes.layers last) [];
    };
  }

  -- an answered access that shows what one of a walk does
  abbrev made : WalkAccess → AnsweredAccess
  made w = record {
    access = record {
      asked = 0;
      address = record { 0 = w.address };
      counter = w.counter;
      next = counter_at w.counters w.address;
      purpose = put_of put w.purpose;
    };
    line = found_line sizes (counter_at w.counters) lines w.address;
    appended = option_map (message_by w.counters) w.displaced;
  }

  message_shown : (counters : Counters) (displaced : Option ℕ)
      → appended_shown (option_map (message_by counters) displaced)
      ≡ option_map_or (λ last. displaced_by sizes (counter_at counters) last ∷ []) displaced []
  message_shown counters None = refl
  message_shown counters (Some last) = refl

  -- an access with what is shown of it, behind which the same is appended
  shown-with : (w : WalkAccess) (shown its : Shown) → shown ≡ its
      → shown ∷ appended_shown (option_map (message_by w.counters) w.displaced)
      ≡ its ∷ option_map_or (λ last. displaced_by sizes (counter_at w.counters) last ∷ []) w.displaced []
  shown-with w shown its same =
      ap (λ s. s ∷ appended_shown (option_map (message_by w.counters) w.displaced)) same
      ∙ ap (λ (l : List Shown). its ∷ l) (message_shown w.counters w.displaced)

  all-made : (ws : List WalkAccess) → AreShownAs sizes lines put ws (map made ws)
  all-made [] = tt
  all-made (w ∷ ws) = (shown-with w _ _ refl, all-made ws)

  shown-append : (before rest : List WalkAccess) (first more : List AnsweredAccess)
      → AreShownAs sizes lines put before first → AreShownAs sizes lines put rest more
      → AreShownAs sizes lines put (before ++ rest) (first ++ more)
  shown-append [] rest [] more h k = k
  shown-append (w ∷ ws) rest (one ∷ os) more h k = (h.0, shown-append ws rest os more h.1 k)
  shown-append [] rest (one ∷ os) more h k = absurd h
  shown-append (w ∷ ws) rest [] more h k = absurd h

  walked-split : (config : Config) (stored : StoredLines) (value : Option (List ℕ)) (before rest : List WalkAccess)
      (first more : List AnsweredAccess) → AreShownAs sizes lines put before first
      → AreWalked config stored value (before ++ rest) (first ++ more)
      → AreWalked config stored value before first × AreWalked config stored value rest more
  walked-split config stored value [] rest [] more h k = (tt, k)
  walked-split config stored value (w ∷ ws) rest (one ∷ os) more h k =
      let later = walked-split config stored value ws rest os more h.1 k.1 in ((k.0, later.0), later.1)
  walked-split config stored value [] rest (one ∷ os) more h k = absurd h
  walked-split config stored value (w ∷ ws) rest [] more h k = absurd h

module _ (config : Config) (now : Standing) (request : LineRequest) (lines : ℕ → Line)
    (layers : 1 ≤ config.shape.layers) (held : IsHeldList (walk_sizes config) now.chip.held)
    (below : requested request < config.shape.lines)
    (same : (a : ℕ) → a < config.shape.lines → (lines a).0 ≡ data_line now.data_lines a) where
  abbrev sizes : WalkSizes
  sizes = walk_sizes config

  abbrev walked : List WalkAccess
  walked = (walk sizes now.chip (requested request)).accesses

  -- the first of a walk's accesses, and the next one, are those of the play
  prefix-walked : (before later : List WalkAccess) (next : WalkAccess) (first : List AnsweredAccess)
      (one : AnsweredAccess) → walked ≡ before ++ next ∷ later
      → AreShownAs sizes lines (put_for request) before first
      → answered_shown one ≡ shown_by sizes lines (put_for request) next
      → AreWalked config now.data_lines (value_of request) before first
      × IsWalked config now.data_lines (value_of request) next one
  prefix-walked before later next first one are shown is =
      let put : Purpose = put_for request in
      let all : List AnsweredAccess = first ++ one ∷ map (made sizes lines put) later in
      let whole : AreShownAs sizes lines put (before ++ next ∷ later) all =
      shown-append sizes lines put before (next ∷ later) first (one ∷ map (made sizes lines put) later) shown
      (is, all-made sizes lines put later) in
      let walks : AreWalked config now.data_lines (value_of request) walked all =
      shown-walked config now.data_lines lines now.chip request all layers held below same
      (subst (λ ws. AreShownAs sizes lines put ws all) (sym are) whole) in
      let parts = walked-split sizes lines put config now.data_lines (value_of request) before (next ∷ later) first
      (one ∷ map (made sizes lines put) later) shown
      (subst (λ ws. AreWalked config now.data_lines (value_of request) ws all) are walks) in
      (parts.0, parts.1.0)

  -- So what was stopped is on the walk of the play's request.
  pub on-play : {keys : Keys} {levels : ℕ} {numbers : Numbers} {asked : ℕ} {slots : List Slot} {pace : Pace}
      {stop : Stop} {old new : PortState} (accesses : List AnsweredAccess)
      (next : StopsNext keys levels numbers asked slots pace stop old new)
      → IsOnWalk sizes lines (put_for request) walked accesses next
      → IsOnPlay config now request accesses (lines_in_turn lines accesses) next
  on-play accesses (AtAccess x) on =
      let one : AnsweredAccess = record {
        access = x.access;
        line = lines_in_turn lines accesses x.access.address.0;
        appended = option_map (message_by sizes lines (put_for request) on.next.counters) on.next.displaced;
      } in
      let both = prefix-walked on.before on.later on.next accesses one on.are on.shown
      (shown-with sizes lines (put_for request) on.next _ _ on.is) in
      record {
        before = on.before;
        next = on.next;
        later = on.later;
        are = on.are;
        walked = both.0;
        address = both.1.address;
        counter = both.1.counter;
        put = both.1.put;
      }
  on-play accesses (AtAppend x) on =
      let both = prefix-walked on.before on.later on.next on.first (record on.last { appended = Some x.message }) on.are
      on.shown on.is in
      record {
        before = on.before;
        next = on.next;
        later = on.later;
        are = on.are;
        first = on.first;
        last = on.last;
        parts = on.parts;
        walked = both.0;
        is = both.1;
      }
  on-play accesses (NoRoom none) on = tt
