-- What a stopped append leaves behind a slot. An answer isn't stopped.
use Rattle.std.proofs.Common.{◌≡◌, ◌+◌, ◌==◌, ◌⊎◌, inl, inr, ℕ, Bool, true, false, if◌then◌else◌, nat_lt, List, []}
use Rattle.std.proofs.Common.{◌∷◌, ◌++◌, length, Option, None, Some, is_some, Err, refl, sym, ◌∙◌, ap, ap₂, subst}
use Rattle.std.proofs.Common.{arith, append-nil}
use Rattle.asc_base.specs.declared.block.Address.{Address}
use Rattle.asc_base.specs.declared.block.Entry.{Entry}
use Rattle.asc_base.specs.declared.block.Line.{Line}
use Rattle.asc_base.specs.declared.block.Message.{Message}
use Rattle.asc_base.specs.declared.stop.Evidence.{Evidence}
use Rattle.asc_base.specs.declared.stop.Evidence.TheVariants.{Doubled}
use Rattle.asc_base.specs.declared.stop.Stop.{Stop}
use Rattle.asc_base.specs.declared.stop.Stop.TheVariants.{Integrity, StashFull}
use Rattle.bus_watch.specs.Log.{LogLists, TapState, with_event}
use Rattle.bus_watch.specs.declared.log.Event.TheVariants.{Tagged}
use Rattle.oram_contents.specs.Contents.{Contents}
use Rattle.oram_contents.specs.Entries.{Keys}
use Rattle.oram_contents.specs.Fold.{Fold, Whole, settle, joined_by, fold_events}
use Rattle.oram_contents.specs.Fold.{written_ok, partly}
use Rattle.oram_contents.specs.Starts.{first_fold}
use Rattle.oram_contents.specs.Verdict.{first_of, append_verdict}
use Rattle.oram_contents.specs.Provenance.{Always}
use Rattle.oram_contents.proofs.StopSteps.{refused_always}
use Rattle.oram_contents.proofs.Folding.{fold_append}
use Rattle.oram_contents.proofs.VerdictLaws.{append_shows}
use Rattle.oram_frontend.specs.Access.{SlotStep}
use Rattle.oram_stash.specs.Entries.{held}
use Rattle.oram_walk.specs.Request.{Append, Answer}
use Rattle.rate_enforcer.specs.PortStep.{PortState, Resting, HasNoted, contents}
use Rattle.unified_tree.specs.Tree.{TreeState}
use Rattle.log_replay.specs.Judged.{IsBeforeLast, IsFirstVerdict, ShowsStop, EndsLog, SaysMirror}
use Rattle.log_replay.specs.LastSlot.{AreDoneToAppend, AreDoneBy}
use Rattle.log_replay.specs.Order.{Appends, LogOrder}
use Rattle.log_replay.specs.Replayed.{IsBehindSlot, StopsReplayed, left_by}
use Rattle.log_replay.proofs.Behinds.{stood, behind_done, behind_order}
use Rattle.log_replay.proofs.BlockSlots.{IsBehindBlock}
use Rattle.log_replay.proofs.Ports.{behind_of}
use Rattle.log_replay.proofs.StopAlways.{free_always}
use Rattle.log_replay.proofs.StopLogs.{LogStops}
use Rattle.log_replay.proofs.StopPorts.{stops_at}

-- an append is stopped by evidence or by a full stash
append_kinds : (stash : ℕ) (address : Address) (hand : List Entry) (stop : Stop)
    → append_verdict stash address hand ≡ Some stop
    → ((evidence : Evidence) × (stop ≡ Integrity evidence)) ⊎ ((held : ℕ) × (stop ≡ StashFull held))
append_kinds stash address hand stop = by_tests (is_some (held hand address)) (nat_lt stash (length hand + 1))
  where
    by_tests : (b c : Bool)
        → ◌≡◌ {A = Option Stop} (if b then Some (Integrity (Doubled address))
        else (if c then Some (StashFull (length hand + 1)) else None)) (Some stop)
        → ((evidence : Evidence) × (stop ≡ Integrity evidence)) ⊎ ((held : ℕ) × (stop ≡ StashFull held))
    by_tests true c is = inl (Doubled address, cc)
    by_tests false true is = inr (length hand + 1, cc)
    by_tests false false is = absurd (cc)

module _ (keys : Keys) where
  -- where no path is open the buckets are those of the contents, however the log ended
  shut_says : (f : Fold) → f.path ≡ None → (b : Bool) (wrote : ℕ)
      → (if b then (settle keys f).now else partly keys wrote f).mirror ≡ f.now.mirror
  shut_says f shut true wrote = ap (λ o. (settle keys (record f { path = o })).now.mirror) shut
  shut_says f shut false wrote = ap (λ o. (partly keys wrote (record f { path = o })).mirror) shut

  -- A message of another block than that of the open path is noted behind a log.
  module _ (stash : ℕ) (old new : LogLists) (now : Contents) (dummies a : ℕ) (line : List ℕ) (m : Message)
      (x : IsBehindBlock keys stash old now dummies a line None) (other : m.address.0 ≡ a → ⊥)
      (events : new.events ≡ old.events ++ Tagged m ∷ []) (altered : new.altered ≡ old.altered) where
    before_last : IsBeforeLast old new
    before_last = record {
      events = Tagged m ∷ [];
      altered = [];
      adds = record { events_are = events; altered_are = altered ∙ sym (append-nil old.altered) };
      noted = λ k d less. absurd (omega arith);
      last = inr (m, refl, refl);
    }

    shown : (stop : Stop) → append_verdict stash m.address now.hand ≡ Some stop → IsFirstVerdict keys stash new stop
    shown stop wrong = record {
      before = old;
      last = before_last;
      right = x.replayed.right;
      wrong = append_shows keys stash (first_fold keys) old new m (x.path m other) events altered
          ∙ ap₂ (λ v (w : Contents). first_of v (append_verdict stash m.address w.hand)) x.replayed.right
          x.replayed.contents_are ∙ wrong;
    }

    -- the contents that its events say
    folded : fold_events keys new.altered 0 new.events (first_fold keys)
        ≡ joined_by keys m (settle keys (fold_events keys old.altered 0 old.events (first_fold keys)))
    folded =
        let f : Fold = fold_events keys old.altered 0 old.events (first_fold keys) in
        ap₂ (λ l k. fold_events keys l 0 k (first_fold keys)) altered events
        ∙ fold_append keys old.altered 0 old.events (Tagged m ∷ []) (first_fold keys)
        ∙ ap (λ b. joined_by keys m (if b then f else settle keys f)) (x.path m other)

    says : SaysMirror keys new Whole now.mirror
    says =
        shut_says (fold_events keys new.altered 0 new.events (first_fold keys)) (ap (λ (f : Fold). f.path) folded)
        (written_ok Whole new.moves == keys.shape.levels + 1) (written_ok Whole new.moves)
        ∙ ap (λ (f : Fold). f.now.mirror) folded ∙ ap (λ (c : Contents). c.mirror) x.replayed.contents_are

    abbrev in_order : LogOrder keys new
    in_order = behind_order keys stash old new now dummies a line None x (Appends m) altered events (refl, other)

    -- each slot was done, and the message stands behind the last one
    appended : AreDoneToAppend keys new in_order.slots
    appended = record {
      before = x.before;
      last = stood keys stash old new now dummies a line None x (Appends m) altered events (refl, other);
      are = refl;
      done = behind_done keys stash old new now dummies a line None x (Appends m) altered events (refl, other);
      message = m;
      behind = refl;
    }

    joins_left : (after : Contents) → after.mirror ≡ now.mirror → after.seed ≡ now.seed → (stop : Stop)
        → append_verdict stash m.address now.hand ≡ Some stop → LogStops keys stash stop new after
    joins_left after mirror seed stop wrong = by_kind (append_kinds stash m.address now.hand stop wrong)
      where
        kept : Always keys new (record after { hand = [] })
        kept =
            free_always keys new now after mirror seed
            (refused_always keys old new now m
            (record { events_are = events; altered_are = altered ∙ sym (append-nil old.altered) })
            x.replayed.always)

        stops : (how : Stop) → stop ≡ how → AreDoneBy keys how new in_order.slots → ShowsStop keys stash how new
            → EndsLog how Whole → Always keys new (left_by how after) → LogStops keys stash stop new after
        stops how is done shows ends always =
            subst (λ h. LogStops keys stash h new after) (sym is) (record {
              slots = record { order = in_order; done = done };
              shows = shows;
              end = Whole;
              ends = ends;
              says = says ∙ sym mirror;
              always = always;
            })

        by_kind : ((evidence : Evidence) × (stop ≡ Integrity evidence)) ⊎ ((held : ℕ) × (stop ≡ StashFull held))
            → LogStops keys stash stop new after
        by_kind (inl (evidence, is)) =
            stops (Integrity evidence) is (inr appended) (shown (Integrity evidence) (wrong ∙ ap Some is)) refl
            kept
        by_kind (inr (held, is)) =
            stops (StashFull held) is (inr appended) (shown (StashFull held) (wrong ∙ ap Some is)) refl kept

  module _ (levels notes a : ℕ) (line : List ℕ) (old new : PortState) (behind : IsBehindSlot keys a line None old)
      (rests : Resting (notes + 1) levels old) where
    -- A stopped append: the message was noted, and its entry may not join the hand.
    pub append_stops : (m : Message) (stop : Stop) → (m.address.0 ≡ a → ⊥)
        → SlotStep keys levels old (Append m) (Err stop) new → StopsReplayed keys old.tree.stash stop new
    append_stops m stop other (inl (x, one, note, (y, two, join, (is, same)))) = absurd (cc)
    append_stops m stop other (inr (inl noted)) = absurd (noted.0)
    append_stops m stop other (inr (inr (x, one, note, inl (inl before, left)))) =
        absurd (let bad : ◌≡◌ {A = Option Stop} None (Some stop) =
        sym (note.1.rests notes rests).going ∙ before.0 in cc)
    append_stops m stop other (inr (inr (x, one, note, inl (inr stopped, left)))) =
        let noted : HasNoted keys.leaf_of levels (Tagged m) old one = note.1 in
        let log : new.tap.log ≡ with_event old.tap.log (Tagged m) =
        ap (λ (t : TapState). t.log) stopped.tap ∙ noted.log in
        let mirror : new.tap.mirror ≡ old.tap.mirror =
        ap (λ (t : TapState). t.mirror) stopped.tap ∙ noted.mirror in
        let wrong : append_verdict old.tree.stash m.address old.tree.hand ≡ Some stop =
        ap (λ (t : TreeState). append_verdict t.stash m.address t.hand) (sym noted.tree) ∙ stopped.wrong in
        let seed : new.tree.seed ≡ old.tree.seed =
        stopped.seed ∙ ap (λ (t : TreeState). t.seed) noted.tree in
        stops_at keys old.tree.stash stop new
        (joins_left old.tree.stash old.tap.log new.tap.log (contents old) old.clock.dummies a line m
        (behind_of keys a line None old behind) other (ap (λ (l : LogLists). l.events) log)
        (ap (λ (l : LogLists). l.altered) log) (contents new) mirror seed stop wrong)
    append_stops m stop other (inr (inr (x, one, note, inr (y, two, join, left)))) = absurd left

  -- An answer isn't stopped.
  pub answer_stops : (levels number : ℕ) (value : Line) (old new : PortState) (stop : Stop)
      → SlotStep keys levels old (Answer number value) (Err stop) new → ⊥
  answer_stops levels number value old new stop (inl (x, one, note, (is, same))) = absurd (cc)
  answer_stops levels number value old new stop (inr (inl noted)) = noted.0
  answer_stops levels number value old new stop (inr (inr (x, one, note, left))) = left
