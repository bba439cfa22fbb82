-- A message that is appended behind a slot, or a line that is answered, keeps what is known of a log.
use Rattle.std.proofs.Common.{◌≡◌, ◌<◌, inl, ℕ, false, List, [], ◌∷◌, ◌++◌, length, Option, None, Some, refl, sym, ◌∙◌}
use Rattle.std.proofs.Common.{ap, ap₂, subst, arith, append-nil, append_assoc}
use Rattle.std.specs.List.{count_by, flat_map}
use Rattle.std.proofs.lemmas.List.Concat.{flat_map-append}
use Rattle.asc_base.specs.Has.{Has}
use Rattle.asc_base.specs.declared.block.Address.{Address}
use Rattle.asc_base.specs.declared.block.Entry.{Entry}
use Rattle.asc_base.specs.declared.block.Line.{Line}
use Rattle.asc_base.specs.declared.block.Message.{Message}
use Rattle.asc_base.specs.declared.stop.Evidence.TheVariants.{Doubled}
use Rattle.asc_base.specs.declared.stop.Stop.{Stop}
use Rattle.asc_base.specs.declared.stop.Stop.TheVariants.{Integrity}
use Rattle.bus_watch.specs.Log.{LogLists}
use Rattle.bus_watch.specs.declared.log.Altered.{Altered}
use Rattle.bus_watch.specs.declared.log.Event.{Event}
use Rattle.bus_watch.specs.declared.log.Event.TheVariants.{Tagged, Answered}
use Rattle.oram_contents.specs.Contents.{Contents}
use Rattle.oram_contents.specs.Entries.{Keys, AreKeys, real}
use Rattle.oram_contents.specs.Fold.{with_entry, tagged_entry, settle, is_open_for, fold_events, whole}
use Rattle.oram_contents.specs.Provenance.{Always}
use Rattle.oram_contents.specs.Slots.{drawn_events}
use Rattle.oram_contents.specs.Starts.{first_fold}
use Rattle.oram_contents.specs.Steps.{Adds}
use Rattle.oram_contents.specs.Verdict.{first_of, append_verdict, put_events}
use Rattle.oram_contents.proofs.PutSteps.{put_always}
use Rattle.oram_contents.proofs.GrowSteps.{always_adds, came_more}
use Rattle.oram_contents.proofs.Folding.{fold_append, whole_append}
use Rattle.oram_contents.proofs.VerdictLaws.{append_shows, answer_shows}
use Rattle.oram_stash.proofs.Held.{held-none}
use Rattle.oram_stash.specs.Entries.{held}
use Rattle.rate_enforcer.specs.Counts.{is_dummy}
use Rattle.rate_enforcer.proofs.Counted.{count_more}
use Rattle.log_replay.specs.Judged.{verdict_on}
use Rattle.log_replay.specs.Order.{Behind, Appends, Answers, SlotNotes, accepted_events, chosen_events, behind_events}
use Rattle.log_replay.specs.Order.{events_of, put_line, MayStand, IsTaken, IsDone, AreInOrder, AreDone, IsNotedIn}
use Rattle.log_replay.specs.Order.{LogOrder}
use Rattle.log_replay.proofs.BlockSlots.{IsBehindBlock}
use Rattle.log_replay.proofs.Orders.{all_events, behind_none, read_kept, order_kept, all_done_kept, order_more}
use Rattle.log_replay.proofs.Orders.{noted_other, done_more, order_front, order_last, done_front}
use Rattle.log_replay.proofs.ReplayedLogs.{IsReplayedLog}

-- where nothing is wrong with an append none of its address is at hand
absent : (stash : ℕ) (address : Address) (hand : List Entry) → append_verdict stash address hand ≡ None
    → held hand address ≡ None
absent stash address hand right = by_found (held hand address) refl
  where
    by_found : (found : Option Entry) → held hand address ≡ found → held hand address ≡ None
    by_found None is = is
    by_found (Some e) is =
        let there : append_verdict stash address hand ≡ Some (Integrity (Doubled address)) = rw is refl in
        let bad : ◌≡◌ {A = Option Stop} None (Some (Integrity (Doubled address))) = sym right ∙ there in
        absurd (cc)

-- the events of a slot with what stands behind it
joins_last : (d a p c b : List Event) → (d ++ (a ++ (p ++ (c ++ [])))) ++ b ≡ d ++ (a ++ (p ++ (c ++ b)))
joins_last d a p c b = simp (append_assoc, append-nil)

module _ (keys : Keys) (stash : ℕ) (old new : LogLists) (now : Contents) (n a : ℕ) (line : List ℕ)
    (put : Option Message) (x : IsBehindBlock keys stash old now n a line put) (b : Behind)
    (altered : new.altered ≡ old.altered) (events : new.events ≡ old.events ++ behind_events b)
    (may : MayStand a x.last.found put b) where
  -- the last slot with what stands behind it
  abbrev pub stood : SlotNotes
  stood = record x.last { behind = b }

  more : new.altered ≡ old.altered ++ []
  more = altered ∙ sym (append-nil old.altered)

  stood_events : events_of keys x.last ++ behind_events b ≡ events_of keys stood
  stood_events =
      let s = x.last in
      ap (λ r. (events_of keys (record s { behind = r })) ++ behind_events b) x.bare
      ∙ joins_last (drawn_events keys s.start s.asked s.point) (accepted_events s.point s.found) (put_events s.put)
      (chosen_events s.chosen) (behind_events b)

  pub both_events : new.events ≡ flat_map (events_of keys) (x.before ++ stood ∷ [])
  both_events =
      let f = flat_map (events_of keys) in
      let front = f x.before in
      events ∙ ap (λ l. l ++ behind_events b) (x.replayed.order.events ∙ ap f x.slots
      ∙ flat_map-append (events_of keys) x.before (x.last ∷ [])
      ∙ ap (λ l. front ++ l) (append-nil (events_of keys x.last)))
      ∙ append_assoc front (events_of keys x.last) (behind_events b)
      ∙ ap (λ l. front ++ l) (stood_events ∙ sym (append-nil (events_of keys stood)))
      ∙ sym (flat_map-append (events_of keys) x.before (stood ∷ []))

  pub ordered : AreInOrder keys old [] 0 (x.before ++ x.last ∷ [])
  ordered = subst (AreInOrder keys old [] 0) x.slots x.replayed.order.order

  all_done : AreDone keys old [] (x.before ++ x.last ∷ [])
  all_done = subst (AreDone keys old []) x.slots x.replayed.done

  pub last_done : IsDone keys new (all_events keys x.before) stood
  last_done =
      let d = (done_front keys old [] x.before x.last all_done).1 in
      let taken = subst (λ p. IsTaken keys d.joined p x.last) x.point d.taken in
      let now_taken : IsTaken keys d.joined (real a x.counter) stood =
      (taken.0, taken.1, subst (λ p. MayStand a x.last.found p b) (sym x.put_is) may) in
      record {
        joined = d.joined;
        read = read_kept keys old new [] more (all_events keys x.before) x.last d.joined (λ reply h. absurd h) d.read;
        taken = subst (λ p. IsTaken keys d.joined p stood) (sym x.point) now_taken;
        put = d.put;
      }

  pub front_order : AreInOrder keys new [] 0 x.before
  front_order = order_kept keys old new [] more [] 0 x.before (λ reply h. absurd h)
      (order_front keys old [] 0 x.before x.last ordered all_done)

  pub front_done : AreDone keys new [] x.before
  front_done = all_done_kept keys old new [] more [] x.before (λ reply h. absurd h)
      (done_front keys old [] x.before x.last all_done).0

  -- the order of the longer log
  abbrev pub behind_order : LogOrder keys new
  behind_order = record {
    slots = x.before ++ stood ∷ [];
    events = both_events;
    order = order_more keys new [] 0 x.before stood front_order front_done
        (order_last keys old [] 0 x.before x.last ordered) (inl last_done);
    noted = λ reply h. noted_other keys [] x.before x.last stood reply
        (subst (λ slots. IsNotedIn keys [] slots reply) x.slots
        (x.replayed.order.noted reply (subst (λ (l : List Altered). Has reply l) altered h)));
  }

  -- each of its slots was done
  pub behind_done : AreDone keys new [] (x.before ++ stood ∷ [])
  behind_done = done_more keys new [] x.before stood front_done last_done

  -- what is known of the longer log, with contents that it says, in which nothing is wrong, and of which holds what
  -- holds always
  pub behind_replayed : (after : Contents) → whole keys (first_fold keys) new ≡ after → verdict_on keys stash new ≡ None
      → Always keys new after → IsReplayedLog keys stash new after n
  behind_replayed after is right always = record {
    order = behind_order;
    done = behind_done;
    dummies_are =
        let none = behind_none b in
        let both = count_more is_dummy old.events (behind_events b) in
        let same = ap (count_by is_dummy) events in
        omega (arith, none, both, same, x.replayed.dummies_are);
    contents_are = is;
    right = right;
    always = always;
  }

module _ (keys : Keys) (stash : ℕ) (old new : LogLists) (now : Contents) (n a : ℕ) (line : List ℕ)
    (altered : new.altered ≡ old.altered) where
  -- another block's message is appended
  pub append_replayed : (x : IsBehindBlock keys stash old now n a line None) → AreKeys keys → (m : Message)
      → (m.address.0 ≡ a → ⊥) → m.address.0 < keys.shape.total → length m.line.0 ≡ 64
      → new.events ≡ old.events ++ Tagged m ∷ []
      → append_verdict stash m.address now.hand ≡ None
      → IsReplayedLog keys stash new (with_entry now (tagged_entry keys m)) n
  append_replayed x lawful m other inside wide events right =
      behind_replayed keys stash old new now n a line None x (Appends m) altered events (refl, other)
      (with_entry now (tagged_entry keys m))
      (whole_append keys (first_fold keys) old new now m x.replayed.contents_are shut events altered)
      (append_shows keys stash (first_fold keys) old new m shut events altered
      ∙ ap₂ (λ v (w : Contents). first_of v (append_verdict stash m.address w.hand)) x.replayed.right
      x.replayed.contents_are ∙ right)
      (put_always keys lawful old new now (with_entry now (tagged_entry keys m)) m.address.0 m.counter m.line.0 inside
      wide (λ e h. held-none now.hand m.address e (absent stash m.address now.hand right) h)
      (record {
        adds = record { events_are = events; altered_are = altered ∙ sym (append-nil old.altered) };
        after_is = refl;
      }) x.replayed.always)
    where
      shut : is_open_for m (fold_events keys old.altered 0 old.events (first_fold keys)).path ≡ false
      shut = x.path m other

  -- the line that was found and put back is answered
  pub answer_replayed : (put : Option Message) (x : IsBehindBlock keys stash old now n a line put) (number : ℕ)
      (value : Line) → number ≡ a → value.0 ≡ line → put_line put ≡ Some value
      → new.events ≡ old.events ++ Answered number value ∷ [] → IsReplayedLog keys stash new now n
  answer_replayed put x number value is line_is back events =
      let adds : Adds old new (Answered number value ∷ []) [] = record
      { events_are = events; altered_are = altered ∙ sym (append-nil old.altered) } in
      behind_replayed keys stash old new now n a line put x (Answers number value) altered events
      (is, line_is ∙ x.line_is, back) now
      (ap₂ (λ l k. (settle keys (fold_events keys l 0 k (first_fold keys))).now) altered events
      ∙ ap (λ f. (settle keys f).now) (fold_append keys old.altered 0 old.events (Answered number value ∷ [])
      (first_fold keys)) ∙ x.replayed.contents_are)
      (answer_shows keys stash (first_fold keys) old new number value events altered ∙ x.replayed.right)
      (always_adds keys old new (Answered number value ∷ []) now now.hand adds x.replayed.always.apart
      x.replayed.always.of_shape (λ e h. came_more keys old new (Answered number value ∷ []) [] e adds
      (x.replayed.always.hand_came e h)) x.replayed.always)
