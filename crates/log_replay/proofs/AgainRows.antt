-- A log of two slots of a block: the second finds what the first put back, which is answered and put back; and nothing
-- else is in order.
use Rattle.std.proofs.Common.{◌≡◌, ◌⊎◌, inl, inr, ℕ, List, [], ◌∷◌, ◌++◌, Option, None, Some, Result, Ok}
use Rattle.std.proofs.Common.{refl, sym, ◌∙◌, ap, subst}
use Rattle.asc_base.specs.declared.block.Counter.{Counter}
use Rattle.asc_base.specs.declared.block.Entry.{Entry}
use Rattle.asc_base.specs.declared.block.Message.{Message}
use Rattle.oram_contents.specs.Contents.{Contents, IsReadTo}
use Rattle.oram_contents.specs.Entries.{Keys, real, message_of, entry_of}
use Rattle.posmap_counters.specs.Counters.{first_counter, IsBefore}
use Rattle.log_replay.specs.Order.{Behind, Nothing, Answers, SlotNotes, LogOrder}
use Rattle.asc_base.specs.declared.block.Point.{Point}
use Rattle.asc_base.specs.declared.stop.Evidence.{Evidence}
use Rattle.bus_watch.specs.Log.{LogLists}
use Rattle.bus_watch.specs.declared.log.Event.{Event}
use Rattle.bus_watch.specs.declared.log.Event.TheVariants.{Tagged, Accepted}
use Rattle.oram_contents.specs.Counts.{zero_line}
use Rattle.oram_contents.specs.Fold.{whole}
use Rattle.oram_contents.specs.Slots.{drawn_events}
use Rattle.oram_contents.specs.Starts.{first_fold}
use Rattle.oram_contents.specs.Verdict.{put_events}
use Rattle.oram_stash.specs.Entries.{held}
use Rattle.pmmac_tags.specs.Tag.{tag}
use Rattle.log_replay.specs.Order.{accepted_events, chosen_events, behind_events, events_of, IsTaken, IsDone, IsBare}
use Rattle.log_replay.specs.Order.{AreInOrder}
use Rattle.log_replay.specs.Rows.{again_log, found_again, fetched, IsTopLine}
use Rattle.log_replay.proofs.FirstReads.{read_empty}
use Rattle.log_replay.proofs.Orders.{later_events, all_events}
use Rattle.log_replay.proofs.ReadBacks.{put_log, joined, is_read, finds, finds_right, says_put}
use Rattle.log_replay.proofs.SlotSplits.{first_slot, none_held}

module _ (keys : Keys) (a : ℕ) (d : Counter) (l : List ℕ) (top : IsTopLine keys a l)
    (up : IsBefore first_counter d) where
  -- the notes of a block's slot, for which something may be found, put back and answered
  abbrev notes : ℕ → ℕ → Counter → Option Entry → Message → Behind → SlotNotes
  notes start asked c found put behind = record {
    start = start;
    asked = Some asked;
    point = real a c;
    found = found;
    put = Some put;
    chosen = None;
    behind = behind;
  }

  abbrev first : SlotNotes
  first = notes 256 0 first_counter None (message_of a d l) Nothing

  abbrev second : Counter → SlotNotes
  second e = notes 1008 752 d (Some (entry_of keys a d l)) (message_of a e l) (Answers a (record { 0 = l }))

  pub read_back : (e : Counter)
      → LogOrder keys (again_log keys a d l (found_again keys a d l (fetched (message_of a e l) a l)))
  read_back e = record {
    slots = first ∷ second e ∷ [];
    events = refl;
    order = (
      (0, refl),
      inl (record {
        joined = [];
        read = read_empty keys 256 (keys.leaf_of (real a first_counter));
        taken = (none_held keys a, refl, tt);
        put = refl;
      }),
      (
        (752, refl),
        inl (record {
          joined = joined keys a d l top up;
          read = subst (λ (now : Contents). IsReadTo keys.pads keys.shape 1008 (keys.leaf_of (real a d)) [] now
              (joined keys a d l top up)) (sym (says_put keys a d l top up)) (is_read keys a d l top up);
          taken = (finds keys a d l top up, finds_right keys a d l top up, (refl, refl, refl));
          put = refl;
        }),
        tt,
      ),
    );
    noted = λ reply h. absurd h;
  }

  abbrev again : List Event → LogLists
  again more = again_log keys a d l more

  -- the second slot of such a log
  record IsSecond (more : List Event) (t : SlotNotes) (rest : List SlotNotes) : Type 0 where
    pub start_is : t.start ≡ 1008
    pub point_is : t.point ≡ real a d
    pub notes_are : later_events t ++ all_events keys rest ≡ more
    pub done : IsDone keys (again more) (put_log keys a d l top up).events t ⊎ (IsBare t × (rest ≡ []))

  -- the first slot's events are those of the log in which it is alone
  first_events : (s : SlotNotes) → s.start ≡ 256 → s.asked ≡ Some 0 → s.point ≡ real a first_counter
      → later_events s ≡ Tagged (message_of a d l) ∷ [] → events_of keys s ≡ (put_log keys a d l top up).events
  first_events s start asked point later =
      ap (λ (r : List Event). drawn_events keys s.start s.asked s.point ++ r) later
      ∙ ap (λ (p : Point). drawn_events keys s.start s.asked p ++ Tagged (message_of a d l) ∷ []) point
      ∙ ap (λ o. drawn_events keys s.start o (real a first_counter) ++ Tagged (message_of a d l) ∷ []) asked
      ∙ ap (λ n. drawn_events keys n (Some 0) (real a first_counter) ++ Tagged (message_of a d l) ∷ []) start

  second_slot : (more : List Event) → LogOrder keys (again more)
      → (t : SlotNotes) × (rest : List SlotNotes) × IsSecond more t rest
  second_slot more o =
      let zs = drawn_events keys 1008 (Some 752) (real a d) ++ more in
      let x = first_slot keys (again more) 256 (Some 0) (real a first_counter)
      (record { 0 = keys.leaf_of (real a first_counter) }) (Tagged (message_of a d l) ∷ []) zs (tt, tt)
      (λ quiet. quiet) o refl in
      by_slots x.s x.later (first_events x.s x.start_is x.asked_is x.point_is x.tail_is) x.later_are x.order
    where
      by_slots : (s : SlotNotes) (later : List SlotNotes) → events_of keys s ≡ (put_log keys a d l top up).events
          → all_events keys later ≡ drawn_events keys 1008 (Some 752) (real a d) ++ more
          → AreInOrder keys (again more) (events_of keys s) 0 later
          → (t : SlotNotes) × (rest : List SlotNotes) × IsSecond more t rest
      by_slots s [] events are order = absurd cc
      by_slots s (t ∷ rest) events are order =
          let start : t.start ≡ 1008 = cc in
          let point : t.point ≡ real a d = cc in
          let notes : later_events t ++ all_events keys rest ≡ more = cc in (
            t,
            rest,
            record {
              start_is = start;
              point_is = point;
              notes_are = notes;
              done = subst (λ l. IsDone keys (again more) l t ⊎ (IsBare t × (rest ≡ []))) events order.1;
            },
          )

  same_hand : (one other : List Entry) → (let left : Result (List Entry) Evidence = Ok one in left ≡ Ok other)
      → one ≡ other
  same_hand one other is = cc

  -- in a second slot of which something is noted, what was put back is accepted first
  accepts_back : (one : Event) (more : List Event) → LogOrder keys (again (one ∷ more))
      → one ≡ Accepted (message_of a d l) (tag keys.tags (message_of a d l))
  accepts_back one more o = by_slot (second_slot (one ∷ more) o)
    where
      by_slot : (t : SlotNotes) × (rest : List SlotNotes) × IsSecond (one ∷ more) t rest
          → one ≡ Accepted (message_of a d l) (tag keys.tags (message_of a d l))
      by_slot (t, rest, x) = elim x.done [
        | inl done ↦
            (let k = put_log keys a d l top up in
            let read : IsReadTo keys.pads keys.shape 1008 (keys.leaf_of (real a d)) []
            (whole keys (first_fold keys) k) done.joined =
            subst (λ n. IsReadTo keys.pads keys.shape n (keys.leaf_of (real a d)) []
            (whole keys (first_fold keys) k) done.joined) x.start_is
            (subst (λ (p : Point). IsReadTo keys.pads keys.shape t.start (keys.leaf_of p) []
            (whole keys (first_fold keys) k) done.joined) x.point_is done.read) in
            let here = subst (λ (now : Contents). IsReadTo keys.pads keys.shape 1008 (keys.leaf_of (real a d)) [] now
            done.joined) (says_put keys a d l top up) read in
            let hand = same_hand done.joined (joined keys a d l top up) (sym here ∙ is_read keys a d l top up) in
            let taken = subst (λ (p : Point). IsTaken keys done.joined p t) x.point_is done.taken in
            let is_found : t.found ≡ Some (entry_of keys a d l) =
            sym taken.0 ∙ ap (λ h. held h (record { 0 = a })) hand ∙ finds keys a d l top up in
            let notes : (accepted_events (real a d) (Some (entry_of keys a d l)) ++ (put_events t.put
            ++ (chosen_events t.chosen ++ behind_events t.behind))) ++ all_events keys rest ≡ one ∷ more =
            subst (λ (f : Option Entry). (accepted_events (real a d) f ++ (put_events t.put
            ++ (chosen_events t.chosen ++ behind_events t.behind))) ++ all_events keys rest ≡ one ∷ more) is_found
            (subst (λ (p : Point). (accepted_events p t.found ++ (put_events t.put
            ++ (chosen_events t.chosen ++ behind_events t.behind))) ++ all_events keys rest ≡ one ∷ more) x.point_is
            x.notes_are) in
            cc)
        | inr (bare, last) ↦ absurd (nothing_more t rest bare last x.point_is x.notes_are)
      ]
        where
          nothing_more : (s : SlotNotes) (rest : List SlotNotes) → IsBare s → rest ≡ [] → s.point ≡ real a d
              → later_events s ++ all_events keys rest ≡ one ∷ more → ⊥
          nothing_more s rest bare last point is =
              let none : later_events s ++ all_events keys rest ≡ [] =
              ap (λ (r : List SlotNotes). later_events s ++ all_events keys r) last
              ∙ ap (λ (p : Point). (accepted_events p s.found ++ (put_events s.put
              ++ (chosen_events s.chosen ++ behind_events s.behind))) ++ []) point
              ∙ (rw bare.found rw bare.put rw bare.chosen rw bare.behind refl) in
              let bad : one ∷ more ≡ [] = sym is ∙ none in cc

  pub lost : (e : Counter) → LogOrder keys (again (fetched (message_of a e zero_line) a zero_line)) → ⊥
  lost e o = let bad = accepts_back (Tagged (message_of a e zero_line)) _ o in cc

  pub other_read : (m : Message) (u : List ℕ) → (m ≡ message_of a d l → ⊥)
      → LogOrder keys (again (Accepted m u ∷ [])) → ⊥
  other_read m u other o = let same = accepts_back (Accepted m u) [] o in other cc
