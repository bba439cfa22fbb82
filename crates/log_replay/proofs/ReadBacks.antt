-- A log of two slots in which no reply was altered: what the first puts back is what the second finds.
use Rattle.std.proofs.Common.{◌≡◌, inl, inr, ℕ, List, [], ◌∷◌, ◌++◌, Option}
use Rattle.std.proofs.Common.{None, Some, refl, sym, ◌∙◌, ap, subst, arith}
use Rattle.asc_base.proofs.Members.{all_has, has_all, has_new}
use Rattle.asc_base.specs.Has.{Has}
use Rattle.asc_base.specs.declared.block.Counter.{Counter}
use Rattle.asc_base.specs.declared.block.Entry.{Entry}
use Rattle.asc_base.specs.declared.block.Message.{Message}
use Rattle.asc_base.proofs.Lookups.{none_is_not}
use Rattle.bucket_codec.specs.Bucket.{empty_slots}
use Rattle.bucket_codec.specs.Slot.{IsEntry, IsInRange}
use Rattle.bus_watch.specs.Log.{LogLists}
use Rattle.bus_watch.specs.declared.log.Altered.{Altered}
use Rattle.bus_watch.specs.declared.log.Event.TheVariants.{Tagged}
use Rattle.oram_contents.specs.Contents.{Contents, IsReadTo, after_write}
use Rattle.oram_contents.specs.Counts.{Ghost, line_at}
use Rattle.oram_contents.specs.Entries.{Keys, real, message_of, entry_of}
use Rattle.oram_contents.specs.Fold.{with_entry, whole}
use Rattle.oram_contents.specs.Home.{Home, AreInForm}
use Rattle.oram_contents.specs.Provenance.{Sound, Always, Known, message_in}
use Rattle.oram_contents.specs.Slots.{drawn_events, done, IsAccess, IsRead}
use Rattle.oram_contents.specs.Starts.{empty_log, first_contents, first_fold, first_ghost}
use Rattle.oram_contents.specs.Steps.{opened_at}
use Rattle.oram_contents.specs.Verdict.{judged}
use Rattle.oram_contents.proofs.ReadSteps.{read_sound, read_always}
use Rattle.oram_contents.proofs.Final.{data_line, final_always, final_sound, put_hand_always}
use Rattle.oram_contents.proofs.Folding.{whole_access}
use Rattle.oram_contents.proofs.Found.{held_has, nothing_wrong}
use Rattle.oram_contents.proofs.HomeLaws.{home_read}
use Rattle.oram_contents.proofs.HomeSlots.{access_home}
use Rattle.oram_contents.proofs.Honest.{write_in_form, honest_read, honest_found}
use Rattle.oram_contents.proofs.Joined.{joined_from}
use Rattle.oram_contents.proofs.Lines.{put_same}
use Rattle.oram_contents.proofs.StartLaws.{start_sound, start_always, start_home}
use Rattle.oram_stash.specs.Entries.{held, without}
use Rattle.pmmac_tags.specs.Tag.{tag}
use Rattle.posmap_counters.specs.Counters.{first_counter, IsBefore}
use Rattle.log_replay.specs.Rows.{log_of, block_events, IsTopLine}
use Rattle.log_replay.proofs.FirstReads.{read_empty, opens_empty}
use Rattle.log_replay.proofs.SlotSplits.{none_held}

-- the block whose slot comes next
abbrev next_up : Ghost → ℕ → Ghost
next_up g a = record g { pend = Some a }

-- no counter is before itself
never : IsBefore first_counter first_counter → ⊥
never (inl some) = omega (arith, some)
never (inr (same, some)) = omega (arith, some)

module _ (keys : Keys) (a : ℕ) (d : Counter) (l : List ℕ) (top : IsTopLine keys a l) (up : IsBefore first_counter d)
  where
    abbrev pub put_log : LogLists
    put_log = log_of (block_events keys a first_counter (Tagged (message_of a d l) ∷ []))

    abbrev pub put_contents : Contents
    put_contents = after_write keys.pads keys.shape.levels (keys.leaf_of (real a first_counter))
        (with_entry (record (first_contents keys) { hand = without [] (record { 0 = a }) }) (entry_of keys a d l))

    abbrev first_up : Ghost
    first_up = next_up first_ghost a

    abbrev put_ghost : Ghost
    put_ghost = done first_up a d l

    abbrev slot : IsAccess keys empty_log put_log (first_contents keys) put_contents 256 a first_counter d None l
    slot = record {
      asked = Some 0;
      altered = [];
      joined = [];
      events_are = refl;
      altered_are = refl;
      noted = λ k e less. absurd (omega arith);
      read = read_empty keys 256 (keys.leaf_of (real a first_counter));
      of_shape = λ k e less. absurd (omega arith);
      found_is = none_held keys a;
      right = refl;
      after_is = refl;
    }

    up_sound : Sound keys empty_log first_up (first_contents keys)
    up_sound =
        let s = start_sound keys in record {
          fresh = s.fresh;
          last = s.last;
          once = s.once;
          blank = s.blank;
          drawn = λ b c x h. absurd h;
          dummies = s.dummies;
          away = s.away;
          at_hand = s.at_hand;
          in_tree = s.in_tree;
        }

    own_line : l ≡ line_at keys.shape put_ghost a
    own_line = data_line keys (record put_ghost { data_lines = first_up.data_lines }) a l top.children

    put_sound : Sound keys put_log put_ghost put_contents
    put_sound = elim (final_sound keys top.lawful empty_log put_log first_up (first_contents keys) put_contents 256 a d
        None l slot (record { path = refl; flight = refl }) refl
        (record { inside = top.inside; up = up; parent = λ p is. absurd (none_is_not (sym top.parent ∙ is)) })
        (λ h. h) own_line top.line (omega arith) (start_always keys) up_sound) [
          | inl f ↦ absurd f.altered
          | inr s ↦ s.0
        ]

    pub put_always : Always keys put_log put_contents
    put_always = final_always keys top.lawful empty_log put_log first_up (first_contents keys) put_contents 256 a d
        None l slot top.inside top.line (omega arith) (start_always keys)

    put_home : Home keys put_ghost put_contents
    put_home = access_home keys top.lawful empty_log put_log first_up (first_contents keys) put_contents 256 a d None l
        slot refl refl refl top.inside top.line up (omega arith) (start_always keys) (start_home keys)

    stored_is : put_ghost.count a ≡ d
    stored_is = put_same first_up.count a d

    -- in a log in which nothing else was tagged, and no reply altered, what is known is what was put back
    known_is : (log : LogLists) → log.altered ≡ [] → ((m : Message) → Has (Tagged m) log.events → m ≡ message_of a d l)
        → (e : Entry) → Known keys log put_ghost.count e → e ≡ entry_of keys a d l
    known_is log none only e (inl o) = absurd (subst (λ (list : List Altered). Has o.0 list) none o.1)
    known_is log none only e (inr k) =
        let same = only (message_in e (put_ghost.count e.address.0)) k.tagged in
        let address : e.address.0 ≡ a = ap (λ (m : Message). m.address.0) same in
        let counter : put_ghost.count e.address.0 ≡ d = ap (λ (m : Message). m.counter) same in
        let line : e.line.0 ≡ l = ap (λ (m : Message). m.line.0) same in
        let leaf : e.leaf.0 ≡ keys.leaf_of (real a d) = k.leaf
        ∙ ap (λ b. keys.leaf_of (real b (put_ghost.count e.address.0))) address
        ∙ ap (λ c. keys.leaf_of (real a c)) counter in
        let valid : e.tag ≡ tag keys.tags (message_of a d l) = k.tag_is ∙ ap (tag keys.tags) same in
        λ i. record {
          address = record { 0 = address i };
          leaf = record { 0 = leaf i };
          line = record { 0 = line i };
          tag = valid i;
        }

    only_put : (m : Message) → Has (Tagged m) put_log.events → m ≡ message_of a d l
    only_put m (inl e) = absurd cc
    only_put m (inr (inl e)) = absurd cc
    only_put m (inr (inr (inl e))) = cc
    only_put m (inr (inr (inr h))) = absurd h

    -- what is at hand before the path is written
    abbrev back : Contents
    back = with_entry (record (first_contents keys) { hand = without [] (record { 0 = a }) }) (entry_of keys a d l)

    back_always : Always keys put_log back
    back_always = put_hand_always keys top.lawful empty_log put_log first_up (first_contents keys) put_contents 256 a d
        None l slot top.inside top.line (start_always keys)

    of_shape : IsEntry (entry_of keys a d l) × IsInRange keys.shape (Some (entry_of keys a d l))
    of_shape = all_has (λ (e : Entry). IsEntry e × IsInRange keys.shape (Some e)) (entry_of keys a d l) back.hand
        back_always.of_shape (has_new (entry_of keys a d l) (without [] (record { 0 = a })))

    in_form : AreInForm keys put_contents.mirror
    in_form = write_in_form keys top.lawful (keys.leaf_of (real a first_counter)) back
        (top.lawful.leaves (real a first_counter)) back_always.of_shape back_always.mirrored back_always.seeds
        (omega arith) (λ b inside. (empty_slots, opens_empty keys keys.shape.buckets b))

    -- the path of the block's second slot is read
    pub read : (joined : List Entry)
        × IsReadTo keys.pads keys.shape 1008 (keys.leaf_of (real a d)) [] put_contents joined
    read = honest_read keys top.lawful put_log put_ghost put_contents refl put_always put_sound put_home 1008
        (keys.leaf_of (real a d)) (top.lawful.leaves (real a d)) refl in_form

    abbrev pub joined : List Entry
    joined = read.0

    pub is_read : IsReadTo keys.pads keys.shape 1008 (keys.leaf_of (real a d)) [] put_contents joined
    is_read = read.1

    joined_is : (e : Entry) → Has e joined → e ≡ entry_of keys a d l
    joined_is e h = elim (joined_from keys 1008 (keys.leaf_of (real a d)) [] put_contents joined e is_read h) [
      | inl at ↦ known_is put_log refl only_put e (put_sound.at_hand e at)
      | inr from ↦ elim from [
        | inl o ↦ absurd (o.1)
        | inr there ↦ known_is put_log refl only_put e (put_sound.in_tree there.0 e tt there.1)
      ]
    ]

    abbrev read_log : LogLists
    read_log = log_of (put_log.events ++ drawn_events keys 1008 (Some 752) (real a d))

    slot_read : IsRead keys put_log read_log put_contents 1008 (real a d) joined
    slot_read = record {
      asked = Some 752;
      altered = [];
      adds = record { events_are = refl; altered_are = refl };
      noted = λ k e less. absurd (omega arith);
      read = is_read;
      of_shape = has_all (λ (e : Entry). IsEntry e × IsInRange keys.shape (Some e)) joined
          (λ e h. subst (λ (x : Entry). IsEntry x × IsInRange keys.shape (Some x)) (sym (joined_is e h)) of_shape);
    }

    next_sound : Sound keys put_log (next_up put_ghost a) put_contents
    next_sound =
        let s = put_sound in record {
          fresh = s.fresh;
          last = s.last;
          once = s.once;
          blank = s.blank;
          drawn = λ b c x h. elim (s.drawn b c x h) [ inl past ↦ inl past | inr now ↦ absurd (none_is_not now.0) ];
          dummies = s.dummies;
          away = s.away;
          at_hand = s.at_hand;
          in_tree = s.in_tree;
        }

    abbrev open_ghost : Ghost
    open_ghost = opened_at (next_up put_ghost a) (real a d) (keys.leaf_of (real a d))

    right : judged keys a d (held joined (record { 0 = a })) ≡ None
    right =
        let at_hand : Contents = record put_contents { hand = joined } in
        subst (λ c. judged keys a c (held joined (record { 0 = a })) ≡ None) stored_is
        (honest_found keys top.lawful read_log open_ghost at_hand refl
        (read_always keys put_log read_log (next_up put_ghost a) put_contents 1008 (real a d) joined slot_read
        put_always)
        (read_sound keys put_log read_log (next_up put_ghost a) put_contents 1008 (real a d) joined slot_read refl
        (refl, sym stored_is) next_sound)
        (home_read keys top.lawful (next_up put_ghost a) put_contents 1008 (keys.leaf_of (real a d)) joined
        put_ghost.dummies (top.lawful.leaves (real a d)) refl is_read put_home)
        a top.inside (ap (λ c. Some (keys.leaf_of (real a c))) (sym stored_is)) refl refl)

    -- it finds what was put back, which is right
    pub finds : held joined (record { 0 = a }) ≡ Some (entry_of keys a d l)
    finds = by_found (held joined (record { 0 = a })) refl
      where
        by_found : (o : Option Entry) → held joined (record { 0 = a }) ≡ o
            → held joined (record { 0 = a }) ≡ Some (entry_of keys a d l)
        by_found None is =
            let first : d ≡ first_counter = nothing_wrong keys a d (subst (λ o. judged keys a d o ≡ None) is right) in
            absurd (never (subst (IsBefore first_counter) first up))
        by_found (Some e) is = is ∙ ap Some (joined_is e (held_has joined (record { 0 = a }) e is).0)

    pub finds_right : judged keys a d (Some (entry_of keys a d l)) ≡ None
    finds_right = subst (λ o. judged keys a d o ≡ None) finds right

    -- over the contents that the first slot's events say
    pub says_put : whole keys (first_fold keys) put_log ≡ put_contents
    says_put = whole_access keys (first_fold keys) empty_log put_log (first_contents keys) put_contents 256 a
        first_counter d None l (λ reply h. absurd h) refl slot
