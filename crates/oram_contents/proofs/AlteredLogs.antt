-- A log with an altered reply that shows a forgery, and logs with one that show none.
use Rattle.std.proofs.Common.{◌≡◌, ◌<◌, inl, inr, ℕ, zero, suc, Bool, true, false, not, ◌&&◌, ◌||◌, nat_le}
use Rattle.std.proofs.Common.{List, [], ◌∷◌, ◌++◌, length, All, None, Some, Ok, refl, sym, ◌∙◌, ap, subst, arith}
use Rattle.std.specs.Prelude.{bytes_eq}
use Rattle.asc_base.specs.Has.{Has}
use Rattle.asc_base.specs.declared.block.Counter.{Counter}
use Rattle.asc_base.specs.declared.block.Entry.{Entry}
use Rattle.asc_base.specs.declared.block.Message.{Message}
use Rattle.asc_base.proofs.Members.{has_right}
use Rattle.bucket_codec.specs.Bucket.{bucket_text, opened}
use Rattle.bucket_codec.specs.Slot.{IsSlot, IsInRange}
use Rattle.bucket_codec.proofs.Buckets.{opened_bucket}
use Rattle.bus_watch.specs.declared.log.Altered.{Altered}
use Rattle.bus_watch.specs.declared.log.Event.{Event}
use Rattle.bus_watch.specs.declared.log.Event.TheVariants.{Access, Tagged, Accepted}
use Rattle.pmmac_tags.specs.Tag.{tag}
use Rattle.posmap_counters.specs.Counters.{first_counter}
use Rattle.oram_contents.specs.Contents.{entries_of}
use Rattle.oram_contents.specs.Decided.{same_message, last_draws_it, reply_has, among, shows_forgery}
use Rattle.oram_contents.specs.Entries.{Keys, AreKeys, real, message_of, entry_of, entries_in}
use Rattle.oram_contents.specs.Forgery.{Forgery, Stood}
use Rattle.oram_contents.specs.Slots.{drawn_events}
use Rattle.oram_contents.specs.Starts.{altered_log}
use Rattle.oram_contents.proofs.PutSteps.{entry_typed}
use Rattle.oram_contents.proofs.Among.{tagged_same}
use Rattle.oram_contents.proofs.Deciding.{decides_message, decides_forgery}

-- what two slots note before a line is accepted
abbrev earlier_events : Keys → ℕ → Counter → List ℕ → List Event
earlier_events keys a c put = drawn_events keys 256 (Some 0) (real a first_counter) ++ (Tagged (message_of a c put)
    ∷ drawn_events keys 1008 (Some 752) (real a c))

abbrev pub root_reply : Keys → ℕ → Counter → List ℕ → Altered
root_reply keys a c stood = record {
  time = 1008;
  bucket = 0;
  bytes = bucket_text keys.pads 1 (Some (entry_of keys a c stood) ∷ None ∷ None ∷ None ∷ []);
  before = 5;
}

tested : (b : Bool) → b ≡ false → (b ≡ true → ⊥)
tested b is holds = let bad : true ≡ false = sym holds ∙ is in cc

module _ (keys : Keys) (lawful : AreKeys keys) (a : ℕ) (c : Counter) (inside : a < keys.shape.total) where
  -- a sealed bucket with an entry in its first slot alone opens to that slot
  pub one_opens : (l : List ℕ) → length l ≡ 64
      → opened keys.pads keys.shape
      (bucket_text keys.pads 1 (Some (entry_of keys a c l) ∷ None ∷ None ∷ None ∷ []))
      ≡ Ok (Some (entry_of keys a c l) ∷ None ∷ None ∷ None ∷ [])
  one_opens l whole =
      opened_bucket keys.pads keys.shape 1 (Some (entry_of keys a c l) ∷ None ∷ None ∷ None ∷ [])
      (omega arith) (omega arith) (record { four = refl; each = each_slot }) each_range
    where
      each_slot : All IsSlot (Some (entry_of keys a c l) ∷ None ∷ None ∷ None ∷ [])
      each_slot zero d less = entry_typed keys lawful a c l inside whole
      each_slot (suc zero) d less = tt
      each_slot (suc (suc zero)) d less = tt
      each_slot (suc (suc (suc zero))) d less = tt
      each_slot (suc (suc (suc (suc k)))) d less = absurd (omega arith)

      each_range : All (IsInRange keys.shape) (Some (entry_of keys a c l) ∷ None ∷ None ∷ None ∷ [])
      each_range zero d less = (inside, lawful.leaves (real a c))
      each_range (suc zero) d less = tt
      each_range (suc (suc zero)) d less = tt
      each_range (suc (suc (suc zero))) d less = tt
      each_range (suc (suc (suc (suc k)))) d less = absurd (omega arith)

  -- so it has that entry alone
  one_entry : (l : List ℕ) → length l ≡ 64
      → entries_in keys (bucket_text keys.pads 1 (Some (entry_of keys a c l) ∷ None ∷ None ∷ None ∷ []))
      ≡ entry_of keys a c l ∷ []
  one_entry l whole = ap entries_of (one_opens l whole)

  -- a line that stood in a reply is accepted, and another one was tagged
  pub forged : (put found : List ℕ) → length found ≡ 64 → (found ≡ put → ⊥)
      → Forgery keys (altered_log keys a c put found found)
  forged put found whole other = record {
    earlier = earlier_events keys a c put;
    later = [];
    message = message_of a c found;
    found = (entry_of keys a c found).tag;
    accepted = refl;
    never = never;
    point = (
      drawn_events keys 256 (Some 0) (real a first_counter)
          ++ (Tagged (message_of a c put) ∷ Access 1008 (Some 752) ∷ []),
      [],
      record { 0 = keys.leaf_of (real a c) },
      refl,
      λ p x h. h,
    );
    valid = refl;
    reply = root_reply keys a c found;
    altered = inl refl;
    before = omega arith;
    stood = (
      entry_of keys a c found,
      subst (λ l. Has (entry_of keys a c found) l) (sym (one_entry found whole)) (inl refl),
      refl,
      refl,
      refl,
    );
  }
    where
      never : Has (Tagged (message_of a c found)) (earlier_events keys a c put) → ⊥
      never (inl e) = cc
      never (inr (inl e)) = cc
      never (inr (inr (inl e))) =
          other (ap (λ (m : Message). m.line.0) (tagged_same (message_of a c found) (message_of a c put) e))
      never (inr (inr (inr (inl e)))) = cc
      never (inr (inr (inr (inr (inl e))))) = cc
      never (inr (inr (inr (inr (inr h))))) = h

  pub shown : (put found : List ℕ) → length found ≡ 64 → (found ≡ put → ⊥)
      → shows_forgery keys (altered_log keys a c put found found) ≡ true
  shown put found whole other = (decides_forgery keys (altered_log keys a c put found found)).1
      (forged put found whole other)

  -- a line is accepted that didn't stand in the reply
  pub elsewhere : (put stood found : List ℕ) → length stood ≡ 64 → (found ≡ stood → ⊥)
      → Forgery keys (altered_log keys a c put stood found) → ⊥
  elsewhere put stood found whole other f =
      let only = accepted_is (subst (λ x. Has (Accepted f.message f.found) x) (sym f.accepted)
      (has_right (Accepted f.message f.found) f.earlier (Accepted f.message f.found ∷ f.later) (inl refl))) in
      let reply : Stood keys (root_reply keys a c stood) f.message.address.0 f.message.line.0 f.found =
      subst (λ r. Stood keys r f.message.address.0 f.message.line.0 f.found) (reply_is f.altered) f.stood in
      let entry = entry_is (subst (λ l. Has reply.0 l) (one_entry stood whole) reply.1) in
      other (sym (ap (λ (m : Message). m.line.0) only) ∙ sym reply.3 ∙ ap (λ (e : Entry). e.line.0) entry)
    where
      message_in : {m n : Message} {t u : List ℕ} → Accepted m t ≡ Accepted n u → m ≡ n
      message_in e = cc

      accepted_is : {m : Message} {t : List ℕ}
          → Has (Accepted m t) (altered_log keys a c put stood found).events → m ≡ message_of a c found
      accepted_is (inl e) = cc
      accepted_is (inr (inl e)) = cc
      accepted_is (inr (inr (inl e))) = cc
      accepted_is (inr (inr (inr (inl e)))) = cc
      accepted_is (inr (inr (inr (inr (inl e))))) = cc
      accepted_is (inr (inr (inr (inr (inr (inl e)))))) = message_in e
      accepted_is (inr (inr (inr (inr (inr (inr h)))))) = absurd h

      reply_is : {r : Altered} → Has r (root_reply keys a c stood ∷ []) → r ≡ root_reply keys a c stood
      reply_is (inl e) = e
      reply_is (inr h) = absurd h

      entry_is : {e : Entry} → Has e (entry_of keys a c stood ∷ []) → e ≡ entry_of keys a c stood
      entry_is (inl e) = e
      entry_is (inr h) = absurd h

module _ (keys : Keys) (a : ℕ) (c : Counter) (put stood : List ℕ) where
  -- the line that was put back is accepted
  pub unshown : shows_forgery keys (altered_log keys a c put stood put) ≡ false
  unshown =
      let m : Message = message_of a c put in
      let t : List ℕ = tag keys.tags m in
      let earlier : List Event = earlier_events keys a c put in
      let replies : List Altered = root_reply keys a c stood ∷ [] in
      let same : same_message m m ≡ true = (decides_message m m).1 refl in
      ap (λ b. not (b || false) && (last_draws_it m earlier && (bytes_eq t t
      && among (λ (reply : Altered). nat_le reply.before (length earlier) && reply_has keys m t reply) replies))
      || false) same

  pub unforged : Forgery keys (altered_log keys a c put stood put) → ⊥
  unforged f = tested (shows_forgery keys (altered_log keys a c put stood put)) unshown
      ((decides_forgery keys (altered_log keys a c put stood put)).1 f)
