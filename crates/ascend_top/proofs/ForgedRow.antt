-- The headline holds by a forgery alone, of a report that isn't flat RV32IM's.
use Rattle.std.proofs.Common.{◌≡◌, ◌<◌, ◌+◌, ◌^◌, inl, inr, ℕ, zero, suc, List, [], ◌∷◌, ◌++◌, length, All, None, Some}
use Rattle.std.proofs.Common.{Option, refl, sym, ◌∙◌, ap, subst, arith}
use Rattle.std.specs.Prelude.{IsSome}
use Rattle.asc_base.specs.Has.{Has}
use Rattle.asc_base.specs.declared.block.Counter.{Counter}
use Rattle.asc_base.specs.declared.block.Entry.{Entry}
use Rattle.asc_base.specs.declared.settings.Config.{Config}
use Rattle.bucket_codec.proofs.Buckets.{opened_bucket}
use Rattle.bucket_codec.specs.Bucket.{bucket_text}
use Rattle.bucket_codec.specs.Slot.{IsEntry, IsInRange, IsSlot}
use Rattle.bus_schedule.specs.Schedule.{moves_of, schedule}
use Rattle.bus_schedule.specs.Scheduled.{log_code}
use Rattle.bus_schedule.specs.Shown.{starts_of, leaves_of, indices_of, code_of}
use Rattle.bus_schedule.specs.Timetable.{public_of, count_of, starts, starts_from, timetable}
use Rattle.bus_watch.specs.Log.{LogLists}
use Rattle.bus_watch.specs.Path.{along, reads}
use Rattle.bus_watch.specs.declared.log.Event.TheVariants.{Access, Tagged}
use Rattle.leaf_function.proofs.Leaves.{leaf_below}
use Rattle.leaf_function.specs.Leaf.{leaf_key}
use Rattle.oram_contents.specs.Contents.{entries_of}
use Rattle.oram_contents.specs.Entries.{Keys, real, message_of, entry_of, entries_in}
use Rattle.oram_contents.specs.Forgery.{Forgery}
use Rattle.oram_contents.specs.Slots.{drawn_events}
use Rattle.pmmac_tags.proofs.Tags.{length-tag}
use Rattle.run_play.specs.Rows.{small}
use Rattle.secure_machine.proofs.FlatRows as flat
use Rattle.secure_machine.specs.Rows.{IsSaid}
use Rattle.secure_machine.specs.Run.{IsFlatReport}
use Rattle.secure_machine.specs.declared.report.Ending.TheVariants.{Exit}
use Rattle.secure_machine.specs.declared.report.Report.{Report}
use Rattle.ascend_top.specs.EncryptedRun.{keys_from}
use Rattle.ascend_top.specs.Headline.{Headline, IsAlways, IsFlatOrPrefix, IsForged}
use Rattle.ascend_top.specs.Instance.{IsExit, IsForgedRun, forged_log}
use Rattle.ascend_top.specs.Lent.{Lent}
use Rattle.ascend_top.specs.declared.commands.flat.Program.{Program}

-- ---- the forgery
module _ (key : List ℕ) (a : ℕ) (c : Counter) (l : List ℕ) (inside : a < 66) (whole : length l ≡ 64) where
  leaf_is : (keys_from small key).leaf_of (real a c) < 2 ^ 5
  leaf_is = leaf_below (leaf_key key) 5 (real a c)

  typed : IsEntry (entry_of (keys_from small key) a c l)
  typed = record {
    address = omega (arith, inside);
    leaf = omega (arith, leaf_is);
    line = whole;
    tag = length-tag (keys_from small key).tags (message_of a c l);
  }

  -- the root's bucket has the entry alone
  one_entry : entries_in (keys_from small key)
      (bucket_text (keys_from small key).pads 1 (Some (entry_of (keys_from small key) a c l) ∷ None ∷ None ∷ None ∷ []))
      ≡ entry_of (keys_from small key) a c l ∷ []
  one_entry =
      ap entries_of (opened_bucket (keys_from small key).pads (keys_from small key).shape 1
      (Some (entry_of (keys_from small key) a c l) ∷ None ∷ None ∷ None ∷ [])
      (omega arith) (omega arith) (record { four = refl; each = each_slot }) each_range)
    where
      each_slot : All IsSlot (Some (entry_of (keys_from small key) a c l) ∷ None ∷ None ∷ None ∷ [])
      each_slot zero d less = typed
      each_slot (suc zero) d less = tt
      each_slot (suc (suc zero)) d less = tt
      each_slot (suc (suc (suc zero))) d less = tt
      each_slot (suc (suc (suc (suc k)))) d less = absurd (omega arith)

      each_range : All (IsInRange (keys_from small key).shape)
          (Some (entry_of (keys_from small key) a c l) ∷ None ∷ None ∷ None ∷ [])
      each_range zero d less = (inside, leaf_is)
      each_range (suc zero) d less = tt
      each_range (suc (suc zero)) d less = tt
      each_range (suc (suc (suc zero))) d less = tt
      each_range (suc (suc (suc (suc k)))) d less = absurd (omega arith)

  shows : Forgery (keys_from small key) (forged_log (keys_from small key) a c l)
  shows = record {
    earlier = drawn_events (keys_from small key) 256 (Some 0) (real a c);
    later = [];
    message = message_of a c l;
    found = (entry_of (keys_from small key) a c l).tag;
    accepted = refl;
    never = never;
    point = (
      Access 256 (Some 0) ∷ [],
      [],
      record { 0 = (keys_from small key).leaf_of (real a c) },
      refl,
      λ p x h. h,
    );
    valid = refl;
    reply = record {
      time = 256;
      bucket = 0;
      bytes = bucket_text (keys_from small key).pads 1
          (Some (entry_of (keys_from small key) a c l) ∷ None ∷ None ∷ None ∷ []);
      before = 2;
    };
    altered = inl refl;
    before = omega arith;
    stood = (
      entry_of (keys_from small key) a c l,
      subst (λ entries. Has (entry_of (keys_from small key) a c l) entries) (sym one_entry) (inl refl),
      refl,
      refl,
      refl,
    );
  }
    where
      never : Has (Tagged (message_of a c l)) (drawn_events (keys_from small key) 256 (Some 0) (real a c)) → ⊥
      never (inl e) = cc
      never (inr (inl e)) = cc
      never (inr (inr h)) = h

-- ---- the schedule
one_at : (code : ℕ) → timetable (public_of small) code 457 ≡ 256 ∷ []
unfolding timetable starts starts_from
one_at code = refl

schedule_one : (code leaf : ℕ) → schedule (public_of small) code (leaf ∷ []) 457 ≡ reads 5 256 leaf
unfolding schedule timetable starts starts_from moves_of along
schedule_one code leaf = refl

six_reads : (leaf : ℕ) → length (reads 5 256 leaf) ≡ 6
unfolding along
six_reads leaf = refl

code_none : (keys : Keys) (a : ℕ) (c : Counter) (l : List ℕ)
    → log_code (public_of small) (forged_log keys a c l) ≡ 0
unfolding code_of
code_none keys a c l = refl

always : (key : List ℕ) (a : ℕ) (c : Counter) (l : List ℕ) (lent : Lent)
    → lent.tap'.log ≡ forged_log (keys_from small key) a c l → lent.memory'.moved ≡ lent.memory.moved + 6
    → IsAlways small lent 457
always key a c l lent is asked =
    let p = public_of small in
    let leaf = (keys_from small key).leaf_of (real a c) in
    let code = log_code p lent.tap'.log in
    record {
      starts = ap (λ (log : LogLists). starts_of log.events) is ∙ sym (one_at code);
      leaves = ap (λ (log : LogLists). length (leaves_of log.events)) is ∙ sym (ap length (one_at code));
      moves = ap (λ (log : LogLists). log.moves) is ∙ sym (schedule_one code leaf)
          ∙ ap (λ (log : LogLists). schedule p code (leaves_of log.events) 457) (sym is);
      code = omega (arith, ap (λ (log : LogLists). log_code p log) is, code_none (keys_from small key) a c l);
      asked = omega (arith, asked, ap (λ (log : LogLists). length log.moves) is, six_reads leaf);
    }

-- ---- the headline
none_told : {X : Type 0} (told : Option X) → told ≡ None → IsSome told → ⊥
none_told None is some = cc
none_told (Some x) is some = cc

pub forged : (program : Program) (key : List ℕ) (lent : Lent) (a : ℕ) (c : Counter) (l : List ℕ)
    → IsForgedRun program key lent a c l → (report : Report) → report.last ≡ 457 → Headline program key lent report
forged program key lent a c l h report last =
    let shown : IsForged program key lent.tap'.log =
    subst (λ (config : Config). Forgery (keys_from config key) lent.tap'.log) (sym h.config)
    (subst (λ (log : LogLists). Forgery (keys_from small key) log) (sym h.log) (shows key a c l h.inside h.whole)) in
    record {
      flat = inr shown;
      honest = λ told. absurd (none_told lent.memory.told h.untold told);
      play = inr shown;
      always = subst (λ end. IsAlways program.config lent end) (sym last)
          (subst (λ (config : Config). IsAlways config lent 457) (sym h.config)
          (always key a c l lent h.log h.asked));
    }

-- a report of another status isn't flat
pub not_flat : (program : Program) → IsExit program → (report : Report) → IsSaid 2 (Exit 1) report
    → IsFlatOrPrefix program report → ⊥
not_flat program h report said is =
    flat.other_status program.image report h.image said
    (subst (λ (c : Config). IsFlatReport c program.image [] report) h.config
    (subst (λ input. IsFlatReport program.config program.image input report) h.input is.flat))
