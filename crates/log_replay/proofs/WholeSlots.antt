-- Between two slots a log's moves end with a whole slot, or there are none; so the log says the buckets.
use Rattle.std.proofs.Common.{◌≡◌, ◌+◌, ◌++◌, inl, inr, ℕ, false, if◌then◌else◌, ◌==◌, Bool, List, [], ◌∷◌, length}
use Rattle.std.proofs.Common.{refl, sym, ◌∙◌, ap, arith, append-nil, append_assoc}
use Rattle.std.proofs.lemmas.Bool.Decides.{eqb_tells}
use Rattle.bus_schedule.specs.Schedule.{moves_of}
use Rattle.bus_schedule.specs.Shown.{leaves_of}
use Rattle.bus_watch.specs.Log.{LogLists}
use Rattle.bus_watch.specs.Path.{slot_moves}
use Rattle.bus_watch.specs.declared.log.Move.{Move}
use Rattle.oram_contents.specs.Contents.{Contents}
use Rattle.oram_contents.specs.Entries.{Keys}
use Rattle.oram_contents.specs.Fold.{Whole, settle, partly, fold_events, written_ok}
use Rattle.oram_contents.specs.Starts.{empty_log, first_contents, first_fold}
use Rattle.oram_contents.proofs.Cuts.{whole_contents}
use Rattle.oram_contents.proofs.StartLaws.{start_always}
use Rattle.log_replay.specs.Judged.{SaysMirror}
use Rattle.log_replay.specs.Order.{SlotNotes}
use Rattle.log_replay.proofs.Orders.{all_events}
use Rattle.log_replay.proofs.ReplayedLogs.{IsReplayedLog}

-- the moves of slots end with those of the last one
pub last_whole : (levels start leaf : ℕ) (starts leaves : List ℕ) → length starts ≡ length leaves
    → (before : List Move) × (begun : ℕ) × (last : ℕ)
    × (moves_of levels (start ∷ starts) (leaf ∷ leaves) ≡ before ++ slot_moves levels begun last)
unfolding moves_of
last_whole levels start leaf [] [] same = ([], start, leaf, append-nil (slot_moves levels start leaf))
last_whole levels start leaf [] (next ∷ leaves) same = absurd (omega arith)
last_whole levels start leaf (next ∷ starts) [] same = absurd (omega arith)
last_whole levels start leaf (next ∷ starts) (other ∷ leaves) same =
    let rest = last_whole levels next other starts leaves (omega arith) in (
      slot_moves levels start leaf ++ rest.0,
      rest.1,
      rest.2,
      ap (λ l. slot_moves levels start leaf ++ l) rest.3
          ∙ sym (append_assoc (slot_moves levels start leaf) rest.0 (slot_moves levels rest.1 rest.2)),
    )

module _ (keys : Keys) (stash : ℕ) (log : LogLists) (now : Contents) (n : ℕ)
    (x : IsReplayedLog keys stash log now n) where
  -- a log with a slot shows a leaf
  shows_leaf : (s : SlotNotes) (later : List SlotNotes) → leaves_of (all_events keys (s ∷ later)) ≡ [] → ⊥
  shows_leaf s later none = omega (arith, ap length none)

  -- where no move is noted there was no slot
  none_noted : log.moves ≡ [] → leaves_of log.events ≡ [] → SaysMirror keys log Whole now.mirror
  none_noted moves leaves = by_slots x.order.slots x.order.events
    where
      none_written : (written_ok Whole log.moves == keys.shape.levels + 1) ≡ false
      none_written =
          let none : written_ok Whole log.moves ≡ 0 = ap (written_ok Whole) moves in
          elim (eqb_tells (written_ok Whole log.moves) (keys.shape.levels + 1))
          [ inl same ↦ absurd (omega (arith, same.1, none)) | inr other ↦ other.0 ]

      by_slots : (slots : List SlotNotes) → log.events ≡ all_events keys slots → SaysMirror keys log Whole now.mirror
      by_slots [] none =
          let folded = fold_events keys log.altered 0 log.events (first_fold keys) in
          ap (λ (b : Bool). (if b then (settle keys folded).now else partly keys
          (written_ok Whole log.moves) folded).mirror) none_written
          ∙ ap (λ w. (partly keys w folded).mirror) (ap (written_ok Whole) moves)
          ∙ ap (λ l. (partly keys 0 (fold_events keys log.altered 0 l (first_fold keys))).mirror) none
          ∙ ap (λ l. (settle keys (fold_events keys log.altered 0 l (first_fold keys))).now.mirror) (sym none)
          ∙ ap (λ (c : Contents). c.mirror) x.contents_are
      by_slots (s ∷ later) some = absurd (shows_leaf s later (ap leaves_of (sym some) ∙ leaves))

  -- between two slots the log says the buckets
  pub says_buckets : (starts : List ℕ) → length starts ≡ length (leaves_of log.events)
      → log.moves ≡ moves_of keys.shape.levels starts (leaves_of log.events) → SaysMirror keys log Whole now.mirror
  unfolding moves_of
  says_buckets starts same moves = by_lists starts (leaves_of log.events) refl same moves
    where
      by_lists : (starts leaves : List ℕ) → leaves_of log.events ≡ leaves → length starts ≡ length leaves
          → log.moves ≡ moves_of keys.shape.levels starts leaves → SaysMirror keys log Whole now.mirror
      by_lists [] [] is same moves = none_noted moves is
      by_lists [] (leaf ∷ leaves) is same moves = absurd (omega arith)
      by_lists (start ∷ starts) [] is same moves = absurd (omega arith)
      by_lists (start ∷ starts) (leaf ∷ leaves) is same moves =
          let last = last_whole keys.shape.levels start leaf starts leaves (omega arith) in
          ap (λ (c : Contents). c.mirror)
          (whole_contents keys (first_fold keys) log last.0 last.1 last.2 (moves ∙ last.3) ∙ x.contents_are)

-- at the start
pub start_replayed : (keys : Keys) (stash : ℕ) → IsReplayedLog keys stash empty_log (first_contents keys) 0
start_replayed keys stash = record {
  order = record { slots = []; events = refl; order = tt; noted = λ reply h. absurd h };
  done = tt;
  dummies_are = refl;
  contents_are = refl;
  right = refl;
  always = start_always keys;
}
