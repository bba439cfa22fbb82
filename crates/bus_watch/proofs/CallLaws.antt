-- What each answer of a read and a write makes of memory and tap.
use Rattle.std.proofs.Common.{◌≡◌, ◌<◌, ◌+◌, ◌≤◌, inr, ℕ, false, true, List, [], ◌∷◌, ◌++◌, length, map, Option, None, Some}
use Rattle.std.proofs.Common.{IfSome, sym, ◌∙◌, ap, arith, subst, option_map, slice_get, slice_set}
use Rattle.std.proofs.lemmas.List.{append-nil}
use Rattle.asc_outside.specs.Memory.{MemoryState, Keeps}
use Rattle.bus_watch.specs.declared.log.Move.{Move}
use Rattle.bus_watch.specs.Honest.{StaysHonest}
use Rattle.bus_watch.specs.Log.{TapState, LogLists, read_move, write_move, with_move, with_reply}
use Rattle.bus_watch.specs.Made.{GainsAltered, Made}
use Rattle.bus_watch.specs.RunEnd.{RunEnd, Whole, MoveFailed, RanOut}
use Rattle.bus_watch.specs.Tied.{Exchange, move_of, reply_of, Tied, TiedAt}
use Rattle.bus_watch.proofs.HonestLaws.{honest_failed, honest_out, honest_same, honest_write}
use Rattle.bus_watch.proofs.Replies.{gains_none, reply-moves, reply-events, reply-gains, reply-altered, reply_honest}
use Rattle.bus_watch.proofs.TiedLaws.{IsAsked, tied_next, tied_cut, tied_failed}

-- the exchange of a read, and of a write
abbrev pub read_of : ℕ → ℕ → Option (List ℕ) → Exchange
read_of at number text = record { time = at; write = false; bucket = number; bytes = text }

abbrev pub write_of : ℕ → ℕ → Option (List ℕ) → Exchange
write_of at number text = record { time = at; write = true; bucket = number; bytes = text }

-- The tap took room for one move, and has as many buckets as before.
pub record TakesOne (t t' : TapState) : Type 0 where
  pub room : t.spare_moves ≤ t'.spare_moves + 1
  pub event_room : t'.spare_events ≡ t.spare_events
  pub mirrored : length t'.mirror ≡ length t.mirror

-- A move was noted, and nothing else.
pub record NotesMove (move : Move) (t t' : TapState) : Type 0 where
  pub log : t'.log ≡ with_move t.log move
  pub takes : TakesOne t t'

module _ {m m' : MemoryState} {t t' : TapState} (x : Exchange) (asked : IsAsked x m m') (takes : TakesOne t t')
    (moves : t'.log.moves ≡ t.log.moves ++ move_of x ∷ []) (events : t'.log.events ≡ t.log.events) where
  made_at : (end : RunEnd) → (end ≡ MoveFailed → m.faults < m'.faults) → GainsAltered t.log t'.log
      → ((start : MemoryState) (buckets : List (List ℕ)) → Tied start buckets m t → TiedAt end start buckets m' t')
      → StaysHonest end m m' t t' → Made end (move_of x ∷ []) [] m m' t t'
  made_at end cause replies tied honest = record {
    moves_are = moves;
    events_are = events ∙ sym (append-nil t.log.events);
    replies = replies;
    asked = asked.moved;
    prepared = asked.count;
    linked = asked.link;
    later = asked.later;
    cause = cause;
    mirrored = takes.mirrored;
    room = takes.room;
    event_room = omega (arith, takes.event_room);
    tied = tied;
    honest = honest;
  }

module _ {m m' : MemoryState} {t t' : TapState} (x : Exchange) (asked : IsAsked x m m')
    (noted : NotesMove (move_of x) t t') where
  moves : t'.log.moves ≡ t.log.moves ++ move_of x ∷ []
  moves = ap (λ (l : LogLists). l.moves) noted.log

  altered : t'.log.altered ≡ t.log.altered
  altered = ap (λ (l : LogLists). l.altered) noted.log

  made_by : (end : RunEnd) → (end ≡ MoveFailed → m.faults < m'.faults)
      → ((start : MemoryState) (buckets : List (List ℕ)) → Tied start buckets m t → TiedAt end start buckets m' t')
      → StaysHonest end m m' t t' → Made end (move_of x ∷ []) [] m m' t t'
  made_by end cause tied honest =
      made_at x asked noted.takes moves (ap (λ (l : LogLists). l.events) noted.log) end cause
      (gains_none t.log t'.log altered) tied honest

  -- The memory failed.
  pub move_failed : t'.mirror ≡ t.mirror → x.bytes ≡ None → Keeps m.told m'.told → m.faults < m'.faults
      → Made MoveFailed (move_of x ∷ []) [] m m' t t'
  move_failed mirror unanswered told rose =
      made_by MoveFailed (λ e. rose)
      (λ start buckets tied. tied_failed start buckets t t' x asked moves tied mirror altered unanswered)
      (honest_failed m m' t t' told mirror altered)

  -- Memory ran out, before the mirror was changed.
  pub move_out : t'.mirror ≡ t.mirror → Made RanOut (move_of x ∷ []) [] m m' t t'
  move_out mirror =
      made_by RanOut (λ e. cc)
      (λ start buckets tied. inr (tied_cut start buckets t t' x asked moves tied mirror altered))
      (honest_out m m' t t' altered)

-- An Ok write.
pub written : (at number : ℕ) (text : List ℕ) {m m' : MemoryState} {t t' : TapState}
    → IsAsked (write_of at number (Some text)) m m' → NotesMove (write_move at number) t t'
    → t'.mirror ≡ slice_set t.mirror number text → m'.told ≡ option_map (λ all. slice_set all number text) m.told
    → Made Whole (write_move at number ∷ []) [] m m' t t'
written at number text {m} {m'} {t} {t'} asked noted mirror told =
    let x = write_of at number (Some text) in
    let same : t'.log.altered ≡ t.log.altered = ap (λ (l : LogLists). l.altered) noted.log in
    made_by x asked noted Whole (λ e. cc)
    (λ start buckets tied. tied_next start buckets t t' x asked (ap (λ (l : LogLists). l.moves) noted.log) tied
    (λ none. cc) mirror
    (ap (map reply_of) same ∙ sym (append-nil _)))
    (honest_write m m' t t' number text told mirror same)

-- the log after a read's move and its reply
pub reply_noted : (t mid : TapState) (log : LogLists) (at number : ℕ) (text : List ℕ)
    → mid.log ≡ with_move t.log (read_move at number) → mid.mirror ≡ t.mirror
    → log ≡ with_reply mid.log mid.mirror at number text
    → log ≡ with_reply (with_move t.log (read_move at number)) t.mirror at number text
reply_noted t mid log at number text moved mirror replied =
    replied ∙ ap (λ l. with_reply l mid.mirror at number text) moved
    ∙ ap (λ b. with_reply (with_move t.log (read_move at number)) b at number text) mirror

-- An Ok read, and its reply.
pub replied : (at number : ℕ) (text : List ℕ) {m m' : MemoryState} {t t' : TapState}
    → IsAsked (read_of at number (Some text)) m m' → TakesOne t t'
    → t'.log ≡ with_reply (with_move t.log (read_move at number)) t.mirror at number text
    → t'.mirror ≡ t.mirror → m'.told ≡ m.told → IfSome m.told (λ all. slice_get all number ≡ Some text)
    → Made Whole (read_move at number ∷ []) [] m m' t t'
replied at number text {m} {m'} {t} {t'} asked takes log mirror told gives =
    let x = read_of at number (Some text) in
    let noted : LogLists = with_move t.log (read_move at number) in
    let moves : t'.log.moves ≡ t.log.moves ++ read_move at number ∷ [] =
    ap (λ (l : LogLists). l.moves) log ∙ reply-moves noted t.mirror at number text in
    let gained = reply-gains noted t.mirror at number text in
    let replies : GainsAltered t.log (with_reply noted t.mirror at number text) =
    record { altered = gained.altered; gained = gained.gained; before = gained.before } in
    made_at x asked takes moves (ap (λ (l : LogLists). l.events) log ∙ reply-events noted t.mirror at number text)
    Whole (λ e. cc) (subst (GainsAltered t.log) (sym log) replies)
    (λ start buckets tied. tied_next start buckets t t' x asked moves tied (λ none. cc) mirror
    (ap (λ (l : LogLists). map reply_of l.altered) log ∙ reply-altered noted t.mirror at number text))
    (honest_same m m' t t' told mirror (λ is. ap (λ (l : LogLists). l.altered) log
    ∙ reply_honest noted t.mirror at number text m.told gives is))
