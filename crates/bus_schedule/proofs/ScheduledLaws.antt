-- How far a log has come in the schedule: what keeps this, and what leads on.
use Rattle.std.proofs.Common.{◌≡◌, ℕ, suc, ◌+◌, ◌*◌, ◌^◌, ◌<◌, ◌≤◌, true, false, cond, List, [], ◌∷◌, ◌++◌, length}
use Rattle.std.proofs.Common.{Option, refl, sym, ◌∙◌, ap, arith, subst, append-nil, append_assoc, length-append}
use Rattle.std.specs.List.{flat_map, All}
use Rattle.std.proofs.lemmas.List.{get_or_append_left, get_or_push}
use Rattle.std.proofs.lemmas.List.Concat.{flat_map-append}
use Rattle.std.proofs.lemmas.List.Elements.{All-nil, All-push}
use Rattle.asc_base.specs.Settings.{IsPowerTo, IsConfig}
use Rattle.asc_base.specs.declared.settings.Config.{Config}
use Rattle.asc_base.specs.declared.block.Leaf.{Leaf}
use Rattle.asc_base.specs.declared.block.Point.{Point}
use Rattle.bus_watch.specs.declared.log.Move.{Move}
use Rattle.bus_watch.specs.declared.log.Event.{Event}
use Rattle.bus_watch.specs.declared.log.Event.TheVariants.{Access, Drawn, Chosen}
use Rattle.bus_watch.specs.Log.{LogLists, with_event}
use Rattle.bus_schedule.specs.declared.beat.Beat.{Beat}
use Rattle.bus_schedule.specs.Timetable.{Public, AgreeTo, public_of, ended_by, count_of, choices_of, rate_at}
use Rattle.bus_schedule.specs.Timetable.{digit_of, falls_next, beat_with, beat_at, start_at, starts_from, starts}
use Rattle.bus_watch.specs.Path.{slot_moves}
use Rattle.bus_schedule.specs.Schedule.{moves_of}
use Rattle.bus_schedule.specs.Shown.{start_of, leaf_of, index_of, starts_of, leaves_of, indices_of, AreSilent, code_of}
use Rattle.bus_schedule.specs.Scheduled.{log_code, IsScheduled, HasChosen, Between, Inside, ShowsNoMore}
use Rattle.bus_schedule.proofs.TimetableLaws.{length-starts, starts-next, beat-agrees, starts-agree}
use Rattle.bus_schedule.proofs.ChoiceLaws.{choices-few, codes-few}
use Rattle.bus_schedule.proofs.PublicParts.{count-power}
use Rattle.bus_schedule.proofs.CodeLaws.{code-append, code-below, digit-of-code}
use Rattle.bus_schedule.proofs.ScheduleLaws.{moves_of-last}

-- nothing was noted
pub between-none : (p : Public) (log : LogLists) → log.events ≡ [] → log.moves ≡ [] → Between p 0 log
unfolding starts starts_from moves_of beat_at
between-none p log events moves =
    record {
      chosen = record {
        indices = subst (λ l. All (λ index. index < count_of p) (indices_of l)) (sym events)
            (All-nil (λ index. index < count_of p));
        fell = ap (λ l. length (indices_of l)) events;
      };
      begun = ap starts_of events;
      leaves = ap (λ l. length (leaves_of l)) events;
      moves = moves;
    }

-- an event more
one-more : (f : Event → List ℕ) (old new : LogLists) (event : Event) → new ≡ with_event old event
    → flat_map f new.events ≡ flat_map f old.events ++ flat_map f (event ∷ [])
one-more f old new event is =
    ap (λ (l : LogLists). flat_map f l.events) is ∙ flat_map-append f old.events (event ∷ [])

-- two of them
two-more : (f : Event → List ℕ) (old mid new : LogLists) (a b : Event) → mid ≡ with_event old a
    → new ≡ with_event mid b
    → flat_map f new.events ≡ flat_map f old.events ++ (flat_map f (a ∷ []) ++ flat_map f (b ∷ []))
two-more f old mid new a b first second =
    one-more f mid new b second ∙ ap (λ l. l ++ flat_map f (b ∷ [])) (one-more f old mid a first)
    ∙ append_assoc (flat_map f old.events) (flat_map f (a ∷ [])) (flat_map f (b ∷ []))

-- what the events that are new show nothing of is as it was
no-more : (f : Event → List ℕ) (old new : LogLists) (more : List Event) → new.events ≡ old.events ++ more
    → flat_map f more ≡ [] → flat_map f new.events ≡ flat_map f old.events
no-more f old new more is none =
    ap (flat_map f) is ∙ flat_map-append f old.events more ∙ ap (λ l. flat_map f old.events ++ l) none
    ∙ append-nil (flat_map f old.events)

pub shown-starts : (old new : LogLists) → ShowsNoMore old new → starts_of new.events ≡ starts_of old.events
shown-starts old new s = no-more start_of old new s.more s.events s.silent.starts

pub shown-leaves : (old new : LogLists) → ShowsNoMore old new → leaves_of new.events ≡ leaves_of old.events
shown-leaves old new s = no-more leaf_of old new s.more s.events s.silent.leaves

pub shown-indices : (old new : LogLists) → ShowsNoMore old new → indices_of new.events ≡ indices_of old.events
shown-indices old new s = no-more index_of old new s.more s.events s.silent.indices

-- no events, those of two lists, and one
pub silent-none : AreSilent []
silent-none = record { starts = refl; leaves = refl; indices = refl }

both-none : (f : Event → List ℕ) (xs ys : List Event) → flat_map f xs ≡ [] → flat_map f ys ≡ []
    → flat_map f (xs ++ ys) ≡ []
both-none f xs ys first second =
    flat_map-append f xs ys ∙ ap (λ l. l ++ flat_map f ys) first ∙ second

pub silent-append : (xs ys : List Event) → AreSilent xs → AreSilent ys → AreSilent (xs ++ ys)
silent-append xs ys first second = record {
  starts = both-none start_of xs ys first.starts second.starts;
  leaves = both-none leaf_of xs ys first.leaves second.leaves;
  indices = both-none index_of xs ys first.indices second.indices;
}

pub silent-one : (event : Event) → start_of event ≡ [] → leaf_of event ≡ [] → index_of event ≡ []
    → AreSilent (event ∷ [])
silent-one event start leaf index = record {
  starts = ap (λ l. l ++ []) start;
  leaves = ap (λ l. l ++ []) leaf;
  indices = ap (λ l. l ++ []) index;
}

-- a log with them
pub shows-same : (old new : LogLists) → new.events ≡ old.events → ShowsNoMore old new
shows-same old new is = record { more = []; events = is ∙ sym (append-nil old.events); silent = silent-none }

pub shows-more : (events : List Event) (old new : LogLists) → new.events ≡ old.events ++ events → AreSilent events
    → ShowsNoMore old new
shows-more events old new is silent = record { more = events; events = is; silent = silent }

pub shows-joined : (old mid new : LogLists) → ShowsNoMore old mid → ShowsNoMore mid new → ShowsNoMore old new
shows-joined old mid new first second =
    record {
      more = first.more ++ second.more;
      events = second.events ∙ ap (λ l. l ++ second.more) first.events
          ∙ append_assoc old.events first.more second.more;
      silent = silent-append first.more second.more first.silent second.silent;
    }

-- a log with these choices has this code
pub same-code : (p : Public) (old new : LogLists) → indices_of new.events ≡ indices_of old.events
    → log_code p old ≡ log_code p new
same-code p old new same = ap (code_of (count_of p)) (sym same)

chosen-same : (p : Public) (n : ℕ) (old new : LogLists) → indices_of new.events ≡ indices_of old.events
    → HasChosen p n old → HasChosen p n new
chosen-same p n old new same h =
    record {
      indices = subst (λ l. All (λ index. index < count_of p) l) (sym same) h.indices;
      fell = ap length same ∙ h.fell ∙ ap (λ code. (beat_at p code n).choices) (same-code p old new same);
    }

-- what shows nothing keeps both
pub between-same : (p : Public) (n : ℕ) (old new : LogLists) → Between p n old → ShowsNoMore old new
    → new.moves ≡ old.moves → Between p n new
between-same p n old new b same moves =
    let indices : indices_of new.events ≡ indices_of old.events = shown-indices old new same in
    let leaves : leaves_of new.events ≡ leaves_of old.events = shown-leaves old new same in
    let code : log_code p old ≡ log_code p new = same-code p old new indices in
    record {
      chosen = chosen-same p n old new indices b.chosen;
      begun = shown-starts old new same ∙ b.begun ∙ ap (λ c. starts p c n) code;
      leaves = ap length leaves ∙ b.leaves;
      moves = moves ∙ b.moves
          ∙ ap (λ l. moves_of p.levels (starts p (log_code p old) n) l) (sym leaves)
          ∙ ap (λ c. moves_of p.levels (starts p c n) (leaves_of new.events)) code;
    }

-- and moves may be made besides
pub inside-more : (p : Public) (n leaf : ℕ) (part more : List Move) (old new : LogLists) → Inside p n leaf part old
    → ShowsNoMore old new → new.moves ≡ old.moves ++ more → Inside p n leaf (part ++ more) new
inside-more p n leaf part more old new i same moves =
    let indices : indices_of new.events ≡ indices_of old.events = shown-indices old new same in
    let code : log_code p old ≡ log_code p new = same-code p old new indices in
    record {
      before = i.before;
      chosen = chosen-same p n old new indices i.chosen;
      begun = shown-starts old new same ∙ i.begun ∙ ap (λ c. starts p c (suc n)) code;
      leaves = shown-leaves old new same ∙ i.leaves;
      counted = i.counted;
      moves = moves ∙ ap (λ l. l ++ more) i.moves
          ∙ append_assoc (moves_of p.levels (starts p (log_code p old) n) i.before) part more
          ∙ ap (λ c. moves_of p.levels (starts p c n) i.before ++ (part ++ more)) code;
    }

-- a slot's start and its leaf are no choice
pub begin-indices : (start : ℕ) (asked : Option ℕ) (point : Point) (leaf : Leaf) (old mid new : LogLists)
    → mid ≡ with_event old (Access start asked) → new ≡ with_event mid (Drawn point leaf)
    → indices_of new.events ≡ indices_of old.events
begin-indices start asked point leaf old mid new first second =
    two-more index_of old mid new (Access start asked) (Drawn point leaf) first second
    ∙ append-nil (indices_of old.events)

pub begin-code : (p : Public) (start : ℕ) (asked : Option ℕ) (point : Point) (leaf : Leaf) (old mid new : LogLists)
    → mid ≡ with_event old (Access start asked) → new ≡ with_event mid (Drawn point leaf)
    → log_code p new ≡ log_code p old
begin-code p start asked point leaf old mid new first second =
    sym (same-code p old new (begin-indices start asked point leaf old mid new first second))

-- a slot begins
pub inside-begin : (p : Public) (n start : ℕ) (asked : Option ℕ) (point : Point) (leaf : Leaf) (old mid new : LogLists)
    → Between p n old → start ≡ start_at p (log_code p old) n → mid ≡ with_event old (Access start asked)
    → new ≡ with_event mid (Drawn point leaf) → Inside p n leaf.0 [] new
inside-begin p n start asked point leaf old mid new b at first second =
    let indices : indices_of new.events ≡ indices_of old.events =
    begin-indices start asked point leaf old mid new first second in
    let code : log_code p old ≡ log_code p new = same-code p old new indices in
    let moves : new.moves ≡ old.moves =
    ap (λ (l : LogLists). l.moves) second ∙ ap (λ (l : LogLists). l.moves) first in
    record {
      before = leaves_of old.events;
      chosen = chosen-same p n old new indices b.chosen;
      begun = two-more start_of old mid new (Access start asked) (Drawn point leaf) first second
          ∙ ap (λ l. l ++ start ∷ []) b.begun
          ∙ ap (λ s. starts p (log_code p old) n ++ s ∷ []) at
          ∙ sym (starts-next p (log_code p old) n)
          ∙ ap (λ c. starts p c (suc n)) code;
      leaves = two-more leaf_of old mid new (Access start asked) (Drawn point leaf) first second;
      counted = b.leaves;
      moves = moves ∙ b.moves
          ∙ sym (append-nil (moves_of p.levels (starts p (log_code p old) n) (leaves_of old.events)))
          ∙ ap (λ c. moves_of p.levels (starts p c n) (leaves_of old.events) ++ []) code;
    }

-- all slots but the last and the last one are so many and one
last-counted : (before : List ℕ) (leaf n : ℕ) (all : List ℕ) → all ≡ before ++ leaf ∷ [] → length before ≡ n
    → length all ≡ suc n
last-counted before leaf n all is counted = ap length is
    ∙ (let e : length (before ++ leaf ∷ []) ≡ suc n = omega (arith, length-append before (leaf ∷ []), counted) in e)

-- the moves of all slots, the last one included
all-moves : (p : Public) (n leaf : ℕ) (log : LogLists)
    → (i : Inside p n leaf (slot_moves p.levels (start_at p (log_code p log) n) leaf) log)
    → log.moves ≡ moves_of p.levels (starts p (log_code p log) (suc n)) (leaves_of log.events)
all-moves p n leaf log i =
    let code : ℕ = log_code p log in
    i.moves
    ∙ sym
    (moves_of-last p.levels (start_at p code n) leaf (starts p code n) i.before
    (length-starts p code n ∙ sym i.counted))
    ∙ ap (λ l. moves_of p.levels l (i.before ++ leaf ∷ [])) (sym (starts-next p code n))
    ∙ ap (moves_of p.levels (starts p code (suc n))) (sym i.leaves)

-- the timetable after a slot at whose end no choice falls
pub beat-without : (p : Public) (code n : ℕ) → falls_next p (beat_at p code n) ≡ false
    → beat_at p code (suc n) ≡ beat_with p (beat_at p code n) (beat_at p code n).rate (beat_at p code n).choices
unfolding beat_at
beat-without p code n none =
    ap
    (λ fell. cond {A = Beat} fell
    (beat_with p (beat_at p code n) (rate_at p.rates (digit_of code (count_of p) (beat_at p code n).choices))
    ((beat_at p code n).choices + 1))
    (beat_with p (beat_at p code n) (beat_at p code n).rate (beat_at p code n).choices)) none

-- and after one at whose end a choice falls
pub beat-chosen : (p : Public) (code n : ℕ) → falls_next p (beat_at p code n) ≡ true
    → beat_at p code (suc n)
    ≡ beat_with p (beat_at p code n) (rate_at p.rates (digit_of code (count_of p) (beat_at p code n).choices))
    ((beat_at p code n).choices + 1)
unfolding beat_at
beat-chosen p code n some =
    ap
    (λ fell. cond {A = Beat} fell
    (beat_with p (beat_at p code n) (rate_at p.rates (digit_of code (count_of p) (beat_at p code n).choices))
    ((beat_at p code n).choices + 1))
    (beat_with p (beat_at p code n) (beat_at p code n).rate (beat_at p code n).choices)) some

-- a slot ends without a choice
pub between-without : (p : Public) (n leaf : ℕ) (log : LogLists)
    → Inside p n leaf (slot_moves p.levels (start_at p (log_code p log) n) leaf) log
    → falls_next p (beat_at p (log_code p log) n) ≡ false → Between p (suc n) log
between-without p n leaf log i none =
    record {
      chosen = record {
        indices = i.chosen.indices;
        fell = i.chosen.fell ∙ ap (λ (b : Beat). b.choices) (sym (beat-without p (log_code p log) n none));
      };
      begun = i.begun;
      leaves = last-counted i.before leaf n (leaves_of log.events) i.leaves i.counted;
      moves = all-moves p n leaf log i;
    }

-- a choice more
pub record MoreChosen (p : Public) (n index : ℕ) (old new : LogLists) : Type 0 where
  pub indices : indices_of new.events ≡ indices_of old.events ++ index ∷ []
  pub within : All (λ i. i < count_of p) (indices_of new.events)
  pub code : log_code p new ≡ log_code p old + index * count_of p ^ length (indices_of old.events)
  pub agree : AgreeTo p (log_code p old) (log_code p new) (length (indices_of old.events))
  pub beat_is : beat_at p (log_code p old) n ≡ beat_at p (log_code p new) n
  pub digit : digit_of (log_code p new) (count_of p) (beat_at p (log_code p new) n).choices ≡ index

pub more-chosen : (p : Public) (n index : ℕ) (old new : LogLists) → HasChosen p n old → index < count_of p
    → new ≡ with_event old (Chosen index) → MoreChosen p n index old new
more-chosen p n index old new h small is =
    let base : ℕ = count_of p in
    let digits : List ℕ = indices_of old.events in
    let indices : indices_of new.events ≡ digits ++ index ∷ [] = one-more index_of old new (Chosen index) is in
    let all : All (λ i. i < count_of p) (digits ++ index ∷ []) =
    All-push (λ i. i < count_of p) digits index h.indices small in
    let code : log_code p new ≡ code_of base (digits ++ index ∷ []) = ap (code_of base) indices in
    let more : length (digits ++ index ∷ []) ≡ length digits + 1 = length-append digits (index ∷ []) in
    let agree : AgreeTo p (log_code p old) (log_code p new) (length digits) =
    (λ place within.
    digit-of-code base digits place h.indices within
    ∙ sym (get_or_append_left digits (index ∷ []) 0 place within)
    ∙ sym (digit-of-code base (digits ++ index ∷ []) place all (omega arith))
    ∙ ap (λ c. digit_of c base place) (sym code)) in
    let beat_is : beat_at p (log_code p old) n ≡ beat_at p (log_code p new) n =
    beat-agrees p (log_code p old) (log_code p new) (length digits) n agree (omega (arith, h.fell)) in
    let place : (beat_at p (log_code p new) n).choices ≡ length digits =
    ap (λ (b : Beat). b.choices) (sym beat_is) ∙ sym h.fell in
    record {
      indices = indices;
      within = subst (λ l. All (λ i. i < count_of p) l) (sym indices) all;
      code = code ∙ code-append base digits index;
      agree = agree;
      beat_is = beat_is;
      digit = ap (λ c. digit_of c base (beat_at p (log_code p new) n).choices) code
          ∙ ap (digit_of (code_of base (digits ++ index ∷ [])) base) place
          ∙ digit-of-code base (digits ++ index ∷ []) (length digits) all (omega arith)
          ∙ get_or_push digits index 0 (length digits) refl;
    }

-- the timetable after the choice
pub beat-more : (p : Public) (n index : ℕ) (old new : LogLists) → MoreChosen p n index old new
    → falls_next p (beat_at p (log_code p old) n) ≡ true
    → beat_at p (log_code p new) (suc n)
    ≡ beat_with p (beat_at p (log_code p old) n) (rate_at p.rates index) ((beat_at p (log_code p old) n).choices + 1)
beat-more p n index old new m some =
    beat-chosen p (log_code p new) n (ap (falls_next p) (sym m.beat_is) ∙ some)
    ∙ ap
    (λ i. beat_with p (beat_at p (log_code p new) n) (rate_at p.rates i)
    ((beat_at p (log_code p new) n).choices + 1)) m.digit
    ∙ ap (λ (b : Beat). beat_with p b (rate_at p.rates index) (b.choices + 1)) (sym m.beat_is)

-- a slot ends with a choice
pub between-chosen : (p : Public) (n leaf index : ℕ) (old new : LogLists)
    → Inside p n leaf (slot_moves p.levels (start_at p (log_code p old) n) leaf) old
    → falls_next p (beat_at p (log_code p old) n) ≡ true → index < count_of p → new ≡ with_event old (Chosen index)
    → Between p (suc n) new
between-chosen p n leaf index old new i some small is =
    let m : MoreChosen p n index old new = more-chosen p n index old new i.chosen small is in
    let few : (beat_at p (log_code p old) n).choices ≤ length (indices_of old.events) =
    omega (arith, i.chosen.fell) in
    let same : starts p (log_code p old) (suc n) ≡ starts p (log_code p new) (suc n) =
    starts-agree p (log_code p old) (log_code p new) (length (indices_of old.events)) n m.agree few in
    let leaves : leaves_of new.events ≡ leaves_of old.events =
    one-more leaf_of old new (Chosen index) is ∙ append-nil (leaves_of old.events) in
    record {
      chosen = record {
        indices = m.within;
        fell = ap length m.indices ∙ length-append (indices_of old.events) (index ∷ [])
            ∙ ap (λ k. k + 1) i.chosen.fell
            ∙ ap (λ (b : Beat). b.choices) (sym (beat-more p n index old new m some));
      };
      begun = one-more start_of old new (Chosen index) is ∙ append-nil (starts_of old.events) ∙ i.begun ∙ same;
      leaves = last-counted i.before leaf n (leaves_of new.events) (leaves ∙ i.leaves) i.counted;
      moves = ap (λ (l : LogLists). l.moves) is ∙ all-moves p n leaf old i
          ∙ ap (λ l. moves_of p.levels l (leaves_of old.events)) same
          ∙ ap (moves_of p.levels (starts p (log_code p new) (suc n))) (sym leaves);
    }

-- the number of choices of a log
pub chosen-few : (p : Public) (n : ℕ) (log : LogLists) → HasChosen p n log
    → length (indices_of log.events) ≤ choices_of p
chosen-few p n log h =
    let few : (beat_at p (log_code p log) n).choices ≤ choices_of p =
    choices-few p (log_code p log) n in omega (arith, h.fell)

-- its code
pub chosen-below : (p : Public) (n : ℕ) (log : LogLists) → HasChosen p n log
    → log_code p log < count_of p ^ length (indices_of log.events)
chosen-below p n log h = code-below (count_of p) (indices_of log.events) h.indices

-- and so of a log that is scheduled
pub scheduled-few : (p : Public) (end : ℕ) (log : LogLists) → IsScheduled p end log
    → length (indices_of log.events) ≤ choices_of p
scheduled-few p end log h =
    omega (arith, choices-few p (log_code p log) (ended_by p (log_code p log) end), h.fell)

pub scheduled-below : (p : Public) (end : ℕ) (log : LogLists) → IsScheduled p end log
    → log_code p log < count_of p ^ length (indices_of log.events)
scheduled-below p end log h = code-below (count_of p) (indices_of log.events) h.indices

pub scheduled-codes : (p : Public) (bits end : ℕ) (log : LogLists) → count_of p ≡ 2 ^ bits → IsScheduled p end log
    → count_of p ^ length (indices_of log.events) ≤ 2 ^ p.leak
scheduled-codes p bits end log e h =
    codes-few p bits (length (indices_of log.events)) e (scheduled-few p end log h)

pub scheduled-budget : (p : Public) (bits end : ℕ) (log : LogLists) → count_of p ≡ 2 ^ bits → IsScheduled p end log
    → log_code p log < 2 ^ p.leak
scheduled-budget p bits end log e h =
    omega (arith, scheduled-below p end log h, scheduled-codes p bits end log e h)

pub scheduled-config : (config : Config) (end : ℕ) (log : LogLists) → IsConfig config
    → IsScheduled (public_of config) end log → log_code (public_of config) log < 2 ^ config.leak
scheduled-config config end log is h =
    let power : IsPowerTo 4 (count_of (public_of config)) = count-power config is in
    scheduled-budget (public_of config) power.0 end log power.2 h
