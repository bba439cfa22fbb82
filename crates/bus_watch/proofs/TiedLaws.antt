-- One exchange more.
use Rattle.std.proofs.Common.{◌≡◌, ◌+◌, ◌≤◌, ℕ, List, [], ◌∷◌, ◌++◌, map, Option, None, Some, refl, sym, ◌∙◌}
use Rattle.std.proofs.Common.{ap, append_assoc}
use Rattle.std.proofs.lemmas.List.{append-nil, map-append}
use Rattle.std.proofs.lemmas.Grind.{flat_map-append}
use Rattle.std.proofs.lemmas.List.Elements.{All-append, All-cons, All-nil}
use Rattle.std.specs.List.{flat_map}
use Rattle.asc_outside.specs.Memory.{MemoryState, Ask, Adds, Keeps}
use Rattle.bus_watch.specs.declared.log.Move.{Move}
use Rattle.bus_watch.specs.Log.{TapState, LogLists}
use Rattle.bus_watch.specs.RunEnd.{MoveFailed}
use Rattle.bus_watch.specs.Tied.{Exchange, move_of, ask_of, said_of, written_by, written, Reply, reply_of, unlike_of}
use Rattle.bus_watch.specs.Tied.{differing, IsAnswered, Tells, Tied, TiedAt, TiedButLast}

written_last : (buckets : List (List ℕ)) (xs : List Exchange) (x : Exchange)
    → written buckets (xs ++ x ∷ []) ≡ written_by (written buckets xs) x
written_last buckets [] x = refl
written_last buckets (y ∷ xs) x = written_last (written_by buckets y) xs x

differing_last : (buckets : List (List ℕ)) (xs : List Exchange) (x : Exchange)
    → differing buckets (xs ++ x ∷ []) ≡ differing buckets xs ++ unlike_of (written buckets xs) x
differing_last buckets [] x = append-nil (unlike_of buckets x)
differing_last buckets (y ∷ xs) x =
    ap (λ (l : List Reply). unlike_of buckets y ++ l) (differing_last (written_by buckets y) xs x)
    ∙ sym (append_assoc (unlike_of buckets y) (differing (written_by buckets y) xs)
    (unlike_of (written (written_by buckets y) xs) x))

-- what one call adds to a list that may be told
abbrev pub Gains : {A : Type 0} → Option (List A) → List A → Option (List A) → Type 0
Gains {A} old items new =
    (all : List A) → new ≡ Some all → (before : List A) × (old ≡ Some before) × (all ≡ before ++ items)

pub gains_kept : {A : Type 0} (old new : Option (List A)) → Keeps old new → Gains old [] new
gains_kept old new keeps = λ all is. (all, keeps all is, sym (append-nil all))

flat_map-last : {A B : Type 0} (f : A → List B) (xs : List A) (x : A)
    → flat_map f xs ++ f x ≡ flat_map f (xs ++ x ∷ [])
flat_map-last f xs x =
    ap (λ l. flat_map f xs ++ l) (sym (append-nil (f x))) ∙ sym (flat_map-append f xs (x ∷ []))

gains_then : {A B : Type 0} (f : A → List B) (start old new : Option (List B)) (xs : List A) (x : A)
    → Gains start (flat_map f xs) old → Gains old (f x) new → Gains start (flat_map f (xs ++ x ∷ [])) new
gains_then f start old new xs x first second = λ all is.
    let now = second all is in
    let past = first now.0 now.1 in (
      past.0,
      past.1,
      now.2 ∙ ap (λ l. l ++ f x) past.2 ∙ append_assoc past.0 (flat_map f xs) (f x)
          ∙ ap (λ l. past.0 ++ l) (flat_map-last f xs x),
    )

-- What the memory says of a move that it was asked once, whatever it answered.
pub record IsAsked (x : Exchange) (m m' : MemoryState) : Type 0 where
  pub moved : m'.moved ≡ m.moved + 1
  pub count : m'.count ≡ m.count
  pub link : m'.link ≡ m.link
  pub later : m.faults ≤ m'.faults
  pub seen : Adds m.seen (ask_of x) m'.seen
  pub said : Gains m.said (said_of x) m'.said

module _ (start : MemoryState) (buckets : List (List ℕ)) {m m' : MemoryState} (t t' : TapState) (x : Exchange)
    (asked : IsAsked x m m') (moves : t'.log.moves ≡ t.log.moves ++ move_of x ∷ [])
    (tied : Tied start buckets m t) where
  tells_next : Tells start m' (tied.exchanges ++ x ∷ [])
  tells_next = record {
    seen = λ all is.
        let now = asked.seen all is in
        let past = tied.told.seen now.0 now.1 in (
          past.0,
          past.1,
          now.2 ∙ ap (λ l. l ++ ask_of x ∷ []) past.2
              ∙ append_assoc past.0 (map ask_of tied.exchanges) (ask_of x ∷ [])
              ∙ ap (λ (l : List Ask). past.0 ++ l) (sym (map-append ask_of tied.exchanges (x ∷ []))),
        );
    said = gains_then said_of start.said m.said m'.said tied.exchanges x tied.told.said asked.said;
  }

  moves_next : t'.log.moves ≡ map move_of (tied.exchanges ++ x ∷ [])
  moves_next =
      moves ∙ ap (λ (l : List Move). l ++ move_of x ∷ []) tied.moves
      ∙ sym (map-append move_of tied.exchanges (x ∷ []))

  pub tied_next : IsAnswered x → t'.mirror ≡ written_by t.mirror x
      → map reply_of t'.log.altered ≡ map reply_of t.log.altered ++ unlike_of t.mirror x → Tied start buckets m' t'
  tied_next answered mirror altered = record {
    exchanges = tied.exchanges ++ x ∷ [];
    answered = All-append IsAnswered tied.exchanges (x ∷ []) tied.answered
        (All-cons IsAnswered x [] answered (All-nil IsAnswered));
    told = tells_next;
    moves = moves_next;
    mirror = mirror ∙ ap (λ l. written_by l x) tied.mirror ∙ sym (written_last buckets tied.exchanges x);
    altered = altered
        ∙ ap (λ (l : List Reply). l ++ unlike_of t.mirror x) tied.altered
        ∙ ap (λ l. differing buckets tied.exchanges ++ unlike_of l x) tied.mirror
        ∙ sym (differing_last buckets tied.exchanges x);
  }

  pub tied_cut : t'.mirror ≡ t.mirror → t'.log.altered ≡ t.log.altered → TiedButLast start buckets m' t'
  tied_cut mirror altered = record {
    exchanges = tied.exchanges;
    answered = tied.answered;
    last = x;
    told = tells_next;
    moves = moves_next;
    mirror = mirror ∙ tied.mirror;
    altered = ap (map reply_of) altered ∙ tied.altered;
  }

  pub tied_failed : t'.mirror ≡ t.mirror → t'.log.altered ≡ t.log.altered → x.bytes ≡ None
      → TiedAt MoveFailed start buckets m' t'
  unfolding tied_cut
  tied_failed mirror altered none = (tied_cut mirror altered, none)

-- before the first move
pub tied_start : (m : MemoryState) (t : TapState) → t.log.moves ≡ [] → t.log.altered ≡ [] → Tied m t.mirror m t
tied_start m t moves altered = record {
  exchanges = [];
  answered = All-nil IsAnswered;
  told = record {
    seen = λ all is. (all, is, sym (append-nil all));
    said = λ all is. (all, is, sym (append-nil all));
  };
  moves = moves;
  mirror = refl;
  altered = ap (map reply_of) altered;
}

-- a tap that noted no move is tied by no exchange, whatever is prepared
pub tied_prepared : (start m m' : MemoryState) (buckets : List (List ℕ)) (t t' : TapState) → t.log.moves ≡ []
    → Tied start buckets m t → m'.seen ≡ m.seen → m'.said ≡ m.said → t'.log ≡ t.log → Tied start t'.mirror m' t'
tied_prepared start m m' buckets t t' none tied seen said log =
    among tied.exchanges tied.told (sym tied.moves ∙ none) tied.altered
  where
    among : (xs : List Exchange) → Tells start m xs → map move_of xs ≡ []
        → map reply_of t.log.altered ≡ differing buckets xs → Tied start t'.mirror m' t'
    among (x ∷ xs) told empty altered = cc
    among [] told empty altered = record {
      exchanges = [];
      answered = All-nil IsAnswered;
      told = record {
        seen = λ all is. told.seen all (sym seen ∙ is);
        said = λ all is. told.said all (sym said ∙ is);
      };
      moves = ap (λ (l : LogLists). l.moves) log ∙ none;
      mirror = refl;
      altered = ap (λ (l : LogLists). map reply_of l.altered) log ∙ altered;
    }

-- what is tied stays tied where moves, mirror and altered replies do
pub tied_same : (start : MemoryState) (buckets : List (List ℕ)) {m : MemoryState} {t t' : TapState}
    → t'.log.moves ≡ t.log.moves → t'.log.altered ≡ t.log.altered → t'.mirror ≡ t.mirror
    → Tied start buckets m t → Tied start buckets m t'
tied_same start buckets moves altered mirror tied = record {
  exchanges = tied.exchanges;
  answered = tied.answered;
  told = tied.told;
  moves = moves ∙ tied.moves;
  mirror = mirror ∙ tied.mirror;
  altered = ap (map reply_of) altered ∙ tied.altered;
}
