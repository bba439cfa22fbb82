-- Laws of the command line's grammar: what is read and what is refused exclude each other, and each is of one value.
use Rattle.std.proofs.Common.{suc, Bool, true, false, cond, not, ◌&&◌, eqb, add-one, ◌≡◌, ◌≢◌, ℕ, ◌+◌, ◌<◌, List}
use Rattle.std.proofs.Common.{[], ◌∷◌, ◌++◌, length, take, drop, get_or, Some, None, refl, sym, ap, subst, ◌∙◌}
use Rattle.std.proofs.Common.{append_assoc, append-nil, arith, length-append, map, ◌≤◌}
use Rattle.std.specs.Prelude.{String, string_bytes, option_map}
use Rattle.std.specs.List.{find, list_all}
use Rattle.std.specs.Str.{bytes_eq}
use Rattle.std.proofs.Math.Seq.{take-suc}
use Rattle.std.proofs.lemmas.Bool.Decides.{nat_tests}
use Rattle.std.proofs.lemmas.Grind.{common_steps}
use Rattle.std.proofs.lemmas.List.{take-map, map-append, take-append-drop, length-map}
use Rattle.std.proofs.lemmas.Option.{same_Some}
use Rattle.std.proofs.lemmas.Slice.Eq.{bytes_eq-Decides}
use Rattle.asc_base.proofs.Bytes.{both}
use Rattle.ascend_words.specs.Grammar.{Pair, Read, AllFollow, AreGiven, IsFault, IsWords, KeepRules, Keeps}
use Rattle.ascend_words.specs.Grammar.{MayFollow, has_required, texts, value_in, word_of, breaks, missing}
use Rattle.ascend_words.specs.Reading.{pair_of, pairs, IsMisfit}
use Rattle.ascend_words.specs.Tables.{commanded, command_text, commands, is_same, name_text, named, names}
use Rattle.ascend_words.specs.declared.given.Given.{Given}
use Rattle.ascend_words.specs.declared.table.Command.{Command}
use Rattle.ascend_words.specs.declared.table.Command.TheVariants.{Run, Flat, Asm, Disasm, Check, Gen}
use Rattle.ascend_words.specs.declared.table.Name.{Name}
use Rattle.ascend_words.specs.declared.table.Name.TheVariants.{Elf, Key, Output, Input, Text, Trace, At, Size, Base}
use Rattle.ascend_words.specs.declared.table.Name.TheVariants.{Sets, Ways, Plb, Roots, Ic, Stash, Budget, Time, Leak}
use Rattle.ascend_words.specs.declared.table.Name.TheVariants.{Rates, First, Epoch, Save, Seed, Words}

-- The laws of the tables, each with one case for each row.

pub commanded-text : (command : Command) → commanded (command_text command) ≡ Some command
commanded-text Run = refl
commanded-text Flat = refl
commanded-text Asm = refl
commanded-text Disasm = refl
commanded-text Check = refl
commanded-text Gen = refl

pub named-text : (name : Name) → named (name_text name) ≡ Some name
named-text Elf = refl
named-text Key = refl
named-text Output = refl
named-text Input = refl
named-text Text = refl
named-text Trace = refl
named-text Save = refl
named-text At = refl
named-text Seed = refl
named-text Words = refl
named-text Size = refl
named-text Base = refl
named-text Sets = refl
named-text Ways = refl
named-text Plb = refl
named-text Roots = refl
named-text Ic = refl
named-text Stash = refl
named-text Budget = refl
named-text Time = refl
named-text Leak = refl
named-text Rates = refl
named-text First = refl
named-text Epoch = refl

-- a text has no `=`
abbrev lacks : List ℕ → Bool
lacks text = list_all (λ byte. not (eqb byte 61)) text

name_lacks : (name : Name) → lacks (name_text name) ≡ true
name_lacks Elf = refl
name_lacks Key = refl
name_lacks Output = refl
name_lacks Input = refl
name_lacks Text = refl
name_lacks Trace = refl
name_lacks Save = refl
name_lacks At = refl
name_lacks Seed = refl
name_lacks Words = refl
name_lacks Size = refl
name_lacks Base = refl
name_lacks Sets = refl
name_lacks Ways = refl
name_lacks Plb = refl
name_lacks Roots = refl
name_lacks Ic = refl
name_lacks Stash = refl
name_lacks Budget = refl
name_lacks Time = refl
name_lacks Leak = refl
name_lacks Rates = refl
name_lacks First = refl
name_lacks Epoch = refl

-- What follows for any tables.

find-passes : {X : Type 0} (test : X → Bool) (xs : List X) (x : X) → find test xs ≡ Some x → test x ≡ true
find-passes test [] x e = absurd (let no : ⊥ = cc in no)
find-passes test (y ∷ ys) x e = go (find-passes test ys x) (test y) refl e
  where
    go : (find test ys ≡ Some x → test x ≡ true) → (b : Bool) → test y ≡ b → cond b (Some y) (find test ys) ≡ Some x
        → test x ≡ true
    go later true is e = let one : y ≡ x = same_Some y x e in subst (λ z. test z ≡ true) one is
    go later false is e = later e

find-map : {X Y : Type 0} (f : X → Y) (test : Y → Bool) (xs : List X)
    → find test (map f xs) ≡ option_map f (find (λ x. test (f x)) xs)
find-map f test [] = refl
find-map f test (x ∷ xs) = go (find-map f test xs) (test (f x))
  where
    go : find test (map f xs) ≡ option_map f (find (λ y. test (f y)) xs) → (b : Bool)
        → cond b (Some (f x)) (find test (map f xs)) ≡ option_map f (cond b (Some x) (find (λ y. test (f y)) xs))
    go later true = refl
    go later false = later

pub named-some : (text : List ℕ) (name : Name) → named text ≡ Some name → text ≡ name_text name
named-some text name e = sym ((bytes_eq-Decides (name_text name) text).0
    (find-passes (λ n. bytes_eq (name_text n) text) names name e))

pub commanded-some : (text : List ℕ) (command : Command) → commanded text ≡ Some command → text ≡ command_text command
commanded-some text command e = sym ((bytes_eq-Decides (command_text command) text).0
    (find-passes (λ c. bytes_eq (command_text c) text) commands command e))

name_text-one : (a b : Name) → name_text a ≡ name_text b → a ≡ b
name_text-one a b e = same_Some a b (sym (named-text a) ∙ ap named e ∙ named-text b)

pub command_text-one : (a b : Command) → command_text a ≡ command_text b → a ≡ b
command_text-one a b e = same_Some a b (sym (commanded-text a) ∙ ap commanded e ∙ commanded-text b)

-- what stands before the first `=`, and what follows it
first_split : (xs ys v w : List ℕ) → lacks xs ≡ true → lacks ys ≡ true → xs ++ 61 ∷ v ≡ ys ++ 61 ∷ w → (xs ≡ ys)
    × (v ≡ w)
first_split [] [] v w a b e = (refl, cc)
first_split [] (y ∷ ys) v w a b e =
    let same : y ≡ 61 = cc in
    let no : lacks (61 ∷ ys) ≡ true = subst (λ z. lacks (z ∷ ys) ≡ true) same b in
    absurd (let n : ⊥ = cc in n)
first_split (x ∷ xs) [] v w a b e =
    let same : x ≡ 61 = cc in
    let no : lacks (61 ∷ xs) ≡ true = subst (λ z. lacks (z ∷ xs) ≡ true) same a in
    absurd (let n : ⊥ = cc in n)
first_split (x ∷ xs) (y ∷ ys) v w a b e =
    let same : x ≡ y = cc in
    let tail : xs ++ 61 ∷ v ≡ ys ++ 61 ∷ w = cc in
    let rest = first_split xs ys v w (both (not (eqb x 61)) (lacks xs) a).1
    (both (not (eqb y 61)) (lacks ys) b).1 tail in
    (ap (λ z. z ∷ xs) same ∙ ap (λ l. y ∷ l) rest.0, rest.1)

pub word_of-one : (p q : Pair) → word_of p ≡ word_of q → p ≡ q
word_of-one p q e =
    let parts = first_split (name_text p.name) (name_text q.name) p.value q.value (name_lacks p.name)
    (name_lacks q.name) e in
    let made : Name → List ℕ → Pair = λ name value. record { name = name; value = value } in
    ap (λ name. made name p.value) (name_text-one p.name q.name parts.0) ∙ ap (λ value. made q.name value) parts.1

not_eqb : (x y : ℕ) → x ≢ y → not (eqb x y) ≡ true
not_eqb x y h = grind (arith, nat_tests)

lacks-all : (text : List ℕ) → ((i : ℕ) → i < length text → get_or text i 0 ≢ 61) → lacks text ≡ true
lacks-all [] h = refl
lacks-all (x ∷ xs) h =
    ap (λ z. z && lacks xs) (not_eqb x 61 (h 0 (omega arith))) ∙ lacks-all xs (λ i inside. h (suc i) (omega arith))

-- a word with a `=` behind a name gives the name a value
pub gives_pair : (word text value : List ℕ) (name : Name) → word ≡ text ++ 61 ∷ value → named text ≡ Some name
    → word ≡ word_of (record { name = name; value = value })
gives_pair word text value name e is = e ∙ ap (λ t. t ++ 61 ∷ value) (named-some text name is)

at_equals : (xs ys : List ℕ) → get_or (xs ++ 61 ∷ ys) (length xs) 0 ≡ 61
at_equals [] ys = refl
at_equals (x ∷ xs) ys = at_equals xs ys

-- a word without a `=` gives none, nor does one without a name before it
pub no_equals : (word : List ℕ) → ((i : ℕ) → i < length word → get_or word i 0 ≢ 61) → (pair : Pair)
    → ¬ (word ≡ word_of pair)
no_equals word h pair e =
    let front = name_text pair.name in
    h (length front) (omega (arith, ap length e, length-append front (61 ∷ pair.value)))
    (ap (λ l. get_or l (length front) 0) e ∙ at_equals front pair.value)

pub no_name : (word text value : List ℕ) → word ≡ text ++ 61 ∷ value
    → ((i : ℕ) → i < length text → get_or text i 0 ≢ 61) → named text ≡ None
    → (pair : Pair) → ¬ (word ≡ word_of pair)
no_name word text value e h none pair is =
    let parts = first_split text (name_text pair.name) value pair.value (lacks-all text h) (name_lacks pair.name)
    (sym e ∙ is) in
    let some : named text ≡ Some pair.name = ap named parts.0 ∙ named-text pair.name in
    absurd (let no : ⊥ = cc in no)

-- what is held for a name
pub held_some : (given : List Given) (name : Name) (one : Given)
    → find (λ (g : Given). is_same g.name name) given ≡ Some one
    → Some (string_bytes one.value) ≡ value_in (pairs given) name
held_some given name one e =
    sym (ap (option_map (λ (pair : Pair). pair.value)) (find-map pair_of (λ (pair : Pair). is_same pair.name name) given
    ∙ ap (option_map pair_of) e))

pub held_none : (given : List Given) (name : Name) → find (λ (g : Given). is_same g.name name) given ≡ None
    → None ≡ value_in (pairs given) name
held_none given name e =
    sym (ap (option_map (λ (pair : Pair). pair.value)) (find-map pair_of (λ (pair : Pair). is_same pair.name name) given
    ∙ ap (option_map pair_of) e))

module _ (command : Command) where
  -- all of some pairs keep the rules, and then one more does
  pub AllFollow-last : (earlier given : List Pair) (pair : Pair) → AllFollow command earlier given
      → MayFollow command (earlier ++ given) pair
      → AllFollow command earlier (given ++ pair ∷ [])
  AllFollow-last earlier [] pair all next = (subst (λ l. MayFollow command l pair) (append-nil earlier) next, tt)
  AllFollow-last earlier (one ∷ given) pair all next = (
    all.0,
    AllFollow-last (earlier ++ one ∷ []) given pair all.1
        (subst (λ l. MayFollow command l pair) (sym (append_assoc earlier (one ∷ []) given)) next),
  )

  -- a pair among those that keep the rules keeps them after those before it
  pub AllFollow-at : (earlier before after : List Pair) (pair : Pair)
      → AllFollow command earlier (before ++ pair ∷ after)
      → MayFollow command (earlier ++ before) pair
  AllFollow-at earlier [] after pair all = subst (λ l. MayFollow command l pair) (sym (append-nil earlier)) all.0
  AllFollow-at earlier (one ∷ before) after pair all =
      subst (λ l. MayFollow command l pair) (append_assoc earlier (one ∷ []) before)
      (AllFollow-at (earlier ++ one ∷ []) before after pair all.1)

  -- the first of pairs that keep the rules keep them
  pub AllFollow-first : (earlier xs ys : List Pair) → AllFollow command earlier (xs ++ ys)
      → AllFollow command earlier xs
  AllFollow-first earlier [] ys all = tt
  AllFollow-first earlier (x ∷ xs) ys all = (all.0, AllFollow-first (earlier ++ x ∷ []) xs ys all.1)

-- the words that pairs are written as, in two parts
record IsSplit (given : List Pair) (xs ys : List (List ℕ)) : Type 0 where
  front : List Pair
  back : List Pair
  whole : given ≡ front ++ back
  first : xs ≡ map word_of front
  second : ys ≡ map word_of back

map_split : (given : List Pair) (xs ys : List (List ℕ)) → xs ++ ys ≡ map word_of given → IsSplit given xs ys
map_split given [] ys e = record { front = []; back = given; whole = refl; first = refl; second = e }
map_split [] (x ∷ xs) ys e = absurd (let no : ⊥ = cc in no)
map_split (pair ∷ given) (x ∷ xs) ys e =
    let head : x ≡ word_of pair = cc in
    let tail : xs ++ ys ≡ map word_of given = cc in
    let s = map_split given xs ys tail in
    record {
      front = pair ∷ s.front;
      back = s.back;
      whole = ap (λ l. pair ∷ l) s.whole;
      first = ap (λ z. z ∷ xs) head ∙ ap (λ l. word_of pair ∷ l) s.first;
      second = s.second;
    }

map_one : (a b : List Pair) → map word_of a ≡ map word_of b → a ≡ b
map_one [] [] e = refl
map_one [] (y ∷ ys) e = absurd (let no : ⊥ = cc in no)
map_one (x ∷ xs) [] e = absurd (let no : ⊥ = cc in no)
map_one (x ∷ xs) (y ∷ ys) e =
    let head : word_of x ≡ word_of y = cc in
    let tail : map word_of xs ≡ map word_of ys = cc in
    ap (λ z. z ∷ xs) (word_of-one x y head) ∙ ap (λ l. y ∷ l) (map_one xs ys tail)

-- what keeps the rules keeps them so far
pub KeepRules-first : (xs ys : List (List ℕ)) → KeepRules (xs ++ ys) → KeepRules xs
KeepRules-first [] ys keeps = tt
KeepRules-first (x ∷ xs) ys (read, keeps) =
    let s = map_split read.given xs ys keeps.1.written in (
      record { command = read.command; given = s.front },
      (
        keeps.0,
        record {
          written = s.first;
          follow = AllFollow-first read.command [] s.front s.back
              (subst (λ l. AllFollow read.command [] l) s.whole keeps.1.follow);
        },
      ),
    )

-- words are read in one way
pub Keeps-one : (words : List (List ℕ)) (a b : Read) → Keeps words a → Keeps words b → a ≡ b
Keeps-one [] a b p q = absurd p
Keeps-one (first ∷ rest) a b p q =
    let made : Command → List Pair → Read = λ command given. record { command = command; given = given } in
    ap (λ command. made command a.given) (command_text-one a.command b.command (sym p.0 ∙ q.0))
    ∙ ap (λ given. made b.command given) (map_one a.given b.given (sym p.1.written ∙ q.1.written))

keep_rules : (words : List (List ℕ)) (read : Read) → Keeps words read → KeepRules words
keep_rules [] read keeps = tt
keep_rules (first ∷ rest) read keeps = (read, keeps)

-- words that are read have no fault
pub IsWords-not-IsFault : (words : List (List ℕ)) (read : Read) (n : ℕ) → IsWords words read → IsFault words n → ⊥
IsWords-not-IsFault words read n is (breaks before after word split kept broken place) =
    broken (KeepRules-first (before ++ word ∷ []) after (subst KeepRules
    (split ∙ sym (append_assoc before (word ∷ []) after)) (keep_rules words read is.keeps)))
IsWords-not-IsFault words read n is (missing kept none place) = none read is

-- of two places in a list, they are the same or one stands before the other
data Places (bs cs : List (List ℕ)) (b c : List ℕ) : Type 0 where
  at_one : length bs ≡ length cs → Places bs cs b c
  at_first : (more : List (List ℕ)) → cs ≡ (bs ++ b ∷ []) ++ more → Places bs cs b c
  at_second : (more : List (List ℕ)) → bs ≡ (cs ++ c ∷ []) ++ more → Places bs cs b c

places : (bs cs : List (List ℕ)) (b c : List ℕ) (us ds : List (List ℕ)) → bs ++ b ∷ us ≡ cs ++ c ∷ ds → Places bs cs b c
places [] [] b c us ds e = at_one refl
places [] (y ∷ cs) b c us ds e = let head : y ≡ b = cc in at_first cs (ap (λ z. z ∷ cs) head)
places (x ∷ bs) [] b c us ds e = let head : x ≡ c = cc in at_second bs (ap (λ z. z ∷ bs) head)
places (x ∷ bs) (y ∷ cs) b c us ds e =
    let head : x ≡ y = cc in
    let tail : bs ++ b ∷ us ≡ cs ++ c ∷ ds = cc in
    go head (places bs cs b c us ds tail)
  where
    go : x ≡ y → Places bs cs b c → Places (x ∷ bs) (y ∷ cs) b c
    go head (at_one k) = at_one (ap suc k)
    go head (at_first more k) = at_first more (ap (λ z. z ∷ cs) (sym head) ∙ ap (λ l. x ∷ l) k)
    go head (at_second more k) = at_second more (ap (λ z. z ∷ bs) head ∙ ap (λ l. y ∷ l) k)

-- the fault is of one word only
pub IsFault-one : (words : List (List ℕ)) (m n : ℕ) → IsFault words m → IsFault words n → m ≡ n
IsFault-one words m n (breaks bs us b split kept broken place) (breaks cs ds c split' kept' broken' place') =
    go (places bs cs b c us ds (sym split ∙ split'))
  where
    go : Places bs cs b c → m ≡ n
    go (at_one k) = place ∙ ap (λ l. l + 1) k ∙ sym place'
    go (at_first more k) = absurd (broken (KeepRules-first (bs ++ b ∷ []) more (subst KeepRules k kept')))
    go (at_second more k) = absurd (broken' (KeepRules-first (cs ++ c ∷ []) more (subst KeepRules k kept)))
IsFault-one words m n (breaks bs us b split kept broken place) (missing kept' none place') =
    absurd (broken (KeepRules-first (bs ++ b ∷ []) us (subst KeepRules (split ∙ sym (append_assoc bs (b ∷ []) us))
    kept')))
IsFault-one words m n (missing kept none place) (breaks cs ds c split' kept' broken' place') =
    absurd (broken' (KeepRules-first (cs ++ c ∷ []) ds (subst KeepRules (split' ∙ sym (append_assoc cs (c ∷ []) ds))
    kept)))
IsFault-one words m n (missing kept none place) (missing kept' none' place') = place ∙ sym place'

-- the faults that are named

pub fault_of_none : IsFault [] 1
fault_of_none = missing tt (λ read is. is.keeps) refl

pub fault_of_command : (first : List ℕ) (rest : List (List ℕ)) → commanded first ≡ None → IsFault (first ∷ rest) 1
fault_of_command first rest none = breaks [] rest first refl tt
    (λ kept. let some : commanded first ≡ Some (kept.0).command = ap commanded (kept.1).0
    ∙ commanded-text (kept.0).command in absurd (let no : ⊥ = cc in no))
    refl

pub fault_of_word : (command : Command) (first : List ℕ) (rest : List (List ℕ)) (index : ℕ)
    → first ≡ command_text command → IsMisfit command rest index
    → IsFault (first ∷ rest) (index + 2)
fault_of_word command first rest index is m =
    breaks (first ∷ take index rest) (drop (index + 1) rest) m.word (ap (λ l. first ∷ l) m.split)
    (record { command = command; given = m.given }, (is, m.before)) broken place
  where
    broken : ¬ KeepRules (first ∷ (take index rest ++ m.word ∷ []))
    broken (read, keeps) =
        let same : read.command ≡ command = command_text-one read.command command (sym keeps.0 ∙ is) in
        let s = map_split read.given (take index rest) (m.word ∷ []) keeps.1.written in
        let front : s.front ≡ m.given = map_one s.front m.given (sym s.first ∙ m.before.written) in
        last s.back s.second (subst (λ l. AllFollow command [] (l ++ s.back)) front
        (subst (λ l. AllFollow command [] l) s.whole (subst (λ c. AllFollow c [] read.given) same
        keeps.1.follow)))
      where
        last : (back : List Pair) → m.word ∷ [] ≡ map word_of back → AllFollow command [] (m.given ++ back) → ⊥
        last [] e all = let no : ⊥ = cc in no
        last (pair ∷ back) e all = let word : m.word ≡ word_of pair = cc in m.breaks pair word
            (AllFollow-at command [] m.given back pair all)

    place : index + 2 ≡ length (first ∷ take index rest) + 1
    place = let inside = m.place in grind (arith, common_steps)

pub fault_of_lack : (command : Command) (first : List ℕ) (rest : List (List ℕ)) (given : List Pair)
    → first ≡ command_text command → AreGiven command rest given
    → has_required (record { command = command; given = given }) ≡ false
    → IsFault (first ∷ rest) (length (first ∷ rest) + 1)
fault_of_lack command first rest given is are lack =
    let read : Read = record { command = command; given = given } in
    missing (read, (is, are))
    (λ other words. let same = Keeps-one (first ∷ rest) other read words.keeps (is, are) in
    let complete : has_required read ≡ true = subst (λ r. has_required r ≡ true) same words.complete in
    absurd (let no : ⊥ = cc in no)) refl

-- the texts up to one, and that one
take-map-more : {X Y : Type 0} (f : X → Y) (xs : List X) (i : ℕ) (x : X) → i < length xs → x ≡ get_or xs i x
    → take (i + 1) (map f xs) ≡ take i (map f xs) ++ f x ∷ []
take-map-more f xs i x inside e =
    let more : take (i + 1) xs ≡ take i xs ++ x ∷ [] = rw add-one
    (take-suc xs i x inside ∙ ap (λ y. take i xs ++ y ∷ []) (sym e)) in
    take-map f (i + 1) xs ∙ ap (map f) more ∙ map-append f (take i xs) (x ∷ [])
    ∙ ap (λ l. l ++ f x ∷ []) (sym (take-map f i xs))

-- the texts are those before one, that one and those after it
map-at : {X Y : Type 0} (f : X → Y) (xs : List X) (i : ℕ) (x : X) → i < length xs → x ≡ get_or xs i x
    → map f xs ≡ take i (map f xs) ++ f x ∷ drop (i + 1) (map f xs)
map-at f xs i x inside e =
    sym (take-append-drop (i + 1) (map f xs)) ∙ ap (λ l. l ++ drop (i + 1) (map f xs)) (take-map-more f xs i x inside e)
    ∙ append_assoc (take i (map f xs)) (f x ∷ []) (drop (i + 1) (map f xs))

module _ (command : Command) {Z : Type 0} (words : List (String Z)) (i : ℕ) (word : String Z) (text : List ℕ)
    (given : List Given) where
  -- a word that keeps the rules was taken in
  pub AreGiven-more : (after : List Given) (one : Given) (name : Name) (value : List ℕ) → i < length words
      → word ≡ get_or words i word → text ≡ string_bytes word
      → AreGiven command (take i (texts words)) (pairs given) → text ≡ word_of (record { name = name; value = value })
      → MayFollow command (pairs given) (record { name = name; value = value }) → one.name ≡ name
      → string_bytes one.value ≡ value
      → after ≡ given ++ one ∷ [] → AreGiven command (take (i + 1) (texts words)) (pairs after)
  AreGiven-more after one name value inside at is are written follow name_is value_is added =
      let pair : Pair = record { name = name; value = value } in
      let made : Name → List ℕ → Pair = λ n v. record { name = n; value = v } in
      let one_is : pair_of one ≡ pair = ap (λ n. made n (string_bytes one.value)) name_is
      ∙ ap (λ v. made name v) value_is in
      let all : pairs given ++ pair ∷ [] ≡ pairs after =
      sym (ap pairs added ∙ map-append pair_of given (one ∷ []) ∙ ap (λ q. pairs given ++ q ∷ []) one_is) in
      subst (AreGiven command (take (i + 1) (texts words))) all (record {
        written =
            take-map-more string_bytes words i word inside at ∙ ap (λ t. take i (texts words) ++ t ∷ []) (sym is)
            ∙ ap (λ l. l ++ text ∷ []) are.written ∙ ap (λ t. map word_of (pairs given) ++ t ∷ []) written
            ∙ sym (map-append word_of (pairs given) (pair ∷ []));
        follow = AllFollow-last command [] (pairs given) pair are.follow follow;
      })

  -- a word that breaks a rule stands here
  pub misfit : i < length words → word ≡ get_or words i word → text ≡ string_bytes word
      → AreGiven command (take i (texts words)) (pairs given)
      → ((pair : Pair) → text ≡ word_of pair → ¬ MayFollow command (pairs given) pair)
      → IsMisfit command (texts words) i
  misfit inside at is are breaks_rule = record {
    given = pairs given;
    before = are;
    place = grind (arith, common_steps);
    word = text;
    split = map-at string_bytes words i word inside at ∙ ap (λ t. take i (texts words) ++ t ∷ drop (i + 1)
        (texts words)) (sym is);
    breaks = breaks_rule;
  }

-- the texts up to the last are all
pub all_texts : {Z : Type 0} (words : List (String Z)) (i : ℕ) → length words ≤ i → take i (texts words) ≡ texts words
all_texts words i past = take_past (texts words) i (omega (arith, past, length-map words string_bytes))
  where
    take_past : (xs : List (List ℕ)) (n : ℕ) → length xs ≤ n → take n xs ≡ xs
    take_past xs n h = grind (arith, common_steps)
