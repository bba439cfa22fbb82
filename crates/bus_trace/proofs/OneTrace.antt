-- A text is one trace's at most, and has no fault then.
use Rattle.std.proofs.Common.{◌≡◌, ◌≢◌, ℕ, suc, true, List, [], ◌∷◌, ◌++◌, map}
use Rattle.std.proofs.Common.{get_or, drop, refl, sym, ◌∙◌, ap, subst, arith, append_assoc, append-nil}
use Rattle.std.specs.Prelude.{codes, not, ◌==◌}
use Rattle.std.specs.Fmt.{decimal}
use Rattle.std.specs.List.{AllByRecursion, list_all}
use Rattle.std.specs.Str.Parse.{AllDigits}
use Rattle.std.proofs.lemmas.List.Elements.{recursion_from_All}
use Rattle.std.proofs.lemmas.Str.Parse.{tells_digits}
use Rattle.asc_base.proofs.Bytes.{both}
use Rattle.bus_schedule.specs.Timetable.{Public}
use Rattle.bus_trace.specs.declared.fault.TraceKind.{TraceKind}
use Rattle.bus_trace.specs.declared.fault.TraceKind.TheVariants.{Form, Range, Cut, Extra}
use Rattle.bus_trace.specs.declared.trace.Seen.{Seen}
use Rattle.bus_trace.specs.Trace.{TraceLists, Line, line, spaced, lines_of, access_line, end_line, text_of}
use Rattle.bus_trace.specs.Trace.{trace_text}
use Rattle.bus_trace.specs.Grammar.{IsTrace, IsShort, AreShort, IsForm, TraceText}
use Rattle.bus_trace.specs.Reader.{Begins, IsOpen, IsUnended, FaultAfter, form, range, cut, extra}
use Rattle.bus_trace.proofs.TextLaws.{text_of_none, text_of_cons}
use Rattle.bus_trace.proofs.NumberLaws.{number_digits}
use Rattle.bus_trace.proofs.RateLaws.{line_injective, one_injective}
use Rattle.bus_trace.specs.Reading.{seen_with}
use Rattle.bus_trace.proofs.PlaceLaws.{header_with, trace_is_form, trace_of_items}

-- ---- lines have no line feed

abbrev pub NoFeed : List ℕ → Type 0
NoFeed bytes = AllByRecursion (λ b. b ≢ 10) bytes

abbrev pub AreLines : List Line → Type 0
AreLines lines = AllByRecursion NoFeed lines

pub feed_free : (bytes : List ℕ) → IsUnended bytes → NoFeed bytes
feed_free [] none = tt
feed_free (b ∷ bytes) none =
    (λ same. none (0, omega arith, same), feed_free bytes (λ has. none (suc has.0, omega (arith, has.1), has.2)))

no_feed-append : (xs ys : List ℕ) → NoFeed xs → NoFeed ys → NoFeed (xs ++ ys)
no_feed-append [] ys one two = two
no_feed-append (x ∷ xs) ys one two = (one.0, no_feed-append xs ys one.1 two)

digits_no_feed : (ds : List ℕ) → AllDigits 10 ds → NoFeed ds
digits_no_feed [] are = tt
digits_no_feed (d ∷ ds) are =
    let range = ((tells_digits).parts d ds are).0 in (λ same. omega (arith, range, same), digits_no_feed ds are.1)

spaced_no_feed : (ns : List ℕ) → AllByRecursion IsShort ns → NoFeed (spaced ns)
spaced_no_feed [] short = tt
spaced_no_feed (n ∷ ns) short = (
  λ same. omega (arith, same),
  no_feed-append (decimal n) (spaced ns) (digits_no_feed (decimal n)
      (number_digits n short.0)) (spaced_no_feed ns short.1),
)

line_no_feed : (word : Line) (ns : List ℕ) → NoFeed word → AllByRecursion IsShort ns → NoFeed (line word ns)
line_no_feed word ns free short = no_feed-append word (spaced ns) free (spaced_no_feed ns short)

-- a word that has none, which computes
tested : (bytes : List ℕ) → list_all (λ b. not (b == 10)) bytes ≡ true → NoFeed bytes
tested [] is = tt
tested (b ∷ bytes) is = let parts = both (not (b == 10)) (list_all (λ b. not (b == 10)) bytes) is in
    (λ same. no b same parts.0, tested bytes parts.1)
  where
    no : (b : ℕ) → b ≡ 10 → not (b == 10) ≡ true → ⊥
    no b same is = let ten : not (10 == 10) ≡ true = subst (λ n. not (n == 10) ≡ true) same is in cc

access_no_feed : (seen : Seen) → AreShort seen → NoFeed (access_line seen)
access_no_feed seen short =
    line_no_feed (codes "access") (seen.start ∷ seen.leaf.0 ∷ seen.moves ∷ []) (tested (codes "access") refl)
    (short.start, (short.leaf, (short.moves, tt)))

items_no_feed : (xs : List Seen) (e : ℕ) → AllByRecursion AreShort xs → IsShort e
    → AreLines (map access_line xs ++ end_line e ∷ [])
items_no_feed [] e short last = (line_no_feed (codes "end") (e ∷ []) (tested (codes "end") refl) (last, tt), tt)
items_no_feed (x ∷ xs) e short last = (access_no_feed x short.0, items_no_feed xs e short.1 last)

pub lines_no_feed : (t : TraceLists) → IsForm t → AreLines (lines_of t)
lines_no_feed t is = (
  tested (codes "ascend trace 1") refl,
  (
    line_no_feed (codes "levels") (t.header.levels ∷ []) (tested (codes "levels") refl) (is.levels, tt),
    (
      line_no_feed (codes "rates") t.header.rates (tested (codes "rates") refl)
          (recursion_from_All IsShort t.header.rates is.rates),
      (
        line_no_feed (codes "first") (t.header.first ∷ []) (tested (codes "first") refl) (is.first, tt),
        (
          line_no_feed (codes "epoch") (t.header.epoch ∷ []) (tested (codes "epoch") refl) (is.epoch, tt),
          (
            line_no_feed (codes "leak") (t.header.leak ∷ []) (tested (codes "leak") refl) (is.leak, tt),
            items_no_feed t.accesses t.end (recursion_from_All AreShort t.accesses is.accesses) is.end,
          ),
        ),
      ),
    ),
  ),
)

pub lines-split : (xs ys : List Line) → AreLines (xs ++ ys) → AreLines xs × AreLines ys
lines-split [] ys all = (tt, all)
lines-split (x ∷ xs) ys all = let more = lines-split xs ys all.1 in ((all.0, more.0), more.1)

-- ---- a text is cut at its line feeds

pub cut_line : (one other r s : List ℕ) → NoFeed one → NoFeed other → one ++ 10 ∷ r ≡ other ++ 10 ∷ s
    → (one ≡ other) × (r ≡ s)
cut_line [] [] r s a b same = (refl, cc)
cut_line [] (y ∷ other) r s a b same = absurd (b.0 (let e : y ≡ 10 = cc in e))
cut_line (x ∷ one) [] r s a b same = absurd (a.0 (let e : x ≡ 10 = cc in e))
cut_line (x ∷ one) (y ∷ other) r s a b same =
    let heads : x ≡ y = cc in
    let tails : one ++ 10 ∷ r ≡ other ++ 10 ∷ s = cc in
    let more = cut_line one other r s a.1 b.1 tails in
    (ap (λ h. h ∷ one) heads ∙ ap (λ t. y ∷ t) more.0, more.1)

pub text_then : (l : Line) (lines : List Line) (rest : List ℕ)
    → text_of (l ∷ lines) ++ rest ≡ l ++ 10 ∷ (text_of lines ++ rest)
text_then l lines rest =
    ap (λ t. t ++ rest) (text_of_cons l lines) ∙ append_assoc (l ++ 10 ∷ []) (text_of lines) rest
    ∙ append_assoc l (10 ∷ []) (text_of lines ++ rest)

text_first : (l : Line) (lines : List Line) → text_of (l ∷ lines) ≡ l ++ 10 ∷ text_of lines
text_first l lines = text_of_cons l lines ∙ append_assoc l (10 ∷ []) (text_of lines)

has_feed : (l : Line) (rest : List ℕ) → l ++ 10 ∷ rest ≡ [] → ⊥
has_feed [] rest same = cc
has_feed (x ∷ l) rest same = cc

-- lines that stand first in a text of lines are the first of these
pub lines_cut : (good lines : List Line) (rest : List ℕ) → AreLines good → AreLines lines
    → text_of lines ≡ text_of good ++ rest → (more : List Line) × (lines ≡ good ++ more) × (rest ≡ text_of more)
lines_cut [] lines rest a b same = (lines, refl, sym (same ∙ ap (λ t. t ++ rest) text_of_none))
lines_cut (g ∷ good) [] rest a b same =
    absurd (has_feed g (text_of good ++ rest) (sym (text_then g good rest) ∙ sym same ∙ text_of_none))
lines_cut (g ∷ good) (l ∷ lines) rest a b same =
    let one = cut_line l g (text_of lines) (text_of good ++ rest) b.0 a.0
    (sym (text_first l lines) ∙ same ∙ text_then g good rest) in
    let more = lines_cut good lines rest a.1 b.1 one.1 in
    (more.0, ap (λ h. h ∷ lines) one.0 ∙ ap (λ t. g ∷ t) more.1, more.2)

-- ---- lines tell their trace

three_same : (xs ys : Seen) → AreShort xs → AreShort ys → access_line xs ≡ access_line ys → xs ≡ ys
three_same x y short also same =
    let all : x.start ∷ x.leaf.0 ∷ x.moves ∷ [] ≡ y.start ∷ y.leaf.0 ∷ y.moves ∷ [] =
    line_injective (codes "access") (x.start ∷ x.leaf.0 ∷ x.moves ∷ []) (y.start ∷ y.leaf.0 ∷ y.moves ∷ [])
    (short.start, (short.leaf, (short.moves, tt))) (also.start, (also.leaf, (also.moves, tt))) same in
    let one : x.start ≡ y.start = cc in
    let two : x.leaf.0 ≡ y.leaf.0 = cc in
    let three : x.moves ≡ y.moves = cc in
    ap (λ s. seen_with s x.leaf.0 x.moves) one ∙ ap (λ l. seen_with y.start l x.moves) two
    ∙ ap (λ m. seen_with y.start y.leaf.0 m) three

items_same : (xs ys : List Seen) (d e : ℕ) (more : List Line) → AllByRecursion AreShort xs → AllByRecursion AreShort ys
    → IsShort d → IsShort e
    → map access_line xs ++ end_line d ∷ [] ≡ (map access_line ys ++ end_line e ∷ []) ++ more
    → (xs ≡ ys) × (d ≡ e) × (more ≡ [])
items_same [] [] d e more a b short also same = (
  refl,
  one_injective (codes "end") d e short also (ap (λ ls. get_or ls 0 []) same),
  sym (ap (λ (ls : List Line). drop 1 ls) same),
)
items_same [] (y ∷ ys) d e more a b short also same =
    let n : 101 ≡ 97 = ap (λ (ls : List Line). get_or (get_or ls 0 []) 0 0) same in absurd (omega (arith, n))
items_same (x ∷ xs) [] d e more a b short also same =
    let n : 97 ≡ 101 = ap (λ (ls : List Line). get_or (get_or ls 0 []) 0 0) same in absurd (omega (arith, n))
items_same (x ∷ xs) (y ∷ ys) d e more a b short also same =
    let one = three_same x y a.0 b.0 (ap (λ ls. get_or ls 0 []) same) in
    let rest = items_same xs ys d e more a.1 b.1 short also (ap (λ (ls : List Line). drop 1 ls) same) in
    (ap (λ h. h ∷ xs) one ∙ ap (λ t. y ∷ t) rest.0, rest.1, rest.2)

header_same : (h g : Public) → h.levels ≡ g.levels → h.rates ≡ g.rates → h.first ≡ g.first → h.epoch ≡ g.epoch
    → h.leak ≡ g.leak → h ≡ g
header_same h g l r f e k =
    ap (λ x. header_with x h.rates h.first h.epoch h.leak) l ∙ ap (λ x. header_with g.levels x h.first h.epoch h.leak) r
    ∙ ap (λ x. header_with g.levels g.rates x h.epoch h.leak) f
    ∙ ap (λ x. header_with g.levels g.rates g.first x h.leak) e
    ∙ ap (λ x. header_with g.levels g.rates g.first g.epoch x) k

trace_same : (t u : TraceLists) → t.header ≡ u.header → t.accesses ≡ u.accesses → t.end ≡ u.end → t ≡ u
trace_same t u h a e =
    ap (λ x. trace_of_items x t.accesses t.end) h ∙ ap (λ x. trace_of_items u.header x t.end) a
    ∙ ap (λ x. trace_of_items u.header u.accesses x) e

-- no trace's lines are another's with more behind them
pub lines_tell : (t u : TraceLists) (more : List Line) → IsForm t → IsForm u → lines_of t ≡ lines_of u ++ more
    → (t ≡ u) × (more ≡ [])
lines_tell t u more a b same =
    let items = items_same t.accesses u.accesses t.end u.end more (recursion_from_All AreShort t.accesses a.accesses)
    (recursion_from_All AreShort u.accesses b.accesses) a.end b.end (ap (λ (ls : List Line). drop 6 ls) same) in
    let header = header_same t.header u.header
    (one_injective (codes "levels") t.header.levels u.header.levels a.levels b.levels (ap (λ ls. get_or ls 1 []) same))
    (line_injective (codes "rates") t.header.rates u.header.rates (recursion_from_All IsShort t.header.rates a.rates)
    (recursion_from_All IsShort u.header.rates b.rates) (ap (λ ls. get_or ls 2 []) same))
    (one_injective (codes "first") t.header.first u.header.first a.first b.first (ap (λ ls. get_or ls 3 []) same))
    (one_injective (codes "epoch") t.header.epoch u.header.epoch a.epoch b.epoch (ap (λ ls. get_or ls 4 []) same))
    (one_injective (codes "leak") t.header.leak u.header.leak a.leak b.leak (ap (λ ls. get_or ls 5 []) same)) in
    (trace_same t u header items.0 items.1, items.2)

pub one_trace : (text : List ℕ) (t u : TraceLists) → TraceText text t → TraceText text u → t ≡ u
one_trace text t u a b =
    let shorts = trace_is_form t a.ranges in
    let also = trace_is_form u b.ranges in
    let split = lines_cut (lines_of u) (lines_of t) [] (lines_no_feed u also) (lines_no_feed t shorts)
    (sym a.lines ∙ b.lines ∙ sym (append-nil (trace_text u))) in
    (lines_tell t u split.0 shorts also split.1).0

-- ---- a trace's text has no fault

-- what begins a trace in its form are lines
pub begun_lines : (lines : List Line) → Begins IsForm lines → AreLines lines
begun_lines lines begins =
    (lines-split lines begins.2 (subst AreLines begins.3 (lines_no_feed begins.0 begins.1))).0

pub begun_form : (lines : List Line) → Begins IsTrace lines → Begins IsForm lines
begun_form lines begins = (begins.0, trace_is_form begins.0 begins.1, begins.2, begins.3)

pub open_lines : (good : List Line) → IsOpen good → AreLines good
open_lines good opened =
    (lines-split good (opened.0 ∷ []) (begun_lines (good ++ opened.0 ∷ []) (begun_form _ opened.1))).0

one_line : (good : List Line) (bad : Line) → AreLines good → NoFeed bad → AreLines (good ++ bad ∷ [])
one_line [] bad all free = (free, tt)
one_line (g ∷ good) bad all free = (all.0, one_line good bad all.1 free)

feed_in : (m : Line) (more : List Line) → NoFeed (text_of (m ∷ more)) → ⊥
feed_in m more free = at m (text_of more) (subst NoFeed (text_first m more) free)
  where
    at : (l : Line) (rest : List ℕ) → NoFeed (l ++ 10 ∷ rest) → ⊥
    at [] rest free = free.0 refl
    at (x ∷ l) rest free = at l rest free.1

-- lines that can go on are no whole trace's
pub open_not_whole : (good : List Line) (t : TraceLists) → IsForm t → IsOpen good → lines_of t ≡ good → ⊥
open_not_whole good t short opened same =
    let begins = opened.1 in
    let more = (lines_tell begins.0 t (opened.0 ∷ begins.2) (trace_is_form begins.0 begins.1) short
    (begins.3 ∙ append_assoc good (opened.0 ∷ []) begins.2 ∙ ap (λ ls. ls ++ opened.0 ∷ begins.2) (sym same))).1 in
    cc

pub no_fault : (good : List Line) (text : List ℕ) (kind : TraceKind) (t : TraceLists) → TraceText text t
    → FaultAfter good text kind → ⊥
no_fault good text Form t is (form bad rest parts unended opened not) =
    let shorts = trace_is_form t is.ranges in
    let split = lines_cut (good ++ bad ∷ []) (lines_of t) rest
    (one_line good bad (open_lines good opened) (feed_free bad unended)) (lines_no_feed t shorts)
    (sym is.lines ∙ parts) in
    not (t, shorts, split.0, split.1)
no_fault good text Range t is (range bad rest parts begins opened not) =
    let split = lines_cut (good ++ bad ∷ []) (lines_of t) rest (begun_lines (good ++ bad ∷ []) begins)
    (lines_no_feed t (trace_is_form t is.ranges)) (sym is.lines ∙ parts) in
    not (t, is.ranges, split.0, split.1)
no_fault good text Cut t is (cut rest parts unended opened) =
    let shorts = trace_is_form t is.ranges in
    let split = lines_cut good (lines_of t) rest (open_lines good opened) (lines_no_feed t shorts)
    (sym is.lines ∙ parts) in
    ended shorts split.0 split.1 split.2
  where
    ended : IsForm t → (more : List Line) → lines_of t ≡ good ++ more → rest ≡ text_of more → ⊥
    ended shorts [] same left = open_not_whole good t shorts opened (same ∙ append-nil good)
    ended shorts (m ∷ more) same left = feed_in m more (subst NoFeed left (feed_free rest unended))
no_fault good text Extra t is (extra rest parts some whole) =
    let shorts = trace_is_form t is.ranges in
    let also = trace_is_form whole.0 whole.1 in
    let split = lines_cut good (lines_of t) rest (subst AreLines whole.2 (lines_no_feed whole.0 also))
    (lines_no_feed t shorts) (sym is.lines ∙ parts) in
    let none = (lines_tell t whole.0 split.0 shorts also (split.1 ∙ ap (λ ls. ls ++ split.0) (sym whole.2))).1 in
    some (split.2 ∙ ap text_of none ∙ text_of_none)
