-- What the cache's lists ask for accesses, run on a list of lines, is the same accesses on a list of bytes that is fed.
use Rattle.std.proofs.Common.{◌≡◌, ℕ, ◌+◌, ◌-◌, ◌*◌, Bool, true, false, ◌&&◌, not, if◌then◌else◌, List, [], ◌∷◌, Option}
use Rattle.std.proofs.Common.{Some, None, Result, Ok, Err, ◌==◌, refl, sym, ap, subst, ◌∙◌, arith}
use Rattle.request_plan.specs.Plan.{Plan, Done, Ask, bind, through}
use Rattle.request_plan.specs.Course.{Course, Finished, Starved, Astray, after_read, after_course, course}
use Rattle.request_plan.proofs.Courses.{course-bind}
use Rattle.rv32_core.specs.Access.{Access, Load, Store, access_bytes, slice_of, spliced}
use Rattle.rv32_core.specs.LineList.{Read, Write, LineUse}
use Rattle.data_cache.specs.Lines.{LineRequest, Fetch}
use Rattle.data_cache.specs.Lines as lines
use Rattle.data_cache.specs.CacheLists.{Kept, Sets, Lines, needs, keeps, set_of, with_kept, set_after, sets_after}
use Rattle.data_cache.specs.CacheLists.{victim, line_in, stored, fetched, set_settled, ask_all, use_set, after_use}
use Rattle.data_cache.specs.CacheLists.{write_lines}
use Rattle.data_cache.specs.Cached.{line_at, place_at, lists_access, use_at}
use Rattle.fed_run.specs.Fed.{Feed, asks, fed_line, fed_use}
use Rattle.fed_run.specs.Answered.{line_source}
use Rattle.fed_run.specs.Fed.{NoneLeft, AnotherLine, NotedLine, Unfed, fed_map, fed_then}

-- ---- a use
-- a course that isn't fed: it is starved where no line is left, and else the next is another line
abbrev pub unfed_course : {Q B A : Type 0} → Q → B → Unfed → Course NotedLine Q B A
unfed_course q b NoneLeft = Starved q b
unfed_course q b AnotherLine = Astray

-- a course by what is fed
abbrev pub fed_course : {Q B A : Type 0} → Q → B → Result (A × List NotedLine) Unfed → Course NotedLine Q B A
fed_course q b (Err why) = unfed_course q b why
fed_course q b (Ok r) = Finished (r.0) (r.1)

-- a victim's store takes no line
stored-by : {B : Type 0} (left : B) (memory : List ℕ) (line : ℕ) (value : List ℕ) (dirty : Bool)
    (items : List NotedLine)
    → course line_source (ask_all left memory (if dirty then lines.Store line value ∷ [] else [])) items
    ≡ Finished memory items
stored-by left memory line value true items = refl
stored-by left memory line value false items = refl

course-stored : {B : Type 0} (left : B) (memory : List ℕ) (v : Option Kept) (items : List NotedLine)
    → course line_source (ask_all left memory (stored memory v)) items ≡ Finished memory items
course-stored left memory None items = refl
course-stored left memory (Some k) items = stored-by left memory k.line (line_in memory k.line) k.dirty items

-- a fetch takes the next line
course-fetched : {B : Type 0} (left : B) (memory : List ℕ) (line : ℕ) (b : Bool) (items : List NotedLine)
    → course line_source (ask_all left memory (if b then Fetch line ∷ [] else [])) items
    ≡ fed_course (Fetch line) left (fed_line memory line items b)
course-fetched left memory line false items = refl
course-fetched left memory line true [] = refl
course-fetched {B} left memory line true (noted ∷ rest) = own (noted.line == line)
  where
    own : (b : Bool)
        → ◌≡◌ {A = Course NotedLine LineRequest B (List ℕ)}
        (after_read (λ (x : List ℕ). Finished (spliced memory (64 * line) x) rest)
        (if b then Some noted.bytes else None))
        (fed_course (Fetch line) left
        (if b then Ok (spliced memory (64 * line) noted.bytes, rest) else Err AnotherLine))
    own false = refl
    own true = refl

after-fed : {Q B C A D : Type 0} (put : B → C) (f : A → D) (q : Q) (b : B) (r : Result (A × List NotedLine) Unfed)
    → after_course put (λ (a : A) (rest : List NotedLine). Finished (f a) rest) (fed_course q b r)
    ≡ fed_course q (put b) (fed_map (λ (z : A × List NotedLine). (f (z.0), z.1)) r)
after-fed put f q b (Err NoneLeft) = refl
after-fed put f q b (Err AnotherLine) = refl
after-fed put f q b (Ok r) = refl

pub course-use : (ways : ℕ) (set : List Kept) (memory : List ℕ) (use_of : LineUse) (items : List NotedLine)
    → course line_source (use_set ways set memory use_of) items
    ≡ fed_course (Fetch use_of.line) (set_settled ways set (victim ways set use_of.line))
    (fed_map (λ (z : List ℕ × List NotedLine). ((set_after ways set use_of, z.0), z.1))
    (fed_line memory use_of.line items (needs use_of.kind && not (keeps set use_of.line))))
course-use ways set memory use_of items =
    let v : Option Kept = victim ways set use_of.line in
    let left : List Kept = set_settled ways set v in
    let last : List ℕ → Plan LineRequest (List ℕ) (List Kept) (List Kept × List ℕ) =
    λ brought. Done (set_after ways set use_of, brought) in
    let next : List ℕ → Plan LineRequest (List ℕ) (List Kept) (List Kept × List ℕ) =
    λ now. bind (λ l. l) (ask_all left now (fetched set use_of)) last in
    course-bind line_source (λ l. l) (ask_all set memory (stored memory v)) next items
    ∙ ap (after_course (λ l. l) (λ now rest. course line_source (next now) rest)) (course-stored set memory v items)
    ∙ course-bind line_source (λ l. l) (ask_all left memory (fetched set use_of)) last items
    ∙ ap (after_course (λ l. l) (λ brought rest. course line_source (last brought) rest))
    (course-fetched left memory use_of.line (needs use_of.kind && not (keeps set use_of.line)) items)
    ∙ after-fed (λ l. l) (λ brought. (set_after ways set use_of, brought)) (Fetch use_of.line) left
    (fed_line memory use_of.line items (needs use_of.kind && not (keeps set use_of.line)))

-- ---- an access
-- the lists of a machine that is fed
abbrev pub lists_in : Feed → Lines
lists_in feed = record { memory = feed.memory; sets = feed.sets }

-- an access on the list of bytes
abbrev pub accessed : ℕ → Access → Feed → Feed
accessed base access feed = record feed { memory = (access_bytes base feed.memory access).1 }

abbrev out_of : ℕ → Access → Feed → (Lines × List ℕ) × List NotedLine
out_of base access now = ((lists_in (accessed base access now), (access_bytes base now.memory access).0), now.left)

-- what an access leaves where it is starved
abbrev left_by : ℕ → ℕ → Feed → Access → Sets
left_by base ways feed access =
    let line : ℕ = (use_at base access).line in
    with_kept feed.sets line (set_settled ways (set_of feed.sets line) (victim ways (set_of feed.sets line) line))

-- the line and the place of an address
line_and_place : (base address : ℕ) → 64 * line_at base address + place_at base address ≡ address - base
line_and_place base address = omega arith

abbrev built : ℕ → Feed → LineUse → List ℕ × List NotedLine → Feed
built ways feed use_of r = record { memory = r.0; sets = sets_after ways feed.sets use_of; left = r.1 }

load-out : (base ways : ℕ) (feed : Feed) (address count : ℕ) (left : List Kept)
    (r : Result (List ℕ × List NotedLine) Unfed)
    → let line : ℕ = line_at base address in let use_of : LineUse = record { line = line; kind = Read } in
    after_course (with_kept feed.sets line)
    (λ (z : List Kept × List ℕ) (rest : List NotedLine).
    Finished (
      after_use (lists_in feed) line (z.0) (z.1),
      slice_of (z.1) (64 * line + place_at base address) count,
    ) rest)
    (fed_course (Fetch line) left
    (fed_map (λ (z : List ℕ × List NotedLine). ((set_after ways (set_of feed.sets line) use_of, z.0), z.1)) r))
    ≡ fed_course (Fetch line) (with_kept feed.sets line left)
    (fed_map (out_of base (Load address count)) (fed_map (built ways feed use_of) r))
load-out base ways feed address count left (Err NoneLeft) = refl
load-out base ways feed address count left (Err AnotherLine) = refl
load-out base ways feed address count left (Ok r) =
    let line : ℕ = line_at base address in
    ap (λ (at : ℕ). Finished (
      after_use (lists_in feed) line
          (set_after ways (set_of feed.sets line) (record { line = line; kind = Read })) (r.0),
      slice_of (r.0) at count,
    ) (r.1))
    (line_and_place base address)

store-out : (base ways : ℕ) (feed : Feed) (address : ℕ) (bytes : List ℕ) (left : List Kept)
    (r : Result (List ℕ × List NotedLine) Unfed)
    → let line : ℕ = line_at base address in let use_of : LineUse = record { line = line; kind = Write } in
    after_course (λ (l : Sets). l) (λ (now : Lines) (rest : List NotedLine). Finished (now, []) rest)
    (after_course (with_kept feed.sets line)
    (λ (z : List Kept × List ℕ) (rest : List NotedLine).
    Finished (after_use (lists_in feed) line (z.0) (spliced (z.1) (64 * line + place_at base address) bytes)) rest)
    (fed_course (Fetch line) left
    (fed_map (λ (z : List ℕ × List NotedLine). ((set_after ways (set_of feed.sets line) use_of, z.0), z.1)) r)))
    ≡ fed_course (Fetch line) (with_kept feed.sets line left)
    (fed_map (out_of base (Store address bytes)) (fed_map (built ways feed use_of) r))
store-out base ways feed address bytes left (Err NoneLeft) = refl
store-out base ways feed address bytes left (Err AnotherLine) = refl
store-out base ways feed address bytes left (Ok r) =
    let line : ℕ = line_at base address in
    ap (λ (at : ℕ). Finished (
      after_use (lists_in feed) line
          (set_after ways (set_of feed.sets line) (record { line = line; kind = Write })) (spliced (r.0) at bytes),
      [],
    ) (r.1))
    (line_and_place base address)

access-course : (base ways : ℕ) (feed : Feed) (access : Access)
    → course line_source (lists_access base ways (lists_in feed) access) feed.left
    ≡ fed_course (Fetch ((use_at base access).line)) (left_by base ways feed access)
    (fed_map (out_of base access) (fed_use ways feed (use_at base access)))
access-course base ways feed (Load address count) =
    let line : ℕ = line_at base address in
    let use_of : LineUse = record { line = line; kind = Read } in
    let set : List Kept = set_of feed.sets line in
    let next : List Kept × List ℕ → Plan LineRequest (List ℕ) Sets (Lines × List ℕ) =
    λ z. Done (after_use (lists_in feed) line (z.0) (z.1), slice_of (z.1) (64 * line + place_at base address) count) in
    course-bind line_source (with_kept feed.sets line) (use_set ways set feed.memory use_of) next feed.left
    ∙ ap (after_course (with_kept feed.sets line) (λ z rest. course line_source (next z) rest))
    (course-use ways set feed.memory use_of feed.left)
    ∙ load-out base ways feed address count (set_settled ways set (victim ways set line))
    (fed_line feed.memory line feed.left (asks feed.sets use_of))
access-course base ways feed (Store address bytes) =
    let line : ℕ = line_at base address in
    let use_of : LineUse = record { line = line; kind = Write } in
    let set : List Kept = set_of feed.sets line in
    let next : List Kept × List ℕ → Plan LineRequest (List ℕ) Sets Lines =
    λ z. Done (after_use (lists_in feed) line (z.0) (spliced (z.1) (64 * line + place_at base address) bytes)) in
    let last : Lines → Plan LineRequest (List ℕ) Sets (Lines × List ℕ) = λ now. Done (now, []) in
    course-bind line_source (λ l. l)
    (write_lines ways (lists_in feed) line (place_at base address) bytes) last feed.left
    ∙ ap (after_course (λ (l : Sets). l) (λ now rest. course line_source (last now) rest))
    (course-bind line_source (with_kept feed.sets line) (use_set ways set feed.memory use_of) next feed.left
    ∙ ap (after_course (with_kept feed.sets line) (λ z rest. course line_source (next z) rest))
    (course-use ways set feed.memory use_of feed.left))
    ∙ store-out base ways feed address bytes (set_settled ways set (victim ways set line))
    (fed_line feed.memory line feed.left (asks feed.sets use_of))

-- ---- a plan of accesses
-- A plan of accesses over a list of bytes that is fed: each access uses its line, and is then answered by the bytes.
abbrev pub fed_served : {B A : Type 0} → ℕ → ℕ → Plan Access (List ℕ) B A → Feed → Result (A × Feed) Unfed
fed_served base ways (Done a) feed = Ok (a, feed)
fed_served base ways (Ask access left next) feed = fed_then
    (λ (now : Feed). fed_served base ways (next ((access_bytes base now.memory access).0)) (accessed base access now))
    (fed_use ways feed (use_at base access))

-- a course that is fed
abbrev pub IsFed : {C A : Type 0} → Course NotedLine LineRequest C (Lines × A) → Result (A × Feed) Unfed → Type 0
IsFed (Finished out items) fed =
    fed ≡ Ok (out.1, record { memory = (out.0).memory; sets = (out.0).sets; left = items })
IsFed (Starved request left) fed = fed ≡ Err NoneLeft
IsFed Astray fed = fed ≡ Err AnotherLine

pub plan-course : {B A : Type 0} (base ways : ℕ) (plan : Plan Access (List ℕ) B A) (feed : Feed)
    → IsFed (course line_source (through (lists_access base ways) plan (lists_in feed)) feed.left)
    (fed_served base ways plan feed)
plan-course base ways (Done a) feed = refl
plan-course {B} {A} base ways (Ask access left next) feed =
    let on : Lines × List ℕ → Plan LineRequest (List ℕ) (Sets × B) (Lines × A) =
    λ r. through (lists_access base ways) (next (r.1)) (r.0) in
    let put : Sets → Sets × B = λ c. (c, left) in
    subst (λ (z : Course NotedLine LineRequest (Sets × B) (Lines × A)). IsFed z
    (fed_served base ways (Ask access left next) feed))
    (sym (course-bind line_source put (lists_access base ways (lists_in feed) access) on feed.left
    ∙ ap (after_course put (λ r rest. course line_source (on r) rest)) (access-course base ways feed access)))
    (at (fed_use ways feed (use_at base access))
    (λ now. plan-course base ways (next ((access_bytes base now.memory access).0)) (accessed base access now)))
  where
    at : (r : Result Feed Unfed)
        → ((now : Feed) → IsFed (course line_source (through (lists_access base ways)
        (next ((access_bytes base now.memory access).0)) (lists_in (accessed base access now))) now.left)
        (fed_served base ways (next ((access_bytes base now.memory access).0)) (accessed base access now)))
        → IsFed (after_course (λ (c : Sets). (c, left))
        (λ (z : Lines × List ℕ) (rest : List NotedLine).
        course line_source (through (lists_access base ways) (next (z.1)) (z.0)) rest)
        (fed_course (Fetch ((use_at base access).line)) (left_by base ways feed access)
        (fed_map (out_of base access) r)))
        (fed_then (λ (now : Feed). fed_served base ways (next ((access_bytes base now.memory access).0))
        (accessed base access now)) r)
    at (Err NoneLeft) each = refl
    at (Err AnotherLine) each = refl
    at (Ok now) each = each now
