-- What an answered access leaves, from the port's calls that it is made of.
use Rattle.std.proofs.Common.{◌≡◌, ◌+◌, ◌-◌, ◌++◌, ◌≤◌, ℕ, zero, suc, List, [], ◌∷◌, Option, None, Some, Ok, length}
use Rattle.std.proofs.Common.{All}
use Rattle.std.proofs.Common.{refl, sym, ap, ◌∙◌, subst, arith, append-nil, append_assoc}
use Rattle.request_plan.specs.Plan.{Ends, Gives}
use Rattle.request_plan.proofs.Chains.{Ends-unbind}
use Rattle.asc_base.specs.TreeShape.{olat_of}
use Rattle.asc_base.specs.declared.block.Entry.{Entry}
use Rattle.asc_base.specs.declared.block.Line.{Line}
use Rattle.asc_base.specs.declared.block.Message.{Message}
use Rattle.asc_base.specs.declared.block.Point.TheVariants.{Real}
use Rattle.asc_base.specs.declared.stop.Evidence.{Evidence}
use Rattle.asc_base.specs.declared.settings.Config.{Config}
use Rattle.rate_enforcer.specs.declared.clock.Clock.{Clock}
use Rattle.bus_watch.specs.Log.{LogLists, TapState}
use Rattle.asc_base.specs.declared.shape.Shape.{Shape}
use Rattle.unified_tree.specs.Tree.{TreeState}
use Rattle.unified_tree.specs.declared.stop.OpenPath.{OpenPath}
use Rattle.bus_watch.specs.declared.log.Altered.{Altered}
use Rattle.bus_watch.specs.declared.log.Event.{Event}
use Rattle.bus_watch.specs.declared.log.Event.TheVariants.{Tagged}
use Rattle.epoch_learner.specs.Stands.{IsFirstFor}
use Rattle.oram_contents.specs.Contents.{Contents, IsReadTo, after_write}
use Rattle.oram_contents.specs.Entries.{Keys, message_of, entry_of}
use Rattle.oram_contents.specs.Fold.{tagged_entry}
use Rattle.oram_contents.specs.Shapes.{AreOfShape}
use Rattle.oram_contents.specs.Slots.{ArePasses, IsAccess, IsRefill, HasSeeds, drawn_events}
use Rattle.oram_contents.specs.Steps.{accepted}
use Rattle.oram_contents.specs.Verdict.{judged, append_verdict}
use Rattle.oram_stash.specs.Entries.{held, without}
use Rattle.oram_walk.specs.Request.{Slot, Append, Answer}
use Rattle.oram_walk.specs.declared.slots.Access.{Access}
use Rattle.oram_walk.specs.declared.slots.Purpose.{Purpose}
use Rattle.oram_walk.specs.declared.slots.Purpose.TheVariants.{Refill, Keep, Replace}
use Rattle.oram_walk.specs.declared.slots.Seen.{Seen}
use Rattle.rate_enforcer.specs.PortStep.{PortState, PortStep, Opened, Taken, HasNoted, HasPut, Closed, Resting, InSlot}
use Rattle.rate_enforcer.specs.PortStep.{contents}
use Rattle.rate_enforcer.specs.Served.{keys_of, AreFew, IsServed}
use Rattle.oram_frontend.specs.Access.{accept_plan, put_plan, back_plan, judged_plan, close_plan, SlotStep}
use Rattle.oram_frontend.specs.Access.{found_line, next_message}
use Rattle.oram_frontend.specs.Slots.{FitKeys, Keeps, SlotOf, IsServedSlot, IsServedAppend, IsServedAnswer}

-- the keys of a port's tree are these, where they fit
pub keys_fit : (keys : Keys) (s : PortState) → FitKeys keys s → keys_of s.tree keys.tags keys.leaf_of ≡ keys
keys_fit keys s fit =
    ap (λ shape. record { shape = shape; pads = s.tree.key; tags = keys.tags; leaf_of = keys.leaf_of }) fit.shape
    ∙ ap (λ pads. record { shape = keys.shape; pads = pads; tags = keys.tags; leaf_of = keys.leaf_of }) fit.pads

-- A slot that an access asked for is under way: its block was looked for, and these events came after its start.
pub record Under (keys : Keys) (levels : ℕ) (access : Access) (found : Option Entry) (old s : PortState)
    (later : List Event) (back : List Entry) : Type 0 where
  pub passed : ℕ
  pub mid : LogLists
  pub between : Contents
  pub passes : ArePasses keys passed old.tap.log mid (contents old) between old.clock.dummies
  pub few : AreFew keys old.tree.stash passed old.tap.log mid (contents old) between old.clock.dummies passes
  pub seeds : HasSeeds between
  pub start : ℕ
  pub altered : List Altered
  pub joined : List Entry
  pub events_are : s.tap.log.events
      ≡ mid.events ++ (drawn_events keys start (Some access.asked) (Real access.address access.counter) ++ later)
  pub altered_are : s.tap.log.altered ≡ mid.altered ++ altered
  pub noted : All (λ (reply : Altered). reply.before ≡ length mid.events + 2) altered
  pub read : IsReadTo keys.pads keys.shape start (keys.leaf_of (Real access.address access.counter)) altered between
      joined
  pub of_shape : AreOfShape keys.shape joined
  pub found_is : held joined access.address ≡ found
  pub right : judged keys access.address.0 access.counter found ≡ None
  pub contents_are : contents s ≡ record between { hand = without joined access.address ++ back }
  pub first : (last : ℕ) × IsFirstFor (olat_of old.clock.config.shape.levels) last start (Some access.asked)
  pub dummies : s.clock.dummies ≡ old.clock.dummies + passed
  pub real : s.clock.real ≡ old.clock.real + 1
  pub next : s.clock.next ≡ start
  pub fits : FitKeys keys s
  pub config : s.clock.config ≡ old.clock.config
  pub stash : s.tree.stash ≡ old.tree.stash

-- the contents of a port, by their parts
contents_by : (s : PortState) (now : Contents) (hand : List Entry) → s.tree.hand ≡ hand → s.tap.mirror ≡ now.mirror
    → s.tree.seed ≡ now.seed → contents s ≡ record now { hand = hand }
contents_by s now hand a b c =
    let one : contents s ≡ record { hand = hand; mirror = s.tap.mirror; seed = s.tree.seed } =
    ap (λ (h : List Entry). record { hand = h; mirror = s.tap.mirror; seed = s.tree.seed }) a in
    one ∙ ap (λ (m : List (List ℕ)). record { hand = hand; mirror = m; seed = s.tree.seed }) b
    ∙ ap (λ (n : ℕ). record { hand = hand; mirror = now.mirror; seed = n }) c

-- after the block was taken
pub taken : (keys : Keys) (levels notes : ℕ) (access : Access) (found : Option Entry) (old one two : PortState)
    → FitKeys keys old → Resting notes levels old
    → Opened keys.leaf_of levels access.asked (Real access.address access.counter) old one
    → Taken keys.leaf_of levels access.address found one two
    → judged keys access.address.0 access.counter found ≡ None
    → Under keys levels access found old two [] []
taken keys levels notes access found old one two fits rests opened took right =
    let served = subst (λ k. IsServed k old.tree.stash old.tap.log one.tap.log (contents old)
    (contents one) old.clock.dummies one.clock
    access.asked (Real access.address access.counter)) (keys_fit keys old fits) (opened.served keys.tags) in
    let slot = opened.in_slot notes rests in
    let seed : one.tree.seed ≡ served.between.seed = ap (λ (k : Contents). k.seed) served.after_is in
    record {
      passed = one.clock.dummies - old.clock.dummies;
      mid = served.mid;
      between = served.between;
      passes = served.passed;
      few = served.few;
      seeds = omega (
        arith,
        slot.opens.is_for.seed,
        slot.opens.is_open.early,
        slot.opens.is_open.is_config.time.1,
        seed,
      );
      start = one.clock.next;
      altered = served.read.altered;
      joined = one.tree.hand;
      events_are = ap (λ (t : TapState). t.log.events) took.others.tap ∙ served.noted;
      altered_are = ap (λ (t : TapState). t.log.altered) took.others.tap
          ∙ served.read.adds.altered_are;
      noted = served.read.noted;
      read = served.read.read;
      of_shape = served.read.of_shape;
      found_is = sym took.found_is;
      right = right;
      contents_are = contents_by two served.between (without one.tree.hand access.address ++ [])
          (took.hand ∙ sym (append-nil (without one.tree.hand access.address)))
          (ap (λ (t : TapState). t.mirror) took.others.tap ∙ ap (λ (k : Contents). k.mirror) served.after_is)
          (took.others.seed ∙ ap (λ (k : Contents). k.seed) served.after_is);
      first = (one.clock.last, opened.first);
      dummies = ap (λ (c : Clock). c.dummies) took.others.clock
          ∙ sym served.more;
      real = ap (λ (c : Clock). c.real) took.others.clock
          ∙ opened.real;
      next = ap (λ (c : Clock). c.next) took.others.clock;
      fits = record {
        shape = took.others.tree.shape ∙ (opened.same.tree.shape ∙ fits.shape);
        pads = took.others.tree.key ∙ (opened.same.tree.key ∙ fits.pads);
      };
      config = ap (λ (c : Clock). c.config) took.others.clock ∙ opened.same.config;
      stash = took.others.tree.stash ∙ opened.same.tree.stash;
    }

-- after one event more
noted_on : (keys : Keys) (levels : ℕ) (access : Access) (found : Option Entry) (old s t : PortState)
    (later : List Event) (back : List Entry) (event : Event) → HasNoted keys.leaf_of levels event s t
    → Under keys levels access found old s later back → Under keys levels access found old t (later ++ event ∷ []) back
noted_on keys levels access found old s t later back event note u = record {
  passed = u.passed;
  mid = u.mid;
  between = u.between;
  passes = u.passes;
  few = u.few;
  seeds = u.seeds;
  start = u.start;
  altered = u.altered;
  joined = u.joined;
  events_are = ap (λ (l : LogLists). l.events) note.log ∙ ap (λ (l : List Event). l ++ event ∷ []) u.events_are
      ∙ append_assoc u.mid.events (drawn_events keys u.start (Some access.asked)
      (Real access.address access.counter) ++ later) (event ∷ [])
      ∙ ap (λ l. u.mid.events ++ l) (append_assoc (drawn_events keys u.start (Some access.asked)
      (Real access.address access.counter)) later (event ∷ []));
  altered_are = ap (λ (l : LogLists). l.altered) note.log ∙ u.altered_are;
  noted = u.noted;
  read = u.read;
  of_shape = u.of_shape;
  found_is = u.found_is;
  right = u.right;
  contents_are = contents_by t u.between (without u.joined access.address ++ back)
      (ap (λ (tree : TreeState). tree.hand) note.tree ∙ ap (λ (k : Contents). k.hand) u.contents_are)
      (note.mirror ∙ ap (λ (k : Contents). k.mirror) u.contents_are)
      (ap (λ (tree : TreeState). tree.seed) note.tree ∙ ap (λ (k : Contents). k.seed) u.contents_are);
  first = u.first;
  dummies = ap (λ (c : Clock). c.dummies) note.clock ∙ u.dummies;
  real = ap (λ (c : Clock). c.real) note.clock ∙ u.real;
  next = ap (λ (c : Clock). c.next) note.clock ∙ u.next;
  fits = record {
    shape = ap (λ (tree : TreeState). tree.shape) note.tree ∙ u.fits.shape;
    pads = ap (λ (tree : TreeState). tree.key) note.tree ∙ u.fits.pads;
  };
  config = ap (λ (c : Clock). c.config) note.clock ∙ u.config;
  stash = ap (λ (tree : TreeState). tree.stash) note.tree ∙ u.stash;
}

-- after an entry was put back
put_on : (keys : Keys) (levels : ℕ) (access : Access) (found : Option Entry) (old s t : PortState)
    (later : List Event) (entry : Entry) → HasPut keys.leaf_of levels entry s t
    → Under keys levels access found old s later [] → Under keys levels access found old t later (entry ∷ [])
put_on keys levels access found old s t later entry put u = record {
  passed = u.passed;
  mid = u.mid;
  between = u.between;
  passes = u.passes;
  few = u.few;
  seeds = u.seeds;
  start = u.start;
  altered = u.altered;
  joined = u.joined;
  events_are = ap (λ (t : TapState). t.log.events) put.others.tap ∙ u.events_are;
  altered_are = ap (λ (t : TapState). t.log.altered) put.others.tap ∙ u.altered_are;
  noted = u.noted;
  read = u.read;
  of_shape = u.of_shape;
  found_is = u.found_is;
  right = u.right;
  contents_are = contents_by t u.between (without u.joined access.address ++ entry ∷ [])
      (put.hand ∙ ap (λ (h : List Entry). h ++ entry ∷ []) (ap (λ (k : Contents). k.hand) u.contents_are
      ∙ append-nil (without u.joined access.address)))
      (ap (λ (t : TapState). t.mirror) put.others.tap ∙ ap (λ (k : Contents). k.mirror) u.contents_are)
      (put.others.seed ∙ ap (λ (k : Contents). k.seed) u.contents_are);
  first = u.first;
  dummies = ap (λ (c : Clock). c.dummies) put.others.clock ∙ u.dummies;
  real = ap (λ (c : Clock). c.real) put.others.clock ∙ u.real;
  next = ap (λ (c : Clock). c.next) put.others.clock ∙ u.next;
  fits = record {
    shape = put.others.tree.shape ∙ u.fits.shape;
    pads = put.others.tree.key ∙ u.fits.pads;
  };
  config = ap (λ (c : Clock). c.config) put.others.clock ∙ u.config;
  stash = put.others.tree.stash ∙ u.stash;
}

-- after what was found was noted
pub accepted_on : (keys : Keys) (levels : ℕ) (access : Access) (found : Option Entry)
    (old s t : PortState) (x : Unit {0})
    → Ends (PortStep keys.leaf_of levels) (accept_plan access found) s t x
    → Under keys levels access found old s [] []
    → Under keys levels access found old t (accepted access.address.0 access.counter found) []
accepted_on keys levels access None old s t x ends u =
    subst (λ v. Under keys levels access None old v [] []) (sym ends.1) u
accepted_on keys levels access (Some entry) old s t x ends u =
    subst (λ v. Under keys levels access (Some entry) old v
    (accepted access.address.0 access.counter (Some entry)) []) (sym ends.3.1)
    (noted_on keys levels access (Some entry) old s ends.1 [] [] _ ends.2.1 u)

-- what is noted, and what is at hand, after a message was put back
pub put_back_on : (keys : Keys) (levels : ℕ) (access : Access) (found : Option Entry) (old s t : PortState)
    (later : List Event) (message : Message) (x : Unit {0})
    → Ends (PortStep keys.leaf_of levels) (put_plan keys message) s t x
    → Under keys levels access found old s later []
    → Under keys levels access found old t (later ++ Tagged message ∷ []) (tagged_entry keys message ∷ [])
put_back_on keys levels access found old s t later message x ends u =
    subst (λ v. Under keys levels access found old v (later ++ Tagged message ∷ []) (tagged_entry keys message ∷ []))
    (sym ends.3.3.1)
    (put_on keys levels access found old ends.1 ends.3.1 (later ++ Tagged message ∷ []) (tagged_entry keys message)
    ends.3.2.1 (noted_on keys levels access found old s ends.1 later [] (Tagged message) ends.2.1 u))

-- the slot is open, with so many notes left at least
abbrev pub IsOpenFor : Keys → ℕ → Access → ℕ → PortState → Type 0
IsOpenFor keys levels access least s =
    (notes : ℕ) × (least ≤ notes)
    × InSlot notes levels (keys.leaf_of (Real access.address access.counter)) s

open_noted : (keys : Keys) (levels : ℕ) (access : Access) (least : ℕ) (s t : PortState) (event : Event)
    → HasNoted keys.leaf_of levels event s t → IsOpenFor keys levels access (least + 1) s
    → IsOpenFor keys levels access least t
open_noted keys levels access least s t event note (zero, some, slot) = absurd (omega arith)
open_noted keys levels access least s t event note (suc notes, some, slot) = (
  notes,
  omega arith,
  note.in_slot notes (keys.leaf_of (Real access.address access.counter))
      (subst (λ n. InSlot n levels (keys.leaf_of (Real access.address access.counter)) s) (omega arith) slot),
)

pub open_accepted : (keys : Keys) (levels : ℕ) (access : Access) (found : Option Entry) (least : ℕ) (s t : PortState)
    (x : Unit {0}) → Ends (PortStep keys.leaf_of levels) (accept_plan access found) s t x
    → IsOpenFor keys levels access (least + 1) s → IsOpenFor keys levels access least t
open_accepted keys levels access None least s t x ends (notes, some, slot) = (
  notes,
  omega arith,
  subst (λ v. InSlot notes levels (keys.leaf_of (Real access.address access.counter)) v) (sym ends.1) slot,
)
open_accepted keys levels access (Some entry) least s t x ends open_for =
    subst (λ v. IsOpenFor keys levels access least v) (sym ends.3.1)
    (open_noted keys levels access least s ends.1 _ ends.2.1 open_for)

pub open_put : (keys : Keys) (levels : ℕ) (access : Access) (message : Message) (least : ℕ) (s t : PortState)
    (x : Unit {0}) → Ends (PortStep keys.leaf_of levels) (put_plan keys message) s t x
    → IsOpenFor keys levels access (least + 1) s → IsOpenFor keys levels access least t
open_put keys levels access message least s t x ends open_for =
    let (notes, some, slot) = open_noted keys levels access least s ends.1 _ ends.2.1 open_for in
    subst (λ v. IsOpenFor keys levels access least v) (sym ends.3.3.1)
    (notes, some, ends.3.2.1.in_slot notes (keys.leaf_of (Real access.address access.counter)) slot)

open_less : (keys : Keys) (levels : ℕ) (access : Access) (least : ℕ) (s : PortState)
    → IsOpenFor keys levels access (least + 1) s → IsOpenFor keys levels access least s
open_less keys levels access least s (notes, some, slot) = (notes, omega arith, slot)

-- the path that is written is the one that was read
path_is : (keys : Keys) (levels : ℕ) (access : Access) (least end : ℕ) (s new : PortState)
    (closed : Closed keys.leaf_of levels end s new) → IsOpenFor keys levels access least s
    → (closed.path.leaf.0 ≡ keys.leaf_of (Real access.address access.counter)) × (closed.path.start ≡ s.clock.next)
path_is keys levels access least end s new closed (notes, some, slot) =
    let one : Some closed.path ≡ Some (record { start = slot.slot.start; leaf = slot.slot.leaf }) =
    sym closed.on ∙ slot.opens.is_open.path in
    let same : closed.path ≡ record { start = slot.slot.start; leaf = slot.slot.leaf } = cc in (
      ap (λ (p : OpenPath). p.leaf.0) same ∙ slot.leaf_is,
      ap (λ (p : OpenPath). p.start) same
          ∙ slot.opens.is_open.starts,
    )

-- the contents after the path was written
written : (keys : Keys) (levels : ℕ) (access : Access) (found : Option Entry) (least end : ℕ) (old s new : PortState)
    (later : List Event) (back : List Entry) → Closed keys.leaf_of levels end s new
    → IsOpenFor keys levels access least s → (u : Under keys levels access found old s later back)
    → contents new ≡ after_write keys.pads keys.shape.levels (keys.leaf_of (Real access.address access.counter))
    (record u.between { hand = without u.joined access.address ++ back })
written keys levels access found least end old s new later back closed open_for u =
    closed.written
    ∙ ap (λ (k : List ℕ). after_write k s.tree.shape.levels closed.path.leaf.0 (contents s)) u.fits.pads
    ∙ ap (λ (sh : Shape). after_write keys.pads sh.levels closed.path.leaf.0 (contents s)) u.fits.shape
    ∙ ap (λ (x : ℕ). after_write keys.pads keys.shape.levels x (contents s))
    (path_is keys levels access least end s new closed open_for).0
    ∙ ap (λ (c : Contents). after_write keys.pads keys.shape.levels
    (keys.leaf_of (Real access.address access.counter)) c) u.contents_are

-- what the rest of the slot leaves
module _ (keys : Keys) (levels : ℕ) (access : Access) (seen : Seen) (found : Option Entry) (old : PortState) where
  closed_as : (least end : ℕ) (s new : PortState) (later : List Event) (back : List Entry)
      → Closed keys.leaf_of levels end s new → IsOpenFor keys levels access least s
      → (u : Under keys levels access found old s later back) → seen ≡ record { line = found_line found; end = end }
      → SlotOf keys access access.purpose u.mid s.tap.log u.between (contents new) u.start found
      → IsServedSlot keys access seen old new × Keeps keys levels least old new
  closed_as least end s new later back closed open_for u is slot = (
    record {
      passed = u.passed;
      mid = u.mid;
      between = u.between;
      passes = u.passes;
      few = u.few;
      seeds = u.seeds;
      start = u.start;
      found = found;
      log = s.tap.log;
      slot = slot;
      begins = (later, u.events_are);
      first = u.first;
      ends = closed.ends;
      line = ap (λ (x : Seen). x.line.0) is;
      end = ap (λ (x : Seen). x.end) is ∙ closed.end_is
          ∙ ap (λ (n : ℕ). n + olat_of s.clock.config.shape.levels)
          ((path_is keys levels access least end s new closed open_for).1 ∙ u.next)
          ∙ ap (λ (c : Config). u.start + olat_of c.shape.levels) u.config;
      last = closed.last ∙ sym (ap (λ (x : Seen). x.end) is);
      dummies = closed.dummies ∙ u.dummies;
      real = closed.real ∙ u.real;
    },
    record {
      fits = record {
        shape = closed.same.tree.shape ∙ u.fits.shape;
        pads = closed.same.tree.key ∙ u.fits.pads;
      };
      config = closed.same.config ∙ u.config;
      stash = closed.same.tree.stash ∙ u.stash;
      rests = (
        open_for.0,
        open_for.1,
        closed.rests open_for.0 (keys.leaf_of (Real access.address access.counter)) open_for.2,
      );
    },
  )

  access_of : (s : PortState) (after : Contents) (line : List ℕ)
      → (u : Under keys levels access found old s (accepted access.address.0 access.counter found
      ++ Tagged (message_of access.address.0 access.next line) ∷ [])
      (entry_of keys access.address.0 access.next line ∷ []))
      → after ≡ after_write keys.pads keys.shape.levels (keys.leaf_of (Real access.address access.counter))
      (record u.between {
        hand = without u.joined access.address
            ++ entry_of keys access.address.0 access.next line ∷ [];
      })
      → IsAccess keys u.mid s.tap.log u.between after u.start access.address.0 access.counter access.next found line
  access_of s after line u is = record {
    asked = Some access.asked;
    altered = u.altered;
    joined = u.joined;
    events_are = u.events_are;
    altered_are = u.altered_are;
    noted = u.noted;
    read = u.read;
    of_shape = u.of_shape;
    found_is = u.found_is;
    right = u.right;
    after_is = is;
  }

  refill_of : (s : PortState) (after : Contents)
      → (u : Under keys levels access found old s (accepted access.address.0 access.counter found) [])
      → after ≡ after_write keys.pads keys.shape.levels (keys.leaf_of (Real access.address access.counter))
      (record u.between { hand = without u.joined access.address ++ [] })
      → IsRefill keys u.mid s.tap.log u.between after u.start access.address.0 access.counter found
  refill_of s after u is = record {
    asked = Some access.asked;
    altered = u.altered;
    joined = u.joined;
    events_are = u.events_are;
    altered_are = u.altered_are;
    noted = u.noted;
    read = u.read;
    of_shape = u.of_shape;
    found_is = u.found_is;
    right = u.right;
    after_is = is ∙ ap (λ (h : List Entry). after_write keys.pads keys.shape.levels
        (keys.leaf_of (Real access.address access.counter)) (record u.between { hand = h }))
        (append-nil (without u.joined access.address));
  }

  -- the answer of the last call
  answered : (line : Line) (t new : PortState)
      → (close : Ends (PortStep keys.leaf_of levels) (close_plan keys line) t new (Gives tt seen))
      → (seen ≡ record { line = line; end = close.0.end }) × Closed keys.leaf_of levels close.0.end t new
  answered line t new close =
      (cc, subst (λ v. Closed keys.leaf_of levels close.0.end t v) (sym close.3.1) close.2.1)

  -- a block that is put back with a line
  put_as : (least : ℕ) (line : Line) (s t new : PortState) (x : Unit {0})
      → Ends (PortStep keys.leaf_of levels) (put_plan keys (next_message access line)) s t x
      → Ends (PortStep keys.leaf_of levels) (close_plan keys (found_line found)) t new (Gives tt seen)
      → IsOpenFor keys levels access (least + 1) s
      → Under keys levels access found old s (accepted access.address.0 access.counter found) []
      → ((after : Contents) (mid log : LogLists) (between : Contents) (start : ℕ)
      → IsAccess keys mid log between after start access.address.0 access.counter access.next found line.0
      → SlotOf keys access access.purpose mid log between after start found)
      → IsServedSlot keys access seen old new × Keeps keys levels least old new
  put_as least line s t new x back close open_for u shape =
      let (is, closed) = answered (found_line found) t new close in
      let later = accepted access.address.0 access.counter found in
      let v = put_back_on keys levels access found old s t later (next_message access line) x back u in
      let still = open_put keys levels access (next_message access line) least s t x back open_for in
      closed_as least close.0.end t new _ _ closed still v is
      (shape (contents new) v.mid t.tap.log v.between v.start
      (access_of t (contents new) line.0 v
      (written keys levels access found least close.0.end old t new _ _ closed still v)))

  -- by the access's purpose
  pub finished : (least : ℕ) (purpose : Purpose) → access.purpose ≡ purpose → (s t new : PortState) (x : Unit {0})
      → Ends (PortStep keys.leaf_of levels) (back_plan keys access (found_line found) purpose) s t x
      → Ends (PortStep keys.leaf_of levels) (close_plan keys (found_line found)) t new (Gives tt seen)
      → IsOpenFor keys levels access (least + 1) s
      → Under keys levels access found old s (accepted access.address.0 access.counter found) []
      → IsServedSlot keys access seen old new × Keeps keys levels least old new
  finished least Refill p s t new x back close open_for u =
      let (is, closed) = answered (found_line found) t new close in
      let closed_s = subst (λ v. Closed keys.leaf_of levels close.0.end v new) back.1 closed in
      closed_as least close.0.end s new _ _ closed_s (open_less keys levels access least s open_for) u is
      (subst (λ q. SlotOf keys access q u.mid s.tap.log u.between (contents new) u.start found) (sym p)
      (refill_of s (contents new) u
      (written keys levels access found (least + 1) close.0.end old s new _ _ closed_s open_for u)))
  finished least Keep p s t new x back close open_for u =
      put_as least (found_line found) s t new x back close open_for u
      (λ after mid log between start h.
      subst (λ q. SlotOf keys access q mid log between after start found) (sym p) h)
  finished least (Replace value) p s t new x back close open_for u =
      put_as least value s t new x back close open_for u
      (λ after mid log between start h.
      subst (λ q. SlotOf keys access q mid log between after start found) (sym p) h)

  -- a slot in which something is wrong gives no answer
  pub judged_as : (verdict : Option Evidence) → judged keys access.address.0 access.counter found ≡ verdict
      → (one two new : PortState) (notes : ℕ) → FitKeys keys old → Resting notes levels old
      → Opened keys.leaf_of levels access.asked (Real access.address access.counter) old one
      → Taken keys.leaf_of levels access.address found one two
      → Ends (PortStep keys.leaf_of levels) (judged_plan keys access found verdict) two new (Gives tt seen)
      → IsServedSlot keys access seen old new × Keeps keys levels (notes + 1) old new
  judged_as (Some evidence) wrong one two new notes fits rests opened took h = absurd (cc)
  judged_as None right one two new notes fits rests opened took h =
      let u = taken keys levels notes access found old one two fits rests opened took right in
      let (x, s, first, later) = Ends-unbind (PortStep keys.leaf_of levels) (λ left. left)
      (accept_plan access found) _ two new (Gives tt seen) h in
      let (y, t, back, close) = Ends-unbind (PortStep keys.leaf_of levels) (λ left. left)
      (back_plan keys access (found_line found) access.purpose) _ s new (Gives tt seen) later in
      finished (notes + 1) access.purpose refl s t new y back close
      (open_accepted keys levels access found (notes + 1 + 1) two s x first (
        notes + 3,
        omega arith,
        took.in_slot (notes + 3) (keys.leaf_of (Real access.address access.counter))
            (opened.in_slot notes rests),
      ))
      (accepted_on keys levels access found old two s x first u)

pub served_slot : (keys : Keys) (levels notes : ℕ) (access : Access) (seen : Seen) (old new : PortState)
    → FitKeys keys old → Resting notes levels old → SlotStep keys levels old (Slot access) (Ok seen) new
    → IsServedSlot keys access seen old new × Keeps keys levels (notes + 1) old new
served_slot keys levels notes access seen old new fits rests (x, one, opened, (y, two, took, h)) =
    judged_as keys levels access seen y.found old _ refl one two new notes fits rests opened.1 took.1 h

-- an append is noted, and its entry joins those at hand
pub served_append : (keys : Keys) (levels notes : ℕ) (message : Message) (seen : Seen) (old new : PortState)
    → FitKeys keys old → Resting (notes + 1) levels old → SlotStep keys levels old (Append message) (Ok seen) new
    → IsServedAppend keys message old new × Keeps keys levels notes old new
served_append keys levels notes message seen old new fits rests (x, one, note, (y, two, join, end)) =
    subst (λ v. IsServedAppend keys message old v × Keeps keys levels notes old v) (sym end.1) (
      record {
        events = ap (λ (t : TapState). t.log.events) join.1.others.tap ∙ ap (λ (l : LogLists). l.events) note.1.log;
        altered = ap (λ (t : TapState). t.log.altered) join.1.others.tap ∙ ap (λ (l : LogLists). l.altered) note.1.log;
        contents_are = contents_by two (contents old) (old.tree.hand ++ tagged_entry keys message ∷ [])
            (join.1.hand ∙ ap (λ (tree : TreeState). tree.hand ++ tagged_entry keys message ∷ []) note.1.tree)
            (ap (λ (t : TapState). t.mirror) join.1.others.tap ∙ note.1.mirror)
            (join.1.others.seed ∙ ap (λ (tree : TreeState). tree.seed) note.1.tree);
        right = subst (λ (tree : TreeState). append_verdict tree.stash message.address tree.hand
            ≡ None) note.1.tree join.1.right;
        clock = join.1.others.clock ∙ note.1.clock;
      },
      record {
        fits = record {
          shape = join.1.others.tree.shape ∙ (ap (λ (tree : TreeState). tree.shape) note.1.tree ∙ fits.shape);
          pads = join.1.others.tree.key ∙ (ap (λ (tree : TreeState). tree.key) note.1.tree ∙ fits.pads);
        };
        config = ap (λ (c : Clock). c.config) (join.1.others.clock ∙ note.1.clock);
        stash = join.1.others.tree.stash ∙ ap (λ (tree : TreeState). tree.stash) note.1.tree;
        rests = (notes, omega arith, join.1.rests notes (note.1.rests notes rests));
      },
    )

-- an answer is noted
pub served_answer : (keys : Keys) (levels notes line : ℕ) (value : Line) (seen : Seen) (old new : PortState)
    → FitKeys keys old → Resting (notes + 1) levels old
    → SlotStep keys levels old (Answer line value) (Ok seen) new
    → IsServedAnswer line value old new × Keeps keys levels notes old new
served_answer keys levels notes line value seen old new fits rests (x, one, note, end) =
    subst (λ v. IsServedAnswer line value old v × Keeps keys levels notes old v) (sym end.1) (
      record {
        events = ap (λ (l : LogLists). l.events) note.1.log;
        altered = ap (λ (l : LogLists). l.altered) note.1.log;
        contents_are = contents_by one (contents old) old.tree.hand
            (ap (λ (tree : TreeState). tree.hand) note.1.tree) note.1.mirror
            (ap (λ (tree : TreeState). tree.seed) note.1.tree);
        clock = note.1.clock;
      },
      record {
        fits = record {
          shape = ap (λ (tree : TreeState). tree.shape) note.1.tree ∙ fits.shape;
          pads = ap (λ (tree : TreeState). tree.key) note.1.tree ∙ fits.pads;
        };
        config = ap (λ (c : Clock). c.config) note.1.clock;
        stash = ap (λ (tree : TreeState). tree.stash) note.1.tree;
        rests = (notes, omega arith, note.1.rests notes rests);
      },
    )
