use Rattle.std.proofs.Common.{◌≡◌, ◌<◌, ◌≤◌, ◌∙◌, ◌+◌, ◌-◌, ◌++◌, min, max, Some, None, refl}
use Rattle.std.proofs.Common.{ap, sym, subst, arith, rules}
use Rattle.asc_base.specs.TreeShape.{olat_of}
use Rattle.asc_base.specs.declared.settings.Config.{Config}
use Rattle.asc_base.specs.declared.stop.Stop.TheVariants.{TimeUp}
use Rattle.rate_enforcer.specs.declared.clock.Clock.{Clock}
use Rattle.epoch_learner.specs.Stands.{IsFirstFor}
use Rattle.rate_enforcer.specs.State.{Stopped, IsUp}
use Rattle.rate_enforcer.proofs.StateLaws.{ran_on, stops_on, serves, no_slot, is_up}
use Rattle.oram_contents.specs.Contents.{Contents}
use Rattle.oram_contents.specs.Entries.{Keys}
use Rattle.oram_contents.specs.Slots.{IsRead}
use Rattle.unified_tree.specs.Slot.{contents_of}
use Rattle.rate_enforcer.specs.Served.{keys_of, begin_events, HavePassed}
use Rattle.std.proofs.Common.{inl, inr}
use Rattle.bus_watch.specs.RunEnd.{Whole}
use Rattle.rate_enforcer.specs.Breaks.{ReadStops}
use Rattle.rate_enforcer.specs.PortStep.{port_of}
use Rattle.rate_enforcer.specs.State.{Opens}
use Rattle.rate_enforcer.proofs.Steps.{open_breaks, asked_stops, used_so}
use Rattle.rate_enforcer.proofs.port.Port.open.Goals as goal

pub begin-requires-clause-first : goal.begin-requires-clause-first
begin-requires-clause-first g c =
    let clock = c.args.self.now.clock in
    let now = c.pass_until.new.self.clock in
    let is : c.min-from.result ≡ min c.args.asked clock.config.time = grind arith in
    let config = c.pass_until.ensures.config in
    let none : clock.stop ≡ None = search rules in
    subst (λ (x : Config). IsFirstFor (olat_of x.shape.levels) now.last now.next (Some c.args.asked)) (sym config)
    (serves clock.last c.args.asked clock.config.time now.next now.last (olat_of clock.config.shape.levels)
    (c.requires.asked none) (subst (λ n. now.last < max clock.last n + olat_of clock.config.shape.levels) is
    c.in-Ok.ensures.last) (subst (λ n. n ≤ now.next) is c.in-Ok.ensures.reached)
    (omega (arith, c.if-self.false, ap (λ (x : Config). x.time) config)))

pub returns-clause-opens : goal.returns-clause-opens
returns-clause-opens g c notes r = c.in-Ok-begin.ensures.opens notes (c.in-Ok.ensures.rests notes r)

pub returns-clause-ran : goal.returns-clause-ran
returns-clause-ran g c =
    ran_on g.M.UntrustedMemory.state g.W.Watch.state c.in-Ok.ensures.ran c.in-Ok-begin.ensures.ran

pub returns-then-self-clause-up : goal.returns-then-self-clause-up
returns-then-self-clause-up g c = λ none at is.
    let clock = c.args.self.now.clock in
    let now = c.pass_until.new.self.clock in
    let log = (g.W.Watch.state c.pass_until.new.bus.tap.now).log in
    let min_is : c.min-from.result ≡ min c.args.asked clock.config.time = grind arith in
    let config = c.pass_until.ensures.config in
    let clock' : Clock = record now { stop = Some (TimeUp now.next) } in
    let time = ap (λ (x : Config). x.time) config in
    let short = subst (λ (x : Config). now.last < max clock.last (min c.args.asked x.time) + olat_of x.shape.levels)
    (sym config) (subst (λ n. now.last < max clock.last n + olat_of clock.config.shape.levels) min_is
    c.in-Ok.ensures.last) in
    let reached = subst (λ (x : Config). min c.args.asked x.time ≤ now.next) (sym config)
    (subst (λ n. n ≤ now.next) min_is c.in-Ok.ensures.reached) in
    let up = is_up clock' clock.last c.args.asked (c.in-Ok.ensures.rests 0 (c.requires.rests none)) refl refl
    (omega (arith, c.if-self.true)) (c.requires.asked none) short reached in
    let at_is : now.next ≡ at = cc in
    subst (λ n. IsUp clock.config n c.args.asked clock' log) at_is
    (subst (λ (x : Config). IsUp x now.next c.args.asked clock' log) config up)

pub begin-requires-clause-rests : goal.begin-requires-clause-rests
begin-requires-clause-rests g c =
    let none : c.args.self.now.clock.stop ≡ None = search rules in
    c.in-Ok.ensures.rests 0 (c.requires.rests none)

pub returns-then-self-clause-counts : goal.returns-then-self-clause-counts
returns-then-self-clause-counts g c counted =
    let k = c.pass_until.ensures.counts counted in
    record { dummies = k.dummies; real = k.real; code = k.code; leaves = k.leaves }

pub returns-then-self-clause-stopped : goal.returns-then-self-clause-stopped
returns-then-self-clause-stopped g c = λ none.
    let now = c.pass_until.new.self.clock in
    let clock' : Clock = record now { stop = Some (TimeUp now.next) } in
    subst (λ (x : Config). Stopped x clock' (TimeUp now.next) (g.W.Watch.state c.pass_until.new.bus.tap.now).log)
    c.pass_until.ensures.config
    (no_slot clock' (c.in-Ok.ensures.rests 0 (c.requires.rests none)) refl)

pub returns-in-Err-begin-clause-ran_err : goal.returns-in-Err-begin-clause-ran_err
returns-in-Err-begin-clause-ran_err g c = λ none.
    stops_on g.M.UntrustedMemory.state g.W.Watch.state c.in-Ok.ensures.ran c.in-Err-begin.ensures.ran_err

pub returns-in-Err-begin-clause-up : goal.returns-in-Err-begin-clause-up
returns-in-Err-begin-clause-up g c = λ none at is. absurd (c.in-Err-begin.ensures.never at is)

pub returns-clause-asked : goal.returns-clause-asked
returns-clause-asked g c =
    let clock = c.args.self.now.clock in
    let now = c.pass_until.new.self.clock in
    let is : c.min-from.result ≡ min c.args.asked clock.config.time = grind arith in
    let none : clock.stop ≡ None = search rules in
    let time = ap (λ (x : Config). x.time) c.pass_until.ensures.config in
    let first = serves clock.last c.args.asked clock.config.time now.next now.last (olat_of clock.config.shape.levels)
    (c.requires.asked none) (subst (λ n. now.last < max clock.last n + olat_of clock.config.shape.levels) is
    c.in-Ok.ensures.last) (subst (λ n. n ≤ now.next) is c.in-Ok.ensures.reached)
    (omega (arith, c.if-self.false, time)) in
    (omega (arith, first.0, c.begin.ensures.next), omega (arith, first.1, c.in-Ok-begin.ensures.last))

pub returns-clause-read : goal.returns-clause-read
returns-clause-read g c tags =
    let t = g.W.Watch.state in
    let old = c.args.self.now.tree in
    let now = c.pass_until.new.self.tree in
    let kept = c.pass_until.ensures.kept in
    let leaf = g.L.LeafFn.leaf_of in
    let d0 = c.args.self.now.clock.dummies in
    let keys : Keys = keys_of old tags (leaf c.args.self.now.leaves) in
    let same : keys_of now tags (leaf c.pass_until.new.self.leaves) ≡ keys =
    (λ i. record {
      shape = kept.shape i;
      pads = kept.key i;
      tags = tags;
      leaf_of = leaf (c.pass_until.ensures.leaves i);
    }) in
    let t1 = t c.pass_until.new.bus.tap.now in
    let t2 = t c.begin.new.bus.tap.now in
    let both = subst (λ n. HavePassed keys old.stash (n - d0) (t c.args.bus.now.tap.now).log t1.log
    (contents_of old (t c.args.bus.now.tap.now)) (contents_of now t1) d0) (sym c.in-Ok-begin.ensures.dummies)
    (c.in-Ok.ensures.passed tags) in
    record {
      mid = t1.log;
      between = contents_of now t1;
      more = omega (arith, c.in-Ok.ensures.more, c.in-Ok-begin.ensures.dummies);
      passed = both.0;
      few = both.1;
      read = subst (λ n. IsRead keys t1.log t2.log (contents_of now t1) n c.args.point c.begin.new.self.tree.hand)
          (sym c.begin.ensures.next)
          (subst (λ (k : Keys). IsRead k t1.log t2.log (contents_of now t1)
          c.pass_until.new.self.clock.next c.args.point
          c.begin.new.self.tree.hand) same (c.in-Ok-begin.ensures.read tags));
      noted = c.in-Ok-begin.ensures.noted
          ∙ ap (λ n. t1.log.events ++ begin_events n (Some c.args.asked) c.args.point
          (leaf c.pass_until.new.self.leaves c.args.point)) (sym c.begin.ensures.next)
          ∙ ap (λ x. t1.log.events ++ begin_events c.begin.new.self.clock.next (Some c.args.asked) c.args.point
          (leaf x c.args.point)) c.pass_until.ensures.leaves;
      after_is =
          ap (λ b. let d : Contents = record {
            hand = c.begin.new.self.tree.hand;
            mirror = b;
            seed = c.begin.new.self.tree.seed;
          } in d)
          c.begin.ensures.mirror
          ∙ ap (λ b. let d : Contents = record { hand = c.begin.new.self.tree.hand; mirror = t1.mirror; seed = b } in d)
          c.begin.ensures.seed;
    }

pub returns-in-Err-clause-breaks : goal.returns-in-Err-clause-breaks
returns-in-Err-clause-breaks g c none tags =
    open_breaks (g.L.LeafFn.leaf_of c.args.self.now.leaves) (g.L.LeafFn.levels c.args.self.now.leaves) c.args.asked
    c.args.point c.in-Err.stop
    (port_of c.args.self.now.clock c.args.self.now.tree (g.M.UntrustedMemory.state c.args.bus.now.memory.now)
    (g.W.Watch.state c.args.bus.now.tap.now))
    (port_of c.pass_until.new.self.clock c.pass_until.new.self.tree
    (g.M.UntrustedMemory.state c.pass_until.new.bus.memory.now) (g.W.Watch.state c.pass_until.new.bus.tap.now)) tags
    c.in-Err.ensures.never (inl (
      c.in-Err.ensures.breaks tags,
      let min_is : c.min-from.result ≡ min c.args.asked c.args.self.now.clock.config.time = grind arith in
          subst (λ n. c.pass_until.new.self.clock.next < n) min_is c.in-Err.ensures.early,
    ))

pub returns-in-Err-clause-step : goal.returns-in-Err-clause-step
returns-in-Err-clause-step g c =
    let none : c.args.self.now.clock.stop ≡ None = search rules in
    let ran = c.in-Err.ensures.ran_err in
    inr (record {
      going = none;
      same = record { config = c.pass_until.ensures.config; tree = c.pass_until.ensures.kept };
      end = ran.end;
      is_end = ran.is_end;
      used = used_so g.M.UntrustedMemory.state g.W.Watch.state c.args.bus.now c.pass_until.new.bus
          c.args.self.now.clock c.pass_until.new.self.clock c.args.self.now.tree c.pass_until.new.self.tree ran.ran;
      stopped = c.in-Err.ensures.stopped;
      counts = c.pass_until.ensures.counts;
      breaks = returns-in-Err-clause-breaks g c none;
    })

pub returns-then-self-clause-breaks : goal.returns-then-self-clause-breaks
returns-then-self-clause-breaks g c none tags = (
  returns-then-self-clause-up g c none c.pass_until.new.self.clock.next refl,
  (c.in-Ok.ensures.passed tags).0,
  c.in-Ok.ensures.more,
  (c.in-Ok.ensures.passed tags).1,
)

pub returns-then-self-clause-step : goal.returns-then-self-clause-step
returns-then-self-clause-step g c =
    let none : c.args.self.now.clock.stop ≡ None = search rules in
    let now = c.pass_until.new.self in
    inr (record {
      going = none;
      same = record { config = c.pass_until.ensures.config; tree = c.pass_until.ensures.kept };
      end = Whole;
      is_end = refl;
      used = used_so g.M.UntrustedMemory.state g.W.Watch.state c.args.bus.now c.pass_until.new.bus
          c.args.self.now.clock (record now.clock { stop = Some (TimeUp now.clock.next) }) c.args.self.now.tree
          now.tree c.in-Ok.ensures.ran;
      stopped = returns-then-self-clause-stopped g c none;
      counts = returns-then-self-clause-counts g c;
      breaks = returns-then-self-clause-breaks g c none;
    })

pub returns-in-Err-begin-clause-breaks : goal.returns-in-Err-begin-clause-breaks
returns-in-Err-begin-clause-breaks g c none tags =
    let t = g.W.Watch.state in
    let m = g.M.UntrustedMemory.state in
    let leaf_of = g.L.LeafFn.leaf_of in
    let old = c.args.self.now in
    let mid = c.pass_until.new.self in
    let now = c.begin.new.self in
    let stops = subst (λ x. ReadStops (keys_of mid.tree tags (leaf_of x)) c.in-Err-begin.stop
    (t c.pass_until.new.bus.tap.now).log (t c.begin.new.bus.tap.now).log
    (contents_of mid.tree (t c.pass_until.new.bus.tap.now)) (contents_of now.tree (t c.begin.new.bus.tap.now))
    mid.clock.next (Some c.args.asked) c.args.point) c.pass_until.ensures.leaves (c.in-Err-begin.ensures.breaks tags) in
    open_breaks (leaf_of old.leaves) (g.L.LeafFn.levels old.leaves) c.args.asked
    c.args.point c.in-Err-begin.stop
    (port_of old.clock old.tree (m c.args.bus.now.memory.now) (t c.args.bus.now.tap.now))
    (port_of now.clock now.tree (m c.begin.new.bus.memory.now) (t c.begin.new.bus.tap.now)) tags
    c.in-Err-begin.ensures.never
    (inr (
      asked_stops old.tree mid.tree now.tree tags (leaf_of old.leaves) c.in-Err-begin.stop mid.clock.next
          now.clock.next old.clock.dummies mid.clock.dummies c.args.asked c.args.point (t c.args.bus.now.tap.now)
          (t c.pass_until.new.bus.tap.now) (t c.begin.new.bus.tap.now) c.pass_until.ensures.kept c.begin.ensures.next
          (c.in-Ok.ensures.passed tags) stops,
      omega (
        arith,
        c.if-self.false,
        c.begin.ensures.next,
        ap (λ (x : Config). x.time) c.pass_until.ensures.config,
      ),
    ))

pub returns-in-Err-begin-clause-step : goal.returns-in-Err-begin-clause-step
returns-in-Err-begin-clause-step g c =
    let none : c.args.self.now.clock.stop ≡ None = search rules in
    let one = c.pass_until.ensures.kept in
    let two = c.begin.ensures.kept in
    let ran = returns-in-Err-begin-clause-ran_err g c none in
    let config = c.pass_until.ensures.config in
    inr (record {
      going = none;
      same = record {
        config = c.begin.ensures.config ∙ config;
        tree = record {
          shape = two.shape ∙ one.shape;
          stash = two.stash ∙ one.stash;
          key = two.key ∙ one.key;
        };
      };
      end = ran.end;
      is_end = ran.is_end;
      used = used_so g.M.UntrustedMemory.state g.W.Watch.state c.args.bus.now c.begin.new.bus
          c.args.self.now.clock c.begin.new.self.clock c.args.self.now.tree c.begin.new.self.tree ran.ran;
      stopped = subst (λ (x : Config). Stopped x c.begin.new.self.clock c.in-Err-begin.stop
          (g.W.Watch.state c.begin.new.bus.tap.now).log) config c.in-Err-begin.ensures.stopped;
      counts = λ counted. c.begin.ensures.counts (c.pass_until.ensures.counts counted);
      breaks = returns-in-Err-begin-clause-breaks g c none;
    })

pub returns-clause-step : goal.returns-clause-step
returns-clause-step g c =
    let old = c.args.self.now in
    let now = c.begin.new.self in
    let one = c.pass_until.ensures.kept in
    let two = c.begin.ensures.kept in
    let leaves = c.begin.ensures.leaves ∙ c.pass_until.ensures.leaves in (
      refl,
      record {
        going = search rules;
        same = record {
          config = c.begin.ensures.config ∙ c.pass_until.ensures.config;
          tree = record {
            shape = two.shape ∙ one.shape;
            stash = two.stash ∙ one.stash;
            key = two.key ∙ one.key;
          };
        };
        used = used_so g.M.UntrustedMemory.state g.W.Watch.state c.args.bus.now c.begin.new.bus
            old.clock now.clock old.tree now.tree (returns-clause-ran g c);
        in_slot = λ notes r. record {
          slot = c.in-Ok-begin.slot;
          opens = subst (λ x. Opens (notes + 3) now.clock c.in-Ok-begin.slot now.tree (g.L.LeafFn.levels x)
              (g.M.UntrustedMemory.state c.begin.new.bus.memory.now) (g.W.Watch.state c.begin.new.bus.tap.now)) leaves
              (returns-clause-opens g c notes r);
          leaf_is = c.in-Ok-begin.ensures.leaf
              ∙ ap (λ x. g.L.LeafFn.leaf_of x c.args.point) c.pass_until.ensures.leaves;
        };
        first = returns-clause-asked g c;
        served = returns-clause-read g c;
        counts = λ counted. c.begin.ensures.counts (c.pass_until.ensures.counts counted);
        real = c.in-Ok-begin.ensures.real ∙ ap (λ n. n + 1) c.pass_until.ensures.real;
      },
    )
