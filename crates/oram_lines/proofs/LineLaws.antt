-- An encrypted memory goes on holding lines, call by call, or its log shows a forgery.
use Rattle.std.proofs.Common.{◌≡◌, ◌≤◌, ◌-◌, ◌++◌, ◌⊎◌, inl, inr, ℕ, List, [], ◌∷◌, None, Ok, Err, length, ◌<◌, ◌^◌}
use Rattle.std.proofs.Common.{count_by, refl, sym, ap, ◌∙◌, subst, arith}
use Rattle.std.specs.Prelude.{All}
use Rattle.std.proofs.lemmas.List.Elements.{All-nil}
use Rattle.asc_base.proofs.Lookups.{count_by-cons}
use Rattle.asc_base.specs.Settings.{IsConfig}
use Rattle.asc_base.specs.declared.block.Line.{Line}
use Rattle.asc_base.specs.declared.settings.Config.{Config}
use Rattle.asc_base.specs.declared.stop.Stop.{Stop}
use Rattle.bus_schedule.specs.Shown.{leaves_of}
use Rattle.bus_watch.specs.Log.{LogLists}
use Rattle.bus_watch.specs.declared.log.Event.{Event}
use Rattle.oram_contents.specs.Counts.{Ghost, zero_line}
use Rattle.oram_contents.specs.Contents.{Contents}
use Rattle.oram_contents.specs.Decided.{draws}
use Rattle.oram_contents.specs.Entries.{Keys, AreKeys}
use Rattle.oram_contents.specs.Forgery.{Forgery}
use Rattle.oram_contents.specs.Groups.{AreSmall}
use Rattle.oram_contents.specs.Provenance.{Sound, Always}
use Rattle.oram_contents.specs.Slots.{ArePasses, passed_by}
use Rattle.oram_contents.specs.Starts.{empty_log, first_ghost}
use Rattle.oram_contents.proofs.HomeSlots.{passes_home}
use Rattle.oram_contents.specs.Home.{Home, AreInForm}
use Rattle.oram_contents.proofs.DummySteps.{passes_keep}
use Rattle.oram_contents.proofs.SmallLaws.{small_more, small_start}
use Rattle.oram_contents.proofs.StartLaws.{start_sound, start_always, start_home}
use Rattle.oram_walk.specs.Front.{FrontState}
use Rattle.oram_walk.specs.Plans.{fetch_plan, store_plan}
use Rattle.oram_walk.specs.Rows.{zeros}
use Rattle.oram_frontend.proofs.SlotLaws.{keys_fit}
use Rattle.oram_frontend.specs.Oram.{OramState, OramRequest, OramStep, Fetch, Store, Wait, Told}
use Rattle.rate_enforcer.specs.Counts.{IsCounted, is_dummy, is_real}
use Rattle.rate_enforcer.specs.PortStep.{PortState, PortStep, HasIdled, Idle, contents}
use Rattle.oram_lines.specs.Lines.{Lines, IsNew, HoldsLines, IsRequest, lines_after, IsLineOf, Calls, Answered}
use Rattle.oram_lines.specs.Lines.{AreRequests, AreLinesOf, lines_by}
use Rattle.oram_lines.specs.Noted.{IsMemoryOf}
use Rattle.oram_lines.specs.Standing.{DrawnOnce, IsKnown, IsShown, StandsFor, IsCalm, SameData, later}
use Rattle.oram_contents.proofs.FormLaws.{start_forms, passes_forms}
use Rattle.oram_lines.proofs.FetchLaws.{fetch_keeps, store_keeps, put_alike, data_leaf}
use Rattle.oram_lines.proofs.GrowLaws.{forgery_port, forgery_walk, forgery_halt, forgery_walk_stop, counted_walk}
use Rattle.oram_lines.proofs.NotedLaws.{zeros_outside}
use Rattle.oram_lines.proofs.LowCounts.{counts_low}
use Rattle.oram_lines.proofs.PointLaws.{passes_once}
use Rattle.oram_lines.proofs.HomePlaces.{none_before}
use Rattle.oram_lines.proofs.KnownLaws.{passes_draw, passed_is}
use Rattle.oram_lines.proofs.ShownLaws.{start_shown, shown_same}

-- what is appended is counted besides
dummies_more : (xs ys : List Event) → count_by is_dummy xs ≤ count_by is_dummy (xs ++ ys)
dummies_more [] ys = omega arith
dummies_more (x ∷ xs) ys =
    let next = dummies_more xs ys in
    let whole = count_by-cons is_dummy x (xs ++ ys) in
    let part = count_by-cons is_dummy x xs in
    omega arith

zero_whole : length zero_line ≡ 64
unfolding zero_line
zero_whole = refl

module _ (keys : Keys) (lawful : AreKeys keys) (levels : ℕ) where
  -- dummies change nothing of the lines
  wait_comes : (front : FrontState) (g : Ghost) (s t : PortState) (time end : ℕ) → StandsFor keys levels 0 front g s
      → IsCounted s.clock s.tap.log → HasIdled keys.leaf_of levels time end s t
      → StandsFor keys levels 0 front (later g (t.clock.dummies - s.clock.dummies)) t
  wait_comes front g s t time end st counted h = record {
    known = record {
      fits = record { shape = h.same.tree.shape ∙ known.fits.shape; pads = h.same.tree.key ∙ known.fits.pads };
      sound = subst (λ (x : Ghost). Sound keys t.tap.log x (contents t)) (passed_is g k known.closed) kept.1;
      always = kept.0;
      closed = known.closed;
      dummies = omega (arith, known.dummies, more);
      drawn = omega (
        arith,
        passes_draw keys k s.tap.log t.tap.log (contents s) (contents t) s.clock.dummies passes,
        known.drawn,
        more,
        h.real,
      );
      points = (passes_once keys k s.tap.log t.tap.log (contents s) (contents t) s.clock.dummies passes known.points
          (λ m x has. let less = known.sound.dummies m x has in omega (arith, less, known.dummies))).0;
      forms = (passes_forms keys lawful k s.tap.log t.tap.log g (contents s) (contents t) s.clock.dummies passes
          known.always known.forms).1;
      home = λ none. subst (λ (x : Ghost). Home keys x (contents t)) (passed_is g k known.closed)
          (passes_home keys lawful k s.tap.log t.tap.log g (contents s) (contents t) s.clock.dummies passes none
          known.closed known.always (known.home (none_before s.tap.log.altered h.used.made.replies.altered
          t.tap.log.altered h.used.made.replies.gained none))).1;
      bytes = known.bytes;
    };
    shown = shown_same keys lawful front g (later g k) refl refl refl refl refl st.shown;
    small = small_more keys.shape front.ic s.tap.log t.tap.log h.used.events h.used.made.replies.altered g.count
        (record { events_are = h.used.made.events_are; altered_are = h.used.made.replies.gained }) st.small;
    rests = (st.rests.0, st.rests.1, h.rests st.rests.0 st.rests.2);
  }
    where
      known : IsKnown keys g s
      known = st.known

      k : ℕ
      k = t.clock.dummies - s.clock.dummies

      more : s.clock.dummies ≤ t.clock.dummies
      more =
          let now = h.counts counted in
          let grown = dummies_more s.tap.log.events h.used.events in
          let is = ap (count_by is_dummy) h.used.made.events_are in
          omega (arith, now.dummies, counted.dummies)

      passes : ArePasses keys k s.tap.log t.tap.log (contents s) (contents t) s.clock.dummies
      passes = subst (λ (x : Keys). ArePasses x k s.tap.log t.tap.log (contents s) (contents t) s.clock.dummies)
          (keys_fit keys s known.fits) (h.passed keys.tags)

      kept : Always keys t.tap.log (contents t) × Sound keys t.tap.log (passed_by k g) (contents t)
      kept = passes_keep keys lawful k s.tap.log t.tap.log g (contents s) (contents t) s.clock.dummies passes
          known.closed known.dummies known.always known.sound

  -- waiting changes no line
  pub wait_answers : (front : FrontState) (g : Ghost) (s t : PortState) (time end : ℕ)
      → StandsFor keys levels 0 front g s → IsCalm g → IsCounted s.clock s.tap.log → (lines : ℕ → Line)
      → IsMemoryOf keys g lines
      → PortStep keys.leaf_of levels s (Idle time) (Ok (record { found = None; end = end })) t
      → (h : Ghost) × StandsFor keys levels 0 front h t × IsCalm h × SameData keys g h × IsMemoryOf keys h lines
  wait_answers front g s t time end st calm counted lines outside one = (
    later g (t.clock.dummies - s.clock.dummies),
    wait_comes front g s t time end st counted one.1,
    record { flight = calm.flight; pend = calm.pend; stepped = calm.stepped; move = calm.move },
    (λ b leaf. refl),
    record { each = outside.each },
  )

  -- a new one stands for zeros
  pub new_stands : (config : Config) (o : OramState) → IsConfig config → IsNew keys config levels o
      → StandsFor keys levels 0 o.front first_ghost o.port
  new_stands config o is_config new = record {
    known = record {
      fits = new.fits;
      sound = subst (λ (l : LogLists). Sound keys l first_ghost (contents o.port)) (sym new.log)
          (subst (λ (c : Contents). Sound keys empty_log first_ghost c) (sym new.contents_are)
          (start_sound keys));
      always = subst (λ (l : LogLists). Always keys l (contents o.port)) (sym new.log)
          (subst (λ (c : Contents). Always keys empty_log c) (sym new.contents_are)
          (start_always keys));
      closed = refl;
      dummies = new.dummies;
      drawn = let none = ap (λ (l : LogLists). count_by draws l.events) new.log in
          omega (arith, new.dummies, new.real);
      points = subst DrawnOnce (sym (ap (λ (l : LogLists). l.events) new.log)) tt;
      forms = subst (λ (c : Contents). AreInForm keys c.mirror) (sym new.contents_are) (start_forms keys);
      home = λ none. subst (λ (c : Contents). Home keys first_ghost c) (sym new.contents_are) (start_home keys);
      bytes = λ a. zero_whole;
    };
    shown = subst (λ (f : FrontState). IsShown keys f first_ghost) (sym new.front)
        (start_shown keys lawful config is_config new.shape);
    small = subst (λ (l : LogLists). AreSmall keys.shape o.front.ic l first_ghost.count) (sym new.log)
        (small_start keys.shape o.front.ic);
    rests = (0, omega arith, new.rests);
  }

  pub new_holds : (config : Config) (o : OramState) → IsConfig config → IsNew keys config levels o
      → HoldsLines keys levels (λ line. zero_line) o
  new_holds config o is_config new = record {
    ghost = first_ghost;
    stands = new_stands config o is_config new;
    calm = record { flight = refl; pend = refl; stepped = refl; move = refl };
    counted = record {
      dummies = new.dummies ∙ ap (λ (l : LogLists). count_by is_dummy l.events) (sym new.log);
      real = new.real ∙ ap (λ (l : LogLists). count_by is_real l.events)
          (sym new.log);
      code = new.rests.stands.step.code;
      leaves = let bound = 2 ^ o.port.clock.config.shape.levels in
          subst (λ (l : LogLists). All (λ leaf. leaf < bound) (leaves_of l.events)) (sym new.log)
          (All-nil (λ leaf. leaf < bound));
    };
    lines_are = λ line below. refl;
  }

  -- a memory of zeros has its lines
  pub new_outside : (config : Config) (o : OramState) (is_config : IsConfig config)
      (new : IsNew keys config levels o) → IsMemoryOf keys (new_holds config o is_config new).ghost zeros
  unfolding new_holds
  new_outside config o is_config new = zeros_outside keys lawful

  pub forgery_call : (old new : OramState) (request : OramRequest) (told : Told)
      → OramStep keys levels old request (Ok told) new → Forgery keys old.port.tap.log → Forgery keys new.port.tap.log
  forgery_call old new (Fetch asked line) told (serves, seen, is, ends) f =
      forgery_walk keys levels (fetch_plan old.front asked line) old.port new.port _ ends f
  forgery_call old new (Store asked line value) told (serves, is, ends) f =
      forgery_walk keys levels (store_plan old.front asked line value) old.port new.port _ ends f
  forgery_call old new (Wait time) told (serves, is, same, one) f =
      forgery_port keys keys.leaf_of levels old.port new.port (Idle time) _ one f

  pub call_holds : (lines : Lines) (old new : OramState) (request : OramRequest) (told : Told)
      → HoldsLines keys levels lines old → IsRequest keys.shape.lines request
      → OramStep keys levels old request (Ok told) new
      → Forgery keys new.port.tap.log
      ⊎ (HoldsLines keys levels (lines_after lines request) new × IsLineOf lines request told.line)
  call_holds lines old new (Fetch asked line) told x below (serves, seen, is, ends) =
      elim (fetch_keeps keys lawful levels old.front x.ghost old.port asked line x.stands x.calm below
      new.port new.front
      seen ends) [
        | inl forged ↦ inl forged
        | inr (h, stands, calm, same, bytes) ↦ inr (
          record {
            ghost = h;
            stands = stands;
            calm = calm;
            counted = counted_walk keys levels (fetch_plan old.front asked line) old.port new.port _ ends x.counted;
            lines_are = λ b inside. same b (data_leaf keys lawful levels b inside) ∙ x.lines_are b inside;
          },
          (seen.line, ap (λ (y : Told). y.line) is, bytes ∙ x.lines_are line below),
        )
      ]
  call_holds lines old new (Store asked line value) told x (below, whole) (serves, is, ends) =
      elim (store_keeps keys lawful levels old.front x.ghost old.port asked line value x.stands x.calm below whole
      new.port new.front told.end ends) [
        | inl forged ↦ inl forged
        | inr (h, stands, calm, put) ↦ inr (
          record {
            ghost = h;
            stands = stands;
            calm = calm;
            counted = counted_walk keys levels (store_plan old.front asked line value) old.port new.port _ ends
                x.counted;
            lines_are = λ b inside. put b (data_leaf keys lawful levels b inside)
                ∙ put_alike keys lawful levels x.ghost.data_lines lines line value.0 b (x.lines_are b inside);
          },
          ap (λ (y : Told). y.line) is,
        )
      ]
  call_holds lines old new (Wait time) told x below (serves, is, same, one) = inr (
    record {
      ghost = later x.ghost (new.port.clock.dummies - old.port.clock.dummies);
      stands = subst (λ (f : FrontState). StandsFor keys levels 0 f
          (later x.ghost (new.port.clock.dummies - old.port.clock.dummies)) new.port) (sym same)
          (wait_comes old.front x.ghost old.port new.port time told.end x.stands x.counted one.1);
      calm = record { flight = x.calm.flight; pend = x.calm.pend; stepped = x.calm.stepped; move = x.calm.move };
      counted = one.1.counts x.counted;
      lines_are = x.lines_are;
    },
    ap (λ (y : Told). y.line) is,
  )

  pub forgery_calls : (old new : OramState) (calls : Calls) → Answered keys levels old calls new
      → Forgery keys old.port.tap.log → Forgery keys new.port.tap.log
  forgery_calls old new [] same f = subst (λ (o : OramState). Forgery keys o.port.tap.log) (sym same) f
  forgery_calls old new ((request, told) ∷ calls) (mid, one, rest) f =
      forgery_calls mid new calls rest (forgery_call old mid request told one f)

  pub calls_hold : (lines : Lines) (old new : OramState) (calls : Calls) → HoldsLines keys levels lines old
      → AreRequests keys.shape.lines calls → Answered keys levels old calls new
      → Forgery keys new.port.tap.log
      ⊎ (HoldsLines keys levels (lines_by lines calls) new × AreLinesOf lines calls)
  calls_hold lines old new [] x are same =
      inr (subst (λ (o : OramState). HoldsLines keys levels lines o) (sym same) x, tt)
  calls_hold lines old new ((request, told) ∷ calls) x (first, others) (mid, one, rest) =
      elim (call_holds lines old mid request told x first one) [
        | inl forged ↦ inl (forgery_calls mid new calls rest forged)
        | inr (y, right) ↦ elim (calls_hold (lines_after lines request) mid new calls y others rest) [
          | inl forged ↦ inl forged
          | inr (z, all) ↦ inr (z, (right, all))
        ]
      ]

  -- from a new one on
  pub holds_from_start : (config : Config) (old new : OramState) (calls : Calls) → IsConfig config
      → IsNew keys config levels old → AreRequests keys.shape.lines calls → Answered keys levels old calls new
      → Forgery keys new.port.tap.log
      ⊎ (HoldsLines keys levels (lines_by (λ line. zero_line) calls) new × AreLinesOf (λ line. zero_line) calls)
  holds_from_start config old new calls is_config fresh are answered =
      calls_hold (λ line. zero_line) old new calls (new_holds config old is_config fresh) are answered

  -- a forgery stays over a call that is stopped
  pub forgery_stop : (old new : OramState) (request : OramRequest) (stop : Stop)
      → OramStep keys levels old request (Err stop) new → Forgery keys old.port.tap.log
      → Forgery keys new.port.tap.log
  forgery_stop old new (Fetch asked line) stop (inl h) f =
      subst (λ (o : OramState). Forgery keys o.port.tap.log) (sym h.1) f
  forgery_stop old new (Fetch asked line) stop (inr h) f =
      forgery_walk_stop keys levels (fetch_plan old.front asked line) old.port new.port stop new.front h.1 f
  forgery_stop old new (Store asked line value) stop (inl h) f =
      subst (λ (o : OramState). Forgery keys o.port.tap.log) (sym h.1) f
  forgery_stop old new (Store asked line value) stop (inr h) f =
      forgery_walk_stop keys levels (store_plan old.front asked line value) old.port new.port stop new.front h.1 f
  forgery_stop old new (Wait time) stop (inl h) f =
      subst (λ (o : OramState). Forgery keys o.port.tap.log) (sym h.1) f
  forgery_stop old new (Wait time) stop (inr h) f =
      forgery_halt keys keys.leaf_of levels old.port new.port (Idle time) stop h.2 f

  -- no point is drawn twice
  pub points_differ : (lines : Lines) (o : OramState) → HoldsLines keys levels lines o
      → DrawnOnce o.port.tap.log.events
  points_differ lines o x = x.stands.known.points

  -- where no reply was altered each block has one place
  pub blocks_home : (lines : Lines) (o : OramState) (x : HoldsLines keys levels lines o) → o.port.tap.log.altered ≡ []
      → Home keys x.ghost (contents o.port)
  blocks_home lines o x none = x.stands.known.home none

  -- counters have room
  pub counters_low : (lines : Lines) (o : OramState) (x : HoldsLines keys levels lines o) → (a : ℕ)
      → a < keys.shape.total → ((x.ghost.count a).group < 2 ^ 28) × ((x.ghost.count a).own < 16384)
  counters_low lines o x = counts_low keys lawful levels 0 o.front x.ghost o.port x.stands
