-- What lines a call that is stopped leaves: those that it held before.
use Rattle.std.proofs.Common.{◌≡◌, ◌⊎◌, inl, inr, ℕ, [], Option, None, Some, Err, refl, sym, ◌∙◌}
use Rattle.request_plan.specs.Plan.{Stops}
use Rattle.asc_base.specs.declared.block.Line.{Line}
use Rattle.asc_base.specs.declared.stop.Stop.{Stop}
use Rattle.asc_base.specs.Settings.{IsConfig}
use Rattle.asc_base.specs.declared.settings.Config.{Config}
use Rattle.oram_contents.specs.Counts.{zero_line}
use Rattle.oram_contents.specs.Entries.{Keys, AreKeys}
use Rattle.oram_contents.specs.Forgery.{Forgery}
use Rattle.oram_frontend.specs.Access.{SlotStep}
use Rattle.oram_frontend.specs.Oram.{OramState, OramRequest, OramStep, Fetch, Store, Wait}
use Rattle.oram_walk.specs.Plans.{FrontPlan, fetch_plan, store_plan}
use Rattle.oram_walk.specs.Request.{Steps}
use Rattle.oram_walk.specs.Rows.{zeros}
use Rattle.rate_enforcer.specs.PortStep.{PortState}
use Rattle.oram_lines.specs.Lines.{Calls, Answered, AreRequests, AreLinesOf, lines_by}
use Rattle.oram_lines.specs.Lines.{Lines, IsNew, HoldsLines, IsRequest, StopsWalk, StopsIn, StopsHolding}
use Rattle.oram_lines.specs.Noted.{Answers, IsMemoryOf}
use Rattle.oram_lines.proofs.FetchLaws.{data_leaf}
use Rattle.oram_lines.proofs.HonestTriples.{Halts, fetch_halts, store_halts}
use Rattle.oram_lines.proofs.HonestLaws.{serve_on}
use Rattle.oram_lines.proofs.LineLaws.{new_holds, new_outside, calls_hold, forgery_stop}
use Rattle.oram_lines.proofs.NotedLaws.{stands_first, all_lines, all_outside}
use Rattle.oram_lines.proofs.RefusedLaws.{refused_noted}

module _ (keys : Keys) (lawful : AreKeys keys) (levels : ℕ) where
  -- it wasn't stopped before
  served : (old : OramState) (stop : Stop) → old.stop ≡ None → old.stop ≡ Some stop → ⊥
  served old stop serves before = let bad : ◌≡◌ {A = Option Stop} None (Some stop) = sym serves ∙ before in cc

  -- a walk is stopped
  walk_stop : {A : Type 0} (plan : FrontPlan A) (lines : Lines) (memory : ℕ → Line) (request : OramRequest)
      (old new : OramState) (stop : Stop) (x : HoldsLines keys levels lines old)
      → Halts keys lawful levels memory x.ghost.data_lines plan (record { port = old.port; answers = [] })
      → ((port : PortState) (answers : Answers) → StopsWalk keys levels plan memory old stop new port answers
      → StopsIn keys levels memory request old stop new port answers)
      → Stops (Steps (SlotStep keys levels)) plan old.port new.port stop new.front
      → Forgery keys new.port.tap.log ⊎ StopsHolding keys levels lines memory request old stop new
  walk_stop plan lines memory request old new stop x halts of_call stops =
      let (answers, port, last, refused) = refused_noted keys levels plan old.port new.port [] stop new.front stops in
      elim (halts port last (record { port = new.port; answers = answers }) stop new.front refused) [
        | inl forged ↦ inl forged
        | inr y ↦ inr (record {
          port = port;
          answers = answers;
          stops = of_call port answers (record { last = last; run = refused; due = y.due });
          front = y.front;
          ghost = y.ghost;
          stands = y.stands;
          lines_are = λ line below. y.lines line (data_leaf keys lawful levels line below) ∙ x.lines_are line below;
          right = y.right;
          outside = y.outside;
        })
      ]

  pub call_stops : (lines : Lines) (old new : OramState) (request : OramRequest) (stop : Stop)
      (x : HoldsLines keys levels lines old) (memory : ℕ → Line) → IsMemoryOf keys x.ghost memory
      → IsRequest keys.shape.lines request → old.stop ≡ None → OramStep keys levels old request (Err stop) new
      → Forgery keys new.port.tap.log ⊎ StopsHolding keys levels lines memory request old stop new
  call_stops lines old new (Fetch asked line) stop x memory outside below serves (inl before) =
      absurd (served old stop serves before.0)
  call_stops lines old new (Fetch asked line) stop x memory outside below serves (inr stops) =
      walk_stop (fetch_plan old.front asked line) lines memory (Fetch asked line) old new stop x
      (fetch_halts keys lawful levels memory x.ghost.data_lines old.front x.ghost
      (record { port = old.port; answers = [] }) asked line
      (stands_first keys levels memory old.front x.ghost old.port x.stands outside) (λ b leaf. refl) x.calm below)
      (λ port answers walk. walk) stops.1
  call_stops lines old new (Store asked line value) stop x memory outside below serves (inl before) =
      absurd (served old stop serves before.0)
  call_stops lines old new (Store asked line value) stop x memory outside (below, whole) serves (inr stops) =
      walk_stop (store_plan old.front asked line value) lines memory (Store asked line value) old new stop x
      (store_halts keys lawful levels memory x.ghost.data_lines old.front x.ghost
      (record { port = old.port; answers = [] }) asked line value
      (stands_first keys levels memory old.front x.ghost old.port x.stands outside) (λ b leaf. refl) x.calm below whole)
      (λ port answers walk. walk) stops.1
  call_stops lines old new (Wait time) stop x memory outside below serves (inl before) =
      absurd (served old stop serves before.0)
  call_stops lines old new (Wait time) stop x memory outside below serves (inr stops) = inr (record {
    port = old.port;
    answers = [];
    stops = (refl, refl, stops.2);
    front = old.front;
    ghost = x.ghost;
    stands = x.stands;
    lines_are = x.lines_are;
    right = tt;
    outside = outside;
  })

  -- Behind any number of answered calls.
  pub calls_stop : (lines : Lines) (old mid new : OramState) (calls : Calls) (request : OramRequest) (stop : Stop)
      → HoldsLines keys levels lines old → AreRequests keys.shape.lines calls → IsRequest keys.shape.lines request
      → old.stop ≡ None → Answered keys levels old calls mid → OramStep keys levels mid request (Err stop) new
      → Forgery keys new.port.tap.log
      ⊎ (AreLinesOf lines calls × (x : HoldsLines keys levels (lines_by lines calls) mid) × (memory : ℕ → Line)
      × IsMemoryOf keys x.ghost memory
      × StopsHolding keys levels (lines_by lines calls) memory request mid stop new)
  calls_stop lines old mid new calls request stop x all one serves answered step =
      elim (calls_hold keys lawful levels lines old mid calls x all answered) [
        | inl forged ↦ inl (forgery_stop keys lawful levels mid new request stop step forged)
        | inr (y, right) ↦ elim (call_stops (lines_by lines calls) mid new request stop y (all_lines keys y.ghost)
            (all_outside keys y.ghost) one (serve_on keys lawful levels old mid calls serves answered) step) [
              | inl forged ↦ inl forged
              | inr held ↦ inr (right, y, all_lines keys y.ghost, all_outside keys y.ghost, held)
            ]
      ]

  -- so of the first call of a new one, which holds zeros
  first_stops : (config : Config) (old new : OramState) (request : OramRequest) (stop : Stop) → IsConfig config
      → IsNew keys config levels old → IsRequest keys.shape.lines request → old.stop ≡ None
      → OramStep keys levels old request (Err stop) new
      → Forgery keys new.port.tap.log ⊎ StopsHolding keys levels (λ line. zero_line) zeros request old stop new
  first_stops config old new request stop is_config fresh =
      call_stops (λ line. zero_line) old new request stop (new_holds keys lawful levels config old is_config fresh)
      zeros (new_outside keys lawful levels config old is_config fresh)
