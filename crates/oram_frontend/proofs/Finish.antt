-- The rest of a slot, from its calls.
use Rattle.std.proofs.Common.{◌≡◌, ◌≤◌, ◌<◌, ◌+◌, ◌*◌, ◌^◌, ℕ, List, length, Option, None, Some, Result, Ok, Err}
use Rattle.std.proofs.Common.{MatchResult, refl, sym, ap, subst, inl, inr, arith}
use Rattle.request_plan.specs.Plan.{Ends, Stops, Gives, Refuses}
use Rattle.request_plan.proofs.Chains.{Ends-bind, Stops-bind-next}
use Rattle.asc_base.proofs.ShapeFacts.{shape_layered}
use Rattle.asc_base.specs.Settings.{IsConfig}
use Rattle.asc_base.specs.declared.settings.Config.{Config}
use Rattle.asc_base.specs.declared.block.Address.{Address}
use Rattle.asc_base.specs.declared.block.Entry.{Entry}
use Rattle.oram_stash.specs.Entries.{held, without}
use Rattle.oram_stash.proofs.Held.{without-none, length-without}
use Rattle.asc_base.specs.declared.block.Line.{Line}
use Rattle.asc_base.specs.declared.block.Point.TheVariants.{Real}
use Rattle.asc_base.specs.declared.stop.Evidence.{Evidence}
use Rattle.asc_base.specs.declared.stop.Stop.{Stop}
use Rattle.asc_base.specs.declared.stop.Stop.TheVariants.{Integrity}
use Rattle.oram_contents.specs.Entries.{Keys}
use Rattle.oram_contents.specs.Verdict.{judged}
use Rattle.oram_walk.specs.Request.{Slot}
use Rattle.oram_walk.specs.declared.slots.Access.{Access}
use Rattle.oram_walk.specs.declared.slots.Seen.{Seen}
use Rattle.rate_enforcer.specs.PortStep.{PortState, PortStep, Open, Take, Close, Abort, silent, told, took}
use Rattle.oram_frontend.specs.Access.{accept_plan, back_plan, close_plan, found_line}
use Rattle.oram_frontend.specs.Access.{FinishStep, SlotStep, judged_plan}

module _ (keys : Keys) (levels : ℕ) (access : Access) (found : Option Entry) where
  -- the path was written
  pub finish_ends : (line : Line) (s m n t : PortState) (end : ℕ) → line ≡ found_line found
      → Ends (PortStep keys.leaf_of levels) (accept_plan access found) s m tt
      → Ends (PortStep keys.leaf_of levels) (back_plan keys access line access.purpose) m n tt
      → PortStep keys.leaf_of levels n Close (Ok (told end)) t
      → FinishStep keys levels access found s (Ok (record { line = line; end = end })) t
  finish_ends line s m n t end is accepted back close =
      Ends-bind (PortStep keys.leaf_of levels) (λ (left : Unit {0}). left) (accept_plan access found) _ s m t tt _
      accepted
      (Ends-bind (PortStep keys.leaf_of levels) (λ (left : Unit {0}). left)
      (back_plan keys access (found_line found) access.purpose) (λ _. close_plan keys (found_line found)) m n t tt _
      (subst (λ l. Ends (PortStep keys.leaf_of levels) (back_plan keys access l access.purpose) m n tt) is back)
      (subst (λ l. Ends (PortStep keys.leaf_of levels) (close_plan keys (found_line found)) n t
      (Gives tt (record { line = l; end = end }))) (sym is) (told end, t, close, (refl, refl))))

  -- the writes stopped
  pub finish_stops : (line : Line) (s m n t : PortState) (stop : Stop) → line ≡ found_line found
      → Ends (PortStep keys.leaf_of levels) (accept_plan access found) s m tt
      → Ends (PortStep keys.leaf_of levels) (back_plan keys access line access.purpose) m n tt
      → PortStep keys.leaf_of levels n Close (Err stop) t
      → FinishStep keys levels access found s (Err stop) t
  finish_stops line s m n t stop is accepted back close =
      inr (Stops-bind-next (PortStep keys.leaf_of levels) (λ (left : Unit {0}). left) (accept_plan access found) _
      s m t tt stop tt accepted
      (Stops-bind-next (PortStep keys.leaf_of levels) (λ (left : Unit {0}). left)
      (back_plan keys access (found_line found) access.purpose) (λ _. close_plan keys (found_line found)) m n t tt
      stop tt
      (subst (λ l. Ends (PortStep keys.leaf_of levels) (back_plan keys access l access.purpose) m n tt) is back)
      (inl (close, refl))))

  -- something was wrong with what was found
  pub refused : (evidence : Evidence) (old one two new : PortState) (end : ℕ)
      → judged keys access.address.0 access.counter found ≡ Some evidence
      → PortStep keys.leaf_of levels old (Open access.asked (Real access.address access.counter)) (Ok silent) one
      → PortStep keys.leaf_of levels one (Take access.address) (Ok (took found)) two
      → PortStep keys.leaf_of levels two (Abort (Integrity evidence)) (Ok (told end)) new
      → SlotStep keys levels old (Slot access) (Err (Integrity evidence)) new
  refused evidence old one two new end wrong opened taken aborted = inl (
    silent,
    one,
    opened,
    (
      took found,
      two,
      taken,
      subst (λ v. Ends (PortStep keys.leaf_of levels) (judged_plan keys access found v) two new
          (Refuses (Integrity evidence))) (sym wrong) (told end, new, aborted, (refl, refl)),
    ),
  )

  -- nothing was, and the rest of the slot was answered or stopped
  pub went_on : (old one two new : PortState) (answer : Result Seen Stop)
      → judged keys access.address.0 access.counter found ≡ None
      → PortStep keys.leaf_of levels old (Open access.asked (Real access.address access.counter)) (Ok silent) one
      → PortStep keys.leaf_of levels one (Take access.address) (Ok (took found)) two
      → FinishStep keys levels access found two answer new → SlotStep keys levels old (Slot access) answer new
  went_on old one two new (Ok seen) right opened taken rest = (
    silent,
    one,
    opened,
    (
      took found,
      two,
      taken,
      subst (λ v. Ends (PortStep keys.leaf_of levels) (judged_plan keys access found v) two new (Gives tt seen))
          (sym right) rest,
    ),
  )
  went_on old one two new (Err stop) right opened taken (inl rest) = inl (
    silent,
    one,
    opened,
    (
      took found,
      two,
      taken,
      subst (λ v. Ends (PortStep keys.leaf_of levels) (judged_plan keys access found v) two new (Refuses stop))
          (sym right) rest,
    ),
  )
  went_on old one two new (Err stop) right opened taken (inr rest) = inr (inr (
    silent,
    one,
    opened,
    inr (
      took found,
      two,
      taken,
      subst (λ v. Stops (PortStep keys.leaf_of levels) (judged_plan keys access found v) two new stop tt)
          (sym right) rest,
    ),
  ))

  -- the same on either answer
  pub went_on_both : (old one two new : PortState) (result : Result Seen Stop)
      → judged keys access.address.0 access.counter found ≡ None
      → PortStep keys.leaf_of levels old (Open access.asked (Real access.address access.counter)) (Ok silent) one
      → PortStep keys.leaf_of levels one (Take access.address) (Ok (took found)) two
      → MatchResult result (λ seen. FinishStep keys levels access found two (Ok seen) new)
      (λ stop. FinishStep keys levels access found two (Err stop) new)
      → MatchResult result (λ seen. SlotStep keys levels old (Slot access) (Ok seen) new)
      (λ stop. SlotStep keys levels old (Slot access) (Err stop) new)
  went_on_both old one two new (Ok seen) right opened taken rest =
      went_on old one two new (Ok seen) right opened taken rest
  went_on_both old one two new (Err stop) right opened taken rest =
      went_on old one two new (Err stop) right opened taken rest

-- the hand without a block is no longer
pub without_fewer : (hand : List Entry) (address : Address) → length (without hand address) ≤ length hand
without_fewer hand address = by_found (held hand address) refl
  where
    by_found : (found : Option Entry) → held hand address ≡ found → length (without hand address) ≤ length hand
    by_found None is = let same = ap length (without-none hand address is) in omega arith
    by_found (Some entry) is = let fewer = length-without hand address entry is in omega arith

-- few are at hand, also when a block was taken out
pub few_left : (config : Config) (hand left : List Entry) (address : Address) → IsConfig config
    → left ≡ without hand address → length hand ≤ config.stash + 4 * (config.shape.levels + 1)
    → length left < 2 ^ 20
few_left config hand left address is gone few =
    let fewer = without_fewer hand address in
    let same = ap length gone in
    let levels = (shape_layered config.shape is.is_shape).levels_to in
    omega (arith, is.stash)
