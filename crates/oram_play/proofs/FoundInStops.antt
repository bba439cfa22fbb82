-- A line that was found in a slot that stopped later is the block's, or the log shows a forgery.
use Rattle.std.proofs.Common.{◌≡◌, ◌⊎◌, ℕ, List, [], Some, sym, ap, ◌∙◌, subst, inl, inr}
use Rattle.asc_base.specs.declared.block.Line.{Line}
use Rattle.asc_base.specs.declared.stop.Stop.{Stop}
use Rattle.oram_contents.specs.Counts.{Ghost, line_at}
use Rattle.oram_contents.specs.Entries.{Keys, AreKeys}
use Rattle.oram_contents.specs.Forgery.{Forgery}
use Rattle.oram_contents.specs.Provenance.{Sound}
use Rattle.oram_contents.specs.Slots.{IsRefill, MayRise}
use Rattle.oram_contents.proofs.GrowSteps.{forgery_more}
use Rattle.oram_contents.proofs.DummySteps.{passes_keep}
use Rattle.oram_contents.proofs.RefillSteps.{refill_sound}
use Rattle.oram_lines.specs.Noted.{IsDueRequest}
use Rattle.oram_lines.specs.Standing.{IsKnown, later}
use Rattle.oram_lines.proofs.KnownLaws.{passed_is}
use Rattle.oram_walk.specs.declared.slots.Access.{Access}
use Rattle.rate_enforcer.specs.PortStep.{PortState, contents}
use Rattle.run_play.specs.Slots.{Pace, Numbers, Slot}
use Rattle.oram_play.specs.OnPlay.{FindsLines}
use Rattle.oram_play.specs.Stopped.{WasFound}
use Rattle.oram_play.specs.StopsInTurn.{StopsNext, AtAccess, AtAppend, NoRoom, asked_of}

pub found-right : (keys : Keys) → AreKeys keys → (g : Ghost) (access : Access) (line : Line) (old new : PortState)
    → IsKnown keys g old → WasFound keys access line old new → g.pend ≡ Some access.address.0
    → access.counter ≡ g.count access.address.0 → MayRise keys g access.address.0 access.next
    → Forgery keys new.tap.log ⊎ (line.0 ≡ line_at keys.shape g access.address.0)
found-right keys lawful g access line old new known x pend counter rises =
    let a : ℕ = access.address.0 in
    let next : Ghost = later g x.passed in
    let both = passes_keep keys lawful x.passed old.tap.log x.mid g (contents old) x.between old.clock.dummies x.passes
    known.closed known.dummies known.always known.sound in
    let sound = subst (λ h. Sound keys x.mid h x.between) (passed_is g x.passed known.closed) both.1 in
    let slot = subst (λ c. IsRefill keys x.mid x.log x.between x.after x.start a c x.found) counter x.slot in
    let may : MayRise keys next a access.next =
    record { inside = rises.inside; up = rises.up; parent = rises.parent } in
    elim (refill_sound keys lawful x.mid x.log next x.between x.after x.start a access.next x.found slot known.closed
    pend may x.seeds both.0 sound) [
      | inl forged ↦ inl (forgery_more keys x.log new.tap.log x.more [] x.adds forged)
      | inr is ↦ inr (x.line_is ∙ is.1)
    ]

-- So what is found where a run is stopped that is due is the memory's.
pub finds-lines : {keys : Keys} {levels : ℕ} {numbers : Numbers} {asked : ℕ} {slots : List Slot} {pace : Pace}
    {stop : Stop} {old new : PortState} → AreKeys keys → (lines : ℕ → Line)
    (next : StopsNext keys levels numbers asked slots pace stop old new) → IsDueRequest keys lines (asked_of next) old
    → FindsLines lines next
finds-lines {keys} {levels} {numbers} {asked} {slots} {pace} {stop} {old} {new} lawful lines (AtAccess x) due =
    λ line found.
    elim (found-right keys lawful due.ghost x.access line old new due.known found due.waits due.counter due.rises) [
      | inl forged ↦ inl forged
      | inr is ↦ inr (ap {B = Line} (λ (bytes : List ℕ). record { 0 = bytes }) (is ∙ sym due.line))
    ]
finds-lines lawful lines (AtAppend x) due = tt
finds-lines lawful lines (NoRoom none) due = tt
