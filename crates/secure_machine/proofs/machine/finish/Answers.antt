use Rattle.std.proofs.Common.{ℕ, ◌≡◌, ◌+◌, Ok, Err, Some, inl, inr, refl, sym, ap, subst, ◌∙◌}
use Rattle.std.proofs.lemmas.Result.{IfOk-weaker}
use Rattle.asc_base.specs.declared.stop.Stop.{Stop}
use Rattle.asc_base.specs.declared.stop.Stop.TheVariants.{TimeUp}
use Rattle.oram_lines.proofs.LineLaws.{forgery_call, forgery_stop}
use Rattle.secure_machine.specs.FlatEnds.{CauseRuns}
use Rattle.secure_machine.specs.Refines.{CauseUnblamed}
use Rattle.secure_machine.proofs.FlatLaws.{prefix_ends, ended_stops, evidence_named}
use Rattle.secure_machine.proofs.Refining.{forged_now, wait_unblamed, waited_points, wait_points}
use Rattle.oram_frontend.specs.Oram.{OramStep, Wait}
use Rattle.oram_frontend.specs.Slots.{FitKeys}
use Rattle.secure_machine.specs.Finish.{HaltsBy, HaltsLater, IsOwnEnding}
use Rattle.secure_machine.specs.Same.{timed_of, keys_in}
use Rattle.secure_machine.specs.declared.machine.Cause.{Cause}
use Rattle.secure_machine.proofs.OramGoes.{oram_goes, oram_breaks, wait_after, wait_in_time, wait_pace, wait_soon}
use Rattle.secure_machine.proofs.NotedLines.{wait_quiet, request_stop, wait_lines, stop_lines}
use Rattle.secure_machine.specs.Fed.{CauseFed}
use Rattle.secure_machine.proofs.FedLaws.{stop_ends, ended_stop_ends}
use Rattle.secure_machine.proofs.PortGoes.{breaks_then}
use Rattle.secure_machine.proofs.Settles.{idle_settles, own_within}
use Rattle.secure_machine.specs.Plays.{CauseInPlay, play_ending}
use Rattle.secure_machine.proofs.Playing.{wait_in_play, wait_stopped}
use Rattle.secure_machine.specs.Judged.{CauseReplayed, EndsReplayed}
use Rattle.secure_machine.proofs.Replaying.{own_replayed, stopped_replayed}
use Rattle.play_run.proofs.WaitSteps.{wait-same}
use Rattle.secure_machine.specs.Spent.{CauseSpent, EndsSpent}
use Rattle.secure_machine.proofs.SpentRuns.{stop_spends, ended_stop_spends}
use Rattle.secure_machine.proofs.HomeEnds.{home_behind, stopped_home}
use Rattle.secure_machine.proofs.machine.finish.Goals as goal

pub returns-in-Ok-clause-settled : goal.returns-in-Ok-clause-settled
returns-in-Ok-clause-settled g c =
    let levels = g.L.LeafFn.levels c.args.lines.now.oram.now.port.leaves in
    let keys = keys_in g.L.LeafFn.leaf_of c.args.lines.now in
    let old = (timed_of g.M.UntrustedMemory.state g.W.Watch.state c.args.lines.now).oram in
    let new = (timed_of g.M.UntrustedMemory.state g.W.Watch.state c.idle_until.new.self).oram in
    λ first h.
    let by = subst (λ (cause : Cause). HaltsBy c.args.budget levels c.args.halted.instructions
    c.args.halted.cycles cause first old)
    c.in-Ends.is h in
    let fits : FitKeys keys old.port = record { shape = refl; pads = refl } in
    idle_settles c.args.budget c.args.halted.instructions c.args.halted.cycles c.in-Ends.until c.in-Ok.last
    c.in-Ends.ending first old.port new.port by.0
    (oram_goes keys levels old new fits by.1 (Wait c.in-Ends.until) _ c.in-Ok.ensures.step)
    (wait_pace keys levels old new fits by.1 c.in-Ends.until _ c.in-Ok.ensures.step)
    (wait_soon keys levels old new fits by.1 c.in-Ends.until _ c.in-Ok.ensures.step by.2)
    (wait_after keys levels old new fits by.1 c.in-Ends.until _ c.in-Ok.ensures.step) by.3

pub returns-in-Err-clause-settled : goal.returns-in-Err-clause-settled
returns-in-Err-clause-settled g c =
    let levels = g.L.LeafFn.levels c.args.lines.now.oram.now.port.leaves in
    let keys = keys_in g.L.LeafFn.leaf_of c.args.lines.now in
    let old = (timed_of g.M.UntrustedMemory.state g.W.Watch.state c.args.lines.now).oram in
    let new = (timed_of g.M.UntrustedMemory.state g.W.Watch.state c.idle_until.new.self).oram in
    λ first h.
    let by = subst (λ (cause : Cause). HaltsBy c.args.budget levels c.args.halted.instructions
    c.args.halted.cycles cause first old)
    c.in-Ends.is h in
    let fits : FitKeys keys old.port = record { shape = refl; pads = refl } in
    c.ending_of.ensures.settled c.args.budget c.args.halted.instructions c.args.halted.cycles first
    (breaks_then by.0 (oram_breaks keys levels old new fits by.1 (Wait c.in-Ends.until) c.in-Err.stop
    c.in-Err.ensures.step))
    (own_within c.args.budget first.clock.config.time c.args.halted.instructions c.args.halted.cycles c.in-Ends.until
    c.in-Ends.ending by.3)

pub returns-in-Stops-clause-settled : goal.returns-in-Stops-clause-settled
returns-in-Stops-clause-settled g c =
    let levels = g.L.LeafFn.levels c.args.lines.now.oram.now.port.leaves in
    let old = (timed_of g.M.UntrustedMemory.state g.W.Watch.state c.args.lines.now).oram in
    λ first h.
    let by = subst (λ (cause : Cause). HaltsBy c.args.budget levels c.args.halted.instructions
    c.args.halted.cycles cause first old) c.in-Stops.is h in
    c.ending_of-in-Stops.ensures.settled c.args.budget c.args.halted.instructions c.args.halted.cycles first by.0 by.1

pub returns-in-Ok-clause-refines : goal.returns-in-Ok-clause-refines
returns-in-Ok-clause-refines g c machine last memory lawful known =
    let levels = g.L.LeafFn.levels c.args.lines.now.oram.now.port.leaves in
    let keys = keys_in g.L.LeafFn.leaf_of c.args.lines.now in
    let old = (timed_of g.M.UntrustedMemory.state g.W.Watch.state c.args.lines.now).oram in
    let new = (timed_of g.M.UntrustedMemory.state g.W.Watch.state c.idle_until.new.self).oram in
    elim known [
      | inl forged ↦ inl (forged_now g.M.UntrustedMemory.state g.W.Watch.state g.L.LeafFn.leaf_of g.L.LeafFn.levels
          c.args.lines.now c.idle_until.new.self c.idle_until.ensures.same
          (forgery_call keys lawful levels old new (Wait c.in-Ends.until) _ c.in-Ok.ensures.step forged))
      | inr runs ↦ inr (subst (λ (cause : Cause). CauseRuns c.args.halted.instructions machine memory cause last)
          c.in-Ends.is runs)
    ]

pub returns-in-Err-clause-refines : goal.returns-in-Err-clause-refines
returns-in-Err-clause-refines g c machine last memory lawful known =
    let levels = g.L.LeafFn.levels c.args.lines.now.oram.now.port.leaves in
    let keys = keys_in g.L.LeafFn.leaf_of c.args.lines.now in
    let old = (timed_of g.M.UntrustedMemory.state g.W.Watch.state c.args.lines.now).oram in
    let new = (timed_of g.M.UntrustedMemory.state g.W.Watch.state c.idle_until.new.self).oram in
    let by = subst (λ (cause : Cause). HaltsBy c.args.budget levels c.args.halted.instructions
    c.args.halted.cycles cause c.requires.halts.0 old) c.in-Ends.is c.requires.halts.1 in
    let fits : FitKeys keys old.port = record { shape = refl; pads = refl } in
    let in_time : (at : ℕ) → c.in-Err.stop ≡ TimeUp at → ⊥ = λ at is.
    wait_in_time keys levels old new fits by.1 c.in-Ends.until at
    (subst (λ (s : Stop). OramStep keys levels old (Wait c.in-Ends.until) (Err s) new) is c.in-Err.ensures.step) in
    IfOk-weaker c.ending_of.result _ _ (λ (ending, end) named. elim known [
      | inl forged ↦ inl (forged_now g.M.UntrustedMemory.state g.W.Watch.state g.L.LeafFn.leaf_of g.L.LeafFn.levels
          c.args.lines.now c.idle_until.new.self c.idle_until.ensures.same
          (forgery_stop keys lawful levels old new (Wait c.in-Ends.until) c.in-Err.stop c.in-Err.ensures.step forged))
      | inr runs ↦ inr (ended_stops c.args.halted.instructions machine last memory c.in-Ends.ending ending c.in-Err.stop
          in_time named (subst (λ (cause : Cause). CauseRuns c.args.halted.instructions machine memory cause last)
          c.in-Ends.is runs))
    ]) c.ending_of.ensures.named

pub returns-in-Stops-clause-refines : goal.returns-in-Stops-clause-refines
returns-in-Stops-clause-refines g c machine last memory lawful known =
    IfOk-weaker c.ending_of-in-Stops.result _ _ (λ (ending, end) named. elim known [
      | inl forged ↦ inl forged
      | inr runs ↦ inr (prefix_ends c.args.halted.instructions machine last memory c.in-Stops.stop ending named
          (subst (λ (cause : Cause). CauseRuns c.args.halted.instructions machine memory cause last)
          c.in-Stops.is runs))
    ]) c.ending_of-in-Stops.ensures.named

pub returns-in-Ok-clause-fetches : goal.returns-in-Ok-clause-fetches
returns-in-Ok-clause-fetches g c known =
    c.idle_until.ensures.fetches ∙ known
    ∙ sym (wait_quiet (keys_in g.L.LeafFn.leaf_of c.args.lines.now)
    (g.L.LeafFn.levels c.args.lines.now.oram.now.port.leaves)
    (timed_of g.M.UntrustedMemory.state g.W.Watch.state c.args.lines.now).oram
    (timed_of g.M.UntrustedMemory.state g.W.Watch.state c.idle_until.new.self).oram c.in-Ends.until _
    c.in-Ok.ensures.step)

pub returns-in-Err-clause-fetches : goal.returns-in-Err-clause-fetches
returns-in-Err-clause-fetches g c known =
    c.idle_until.ensures.fetches ∙ known
    ∙ sym (request_stop (keys_in g.L.LeafFn.leaf_of c.args.lines.now)
    (g.L.LeafFn.levels c.args.lines.now.oram.now.port.leaves)
    (timed_of g.M.UntrustedMemory.state g.W.Watch.state c.args.lines.now).oram
    (timed_of g.M.UntrustedMemory.state g.W.Watch.state c.idle_until.new.self).oram (Wait c.in-Ends.until)
    c.in-Err.stop c.in-Err.ensures.step)

pub returns-in-Ok-clause-honest : goal.returns-in-Ok-clause-honest
returns-in-Ok-clause-honest g c lawful unblamed =
    let levels = g.L.LeafFn.levels c.args.lines.now.oram.now.port.leaves in
    let old = (timed_of g.M.UntrustedMemory.state g.W.Watch.state c.args.lines.now).oram in
    let by = subst (λ (cause : Cause). HaltsBy c.args.budget levels c.args.halted.instructions
    c.args.halted.cycles cause c.requires.halts.0 old) c.in-Ends.is c.requires.halts.1 in
    λ evidence is none. subst (IsOwnEnding c.args.budget (c.requires.halts.0).clock.config.time
    c.args.halted.instructions c.args.halted.cycles c.in-Ends.until) is by.3

pub returns-in-Err-clause-honest : goal.returns-in-Err-clause-honest
returns-in-Err-clause-honest g c lawful unblamed =
    let levels = g.L.LeafFn.levels c.args.lines.now.oram.now.port.leaves in
    let old = (timed_of g.M.UntrustedMemory.state g.W.Watch.state c.args.lines.now).oram in
    let by = subst (λ (cause : Cause). HaltsBy c.args.budget levels c.args.halted.instructions
    c.args.halted.cycles cause c.requires.halts.0 old) c.in-Ends.is c.requires.halts.1 in
    let (cache, memory, known) = subst (λ (cause : Cause). CauseUnblamed g.M.UntrustedMemory.state g.W.Watch.state
    g.L.LeafFn.leaf_of g.L.LeafFn.levels cause c.args.lines.now) c.in-Ends.is unblamed in
    IfOk-weaker c.ending_of.result _ _ (λ (ending, end) named evidence is none.
    wait_unblamed g.M.UntrustedMemory.state g.W.Watch.state g.L.LeafFn.leaf_of g.L.LeafFn.levels c.args.lines.now
    c.idle_until.new.self c.in-Ends.until c.in-Err.stop cache memory lawful by.1 known c.in-Err.ensures.step evidence
    (evidence_named c.in-Err.stop evidence (named ∙ ap Some is)) none) c.ending_of.ensures.named

pub returns-in-Stops-clause-honest : goal.returns-in-Stops-clause-honest
returns-in-Stops-clause-honest g c lawful unblamed =
    IfOk-weaker c.ending_of-in-Stops.result _ _ (λ (ending, end) named evidence is none.
    (subst (λ (cause : Cause). CauseUnblamed g.M.UntrustedMemory.state g.W.Watch.state g.L.LeafFn.leaf_of
    g.L.LeafFn.levels cause c.args.lines.now) c.in-Stops.is unblamed).0 evidence
    (evidence_named c.in-Stops.stop evidence (named ∙ ap Some is)) none) c.ending_of-in-Stops.ensures.named

pub returns-in-Ok-clause-points : goal.returns-in-Ok-clause-points
returns-in-Ok-clause-points g c lawful unblamed =
    let (cache, memory, known) = subst (λ (cause : Cause). CauseUnblamed g.M.UntrustedMemory.state g.W.Watch.state
    g.L.LeafFn.leaf_of g.L.LeafFn.levels cause c.args.lines.now) c.in-Ends.is unblamed in
    waited_points g.M.UntrustedMemory.state g.W.Watch.state g.L.LeafFn.leaf_of g.L.LeafFn.levels c.args.lines.now
    c.idle_until.new.self c.in-Ends.until _ cache memory lawful c.idle_until.ensures.same known c.in-Ok.ensures.step

pub returns-in-Err-clause-points : goal.returns-in-Err-clause-points
returns-in-Err-clause-points g c lawful unblamed =
    let (cache, memory, known) = subst (λ (cause : Cause). CauseUnblamed g.M.UntrustedMemory.state g.W.Watch.state
    g.L.LeafFn.leaf_of g.L.LeafFn.levels cause c.args.lines.now) c.in-Ends.is unblamed in
    wait_points g.M.UntrustedMemory.state g.W.Watch.state g.L.LeafFn.leaf_of g.L.LeafFn.levels c.args.lines.now
    c.idle_until.new.self c.in-Ends.until c.in-Err.stop cache memory lawful c.idle_until.ensures.same known
    c.in-Err.ensures.step

pub returns-in-Stops-clause-points : goal.returns-in-Stops-clause-points
returns-in-Stops-clause-points g c lawful unblamed =
    (subst (λ (cause : Cause). CauseUnblamed g.M.UntrustedMemory.state g.W.Watch.state g.L.LeafFn.leaf_of
    g.L.LeafFn.levels cause c.args.lines.now) c.in-Stops.is unblamed).1

pub returns-in-Ok-clause-noted : goal.returns-in-Ok-clause-noted
returns-in-Ok-clause-noted g c =
    wait_lines (keys_in g.L.LeafFn.leaf_of c.args.lines.now) (g.L.LeafFn.levels c.args.lines.now.oram.now.port.leaves)
    (timed_of g.M.UntrustedMemory.state g.W.Watch.state c.args.lines.now).oram
    (timed_of g.M.UntrustedMemory.state g.W.Watch.state c.idle_until.new.self).oram c.in-Ends.until _
    c.in-Ok.ensures.step

pub returns-in-Err-clause-noted : goal.returns-in-Err-clause-noted
returns-in-Err-clause-noted g c =
    stop_lines (keys_in g.L.LeafFn.leaf_of c.args.lines.now) (g.L.LeafFn.levels c.args.lines.now.oram.now.port.leaves)
    (timed_of g.M.UntrustedMemory.state g.W.Watch.state c.args.lines.now).oram
    (timed_of g.M.UntrustedMemory.state g.W.Watch.state c.idle_until.new.self).oram (Wait c.in-Ends.until)
    c.in-Err.stop c.in-Err.ensures.step

pub returns-in-Ok-clause-fed : goal.returns-in-Ok-clause-fed
returns-in-Ok-clause-fed g c ways machine last feed fed =
    subst (λ (cause : Cause). CauseFed ways c.args.halted.instructions machine feed cause last) c.in-Ends.is fed

pub returns-in-Err-clause-fed : goal.returns-in-Err-clause-fed
returns-in-Err-clause-fed g c ways machine last feed fed =
    let levels = g.L.LeafFn.levels c.args.lines.now.oram.now.port.leaves in
    let keys = keys_in g.L.LeafFn.leaf_of c.args.lines.now in
    let old = (timed_of g.M.UntrustedMemory.state g.W.Watch.state c.args.lines.now).oram in
    let new = (timed_of g.M.UntrustedMemory.state g.W.Watch.state c.idle_until.new.self).oram in
    let by = subst (λ (cause : Cause). HaltsBy c.args.budget levels c.args.halted.instructions
    c.args.halted.cycles cause c.requires.halts.0 old) c.in-Ends.is c.requires.halts.1 in
    let fits : FitKeys keys old.port = record { shape = refl; pads = refl } in
    let in_time : (at : ℕ) → c.in-Err.stop ≡ TimeUp at → ⊥ = λ at is.
    wait_in_time keys levels old new fits by.1 c.in-Ends.until at
    (subst (λ (s : Stop). OramStep keys levels old (Wait c.in-Ends.until) (Err s) new) is c.in-Err.ensures.step) in
    let runs = subst (λ (cause : Cause). CauseFed ways c.args.halted.instructions machine feed cause last) c.in-Ends.is
    fed in
    IfOk-weaker c.ending_of.result _ _ (λ (ending, end) named.
    ended_stop_ends ways c.args.halted.instructions machine last feed c.in-Ends.ending ending c.in-Err.stop in_time
    named runs)
    c.ending_of.ensures.named

pub returns-in-Stops-clause-fed : goal.returns-in-Stops-clause-fed
returns-in-Stops-clause-fed g c ways machine last feed fed =
    IfOk-weaker c.ending_of-in-Stops.result _ _ (λ (ending, end) named.
    stop_ends ways c.args.halted.instructions machine last feed c.in-Stops.stop ending named
    (subst (λ (cause : Cause). CauseFed ways c.args.halted.instructions machine feed cause last) c.in-Stops.is fed))
    c.ending_of-in-Stops.ensures.named

pub returns-in-Ok-clause-plays : goal.returns-in-Ok-clause-plays
returns-in-Ok-clause-plays g c config whole lawful calls same known =
    wait_in_play g.M.UntrustedMemory.state g.W.Watch.state g.L.LeafFn.leaf_of g.L.LeafFn.levels config whole
    (play_ending c.in-Ends.ending) c.args.halted.instructions c.args.halted.cycles c.in-Ends.until _
    c.args.lines.now c.idle_until.new.self lawful calls c.idle_until.ensures.same c.idle_until.ensures.fetches
    (subst (λ (cause : Cause). CauseInPlay g.M.UntrustedMemory.state g.W.Watch.state g.L.LeafFn.leaf_of
    g.L.LeafFn.levels
    config whole c.args.halted.instructions c.args.halted.cycles cause c.args.lines.now) c.in-Ends.is known)
    c.in-Ok.ensures.step

pub returns-in-Err-clause-plays : goal.returns-in-Err-clause-plays
returns-in-Err-clause-plays g c config whole lawful calls same known =
    let levels = g.L.LeafFn.levels c.args.lines.now.oram.now.port.leaves in
    let keys = keys_in g.L.LeafFn.leaf_of c.args.lines.now in
    let old = (timed_of g.M.UntrustedMemory.state g.W.Watch.state c.args.lines.now).oram in
    let new = (timed_of g.M.UntrustedMemory.state g.W.Watch.state c.idle_until.new.self).oram in
    let by = subst (λ (cause : Cause). HaltsBy c.args.budget levels c.args.halted.instructions
    c.args.halted.cycles cause c.requires.halts.0 old) c.in-Ends.is c.requires.halts.1 in
    let fits : FitKeys keys old.port = record { shape = refl; pads = refl } in
    let broke = oram_breaks keys levels old new fits by.1 (Wait c.in-Ends.until) c.in-Err.stop c.in-Err.ensures.step in
    c.ending_of.ensures.plays config whole c.args.halted.instructions c.args.halted.cycles (broke.config ∙ same)
    (wait_stopped g.M.UntrustedMemory.state g.W.Watch.state g.L.LeafFn.leaf_of g.L.LeafFn.levels config whole
    (play_ending c.in-Ends.ending) c.args.halted.instructions c.args.halted.cycles c.in-Ends.until c.in-Err.stop
    c.args.lines.now c.idle_until.new.self lawful calls c.idle_until.ensures.same c.idle_until.ensures.fetches
    by.1.going
    (subst (λ (cause : Cause). CauseInPlay g.M.UntrustedMemory.state g.W.Watch.state g.L.LeafFn.leaf_of
    g.L.LeafFn.levels
    config whole c.args.halted.instructions c.args.halted.cycles cause c.args.lines.now) c.in-Ends.is known)
    c.in-Err.ensures.step)

pub returns-in-Stops-clause-plays : goal.returns-in-Stops-clause-plays
returns-in-Stops-clause-plays g c config whole lawful calls same known =
    c.ending_of-in-Stops.ensures.plays config whole c.args.halted.instructions c.args.halted.cycles same
    (subst (λ (cause : Cause). CauseInPlay g.M.UntrustedMemory.state g.W.Watch.state g.L.LeafFn.leaf_of
    g.L.LeafFn.levels
    config whole c.args.halted.instructions c.args.halted.cycles cause c.args.lines.now) c.in-Stops.is known)

pub returns-in-Ok-clause-replays : goal.returns-in-Ok-clause-replays
returns-in-Ok-clause-replays g c calls cause =
    let levels = g.L.LeafFn.levels c.args.lines.now.oram.now.port.leaves in
    let keys = keys_in g.L.LeafFn.leaf_of c.args.lines.now in
    let old = (timed_of g.M.UntrustedMemory.state g.W.Watch.state c.args.lines.now).oram in
    let new = (timed_of g.M.UntrustedMemory.state g.W.Watch.state c.idle_until.new.self).oram in
    let by = subst (λ (cause : Cause). HaltsBy c.args.budget levels c.args.halted.instructions
    c.args.halted.cycles cause c.requires.halts.0 old) c.in-Ends.is c.requires.halts.1 in
    let rests = by.1.serves.rests in
    let now = subst (λ (cause : Cause). CauseReplayed keys old.port.tree.stash cause old) c.in-Ends.is cause in
    let later = calls.request old new (Wait c.in-Ends.until) _ now rests tt c.in-Ok.ensures.step in
    subst (λ k. EndsReplayed keys k c.in-Ends.ending new.port.tap) c.idle_until.ensures.same.tree.stash
    (own_replayed keys levels c.args.budget (c.requires.halts.0).clock.config.time c.args.halted.instructions
    c.args.halted.cycles c.in-Ends.until c.in-Ends.ending new calls later (c.in-Ok.ensures.step.3.1.rests 0 rests) by.3)

pub returns-in-Err-clause-replays : goal.returns-in-Err-clause-replays
returns-in-Err-clause-replays g c calls cause =
    let levels = g.L.LeafFn.levels c.args.lines.now.oram.now.port.leaves in
    let keys = keys_in g.L.LeafFn.leaf_of c.args.lines.now in
    let old = (timed_of g.M.UntrustedMemory.state g.W.Watch.state c.args.lines.now).oram in
    let new = (timed_of g.M.UntrustedMemory.state g.W.Watch.state c.idle_until.new.self).oram in
    let by = subst (λ (cause : Cause). HaltsBy c.args.budget levels c.args.halted.instructions
    c.args.halted.cycles cause c.requires.halts.0 old) c.in-Ends.is c.requires.halts.1 in
    let now = subst (λ (cause : Cause). CauseReplayed keys old.port.tree.stash cause old) c.in-Ends.is cause in
    stopped_replayed keys old.port.tree.stash c.in-Err.stop new.port c.ending_of.result c.ending_of.ensures.named
    c.ending_of.ensures.wanted
    (calls.stop old new (Wait c.in-Ends.until) c.in-Err.stop now by.1.serves.rests by.1.going tt c.in-Err.ensures.step)

pub returns-in-Stops-clause-replays : goal.returns-in-Stops-clause-replays
returns-in-Stops-clause-replays g c calls cause =
    let keys = keys_in g.L.LeafFn.leaf_of c.args.lines.now in
    let old = (timed_of g.M.UntrustedMemory.state g.W.Watch.state c.args.lines.now).oram in
    stopped_replayed keys old.port.tree.stash c.in-Stops.stop old.port c.ending_of-in-Stops.result
    c.ending_of-in-Stops.ensures.named c.ending_of-in-Stops.ensures.wanted
    (subst (λ (cause : Cause). CauseReplayed keys old.port.tree.stash cause old) c.in-Stops.is cause)

pub returns-in-Ok-clause-spends : goal.returns-in-Ok-clause-spends
returns-in-Ok-clause-spends g c config levels costs known =
    let keys = keys_in g.L.LeafFn.leaf_of c.args.lines.now in
    let old = (timed_of g.M.UntrustedMemory.state g.W.Watch.state c.args.lines.now).oram in
    let new = (timed_of g.M.UntrustedMemory.state g.W.Watch.state c.idle_until.new.self).oram in
    let same = wait-same levels keys (g.L.LeafFn.levels c.args.lines.now.oram.now.port.leaves) c.in-Ends.until old new
    (Ok _) c.in-Ok.ensures.step in
    subst (λ n. EndsSpent config levels (costs + n) c.args.halted.instructions c.args.halted.cycles c.in-Ends.ending)
    (sym same)
    (subst (λ (cause : Cause). CauseSpent g.M.UntrustedMemory.state g.W.Watch.state g.L.LeafFn.levels config levels
    costs c.args.halted.instructions c.args.halted.cycles cause c.args.lines.now) c.in-Ends.is known)

pub returns-in-Err-clause-spends : goal.returns-in-Err-clause-spends
returns-in-Err-clause-spends g c config levels costs known =
    let width = g.L.LeafFn.levels c.args.lines.now.oram.now.port.leaves in
    let keys = keys_in g.L.LeafFn.leaf_of c.args.lines.now in
    let old = (timed_of g.M.UntrustedMemory.state g.W.Watch.state c.args.lines.now).oram in
    let new = (timed_of g.M.UntrustedMemory.state g.W.Watch.state c.idle_until.new.self).oram in
    let by = subst (λ (cause : Cause). HaltsBy c.args.budget width c.args.halted.instructions
    c.args.halted.cycles cause c.requires.halts.0 old) c.in-Ends.is c.requires.halts.1 in
    let fits : FitKeys keys old.port = record { shape = refl; pads = refl } in
    let in_time : (at : ℕ) → c.in-Err.stop ≡ TimeUp at → ⊥ = λ at is.
    wait_in_time keys width old new fits by.1 c.in-Ends.until at
    (subst (λ (s : Stop). OramStep keys width old (Wait c.in-Ends.until) (Err s) new) is c.in-Err.ensures.step) in
    let same = wait-same levels keys width c.in-Ends.until old new (Err c.in-Err.stop) c.in-Err.ensures.step in
    let spent = subst (λ n. EndsSpent config levels (costs + n) c.args.halted.instructions c.args.halted.cycles
    c.in-Ends.ending) (sym same)
    (subst (λ (cause : Cause). CauseSpent g.M.UntrustedMemory.state g.W.Watch.state g.L.LeafFn.levels config levels
    costs c.args.halted.instructions c.args.halted.cycles cause c.args.lines.now) c.in-Ends.is known) in
    IfOk-weaker c.ending_of.result _ _ (λ (ending, end) named.
    ended_stop_spends config levels _ c.args.halted.instructions c.args.halted.cycles c.in-Ends.ending ending
    c.in-Err.stop in_time named spent) c.ending_of.ensures.named

pub returns-in-Stops-clause-spends : goal.returns-in-Stops-clause-spends
returns-in-Stops-clause-spends g c config levels costs known =
    let old = (timed_of g.M.UntrustedMemory.state g.W.Watch.state c.args.lines.now).oram in
    let (spent, late) = subst (λ (cause : Cause). CauseSpent g.M.UntrustedMemory.state g.W.Watch.state
    g.L.LeafFn.levels config levels costs c.args.halted.instructions c.args.halted.cycles cause c.args.lines.now)
    c.in-Stops.is known in
    IfOk-weaker c.ending_of-in-Stops.result _ _ (λ (ending, end) named.
    stop_spends config levels costs c.args.halted.instructions c.args.halted.cycles c.in-Stops.stop ending old.port
    named spent late) c.ending_of-in-Stops.ensures.named

pub returns-in-Ok-clause-home : goal.returns-in-Ok-clause-home
returns-in-Ok-clause-home g c config whole lawful known calls cause late =
    let levels = g.L.LeafFn.levels c.args.lines.now.oram.now.port.leaves in
    let keys = keys_in g.L.LeafFn.leaf_of c.args.lines.now in
    let old = (timed_of g.M.UntrustedMemory.state g.W.Watch.state c.args.lines.now).oram in
    let new = (timed_of g.M.UntrustedMemory.state g.W.Watch.state c.idle_until.new.self).oram in
    let by = subst (λ (cause : Cause). HaltsBy c.args.budget levels c.args.halted.instructions
    c.args.halted.cycles cause c.requires.halts.0 old) c.in-Ends.is c.requires.halts.1 in
    let rests = by.1.serves.rests in
    let now = subst (λ (cause : Cause). CauseReplayed keys old.port.tree.stash cause old) c.in-Ends.is cause in
    let later = calls.request old new (Wait c.in-Ends.until) _ now rests tt c.in-Ok.ensures.step in
    λ behind none. home_behind keys lawful levels config whole (play_ending c.in-Ends.ending) _ c.in-Ends.until _ old
    new
    (subst (λ (cause : Cause). CauseInPlay g.M.UntrustedMemory.state g.W.Watch.state g.L.LeafFn.leaf_of
    g.L.LeafFn.levels
    config whole c.args.halted.instructions c.args.halted.cycles cause c.args.lines.now) c.in-Ends.is known)
    c.in-Ok.ensures.step later none

pub returns-in-Err-clause-home : goal.returns-in-Err-clause-home
returns-in-Err-clause-home g c config whole lawful known calls cause late =
    let levels = g.L.LeafFn.levels c.args.lines.now.oram.now.port.leaves in
    let keys = keys_in g.L.LeafFn.leaf_of c.args.lines.now in
    let old = (timed_of g.M.UntrustedMemory.state g.W.Watch.state c.args.lines.now).oram in
    let new = (timed_of g.M.UntrustedMemory.state g.W.Watch.state c.idle_until.new.self).oram in
    let by = subst (λ (cause : Cause). HaltsBy c.args.budget levels c.args.halted.instructions
    c.args.halted.cycles cause c.requires.halts.0 old) c.in-Ends.is c.requires.halts.1 in
    let fits : FitKeys keys old.port = record { shape = refl; pads = refl } in
    stopped_home keys config whole c.args.halted.instructions c.args.halted.cycles _ c.in-Err.stop c.ending_of.result
    c.ending_of.ensures.named (λ at is some. absurd (wait_in_time keys levels old new fits by.1 c.in-Ends.until at
    (subst (λ (s : Stop). OramStep keys levels old (Wait c.in-Ends.until) (Err s) new) is c.in-Err.ensures.step)))

pub returns-in-Stops-clause-home : goal.returns-in-Stops-clause-home
returns-in-Stops-clause-home g c config whole lawful known calls cause late =
    stopped_home (keys_in g.L.LeafFn.leaf_of c.args.lines.now) config whole c.args.halted.instructions
    c.args.halted.cycles _ c.in-Stops.stop c.ending_of-in-Stops.result c.ending_of-in-Stops.ensures.named
    (subst (HaltsLater c.args.halted.instructions c.args.halted.cycles) c.in-Stops.is late)
