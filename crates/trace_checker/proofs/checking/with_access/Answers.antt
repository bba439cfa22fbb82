use Rattle.std.proofs.Common.{◌≤◌, arith, sym, ◌∙◌, ap}
use Rattle.bus_trace.specs.declared.trace.Seen.{Seen}
use Rattle.bus_trace.specs.Trace.{lists_of}
use Rattle.trace_checker.proofs.Allowed.{at_seen}
use Rattle.trace_checker.proofs.EndLaws.{knows_sound}
use Rattle.trace_checker.proofs.VerdictLaws.{early_next, slot_of, says_start, says_moves, knows_more}
use Rattle.trace_checker.proofs.checking.with_access.Goals as goal

pub slot_at-requires-clause-sound : goal.slot_at-requires-clause-sound
slot_at-requires-clause-sound c =
    knows_sound (lists_of c.args.trace.now) c.args.index c.args.progress c.requires.ranges
    (omega (arith, c.requires.index)) c.requires.knows

pub first_from-requires-clause-early : goal.first_from-requires-clause-early
first_from-requires-clause-early c =
    early_next (lists_of c.args.trace.now) c.args.index c.args.progress c.requires.ranges
    (omega (arith, c.requires.index)) c.requires.knows

pub returns-in_default : goal.returns-in_default
returns-in_default c =
    let t = lists_of c.args.trace.now in
    let seen = c.index-seen.result.now in
    says_start t c.args.index c.args.progress seen c.line_of.result c.first_from.result c.requires.ranges
    (omega (arith, c.requires.index)) c.requires.knows
    (at_seen c.args.trace.now.accesses.items c.args.index seen c.requires.index (sym c.index-seen.ensures))
    c.in_default.ensures c.line_of.ensures c.first_from.ensures

pub returns-then-moves-seen : goal.returns-then-moves-seen
returns-then-moves-seen c =
    let t = lists_of c.args.trace.now in
    let seen = c.index-seen.result.now in
    let slot = slot_of t c.args.index c.args.progress seen.start c.in-Some.slot c.requires.ranges
    (omega (arith, c.requires.index)) c.requires.knows c.in-Some.ensures in
    says_moves t c.args.index c.in-Some.slot seen c.line_of-then-moves-seen.result c.from.result
    c.from-then-moves-seen.result slot
    (at_seen c.args.trace.now.accesses.items c.args.index seen c.requires.index (sym c.index-seen.ensures))
    c.from.ensures (c.from-then-moves-seen.ensures ∙ c.moves_before-moves.ensures 0)
    (λ same. c.if-moves-seen.true (sym c.from-then-moves-seen.ensures ∙ same)) c.line_of-then-moves-seen.ensures

pub returns : goal.returns
returns c =
    let t = lists_of c.args.trace.now in
    let seen = c.index-seen.result.now in
    let slot = slot_of t c.args.index c.args.progress seen.start c.in-Some.slot c.requires.ranges
    (omega (arith, c.requires.index)) c.requires.knows c.in-Some.ensures in
    let some : 1 ≤ seen.moves =
    omega (
      arith,
      (c.requires.ranges.accesses c.args.index seen c.requires.index).moves,
      ap (λ (s : Seen). s.moves) c.index-seen.ensures,
    ) in
    knows_more t c.args.index c.in-Some.slot seen c.after.result c.requires.ranges slot
    (at_seen c.args.trace.now.accesses.items c.args.index seen c.requires.index (sym c.index-seen.ensures))
    (sym (c.moves_before-moves.ensures 0) ∙ c.if-moves-seen.false) some c.after.ensures
