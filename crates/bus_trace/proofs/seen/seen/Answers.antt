use Rattle.std.proofs.Common.{arith, sym, ap, ◌∙◌, ◌<◌, length}
use Rattle.std.proofs.Common.{take, [], ◌∷◌, ◌++◌, min}
use Rattle.std.proofs.lemmas.List.{take_all}
use Rattle.bus_schedule.specs.Shown.{starts_of, leaves_of}
use Rattle.bus_watch.specs.Recorder.{lists_of}
use Rattle.bus_trace.specs.OfLog.{seen_in, seen_of}
use Rattle.bus_trace.proofs.SeenIn.{AreOf, slot_in_ranges, one_more, seen_length}
use Rattle.bus_trace.proofs.seen.seen.Goals as goal

pub slot-slot-requires-clause-ranges : goal.slot-slot-requires-clause-ranges
slot-slot-requires-clause-ranges c =
    let log = lists_of c.args.log.now in
    let starts = c.in_ok-starts.starts.items in
    let leaves = c.in_ok-leaves.leaves.items in
    let are : AreOf log starts leaves = record {
      begun = c.in_ok-starts.ensures ∙ ap starts_of c.deref.ensures.value;
      drawn = c.in_ok-leaves.ensures ∙ ap leaves_of c.deref-2.ensures.value;
    } in
    let small : c.loop-place.place < min (length starts) (length leaves) =
    omega (arith, c.loop-place-test.true, c.min-place-end.ensures, c.len.ensures, c.len-2.ensures) in
    rw c.deref-in-loop-place.ensures.value (slot_in_ranges c.args.levels log starts leaves c.loop-place.place
    c.index.result.now c.index-in-loop-place.result.now c.requires.ranges are small c.index.ensures
    c.index-in-loop-place.ensures)

pub loop-place-preserved : goal.loop-place-preserved
loop-place-preserved c =
    let log = lists_of c.args.log.now in
    let starts = c.in_ok-starts.starts.items in
    let leaves = c.in_ok-leaves.leaves.items in
    let are : AreOf log starts leaves = record {
      begun = c.in_ok-starts.ensures ∙ ap starts_of c.deref.ensures.value;
      drawn = c.in_ok-leaves.ensures ∙ ap leaves_of c.deref-2.ensures.value;
    } in
    let small : c.loop-place.place < min (length starts) (length leaves) =
    omega (arith, c.loop-place-test.true, c.min-place-end.ensures, c.len.ensures, c.len-2.ensures) in
    c.in_ok-push.ensures.items
    ∙ ap (λ seen. seen ++ c.slot-slot.result ∷ []) c.loop-place.invariant
    ∙ ap (λ one. take c.loop-place.place (seen_in c.args.levels log) ++ one ∷ [])
    (c.slot-slot.ensures ∙ ap (λ moves. seen_of c.args.levels moves
    (c.index.result.now, c.index-in-loop-place.result.now.0)) c.deref-in-loop-place.ensures.value)
    ∙ sym (one_more c.args.levels log starts leaves c.loop-place.place
    c.index.result.now c.index-in-loop-place.result.now are small c.index.ensures c.index-in-loop-place.ensures)

pub returns : goal.returns
returns c =
    let log = lists_of c.args.log.now in
    let starts = c.in_ok-starts.starts.items in
    let leaves = c.in_ok-leaves.leaves.items in
    let are : AreOf log starts leaves = record {
      begun = c.in_ok-starts.ensures ∙ ap starts_of c.deref.ensures.value;
      drawn = c.in_ok-leaves.ensures ∙ ap leaves_of c.deref-2.ensures.value;
    } in
    let e = seen_length c.args.levels log starts leaves are in
    c.loop-place.invariant ∙ take_all c.loop-place.place (seen_in c.args.levels log)
    (omega (arith, e, c.loop-place-test.false, c.min-place-end.ensures, c.len.ensures, c.len-2.ensures))
