use Rattle.std.proofs.Common.{◌≡◌, ◌≤◌, take, vec_len, refl, ap, ◌∙◌, arith}
use Rattle.std.proofs.lemmas.Result.{err_from_is_err_and}
use Rattle.std.proofs.lemmas.List.{take-append-le}
use Rattle.rv32_core.proofs.TransferLaws.{loads_on, loads_stop_later, loads_stop, loads_over, range-later}
use Rattle.rv32_core.proofs.transfer.load_all.Goals as goal

pub returns-in_err-load_piece-clause-err : goal.returns-in_err-load_piece-clause-err
returns-in_err-load_piece-clause-err g c =
    let p = err_from_is_err_and c.from_residual.result c.from_residual.ensures.1 in
    rw (p.1, p.2) (c.loop-left.invariant.stops _ _
    (loads_stop g.B.Bytes.step c.loop-left.at c.loop-left.left c.piece_length-piece.result c.loop-left.output.items
    c.loop-left-test.true c.piece_length-piece.ensures c.loop-left.memory _ _ c.in_err-load_piece.ensures.err))

pub loop-left-preserved : goal.loop-left-preserved
loop-left-preserved g c =
    let part : c.piece_length-piece.result ≤ c.loop-left.left = omega (arith, c.piece_length-piece.ensures) in
    let one = c.in_ok-load_piece.ensures.ok in
    record {
      base = c.load_piece.ensures.base ∙ c.loop-left.invariant.base;
      size = c.load_piece.ensures.size ∙ c.loop-left.invariant.size;
      range = range-later _ _ c.loop-left.at c.loop-left.left c.piece_length-piece.result _
          c.loop-left.invariant.range part refl;
      len = omega (arith, c.in_ok-load_piece.ensures.len, c.loop-left.invariant.len);
      grown = omega (arith, c.in_ok-load_piece.ensures.len, c.loop-left.invariant.grown);
      room = omega (arith, c.load_piece.ensures.capacity, c.loop-left.invariant.room);
      capacity = omega (arith, c.load_piece.ensures.capacity, c.loop-left.invariant.capacity);
      before = ap (take (vec_len c.args.output.now)) (one.2)
          ∙ take-append-le (vec_len c.args.output.now) c.loop-left.output.items (one.0)
          (omega (arith, c.loop-left.invariant.grown, c.loop-left.output.ok))
          ∙ c.loop-left.invariant.before;
      ready = g.met.B.Bytes.stays_ready _ _ _ _ c.loop-left.invariant.ready (one.1);
      ends = λ new end rest. c.loop-left.invariant.ends new end
          (loads_on g.B.Bytes.step c.loop-left.at c.loop-left.left c.piece_length-piece.result c.loop-left.output.items
          c.loop-left-test.true c.piece_length-piece.ensures c.loop-left.memory c.load_piece.new.memory new
          c.load_piece.new.output.items (one.0) end (one.1) (one.2) rest);
      stops = λ new stop rest. c.loop-left.invariant.stops new stop
          (loads_stop_later g.B.Bytes.step c.loop-left.at c.loop-left.left c.piece_length-piece.result
          c.loop-left.output.items
          c.loop-left-test.true c.piece_length-piece.ensures c.loop-left.memory c.load_piece.new.memory new
          c.load_piece.new.output.items (one.0) stop (one.1) (one.2) rest);
    }

pub returns-clause-ok : goal.returns-clause-ok
returns-clause-ok g c =
    let none : c.loop-left.left ≡ 0 = omega arith in
    c.loop-left.invariant.ends _ _ (loads_over g.B.Bytes.step c.loop-left.at c.loop-left.left c.loop-left.output.items
    c.loop-left.memory none)
