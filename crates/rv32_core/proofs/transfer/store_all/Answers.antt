use Rattle.std.proofs.Common.{◌≡◌, ◌-◌, ◌<◌, ◌≤◌, length, [], ◌∙◌, arith}
use Rattle.std.proofs.lemmas.Result.{err_from_is_err_and}
use Rattle.rv32_core.proofs.TransferLaws.{stores_on, stores_stop_later, stores_stop, stores_over, range-later}
use Rattle.rv32_core.proofs.transfer.store_all.Goals as goal

pub returns-in_err-store-clause-err : goal.returns-in_err-store-clause-err
returns-in_err-store-clause-err g c =
    let some : 0 < length c.loop-rest.rest.now = grind arith in
    let p = err_from_is_err_and c.from_residual.result c.from_residual.ensures.1 in
    rw (p.1, p.2) (c.loop-rest.invariant.stops _ _
    (stores_stop g.B.Bytes.step c.loop-rest.at c.piece_length-count.result c.loop-rest.rest.now
    c.split_at.result.0.now c.split_at.result.1.now
    some c.piece_length-count.ensures c.split_at.ensures.front c.split_at.ensures.back c.loop-rest.memory _ _
    c.in_err-store.ensures))

pub loop-rest-preserved : goal.loop-rest-preserved
loop-rest-preserved g c =
    let some : 0 < length c.loop-rest.rest.now = grind arith in
    let part : c.piece_length-count.result ≤ length c.loop-rest.rest.now = omega
    (arith, c.piece_length-count.ensures) in
    let left : length c.split_at.result.1.now ≡ length c.loop-rest.rest.now - c.piece_length-count.result = omega
    (arith, c.split_at.ensures.back_len) in
    record {
      base = g.met.B.Bytes.keeps_base _ _ _ _ c.in_ok-store.ensures ∙ c.loop-rest.invariant.base;
      size = g.met.B.Bytes.keeps_size _ _ _ _ c.in_ok-store.ensures ∙ c.loop-rest.invariant.size;
      range = range-later _ _ c.loop-rest.at (length c.loop-rest.rest.now) c.piece_length-count.result
          (length c.split_at.result.1.now) c.loop-rest.invariant.range part left;
      ready = g.met.B.Bytes.stays_ready _ _ _ _ c.loop-rest.invariant.ready c.in_ok-store.ensures;
      ends = λ new rest. c.loop-rest.invariant.ends new
          (stores_on g.B.Bytes.step c.loop-rest.at c.piece_length-count.result c.loop-rest.rest.now
          c.split_at.result.0.now c.split_at.result.1.now
          some c.piece_length-count.ensures c.split_at.ensures.front c.split_at.ensures.back c.loop-rest.memory
          c.store.new.self new [] c.in_ok-store.ensures rest);
      stops = λ new stop rest. c.loop-rest.invariant.stops new stop
          (stores_stop_later g.B.Bytes.step c.loop-rest.at c.piece_length-count.result c.loop-rest.rest.now
          c.split_at.result.0.now c.split_at.result.1.now
          some c.piece_length-count.ensures c.split_at.ensures.front c.split_at.ensures.back c.loop-rest.memory
          c.store.new.self new [] stop c.in_ok-store.ensures rest);
    }

pub returns-clause-ok : goal.returns-clause-ok
returns-clause-ok g c =
    let none : length c.loop-rest.rest.now ≡ 0 = grind arith in
    c.loop-rest.invariant.ends _ (stores_over g.B.Bytes.step c.loop-rest.at c.loop-rest.rest.now
    c.loop-rest.memory none)
