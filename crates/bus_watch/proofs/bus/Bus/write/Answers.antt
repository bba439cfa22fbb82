use Rattle.std.proofs.Common.{Err, None, Some, length, refl, ◌∙◌, ap, arith, slice_set}
use Rattle.std.proofs.Math.ListN.{length-set}
use Rattle.bus_watch.proofs.CallLaws.{write_of, move_failed, move_out, written}
use Rattle.bus_watch.proofs.TiedLaws.{gains_kept}
use Rattle.bus_watch.proofs.bus.Bus.write.Goals as goal

pub returns-in-Err-Failed-clause-ran : goal.returns-in-Err-Failed-clause-ran
returns-in-Err-Failed-clause-ran g c = record {
  same = record { memory = refl; tap = refl };
  made = move_failed (write_of c.args.time c.args.bucket None)
      (record {
        moved = c.write.ensures.moved;
        count = c.write.ensures.count;
        link = c.write.ensures.link;
        later = c.write.ensures.later;
        seen = c.in-Err-Failed.ensures.seen_err;
        said = gains_kept _ _ c.write.ensures.said;
      })
      (record {
        log = c.moved.ensures.log;
        takes = record {
          room = c.moved.ensures.spare;
          event_room = c.moved.ensures.events;
          mirrored = ap length c.moved.ensures.mirror;
        };
      })
      c.moved.ensures.mirror refl c.in-Err-Failed.ensures.told_err
      (c.in-Err-Failed.ensures.cause (ap Err c.in-Err-Failed.field-0-is));
}

pub returns-in-Err-NoMemory-clause-ran : goal.returns-in-Err-NoMemory-clause-ran
returns-in-Err-NoMemory-clause-ran g c = record {
  same = record { memory = refl; tap = refl };
  made = move_out (write_of c.args.time c.args.bucket None)
      (record {
        moved = c.write.ensures.moved;
        count = c.write.ensures.count;
        link = c.write.ensures.link;
        later = c.write.ensures.later;
        seen = c.in-Err-NoMemory.ensures.seen_err;
        said = gains_kept _ _ c.write.ensures.said;
      })
      (record {
        log = c.moved.ensures.log;
        takes = record {
          room = c.moved.ensures.spare;
          event_room = c.moved.ensures.events;
          mirrored = ap length c.moved.ensures.mirror;
        };
      })
      c.moved.ensures.mirror;
}

pub returns-in-Ok-written-clause-ran : goal.returns-in-Ok-written-clause-ran
returns-in-Ok-written-clause-ran g c = record {
  same = record { memory = refl; tap = refl };
  made = written c.args.time c.args.bucket c.args.bytes.now
      (record {
        moved = c.write.ensures.moved;
        count = c.write.ensures.count;
        link = c.write.ensures.link;
        later = c.write.ensures.later;
        seen = c.in-Ok.ensures.seen;
        said = gains_kept _ _ c.write.ensures.said;
      })
      (record {
        log = c.written.ensures.log ∙ c.moved.ensures.log;
        takes = record {
          room = omega (arith, c.written.ensures.moves, c.moved.ensures.spare);
          event_room = c.written.ensures.events ∙ c.moved.ensures.events;
          mirrored = ap length c.in-Ok-written.ensures.mirror ∙ simp length-set (ap length c.moved.ensures.mirror);
        };
      })
      (c.in-Ok-written.ensures.mirror ∙ ap (λ l. slice_set l c.args.bucket c.args.bytes.now) c.moved.ensures.mirror)
      c.in-Ok.ensures.told;
}

pub returns-in-Err-clause-ran : goal.returns-in-Err-clause-ran
returns-in-Err-clause-ran g c = record {
  same = record { memory = refl; tap = refl };
  made = move_out (write_of c.args.time c.args.bucket (Some c.args.bytes.now))
      (record {
        moved = c.write.ensures.moved;
        count = c.write.ensures.count;
        link = c.write.ensures.link;
        later = c.write.ensures.later;
        seen = c.in-Ok.ensures.seen;
        said = gains_kept _ _ c.write.ensures.said;
      })
      (record {
        log = c.written.ensures.log ∙ c.moved.ensures.log;
        takes = record {
          room = omega (arith, c.written.ensures.moves, c.moved.ensures.spare);
          event_room = c.written.ensures.events ∙ c.moved.ensures.events;
          mirrored = ap length (c.in-Err.ensures.err ∙ c.moved.ensures.mirror);
        };
      })
      (c.in-Err.ensures.err ∙ c.moved.ensures.mirror);
}
