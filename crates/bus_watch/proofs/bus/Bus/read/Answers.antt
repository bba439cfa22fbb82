use Rattle.std.proofs.Common.{None, Some, length, refl, ◌∙◌, ap, arith}
use Rattle.bus_watch.proofs.CallLaws.{read_of, move_failed, move_out, reply_noted, replied}
use Rattle.bus_watch.proofs.bus.Bus.read.Goals as goal

pub returns-in-Err-clause-ran : goal.returns-in-Err-clause-ran
returns-in-Err-clause-ran g c = record {
  same = record { memory = refl; tap = refl };
  made = move_failed (read_of c.args.time c.args.bucket None)
      (record {
        moved = c.read.ensures.moved;
        count = c.read.ensures.count;
        link = c.read.ensures.link;
        later = c.read.ensures.later;
        seen = c.read.ensures.seen;
        said = c.in-Err.ensures.said_err;
      })
      (record {
        log = c.moved.ensures.log;
        takes = record {
          room = c.moved.ensures.spare;
          event_room = c.moved.ensures.events;
          mirrored = ap length c.moved.ensures.mirror;
        };
      })
      c.moved.ensures.mirror refl c.in-Err.ensures.told_err c.in-Err.ensures.cause;
}

pub returns-in-Ok-replied-clause-ran : goal.returns-in-Ok-replied-clause-ran
returns-in-Ok-replied-clause-ran g c = record {
  same = record { memory = refl; tap = refl };
  made = replied c.args.time c.args.bucket c.read.new.into
      (record {
        moved = c.read.ensures.moved;
        count = c.read.ensures.count;
        link = c.read.ensures.link;
        later = c.read.ensures.later;
        seen = c.read.ensures.seen;
        said = c.in-Ok.ensures.said;
      })
      (record {
        room = omega (arith, c.replied.ensures.moves, c.moved.ensures.spare);
        event_room = c.replied.ensures.events ∙ c.moved.ensures.events;
        mirrored = ap length (c.replied.ensures.mirror ∙ c.moved.ensures.mirror);
      })
      (reply_noted (g.W.Watch.state c.args.self.now.tap.now) (g.W.Watch.state c.moved.new.self) _
      c.args.time c.args.bucket c.read.new.into c.moved.ensures.log c.moved.ensures.mirror c.in-Ok-replied.ensures.log)
      (c.replied.ensures.mirror ∙ c.moved.ensures.mirror) c.in-Ok.ensures.told c.in-Ok.ensures.bytes;
}

pub returns-in-Err-replied-clause-ran : goal.returns-in-Err-replied-clause-ran
returns-in-Err-replied-clause-ran g c = record {
  same = record { memory = refl; tap = refl };
  made = move_out (read_of c.args.time c.args.bucket (Some c.read.new.into))
      (record {
        moved = c.read.ensures.moved;
        count = c.read.ensures.count;
        link = c.read.ensures.link;
        later = c.read.ensures.later;
        seen = c.read.ensures.seen;
        said = c.in-Ok.ensures.said;
      })
      (record {
        log = c.in-Err-replied.ensures.err ∙ c.moved.ensures.log;
        takes = record {
          room = omega (arith, c.replied.ensures.moves, c.moved.ensures.spare);
          event_room = c.replied.ensures.events ∙ c.moved.ensures.events;
          mirrored = ap length (c.replied.ensures.mirror ∙ c.moved.ensures.mirror);
        };
      })
      (c.replied.ensures.mirror ∙ c.moved.ensures.mirror);
}
