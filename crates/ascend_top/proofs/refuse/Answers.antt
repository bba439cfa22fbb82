use Rattle.std.proofs.Common.{inl, inr, refl, arith}
use Rattle.std.specs.Prelude.{string_bytes}
use Rattle.ascend_top.specs.Texts.{refusal_text}
use Rattle.ascend_top.specs.declared.refusal.Refusal.TheVariants.{NoMemory}
use Rattle.ascend_top.proofs.EndLaws.{some_text}
use Rattle.ascend_top.proofs.StepLaws.{asks_none}
use Rattle.ascend_top.proofs.refuse.Goals as goal

pub returns-in-Err : goal.returns-in-Err
returns-in-Err g c =
    let state = g.H.Host.state c.args.host.now in (
      NoMemory,
      c.status-in-Err.ensures,
      record {
        same = inr (c.in-Err.ensures.err, refl);
        files = refl;
        later = omega arith;
        asked = asks_none
            state.asked state.asked refl;
        printed = inl refl;
      },
    )

pub returns-in-Err-NoMemory : goal.returns-in-Err-NoMemory
returns-in-Err-NoMemory g c =
    let old = g.H.Host.state c.args.host.now in
    let new = g.H.Host.state c.print.new.self in
    let some = some_text (refusal_text c.args.refusal.now) (string_bytes c.in-Ok-Some.text)
    (rw c.in-Ok-Some.field-0-is at c.in-Ok-Some.ensures.text) in (
      NoMemory,
      c.status-in-Err-NoMemory.ensures,
      record {
        same = inr (some, refl);
        files = c.in-Err-NoMemory.ensures.files;
        later = c.in-Err-NoMemory.ensures.later;
        asked = asks_none old.asked new.asked (rw c.in-Err-NoMemory.field-0-is at c.in-Err-NoMemory.ensures.asked);
        printed = inr some;
      },
    )
