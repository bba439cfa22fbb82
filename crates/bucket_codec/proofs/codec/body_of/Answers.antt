use Rattle.std.proofs.Common.{◌≡◌, ◌-◌, ◌+◌, ◌*◌, ◌<◌, length, None, refl, arith}
use Rattle.std.proofs.lemmas.List.Elements.{All-nil, All-more}
use Rattle.bucket_codec.proofs.Buckets.{body-more}
use Rattle.bucket_codec.specs.Bucket.{body_text}
use Rattle.bucket_codec.specs.Slot.{IsSlot}
use Rattle.bucket_codec.proofs.codec.body_of.Goals as goal

pub loop-place-init : goal.loop-place-init
unfolding body_text
loop-place-init c = record { text = refl; slots = All-nil IsSlot }

pub loop-place-preserved : goal.loop-place-preserved
loop-place-preserved c =
    let place = c.loop-place.place in
    let slots = c.args.slots.now in
    let wide : 92 * place + 92 - 92 * place ≡ 92 = omega arith in
    let inside : place < length slots = omega arith in
    record {
      text =
          rw (wide, c.copy_from_slice.ensures.after)
          (body-more slots c.blank-body.result c.loop-place.body c.slot_text.result place c.loop-place-test.true
          c.told-slots c.blank-body.ensures c.loop-place-test.array_long c.slot_text.ensures.text
          c.loop-place.invariant.text);
      slots = All-more IsSlot slots place None inside c.loop-place.invariant.slots c.slot_text.ensures.typed;
    }
