use Rattle.std.proofs.Common.{arith}
use Rattle.std.proofs.lemmas.Grind.{common_steps}
use Rattle.rv32_asm.proofs.QuotedLaws.{one_more}
use Rattle.rv32_asm.proofs.quoted.unescaped_length.Goals as goal

pub loop-byte-preserved-then-is_escaped : goal.loop-byte-preserved-then-is_escaped
loop-byte-preserved-then-is_escaped c = record {
  count = one_more c.args.text.now c.loop-byte.byte-index c.loop-byte.count _ c.loop-byte.is_escaped
      (grind (arith, common_steps)) (grind (arith, common_steps)) c.loop-byte.invariant.count;
  within = grind (arith, common_steps);
}
