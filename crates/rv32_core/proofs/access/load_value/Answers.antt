use Rattle.std.proofs.Common.{◌*◌, ◌<◌, ◌^◌, sym, ap, subst, ◌∙◌}
use Rattle.std.specs.Int.{from_le_bytes, w32}
use Rattle.rv32_table.specs.Meaning.{load_width, load_meaning}
use Rattle.rv32_core.specs.Access.{Load, IsAnswer}
use Rattle.rv32_core.proofs.AccessLaws.{loaded-is, loaded-below}
use Rattle.rv32_core.proofs.access.load_value.Goals as goal

pub extend-requires : goal.extend-requires
extend-requires g c =
    let op = c.args.op in
    let (loaded, one, word) = c.in_ok-word.ensures.ok in
    let answer : IsAnswer (Load c.args.address (load_width op)) loaded =
    g.met.B.Bytes.answers c.args.bytes.now c.load_word.new.bytes (Load c.args.address (load_width op)) loaded one in
    subst (λ n. n < 2 ^ (8 * load_width op))
    (sym (c.from_le_bytes.ensures ∙ ap (from_le_bytes w32) word ∙ loaded-is op c.args.address loaded answer))
    (loaded-below op c.args.address loaded answer)

pub returns-clause-ok : goal.returns-clause-ok
returns-clause-ok g c =
    let op = c.args.op in
    let (loaded, one, word) = c.in_ok-word.ensures.ok in
    let answer : IsAnswer (Load c.args.address (load_width op)) loaded =
    g.met.B.Bytes.answers c.args.bytes.now c.load_word.new.bytes (Load c.args.address (load_width op)) loaded one in (
      loaded,
      one,
      c.extend.ensures
          ∙ ap (load_meaning op) (c.from_le_bytes.ensures
          ∙ ap (from_le_bytes w32) word ∙ loaded-is op c.args.address loaded answer),
    )
