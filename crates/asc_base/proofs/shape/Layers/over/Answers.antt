use Rattle.std.proofs.Common.{◌≡◌, refl, ap, inl, inr, arith}
use Rattle.std.proofs.lemmas.Bool.{cases_lt}
use Rattle.asc_base.specs.Shape.{places_of}
use Rattle.asc_base.specs.TreeShape.{layer_count, layer_first}
use Rattle.asc_base.proofs.ShapeFacts.{top_layer_is}
use Rattle.asc_base.proofs.Stacked.{stacked, stacked_firsts, stacked_counts}
use Rattle.asc_base.proofs.shape.Layers.over.Goals as goal

pub loop-counts-init : goal.loop-counts-init
unfolding places_of layer_first layer_count
loop-counts-init c = record {
  one_of_five = omega arith;
  firsts = refl;
  counts = refl;
  more = λ low below. absurd (omega arith);
}

pub overflow_add-firsts : goal.overflow_add-firsts
overflow_add-firsts c =
    let lists = stacked c.args.lines c.args.roots c.loop-counts.top c.loop-counts.firsts c.loop-counts.counts
    c.requires.lines_to
    c.requires.roots c.loop-counts.invariant.one_of_five c.loop-counts.invariant.firsts
    c.loop-counts.invariant.counts in
    omega (arith, lists.few)

pub bounds-firsts-top-in-loop-counts : goal.bounds-firsts-top-in-loop-counts
bounds-firsts-top-in-loop-counts c =
    let lists = stacked c.args.lines c.args.roots c.loop-counts.top c.loop-counts.firsts c.loop-counts.counts
    c.requires.lines_to
    c.requires.roots c.loop-counts.invariant.one_of_five c.loop-counts.invariant.firsts
    c.loop-counts.invariant.counts in
    omega (arith, lists.more c.loop-counts-test.true)

pub bounds-counts-top-in-loop-counts-3 : goal.bounds-counts-top-in-loop-counts-3
bounds-counts-top-in-loop-counts-3 c =
    let lists = stacked c.args.lines c.args.roots c.loop-counts.top c.loop-counts.firsts c.loop-counts.counts
    c.requires.lines_to
    c.requires.roots c.loop-counts.invariant.one_of_five c.loop-counts.invariant.firsts
    c.loop-counts.invariant.counts in
    omega (arith, lists.more c.loop-counts-test.true)

pub loop-counts-preserved : goal.loop-counts-preserved
loop-counts-preserved c =
    let lists = stacked c.args.lines c.args.roots c.loop-counts.top c.loop-counts.firsts c.loop-counts.counts
    c.requires.lines_to
    c.requires.roots c.loop-counts.invariant.one_of_five c.loop-counts.invariant.firsts
    c.loop-counts.invariant.counts in
    let below = lists.more c.loop-counts-test.true in
    record {
      one_of_five = omega arith;
      firsts = stacked_firsts c.args.lines c.loop-counts.top _ c.loop-counts.firsts below
          c.loop-counts.invariant.firsts lists.next;
      counts = stacked_counts c.args.lines c.loop-counts.top _ c.div_ceil.result c.loop-counts.counts below
          c.loop-counts.invariant.counts lists.count c.div_ceil.ensures;
      more = λ low within. elim (cases_lt low c.loop-counts.top) [
        | inl earlier ↦ c.loop-counts.invariant.more low earlier
        | inr last ↦
            (let same : low ≡ c.loop-counts.top = omega arith in
            omega (arith, ap (layer_count c.args.lines) same, lists.count, c.loop-counts-test.true))
      ];
    }

pub overflow_add-total : goal.overflow_add-total
overflow_add-total c =
    let lists = stacked c.args.lines c.args.roots c.loop-counts.top c.loop-counts.firsts c.loop-counts.counts
    c.requires.lines_to
    c.requires.roots c.loop-counts.invariant.one_of_five c.loop-counts.invariant.firsts
    c.loop-counts.invariant.counts in
    omega (arith, lists.few)

pub returns-clause-layers : goal.returns-clause-layers
returns-clause-layers c =
    let lists = stacked c.args.lines c.args.roots c.loop-counts.top c.loop-counts.firsts c.loop-counts.counts
    c.requires.lines_to
    c.requires.roots c.loop-counts.invariant.one_of_five c.loop-counts.invariant.firsts
    c.loop-counts.invariant.counts in
    omega (
      arith,
      top_layer_is c.args.lines c.args.roots c.loop-counts.top c.requires.lines_from c.requires.roots
          (omega (arith, lists.count, c.loop-counts-test.false)) c.loop-counts.invariant.more,
    )

pub returns-clause-total : goal.returns-clause-total
returns-clause-total c =
    (stacked c.args.lines c.args.roots c.loop-counts.top c.loop-counts.firsts c.loop-counts.counts c.requires.lines_to
    c.requires.roots c.loop-counts.invariant.one_of_five c.loop-counts.invariant.firsts
    c.loop-counts.invariant.counts).next

pub returns-clause-few : goal.returns-clause-few
returns-clause-few c =
    (stacked c.args.lines c.args.roots c.loop-counts.top c.loop-counts.firsts c.loop-counts.counts c.requires.lines_to
    c.requires.roots c.loop-counts.invariant.one_of_five c.loop-counts.invariant.firsts
    c.loop-counts.invariant.counts).few
