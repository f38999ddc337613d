use Rattle.std.proofs.Common.{◌∙◌, sym, ap, length, arith}
use Rattle.std.proofs.lemmas.List.{length-set}
use Rattle.std.proofs.lemmas.Option.{slice_get-get_or, slice_get_within}
use Rattle.cert_trees.proofs.Counting.{no_method, one_more, all_counted}
use Rattle.cert_trees.proofs.counts.count_candidates.Goals as goal

pub loop-index-preserved-in_default : goal.loop-index-preserved-in_default
loop-index-preserved-in_default c = record {
  count = c.loop-index.invariant.count;
  counted =
      no_method c.args.methods.now c.args.entries.now c.args.order.now c.loop-index.index-index _ c.loop-index.found (slice_get-get_or c.args.order.now c.loop-index.index-index _ c.loop-index-test.true) (sym c.in_default.ensures)
      c.loop-index.invariant.counted;
}

pub set-requires : goal.set-requires
set-requires c =
    let within = slice_get_within c.args.methods.now _ c.in-Some.method.now (sym c.in-Some.ensures) in
    omega (arith, within, c.loop-index.invariant.count)

pub loop-index-preserved : goal.loop-index-preserved
loop-index-preserved c = record {
  count = ap length c.set.ensures ∙ (length-set c.loop-index.found _ _ ∙ c.loop-index.invariant.count);
  counted =
      let so = c.loop-index.invariant.counted in
      let count = c.in_ok-count.ensures so.counts (c.as_slice.ensures ∙ so.each) in
      one_more c.args.methods.now c.args.entries.now c.args.order.now c.requires c.loop-index.index-index _ c.in-Some.method.now (slice_get-get_or c.args.order.now c.loop-index.index-index _ c.loop-index-test.true) (sym c.in-Some.ensures)
      c.loop-index.found c.set.new.self c.in_ok-count.count so count c.set.ensures;
}

pub returns : goal.returns
returns c = all_counted c.args.methods.now c.args.entries.now c.args.order.now c.loop-index.index-index c.loop-index.found c.requires c.loop-index-test.false c.loop-index.invariant.counted
