use Rattle.std.proofs.Common.{sym, refl, arith}
use Rattle.std.proofs.lemmas.Option.{slice_get_read}
use Rattle.cert_trees.proofs.Counting.{formats_more, entries_done, formats_done}
use Rattle.cert_trees.proofs.counts.formats_count.Goals as goal

pub returns-in_default : goal.returns-in_default
returns-in_default c = λ exact is.
    entries_done exact c.args.formats.now c.args.entries.now c.loop-place.place c.loop-place.total _ (sym c.in_default.ensures) c.loop-place.invariant.small (c.loop-place.invariant.counted exact is)

pub loop-place-preserved : goal.loop-place-preserved
loop-place-preserved c =
    let here = slice_get_read c.args.formats.now _ c.loop-place.place c.index-formats-place.result refl c.loop-place-test.true c.index-formats-place.is in
    record {
      small = omega (arith, c.saturating_add-total.ensures);
      counted = λ exact is.
          formats_more exact c.args.formats.now c.args.entries.now c.loop-place.place c.index-formats-place.result c.in-Some.entry.now c.loop-place.total c.saturating_add-total.result c.in_ok-count.count _
          here (sym c.in-Some.ensures) (c.in_ok-count.ensures exact is) c.saturating_add-total.ensures (c.loop-place.invariant.counted exact is);
    }

pub returns : goal.returns
returns c = λ exact is. formats_done exact c.args.formats.now c.args.entries.now c.loop-place.place c.loop-place.total _ c.loop-place-test.false c.loop-place.invariant.small (c.loop-place.invariant.counted exact is)
