use Rattle.std.proofs.Common.{◌≡◌, ◌+◌, max, arith, rules, sym, refl, get_or}
use Rattle.cert_types.specs.declared.certificate.Node.TheVariants.{Bit}
use Rattle.cert_tables.proofs.Sized.{at_front, cover_on, cover_off}
use Rattle.cert_tables.proofs.windows.width_after.Goals as goal

pub loop-trees-preserved-in-Some : goal.loop-trees-preserved-in-Some
loop-trees-preserved-in-Some c =
    let here = at_front c.args.nodes.now c.loop-trees.at (Bit 0) (get_or c.args.nodes.now c.loop-trees.at (Bit 0)) c.if-at-nodes.true refl in
    let on = cover_on c.args.offset c.loop-trees.trees c.loop-trees.at c.args.nodes.now (get_or c.args.nodes.now c.loop-trees.at (Bit 0)) here c.loop-trees-test.true c.in-Some.ahead (sym c.in-Some.ensures) in
    let wide : c.max-width.result ≡ max c.loop-trees.width (c.in-Some.ahead + 1) = (search rules) in
    record {
      wide = omega (arith, wide, on, c.loop-trees.invariant.wide);
      few = omega (arith, c.loop-trees.invariant.few);
      within = omega (arith, c.if-at-nodes.true);
    }

pub loop-trees-preserved : goal.loop-trees-preserved
loop-trees-preserved c =
    let here = at_front c.args.nodes.now c.loop-trees.at (Bit 0) (get_or c.args.nodes.now c.loop-trees.at (Bit 0)) c.if-at-nodes.true refl in
    let off =
    cover_off c.args.offset c.loop-trees.trees c.loop-trees.at c.args.nodes.now (get_or c.args.nodes.now c.loop-trees.at (Bit 0)) here c.loop-trees-test.true c.second-at.result (sym c.in-None.ensures)
    c.second-at.ensures.value in
    record {
      wide = omega (arith, off, c.loop-trees.invariant.wide);
      few = omega (arith, c.loop-trees.invariant.few, c.second-at.ensures.value);
      within = c.second-at.ensures.within;
    }
