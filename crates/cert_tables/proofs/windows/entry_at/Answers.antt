use Rattle.std.proofs.Common.{sym, ◌∙◌, ap}
use Rattle.std.specs.Prelude.{Some}
use Rattle.cert_types.specs.declared.certificate.Node.TheVariants.{Bit}
use Rattle.cert_tables.proofs.Sized.{entry_one, at_front}
use Rattle.cert_tables.proofs.windows.entry_at.Goals as goal

pub loop-at-preserved-then-is_one : goal.loop-at-preserved-then-is_one
loop-at-preserved-then-is_one c =
    let here = at_front c.args.nodes.now c.loop-at.at _ (Bit c.in-Bit.tested) c.loop-at-test.true c.in-Bit.is in
    let is_one = sym c.seen.ensures ∙ (c.in-Some.is ∙ ap Some c.if-is_one.true) in
    record {
      on_the_way =
          entry_one c.args.window.width c.args.window.offset c.args.number c.args.nodes.now c.loop-at.at c.in-Bit.tested here c.second-at.result is_one c.second-at.ensures.value ∙
          c.loop-at.invariant.on_the_way;
      within = c.second-at.ensures.within;
    }
