use Rattle.std.proofs.Common.{◌∙◌, sym, ap}
use Rattle.std.specs.Prelude.{slice_get}
use Rattle.walk_steps.proofs.FindingMeasures.{all_asked, method_counts}
use Rattle.walk_steps.proofs.length.method_length.Goals as goal

pub method_count-requires-clause-asked : goal.method_count-requires-clause-asked
method_count-requires-clause-asked c =
    let at = ap (λ z. slice_get z.fields c.args.field) (sym c.format.ensures) ∙ sym c.in-Some.ensures.value in
    all_asked c.args.level.now c.args.field c.in-Some.coded.now c.in-Library.library at (sym c.get-2.ensures ∙ c.in-Library.is)

pub learn_count-requires-clause-counts : goal.learn_count-requires-clause-counts
learn_count-requires-clause-counts c =
    let at = ap (λ z. slice_get z.fields c.args.field) (sym c.format.ensures) ∙ sym c.in-Some.ensures.value in
    method_counts c.args.level_frame.now c.args.level.now c.args.field c.args.side c.in-Some.coded.now c.in-Library.library c.in_ok-count.count at (sym c.get-2.ensures ∙ c.in-Library.is) c.requires.ready c.in_ok-count.ensures
