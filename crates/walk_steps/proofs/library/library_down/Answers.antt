use Rattle.std.proofs.Common.{◌∙◌, sym, ap}
use Rattle.std.specs.Prelude.{slice_get}
use Rattle.walk_steps.proofs.FindingMeasures.{all_asked}
use Rattle.walk_steps.proofs.FindingSides.{down_finds}
use Rattle.walk_steps.proofs.library.library_down.Goals as goal

pub downward-requires-clause-asked : goal.downward-requires-clause-asked
downward-requires-clause-asked c =
    let at = ap (λ z. slice_get z.fields c.args.field) (sym c.format.ensures) ∙ sym c.in-Some.ensures.value in
    all_asked c.args.level.now c.args.field c.in-Some.coded.now c.in-Library.library at (sym c.get-2.ensures ∙ c.in-Library.is)

pub learn_bits-requires-clause-finds : goal.learn_bits-requires-clause-finds
learn_bits-requires-clause-finds c =
    let at = ap (λ z. slice_get z.fields c.args.field) (sym c.format.ensures) ∙ sym c.in-Some.ensures.value in
    down_finds c.args.level_frame.now c.args.level.now c.args.field c.in-Some.coded.now c.in-Library.library c.in_ok-found.found c.keeps.ensures c.keeps-2.ensures c.requires.at at (sym c.get-2.ensures ∙ c.in-Library.is) c.requires.ready
    c.in_ok-found.ensures
