use Rattle.std.proofs.Common.{◌∙◌, sym, ap}
use Rattle.std.specs.Prelude.{slice_get}
use Rattle.walk_steps.proofs.FindingMeasures.{all_asked}
use Rattle.walk_steps.proofs.FindingSides.{up_finds}
use Rattle.walk_steps.proofs.library.library_up.Goals as goal

pub upward-requires-clause-asked : goal.upward-requires-clause-asked
upward-requires-clause-asked c =
    let at = ap (λ z. slice_get z.fields c.args.field) (sym c.format.ensures) ∙ sym c.in-Some.ensures.value in
    all_asked c.args.level.now c.args.field c.in-Some.coded.now c.in-Library.library at (sym c.get-2.ensures ∙ c.in-Library.is)

pub learn_bits-requires-clause-finds : goal.learn_bits-requires-clause-finds
learn_bits-requires-clause-finds c =
    let at = ap (λ z. slice_get z.fields c.args.field) (sym c.format.ensures) ∙ sym c.in-Some.ensures.value in
    up_finds c.args.level_frame.now c.args.level.now c.args.field c.in-Some.coded.now c.in-Library.library c.in_ok-found.found at (sym c.get-2.ensures ∙ c.in-Library.is) c.requires.ready c.in_ok-found.ensures
