use Rattle.std.proofs.Common.{◌∙◌, ap}
use Rattle.std.specs.Prelude.{slice_get}
use Rattle.sem_profile.specs.Parameters.{with_format}
use Rattle.sem_profile.proofs.PassesPlaces.{folded-step}
use Rattle.sem_bounds.proofs.parameters.with_method.Goals as goal

pub loop-format-preserved : goal.loop-format-preserved
loop-format-preserved c =
    let parameters = c.args.parameters.now in
    let k = c.args.method in
    folded-step (λ n o format. with_format parameters k o format (slice_get c.args.formats.now n)) _ _ _ _ _ _ _ _ c.as_slice-format-items.ensures c.loop-format-test.true c.format-item.is
    c.loop-format.invariant (c.in_ok-all.ensures {u = tt} ∙ ap (with_format parameters k c.loop-format.all c.format-item.result) c.at.ensures)
