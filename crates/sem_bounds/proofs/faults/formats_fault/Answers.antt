use Rattle.std.proofs.Common.{◌∙◌, ap, List}
use Rattle.std.specs.Prelude.{slice_get, Option}
use Rattle.std.specs.Option.{option_copied}
use Rattle.sem_expr.specs.declared.interval.Interval.{Interval}
use Rattle.sem_profile.specs.declared.profile.FormatSizes.{FormatSizes}
use Rattle.sem_profile.specs.Precedence.{earlier}
use Rattle.sem_profile.specs.BoundsFaults.{sized_fault}
use Rattle.sem_profile.proofs.PassesPlaces.{folded-step}
use Rattle.sem_bounds.proofs.faults.formats_fault.Goals as goal

pub loop-format-preserved : goal.loop-format-preserved
loop-format-preserved c =
    let sizes = c.args.sizes.now in
    let format = c.format-item.result in
    folded-step (λ n o f. earlier o (sized_fault c.args.extent sizes.parameters f (slice_get sizes.formats n))) _ _ _ _ _ _ _ _ c.as_slice-format-items.ensures c.loop-format-test.true c.format-item.is
    c.loop-format.invariant
    (c.earlier-found.ensures
    ∙ ap (earlier c.loop-format.found)
    (c.in_ok-fault.ensures {u = tt} ∙ ap (λ (ps : List Interval). sized_fault c.args.extent ps format (option_copied c.at-sized.result)) c.as_slice-in-loop-format.ensures
    ∙ ap (λ (s : Option FormatSizes). sized_fault c.args.extent sizes.parameters format s) c.at-sized.ensures
    ∙ ap (λ (fs : List FormatSizes). sized_fault c.args.extent sizes.parameters format (slice_get fs c.loop-format.place)) c.as_slice.ensures))
