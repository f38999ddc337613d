use Rattle.std.proofs.Common.{◌∙◌, ap, refl}
use Rattle.std.specs.Prelude.{slice_get, Option}
use Rattle.sem_profile.specs.declared.profile.MethodSizes.{MethodSizes}
use Rattle.sem_profile.specs.Precedence.{earlier}
use Rattle.sem_profile.specs.BoundsFaults.{method_fault}
use Rattle.sem_profile.proofs.PassesPlaces.{folded-step}
use Rattle.sem_bounds.proofs.faults.methods_fault.Goals as goal

pub loop-method-preserved : goal.loop-method-preserved
loop-method-preserved c =
    folded-step (λ i o m. earlier o (method_fault c.args.extent m (slice_get c.args.table.now i))) _ _ _ _ _ _ _ _ refl c.loop-method-test.true c.method-item.is
    c.loop-method.invariant
    (c.earlier-found.ensures ∙ ap (earlier c.loop-method.found) (c.in_ok-fault.ensures {u = tt} ∙ ap (λ (e : Option MethodSizes). method_fault c.args.extent c.method-item.result e) c.at.ensures))
