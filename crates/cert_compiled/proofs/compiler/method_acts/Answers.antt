use Rattle.std.proofs.Common.{◌≡◌, ◌+◌, refl, sym, subst, ℕ, length, rules}
use Rattle.std.specs.Prelude.{slice_get, option_and_then}
use Rattle.std.specs.Option.{option_copied}
use Rattle.std.proofs.lemmas.Option.{slice_get_read}
use Rattle.sem_profile.specs.declared.profile.Format.{Format}
use Rattle.sem_profile.specs.declared.profile.MethodSizes.{MethodSizes}
use Rattle.cert_compiled.specs.declared.operations.CompiledPlan.{CompiledPlan}
use Rattle.cert_compiled.specs.Compiled.{ArePlansOf, IsPlanOf}
use Rattle.cert_compiled.proofs.Growing.{each_next, length_next}
use Rattle.cert_compiled.proofs.compiler.method_acts.Goals as goal

pub loop-index-preserved : goal.loop-index-preserved
loop-index-preserved c =
    let i = c.loop-index.index in
    let sizes = option_copied c.args.sizes in
    let so_far = c.loop-index.invariant in
    let here = slice_get_read c.args.formats.now _ i c.index-formats-index.result refl (search rules) c.index-formats-index.is in
    let plan = subst (λ z. IsPlanOf c.index-formats-index.result z c.in_ok-plan.plan) c.format_sizes-own.ensures c.in_ok-plan.ensures in (
      subst (λ z. length z ≡ i + 1) (sym c.in_ok-push.ensures.ok) (length_next c.loop-index.all c.in_ok-plan.plan i so_far.0),
      subst (ArePlansOf c.args.formats.now sizes) (sym c.in_ok-push.ensures.ok)
          (each_next (λ (n : ℕ) (f : Format) (p : CompiledPlan). IsPlanOf f (option_and_then (λ (s : MethodSizes). slice_get s.formats n) sizes) p) c.args.formats.now c.loop-index.all i c.index-formats-index.result c.in_ok-plan.plan so_far.0 here plan so_far.1),
    )

pub returns : goal.returns
returns c = c.loop-index.invariant.1
