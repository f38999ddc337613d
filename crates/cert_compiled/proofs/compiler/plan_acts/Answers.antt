use Rattle.std.proofs.Common.{◌≡◌, ◌+◌, refl, sym, subst, ℕ, List, length, rules}
use Rattle.std.specs.Prelude.{slice_get}
use Rattle.std.proofs.lemmas.Option.{slice_get_read}
use Rattle.sem_profile.specs.declared.profile.Method.{Method}
use Rattle.cert_compiled.specs.declared.operations.CompiledPlan.{CompiledPlan}
use Rattle.cert_compiled.specs.Compiled.{AreCompiled, ArePlansOf}
use Rattle.cert_compiled.proofs.Growing.{each_next, length_next}
use Rattle.cert_compiled.proofs.compiler.plan_acts.Goals as goal

pub loop-k-preserved : goal.loop-k-preserved
loop-k-preserved c =
    let k = c.loop-k.k in
    let table = c.args.table.now in
    let so_far = c.loop-k.invariant in
    let here = slice_get_read c.args.methods.now _ k c.index-methods-k.result refl (search rules) c.index-methods-k.is in
    let acts = subst (λ z. ArePlansOf c.index-methods-k.result.formats z c.in_ok-acts.acts) c.at.ensures c.in_ok-acts.ensures in (
      subst (λ z. length z ≡ k + 1) (sym c.in_ok-push.ensures.ok) (length_next c.loop-k.all c.in_ok-acts.acts k so_far.0),
      subst (AreCompiled c.args.methods.now table) (sym c.in_ok-push.ensures.ok)
          (each_next (λ (n : ℕ) (m : Method) (ps : List CompiledPlan). ArePlansOf m.formats (slice_get table n) ps) c.args.methods.now c.loop-k.all k c.index-methods-k.result c.in_ok-acts.acts so_far.0 here acts so_far.1),
    )

pub returns : goal.returns
returns c = c.loop-k.invariant.1
