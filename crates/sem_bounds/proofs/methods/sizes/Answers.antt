use Rattle.std.proofs.Common.{List, subst, sym}
use Rattle.sem_profile.specs.Precedence.{Judged}
use Rattle.sem_profile.specs.declared.profile.MethodSizes.{MethodSizes}
use Rattle.sem_profile.specs.declared.extent.Extent.TheVariants.{Whole, Known}
use Rattle.sem_profile.specs.Methods.{ArePacked}
use Rattle.sem_profile.specs.Outcome.{IsFine, IsFaulty}
use Rattle.sem_bounds.proofs.MethodsEarliest.{are-sizes}
use Rattle.sem_bounds.proofs.CallersAgreeing.{fine-by-all, not-fine}
use Rattle.sem_bounds.proofs.WeightsLemmas.{are-packed}
use Rattle.sem_bounds.proofs.methods.sizes.Goals as goal

pub earliest-requires : goal.earliest-requires
earliest-requires c =
    let methods = c.args.methods.now in
    subst (λ (t : List MethodSizes). ArePacked methods t) (sym c.as_slice.ensures.value)
    (are-packed methods c.args.order.now c.in_ok-table.table.items c.requires.order c.requires.light c.in_ok-table.ensures.sized)

pub returns-in_default-clause-ok : goal.returns-in_default-clause-ok
returns-in_default-clause-ok c =
    let methods = c.args.methods.now in
    let judged = subst (λ (t : List MethodSizes). Judged (IsFine Whole methods t) (IsFaulty Whole methods t) c.in_ok-earliest.field-0) c.as_slice.ensures.value (c.in_ok-earliest.ensures {u = tt}) in
    rw c.from_vec.ensures
    (are-sizes methods c.args.order.now c.in_ok-table.table.items c.requires.order c.in_ok-table.ensures.sized c.in_ok-table.ensures.ranged (judged.fine c.in_default.is))

pub earliest-requires-2 : goal.earliest-requires-2
earliest-requires-2 c =
    let methods = c.args.methods.now in
    subst (λ (t : List MethodSizes). ArePacked methods t) (sym c.as_slice-2.ensures.value)
    (are-packed methods c.args.order.now c.in_ok-known.known.items c.requires.order c.requires.light c.in_ok-known.ensures.sized)

pub unreachable-requires : goal.unreachable-requires
unreachable-requires c =
    let methods = c.args.methods.now in
    let whole = subst (λ (t : List MethodSizes). Judged (IsFine Whole methods t) (IsFaulty Whole methods t) c.in_ok-earliest.field-0) c.as_slice.ensures.value (c.in_ok-earliest.ensures {u = tt}) in
    let known = subst (λ (t : List MethodSizes). Judged (IsFine Known methods t) (IsFaulty Known methods t) c.in_ok-fault.field-0) c.as_slice-2.ensures.value (c.in_ok-fault.ensures {u = tt}) in
    not-fine methods c.in_ok-table.table.items c.in-Some.field-0 (whole.cause c.in-Some.field-0 c.in-Some.is)
    (fine-by-all methods c.args.order.now c.in_ok-known.known.items c.in_ok-table.table.items record {
      sized = record { ordered = c.requires.order; known_sized = c.in_ok-known.ensures.sized; table_sized = c.in_ok-table.ensures.sized };
      called = c.requires.called;
      known_ranged = c.in_ok-known.ensures.ranged;
      table_ranged = c.in_ok-table.ensures.ranged;
      fine = known.fine c.in-None.is;
    })
