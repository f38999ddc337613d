use Rattle.cert_types.specs.declared.certificate.Direction.TheVariants.{Read, Write}
use Rattle.cert_check.proofs.JudgedRefusing.{found_in, plan_refuses, read_is_right}
use Rattle.cert_check.proofs.validity.plans_fault.Goals as goal

pub returns-in-Some-clause-found : goal.returns-in-Some-clause-found
returns-in-Some-clause-found c =
    plan_refuses c.args.version c.args.table.now c.args.place.method c.args.place.format c.args.sizes.now c.args.format.now c.args.plans.now Read _ c.in-Some.fault _ tt c.as_slice-read.ensures (found_in _ c.in_ok-fault.field-0 c.in-Some.fault c.in-Some.is c.in_ok-fault.ensures.found)
    c.of_plan.ensures

pub returns-in-Some-2-clause-found : goal.returns-in-Some-2-clause-found
returns-in-Some-2-clause-found c =
    plan_refuses c.args.version c.args.table.now c.args.place.method c.args.place.format c.args.sizes.now c.args.format.now c.args.plans.now Write _ c.in-Some-2.fault _ (read_is_right c.args.version c.args.table.now c.args.sizes.now c.args.format.now c.args.plans.now _ c.in_ok-fault.field-0 c.in_default.is c.as_slice-read.ensures c.in_ok-fault.ensures.right) c.as_slice-write.ensures (found_in _ c.in_ok-fault-2.field-0 c.in-Some-2.fault c.in-Some-2.is c.in_ok-fault-2.ensures.found)
    c.of_plan-in-Some-2.ensures
