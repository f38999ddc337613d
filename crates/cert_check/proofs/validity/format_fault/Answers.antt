use Rattle.std.proofs.Common.{◌≡◌, sym, Some, rules}
use Rattle.std.specs.Prelude.{slice_get}
use Rattle.cert_check.proofs.JudgedRefusing.{plans_refuse, serving, no_format_refuses}
use Rattle.cert_check.proofs.validity.format_fault.Goals as goal

pub returns-in-Some-at-clause-right : goal.returns-in-Some-at-clause-right
returns-in-Some-at-clause-right c =
    let sized : slice_get c.args.bounds.now c.args.place.format ≡ Some c.in-Some-at.sizes.now = (search rules) in
    serving c.args.version c.args.table.now c.args.place.format c.args.bounds.now c.in-Some-at.sizes.now c.args.format.now c.in-Some.plans.now c.args.entry.now c.plans_fault.result (sym c.in-Some.ensures) sized c.plans_fault.ensures.right

pub returns-in-Some-at-clause-found : goal.returns-in-Some-at-clause-found
returns-in-Some-at-clause-found c =
    let sized : slice_get c.args.bounds.now c.args.place.format ≡ Some c.in-Some-at.sizes.now = (search rules) in
    plans_refuse c.args.version c.args.table.now c.args.place.method c.args.place.format c.args.bounds.now c.in-Some-at.sizes.now c.args.format.now c.in-Some.plans.now c.args.entry.now c.plans_fault.result (sym c.in-Some.ensures) sized c.plans_fault.ensures.found

pub returns-in-None-clause-found : goal.returns-in-None-clause-found
returns-in-None-clause-found c = no_format_refuses c.args.version c.args.table.now c.args.place.method c.args.place.format c.args.bounds.now c.args.format.now c.args.entry.now (sym c.in-None.ensures)
