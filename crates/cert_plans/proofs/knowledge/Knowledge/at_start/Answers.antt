use Rattle.std.proofs.Common.{◌∙◌, ap, get_or}
use Rattle.cert_plans.specs.Knowing.{field_of, shows_of, nothing}
use Rattle.cert_plans.proofs.KnowingStarting.{start_shown, start_known}
use Rattle.cert_plans.proofs.knowledge.Knowledge.at_start.Goals as goal

pub returns-clause-known : goal.returns-clause-known
returns-clause-known c =
    let format = c.args.format.now in
    let flags = c.in_ok-listed_flags.field-0 in
    let are = c.in_ok-listed_flags.ensures in
    let all = start_known format flags c.as_slice-listed-items.result.now c.loop-listed.listed-index c.loop-listed.fields are c.as_slice-listed-items.ensures c.loop-listed-test.false c.loop-listed.invariant in
    λ x. ap (λ z. shows_of (get_or z (field_of x) nothing) x) all ∙ start_shown format flags x are
