use Rattle.std.proofs.Common.{◌≡◌, ap, refl, rules}
use Rattle.sem_pages.specs.Chains.{attribute, field, up}
use Rattle.sem_pages.proofs.chains.attribute_operand.Goals as goal

pub returns-in-Field : goal.returns-in-Field
returns-in-Field c = λ chains.
    let is : c.args.attribute ≡ up c.in-Field.index = (search rules) in
    field (λ a. ap a.attribute is)

pub returns-in_default : goal.returns-in_default
returns-in_default c = λ chains. attribute (λ a. refl)

pub returns-in_default-2 : goal.returns-in_default-2
returns-in_default-2 c = λ chains. attribute (λ a. refl)

pub returns-in_default-3 : goal.returns-in_default-3
returns-in_default-3 c = λ chains. attribute (λ a. refl)
