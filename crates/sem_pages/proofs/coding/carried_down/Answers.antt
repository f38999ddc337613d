use Rattle.std.proofs.Common.{rules, refl}
use Rattle.sem_pages.proofs.CodedSides.{carried_up_on}
use Rattle.sem_pages.proofs.coding.carried_down.Goals as goal

pub returns : goal.returns
returns c = λ ctx path d. carried_up_on c.args.view.now ctx path d c.args.up c.args.up c.args.length.now _ c.in_ok-natural.ensures refl (search rules) (search rules)
