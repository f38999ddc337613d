use Rattle.std.proofs.Common.{rules, refl}
use Rattle.sem_pages.proofs.CodedSides.{carried_on}
use Rattle.sem_pages.proofs.coding.carried.Goals as goal

pub returns : goal.returns
returns c = λ ctx path d. carried_on c.args.view.now ctx path d c.in_ok-word.word c.in_ok-word.word c.args.length.now c.in_ok-count.count c.in_ok-count.ensures refl (search rules) (search rules)
