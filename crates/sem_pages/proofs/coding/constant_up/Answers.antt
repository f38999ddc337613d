use Rattle.std.proofs.Common.{rules}
use Rattle.sem_pages.proofs.CodedSides.{constant_up_on}
use Rattle.sem_pages.proofs.coding.constant_up.Goals as goal

pub returns : goal.returns
returns c = λ ctx path d. constant_up_on c.args.view.now ctx path d c.in_ok-spelled.field-0 c.new.result c.args.length.now c.args.value.now c.in_ok-spelled.ensures (search rules)
