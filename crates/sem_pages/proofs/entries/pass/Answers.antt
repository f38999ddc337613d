use Rattle.std.proofs.Common.{[], refl}
use Rattle.std.specs.Prelude.{unwrap_or}
use Rattle.sem_pages.proofs.InOrder.{changed_passed, same_passed}
use Rattle.sem_pages.proofs.entries.pass.Goals as goal

pub returns-then-are_bits : goal.returns-then-are_bits
returns-then-are_bits c = λ known ctx here at. same_passed known ctx c.args.progress.now _ here c.args.kept.now (unwrap_or c.args.bits.now []) at c.requires refl (c.are_bits.ensures c.if-are_bits.true)

pub returns : goal.returns
returns c = λ known ctx here at. changed_passed known ctx c.args.progress.now _ here c.args.kept.now (unwrap_or c.args.bits.now []) c.in_ok-bits_of.field-0 at c.requires c.in_ok-push.ensures.items c.in_ok-bits_of.ensures
