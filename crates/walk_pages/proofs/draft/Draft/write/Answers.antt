use Rattle.std.proofs.Common.{rules, subst}
use Rattle.sem_context.specs.Entries.{bits_at}
use Rattle.sem_pages.specs.Pages.{ReadsAs}
use Rattle.walk_pages.proofs.Drafting.{put_plain}
use Rattle.walk_pages.proofs.draft.Draft.write.Goals as goal

pub returns-clause-goes : goal.returns-clause-goes
returns-clause-goes c = λ is.
    let reads = rw c.in-Some-2.is at c.in_ok-down.ensures in
    put_plain c.args.frame.now c.args.field c.plain.result c.args.up c.in-Some-2.down c.in-Some.declared.now c.args.self.now c.put.new.self (c.put.ensures is) c.plain.ensures (search rules)
    (λ _. subst (λ v. ReadsAs c.args.frame.now.methods.now (bits_at c.args.frame.now.context.now) c.args.frame.now.path.now v c.in-Some.declared.now c.args.up c.in-Some-2.down) c.view.ensures reads)

pub returns-clause-value : goal.returns-clause-value
returns-clause-value c = λ is. record { down = c.in-Some-2.down; after = c.plain.result; plain = c.plain.ensures; put = c.put.ensures is }
