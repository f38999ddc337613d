use Rattle.std.proofs.Common.{◌≡◌, length, rules, subst, sym}
use Rattle.sem_pages.specs.Made.{AreMade}
use Rattle.walk_pages.specs.Drafts.{BeginsWith}
use Rattle.walk_pages.proofs.draft.begun.Goals as goal

pub returns : goal.returns
returns c =
    let count : c.loop-i.i ≡ length c.args.constants.now = (search rules) in
    subst (λ ss. AreMade BeginsWith c.args.constants.now ss (length c.args.constants.now)) (sym c.from_vec.ensures)
    (subst (AreMade BeginsWith c.args.constants.now c.loop-i.fields.items) count c.loop-i.invariant)
