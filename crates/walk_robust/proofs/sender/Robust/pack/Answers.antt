use Rattle.std.proofs.Common.{subst}
use Rattle.walk_robust.specs.Answers.{IsBestFor}
use Rattle.walk_robust.specs.Sending.{Sending}
use Rattle.walk_robust.proofs.Searches.{blamed}
use Rattle.walk_robust.proofs.sender.Robust.pack.Goals as goal

pub returns-in-Err-clause-fault : goal.returns-in-Err-clause-fault
returns-in-Err-clause-fault c =
    blamed c.args.accepted.now c.args.self.now c.args.item.now c.in_ok-packed.packed
    (subst (λ (z : Sending). IsBestFor c.args.accepted.now z.own z.others c.args.item.now c.in_ok-packed.packed) c.self.view_is
    (subst (λ xs. IsBestFor c.args.accepted.now c.self.inside.own xs c.args.item.now c.in_ok-packed.packed) c.as_slice.ensures.value c.in_ok-packed.ensures.packed))
    c.in-Err.fault c.in-Err.ensures.fault
