use Rattle.std.proofs.Common.{refl, sym, subst}
use Rattle.walk_line.specs.Hearing.{IsPart, nothing}
use Rattle.walk_line.proofs.receiver.Receiver.take_whole.Goals as goal

pub invariant_of-self : goal.invariant_of-self
invariant_of-self c =
    (rw c.in-Ok.ensures.flows c.self.invariant.0, c.self.invariant.1, subst (IsPart c.self.inside.accepted.now c.hear_whole.new.contexts.items) (sym (c.if-not-is_empty.ensures.0 refl)) nothing, c.hear_whole.ensures.kept)

pub invariant_of-self-in-Err : goal.invariant_of-self-in-Err
invariant_of-self-in-Err c =
    (rw c.in-Err.ensures.flows c.self.invariant.0, c.self.invariant.1, subst (IsPart c.self.inside.accepted.now c.hear_whole.new.contexts.items) (sym (c.if-not-is_empty.ensures.0 refl)) nothing, c.hear_whole.ensures.kept)
