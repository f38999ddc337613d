use Rattle.std.proofs.Common.{sym, subst, arith, ◌≤◌, ◌^◌, length}
use Rattle.walk_engine.proofs.Reading.{truncated, refused}
use Rattle.walk_engine.proofs.reader.read_walked.Goals as goal

pub returns-then-len-rest-clause-fault : goal.returns-then-len-rest-clause-fault
returns-then-len-rest-clause-fault c =
    let few = subst (λ b. length b ≤ 2 ^ 18) (sym c.in_ok-found.ensures.sides.1) c.keeps_few.ensures in
    truncated _ _ _ _ c.in_ok-found.ensures.found c.in_ok-found.found.whole.packed c.in_ok-found.ensures.sides.1 (omega (arith, c.if-len-rest.true, c.len.ensures.value, c.rest.ensures.value)) few

pub returns-in-None-clause-fault : goal.returns-in-None-clause-fault
returns-in-None-clause-fault c =
    let other = rw c.in-None.is at c.read_with.ensures.other in
    refused _ _ _ _ c.in_ok-found.ensures.found c.in_ok-found.found.whole.packed c.in_ok-found.ensures.sides.1 (omega (arith, c.if-len-rest.false, c.len.ensures.value, c.rest.ensures.value)) other
