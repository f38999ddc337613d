use Rattle.std.proofs.Common.{sym, subst}
use Rattle.walk_robust.specs.Lacks.{IsTold, fits_all, format_of, was_told}
use Rattle.walk_robust.proofs.Lackings.{pushed}
use Rattle.walk_robust.proofs.lacks.add_lack.Goals as goal

pub returns-then-is_told : goal.returns-then-is_told
returns-then-is_told c = was_told (subst (λ ls. IsTold ls (format_of c.args.filling.now)) c.as_slice.ensures (c.is_told.ensures.0 c.if-is_told.true))

pub returns-in-Some : goal.returns-in-Some
returns-in-Some c =
    pushed c.args.accepted.now c.args.others.now c.args.filling.now c.args.found.now _ c.in-Some.lack c.push.result c.push.ensures.ok
    (λ told. let t = c.is_told.ensures.1 (subst (λ ls. IsTold ls (format_of c.args.filling.now)) (sym c.as_slice.ensures) told) in absurd (cc (t, c.if-is_told.false)))
    (rw c.in-Some.is at c.in_ok-lack.ensures.lack)

pub returns-in-None : goal.returns-in-None
returns-in-None c = fits_all (rw c.in-None.is at c.in_ok-lack.ensures.none)
