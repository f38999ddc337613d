use Rattle.std.proofs.Common.{sym, ◌∙◌}
use Rattle.sem_lint.proofs.NeedsLacking.{is_never_used, is_served, not_reached}
use Rattle.sem_lint.proofs.needs.never_used.Goals as goal

pub returns-in_default-first_reached-clause-none :
    goal.returns-in_default-first_reached-clause-none
returns-in_default-first_reached-clause-none c =
    not_reached c.args.ground.now c.requires.sites c.args.known.now.flags c.requires.grown c.args.method c.args.number (rw c.in_default-first_reached.is at c.first_reached.ensures.none)

pub returns-then-branch-clause-none : goal.returns-then-branch-clause-none
returns-then-branch-clause-none c =
    is_served c.args.ground.now c.requires.sites c.args.known.now.flags c.requires.grown c.args.method c.args.number c.in-Some.format.now (sym c.in-Some.ensures) (sym c.if-is_dead.ensures) (c.in_ok-is_served_somewhere.ensures.0 c.if-branch.true)

pub lacking_at-requires-clause-lacks : goal.lacking_at-requires-clause-lacks
lacking_at-requires-clause-lacks c = λ some. absurd (let wrong = sym (c.in_ok-is_served_somewhere.ensures.1 some) ∙ c.if-branch.false in cc)

pub returns-clause-found : goal.returns-clause-found
returns-clause-found c =
    is_never_used c.args.ground.now c.requires.sites c.args.known.now.flags c.requires.grown c.args.method c.args.number c.in-Some-first_reached.place c.in-Some.format.now _ (sym c.in-Some.ensures) (sym c.if-is_dead.ensures)
    (rw c.in-Some-first_reached.is at c.first_reached.ensures.found) (λ some. absurd (let wrong = sym (c.in_ok-is_served_somewhere.ensures.1 some) ∙ c.if-branch.false in cc)) c.in_ok-path.ensures
