use Rattle.std.proofs.Common.{◌≡◌, ◌∙◌, refl, subst}
use Rattle.std.specs.Prelude.{Some}
use Rattle.sem_pages.specs.Pages.{HoldsOn}
use Rattle.walk_pages.proofs.ends.is_settled.Goals as goal

pub returns-then-is_solved : goal.returns-then-is_solved
returns-then-is_solved c = λ _ d here solved. let found = c.if-is_solved.ensures refl in solved found.0 found.1

pub returns-in-Some : goal.returns-in-Some
returns-in-Some c = λ is d here solved.
    let one : Some c.in-Some.constraint.now ≡ Some d = c.in-Some.ensures ∙ here in
    let same : c.in-Some.constraint.now ≡ d = cc in
    subst (HoldsOn c.args.view.now) (c.get.ensures ∙ same) (c.constraint_holds.ensures is)
