use Rattle.std.proofs.Common.{◌≡◌, rules, refl, subst}
use Rattle.std.specs.Prelude.{Some, pos}
use Rattle.sem_expr.specs.Values.{val}
use Rattle.sem_pages.specs.Pages.{numbers_seen}
use Rattle.walk_pages.proofs.Drafting.{solved_goes}
use Rattle.walk_pages.proofs.draft.Draft.solve_equation.Goals as goal

pub returns : goal.returns
returns c = λ _.
    solved_goes c.args.frame.now c.args.field c.args.number c.args.given.now c.in-Some-spelled.up c.in-Some.found c.args.self.now c.write.new.self _ (c.in_ok-write.ensures.goes c.if-not-branch.false) (c.in_ok-write.ensures.value c.if-not-branch.false) (search rules)
    (subst (λ v. val (numbers_seen v) c.args.given.now ≡ Some (pos c.in-Some.found)) c.view.ensures c.in-Some.ensures) refl refl refl c.in_ok-push.ensures.ok refl
