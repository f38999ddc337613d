use Rattle.std.proofs.Common.{sym, ◌∙◌}
use Rattle.sem_lint.proofs.SitesGrowing.{step_one}
use Rattle.sem_lint.proofs.sites.add_of_field.Goals as goal

pub returns : goal.returns
returns c =
    step_one c.args.path.now _ c.args.field.now c.in-Some.method _ _ (sym (rw c.get.ensures at c.called_by.ensures) ∙ c.in-Some.is) (rw c.as_str.ensures at c.in_ok-inner.ensures) c.in_ok-add_site.ensures
