use Rattle.std.proofs.Common.{sym, ◌∙◌}
use Rattle.sem_lint.proofs.NeedsAdding.{call_one}
use Rattle.sem_lint.proofs.growth.add_call.Goals as goal

pub returns-clause-adds : goal.returns-clause-adds
returns-clause-adds c =
    call_one c.args.ground.now c.args.path.now _ c.args.field.now c.in-Some.method c.in-Some-find_site.place _ _ _ c.requires.sites (sym (rw c.get.ensures at c.called_by.ensures) ∙ c.in-Some.is) (rw c.as_str.ensures at c.in_ok-inner.ensures)
    (rw c.as_str-2.ensures.value at c.in-Some-find_site.ensures.found) c.in_ok-changes.ensures.sets
