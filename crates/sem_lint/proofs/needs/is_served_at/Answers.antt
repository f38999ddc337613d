use Rattle.std.proofs.Common.{sym, ◌∙◌}
use Rattle.sem_lint.proofs.NeedsTelling.{not_reached_at, served_at}
use Rattle.sem_lint.proofs.needs.is_served_at.Goals as goal

pub returns-then-not-is_reached_as : goal.returns-then-not-is_reached_as
returns-then-not-is_reached_as c = not_reached_at c.args.ground.now c.args.known.now.flags c.args.method c.args.format.now c.args.place c.args.site.now c.requires.site (sym c.is_reached_as.ensures ∙ c.if-not-is_reached_as.true)

pub returns : goal.returns
returns c =
    served_at c.args.ground.now c.args.known.now.flags c.args.method c.args.format.now c.args.place c.args.site.now _ c.in_ok-lacking.lacking _ c.requires.site (sym c.is_reached_as.ensures ∙ c.if-not-is_reached_as.false) c.as_str-path.ensures.value
    (rw c.as_slice.ensures at c.in_ok-lacking.ensures.found) (rw c.as_slice.ensures at c.in_ok-lacking.ensures.none) c.is_none.ensures
