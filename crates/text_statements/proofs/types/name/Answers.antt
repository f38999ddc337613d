use Rattle.std.proofs.Common.{sym, ap, Some}
use Rattle.text_statements.proofs.JudgedLeaves.{name_means, name_right, name_limited, name_refused}
use Rattle.text_statements.proofs.types.name.Goals as goal

pub returns-in-Some-clause-means : goal.returns-in-Some-clause-means
returns-in-Some-clause-means c = name_means c.args.scope.now c.args.at c.in-Some.expr c.within.result c.in-Some.ensures.value c.within.ensures.same

pub returns-in-Some-clause-right : goal.returns-in-Some-clause-right
returns-in-Some-clause-right c =
    name_right c.args.scope.now c.args.at c.in-Some.expr c.within.result c.in-Some.ensures.value c.in-Some.ensures.place c.within.ensures.same c.within.ensures.right

pub returns-in-Some-clause-refused : goal.returns-in-Some-clause-refused
returns-in-Some-clause-refused c = name_limited c.args.scope.now c.args.at c.in-Some.expr c.within.result c.in-Some.ensures.value c.within.ensures.refused

pub returns-in-None-clause-refused : goal.returns-in-None-clause-refused
returns-in-None-clause-refused c = name_refused c.args.scope.now _ _ c.in-None.ensures.value (ap Some (sym c.about.ensures))
