use Rattle.cert_rules.proofs.ViewsLearning as l
use Rattle.cert_rules.proofs.laws.steps.Goals as goal

pub returns : goal.returns
returns c = record {
  up = l.up;
  down = l.down;
  length = l.length_of;
  constraint = l.by_constraint;
  solve = l.solve;
  remainder = λ methods ctx spot n format slots f h sizes b i j k c at given bounds_at few known. l.solve_remainder methods ctx spot n format slots f h sizes b i j k c at given bounds_at few known;
  take = λ methods ctx spot n format slots f h i listed known. l.taken methods ctx spot n format slots f h i listed known;
  call = λ methods ctx spot n format slots f h i d j es e is known. l.called methods ctx spot n format slots f h i d j es e is known;
}
