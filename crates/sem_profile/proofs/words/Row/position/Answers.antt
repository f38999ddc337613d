use Rattle.std.proofs.Common.{◌∙◌, ap, position}
use Rattle.std.specs.Str.{bytes_eq}
use Rattle.sem_profile.proofs.WordsTables.{position-shown}
use Rattle.sem_profile.proofs.words.Row.position.Goals as goal

pub returns-clause-value : goal.returns-clause-value
returns-clause-value c = c.get_index_of.ensures.index ∙ position-shown c.args.name.now c.self.inside.kept.keys ∙ ap (λ names. position (bytes_eq c.args.name.now) names) c.self.view_is
