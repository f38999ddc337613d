use Rattle.std.proofs.Common.{◌∙◌, ap, not}
use Rattle.sem_profile.specs.Words as spec
use Rattle.sem_profile.proofs.WordsTables.{shown, any-shown, put-shown}
use Rattle.sem_profile.proofs.words.Row.insert.Goals as goal

pub returns-clause-ok : goal.returns-clause-ok
returns-clause-ok c = ap shown c.in_ok-added.ensures.keys ∙ put-shown c.args.name c.self.inside.kept.keys ∙ ap (λ names. spec.with_word names c.args.name.now) c.self.view_is

pub returns-clause-added : goal.returns-clause-added
returns-clause-added c = c.in_ok-added.ensures.added ∙ ap not (any-shown c.args.name.now c.self.inside.kept.keys) ∙ ap (λ names. spec.is_new names c.args.name.now) c.self.view_is
