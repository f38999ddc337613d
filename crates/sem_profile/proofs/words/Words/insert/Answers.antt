use Rattle.std.proofs.Common.{◌≡◌, ◌∙◌, ◌++◌, ap, subst, [], false}
use Rattle.std.specs.Option.{unwrap_or}
use Rattle.sem_profile.specs.Words as spec
use Rattle.sem_profile.proofs.WordsTables.{put-known, put-after}
use Rattle.sem_profile.proofs.words.Words.insert.Goals as goal

pub returns-then-is_one_of-clause-ok : goal.returns-then-is_one_of-clause-ok
returns-then-is_one_of-clause-ok c =
    subst (λ names. names ≡ spec.with_word names c.args.name.now) c.self.view_is (put-known c.args.name.now (unwrap_or c.self.inside.first []) c.self.inside.last (c.if-is_one_of.ensures {u = tt})).0

pub returns-then-is_one_of-clause-added : goal.returns-then-is_one_of-clause-added
returns-then-is_one_of-clause-added c =
    subst (λ names. false ≡ spec.is_new names c.args.name.now) c.self.view_is (put-known c.args.name.now (unwrap_or c.self.inside.first []) c.self.inside.last (c.if-is_one_of.ensures {u = tt})).1

pub returns-clause-ok : goal.returns-clause-ok
returns-clause-ok c =
    let first = unwrap_or c.self.inside.first [] in
    ap (λ names. first ++ names) (c.in_ok-is_new.ensures {u = tt}).ok ∙ (put-after c.args.name.now first c.self.inside.last (c.if-is_one_of.ensures {u = tt})).0
    ∙ ap (λ names. spec.with_word names c.args.name.now) c.self.view_is

pub returns-clause-added : goal.returns-clause-added
returns-clause-added c =
    (c.in_ok-is_new.ensures {u = tt}).added ∙ (put-after c.args.name.now (unwrap_or c.self.inside.first []) c.self.inside.last (c.if-is_one_of.ensures {u = tt})).1
    ∙ ap (λ names. spec.is_new names c.args.name.now) c.self.view_is
