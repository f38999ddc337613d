use Rattle.cert_plans.proofs.Knowing.{shown_after, shown_still}
use Rattle.cert_plans.proofs.knowledge.Knowledge.learn.Goals as goal

pub returns-in-Some-clause-known : goal.returns-in-Some-clause-known
returns-in-Some-clause-known c =
    λ x. shown_after c.args.self.now.fields c.set.new.self c.args.fact x c.field_of-index.result c.in-Some.field.now c.with-field.result c.field_of-index.ensures c.in-Some.ensures.value c.with-field.ensures c.set.ensures

pub returns-in_default-clause-known : goal.returns-in_default-clause-known
returns-in_default-clause-known c = λ x. shown_still c.args.self.now.fields c.args.fact x c.field_of-index.result _ c.field_of-index.ensures c.in_default.ensures.value
