use Rattle.std.proofs.Common.{refl}
use Rattle.tool_run.specs.Printed.{Stated, StatsWith, no_items, with_items}
use Rattle.tool_input.proofs.RefusalsHeld.{passed_on, refusal_is}
use Rattle.tool_run.proofs.stats.answer_stats.Goals as goal

pub returns-in-Some : goal.returns-in-Some
returns-in-Some c =
    passed_on (StatsWith c.args.what c.args.order.now c.args.profile.now c.args.parts.now c.in-Some.items.now) (Stated c.args.what c.args.order.now c.args.profile.now c.args.parts.now) c.answer_by.result (λ s out h. with_items c.in-Some.items c.in-Some.is h) c.answer_by.ensures

pub returns-in-None : goal.returns-in-None
returns-in-None c = refusal_is (Stated c.args.what c.args.order.now c.args.profile.now c.args.parts.now) _ _ c.refusal.result (no_items c.in-None.is) refl c.refusal.ensures
