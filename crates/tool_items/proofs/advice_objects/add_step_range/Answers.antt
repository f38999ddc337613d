use Rattle.std.specs.Fmt.{signed_decimal}
use Rattle.std.proofs.Common.{rules, ◌≡◌, ◌∙◌, ap}
use Rattle.std.specs.Prelude.{◌++◌, codes, decimal}
use Rattle.tool_names.specs.Objects.{closed, figure, member_opened}
use Rattle.tool_items.proofs.ObjectChains.{at_last, then_more}
use Rattle.tool_items.proofs.advice_objects.add_step_range.Goals as goal

pub returns : goal.returns
returns c =
    let begun = member_opened (codes "steps") in
    let least = figure (codes "least") (signed_decimal c.args.steps.least) in
    let most = figure (codes "most") (signed_decimal c.args.steps.most) in
    let frequent = figure (codes "frequent") (signed_decimal c.args.steps.frequent) in
    let share = figure (codes "share") (decimal c.args.steps.share) in
    let least_is : c.signed.new.self ≡ c.begin_member.new.self ++ least = c.in_ok-signed.ensures ∙ ap (λ z. c.begin_member.new.self ++ figure (codes "least") (signed_decimal z)) (search (rules)) in
    let most_is : c.signed-2.new.self ≡ c.signed.new.self ++ most = c.in_ok-signed-2.ensures ∙ ap (λ z. c.signed.new.self ++ figure (codes "most") (signed_decimal z)) (search (rules)) in
    let frequent_is : c.signed-3.new.self ≡ c.signed-2.new.self ++ frequent = c.in_ok-signed-3.ensures ∙ ap (λ z. c.signed-2.new.self ++ figure (codes "frequent") (signed_decimal z)) (search (rules)) in
    let two = then_more c.args.object.now begun least _ _ c.in_ok-begin_member.ensures least_is in
    let three = then_more c.args.object.now (begun ++ least) most _ _ two most_is in
    let four = then_more c.args.object.now ((begun ++ least) ++ most) frequent _ _ three frequent_is in
    let five = then_more c.args.object.now (((begun ++ least) ++ most) ++ frequent) share _ _ four c.in_ok-wide.ensures in
    at_last c.args.object.now ((((begun ++ least) ++ most) ++ frequent) ++ share) closed _ _ c.end_object.result five c.end_object.ensures
