use Rattle.std.specs.Fmt.{signed_decimal}
use Rattle.std.proofs.Common.{rules, ◌≡◌, ◌∙◌, ap}
use Rattle.std.specs.Prelude.{◌++◌, codes}
use Rattle.tool_names.specs.Objects.{closed, figure, member_opened, number}
use Rattle.tool_items.proofs.ObjectChains.{at_last, then_more}
use Rattle.tool_items.proofs.advice_objects.add_lsb.Goals as goal

pub returns : goal.returns
returns c =
    let begun = member_opened c.args.key.now in
    let k = number (codes "k") c.args.bits in
    let offset = figure (codes "offset") (signed_decimal c.args.offset) in
    let given : c.signed.new.self ≡ c.number.new.self ++ offset = c.in_ok-signed.ensures ∙ ap (λ z. c.number.new.self ++ figure (codes "offset") (signed_decimal z)) (search (rules)) in
    let two = then_more c.args.object.now begun k _ _ c.in_ok-begin_member.ensures c.in_ok-number.ensures in
    let three = then_more c.args.object.now (begun ++ k) offset _ _ two given in
    at_last c.args.object.now ((begun ++ k) ++ offset) closed _ _ c.end_object.result three c.end_object.ensures
