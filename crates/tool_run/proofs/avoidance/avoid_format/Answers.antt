use Rattle.std.proofs.Common.{◌∙◌, ap, [], ◌∷◌, ◌++◌, refl}
use Rattle.std.specs.Prelude.{string_bytes}
use Rattle.std.proofs.lemmas.List.{append-nil, get_or_read}
use Rattle.sem_filling.specs.declared.filling.Item.{Item}
use Rattle.tool_run.proofs.AvoidanceLemmas.{judged_on, judged_start, told_is}
use Rattle.tool_run.specs.Avoidance.{wanted}
use Rattle.tool_run.proofs.avoidance.avoid_format.Goals as goal

pub loop-i-init : goal.loop-i-init
loop-i-init c = judged_start c.args.accepted.now c.args.start c.args.items.now (wanted c.args.aim) c.new-verdicts.result.kept c.new-verdicts.ensures

pub loop-i-preserved : goal.loop-i-preserved
loop-i-preserved c =
    let d : Item = record { header = []; asked = [] } in
    let x = get_or_read c.args.items.now c.loop-i.i c.index-items-i.result c.loop-i-test.true c.index-items-i.is d in
    judged_on c.args.accepted.now c.args.start c.args.items.now (wanted c.args.aim) _ c.loop-i.i d c.index-items-i.result _ _ c.loop-i.verdicts _ refl refl c.loop-i-test.true x c.loop-i.invariant c.in_ok-add_item.ensures

pub returns : goal.returns
returns c = told_is c.args.octets.now c.args.name.now c.args.accepted.now c.args.start c.args.items.now (wanted c.args.aim) c.loop-i.i c.loop-i.context c.loop-i.verdicts _ c.push_line.new.output c.requires c.loop-i.invariant (rw (c.profile-profile.ensures, c.asking_items-asking.ensures) at c.in_ok-output.ensures) (c.in_ok-push_line.ensures ∙ ap (λ t. t ++ 10 ∷ []) (append-nil (string_bytes c.in_ok-output.output)))
