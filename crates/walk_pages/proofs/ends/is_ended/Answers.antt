use Rattle.std.proofs.Common.{◌≡◌, rules, subst, ap, ◌∙◌}
use Rattle.std.specs.Prelude.{slice_get, Some}
use Rattle.walk_pages.specs.Drafts.{IsSummed, seen_with_header}
use Rattle.walk_pages.proofs.Drafting.{plain_shown}
use Rattle.walk_pages.proofs.Ending.{sum_ended}
use Rattle.walk_pages.proofs.ends.is_ended.Goals as goal

pub returns : goal.returns
returns c = λ _.
    let here : slice_get c.args.fields.now c.args.index ≡ Some c.in-Some.shown.now = (search rules) in
    let summed = rw c.in-Some-2.is at c.in_ok-sum.ensures in
    let seen = c.with_header-view.ensures ∙ ap (λ ss. seen_with_header ss c.args.arguments.now c.args.header.now) c.as_slice.ensures in
    sum_ended c.args.format.now c.args.arguments.now c.args.header.now c.args.fields.now _ c.args.index c.in-Some.shown.now _ c.in-Some-get.field.now c.in-Some-2.sum here (search rules) (search rules) (plain_shown _ _ c.new.ensures)
    c.set.ensures (search rules) (subst (λ v. IsSummed v c.in-Some-get.field.now c.in-Some-2.sum) seen summed)
