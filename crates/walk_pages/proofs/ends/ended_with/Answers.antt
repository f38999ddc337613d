use Rattle.std.proofs.Common.{rules, ◌∙◌, ap}
use Rattle.sem_filling.specs.declared.whole_sides.WholeSides.{WholeSides}
use Rattle.sem_pages.specs.declared.page.Page.{out-roll-Page}
use Rattle.sem_pages.specs.Pages.{seen_at_end}
use Rattle.walk_pages.proofs.Ending.{page_ended, settled_moved}
use Rattle.walk_pages.proofs.ends.ended_with.Goals as goal

pub returns : goal.returns
returns c =
    let out = out-roll-Page record { format = c.args.index; fields = c.end_sums.new.fields } in
    let w : WholeSides = record { header = c.args.header.now; packed = c.in-Some.packed } in
    let seen = c.at_end-view.ensures ∙ ap (λ ss. seen_at_end ss c.args.draft.arguments.now w) c.as_slice-4.ensures in
    page_ended c.args.frame.now c.args.draft c.args.index _ w c.end_sums.new.fields c.requires.right c.requires.format c.requires.arguments (ap (λ p. p.format) out) (ap (λ p. p.fields) out)
    (c.in_ok-end_sums.ensures c.if-not-branch.false) c.requires.header (search rules) (search rules)
    (settled_moved c.at_end-view.result _ c.args.draft.format.now c.as_slice-5.result.now _ seen c.as_slice-5.ensures (c.constraints_hold.ensures c.if-not-constraints_hold.false))
