use Rattle.std.proofs.Common.{◌∙◌, sym, refl, ◌+◌, take}
use Rattle.std.proofs.lemmas.Option.{slice_get_read}
use Rattle.text_statements.specs.Asked.{AreAsked, no_items, control_items}
use Rattle.text_statements.specs.Enforced.{set_names}
use Rattle.text_statements.proofs.ItemsAsked.{section_asked, section_past}
use Rattle.text_statements.proofs.asked.asked_names.Goals as goal
use Rattle.text_statements.proofs.asked.asked_names.Goals.{then-is_control+in_ok-ask_items, else-is_control}

pub loop-section-init : goal.loop-section-init
loop-section-init c = rw c.new-asked.ensures no_items

pub loop-section-preserved : goal.loop-section-preserved
loop-section-preserved c =
    let here = slice_get_read c.args.sections.now _ c.loop-section.section-index c.section-item.result refl c.loop-section-test.true c.section-item.is in
    let set = set_names c.args.text.now (control_items c.args.sections.now) in
    elim c.if-is_control.branch as (λ _. AreAsked c.args.scope.now set (control_items (take (c.loop-section.section-index + 1) c.args.sections.now)) c.if-is_control.asked) [
      | then-is_control+in_ok-ask_items w ↦
          rw w.asked-is (section_asked c.args.scope.now set c.args.sections.now c.loop-section.section-index c.section-item.result c.loop-section.asked _ here
          (sym c.is_control.ensures ∙ w.if-is_control.true) c.loop-section.invariant (rw (c.in_ok-set.ensures, w.as_slice.ensures) at w.in_ok-ask_items.ensures))
      | else-is_control w ↦
          rw w.asked-is (section_past c.args.scope.now set c.args.sections.now c.loop-section.section-index c.section-item.result c.loop-section.asked here
          (sym c.is_control.ensures ∙ w.if-is_control.false) c.loop-section.invariant)
    ]
