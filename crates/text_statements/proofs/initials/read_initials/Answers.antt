use Rattle.std.proofs.Common.{◌∙◌, sym, refl, ◌+◌, take}
use Rattle.std.proofs.lemmas.Option.{slice_get_read}
use Rattle.text_statements.specs.Initials.{AreRead, bounds_in}
use Rattle.text_statements.proofs.InitialsBoundsRead.{nothing_read, section_read, section_past}
use Rattle.text_statements.proofs.initials.read_initials.Goals as goal
use Rattle.text_statements.proofs.initials.read_initials.Goals.{then-is_initial+in_ok-read_items, else-is_initial}

pub loop-section-init : goal.loop-section-init
loop-section-init c = nothing_read c.args.scope.now record { names = c.new.result; values = c.new-2.result; fault = _ } c.new.ensures c.new-2.ensures refl

pub loop-section-preserved : goal.loop-section-preserved
loop-section-preserved c =
    let here = slice_get_read c.args.sections.now _ c.loop-section.section-index c.section-item.result refl c.loop-section-test.true c.section-item.is in
    elim c.if-is_initial.branch as (λ _. AreRead c.args.scope.now (bounds_in (take (c.loop-section.section-index + 1) c.args.sections.now)) c.if-is_initial.initials) [
      | then-is_initial+in_ok-read_items w ↦
          rw w.initials-is (section_read c.args.scope.now c.args.sections.now c.loop-section.section-index c.section-item.result c.loop-section.initials _ here (sym c.is_initial.ensures ∙ w.if-is_initial.true)
          c.loop-section.invariant (rw w.as_slice.ensures at w.in_ok-read_items.ensures))
      | else-is_initial w ↦
          rw w.initials-is (section_past c.args.scope.now c.args.sections.now c.loop-section.section-index c.section-item.result c.loop-section.initials here (sym c.is_initial.ensures ∙ w.if-is_initial.false)
          c.loop-section.invariant)
    ]
