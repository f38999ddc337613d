use Rattle.std.proofs.Common.{refl}
use Rattle.std.proofs.lemmas.Option.{slice_get_read}
use Rattle.text_methods.proofs.DefaultsSections.{next_section}
use Rattle.text_methods.proofs.defaults.default_fault.Goals as goal

pub loop-section-preserved : goal.loop-section-preserved
loop-section-preserved c =
    let here = slice_get_read c.args.setting.now.sections.now _ c.loop-section.section-index c.section-item.result refl c.loop-section-test.true c.section-item.is in
    next_section _ c.args.setting.now.sections.now c.loop-section.section-index c.section-item.result _ _ _ here (rw (c.new-scope.ensures, c.in_ok-fields.ensures.words) at c.in_ok-fault.ensures) c.loop-section.invariant
