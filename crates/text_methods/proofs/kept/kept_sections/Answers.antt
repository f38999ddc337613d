use Rattle.std.proofs.Common.{refl}
use Rattle.std.proofs.lemmas.Option.{slice_get_read}
use Rattle.text_methods.specs.Kept.{SectionIsKept}
use Rattle.text_methods.proofs.KeptLemmas.{zip_next}
use Rattle.text_methods.proofs.kept.kept_sections.Goals as goal

pub loop-section-preserved : goal.loop-section-preserved
loop-section-preserved c =
    let here = slice_get_read c.args.sections.now _ c.loop-section.section-index c.section-item.result refl c.loop-section-test.true c.section-item.is in
    zip_next (SectionIsKept c.args.scope.now c.args.methods.now) c.args.sections.now c.loop-section.section-index c.section-item.result c.loop-section.kept _ c.in_ok-kept_section.field-0
    here c.loop-section.invariant c.in_ok-kept_section.ensures c.in_ok-push.ensures.ok
