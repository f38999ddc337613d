use Rattle.std.proofs.Common.{◌+◌, refl, drop, arith, subst, sym}
use Rattle.std.proofs.lemmas.Option.{slice_get_read}
use Rattle.text_methods.specs.Worded.{SectionIsWorded}
use Rattle.text_methods.proofs.Wording.{one_of}
use Rattle.text_methods.proofs.MethodFormatsLeading.{next, ended}
use Rattle.text_methods.proofs.method_formats.listed_formats.Goals as goal

pub add_section-requires-clause-section : goal.add_section-requires-clause-section
add_section-requires-clause-section c =
    subst (SectionIsWorded c.args.setting.now.text.now) (sym c.section-item.is)
    (one_of (SectionIsWorded c.args.setting.now.text.now) c.args.setting.now.sections.now c.loop-place.place _ c.requires.sections c.loop-place-test.true)

pub add_section-requires-clause-own : goal.add_section-requires-clause-own
add_section-requires-clause-own c = slice_get_read c.args.setting.now.sections.now _ c.loop-place.place c.section-item.result refl c.loop-place-test.true c.section-item.is

pub loop-place-preserved : goal.loop-place-preserved
loop-place-preserved c = λ base default.
    let x = c.args.setting.now in
    let here = slice_get_read x.sections.now _ c.loop-place.place c.section-item.result refl c.loop-place-test.true c.section-item.is in
    c.in_ok-add_section.ensures base default (drop (c.loop-place.place + 1) x.sections.now) (next x c.loop-place.place c.section-item.result c.loop-place.all here (c.loop-place.invariant base default))

pub returns : goal.returns
returns c = λ base default. ended c.args.setting.now c.loop-place.place c.loop-place.all (omega arith) (c.loop-place.invariant base default)
