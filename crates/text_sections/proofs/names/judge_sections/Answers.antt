use Rattle.std.proofs.Common.{◌+◌, arith, refl, drop}
use Rattle.std.proofs.lemmas.Option.{slice_get_read}
use Rattle.text_sections.specs.declared.mention.Group.TheVariants as groups
use Rattle.text_sections.specs.Mentions.{mentions_in}
use Rattle.text_sections.specs.Names.{own_mentions}
use Rattle.text_sections.proofs.Naming.{one_below, all_below}
use Rattle.text_sections.proofs.NamesOwn.{at_place, parted, rest_of}
use Rattle.text_sections.proofs.names.judge_sections.Goals as goal

pub loop-place-preserved : goal.loop-place-preserved
loop-place-preserved c =
    let text = c.args.text.now in
    let sections = c.args.sections.now in
    let place = c.loop-place.place in
    let s = c.index-sections-place.result in
    let so = c.loop-place.invariant in
    let here = slice_get_read sections _ place s refl c.loop-place-test.true c.index-sections-place.is in
    let more = mentions_in text groups.Formats (place + 1) (drop (place + 1) sections) in
    let parts = parted text sections place s c.loop-place.rest.now (at_place sections place s here) so.1 in (
      (λ encodings is. one_below text encodings sections place s here (c.in_ok-next.ensures encodings is) (so.0 encodings is) c.earlier-found.ensures),
      rest_of c.own_part-own.result.now (own_mentions text place s) more c.loop-place.rest.now (c.own_part-own.ensures text place more parts) parts,
    )

pub returns : goal.returns
returns c = λ encodings is. all_below _ _ _ c.loop-place.place (omega (arith, c.loop-place-test.false)) (c.loop-place.invariant.0 encodings is)
