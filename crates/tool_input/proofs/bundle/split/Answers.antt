use Rattle.std.proofs.Common.{◌≡◌, ◌∙◌, ◌∷◌, [], ◌++◌, refl, sym, ap, append_assoc, length, rules}
use Rattle.std.proofs.lemmas.List.{nil_from_length}
use Rattle.tool_input.specs.Bundle.{full_lines, named, parts_in}
use Rattle.tool_input.specs.Bundle.AreGood.{none, one_more}
use Rattle.tool_input.proofs.BundleParts.{first_part, tail_is}
use Rattle.tool_input.proofs.bundle.split.Goals as goal

pub loop-rest-init : goal.loop-rest-init
loop-rest-init c = record {
  begins = c.cut_at_heading.ensures.begins;
  parts = ([], c.cut_at_heading.ensures.parts, none, record { words = refl; profile = refl; certificate = refl; context = refl; items = refl; packets = refl; events = refl; octets = refl });
}

pub returns-in-None-clause-bad : goal.returns-in-None-clause-bad
returns-in-None-clause-bad c =
    let rest = c.loop-rest.rest.now in
    let here = c.loop-rest.invariant.parts in
    let parts : parts_in (full_lines rest) ≡ named c.name_of-name.result.now c.cut_at_heading-in-loop-rest.result.0.now ∷ parts_in (full_lines c.cut_at_heading-in-loop-rest.result.1.now) =
    first_part rest c.first_line-heading.result.now _ _ c.cut_at_heading-in-loop-rest.result.1.now _ (tail_is (length c.first_line-heading.result.now) rest) c.first_line-heading.ensures.some c.first_line-heading.ensures.line c.loop-rest.invariant.begins
    c.cut_at_heading-in-loop-rest.ensures.text c.cut_at_heading-in-loop-rest.ensures.parts c.name_of-name.ensures in
    let empty : length c.cut_at_heading.result.0.now ≡ 0 = search rules in (
      sym c.cut_at_heading.ensures.text ∙ nil_from_length _ empty,
      record {
        before = here.0;
        bad = named c.name_of-name.result.now c.cut_at_heading-in-loop-rest.result.0.now;
        after = parts_in (full_lines c.cut_at_heading-in-loop-rest.result.1.now);
        split = sym here.1 ∙ ap (λ ps. here.0 ++ ps) parts;
        good = here.2;
        refused = λ may. c.in-None.ensures.refused here.0 here.3 may.known may.new;
        name = refl;
      },
    )

pub loop-rest-preserved : goal.loop-rest-preserved
loop-rest-preserved c =
    let rest = c.loop-rest.rest.now in
    let here = c.loop-rest.invariant.parts in
    let part = named c.name_of-name.result.now c.cut_at_heading-in-loop-rest.result.0.now in
    let others = parts_in (full_lines c.cut_at_heading-in-loop-rest.result.1.now) in
    let parts : parts_in (full_lines rest) ≡ part ∷ others =
    first_part rest c.first_line-heading.result.now _ _ c.cut_at_heading-in-loop-rest.result.1.now _ (tail_is (length c.first_line-heading.result.now) rest) c.first_line-heading.ensures.some c.first_line-heading.ensures.line c.loop-rest.invariant.begins
    c.cut_at_heading-in-loop-rest.ensures.text c.cut_at_heading-in-loop-rest.ensures.parts c.name_of-name.ensures in
    record {
      begins = c.cut_at_heading-in-loop-rest.ensures.begins;
      parts = (
        here.0 ++ part ∷ [],
        append_assoc here.0 (part ∷ []) others ∙ ap (λ ps. here.0 ++ ps) (sym parts) ∙ here.1,
        one_more (here.0 ++ part ∷ []) here.0 part here.2 (record { known = c.in-Some.ensures.known; new = c.in-Some.ensures.new here.0 here.3 }) refl,
        c.in-Some.ensures.held here.0 here.3,
      );
    }
