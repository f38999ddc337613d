use Rattle.std.proofs.Common.{arith, ◌∙◌, sym}
use Rattle.text_sections.proofs.Tabled.{read_at}
use Rattle.text_sections.proofs.CausesSeconds.{few_further, few_here, none_in_all}
use Rattle.text_sections.proofs.repeats.second_of_few.Goals as goal

pub returns-in-Some : goal.returns-in-Some
returns-in-Some c =
    few_here _ _ c.loop-place.place _ _ _ (read_at _ _ _ c.loop-place-test.true) c.word-name.ensures (sym c.first_among.ensures ∙ c.in-Some.is) c.second_statement.ensures

pub loop-place-preserved : goal.loop-place-preserved
loop-place-preserved c =
    few_further _ _ c.loop-place.place _ _ c.loop-place.invariant (read_at _ _ _ c.loop-place-test.true) c.word-name.ensures (sym c.first_among.ensures ∙ c.in_default.is)

pub returns : goal.returns
returns c = none_in_all _ _ c.loop-place.place (omega (arith, c.loop-place-test.false)) c.loop-place.invariant
