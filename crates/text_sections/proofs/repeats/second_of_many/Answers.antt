use Rattle.std.proofs.Common.{arith, ◌∙◌, refl, sym}
use Rattle.text_sections.proofs.Tabled.{tabled_more, read_at}
use Rattle.text_sections.proofs.CausesSeconds.{none_at_start, none_further, none_in_all, second_here}
use Rattle.text_sections.proofs.repeats.second_of_many.Goals as goal

pub loop-mention-init : goal.loop-mention-init
loop-mention-init c = (c.in_ok-table.ensures c.args.text.now, none_at_start _ _)

pub returns-in-Some : goal.returns-in-Some
returns-in-Some c =
    let found = sym (c.in_ok-first.ensures {u = tt}).found ∙ c.in-Some.is in
    second_here _ _ _ _ _ _ _ (read_at _ _ _ c.loop-mention-test.true) refl c.loop-mention.invariant.0 found c.second_statement.ensures

pub loop-mention-preserved : goal.loop-mention-preserved
loop-mention-preserved c =
    let here = read_at _ _ _ c.loop-mention-test.true in
    let found = sym (c.in_ok-first.ensures {u = tt}).found ∙ c.in_default.is in
    (tabled_more _ _ _ _ _ here ((c.in_ok-first.ensures {u = tt}).table _ c.loop-mention.invariant.0), none_further _ _ _ _ _ _ c.loop-mention.invariant.1 here refl c.loop-mention.invariant.0 found)

pub returns : goal.returns
returns c = none_in_all _ _ _ (omega (arith, c.loop-mention-test.false)) c.loop-mention.invariant.1
