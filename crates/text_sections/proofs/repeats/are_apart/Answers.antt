use Rattle.std.proofs.Common.{arith}
use Rattle.text_sections.proofs.Tabled.{read_at}
use Rattle.text_sections.proofs.CausesSeconds.{none_in_all}
use Rattle.text_sections.proofs.SecondsApart.{apart_more, free_at}
use Rattle.text_sections.proofs.repeats.are_apart.Goals as goal

pub loop-mention-preserved : goal.loop-mention-preserved
loop-mention-preserved c =
    let mark = c.mark_of-mark.ensures in
    apart_more _ _ _ _ _ _ _ (read_at _ _ _ c.loop-mention-test.true) c.word.ensures mark.value mark.within (free_at _ _ _ c.loop-mention.invariant.1 mark.within c.if-seen-mark.false) c.loop-mention.invariant

pub returns : goal.returns
returns c = λ apart. none_in_all _ _ c.loop-mention.mention-index (omega (arith, c.loop-mention-test.false)) c.loop-mention.invariant.2
