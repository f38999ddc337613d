use Rattle.text_sections.proofs.CausesSeconds.{NoneSecond}
use Rattle.text_sections.proofs.repeats.second_of_few.Given as goal

abbrev pub invariant-loop-place : goal.invariant-loop-place
invariant-loop-place l = NoneSecond l.text l.mentions l.place
