use Rattle.std.proofs.Common.{◌≡◌, length}
use Rattle.text_sections.proofs.CausesSeconds.{NoneSecond}
use Rattle.text_sections.proofs.SecondsApart.{AreMarked}
use Rattle.text_sections.proofs.repeats.are_apart.Given as goal

abbrev pub invariant-loop-mention : goal.invariant-loop-mention
invariant-loop-mention l = AreMarked l.text l.mentions l.mention-index l.seen × (length l.seen ≡ 2039) × NoneSecond l.text l.mentions l.mention-index
