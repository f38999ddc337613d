use Rattle.cert_candidates.proofs.WritingLawsGoing.{choose_law, filled_law}
use Rattle.cert_candidates.proofs.WritingSteps as s
use Rattle.cert_candidates.proofs.writing_laws.steps.Goals as goal

pub returns : goal.returns
returns c = record {
  take = λ methods ctx site n format slots f b h i d e is known. s.taken methods ctx site n format slots f b h i d e is known;
  call = λ methods table are ctx site n format slots f b h i d j es e is asks known. s.called methods ctx site n format slots f b h table are i d j es e is asks known;
  ask = λ methods ctx site n format slots f b h i d e is. s.asked methods ctx site n format slots f b h i d e is;
  choose = choose_law;
  filled = filled_law;
}
