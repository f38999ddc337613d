use Rattle.cert_candidates.proofs.Reading as reading
use Rattle.cert_candidates.proofs.laws.digits.Goals as goal

pub returns : goal.returns
returns c = record {
  begun = reading.begun;
  start = λ methods cert counts are k n format plans at plans_at f c i. reading.start methods cert counts are k n format plans f c at plans_at i.from i.to;
  known = reading.known;
  onward = reading.onward;
  back = reading.back;
  end = reading.end;
  skip = reading.skip;
  shared = reading.shared;
  choice = reading.choice;
  call = reading.call;
}
