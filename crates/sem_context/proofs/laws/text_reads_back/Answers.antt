use Rattle.sem_bits.specs.Lines.{numbered_lines}
use Rattle.sem_context.proofs.EntriesReadings.{reads_back, one_reading, no_fault}
use Rattle.sem_context.proofs.laws.text_reads_back.Goals as goal

pub returns : goal.returns
returns c = record {
  reads = reads_back;
  only = λ text es others t h d r. one_reading (numbered_lines text) others es r (reads_back text es t h d);
  no_fault = λ text es n t h d. no_fault (numbered_lines text) n es (reads_back text es t h d);
}
