use Rattle.cert_candidates.proofs.CodesKept.{reading_starts, reading_passes, reading_parts, ways_of_choice, ways_of_call, reading_reaches, reading_ends}
use Rattle.cert_candidates.proofs.laws.reading.Goals as goal

pub returns : goal.returns
returns c = record { starts = reading_starts; passes = reading_passes; parts = reading_parts; choice = ways_of_choice; call = ways_of_call; reaches = reading_reaches; ends = reading_ends }
