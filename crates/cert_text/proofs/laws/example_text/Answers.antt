use Rattle.cert_text.proofs.Example.{is_printed, referring_is_printed}
use Rattle.cert_text.proofs.laws.example_text.Goals as goal

pub returns-clause-first : goal.returns-clause-first
returns-clause-first c = is_printed

pub returns-clause-second : goal.returns-clause-second
returns-clause-second c = referring_is_printed
