use Rattle.std.proofs.Common.{sym}
use Rattle.cert_text.proofs.DraftsPieces.{many_words}
use Rattle.cert_text.proofs.faults.line_fault.Goals as goal

pub returns-in_default-2 : goal.returns-in_default-2
returns-in_default-2 c = sym (many_words c.args.version c.args.words.now c.in_default.len_at_least)
