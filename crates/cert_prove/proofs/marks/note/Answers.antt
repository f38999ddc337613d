use Rattle.cert_prove.proofs.MarkingBits.{note_keeps, note_noted}
use Rattle.cert_prove.proofs.marks.note.Goals as goal

pub returns-clause-keeps : goal.returns-clause-keeps
returns-clause-keeps c = note_keeps c.args.noted.now c.set.new.self c.args.step c.args.fact c.row_in.result c.word_at.result c.requires.room c.row_in.ensures.row c.word_at.ensures c.set.ensures

pub returns-clause-noted : goal.returns-clause-noted
returns-clause-noted c = note_noted c.args.noted.now c.set.new.self c.args.step c.args.fact c.row_in.result c.word_at.result c.requires.room c.row_in.ensures.row c.word_at.ensures c.set.ensures
