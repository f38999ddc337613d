use Rattle.cert_prove.proofs.MarkingBits.{clear_gone, clear_others}
use Rattle.cert_prove.proofs.marks.clear.Goals as goal

pub returns-clause-gone : goal.returns-clause-gone
returns-clause-gone c = clear_gone c.args.due.now c.set.new.self c.args.step c.word_at.result c.requires c.word_at.ensures c.set.ensures

pub returns-clause-others : goal.returns-clause-others
returns-clause-others c = clear_others c.args.due.now c.set.new.self c.args.step c.word_at.result c.requires c.word_at.ensures c.set.ensures
