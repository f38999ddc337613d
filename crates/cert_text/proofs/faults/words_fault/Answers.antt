use Rattle.std.proofs.Common.{◌∙◌, sym, ap}
use Rattle.cert_text.specs.Shapes.{words_fault}
use Rattle.cert_text.proofs.DraftsPieces.{front_more}
use Rattle.cert_text.proofs.faults.words_fault.Goals as goal

pub returns : goal.returns
returns c = c.shaped_fault.ensures ∙ sym (ap (words_fault c.args.place c.args.methods.now) (front_more c.args.words.now _ c.in-len1-up.len_at_least))
