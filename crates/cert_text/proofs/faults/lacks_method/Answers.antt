use Rattle.std.proofs.Common.{◌∙◌, sym, ap}
use Rattle.cert_text.specs.Shapes.{is_bare, lacks_method}
use Rattle.cert_text.proofs.DraftsPieces.{front_more}
use Rattle.cert_text.proofs.faults.lacks_method.Goals as goal

pub returns : goal.returns
returns c = c.is_bare.ensures ∙ ap is_bare c.method_named.ensures ∙ sym (ap (lacks_method c.args.methods.now) (front_more c.args.more.now _ c.in-len1-up.len_at_least))
