use Rattle.std.proofs.Common.{arith, ◌∙◌}
use Rattle.text_sections.specs.Fields.{with_own}
use Rattle.text_sections.proofs.FieldsOwned.{all_owned, ended}
use Rattle.text_sections.proofs.fields.own_encodings.Goals as goal

pub returns : goal.returns
returns c = λ all is.
    let text = c.args.text.now in
    ended (with_own text c.args.fields.now.words) c.args.own.now c.loop-k.k c.loop-k.found (omega (arith, c.loop-k-test.false)) c.loop-k.invariant ∙ all_owned text all c.args.own.now c.args.fields.now is
