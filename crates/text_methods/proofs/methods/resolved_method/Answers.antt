use Rattle.std.proofs.Common.{refl, ◌∙◌}
use Rattle.text_methods.proofs.MethodFormatsParts.{with_body}
use Rattle.text_methods.proofs.methods.resolved_method.Goals as goal

pub returns : goal.returns
returns c = λ names table.
    with_body c.args.file.now names c.args.method.now c.args.is_top _ c.in_ok-named.named c.in_ok-body.body.fault _ (c.in_ok-named.ensures names table) c.in_ok-body.ensures c.earlier.ensures
    (c.in_ok-name.ensures ∙ c.word.ensures) refl (rw c.as_slice.ensures at c.in_ok-parameters.ensures)
