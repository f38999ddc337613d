use Rattle.text_methods.proofs.MethodFormatsParts.{with_givens}
use Rattle.text_methods.proofs.methods.method_body.Goals as goal

pub returns : goal.returns
returns c =
    with_givens c.args.file.now c.args.method.now c.args.is_top _ _ c.in_ok-given.given.fault c.in_ok-body.body.fault _ c.in_ok-given.ensures c.in_ok-body.ensures c.earlier.ensures
