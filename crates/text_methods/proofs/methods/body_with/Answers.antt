use Rattle.std.proofs.Common.{refl}
use Rattle.std.proofs.lemmas.Result.{IfOk-weaker}
use Rattle.text_methods.specs.declared.methods.MethodBody.{MethodBody}
use Rattle.text_methods.proofs.MethodFormatsParts.{with_formats}
use Rattle.text_methods.proofs.methods.body_with.Goals as goal

pub returns : goal.returns
returns c =
    IfOk-weaker c.body_of.result _ _
    (λ (b : MethodBody) both. with_formats c.args.file.now c.args.method.now _ c.args.givens.now b.formats b.fault
    (record { text_is = refl; constants_are = refl; values_are = refl; parameters_are = c.requires.parameters; methods_are = refl; sections_are = c.as_slice-sections.ensures })
    (record { names_are = refl; values_are = c.as_slice.ensures; asked_are = refl }) both)
    (c.body_of.ensures c.in_ok-base.ensures c.in_ok-default.ensures)
