use Rattle.std.proofs.Common.{refl, sym, ◌∙◌}
use Rattle.text_methods.proofs.MethodFormatsLeading.{with_format, without_format}
use Rattle.text_methods.proofs.method_formats.add_section.Goals as goal

pub returns-in_ok-push : goal.returns-in_ok-push
returns-in_ok-push c = λ base default rest so.
    with_format c.args.setting.now c.args.place c.args.section.now rest _ _ c.in_ok-resolved.resolved c.requires.own (sym c.is_in.ensures ∙ c.if-is_in.true) (c.in_ok-resolved.ensures base default) c.in_ok-push.ensures.ok c.earlier-all.ensures so

pub returns-else-is_in : goal.returns-else-is_in
returns-else-is_in c = λ base default rest so.
    without_format c.args.setting.now c.args.place c.args.section.now rest _ _ (sym c.is_in.ensures ∙ c.if-is_in.false) refl refl so
