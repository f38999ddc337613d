use Rattle.std.proofs.Common.{◌∙◌, ap}
use Rattle.std.specs.Global.{Global}
use Rattle.std.specs.Prelude.{Ok, String}
use Rattle.tool_run.specs.declared.program.Reply.TheVariants.{Print, Tell}
use Rattle.tool_run.proofs.ProgramEndings.{print_never_fails, printed, replied_as, told_alone, unwritten}
use Rattle.tool_run.proofs.program.run.Goals as goal

pub returns-then-write_out-clause-gives : goal.returns-then-write_out-clause-gives
returns-then-write_out-clause-gives g c =
    let replied = replied_as _ _ _ (Print c.in-Ok-Print.status c.in-Ok-Print.output) c.reply_from.ensures.replies (c.in-Ok-Print.is ∙ ap Ok c.in-Ok-Print.field-0-is) in
    printed (String Global) _ _ c.in-Ok-Print.status c.in-Ok-Print.output _ _ _ replied c.as_bytes.ensures.value (c.write_out.ensures.whole c.if-write_out.true)

pub returns-then-write_out-clause-failed : goal.returns-then-write_out-clause-failed
returns-then-write_out-clause-failed g c =
    let replied = replied_as _ _ _ (Print c.in-Ok-Print.status c.in-Ok-Print.output) c.reply_from.ensures.replies (c.in-Ok-Print.is ∙ ap Ok c.in-Ok-Print.field-0-is) in
    print_never_fails _ _ c.in-Ok-Print.status c.in-Ok-Print.output _ _ replied

pub returns-in-Ok-Print-clause-gives : goal.returns-in-Ok-Print-clause-gives
returns-in-Ok-Print-clause-gives g c =
    let replied = replied_as _ _ _ (Print c.in-Ok-Print.status c.in-Ok-Print.output) c.reply_from.ensures.replies (c.in-Ok-Print.is ∙ ap Ok c.in-Ok-Print.field-0-is) in
    unwritten (String Global) _ _ c.in-Ok-Print.status c.in-Ok-Print.output _ _ _ replied c.as_bytes.ensures.value c.write_out.ensures.front

pub returns-in-Ok-Tell-clause-gives : goal.returns-in-Ok-Tell-clause-gives
returns-in-Ok-Tell-clause-gives g c =
    let replied = replied_as _ _ _ (Tell c.in-Ok-Tell.status c.in-Ok-Tell.text) c.reply_from.ensures.replies (c.in-Ok-Tell.is ∙ ap Ok c.in-Ok-Tell.field-0-is) in
    told_alone (String Global) _ _ c.in-Ok-Tell.status c.in-Ok-Tell.text c.in-Ok-Tell.text _ replied
