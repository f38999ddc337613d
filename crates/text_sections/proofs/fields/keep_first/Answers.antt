use Rattle.std.proofs.Common.{◌∙◌, ap, sym, Some}
use Rattle.text_sections.proofs.FieldsOwned.{put_there, kept_there, past_there}
use Rattle.text_sections.proofs.fields.keep_first.Goals as goal

pub returns-in-Some-None : goal.returns-in-Some-None
returns-in-Some-None c = c.set.ensures ∙ put_there c.args.found.now c.args.place c.args.mention (sym c.in-Some-None.ensures.value ∙ ap Some c.in-Some-None.field-0-is)

pub returns-in-Some-Some : goal.returns-in-Some-Some
returns-in-Some-Some c = kept_there c.args.found.now c.args.place c.args.mention c.in-Some-Some.field-0-0 (sym c.in-Some-Some.ensures.value ∙ ap Some c.in-Some-Some.field-0-is)

pub returns-in-None : goal.returns-in-None
returns-in-None c = past_there c.args.found.now c.args.place c.args.mention (sym c.in-None.ensures.value)
