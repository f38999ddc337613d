use Rattle.text_methods.proofs.Wording.{fields_worded}
use Rattle.text_methods.proofs.formats.section_format.Goals as goal

pub joined_fields-requires-clause-worded : goal.joined_fields-requires-clause-worded
joined_fields-requires-clause-worded c =
    rw (c.as_slice-2.ensures, c.in_ok-draft.ensures.fields) (fields_worded c.args.setting.now.text.now c.args.setting.now.sections.now c.args.number c.args.section.now c.requires.sections c.requires.section)

pub joined_fields-requires-clause-kept : goal.joined_fields-requires-clause-kept
joined_fields-requires-clause-kept c = rw c.as_slice.ensures c.requires.kept.fields
