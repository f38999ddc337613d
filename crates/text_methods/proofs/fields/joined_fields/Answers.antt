use Rattle.std.proofs.Common.{refl, ◌∙◌, ap}
use Rattle.std.proofs.lemmas.Option.{slice_get-get_or}
use Rattle.text_methods.specs.Fields.{field}
use Rattle.text_methods.specs.Worded.{IsNamed}
use Rattle.text_methods.proofs.FieldsJoining.{joined_more}
use Rattle.text_methods.proofs.Wording.{one_of}
use Rattle.text_methods.proofs.fields.joined_fields.Goals as goal

pub field-requires-clause-worded : goal.field-requires-clause-worded
field-requires-clause-worded c = one_of (λ m. IsNamed c.args.setting.now.text.now m.name) c.args.mentions.now c.loop-place.place _ c.requires.worded c.loop-place-test.true
