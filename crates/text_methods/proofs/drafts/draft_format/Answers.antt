use Rattle.std.proofs.Common.{ap}
use Rattle.std.specs.Option.{option_map}
use Rattle.text_tree.specs.declared.tree.Section.{Section}
use Rattle.text_methods.proofs.KeptLemmas.{kept_in_scope, are_said, are_given}
use Rattle.text_methods.proofs.drafts.draft_format.Goals as goal

pub format_encodings-requires-clause-given : goal.format_encodings-requires-clause-given
format_encodings-requires-clause-given c =
    let x = c.args.setting.now in
    are_given c.new-scope.result x.methods.now x.sections.now c.args.kept.now
    (kept_in_scope x c.new-scope.result _ c.in_ok-fields.fields c.args.kept.now c.new-scope.ensures c.in_ok-fields.ensures c.requires.kept)

pub format_encodings-requires-clause-own : goal.format_encodings-requires-clause-own
format_encodings-requires-clause-own c = rw c.as_slice-items.ensures (ap (option_map (λ (z : Section). z.items)) c.requires.section)

pub format_constraints-requires : goal.format_constraints-requires
format_constraints-requires c =
    let x = c.args.setting.now in
    are_said c.new-scope.result x.methods.now x.sections.now c.args.kept.now
    (kept_in_scope x c.new-scope.result _ c.in_ok-fields.fields c.args.kept.now c.new-scope.ensures c.in_ok-fields.ensures c.requires.kept)

pub format_encodings-requires-clause-bare : goal.format_encodings-requires-clause-bare
format_encodings-requires-clause-bare c = c.requires.kept.bare
