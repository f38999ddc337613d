use Rattle.std.specs.BTreeMap.{get_by_text}
use Rattle.sem_lint.proofs.SpelledOwners.{format_noted}
use Rattle.sem_lint.proofs.spelled.note_format.Goals as goal

pub returns : goal.returns
returns c = format_noted c.note_fields.result (get_by_text c.args.table.now) (get_by_text c.note_fields.new.table) c.args.number c.args.format.now.fields (rw c.as_slice.ensures at c.note_fields.ensures)
