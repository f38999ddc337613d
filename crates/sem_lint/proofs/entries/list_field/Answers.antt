use Rattle.std.proofs.Common.{string_bytes}
use Rattle.sem_lint.proofs.EntriesListed.{field_passed}
use Rattle.sem_lint.proofs.entries.list_field.Goals as goal

pub returns : goal.returns
returns c =
    field_passed c.args.path.now (string_bytes c.in_ok-entry.entry) c.args.field.now c.args.left.now c.list_entry.new.left c.list_entry.result (rw c.as_str.ensures at c.in_ok-entry.ensures) c.list_entry.ensures.stay c.list_entry.ensures.there
