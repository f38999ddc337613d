use Rattle.std.proofs.Common.{◌∙◌, ◌++◌, map, ap, sym, string_bytes}
use Rattle.std.specs.List.{flat_map}
use Rattle.sem_filling.specs.FillingLaws.{entries_at}
use Rattle.sem_filling.proofs.EntriesLevels.{entries_are}
use Rattle.sem_filling.proofs.entries.+add_entries.Goals as goal

pub loop-field-init : goal.loop-field-init
loop-field-init t c =
    ap (λ es. map (λ e. (string_bytes e.0, e.1)) c.args.found.now.items ++ es)
    (ap (flat_map (entries_at c.args.path.now)) c.as_slice-field-items.ensures ∙ sym (entries_are c.args.filling.now c.args.path.now))
