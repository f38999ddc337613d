use Rattle.std.proofs.Common.{Some, string_bytes}
use Rattle.std.proofs.lemmas.Map.Text.{btree_map_updates_text}
use Rattle.sem_lint.proofs.EntriesListed.{put_stays}
use Rattle.sem_lint.proofs.entries.list_entry.Goals as goal

pub returns-clause-stay : goal.returns-clause-stay
returns-clause-stay c =
    put_stays c.args.left.now c.insert.new.self (string_bytes c.args.entry) c.args.source (btree_map_updates_text (string_bytes c.args.entry) c.args.left.now c.insert.new.self (Some c.args.source) c.in_ok-insert.ensures.updates)
