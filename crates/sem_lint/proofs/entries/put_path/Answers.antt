use Rattle.std.proofs.Common.{◌∙◌, true, string_bytes}
use Rattle.std.specs.BTreeSet.{contains_text}
use Rattle.std.proofs.lemmas.Map.Text.{btree_set_updates_text}
use Rattle.sem_lint.proofs.EntriesListed.{text_put}
use Rattle.sem_lint.proofs.entries.put_path.Goals as goal

pub returns : goal.returns
returns c p =
    btree_set_updates_text (string_bytes c.in_ok-own.own) c.args.paths.now c.insert.new.self true c.in_ok-insert.ensures.updates p
    ∙ text_put (string_bytes c.in_ok-own.own) c.args.path.now p (contains_text c.args.paths.now p) c.in_ok-own.ensures.ok
