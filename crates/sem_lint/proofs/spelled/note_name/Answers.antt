use Rattle.std.proofs.Common.{Some, ap, cond, ◌∙◌, string_bytes}
use Rattle.std.specs.BTreeMap.{get_by_text}
use Rattle.std.specs.Str.{bytes_eq}
use Rattle.sem_lint.specs.Spelled.{alone_by}
use Rattle.std.proofs.lemmas.Map.Text.{btree_map_updates_text}
use Rattle.sem_lint.proofs.SpelledOwners.{name_noted}
use Rattle.sem_lint.proofs.spelled.note_name.Goals as goal

pub returns : goal.returns
returns c name n =
    let key = string_bytes c.in_ok-from_str.field-0 in
    let before = get_by_text c.args.table.now in
    ap (λ o. alone_by o n) (btree_map_updates_text key c.args.table.now c.insert.new.self (Some c.owner_with-owner.result) c.in_ok-insert.ensures.updates name)
    ∙ ap (λ w. alone_by (cond (bytes_eq key name) (Some w) (before name)) n) (rw c.get.ensures.value at c.owner_with-owner.ensures)
    ∙ name_noted c.args.own.now key name c.args.number n (before c.args.own.now) (before name) c.in_ok-from_str.ensures.ok (λ e. ap before e)
