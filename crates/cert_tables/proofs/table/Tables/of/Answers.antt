use Rattle.std.proofs.Common.{◌∙◌, ◌+◌, refl, ap, length}
use Rattle.std.proofs.lemmas.Option.{slice_get_read}
use Rattle.std.proofs.lemmas.List.{length_push}
use Rattle.cert_tables.specs.Tables.{entries_of}
use Rattle.cert_tables.proofs.GrowthLaid.{next_tree, served_more}
use Rattle.cert_tables.proofs.TablesCounted.{tree_few}
use Rattle.cert_tables.proofs.table.Tables.of.Goals as goal

pub loop-entry-preserved : goal.loop-entry-preserved
loop-entry-preserved c =
    let methods = c.args.certificate.now.methods in
    let within = rw c.methods-entry-items.ensures at c.loop-entry-test.true in
    let is = rw c.methods-entry-items.ensures at c.entry-item.is in
    record {
      so_far = next_tree c.loop-entry.making c.entry_tables.new.making methods c.loop-entry.entry-index c.entry-item.result (entries_of methods) within is c.loop-entry.invariant.so_far c.in_ok-tree.ensures.next;
      as_many = ap length c.in_ok-push.ensures.ok ∙ (length_push c.loop-entry.trees c.in_ok-tree.tree ∙ ap (λ k. k + 1) c.loop-entry.invariant.as_many);
      served =
          served_more c.loop-entry.making.entries c.entry_tables.new.making.entries methods c.loop-entry.entry-index c.entry-item.result c.loop-entry.trees c.push.new.self c.in_ok-tree.tree
          within is c.in_ok-tree.ensures.grows c.loop-entry.invariant.as_many c.in_ok-push.ensures.ok c.loop-entry.invariant.served c.in_ok-tree.ensures.serves;
    }

pub entry_tables-requires : goal.entry_tables-requires
entry_tables-requires c =
    let methods = c.args.certificate.now.methods in
    let within = rw c.methods-entry-items.ensures at c.loop-entry-test.true in
    let is = rw c.methods-entry-items.ensures at c.entry-item.is in
    tree_few c.args.certificate.now c.keeps.ensures c.loop-entry.entry-index c.entry-item.result (slice_get_read methods (length methods) c.loop-entry.entry-index c.entry-item.result refl within is)
