use Rattle.std.proofs.Common.{◌≡◌, ◌∙◌, sym, ap, drop}
use Rattle.std.specs.Prelude.{Some, slice_get}
use Rattle.std.specs.Option.{option_copied}
use Rattle.sem_context.specs.Entries.{bits_at}
use Rattle.cert_rules.specs.Counts.{entry_at}
use Rattle.cert_rules.specs.Trees.{references, way}
use Rattle.cert_tables.specs.Picked.{arrival, formats_of, picked_of}
use Rattle.cert_tables.proofs.WalkingLed.{leaf_told}
use Rattle.cert_tables.proofs.table.Tables.pick.Goals as goal

pub returns-in-Some-leaf_of : goal.returns-in-Some-leaf_of
returns-in-Some-leaf_of c =
    let refs = references (bits_at c.args.frame.now.context.now) c.args.frame.now.path.now (formats_of (slice_get c.args.frame.now.profile.now.methods c.args.frame.now.method)) in
    let bits = drop c.args.from c.args.cursor.now.left in
    let args = c.args.frame.now.arguments.now in
    let told = leaf_told refs bits args c.as_slice-nodes.result.now c.looked_up-begin.result c.in-Some-leaf_of.format c.looked_up-begin.ensures.same c.in-Some-leaf_of.ensures in
    let entry_is : entry_at c.args.certificate.now.methods c.args.frame.now.method ≡ Some c.in-Some.entry.now =
    ap (λ m. entry_at m c.args.frame.now.method) (sym c.methods.ensures) ∙ (sym c.entry_at.ensures ∙ ap option_copied c.in-Some.is) in
    sym (ap (λ e. picked_of (arrival e refs bits args)) entry_is ∙ ap picked_of (ap (way refs bits args 0) (sym c.as_slice-nodes.ensures) ∙ told))
