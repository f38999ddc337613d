use Rattle.std.proofs.Common.{refl}
use Rattle.std.proofs.lemmas.Option.{slice_get_read}
use Rattle.text_methods.specs.Kept.{IsKept}
use Rattle.text_methods.proofs.KeptLemmas.{zip_next}
use Rattle.text_methods.proofs.kept.kept_items.Goals as goal

pub loop-item-preserved : goal.loop-item-preserved
loop-item-preserved c =
    let here = slice_get_read c.args.items.now _ c.loop-item.item-index c.item-item.result refl c.loop-item-test.true c.item-item.is in
    zip_next (IsKept c.args.scope.now c.args.methods.now) c.args.items.now c.loop-item.item-index c.item-item.result c.loop-item.kept _ c.in_ok-kept_statement.field-0
    here c.loop-item.invariant c.in_ok-kept_statement.ensures c.in_ok-push.ensures.ok
