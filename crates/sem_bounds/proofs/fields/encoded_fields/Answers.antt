use Rattle.std.proofs.Common.{◌≡◌, length, rules}
use Rattle.sem_profile.specs.Fields.{encoded_sizes}
use Rattle.sem_profile.proofs.PassesPlaces.{indexed-pushed}
use Rattle.sem_bounds.proofs.fields.encoded_fields.Goals as goal

pub loop-field-preserved : goal.loop-field-preserved
loop-field-preserved c =
    let count : c.len-index.result ≡ length c.loop-field.sizes.items = (search rules) in
    indexed-pushed (encoded_sizes c.args.methods.now c.args.format.now) _ _ _ _ _ _ _ _ c.as_slice-field-items.ensures c.loop-field-test.true c.field-item.is c.loop-field.invariant
    count c.encoded_sizes.ensures c.in_ok-push.ensures.items
