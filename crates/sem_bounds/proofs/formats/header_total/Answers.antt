use Rattle.std.proofs.Common.{◌∙◌, ap, ◌+◌}
use Rattle.sem_profile.specs.Formats.{header_bounds}
use Rattle.sem_bounds.proofs.FormatsTotals.{indexed-part}
use Rattle.sem_bounds.proofs.formats.header_total.Goals as goal

pub plus-sum-requires : goal.plus-sum-requires
plus-sum-requires c =
    (indexed-part (header_bounds c.args.sizes.now) c.args.fields.now c.loop-field.field-index c.loop-field.place c.field-item.result c.loop-field.sum c.header_bounds.result
    c.loop-field-test.true c.field-item.is c.loop-field.invariant c.header_bounds.ensures).fits c.requires

pub loop-field-preserved : goal.loop-field-preserved
loop-field-preserved c = (
  ap (λ k. k + 1) c.loop-field.invariant.0,
  c.plus-sum.ensures
      ∙ (indexed-part (header_bounds c.args.sizes.now) c.args.fields.now c.loop-field.field-index c.loop-field.place c.field-item.result c.loop-field.sum c.header_bounds.result
      c.loop-field-test.true c.field-item.is c.loop-field.invariant c.header_bounds.ensures).is,
)
