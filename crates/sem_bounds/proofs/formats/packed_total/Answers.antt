use Rattle.std.proofs.Common.{◌∙◌, ap, ℕ}
use Rattle.sem_profile.specs.declared.profile.Sizes.{Sizes}
use Rattle.sem_profile.specs.Formats.{sizes_at}
use Rattle.sem_bounds.proofs.FormatsTotals.{mapped-part}
use Rattle.sem_bounds.proofs.formats.packed_total.Goals as goal

pub plus-sum-requires : goal.plus-sum-requires
plus-sum-requires c =
    (mapped-part (λ (i : ℕ). (sizes_at c.args.sizes.now i).compressed) c.args.listing.now c.loop-listed.listed-index 0 c.loop-listed.sum c.sizes_at.result.compressed
    c.loop-listed-test.true c.loop-listed.invariant (ap (λ (s : Sizes). s.compressed) c.sizes_at.ensures)).fits c.requires

pub loop-listed-preserved : goal.loop-listed-preserved
loop-listed-preserved c =
    c.plus-sum.ensures
    ∙ (mapped-part (λ (i : ℕ). (sizes_at c.args.sizes.now i).compressed) c.args.listing.now c.loop-listed.listed-index 0 c.loop-listed.sum c.sizes_at.result.compressed
    c.loop-listed-test.true c.loop-listed.invariant (ap (λ (s : Sizes). s.compressed) c.sizes_at.ensures)).is
