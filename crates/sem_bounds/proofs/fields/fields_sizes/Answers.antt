use Rattle.std.proofs.Common.{◌∙◌, fold}
use Rattle.sem_profile.specs.Fields.{encoded_sizes}
use Rattle.sem_profile.specs.Passes.{indexed, narrow}
use Rattle.sem_profile.proofs.PassesPlaces.{at-end}
use Rattle.sem_bounds.proofs.FieldsNarrowing.{narrow-all}
use Rattle.sem_bounds.proofs.fields.fields_sizes.Goals as goal

pub returns : goal.returns
returns c =
    let table = c.args.methods.now in
    let format = c.args.format.now in
    c.loop-constraint.invariant
    ∙ at-end (fold narrow (indexed (encoded_sizes table format) 0 format.fields)) _ _ _ c.as_slice-constraint-items.ensures c.loop-constraint-test.false
    ∙ narrow-all (encoded_sizes table format) format.fields format.constraints
