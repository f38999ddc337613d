use Rattle.std.proofs.Common.{◌≡◌, take}
use Rattle.std.specs.Prelude.{None}
use Rattle.sem_profile.specs.declared.extent.Extent.TheVariants.{Whole}
use Rattle.sem_profile.specs.BoundsFaults.{earliest, constraint_fault}
use Rattle.sem_profile.specs.Ranging.{format_ranges}
use Rattle.sem_bounds.proofs.glance.constraints_quiet.Given as goal

abbrev pub invariant-loop-constraint : goal.invariant-loop-constraint
invariant-loop-constraint l =
    earliest (constraint_fault Whole l.format l.sizes (format_ranges l.sizes l.parameters)) (take l.constraint-index l.format.constraints) ≡ None
