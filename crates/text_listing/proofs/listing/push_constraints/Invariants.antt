use Rattle.std.specs.Prelude.{◌++◌, string_bytes}
use Rattle.text_listing.specs.Shown.{constraints_text, constraint_line}
use Rattle.text_listing.proofs.KnownWalks.{Goes}
use Rattle.text_listing.proofs.listing.push_constraints.Given as goal

abbrev pub invariant-loop-number : goal.invariant-loop-number
invariant-loop-number l = Goes (λ c. constraint_line l.places c.0 c.1) l.constraints l.number (string_bytes l.output) (string_bytes l.fn.output ++ constraints_text l.places l.constraints)
