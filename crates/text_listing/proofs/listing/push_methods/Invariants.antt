use Rattle.std.specs.Prelude.{◌++◌, string_bytes, slice_get}
use Rattle.text_listing.specs.Shown.{shown, method_text, format_sizes}
use Rattle.text_listing.proofs.KnownWalks.{Goes}
use Rattle.text_listing.proofs.listing.push_methods.Given as goal

abbrev pub invariant-loop-k : goal.invariant-loop-k
invariant-loop-k l = Goes (λ m. method_text l.places (format_sizes (slice_get l.sizes m.0)) m.1) l.methods l.k (string_bytes l.output) (string_bytes l.fn.output ++ shown l.places l.methods l.sizes)
