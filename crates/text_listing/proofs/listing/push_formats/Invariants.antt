use Rattle.std.specs.Prelude.{◌++◌, string_bytes, slice_get}
use Rattle.text_listing.specs.Shown.{formats_text, format_text, packed_bounds}
use Rattle.text_listing.proofs.KnownWalks.{Goes}
use Rattle.text_listing.proofs.listing.push_formats.Given as goal

abbrev pub invariant-loop-n : goal.invariant-loop-n
invariant-loop-n l = Goes (λ f. format_text l.places (packed_bounds (slice_get l.sizes f.0)) f.1) l.formats l.n (string_bytes l.output) (string_bytes l.fn.output ++ formats_text l.places l.sizes l.formats)
