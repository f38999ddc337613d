use Rattle.std.proofs.Common.{◌≡◌, take, map}
use Rattle.sem_profile.specs.Formats.{format_sizes}
use Rattle.sem_bounds.proofs.methods.formats_sizes.Given as goal

abbrev pub invariant-loop-format : goal.invariant-loop-format
invariant-loop-format l = l.sizes ≡ map (format_sizes l.table) (take l.format-index l.method.formats)
