use Rattle.std.proofs.Common.{◌≡◌, length}
use Rattle.std.specs.Option.{option_copied}
use Rattle.cert_compiled.specs.Compiled.{ArePlansOf}
use Rattle.cert_compiled.proofs.compiler.method_acts.Given as goal

abbrev pub invariant-loop-index : goal.invariant-loop-index
invariant-loop-index l = (length l.all ≡ l.index) × ArePlansOf l.formats (option_copied l.sizes) l.all
