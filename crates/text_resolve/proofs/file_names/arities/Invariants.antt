use Rattle.std.proofs.Common.{◌≡◌, ◌++◌, drop}
use Rattle.text_resolve.specs.FileNames.{arities_of}
use Rattle.text_resolve.proofs.file_names.arities.Given as goal

abbrev pub invariant-loop-part : goal.invariant-loop-part
invariant-loop-part l = l.arities ++ arities_of (drop l.part-index l.parts) ≡ arities_of l.parts
