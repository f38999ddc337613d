use Rattle.std.proofs.Common.{◌≡◌, ◌++◌, drop}
use Rattle.text_resolve.specs.Methods.{constant_mentions}
use Rattle.text_resolve.proofs.methods.constant_mentions.Given as goal

abbrev pub invariant-loop-part : goal.invariant-loop-part
invariant-loop-part l = l.all ++ constant_mentions (drop l.part-index l.parts) ≡ constant_mentions l.parts
