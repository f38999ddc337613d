use Rattle.std.proofs.Common.{◌≡◌, drop}
use Rattle.walk_write.specs.Premises.{digit_of}
use Rattle.walk_write.proofs.premises.digit_of.Given as goal

abbrev pub invariant-loop-chosen : goal.invariant-loop-chosen
invariant-loop-chosen l = digit_of (drop l.chosen-index l.choices) l.field ≡ digit_of l.choices l.field
