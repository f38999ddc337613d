use Rattle.std.proofs.Common.{◌≡◌, ◌++◌, drop}
use Rattle.text_methods.specs.Fields.{joined}
use Rattle.text_methods.proofs.fields.joined_fields.Given as goal

abbrev pub invariant-loop-place : goal.invariant-loop-place
invariant-loop-place l = l.all ++ joined l.setting (drop l.place l.mentions) (drop l.place l.encodings) ≡ joined l.setting l.mentions l.encodings
