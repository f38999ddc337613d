use Rattle.std.proofs.Common.{◌≡◌, ◌++◌, take, drop}
use Rattle.cert_rules.specs.Facts.{before}
use Rattle.walk_steps.proofs.fronts.parts_before.Given as goal

abbrev pub invariant-loop-place : goal.invariant-loop-place
invariant-loop-place l = take l.place l.parts ++ before l.field (drop l.place l.parts) ≡ before l.field l.parts
