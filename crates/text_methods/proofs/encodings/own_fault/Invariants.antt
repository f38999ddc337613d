use Rattle.std.proofs.Common.{◌≡◌, fold, drop}
use Rattle.sem_profile.specs.Precedence.{earlier, earliest}
use Rattle.text_methods.specs.Encodings.{own_fault}
use Rattle.text_methods.proofs.encodings.own_fault.Given as goal

abbrev pub invariant-loop-place : goal.invariant-loop-place
invariant-loop-place l = fold (λ found item. earlier found (own_fault l.scope l.methods item)) l.fault (drop l.place l.own.items.now) ≡ earliest (own_fault l.scope l.methods) l.own.items.now
