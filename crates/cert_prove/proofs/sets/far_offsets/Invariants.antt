use Rattle.std.proofs.Common.{◌≡◌, ◌++◌, drop}
use Rattle.std.specs.List.{filter, flat_map}
use Rattle.std.specs.HashMap.{keys}
use Rattle.cert_prove.specs.Known as spec
use Rattle.cert_prove.proofs.sets.far_offsets.Given as goal

abbrev pub invariant-loop-told : goal.invariant-loop-told
invariant-loop-told l = l.far ++ flat_map (λ t. filter spec.is_far (keys t.bits)) (drop l.told-index l.tolds) ≡ flat_map (λ t. filter spec.is_far (keys t.bits)) l.tolds
