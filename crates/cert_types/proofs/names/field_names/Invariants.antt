use Rattle.std.proofs.Common.{◌≡◌, ◌++◌, drop, map}
use Rattle.cert_types.proofs.names.field_names.Given as goal

abbrev pub invariant-loop-field : goal.invariant-loop-field
invariant-loop-field l = l.names ++ map (λ d. d.declared.name) (drop l.field-index l.fields) ≡ map (λ d. d.declared.name) l.fields
