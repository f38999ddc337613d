-- Of well-formed methods each call is of one of them.
use Rattle.std.proofs.Common.{List}
use Rattle.std.proofs.lemmas.Option.{slice_get_within}
use Rattle.sem_profile.specs.declared.profile.Method.{Method}
use Rattle.sem_profile.specs.WellFormed.{AreWellFormed}
use Rattle.cert_trees.specs.Calling.{CallsWithin}

pub calls_within : (methods : List Method) → AreWellFormed methods → CallsWithin methods
calls_within methods formed k j m at calls =
    let callee = (formed.formats k calls.format_place m calls.format at calls.format_at).calls calls.field_place j calls.field calls.arguments calls.field_at calls.is_call in
    slice_get_within methods j callee.0 callee.1
