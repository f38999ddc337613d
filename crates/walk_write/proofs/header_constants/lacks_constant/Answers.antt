use Rattle.std.proofs.Common.{rules, ◌≡◌, false, ap, subst, drop, to_z, of_z}
use mir.Syntax.{w128}
use Rattle.sem_library.specs.Methods.{uncompressed_value}
use Rattle.sem_profile.specs.declared.profile.Encoding.TheVariants as encoding
use Rattle.walk_write.specs.Refutation.{IsElse, of_constant}
use Rattle.walk_write.proofs.header_constants.lacks_constant.Goals as goal

pub returns : goal.returns
returns c = λ t p.
    let k = c.in-UncompressedValue in
    let count = c.in-Some.count in
    let number = c.in-Some-value.number in
    let bits = drop c.args.begin c.args.source.now.left in
    let count_kept : to_z w128 (of_z w128 count) ≡ count = (search rules) in
    let number_kept : to_z w128 (of_z w128 number) ≡ number = (search rules) in
    let other : c.is_spelled.result ≡ false = (search rules) in
    of_constant k.length k.value count number (ap encoding.Library k.is) c.in-Some.ensures c.in-Some-value.ensures
    (λ ref. subst (λ z. IsElse (uncompressed_value count z) ref bits) number_kept (subst (λ z. IsElse (uncompressed_value z (to_z w128 (of_z w128 number))) ref bits) count_kept (c.is_spelled.ensures other ref)))
