use Rattle.std.proofs.Common.{sym, ap, ◌∙◌}
use Rattle.sem_profile.specs.declared.profile.CrcArguments.{CrcArguments}
use Rattle.sem_profile.specs.declared.profile.Library.TheVariants as library
use Rattle.sem_profile.specs.BoundsLaws.{library_exprs}
use Rattle.sem_expr.specs.Bounds.{bounding_of}
use Rattle.sem_lint.specs.Undefined.{first_undefined, undefined}
use Rattle.sem_lint.proofs.UndefinedValueless.{of_four}
use Rattle.sem_lint.proofs.undefined.undefined_in.Goals as goal

pub returns-in-Crc : goal.returns-in-Crc
returns-in-Crc c =
    let r = bounding_of c.args.ranges.now in
    let crc = c.get.result.now in
    let is = c.in-Crc.is ∙ ap (λ (x : CrcArguments). library.Crc x) (sym c.get.ensures) in
    c.undefined_of_crc.ensures
    ∙ (of_four (undefined r crc.bits) (undefined r crc.polynomial) (undefined r crc.initial) (undefined r crc.length)
    ∙ ap (λ l. first_undefined r (library_exprs l)) (sym is))
