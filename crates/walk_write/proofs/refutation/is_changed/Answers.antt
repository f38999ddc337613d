use Rattle.std.proofs.Common.{rules, ◌≡◌, false, ap, ◌∙◌, sym, subst, refl, drop}
use Rattle.std.specs.Prelude.{Some}
use Rattle.std.specs.Option.{option_copied}
use Rattle.sem_library.specs.Methods.{static}
use Rattle.walk_write.specs.Refutation.{by_static, IsElse, reference_at}
use Rattle.walk_write.proofs.refutation.is_changed.Goals as goal

pub returns : goal.returns
returns c = λ t known.
    let is : Some c.in-Some.reference.now ≡ reference_at c.args.place.now c.args.field.now = ap option_copied (sym c.in-Some.is) ∙ c.in_ok-found.ensures in
    let other : c.is_there.result ≡ false = (search rules) in
    by_static refl (subst (λ r. IsElse static r (drop c.args.begin c.args.source.now.left)) is (c.is_there.ensures other))
