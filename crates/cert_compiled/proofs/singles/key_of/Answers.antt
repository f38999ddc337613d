use Rattle.std.proofs.Common.{refl, subst}
use Rattle.std.specs.Prelude.{IfSome}
use Rattle.std.proofs.lemmas.Option.{slice_get_read}
use Rattle.cert_compiled.specs.Single.{Keeps}
use Rattle.cert_compiled.proofs.Telling.{key_there}
use Rattle.cert_compiled.proofs.singles.key_of.Goals as goal

pub returns-then-is_some : goal.returns-then-is_some
returns-then-is_some c =
    let i = c.loop-constraint.constraint-index in
    let here = slice_get_read c.args.constraints.now _ i c.constraint-item.result refl c.loop-constraint-test.true c.constraint-item.is in
    key_there c.args.parameter c.args.constraints.now i c.constraint-item.result c.key_in-key.result here (subst (λ z. IfSome c.key_in-key.result (λ key. Keeps c.args.parameter key z)) c.get.ensures c.key_in-key.ensures)
