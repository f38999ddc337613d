use Rattle.std.proofs.Common.{rules, ◌≡◌, ◌∙◌, sym, ap, to_z, of_z}
use Rattle.std.specs.Prelude.{Some}
use Rattle.std.specs.Option.{option_copied}
use mir.Syntax.{w128}
use Rattle.sem_library.specs.Methods.{IsOnly, Lib, lsb}
use Rattle.sem_filling.proofs.Coded.{ok_weaker}
use Rattle.walk_steps.specs.Methods.{LsbBy}
use Rattle.walk_steps.proofs.MethodsFound.{only_lsb}
use Rattle.walk_steps.proofs.methods.lsb_found.Goals as goal

pub returns : goal.returns
returns c =
    let p = to_z w128 (of_z w128 c.in-Some.bits) in
    let q = to_z w128 (of_z w128 c.in-Some-offset.offset) in
    let kept_p : p ≡ c.in-Some.bits = (search rules) in
    let kept_q : q ≡ c.in-Some-offset.offset = (search rules) in
    let ref = option_copied c.args.reference in
    ok_weaker (IsOnly (λ u. Lib (lsb p q) ref u c.args.compressed.now)) (IsOnly (LsbBy c.args.bits c.args.offset ref c.args.compressed.now)) c.lsb_up.result
    (λ o. only_lsb c.args.bits c.args.offset p q ref c.args.compressed.now o (c.in-Some.is ∙ ap Some (sym kept_p)) (c.in-Some-offset.is ∙ ap Some (sym kept_q)))
    c.lsb_up.ensures
