use Rattle.std.proofs.Common.{rules, ◌≡◌, ◌∙◌, sym, ap, to_z, of_z, List, Bool, []}
use Rattle.std.specs.Prelude.{Option, Some}
use mir.Syntax.{w128}
use Rattle.sem_library.specs.Methods.{IsOnly, Lib, uncompressed_value}
use Rattle.sem_filling.proofs.Coded.{ok_weaker}
use Rattle.walk_steps.specs.Methods.{SpelledBy}
use Rattle.walk_steps.proofs.MethodsFound.{only_spelled}
use Rattle.walk_steps.proofs.methods.spelled.Goals as goal

pub returns : goal.returns
returns c =
    let p = to_z w128 (of_z w128 c.in-Some.len) in
    let q = to_z w128 (of_z w128 c.in-Some-number.number) in
    let kept_p : p ≡ c.in-Some.len = (search rules) in
    let kept_q : q ≡ c.in-Some-number.number = (search rules) in
    ok_weaker (λ o. (r : Option (List Bool)) → IsOnly (λ u. Lib (uncompressed_value p q) r u []) o) (IsOnly (SpelledBy c.args.len c.args.number)) c.uncompressed_value_up.result
    (λ o. only_spelled c.args.len c.args.number p q o (c.in-Some.is ∙ ap Some (sym kept_p)) (c.in-Some-number.is ∙ ap Some (sym kept_q)))
    (rw c.new.ensures at c.uncompressed_value_up.ensures)
