use Rattle.std.proofs.Common.{rules, ◌≡◌, ◌∙◌, sym, ap, to_z, of_z, List, Bool, []}
use Rattle.std.specs.Prelude.{Option, Some}
use mir.Syntax.{w128}
use Rattle.sem_library.specs.Methods.{IsOnly, Lib, crc}
use Rattle.sem_filling.proofs.Coded.{ok_weaker}
use Rattle.walk_steps.specs.Methods.{SummedBy}
use Rattle.walk_steps.proofs.MethodsFound.{only_summed}
use Rattle.walk_steps.proofs.methods.checksum.Goals as goal

pub returns : goal.returns
returns c =
    let p = to_z w128 (of_z w128 c.in-Some.bits) in
    let q = to_z w128 (of_z w128 c.in-Some-polynomial.polynomial) in
    let r = to_z w128 (of_z w128 c.in-Some-initial.initial) in
    let s = to_z w128 (of_z w128 c.in-Some-len.len) in
    let kept_p : p ≡ c.in-Some.bits = (search rules) in
    let kept_q : q ≡ c.in-Some-polynomial.polynomial = (search rules) in
    let kept_r : r ≡ c.in-Some-initial.initial = (search rules) in
    let kept_s : s ≡ c.in-Some-len.len = (search rules) in
    let covered = c.args.covered.now in
    ok_weaker (λ o. (ref : Option (List Bool)) → IsOnly (λ x. Lib (crc p q r covered s) ref [] x) o) (IsOnly (SummedBy c.args.bits c.args.polynomial c.args.initial c.args.len covered)) c.crc_down.result
    (λ o. only_summed c.args.bits c.args.polynomial c.args.initial c.args.len p q r s covered o (c.in-Some.is ∙ ap Some (sym kept_p)) (c.in-Some-polynomial.is ∙ ap Some (sym kept_q))
    (c.in-Some-initial.is ∙ ap Some (sym kept_r)) (c.in-Some-len.is ∙ ap Some (sym kept_s)))
    (rw c.new.ensures at c.crc_down.ensures)
