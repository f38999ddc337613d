use Rattle.std.proofs.Common.{rules, refl, ◌≡◌, ◌∙◌, sym, ap, to_z, of_z}
use Rattle.std.specs.Prelude.{Some}
use mir.Syntax.{w128}
use Rattle.sem_expr.specs.Known.{assignment_of}
use Rattle.sem_filling.proofs.Coded.{summed_is}
use Rattle.sem_holds.proofs.plain.is_summed.Goals as goal

pub number_in-requires : goal.number_in-requires
number_in-requires c = c.requires.ranged 0 _ refl

pub number_in-requires-2 : goal.number_in-requires-2
number_in-requires-2 c = c.requires.ranged 1 _ refl

pub number_in-requires-3 : goal.number_in-requires-3
number_in-requires-3 c = c.requires.ranged 2 _ refl

pub number_in-requires-4 : goal.number_in-requires-4
number_in-requires-4 c = c.requires.ranged 3 _ refl

pub returns : goal.returns
returns c =
    let p = to_z w128 (of_z w128 c.in-Some.bits) in
    let q = to_z w128 (of_z w128 c.in-Some-number_in.polynomial) in
    let r = to_z w128 (of_z w128 c.in-Some-number_in-2.initial) in
    let s = to_z w128 (of_z w128 c.in-Some-number_in-3.length) in
    let kept_p : p ≡ c.in-Some.bits = (search rules) in
    let kept_q : q ≡ c.in-Some-number_in.polynomial = (search rules) in
    let kept_r : r ≡ c.in-Some-number_in-2.initial = (search rules) in
    let kept_s : s ≡ c.in-Some-number_in-3.length = (search rules) in
    λ ctx path d.
    summed_is ctx path c.args.level.now.filling.now (assignment_of c.args.level.now.known) d c.args.filled.now c.requires.outer
    c.args.crc.now p q r s c.covered_by-covered.result.now _ c.is_found.result
    (sym c.number_in.ensures ∙ c.in-Some.is ∙ ap Some (sym kept_p)) (sym c.number_in-2.ensures ∙ c.in-Some-number_in.is ∙ ap Some (sym kept_q))
    (sym c.number_in-3.ensures ∙ c.in-Some-number_in-2.is ∙ ap Some (sym kept_r)) (sym c.number_in-4.ensures ∙ c.in-Some-number_in-3.is ∙ ap Some (sym kept_s))
    c.covered_by-covered.ensures c.in_ok-sum.ensures c.is_found.ensures
