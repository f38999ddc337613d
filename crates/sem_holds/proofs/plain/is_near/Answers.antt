use Rattle.std.proofs.Common.{rules, ◌≡◌, ◌∙◌, sym, ap, to_z, of_z}
use Rattle.std.specs.Prelude.{Some}
use Rattle.std.specs.Option.{option_copied}
use mir.Syntax.{w128}
use Rattle.sem_context.specs.Entries.{bits_at}
use Rattle.sem_expr.specs.Known.{assignment_of}
use Rattle.sem_filling.proofs.Coded.{near_is}
use Rattle.sem_holds.proofs.plain.is_near.Goals as goal

pub returns : goal.returns
returns c =
    let p = to_z w128 (of_z w128 c.in-Some.bits) in
    let q = to_z w128 (of_z w128 c.in-Some-number_in.offset) in
    let kept_p : p ≡ c.in-Some.bits = (search rules) in
    let kept_q : q ≡ c.in-Some-number_in.offset = (search rules) in
    near_is (bits_at c.args.frame.now.context.now) c.args.frame.now.path.now c.args.level.now.filling.now (assignment_of c.args.level.now.known) c.args.field.now c.args.filled.now c.requires.outer
    c.args.bits.now c.args.offset.now p q (option_copied c.in_ok-reference.reference) _ c.is_found.result
    (sym c.number_in.ensures ∙ c.in-Some.is ∙ ap Some (sym kept_p)) (sym c.number_in-2.ensures ∙ c.in-Some-number_in.is ∙ ap Some (sym kept_q))
    c.in_ok-reference.ensures c.in_ok-low.ensures c.is_found.ensures
