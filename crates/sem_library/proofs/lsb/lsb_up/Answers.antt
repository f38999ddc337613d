use Rattle.std.proofs.Common.{◌≤◌, ◌+◌, ◌%◌, ◌^◌, ◌∙◌, ap, sym, arith, length}
use Rattle.std.specs.Prelude.{pos}
use Rattle.std.specs.Option.{option_copied, IsSomeAnd}
use Rattle.std.proofs.lemmas.Int.{to_z-of_z}
use mir.Syntax.{w128}
use Rattle.sem_bits.proofs.Numbers.{num-below}
use Rattle.sem_library.specs.Methods.{LsbHolds, lsb_start}
use Rattle.sem_library.proofs.MethodsSpelling.{spelled_only_ok, count_passed}
use Rattle.sem_library.proofs.LsbModuli.{ahead}
use Rattle.sem_library.proofs.MethodsLasts.{up_to, up_from}
use Rattle.sem_library.proofs.lsb.lsb_up.Goals as goal

pub member-value-requires-clause-fits : goal.member-value-requires-clause-fits
member-value-requires-clause-fits c = rw (c.in-Some-value.ensures.1, c.len-5.ensures.value) (num-below c.args.c.now)

pub returns : goal.returns
returns c =
    let r = c.in-Some.last.now in
    let x = c.args.c.now in
    let said = ap pos (sym c.len.ensures.value) ∙ count_passed c.len.result c.args.bits c.ranges.bits c.len.type_inv c.if-len-bits.false in
    let within : length x ≤ length r = omega (arith, c.if-len.false, c.len-2.ensures.value, c.len-3.ensures.value) in
    let start = c.in-Some-interval_start.ensures.1 ∙ ap (λ z. lsb_start z r) (to_z-of_z w128 c.args.offset c.ranges.offset) in
    let value = c.member-value.ensures ∙ (λ i. (c.in-Some-interval_start.start + ahead (2 ^ c.len-5.ensures.value i) c.in-Some-interval_start.start c.in-Some-value.low) % 2 ^ c.len-4.ensures.value i) in
    let is = ap option_copied c.in-Some.is in
    spelled_only_ok (λ u. IsSomeAnd (option_copied c.args.reference) (λ s. LsbHolds c.args.bits c.args.offset s u x)) (length r) c.member-value.result c.from_value.result
    (λ u s. rw is (up_to c.args.bits c.args.offset r x c.in-Some-interval_start.start c.in-Some-value.low c.member-value.result c.in-Some-interval_start.ensures.0 said within start c.in-Some-value.ensures.1 value u s))
    (λ u s. up_from c.args.bits c.args.offset r x c.in-Some-interval_start.start c.in-Some-value.low c.member-value.result c.in-Some-interval_start.ensures.0 said within start c.in-Some-value.ensures.1 value u (rw is at s))
    (rw (← c.len-6.ensures.value) c.from_value.ensures)
