use Rattle.std.proofs.Common.{Bool, List, ◌≡◌, ◌≤◌, ◌<◌, ◌*◌, ◌%◌, ◌^◌, ◌∙◌, ap, arith, length}
use Rattle.std.specs.Option.{option_copied, IsSomeAnd}
use Rattle.std.proofs.lemmas.Int.{to_z-of_z}
use Rattle.std.proofs.lemmas.Nat.{one_shl}
use Rattle.std.proofs.lemmas.Result.{IfOk-weaker}
use mir.Syntax.{w128}
use Rattle.sem_library.specs.Methods.{LsbHolds, IsLowPart, IsOnly, lsb_start}
use Rattle.sem_library.proofs.MethodsSpelling.{from_passed, only_along}
use Rattle.sem_library.proofs.LsbModuli.{distance_of}
use Rattle.sem_library.proofs.MethodsLasts.{down_none, down_to, down_from}
use Rattle.sem_library.proofs.lsb.lsb_down.Goals as goal

pub returns-then-distance-count : goal.returns-then-distance-count
returns-then-distance-count c = λ x s.
    let r = c.in-Some.last.now in
    let u = c.args.u.now in
    let as_long : length u ≡ length r = omega (arith, c.if-len.false, c.len.ensures.value, c.len-2.ensures.value) in
    let count = from_passed c.args.bits c.in-Ok.count c.ranges.bits c.in-Ok.ensures in
    let start = c.in-Some-interval_start.ensures.1 ∙ ap (λ z. lsb_start z r) (to_z-of_z w128 c.args.offset c.ranges.offset) in
    let distance = c.distance.ensures ∙ ap (λ n. distance_of (2 ^ n) c.in-Some-interval_start.start c.in-Some-value.value) c.len-4.ensures.value in
    let shift : (1 * 2 ^ c.in-Ok.count) % 2 ^ 128 ≡ 2 ^ c.in-Ok.count = one_shl c.in-Ok.count 128 (omega (arith, c.if-count-len.false, c.len-3.ensures.value, c.in-Some-interval_start.ensures.0)) in
    let far : 2 ^ c.in-Ok.count ≤ c.distance.result = omega (arith, c.if-distance-count.true) in
    let is = ap option_copied c.in-Some.is in
    down_none c.args.bits c.args.offset r u c.in-Some-interval_start.start c.in-Some-value.value c.in-Ok.count c.distance.result as_long c.in-Some-interval_start.ensures.0 count start c.in-Some-value.ensures.1 distance far x (rw is at s)

pub returns : goal.returns
returns c =
    let r = c.in-Some.last.now in
    let u = c.args.u.now in
    let as_long : length u ≡ length r = omega (arith, c.if-len.false, c.len.ensures.value, c.len-2.ensures.value) in
    let within : c.in-Ok.count ≤ length u = omega (arith, c.if-count-len.false, c.len-3.ensures.value) in
    let count = from_passed c.args.bits c.in-Ok.count c.ranges.bits c.in-Ok.ensures in
    let start = c.in-Some-interval_start.ensures.1 ∙ ap (λ z. lsb_start z r) (to_z-of_z w128 c.args.offset c.ranges.offset) in
    let distance = c.distance.ensures ∙ ap (λ n. distance_of (2 ^ n) c.in-Some-interval_start.start c.in-Some-value.value) c.len-4.ensures.value in
    let shift : (1 * 2 ^ c.in-Ok.count) % 2 ^ 128 ≡ 2 ^ c.in-Ok.count = one_shl c.in-Ok.count 128 (omega (arith, c.in-Some-interval_start.ensures.0)) in
    let near : c.distance.result < 2 ^ c.in-Ok.count = omega (arith, c.if-distance-count.false) in
    let is = ap option_copied c.in-Some.is in
    let passed = to_z-of_z w128 c.args.bits c.ranges.bits in
    let P : List Bool → Type 0 = λ x. IsSomeAnd (option_copied c.args.reference) (λ s. LsbHolds c.args.bits c.args.offset s u x) in
    IfOk-weaker c.low_bits.result (IsOnly (IsLowPart c.args.bits c.in-Some-value.value)) (IsOnly P)
    (λ o h. only_along (IsLowPart c.args.bits c.in-Some-value.value) P o
    (λ x s. rw is (down_to c.args.bits c.args.offset r u c.in-Some-interval_start.start c.in-Some-value.value c.in-Ok.count c.distance.result as_long c.in-Some-interval_start.ensures.0 count start c.in-Some-value.ensures.1 distance near within x s))
    (λ x s. down_from c.args.bits c.args.offset r u c.in-Some-interval_start.start c.in-Some-value.value c.in-Ok.count c.distance.result as_long c.in-Some-interval_start.ensures.0 count start c.in-Some-value.ensures.1 distance x (rw is at s))
    h)
    (rw (← passed) c.low_bits.ensures)
