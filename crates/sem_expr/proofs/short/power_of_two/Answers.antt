use Rattle.std.proofs.Common.{◌≡◌, ◌∙◌, ap, ◌*◌, ◌%◌, ◌^◌, ◌≤◌, w64, to_z, arith}
use Rattle.std.proofs.lemmas.Nat.{one_shl}
use Rattle.std.proofs.lemmas.Int.{to_z_pos, ints}
use Rattle.std.proofs.Math.Pow.{pow_mono}
use Rattle.sem_expr.proofs.short.power_of_two.Goals as goal

pub overflow_cast-result-2 : goal.overflow_cast-result-2
overflow_cast-result-2 c =
    let whole : 1 * 2 ^ c.args.exponent % 18446744073709551616 ≡ 2 ^ c.args.exponent = one_shl c.args.exponent 64 (omega (arith, c.requires)) in
    let least : c.args.exponent ≤ 61 = omega (arith, c.requires) in
    omega (arith, ints, whole, pow_mono least)

pub returns : goal.returns
returns c =
    let whole : 1 * 2 ^ c.args.exponent % 18446744073709551616 ≡ 2 ^ c.args.exponent = one_shl c.args.exponent 64 (omega (arith, c.requires)) in
    let least : c.args.exponent ≤ 61 = omega (arith, c.requires) in
    ap (to_z w64) whole ∙ to_z_pos w64 (2 ^ c.args.exponent) (omega (arith, pow_mono least))
