use Rattle.std.proofs.Common.{◌≡◌, ◌∙◌, ◌≤◌, ◌<◌, ◌-◌, ◌*◌, ◌%◌, ◌^◌, ap, ℕ, min, arith}
use Rattle.std.specs.Prelude.{pos}
use Rattle.std.proofs.lemmas.Int.{to_z_pos, ints}
use Rattle.std.proofs.lemmas.Nat.{one_shl, pow_pos}
use Rattle.std.proofs.Math.Pow.{pow_mono}
use mir.Val.{to_z}
use mir.Syntax.{w128}
use Rattle.sem_expr.specs.Rules.{from_to}
use Rattle.sem_bounds.proofs.ranges.value_range.Goals as goal

-- the shifted one is that power of two, and is above 0 and at most 2^126
record IsPower (k : ℕ) : Type 0 where
  shift : (1 * 2 ^ k) % 2 ^ 128 ≡ 2 ^ k
  above : 0 < 2 ^ k
  most : 2 ^ k ≤ 2 ^ 126

power : (most k : ℕ) → k ≡ min most 126 → IsPower k
power most k e =
    let small : k ≤ 126 = omega (arith, e) in
    record { shift = one_shl k 128 (omega (arith, small)); above = pow_pos k; most = pow_mono small }

pub overflow_sub-result : goal.overflow_sub-result
overflow_sub-result c = let p = power c.args.most c.min-many.result c.min-many.ensures in omega (arith, p.shift, p.above)

pub overflow_cast-result : goal.overflow_cast-result
overflow_cast-result c = let p = power c.args.most c.min-many.result c.min-many.ensures in omega (arith, ints, p.shift, p.above, p.most)

pub returns : goal.returns
returns c =
    let p = power c.args.most c.min-many.result c.min-many.ensures in
    ap (λ n. from_to (pos 0) (to_z w128 (n - 1))) p.shift ∙ ap (from_to (pos 0)) (to_z_pos w128 (2 ^ c.min-many.result - 1) (omega (arith, p.above, p.most)))
    ∙ ap (λ n. from_to (pos 0) (pos (2 ^ n - 1))) c.min-many.ensures
