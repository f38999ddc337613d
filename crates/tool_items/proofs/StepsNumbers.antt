-- Powers of two as far as 64 bits.
use Rattle.std.proofs.Common.{ℕ, ◌<◌, ◌≤◌, ◌^◌}
use Rattle.std.proofs.Math.Pow.{pow_mono}
use Rattle.std.proofs.lemmas.Nat.{pow_pos}

pub few : (n : ℕ) → n ≤ 64 → 2 ^ n ≤ 2 ^ 64
few n h = pow_mono h

pub some : (n : ℕ) → 0 < 2 ^ n
some n = pow_pos n
