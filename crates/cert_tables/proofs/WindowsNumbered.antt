-- The bits of a number, one by one.
use Rattle.std.proofs.Common.{◌≡◌, ℕ, ◌-◌, ◌/◌, ◌%◌, ◌^◌, ◌<◌, ◌≤◌, ◌==◌, sym, ◌∙◌, ap, false, arith}
use Rattle.std.specs.Prelude.{slice_get, Some, None}
use Rattle.std.proofs.lemmas.Option.{slice_get-get_or, slice_get_past}
use Rattle.sem_bits.specs.Number.{enc}
use Rattle.sem_bits.proofs.Numbers.{length-enc}
use Rattle.sem_bits.proofs.Words.{enc_bit}

pub bit_there : (w v i : ℕ) → i < w → Some (v / 2 ^ (w - 1 - i) % 2 == 1) ≡ slice_get (enc w v) i
bit_there w v i h = ap Some (sym (enc_bit w v i h)) ∙ sym (slice_get-get_or (enc w v) i false (omega (arith, length-enc w v)))

pub bit_past : (w v i : ℕ) → w ≤ i → None ≡ slice_get (enc w v) i
bit_past w v i h = sym (slice_get_past (enc w v) i (omega (arith, length-enc w v)))
