-- The worked trees grow.
use Rattle.std.proofs.Common.{◌≡◌, refl, ℕ, zero, suc, ◌<◌, drop, true, false, [], ◌∷◌, arith}
use Rattle.std.specs.Prelude.{pos}
use Rattle.std.specs.List.{list_all}
use Rattle.std.proofs.lemmas.Bool.{and_right}
use Rattle.sem_bits.specs.Number.{enc}
use Rattle.cert_types.specs.declared.certificate.Version.TheVariants.{One}
use Rattle.cert_types.specs.declared.certificate.Node.TheVariants.{Bit, Parameter, Leaf}
use Rattle.cert_prove.specs.Tree.{all_of, is_longer, parts_at, least_offset, first_equation}
use Rattle.cert_prove.specs.Growing.{stops, goes_on}
use Rattle.cert_prove.specs.TreeExample.{short, full, tick_sizes, irreg_enc, static_enc, opt_sizes, kinds, kind_sizes, TickIsOrdered, OptIsOrdered, KindIsOrdered}
use Rattle.cert_prove.proofs.TreeGrowth.{grown_is_ordered}

pub tick_is_ordered : TickIsOrdered
unfolding enc
tick_is_ordered = grown_is_ordered One (short ∷ full ∷ []) tick_sizes (Bit 0 ∷ Leaf 0 ∷ Leaf 1 ∷ [])
    (goes_on _ (Bit 0) (least_offset {o = 0} refl (λ q lt. absurd (omega (arith, lt)))) (goes_on _ (Leaf 0) refl (goes_on _ (Leaf 1) refl stops)))

-- no bit of either format is known
no_bit : (o : ℕ) → parts_at (all_of (irreg_enc ∷ static_enc ∷ []) opt_sizes) o ≡ false
no_bit o = and_right (list_all (is_longer o) (all_of (irreg_enc ∷ static_enc ∷ []) opt_sizes)) false refl

pub opt_is_ordered : OptIsOrdered
opt_is_ordered = grown_is_ordered One (irreg_enc ∷ static_enc ∷ []) opt_sizes (Parameter 0 (pos 1) ∷ Leaf 0 ∷ Leaf 1 ∷ [])
    (goes_on _ (Parameter 0 (pos 1)) (first_equation {e = record { tested = 0; constant = pos 1; equal = true }} no_bit refl) (goes_on _ (Leaf 0) refl (goes_on _ (Leaf 1) refl stops)))

-- the bit at offset 0 is 1 of two and of three
not_at_first : (q : ℕ) → q < 1 → parts_at (drop 1 (all_of kinds kind_sizes)) q ≡ false
unfolding enc
not_at_first zero lt = refl
not_at_first (suc q) lt = absurd (omega (arith, lt))

pub kind_is_ordered : KindIsOrdered
unfolding enc
kind_is_ordered = grown_is_ordered One kinds kind_sizes (Bit 0 ∷ Leaf 0 ∷ Bit 1 ∷ Leaf 1 ∷ Leaf 2 ∷ [])
    (goes_on _ (Bit 0) (least_offset {o = 0} refl (λ q lt. absurd (omega (arith, lt))))
    (goes_on _ (Leaf 0) refl (goes_on _ (Bit 1) (least_offset {o = 1} refl not_at_first) (goes_on _ (Leaf 1) refl (goes_on _ (Leaf 2) refl stops)))))
