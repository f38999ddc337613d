-- Fillings at the front of bits; how short a filling is.
use Rattle.std.proofs.Common.{◌≡◌, ◌∙◌, refl, sym, ap, ◌≤◌, ◌^◌, Bool, true, false, ◌&&◌, nat_le, List, ◌++◌, arith, append_assoc}
use Rattle.std.proofs.lemmas.Bool.Decides.{nat_tests}
use Rattle.sem_bits.specs.Cursor.{Place, Advances}
use Rattle.sem_profile.specs.declared.profile.Sizes.{Sizes}
use Rattle.sem_profile.specs.Methods.{is_within}
use Rattle.sem_filling.specs.declared.filling.Filling.{out-Filling}
use Rattle.sem_filling.specs.Fillings.{packed}
use Rattle.sem_filling.specs.Bounded.{SidesAreShort}
use Rattle.sem_filling.specs.Laws.{ReadsBack}
use Rattle.sem_filling.proofs.Bounding.{placed, lie-in-bounds}
use Rattle.sem_filling.proofs.FitsInverted.{parts}

pub reads_back : ReadsBack
reads_back methods k args path d ctx f g rest fit h = d ctx (packed f ++ rest) g f h (record { fits = fit; rest = rest; front = refl })

-- two moves of a cursor, one after the other
pub advances_both : (a b d : Place) (x y : List Bool) → Advances a b x → Advances b d y → Advances a d (x ++ y)
advances_both a b d x y h g = record {
  used = g.used ∙ ap (λ u. u ++ y) h.used ∙ append_assoc a.used x y;
  left = h.left ∙ ap (λ l. x ++ l) g.left ∙ sym (append_assoc x y d.left);
}

both_true : (a b : Bool) → (a && b) ≡ true → (a ≡ true) × (b ≡ true)
both_true true b e = (refl, e)
both_true false b e = absurd cc

-- what the limits of a method's bounds say
pub within_limits : (s : Sizes) → is_within s ≡ true → (s.uncompressed.most ≤ 4096) × (s.compressed.most ≤ 2 ^ 18)
within_limits s e =
    let t = both_true (nat_le s.uncompressed.most 4096) (nat_le s.compressed.most (2 ^ 18)) e in
    let u : nat_le s.uncompressed.most 4096 ≡ true = t.0 in
    let c : nat_le s.compressed.most (2 ^ 18) ≡ true = t.1 in
    (grind (arith, nat_tests), grind (arith, nat_tests))

pub short_sides : SidesAreShort
short_sides methods table are ctx k args path f fit =
    let p = parts fit in
    let here = placed methods table are k (out-Filling f).format p.format p.is_format in
    let lie = (lie-in-bounds methods table are ctx k args path f fit here.whole here.sizes here.whole_at here.sizes_at).1 in
    let limits = within_limits here.whole.whole (are.fine.within k here.method here.whole here.method_at here.whole_at) in
    (omega (arith, lie.uncompressed_lies.most, limits.0), omega (arith, lie.compressed_lies.most, limits.1))
