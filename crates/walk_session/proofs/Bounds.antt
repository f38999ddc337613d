-- The most bits of a header and of a packet, by the bounds of the top.
use Rattle.std.proofs.Common.{◌≡◌, ◌∙◌, refl, sym, subst, ℕ, zero, suc, ◌<◌, ◌≤◌, ◌^◌, List, [], ◌∷◌, length, arith}
use Rattle.std.specs.Prelude.{slice_get, Some, None}
use Rattle.std.proofs.lemmas.Option.{same_Some}
use Rattle.cert_accepted.specs.Accepted.{Accepting}
use Rattle.sem_context.specs.Entries.{Entries, bits_at}
use Rattle.sem_filling.specs.declared.filling.Filling.{Filling, out-Filling}
use Rattle.sem_filling.specs.Fillings.{header, packed}
use Rattle.sem_filling.proofs.Bounding.{placed, lie-in-bounds}
use Rattle.sem_filling.proofs.FitsInverted.{parts}
use Rattle.sem_filling.proofs.Fronts.{within_limits}
use Rattle.sem_profile.specs.declared.profile.MethodSizes.{MethodSizes}
use Rattle.sem_profile.specs.Resolved.{Resolved, IsSound}
use Rattle.walk_engine.specs.Reading.{Fitting}
use Rattle.walk_session.specs.Most.{IsMostHeader, IsMostPacket}

element : {A : Type 0} (xs : List A) (k : ℕ) → k < length xs → (x : A) × (slice_get xs k ≡ Some x)
element [] k h = absurd (omega arith)
element (x ∷ xs) zero h = (x, refl)
element (x ∷ xs) (suc k) h = element xs k (omega arith)

-- both are few
pub few_bits : (p : Resolved) → IsSound p → (s : MethodSizes) → slice_get p.sizes p.top ≡ Some s → (s.whole.uncompressed.most ≤ 2 ^ 18) × (s.whole.compressed.most ≤ 2 ^ 18)
few_bits p sound s at =
    let m = element p.methods p.top sound.within in
    let limits = within_limits s.whole (sound.sized.fine.within p.top m.0 s m.1 at) in
    (omega (arith, limits.0), limits.1)

-- the sides of a filling that fits are within them
within : (a : Accepting) → IsSound a.profile → (s : MethodSizes) → slice_get a.profile.sizes a.profile.top ≡ Some s → (ctx : Entries) (f : Filling) → Fitting a ctx f →
    (length (header f) ≤ s.whole.uncompressed.most) × (length (packed f) ≤ s.whole.compressed.most)
within a sound s at ctx f fit =
    let p = parts fit in
    let here = placed a.profile.methods a.profile.sizes sound.sized a.profile.top (out-Filling f).format p.format p.is_format in
    let lie = (lie-in-bounds a.profile.methods a.profile.sizes sound.sized (bits_at ctx) a.profile.top [] [] f fit here.whole here.sizes here.whole_at here.sizes_at).1 in
    let same : here.whole ≡ s = same_Some here.whole s (sym here.whole_at ∙ at) in (
      subst (λ (z : MethodSizes). length (header f) ≤ z.whole.uncompressed.most) same lie.uncompressed_lies.most,
      subst (λ (z : MethodSizes). length (packed f) ≤ z.whole.compressed.most) same lie.compressed_lies.most,
    )

pub header_most : (a : Accepting) → IsSound a.profile → (s : MethodSizes) (n : ℕ) → slice_get a.profile.sizes a.profile.top ≡ Some s → n ≡ s.whole.uncompressed.most → IsMostHeader a n
header_most a sound s n at is ctx f fit = subst (λ k. length (header f) ≤ k) (sym is) (within a sound s at ctx f fit).0

pub packet_most : (a : Accepting) → IsSound a.profile → (s : MethodSizes) (n : ℕ) → slice_get a.profile.sizes a.profile.top ≡ Some s → n ≡ s.whole.compressed.most → IsMostPacket a n
packet_most a sound s n at is ctx f fit = subst (λ k. length (packed f) ≤ k) (sym is) (within a sound s at ctx f fit).1

-- there are bounds of the top, where a filling fits
none_fits : (a : Accepting) → IsSound a.profile → slice_get a.profile.sizes a.profile.top ≡ None → (ctx : Entries) (f : Filling) → Fitting a ctx f → ⊥
none_fits a sound none ctx f fit =
    let p = parts fit in
    let here = placed a.profile.methods a.profile.sizes sound.sized a.profile.top (out-Filling f).format p.format p.is_format in
    let wrong : None ≡ Some here.whole = sym none ∙ here.whole_at in cc

pub no_header : (a : Accepting) → IsSound a.profile → slice_get a.profile.sizes a.profile.top ≡ None → IsMostHeader a 0
no_header a sound none ctx f fit = absurd (none_fits a sound none ctx f fit)

pub no_packet : (a : Accepting) → IsSound a.profile → slice_get a.profile.sizes a.profile.top ≡ None → IsMostPacket a 0
no_packet a sound none ctx f fit = absurd (none_fits a sound none ctx f fit)
