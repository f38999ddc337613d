-- Tests that the encodings of the fields settle.
use Rattle.std.proofs.Common.{◌≡◌, ◌∙◌, refl, sym, ap, ℕ, zero, suc, List, [], ◌∷◌, Bool, length}
use Rattle.std.specs.Prelude.{Some, slice_get, unwrap_or}
use Rattle.sem_expr.specs.declared.expr.Side.{Side}
use Rattle.sem_expr.specs.declared.expr.Side.TheVariants.{Compressed, Uncompressed}
use Rattle.sem_expr.specs.declared.expr.Subject.TheVariants as subject
use Rattle.sem_filling.specs.Entries.{Path, below}
use Rattle.sem_filling.specs.Fillings.{Sides, sides_of}
use Rattle.sem_filling.specs.Fits.{Context, reference_of}
use Rattle.sem_filling.proofs.FitsInverted.{coded_parts}
use Rattle.sem_profile.specs.declared.profile.Constraint.{Constraint}
use Rattle.sem_profile.specs.declared.profile.Format.{Format}
use Rattle.sem_profile.specs.declared.profile.Method.{Method}
use Rattle.sem_pages.specs.declared.page.Shown.{Shown}
use Rattle.sem_pages.specs.declared.prepared.LengthTest.{LengthTest}
use Rattle.sem_pages.specs.Pages.{AreRead, HoldsOn, IsWhole, Seen, numbers_in, seen_side, shown_side, side_in}
use Rattle.sem_pages.specs.Prepared.{IsSettled, IsTest, on_side}

there : {A B : Type 0} (xs : List A) (ys : List B) (i : ℕ) (y : B) → length xs ≡ length ys → slice_get ys i ≡ Some y → (x : A) × (slice_get xs i ≡ Some x)
there [] [] i y count at = absurd (cc)
there [] (z ∷ zs) i y count at = absurd (cc)
there (x ∷ xs) [] i y count at = absurd (cc)
there (x ∷ xs) (z ∷ zs) zero y count at = (x, refl)
there (x ∷ xs) (z ∷ zs) (suc i) y count at = there xs zs i y (let rest : length xs ≡ length zs = cc in rest) at

passes_by : (v : Seen) (i : ℕ) (which : Side) (n : ℕ) (s : Shown) (u c : List Bool) → slice_get v.fields i ≡ Some s → IsWhole s u c → length (on_side which u c) ≡ n
    → (w : List Bool) × (seen_side v (subject.Field i) which ≡ Some w) × (length w ≡ n)
passes_by v i Uncompressed n s u c at whole count = (u, ap (λ o. shown_side o Uncompressed) at ∙ whole.uncompressed_is, count)
passes_by v i Compressed n s u c at whole count = (c, ap (λ o. shown_side o Compressed) at ∙ whole.compressed_is, count)

-- where each field is read, what such a test stands for holds
pub encoded_hold : (methods : List Method) (ctx : Context) (path : Path) (format : Format) (v : Seen) (js : List ℕ) → AreRead methods ctx path format v js
    → ((i : ℕ) (s : Shown) → slice_get v.fields i ≡ Some s → (u : List Bool) × (c : List Bool) × IsWhole s u c) → (t : LengthTest) → IsSettled format.fields t → (c : Constraint) → IsTest c t → HoldsOn v c
encoded_hold methods ctx path format v js read whole t settled c is = λ l bears.
    let d = settled.field in
    let s = there v.fields format.fields t.field d read.count settled.field_is in
    let w = whole t.field s.0 s.1 in
    let h = read.fields t.field d s.0 w.0 w.1 settled.field_is s.1 w.2 l bears in
    let g = h.0 in
    let parts = coded_parts methods ctx h.1.fits settled.count.library settled.count.encoding_is in
    let up : (sides_of g).uncompressed ≡ w.0 = ap (λ (x : Sides). x.uncompressed) h.1.sides_are ∙ ap (λ o. unwrap_or o []) w.2.uncompressed_is in
    let down : (sides_of g).compressed ≡ w.1 = ap (λ (x : Sides). x.compressed) h.1.sides_are ∙ ap (λ o. unwrap_or o []) w.2.compressed_is in
    let count = settled.count.count (side_in l) (numbers_in l) parts.method (reference_of d.declared.part ctx (below path d.declared.name) d.initial) (sides_of g).uncompressed (sides_of g).compressed parts.is_method parts.holds in
    is v (passes_by v t.field t.side t.count s.0 w.0 w.1 s.1 w.2 (sym (λ i. length (on_side t.side (up i) (down i))) ∙ count)) l bears
