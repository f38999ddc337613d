-- A format that stands alone uses no reference.
use Rattle.std.proofs.Common.{◌≡◌, ◌∙◌, refl, sym, ap, subst, ℕ, Bool, false, List}
use Rattle.std.specs.Prelude.{Option, Some, None, slice_get, ℤ, [], ◌∷◌}
use Rattle.std.specs.Option.{option_map}
use Rattle.std.proofs.lemmas.Bool.{false≢true}
use Rattle.sem_expr.specs.declared.expr.Subject.{Subject}
use Rattle.sem_expr.specs.declared.expr.Side.{Side}
use Rattle.sem_expr.specs.declared.expr.Expr.{Expr}
use Rattle.sem_expr.specs.Values.{Assignment, val}
use Rattle.sem_library.specs.Methods as lib
use Rattle.sem_profile.specs.declared.profile.Library.{Library}
use Rattle.sem_profile.specs.declared.profile.Library.TheVariants as library
use Rattle.sem_profile.specs.declared.profile.Encoding.{Encoding}
use Rattle.sem_profile.specs.declared.profile.Encoding.TheVariants as encoding
use Rattle.sem_profile.specs.declared.profile.Field.{Field}
use Rattle.sem_profile.specs.declared.profile.Format.{Format}
use Rattle.sem_profile.specs.declared.profile.Method.{Method}
use Rattle.sem_filling.specs.declared.filling.Filling.{Filling, out-Filling}
use Rattle.sem_filling.specs.Fillings.{inner_of, level}
use Rattle.sem_filling.specs.Entries.{Path, below}
use Rattle.sem_filling.specs.Fits.{Context, Fits, format_at, assigned, two_values, crc_values, vals, method_of}
use Rattle.sem_filling.proofs.FitsSized.{one_value, crc_parts}
use Rattle.sem_filling.proofs.FitsInverted.{parts, called_parts}
use Rattle.sem_elsewhere.specs.Uses.{Use, Uses, own, inside, refers, refers_by, StandsAlone, FieldAlone, alone, bare_alone, coded_alone, called_alone}
use Rattle.sem_elsewhere.specs.Laws.{FitsAlone}
use Rattle.sem_elsewhere.proofs.Moving.{needs_nothing}

-- what two numbers make says nothing of the reference, where no pair does
by_two : (make : ℤ → ℤ → lib.Method) → ((x y : ℤ) → refers (make x y) ≡ false) → (o q : Option ℤ) (m : lib.Method) → two_values make o q ≡ Some m → refers m ≡ false
by_two make none None q m e = absurd (cc)
by_two make none (Some x) None m e = absurd (cc)
by_two make none (Some x) (Some y) m e = let is : make x y ≡ m = cc in subst (λ z. refers z ≡ false) is (none x y)

by_one : (o : Option ℤ) (m : lib.Method) → option_map lib.irregular o ≡ Some m → refers m ≡ false
by_one None m e = absurd (cc)
by_one (Some x) m e = let is : lib.irregular x ≡ m = cc in subst (λ z. refers z ≡ false) is refl

by_four : (bits : List Bool) (o : Option (List ℤ)) (m : lib.Method) → crc_values bits o ≡ Some m → refers m ≡ false
by_four bits o m e = let p = crc_parts bits o m e in subst (λ z. refers z ≡ false) p.5 refl

-- a method refers only where its encoding does
pub by_encoding : (side : Subject → Side → List Bool) (a : Assignment) (l : Library) (m : lib.Method) → refers_by l ≡ false → method_of side a l ≡ Some m → refers m ≡ false
by_encoding side a (library.UncompressedValue len v) m none e = by_two lib.uncompressed_value (λ x y. refl) (val a len) (val a v) m e
by_encoding side a (library.CompressedValue len v) m none e = by_two lib.compressed_value (λ x y. refl) (val a len) (val a v) m e
by_encoding side a (library.Irregular len) m none e = by_one (val a len) m e
by_encoding side a library.Static m none e = absurd (false≢true (sym none))
by_encoding side a (library.Lsb k offset) m none e = absurd (false≢true (sym none))
by_encoding side a (library.Crc crc) m none e = by_four (side crc.subject crc.side) (vals a (crc.bits ∷ crc.polynomial ∷ crc.initial ∷ crc.length ∷ [])) m e

module _ (methods : List Method) where
  not_by : {e : Encoding} → FieldAlone methods e → (l : Library) → e ≡ encoding.Library l → refers_by l ≡ false
  not_by bare_alone l e = absurd (cc)
  not_by (coded_alone {l = m} none) l e = let same : m ≡ l = cc in subst (λ z. refers_by z ≡ false) same none
  not_by (called_alone each) l e = absurd (cc)

  each_by : {e : Encoding} → FieldAlone methods e → (j : ℕ) (es : List Expr) → e ≡ encoding.Call j es → (n : ℕ) (format : Format) → format_at methods j n ≡ Some format → StandsAlone methods format
  each_by bare_alone j es e n format is = absurd (cc)
  each_by (coded_alone none) j es e n format is = absurd (cc)
  each_by (called_alone {k = k} each) j es e n format is = let same : k ≡ j = cc in each n format (ap (λ z. format_at methods z n) same ∙ is)

  fields_alone : {format : Format} → StandsAlone methods format → (i : ℕ) (d : Field) → slice_get format.fields i ≡ Some d → FieldAlone methods d.encoding
  fields_alone (alone each) = each

module _ (methods : List Method) (ctx : Context) where
  uses_none : {k : ℕ} {args : List ℤ} {path : Path} {f : Filling} {u : Use} → Uses methods k args path f u → Fits methods ctx k args path f
      → (format : Format) → format_at methods k (out-Filling f).format ≡ Some format → StandsAlone methods format → ⊥
  uses_none {k} {args} {path} {f} (own format i d g l m is at at' e m_is r) h other other_is stands =
      let one : other ≡ format = one_value (format_at methods k (out-Filling f).format) other format other_is is in
      let here = fields_alone methods (subst (λ z. StandsAlone methods z) one stands) i d at in
      false≢true (sym (by_encoding _ _ l m (not_by methods here l e) m_is) ∙ r)
  uses_none {k} {args} {path} {f} (inside format i d g j es values inner is at at' e is_values is_inner deep) h other other_is stands =
      let one : other ≡ format = one_value (format_at methods k (out-Filling f).format) other format other_is is in
      let here = fields_alone methods (subst (λ z. StandsAlone methods z) one stands) i d at in
      let p = parts h in
      let same : p.format ≡ format = one_value (format_at methods k (out-Filling f).format) p.format format p.is_format is in
      let field = p.each i d g (ap (λ (z : Format). slice_get z.fields i) same ∙ at) at' in
      let c = called_parts methods ctx field j es e in
      let inner_same : c.inner ≡ inner = one_value (inner_of g) c.inner inner c.is_inner is_inner in
      let args_same : c.args ≡ values = one_value (vals (assigned format.listing (level f) args) es) c.args values (ap (λ (z : Format). vals (assigned z.listing (level f) args) es) (sym same) ∙ c.is_args) is_values in
      let fitted : Fits methods ctx j values (below path d.declared.name) inner =
      subst (λ z. Fits methods ctx j z (below path d.declared.name) inner) args_same (subst (λ z. Fits methods ctx j c.args (below path d.declared.name) z) inner_same c.inner_fits) in
      let q = parts fitted in
      uses_none deep fitted q.format q.is_format (each_by methods here j es e (out-Filling inner).format q.format q.is_format)

pub fits_alone : FitsAlone
fits_alone methods k ctx other args path f format h is stands = needs_nothing methods k ctx other args path f h (λ u deep. uses_none methods ctx deep h format is stands)
