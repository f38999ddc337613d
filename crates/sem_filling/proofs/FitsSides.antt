-- The sides of a filling determine it, and stand one after the other in its packed bits.
use Rattle.std.proofs.Common.{◌≡◌, ◌∙◌, refl, sym, ap, subst, ℕ, Bool, true, false, cond, List, [], ◌∷◌, ◌++◌, length, filter, append_assoc}
use Rattle.std.specs.Prelude.{Option, Some, None, slice_get, ℤ}
use Rattle.std.specs.List.{flat_map}
use Rattle.std.specs.Option.{option_map, option_and_then, option_or, unwrap_or}
use Rattle.sem_expr.specs.declared.expr.Subject.{Subject}
use Rattle.sem_expr.specs.declared.expr.Side.{Side}
use Rattle.sem_expr.specs.declared.expr.Side.TheVariants.{Compressed}
use Rattle.sem_expr.specs.Values.{Assignment}
use Rattle.sem_profile.specs.declared.profile.Part.{Part}
use Rattle.sem_profile.specs.declared.profile.Part.TheVariants.{Header, Control, Local}
use Rattle.sem_profile.specs.declared.profile.Encoding.{Encoding}
use Rattle.sem_profile.specs.declared.profile.Field.{Field}
use Rattle.sem_profile.specs.declared.profile.Format.{Format}
use Rattle.sem_profile.specs.declared.profile.Method.{Method}
use Rattle.sem_filling.specs.declared.filling.Filling.{Filling, out-Filling}
use Rattle.sem_filling.specs.declared.filling.FilledField.{FilledField}
use Rattle.sem_filling.specs.Fillings.{Sides, sides_of, inner_of, inner_at, fields_of, listing_of, level, is_header, header_bits, header, packed_bits, packed}
use Rattle.sem_filling.specs.Entries.{Path}
use Rattle.sem_filling.proofs.FillingsUnique.{filling_same, field_same, list_same, also_at, sides_at, same}
use Rattle.sem_filling.specs.Fits.{Context, Fits, FieldFits, field_side, format_at, reference_of}
use Rattle.sem_filling.specs.Fits as fit
use Rattle.sem_filling.specs.Laws.{DeterminedByLevel, SameSides, SameInside, same_sides, both_have, DeterminedBySides, AReference, FrontSplits, HeaderSplits}
use Rattle.sem_filling.proofs.FitsSized.{one_value}
use Rattle.sem_filling.proofs.FitsInverted.{FitsParts, parts, length-fields}

-- ---- sides determine a filling

-- two fillings that fit by one format
record SameFormat (methods : List Method) (f g : Filling) (format other : Format) : Type 0 where
  format_same : format ≡ other
  listing_same : listing_of f ≡ listing_of g
  count_same : length (fields_of f) ≡ length (fields_of g)

same_format : (methods : List Method) (k : ℕ) (ctx other_ctx : Context) (args other_args : List ℤ) (path other_path : Path) (f g : Filling)
    → (p : FitsParts methods ctx k args path f) (q : FitsParts methods other_ctx k other_args other_path g) → (out-Filling f).format ≡ (out-Filling g).format → SameFormat methods f g p.format q.format
same_format methods k ctx other_ctx args other_args path other_path f g p q e =
    let one : p.format ≡ q.format = one_value (format_at methods k (out-Filling f).format) p.format q.format p.is_format (ap (format_at methods k) e ∙ q.is_format) in
    let listing : p.format.listing ≡ q.format.listing = ap (λ (x : Format). x.listing) one in
    let fields : p.format.fields ≡ q.format.fields = ap (λ (x : Format). x.fields) one in
    record {
      format_same = one;
      listing_same = p.level_fits.shaped.listing_is ∙ (listing ∙ sym q.level_fits.shaped.listing_is);
      count_same = length-fields p.format f p.level_fits.shaped ∙ (ap length fields ∙ sym (length-fields q.format g q.level_fits.shaped));
    }

pub by_level : DeterminedByLevel
by_level methods k ctx other_ctx args other_args path other_path f g h h' e sides inner =
    same f g e (same_format methods k ctx other_ctx args other_args path other_path f g (parts h) (parts h') e).listing_same sides inner

-- what is inside a field, by its index
inside_at : (f : Filling) (i : ℕ) (x : FilledField) → slice_get (fields_of f) i ≡ Some x → inner_at f i ≡ inner_of x
inside_at f i x e = ap (option_and_then inner_of) e

alike_in : (o o' : Option Filling) → SameInside o o' → (f g : Filling) → o ≡ Some f → o' ≡ Some g → SameSides f g
alike_in None o' s f g e e' = absurd (cc)
alike_in (Some a) None s f g e e' = absurd (cc)
alike_in (Some a) (Some b) (both_have s) f g e e' =
    let one : a ≡ f = cc in
    let other : b ≡ g = cc in
    subst (λ y. SameSides y g) one (subst (λ y. SameSides a y) other s)

module _ (methods : List Method) (ctx other_ctx : Context) where
  mutual
    one_filling : {k : ℕ} {args other_args : List ℤ} {path other_path : Path} {f g : Filling} → Fits methods ctx k args path f → Fits methods other_ctx k other_args other_path g → SameSides f g → f ≡ g
    one_filling {k} {args} {other_args} {path} {other_path} {f} {g} (fit.fits format is level_fits each) h (same_sides e sides inside) =
        let p : FitsParts methods ctx k args path f = record { format = format; is_format = is; level_fits = level_fits; each = each } in
        let q = parts h in
        let s = same_format methods k ctx other_ctx args other_args path other_path f g p q e in
        filling_same f g e s.listing_same (list_same (fields_of f) (fields_of g) s.count_same (λ i x y at at'.
        let d = also_at (fields_of f) format.fields i x (length-fields format f level_fits.shaped) at in
        one_field (each i d.0 x d.1 at) (q.each i d.0 y (ap (λ (z : Format). slice_get z.fields i) (sym s.format_same) ∙ d.1) at') (sides_at f g i x y sides at at')
        (λ a b is_a is_b. alike_in (inner_at f i) (inner_at g i) (inside i) a b (inside_at f i x at ∙ is_a) (inside_at g i y at' ∙ is_b))))

    one_field : {side other_side : Subject → Side → List Bool} {a other : Assignment} {path other_path : Path} {d other_d : Field} {c : Encoding} {x y : FilledField}
        → FieldFits methods ctx side a path d c x → FieldFits methods other_ctx other_side other other_path other_d c y → sides_of x ≡ sides_of y
        → ((inner other_inner : Filling) → inner_of x ≡ Some inner → inner_of y ≡ Some other_inner → SameSides inner other_inner) → x ≡ y
    one_field {x} {y} (fit.bare short none plain) (fit.bare short' none' plain') s n = field_same x y s (plain ∙ sym plain')
    one_field {x} {y} (fit.coded m is holds plain) (fit.coded m' is' holds' plain') s n = field_same x y s (plain ∙ sym plain')
    one_field {x} {y} (fit.called args inner is_args is_inner fitted u c) (fit.called args' inner' is_args' is_inner' fitted' u' c') s n =
        field_same x y s (is_inner ∙ (ap (λ z. Some z) (one_filling fitted fitted' (n inner inner' is_inner is_inner')) ∙ sym is_inner'))

pub by_sides : DeterminedBySides
by_sides methods k ctx other_ctx args other_args path other_path f g h h' s = one_filling methods ctx other_ctx h h' s

-- ---- references

entry_first : (part : Part) (ctx : Context) (path : Path) (initial : Option (List Bool)) (bits : List Bool) → (part ≡ Local → ⊥) → ctx path ≡ Some bits → reference_of part ctx path initial ≡ Some bits
entry_first Header ctx path initial bits kept e = ap (λ o. option_or o initial) e
entry_first Control ctx path initial bits kept e = ap (λ o. option_or o initial) e
entry_first Local ctx path initial bits kept e = absurd (kept refl)

initial_else : (part : Part) (ctx : Context) (path : Path) (initial : Option (List Bool)) → (part ≡ Local → ⊥) → ctx path ≡ None → reference_of part ctx path initial ≡ initial
initial_else Header ctx path initial kept e = ap (λ o. option_or o initial) e
initial_else Control ctx path initial kept e = ap (λ o. option_or o initial) e
initial_else Local ctx path initial kept e = absurd (kept refl)

pub references : AReference
references ctx path initial = record {
  of_entry = λ part bits kept e. entry_first part ctx path initial bits kept e;
  of_initial = λ part kept e. initial_else part ctx path initial kept e;
  of_local = refl;
}

-- ---- packed bits

pub piece_is : (o : Option Sides) → unwrap_or (option_map (λ s. s.compressed) o) [] ≡ field_side o Compressed
piece_is None = refl
piece_is (Some s) = refl

pub packed_split : (fs : List Sides) (before after : List ℕ) (i : ℕ) → packed_bits (before ++ i ∷ after) fs ≡ packed_bits before fs ++ (field_side (slice_get fs i) Compressed ++ packed_bits after fs)
packed_split fs [] after i = ap (λ z. z ++ packed_bits after fs) (piece_is (slice_get fs i))
packed_split fs (j ∷ js) after i =
    let first = unwrap_or (option_map (λ s. s.compressed) (slice_get fs j)) [] in
    ap (λ z. first ++ z) (packed_split fs js after i) ∙ sym (append_assoc first (packed_bits js fs) (field_side (slice_get fs i) Compressed ++ packed_bits after fs))

pub splits : FrontSplits
splits f before after i bits rest listing e =
    let front = packed_bits before (level f) in
    let own = field_side (slice_get (level f) i) Compressed in
    let back = packed_bits after (level f) in
    let whole : packed f ≡ front ++ (own ++ back) = ap (λ l. packed_bits l (level f)) listing ∙ packed_split (level f) before after i in
    e ∙ (ap (λ z. z ++ rest) whole ∙ (append_assoc front (own ++ back) rest ∙ ap (λ z. front ++ z) (append_assoc own back rest)))

-- ---- the header

header_split : (before after : List Sides) (s : Sides) → is_header s.declared.part ≡ true → header_bits (before ++ s ∷ after) ≡ header_bits before ++ (s.uncompressed ++ header_bits after)
header_split [] after s is = by (is_header s.declared.part) is
  where
    by : (b : Bool) → b ≡ true → flat_map (λ (x : Sides). x.uncompressed) (cond b (s ∷ filter (λ x. is_header x.declared.part) after) (filter (λ x. is_header x.declared.part) after)) ≡ s.uncompressed ++ header_bits after
    by true e = refl
    by false e = absurd (cc)
header_split (x ∷ xs) after s is = by (is_header x.declared.part) (header_split xs after s is)
  where
    by : (b : Bool) → header_bits (xs ++ s ∷ after) ≡ header_bits xs ++ (s.uncompressed ++ header_bits after) → flat_map (λ (y : Sides). y.uncompressed) (cond b (x ∷ filter (λ y. is_header y.declared.part) (xs ++ s ∷ after)) (filter (λ y. is_header y.declared.part) (xs ++ s ∷ after)))
        ≡ flat_map (λ (y : Sides). y.uncompressed) (cond b (x ∷ filter (λ y. is_header y.declared.part) xs) (filter (λ y. is_header y.declared.part) xs)) ++ (s.uncompressed ++ header_bits after)
    by true rest = ap (λ z. x.uncompressed ++ z) rest ∙ sym (append_assoc x.uncompressed (header_bits xs) (s.uncompressed ++ header_bits after))
    by false rest = rest

pub header_splits : HeaderSplits
header_splits f before after s bits rest level_is is e =
    let front = header_bits before in
    let back = header_bits after in
    let whole : header f ≡ front ++ (s.uncompressed ++ back) = ap header_bits level_is ∙ header_split before after s is in
    e ∙ (ap (λ z. z ++ rest) whole ∙ (append_assoc front (s.uncompressed ++ back) rest ∙ ap (λ z. front ++ z) (append_assoc s.uncompressed back rest)))
