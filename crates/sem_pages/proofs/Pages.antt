-- The filling that a page shows.
use Rattle.std.proofs.Common.{◌≡◌, ◌∙◌, refl, sym, ap, subst, ℕ, suc, zero, ◌≤◌, map, length, List, [], ◌∷◌, Bool, false, arith}
use Rattle.std.specs.Prelude.{slice_get, Option, Some, None, option_and_then, unwrap_or, ℤ}
use Rattle.sem_expr.specs.declared.expr.Expr.{Expr}
use Rattle.sem_expr.specs.declared.expr.Side.{Side}
use Rattle.sem_expr.specs.declared.expr.Side.TheVariants.{Uncompressed, Compressed}
use Rattle.sem_expr.specs.declared.expr.Subject.{Subject}
use Rattle.sem_expr.specs.declared.expr.Subject.TheVariants as subject
use Rattle.sem_profile.specs.Fields.{lists}
use Rattle.sem_profile.specs.declared.profile.Constraint.{Constraint}
use Rattle.sem_profile.specs.declared.profile.Encoding.{Encoding}
use Rattle.sem_profile.specs.declared.profile.Encoding.TheVariants as encoding
use Rattle.sem_profile.specs.declared.profile.Field.{Field}
use Rattle.sem_profile.specs.declared.profile.Format.{Format}
use Rattle.sem_profile.specs.declared.profile.Library.{Library}
use Rattle.sem_profile.specs.declared.profile.Method.{Method}
use Rattle.sem_filling.specs.declared.filling.Filling.{Filling, out-Filling, roll-Filling, out-roll-Filling}
use Rattle.sem_filling.specs.declared.filling.FilledField.{FilledField, out-FilledField, roll-FilledField, out-roll-FilledField}
use Rattle.sem_filling.specs.Fillings.{Sides, sides_of, inner_of, fields_of, listing_of, level, header_bits, packed_bits}
use Rattle.sem_filling.specs.Entries.{Path, below}
use Rattle.sem_library.specs.Methods.{Lib}
use Rattle.sem_filling.proofs.FillingsUnique.{also_at}
use Rattle.sem_filling.specs.declared.whole_sides.WholeSides.{WholeSides}
use Rattle.sem_filling.specs.Fits.{Context, Holds, FieldFits, fits, bare, coded, called, side_of, field_side, assigned, format_at, reference_of}
use Rattle.sem_pages.specs.declared.page.Page.{Page, out-Page}
use Rattle.sem_pages.specs.declared.page.Shown.{Shown, out-Shown}
use Rattle.sem_pages.specs.Pages.{sides_by, level_by, Looked, Bears, AreRead, HoldsOn, IsWhole, seen_at_end, shown_side, seen_side, side_in, numbers_in, IsShownBy, HasField, HasFields, IsCodedBy, IsCalledBy, IsPageOf, IsPlain, ShowsInside, nothing, called as shown_called, shows}

-- ---- one field

abbrev up : Shown → List Bool
up s = unwrap_or (out-Shown s).uncompressed []

abbrev down : Shown → List Bool
down s = unwrap_or (out-Shown s).compressed []

-- the field of a filling with these sides and this filling inside
abbrev field_by : Field → Shown → Option Filling → FilledField
field_by d s o = roll-FilledField record { declared = d.declared; uncompressed = up s; compressed = down s; inner = o }

field_out : (d : Field) (s : Shown) (o : Option Filling) → out-FilledField (field_by d s o) ≡ record { declared = d.declared; uncompressed = up s; compressed = down s; inner = o }
field_out d s o = out-roll-FilledField record { declared = d.declared; uncompressed = up s; compressed = down s; inner = o }

sides_out : (d : Field) (s : Shown) (o : Option Filling) → sides_of (field_by d s o) ≡ sides_by d s
sides_out d s o = λ i. let x = field_out d s o i in record { declared = x.declared; uncompressed = x.uncompressed; compressed = x.compressed }

inner_out : (d : Field) (s : Shown) (o : Option Filling) → inner_of (field_by d s o) ≡ o
inner_out d s o = λ i. (field_out d s o i).inner

module _ (methods : List Method) (ctx : Context) (path : Path) (l : Looked) (d : Field) (s : Shown) where
  -- a field with its encoding, and this filling inside
  has_by : (e : Encoding) (o : Option Filling) → d.encoding ≡ e → FieldFits methods ctx (side_in l) (numbers_in l) path d e (field_by d s o) → ShowsInside methods d.encoding (out-Shown s).inner o → HasField methods ctx path l d s
  has_by e o is fit in_it = (
    field_by d s o,
    record {
      sides_are = sides_out d s o;
      fits = subst (λ z. FieldFits methods ctx (side_in l) (numbers_in l) path d z (field_by d s o)) (sym is) fit;
      inside = subst (λ z. ShowsInside methods d.encoding (out-Shown s).inner z) (sym (inner_out d s o)) in_it;
    },
  )

  pub bare_has : d.encoding ≡ encoding.Bare → (length (up s) ≤ 64) × (down s ≡ []) × ((out-Shown s).inner ≡ None) → HasField methods ctx path l d s
  bare_has e h =
      let same = sides_out d s None in
      has_by encoding.Bare None e
      (bare (subst (λ (x : Sides). length x.uncompressed ≤ 64) (sym same) h.0) (ap (λ (x : Sides). x.compressed) same ∙ h.1) (inner_out d s None))
      (subst (λ o. ShowsInside methods d.encoding o None) (sym h.2) nothing)

  pub coded_has : (lib : Library) → d.encoding ≡ encoding.Library lib → ((out-Shown s).inner ≡ None) × IsCodedBy ctx path l d lib (up s) (down s) → HasField methods ctx path l d s
  coded_has lib e h =
      let same = sides_out d s None in
      has_by (encoding.Library lib) None e
      (coded h.1.method h.1.method_is
      (subst (λ (x : Sides). Lib h.1.method (reference_of d.declared.part ctx (below path d.declared.name) d.initial) x.uncompressed x.compressed) (sym same) h.1.related)
      (inner_out d s None))
      (subst (λ o. ShowsInside methods d.encoding o None) (sym h.0) nothing)

  pub called_has : (k : ℕ) (es : List Expr) → d.encoding ≡ encoding.Call k es → IsCalledBy methods ctx path l d s k es → HasField methods ctx path l d s
  called_has k es e h =
      let page = h.inside.is_page in
      let f = page.filling in
      let same = sides_out d s (Some f) in
      has_by (encoding.Call k es) (Some f) e
      (called h.args f h.values_are (inner_out d s (Some f)) page.fits (ap (λ (x : Sides). x.uncompressed) same ∙ page.header_same) (ap (λ (x : Sides). x.compressed) same ∙ page.packed_same))
      (subst (λ o. ShowsInside methods d.encoding o (Some f)) (sym h.inside.page_is) (shown_called e page.shown))

  -- the same of sides that are read
  pub plain_has : (lib : Library) (u c : List Bool) → d.encoding ≡ encoding.Library lib → IsPlain s u c → IsCodedBy ctx path l d lib u c → HasField methods ctx path l d s
  plain_has lib u c e plain by =
      let u_is : u ≡ up s = sym (ap (λ o. unwrap_or o []) plain.sides_are.uncompressed_is) in
      let c_is : c ≡ down s = sym (ap (λ o. unwrap_or o []) plain.sides_are.compressed_is) in
      coded_has lib e (plain.inner_is, subst (λ x. IsCodedBy ctx path l d lib x (down s)) u_is (subst (λ y. IsCodedBy ctx path l d lib u y) c_is by))

  pub bare_plain : (u c : List Bool) → d.encoding ≡ encoding.Bare → IsPlain s u c → length u ≤ 64 → c ≡ [] → HasField methods ctx path l d s
  bare_plain u c e plain short none =
      let u_is : u ≡ up s = sym (ap (λ o. unwrap_or o []) plain.sides_are.uncompressed_is) in
      let c_is : c ≡ down s = sym (ap (λ o. unwrap_or o []) plain.sides_are.compressed_is) in
      bare_has e (subst (λ x. length x ≤ 64) u_is short, sym c_is ∙ none, plain.inner_is)

-- ---- all fields

record Gathered (methods : List Method) (ctx : Context) (path : Path) (l : Looked) (ds : List Field) (ss : List Shown) : Type 0 where
  fields : List FilledField
  count : length ds ≡ length fields
  sides : map sides_of fields ≡ level_by ds ss
  each : (i : ℕ) (d : Field) (s : Shown) (g : FilledField) → slice_get ds i ≡ Some d → slice_get ss i ≡ Some s → slice_get fields i ≡ Some g → IsShownBy methods ctx path l d s g

gather : (methods : List Method) (ctx : Context) (path : Path) (l : Looked) (ds : List Field) (ss : List Shown) → length ss ≡ length ds → HasFields methods ctx path l ds ss → Gathered methods ctx path l ds ss
gather methods ctx path l [] [] e has = record { fields = []; count = refl; sides = refl; each = λ i d s g here there at. let wrong : None ≡ Some d = here in absurd cc }
gather methods ctx path l [] (s ∷ ss) e has = absurd (omega (arith, e))
gather methods ctx path l (d ∷ ds) [] e has = absurd (omega (arith, e))
gather methods ctx path l (d ∷ ds) (s ∷ ss) e has =
    let first = has zero d s refl refl in
    let rest = gather methods ctx path l ds ss (omega (arith, e)) (λ i. has (suc i)) in
    record {
      fields = first.0 ∷ rest.fields;
      count = ap suc rest.count;
      sides = λ i. first.1.sides_are i ∷ rest.sides i;
      each = by first.0 first.1 rest.fields rest.each;
    }
  where
    by : (g : FilledField) → IsShownBy methods ctx path l d s g → (gs : List FilledField)
        → ((i : ℕ) (d : Field) (s : Shown) (g : FilledField) → slice_get ds i ≡ Some d → slice_get ss i ≡ Some s → slice_get gs i ≡ Some g → IsShownBy methods ctx path l d s g)
        → (i : ℕ) (d' : Field) (s' : Shown) (g' : FilledField) → slice_get (d ∷ ds) i ≡ Some d' → slice_get (s ∷ ss) i ≡ Some s' → slice_get (g ∷ gs) i ≡ Some g' → IsShownBy methods ctx path l d' s' g'
    by g is gs each zero d' s' g' here there at =
        let d_one : Some d ≡ Some d' = here in
        let s_one : Some s ≡ Some s' = there in
        let g_one : Some g ≡ Some g' = at in
        let d_is : d ≡ d' = cc in
        let s_is : s ≡ s' = cc in
        let g_is : g ≡ g' = cc in
        subst (λ x. IsShownBy methods ctx path l x s' g') d_is (subst (λ y. IsShownBy methods ctx path l d y g') s_is (subst (λ z. IsShownBy methods ctx path l d s z) g_is is))
    by g is gs each (suc i) d' s' g' here there at = each i d' s' g' here there at

-- a level's fields are declared as those of the format
declared_by : (ds : List Field) (ss : List Shown) → length ss ≡ length ds → map (λ (s : Sides). s.declared) (level_by ds ss) ≡ map (λ (d : Field). d.declared) ds
declared_by [] [] e = refl
declared_by [] (s ∷ ss) e = absurd (omega (arith, e))
declared_by (d ∷ ds) [] e = absurd (omega (arith, e))
declared_by (d ∷ ds) (s ∷ ss) e = λ i. d.declared ∷ declared_by ds ss (omega (arith, e)) i

-- what stands at a place of a level was shown
shown_at : (ds : List Field) (ss : List Shown) (i : ℕ) (t : Sides) → slice_get (level_by ds ss) i ≡ Some t → (s : Shown) × (slice_get ss i ≡ Some s) × (down s ≡ t.compressed)
shown_at [] ss i t at = let wrong : None ≡ Some t = at in absurd cc
shown_at (d ∷ ds) [] i t at = let wrong : None ≡ Some t = at in absurd cc
shown_at (d ∷ ds) (s ∷ ss) zero t at = let one : Some (sides_by d s) ≡ Some t = at in let is : sides_by d s ≡ t = cc in (s, refl, ap (λ (x : Sides). x.compressed) is)
shown_at (d ∷ ds) (s ∷ ss) (suc i) t at = shown_at ds ss i t at

-- ---- the whole

pub page_is : (methods : List Method) (ctx : Context) (k : ℕ) (args : List ℤ) (path : Path) (p : Page) (format : Format) (h q : List Bool)
    → format_at methods k (out-Page p).format ≡ Some format → length (out-Page p).fields ≡ length format.fields
    → ((i : ℕ) (s : Shown) → slice_get (out-Page p).fields i ≡ Some s → lists format.listing i ≡ false → unwrap_or (out-Shown s).compressed [] ≡ [])
    → ((j : ℕ) (c : Constraint) → slice_get format.constraints j ≡ Some c → Holds (side_of format.listing (level_by format.fields (out-Page p).fields)) (assigned format.listing (level_by format.fields (out-Page p).fields) args) c)
    → HasFields methods ctx path record { listing = format.listing; sides = level_by format.fields (out-Page p).fields; arguments = args } format.fields (out-Page p).fields
    → h ≡ header_bits (level_by format.fields (out-Page p).fields) → q ≡ packed_bits format.listing (level_by format.fields (out-Page p).fields) → IsPageOf methods ctx k args path p h q
page_is methods ctx k args path p format h q at count unsent constraints has header_is packed_is =
    let ss = (out-Page p).fields in
    let l : Looked = record { listing = format.listing; sides = level_by format.fields ss; arguments = args } in
    let all = gather methods ctx path l format.fields ss count has in
    let f = roll-Filling record { format = (out-Page p).format; listing = format.listing; fields = all.fields } in
    let whole : out-Filling f ≡ record { format = (out-Page p).format; listing = format.listing; fields = all.fields } =
    out-roll-Filling record { format = (out-Page p).format; listing = format.listing; fields = all.fields } in
    let fields_are : fields_of f ≡ all.fields = λ i. (whole i).fields in
    let listing_is : listing_of f ≡ format.listing = λ i. (whole i).listing in
    let format_is : (out-Filling f).format ≡ (out-Page p).format = λ i. (whole i).format in
    let level_is : level f ≡ level_by format.fields ss = ap (map sides_of) fields_are ∙ all.sides in
    record {
      filling = f;
      fits = fits format (ap (format_at methods k) format_is ∙ at)
          record {
            shaped = record { listing_is = listing_is; declared_is = ap (map (λ s. s.declared)) level_is ∙ declared_by format.fields ss count };
            unlisted = λ i t here out.
                let found = shown_at format.fields ss i t (ap (λ zs. slice_get zs i) (sym level_is) ∙ here) in
                sym found.2 ∙ unsent i found.0 found.1 out;
            constraints = λ j c here. subst (λ zs. Holds (side_of format.listing zs) (assigned format.listing zs args) c) (sym level_is) (constraints j c here);
          }
          (λ i d g here there.
          let s = also_at format.fields ss i d (sym count) here in
          let there_too = ap (λ gs. slice_get gs i) (sym fields_are) ∙ there in
          subst (λ zs. FieldFits methods ctx (side_of format.listing zs) (assigned format.listing zs args) path d d.encoding g) (sym level_is) (all.each i d s.0 g here s.1 there_too).fits);
      shown = shows format at format_is listing_is level_is
          (λ i d s here there.
          let g = also_at format.fields all.fields i d all.count here in
          let g_at : slice_get (fields_of f) i ≡ Some g.0 = ap (λ gs. slice_get gs i) fields_are ∙ g.1 in
          subst (λ o. ShowsInside methods d.encoding (out-Shown s).inner (option_and_then inner_of o)) (sym g_at) (all.each i d s g.0 here there g.1).inside);
      header_same = header_is ∙ ap header_bits (sym level_is);
      packed_same = packed_is ∙ ap (packed_bits format.listing) (sym level_is) ∙ ap (λ z. packed_bits z (level f)) (sym listing_is);
    }

-- of a level of which each field is read
pub page_read : (methods : List Method) (ctx : Context) (k : ℕ) (args : List ℤ) (path : Path) (p : Page) (format : Format) (w : WholeSides) (solved : List ℕ)
    → format_at methods k (out-Page p).format ≡ Some format
    → AreRead methods ctx path format (seen_at_end (out-Page p).fields args w) solved
    → ((i : ℕ) (s : Shown) → slice_get (out-Page p).fields i ≡ Some s → (u : List Bool) × (c : List Bool) × IsWhole s u c)
    → ((i : ℕ) (s : Shown) → slice_get (out-Page p).fields i ≡ Some s → lists format.listing i ≡ false → unwrap_or (out-Shown s).compressed [] ≡ [])
    → ((j : ℕ) (c : Constraint) → slice_get format.constraints j ≡ Some c → HoldsOn (seen_at_end (out-Page p).fields args w) c)
    → w.header ≡ header_bits (level_by format.fields (out-Page p).fields) → w.packed ≡ packed_bits format.listing (level_by format.fields (out-Page p).fields) → IsPageOf methods ctx k args path p w.header w.packed
page_read methods ctx k args path p format w solved at read whole unsent constraints header_is packed_is =
    let ss = (out-Page p).fields in
    let l : Looked = record { listing = format.listing; sides = level_by format.fields ss; arguments = args } in
    let bears : Bears l (seen_at_end ss args w) = bears_end format ss args w read.count header_is packed_is in
    page_is methods ctx k args path p format w.header w.packed at read.count unsent (λ j c here. constraints j c here l bears)
    (λ i d s here there. let sides = whole i s there in read.fields i d s sides.0 sides.1 here there sides.2 l bears)
    header_is packed_is
  where
    shown_up : (ds : List Field) (ss : List Shown) (i : ℕ) (side : Side) (b : List Bool) → length ss ≡ length ds → shown_side (slice_get ss i) side ≡ Some b → field_side (slice_get (level_by ds ss) i) side ≡ b
    shown_up [] [] i side b e at = let wrong : None ≡ Some b = at in absurd cc
    shown_up [] (s ∷ ss) i side b e at = absurd (omega (arith, e))
    shown_up (d ∷ ds) [] i side b e at = absurd (omega (arith, e))
    shown_up (d ∷ ds) (s ∷ ss) zero Uncompressed b e at = ap (λ o. unwrap_or o []) at
    shown_up (d ∷ ds) (s ∷ ss) zero Compressed b e at = ap (λ o. unwrap_or o []) at
    shown_up (d ∷ ds) (s ∷ ss) (suc i) side b e at = shown_up ds ss i side b (omega (arith, e)) at

    side_end : (format : Format) (ss : List Shown) (args : List ℤ) (w : WholeSides) → length ss ≡ length format.fields → w.header ≡ header_bits (level_by format.fields ss) → w.packed ≡ packed_bits format.listing (level_by format.fields ss)
        → (x : Subject) (side : Side) (b : List Bool) → seen_side (seen_at_end ss args w) x side ≡ Some b → side_of format.listing (level_by format.fields ss) x side ≡ b
    side_end format ss args w count h q (subject.Field i) side b at = shown_up format.fields ss i side b count at
    side_end format ss args w count h q subject.This Uncompressed b at = let one : Some w.header ≡ Some b = at in let same : w.header ≡ b = cc in sym h ∙ same
    side_end format ss args w count h q subject.This Compressed b at = let one : Some w.packed ≡ Some b = at in let same : w.packed ≡ b = cc in sym q ∙ same

    bears_end : (format : Format) (ss : List Shown) (args : List ℤ) (w : WholeSides) → length ss ≡ length format.fields → w.header ≡ header_bits (level_by format.fields ss) → w.packed ≡ packed_bits format.listing (level_by format.fields ss)
        → Bears (record { listing = format.listing; sides = level_by format.fields ss; arguments = args }) (seen_at_end ss args w)
    bears_end format ss args w count h q = record { arguments_are = refl; sides_are = side_end format ss args w count h q }
