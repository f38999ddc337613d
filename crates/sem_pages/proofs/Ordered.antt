-- Where methods call alike, all fillings of a method that fit leave entries at the same paths, in the same order.
use Rattle.std.proofs.Common.{◌≡◌, ◌∙◌, refl, sym, ap, subst, ℕ, zero, suc, Bool, List, [], ◌∷◌, ◌++◌, ◌⊎◌, inl, inr, map}
use Rattle.std.specs.Prelude.{Option, Some, None, slice_get, ℤ}
use Rattle.std.specs.List.{flat_map}
use Rattle.std.specs.Map.{keys_of}
use Rattle.std.proofs.lemmas.List.{map-append}
use Rattle.sem_context.specs.Entries.{Entries}
use Rattle.sem_expr.specs.declared.expr.Expr.{Expr}
use Rattle.sem_expr.specs.declared.expr.Subject.{Subject}
use Rattle.sem_expr.specs.declared.expr.Side.{Side}
use Rattle.sem_expr.specs.Values.{Assignment}
use Rattle.sem_profile.specs.declared.profile.Part.{Part}
use Rattle.sem_profile.specs.declared.profile.Part.TheVariants.{Header, Control, Local}
use Rattle.sem_profile.specs.declared.profile.Declared.{Declared}
use Rattle.sem_profile.specs.declared.profile.Encoding.{Encoding}
use Rattle.sem_profile.specs.declared.profile.Encoding.TheVariants as encoding
use Rattle.sem_profile.specs.declared.profile.Field.{Field}
use Rattle.sem_profile.specs.declared.profile.Format.{Format}
use Rattle.sem_profile.specs.declared.profile.Method.{Method}
use Rattle.sem_profile.specs.Alike.{AreAlike}
use Rattle.sem_filling.specs.declared.filling.Filling.{Filling, out-Filling}
use Rattle.sem_filling.specs.declared.filling.FilledField.{FilledField}
use Rattle.sem_filling.specs.Fillings.{sides_of, inner_of, fields_of}
use Rattle.sem_filling.specs.Entries.{Path, below, own_entry, entries_below}
use Rattle.sem_filling.specs.FillingLaws.{entries_at, entries_inside}
use Rattle.sem_filling.specs.Fits.{Context, Fits, FieldFits, format_at}
use Rattle.sem_filling.specs.Fits as fit
use Rattle.sem_filling.proofs.EntriesLevels.{entries_are}
use Rattle.sem_filling.proofs.FillingsUnique.{also_at}
use Rattle.sem_filling.proofs.FitsSized.{one_value, and_then_some}
use Rattle.sem_filling.proofs.FitsInverted.{FitsParts, parts, called_parts, length-fields}
use Rattle.sem_elsewhere.specs.Paths.{CallAlike}

-- the paths of the entries of a field
abbrev paths_at : Path → FilledField → List Path
paths_at path x = keys_of (entries_at path x)

abbrev paths_of : Path → Option FilledField → List Path
paths_of path None = []
paths_of path (Some x) = paths_at path x

keys_append : (xs ys : Entries) → keys_of (xs ++ ys) ≡ keys_of xs ++ keys_of ys
keys_append xs ys = map-append (λ (e : Path × List Bool). e.0) xs ys

keys_are : (path : Path) (xs : List FilledField) → keys_of (flat_map (entries_at path) xs) ≡ flat_map (paths_at path) xs
keys_are path [] = refl
keys_are path (x ∷ xs) = keys_append (entries_at path x) (flat_map (entries_at path) xs) ∙ ap (λ z. paths_at path x ++ z) (keys_are path xs)

-- field by field
same_lists : (path : Path) (xs ys : List FilledField) → ((i : ℕ) → paths_of path (slice_get xs i) ≡ paths_of path (slice_get ys i)) → flat_map (paths_at path) xs ≡ flat_map (paths_at path) ys
same_lists path [] [] each = refl
same_lists path [] (y ∷ ys) each = same_lists path [] ys (λ i. each (suc i)) ∙ ap (λ z. z ++ flat_map (paths_at path) ys) (each 0)
same_lists path (x ∷ xs) [] each = ap (λ z. z ++ flat_map (paths_at path) xs) (each 0) ∙ same_lists path xs [] (λ i. each (suc i))
same_lists path (x ∷ xs) (y ∷ ys) each = ap (λ z. z ++ flat_map (paths_at path) xs) (each 0) ∙ ap (λ z. paths_at path y ++ z) (same_lists path xs ys (λ i. each (suc i)))

-- the declaration of a field is that of the format
declared_at : (xs : List FilledField) (ds : List Field) (i : ℕ) (x : FilledField) (d : Field) → map (λ s. s.declared) (map sides_of xs) ≡ map (λ (f : Field). f.declared) ds → slice_get xs i ≡ Some x
    → slice_get ds i ≡ Some d → (sides_of x).declared ≡ d.declared
declared_at [] ds i x d e at at' = absurd (cc)
declared_at (y ∷ ys) [] i x d e at at' = absurd (cc)
declared_at (y ∷ ys) (c ∷ cs) zero x d e at at' = let a : y ≡ x = cc in let b : c ≡ d = cc in let both : (sides_of y).declared ≡ c.declared = cc in sym (ap (λ z. (sides_of z).declared) a) ∙ both ∙ ap (λ (z : Field). z.declared) b
declared_at (y ∷ ys) (c ∷ cs) (suc i) x d e at at' = let rest : map (λ s. s.declared) (map sides_of ys) ≡ map (λ (f : Field). f.declared) cs = cc in declared_at ys cs i x d rest at at'

-- the own entry of a field, whatever its bits are
own_same : (part : Part) (here : Path) (u v : List Bool) → keys_of (own_entry part here u) ≡ keys_of (own_entry part here v)
own_same Header here u v = refl
own_same Control here u v = refl
own_same Local here u v = refl

-- two fields that are declared alike, with what is inside them
both_at : (path : Path) (x y : FilledField) (d : Declared) → (sides_of x).declared ≡ d → (sides_of y).declared ≡ d → keys_of (entries_inside (inner_of x) (below path d.name)) ≡ keys_of (entries_inside (inner_of y) (below path d.name))
    → paths_at path x ≡ paths_at path y
both_at path x y d x_is y_is inside =
    let one : (z : FilledField) → (sides_of z).declared ≡ d → paths_at path z ≡ keys_of (own_entry d.part (below path d.name) []) ++ keys_of (entries_inside (inner_of z) (below path d.name)) =
    λ z is. ap (λ (c : Declared). keys_of (own_entry c.part (below path c.name) (sides_of z).uncompressed ++ entries_inside (inner_of z) (below path c.name))) is
    ∙ keys_append (own_entry d.part (below path d.name) (sides_of z).uncompressed) (entries_inside (inner_of z) (below path d.name))
    ∙ ap (λ ps. ps ++ keys_of (entries_inside (inner_of z) (below path d.name))) (own_same d.part (below path d.name) (sides_of z).uncompressed []) in
    one x x_is ∙ ap (λ ps. keys_of (own_entry d.part (below path d.name) []) ++ ps) inside ∙ sym (one y y_is)

nothing_at : (path : Path) (x : FilledField) → (sides_of x).declared.part ≡ Local → inner_of x ≡ None → paths_at path x ≡ []
nothing_at path x local none =
    ap (λ p. keys_of (own_entry p (below path (sides_of x).declared.name) (sides_of x).uncompressed ++ entries_inside (inner_of x) (below path (sides_of x).declared.name))) local
    ∙ ap (λ o. keys_of (entries_inside o (below path (sides_of x).declared.name))) none

-- a field that calls no method has nothing inside
plain_inside : {methods : List Method} {ctx : Context} {side : Subject → Side → List Bool} {a : Assignment} {path : Path} {d : Field} {c : Encoding} {x : FilledField} → FieldFits methods ctx side a path d c x
    → ((k : ℕ) (es : List Expr) → c ≡ encoding.Call k es → ⊥) → inner_of x ≡ None
plain_inside (fit.bare short unsent plain) calls_none = plain
plain_inside (fit.coded m m_is holds plain) calls_none = plain
plain_inside (fit.called {k = k} {es = es} values inner is_values is_inner fitted u c) calls_none = absurd (calls_none k es refl)

part_of : (p : Part) → (p ≡ Local) ⊎ (p ≡ Local → ⊥)
part_of Header = inr (λ e. cc)
part_of Control = inr (λ e. cc)
part_of Local = inl refl

module _ (methods : List Method) (alike : AreAlike methods) (calls : CallAlike methods) where
  -- a field of one format stands in each other, if it isn't local
  other_field : (k n m i : ℕ) (f g : Format) (d : Field) → format_at methods k n ≡ Some f → format_at methods k m ≡ Some g → slice_get f.fields i ≡ Some d → (d.declared.part ≡ Local → ⊥)
      → (e : Field) × (slice_get g.fields i ≡ Some e) × (e.declared ≡ d.declared)
  other_field k n m i f g d f_is g_is at kept =
      let a = and_then_some (λ (z : Method). slice_get z.formats n) (slice_get methods k) f f_is in
      let b = and_then_some (λ (z : Method). slice_get z.formats m) (slice_get methods k) g g_is in
      let one : b.0 ≡ a.0 = one_value (slice_get methods k) b.0 a.0 b.1 a.1 in
      let e = alike.fields k n m i a.0 f g d a.1 a.2 (ap (λ (z : Method). slice_get z.formats m) (sym one) ∙ b.2) at kept in
      (e.0, e.1, e.2.declared_is)

  module _ (ctx other : Context) where
    -- where one format has no such field at the place, the other filling leaves nothing there
    left_none : (k n i : ℕ) (path : Path) (args : List ℤ) (g : Filling) (f : Format) (p : FitsParts methods other k args path g) → format_at methods k n ≡ Some f
        → ((d : Field) → slice_get f.fields i ≡ Some d → (d.declared.part ≡ Local → ⊥) → ⊥) → paths_of path (slice_get (fields_of g) i) ≡ []
    left_none k n i path args g f p f_is none = by (slice_get (fields_of g) i) refl
      where
        by : (o : Option FilledField) → slice_get (fields_of g) i ≡ o → paths_of path o ≡ []
        by None at = refl
        by (Some y) at =
            whether (part_of e.0.declared.part)
          where
            e : (z : Field) × (slice_get p.format.fields i ≡ Some z)
            e = also_at (fields_of g) p.format.fields i y (length-fields p.format g p.level_fits.shaped) at

            declared : (sides_of y).declared ≡ e.0.declared
            declared = declared_at (fields_of g) p.format.fields i y e.0 p.level_fits.shaped.declared_is at e.1

            whether : (e.0.declared.part ≡ Local) ⊎ (e.0.declared.part ≡ Local → ⊥) → paths_at path y ≡ []
            whether (inl local) = nothing_at path y (ap (λ (z : Declared). z.part) declared ∙ local) (plain_inside (p.each i e.0 y e.1 at) (λ j es call. calls.no_local k (out-Filling g).format i j es p.format e.0 p.is_format e.1 local call))
            whether (inr kept) = let d = other_field k (out-Filling g).format n i p.format f e.0 p.is_format f_is e.1 kept in absurd (none d.0 d.1 (λ local. kept (ap (λ (z : Declared). z.part) (sym d.2) ∙ local)))

    -- a field that calls no method, and what the other filling leaves there
    plain_same : (k n i : ℕ) (path : Path) (args : List ℤ) (g : Filling) (f : Format) (p : FitsParts methods other k args path g) → format_at methods k n ≡ Some f → (d : Field) (x : FilledField) → slice_get f.fields i ≡ Some d
        → (sides_of x).declared ≡ d.declared → inner_of x ≡ None → ((j : ℕ) (es : List Expr) → d.encoding ≡ encoding.Call j es → ⊥) → paths_at path x ≡ paths_of path (slice_get (fields_of g) i)
    plain_same k n i path args g f p f_is d x at declared none calls_none = by (part_of d.declared.part)
      where
        by : (d.declared.part ≡ Local) ⊎ (d.declared.part ≡ Local → ⊥) → paths_at path x ≡ paths_of path (slice_get (fields_of g) i)
        by (inl local) =
            nothing_at path x (ap (λ (z : Declared). z.part) declared ∙ local) none
            ∙ sym (left_none k n i path args g f p f_is (λ c c_at kept. let one : Some d ≡ Some c = sym at ∙ c_at in let same : d ≡ c = cc in kept (ap (λ (z : Field). z.declared.part) (sym same) ∙ local)))
        by (inr kept) =
            let e = other_field k n (out-Filling g).format i f p.format d f_is p.is_format at kept in
            let y = also_at p.format.fields (fields_of g) i e.0 (sym (length-fields p.format g p.level_fits.shaped)) e.1 in
            let y_declared : (sides_of y.0).declared ≡ d.declared = declared_at (fields_of g) p.format.fields i y.0 e.0 p.level_fits.shaped.declared_is y.1 e.1 ∙ e.2 in
            let e_kept : e.0.declared.part ≡ Local → ⊥ = λ local. kept (ap (λ (z : Declared). z.part) (sym e.2) ∙ local) in
            let y_none = plain_inside (p.each i e.0 y.0 e.1 y.1) (λ j es call. let back = calls.same k (out-Filling g).format n i j es p.format f e.0 d p.is_format f_is e.1 at e_kept call in calls_none j back.0 back.1) in
            both_at path x y.0 d.declared declared y_declared
            (ap (λ o. keys_of (entries_inside o (below path d.declared.name))) none ∙ sym (ap (λ o. keys_of (entries_inside o (below path d.declared.name))) y_none))
            ∙ ap (paths_of path) (sym y.1)

    mutual
      ordered : {k : ℕ} {args others : List ℤ} {path : Path} {f g : Filling} → Fits methods ctx k args path f → Fits methods other k others path g → keys_of (entries_below f path) ≡ keys_of (entries_below g path)
      ordered {k} {args} {others} {path} {f} {g} (fit.fits format is level_fits each) h =
          let p = parts h in
          let mine : (i : ℕ) (x : FilledField) → slice_get (fields_of f) i ≡ Some x → paths_at path x ≡ paths_of path (slice_get (fields_of g) i) =
          λ i x x_at.
          let d = also_at (fields_of f) format.fields i x (length-fields format f level_fits.shaped) x_at in
          field_ordered (each i d.0 x d.1 x_at) refl format (out-Filling f).format i k others g p is d.1 (declared_at (fields_of f) format.fields i x d.0 level_fits.shaped.declared_is x_at d.1) in
          let none : (i : ℕ) → slice_get (fields_of f) i ≡ None → [] ≡ paths_of path (slice_get (fields_of g) i) =
          λ i gone. sym (left_none k (out-Filling f).format i path others g format p is
          (λ c c_at kept. let x = also_at format.fields (fields_of f) i c (sym (length-fields format f level_fits.shaped)) c_at in let wrong : None ≡ Some x.0 = sym gone ∙ x.1 in absurd cc)) in
          ap keys_of (entries_are f path) ∙ keys_are path (fields_of f)
          ∙ same_lists path (fields_of f) (fields_of g) (λ i. either i (slice_get (fields_of f) i) refl (mine i) (none i))
          ∙ sym (keys_are path (fields_of g)) ∙ ap keys_of (sym (entries_are g path))
        where
          either : (i : ℕ) (o : Option FilledField) → slice_get (fields_of f) i ≡ o → ((x : FilledField) → slice_get (fields_of f) i ≡ Some x → paths_at path x ≡ paths_of path (slice_get (fields_of g) i))
              → (slice_get (fields_of f) i ≡ None → [] ≡ paths_of path (slice_get (fields_of g) i)) → paths_of path (slice_get (fields_of f) i) ≡ paths_of path (slice_get (fields_of g) i)
          either i None at mine none = ap (paths_of path) at ∙ none at
          either i (Some x) at mine none = ap (paths_of path) at ∙ mine x at

      field_ordered : {side : Subject → Side → List Bool} {a : Assignment} {path : Path} {d : Field} {c : Encoding} {x : FilledField} → FieldFits methods ctx side a path d c x → d.encoding ≡ c
          → (format : Format) (n i k : ℕ) (others : List ℤ) (g : Filling) (p : FitsParts methods other k others path g) → format_at methods k n ≡ Some format
          → slice_get format.fields i ≡ Some d → (sides_of x).declared ≡ d.declared → paths_at path x ≡ paths_of path (slice_get (fields_of g) i)
      field_ordered {path} {d} {x} (fit.bare short unsent plain) c_is format n i k others g p is at declared = plain_same k n i path others g format p is d x at declared plain (λ j es call. let wrong : encoding.Bare ≡ encoding.Call j es = sym c_is ∙ call in absurd cc)
      field_ordered {path} {d} {x} (fit.coded {l = l} m m_is holds plain) c_is format n i k others g p is at declared = plain_same k n i path others g format p is d x at declared plain (λ j es call. let wrong : encoding.Library l ≡ encoding.Call j es = sym c_is ∙ call in absurd cc)
      field_ordered {path} {d} {x} (fit.called {k = j} {es = es} values inner is_values is_inner fitted u c) c_is format n i k others g p is at declared =
          let kept : d.declared.part ≡ Local → ⊥ = λ local. calls.no_local k n i j es format d is at local c_is in
          let e = other_field k n (out-Filling g).format i format p.format d is p.is_format at kept in
          let y = also_at p.format.fields (fields_of g) i e.0 (sym (length-fields p.format g p.level_fits.shaped)) e.1 in
          let y_declared : (sides_of y.0).declared ≡ d.declared = declared_at (fields_of g) p.format.fields i y.0 e.0 p.level_fits.shaped.declared_is y.1 e.1 ∙ e.2 in
          let call = calls.same k n (out-Filling g).format i j es format p.format d e.0 is p.is_format at e.1 kept c_is in
          let t = called_parts methods other (p.each i e.0 y.0 e.1 y.1) j call.0 call.1 in
          let fitted' : Fits methods other j t.args (below path d.declared.name) t.inner = subst (λ (z : Declared). Fits methods other j t.args (below path z.name) t.inner) e.2 t.inner_fits in
          let inside = ordered fitted fitted' in
          both_at path x y.0 d.declared declared y_declared
          (ap (λ o. keys_of (entries_inside o (below path d.declared.name))) is_inner ∙ inside ∙ sym (ap (λ o. keys_of (entries_inside o (below path d.declared.name))) t.is_inner))
          ∙ ap (paths_of path) (sym y.1)

-- two fillings of a method that fit, each in a context of its own
pub same_order : (methods : List Method) → AreAlike methods → CallAlike methods → (ctx other : Context) (k : ℕ) (args others : List ℤ) (path : Path) (f g : Filling) → Fits methods ctx k args path f → Fits methods other k others path g
    → keys_of (entries_below f path) ≡ keys_of (entries_below g path)
same_order methods alike calls ctx other k args others path f g one two = ordered methods alike calls ctx other one two
