-- The paths of the entries of a filling are those of any other that fits.
use Rattle.std.proofs.Common.{◌≡◌, ◌∙◌, refl, sym, ap, subst, ℕ, zero, suc, Bool, true, false, cond, ◌||◌, List, [], ◌∷◌, ◌++◌, map}
use Rattle.std.specs.Prelude.{Option, Some, None, slice_get, reverse, is_some, ℤ}
use Rattle.std.specs.List.{flat_map}
use Rattle.std.specs.Str.{bytes_eq}
use Rattle.std.proofs.lemmas.Bool.{false≢true}
use Rattle.std.proofs.lemmas.List.{reverse-append}
use Rattle.sem_context.specs.Entries.{Entries, bits_at}
use Rattle.sem_expr.specs.declared.expr.Subject.{Subject}
use Rattle.sem_expr.specs.declared.expr.Side.{Side}
use Rattle.sem_expr.specs.Values.{Assignment}
use Rattle.sem_profile.specs.declared.profile.Part.{Part}
use Rattle.sem_profile.specs.declared.profile.Part.TheVariants.{Header, Control, Local}
use Rattle.sem_profile.specs.declared.profile.Declared.{Declared}
use Rattle.sem_profile.specs.declared.profile.Encoding.{Encoding}
use Rattle.sem_profile.specs.declared.profile.Field.{Field}
use Rattle.sem_profile.specs.declared.profile.Format.{Format}
use Rattle.sem_profile.specs.declared.profile.Method.{Method}
use Rattle.sem_filling.specs.declared.filling.Filling.{Filling, out-Filling}
use Rattle.sem_filling.specs.declared.filling.FilledField.{FilledField}
use Rattle.sem_filling.specs.Fillings.{sides_of, inner_of, fields_of}
use Rattle.sem_filling.specs.Entries.{Path, below, own_entry, entries_below, entries}
use Rattle.sem_filling.specs.FillingLaws.{entries_at, entries_inside}
use Rattle.sem_filling.proofs.EntriesLevels.{entries_are}
use Rattle.sem_filling.proofs.FillingsUnique.{also_at}
use Rattle.sem_filling.specs.Fits.{Context, Fits, FieldFits, IsShaped, format_at, side_of, assigned}
use Rattle.sem_filling.specs.Fits as fit
use Rattle.sem_filling.proofs.FitsSized.{one_value, and_then_some}
use Rattle.sem_filling.proofs.FitsInverted.{FitsParts, parts, called_parts, length-fields}
use Rattle.sem_profile.specs.Alike.{AreAlike}
use Rattle.sem_elsewhere.specs.Paths.{CallAlike, SamePaths}

-- whether a path has an entry
abbrev pub has : Entries → Path → Bool
has es q = is_some (bits_at es q)

has-append : (xs ys : Entries) (q : Path) → has (xs ++ ys) q ≡ (has xs q || has ys q)
has-append [] ys q = refl
has-append (x ∷ xs) ys q = by (bytes_eq q x.0) (has-append xs ys q)
  where
    by : (b : Bool) → has (xs ++ ys) q ≡ (has xs q || has ys q) → is_some (cond b (Some x.1) (bits_at (xs ++ ys) q)) ≡ (is_some (cond b (Some x.1) (bits_at xs q)) || has ys q)
    by true rest = refl
    by false rest = rest

either_way : (a b : Bool) → (a || b) ≡ (b || a)
either_way true true = refl
either_way true false = refl
either_way false true = refl
either_way false false = refl

pub has-reverse : (xs : Entries) (q : Path) → has (reverse xs) q ≡ has xs q
has-reverse [] q = refl
has-reverse (x ∷ xs) q =
    ap (λ l. has l q) (reverse-append (x ∷ []) xs) ∙ has-append (reverse xs) (x ∷ []) q ∙ ap (λ b. b || has (x ∷ []) q) (has-reverse xs q)
    ∙ either_way (has xs q) (has (x ∷ []) q) ∙ sym (has-append (x ∷ []) xs q)

right_of : (a b : Bool) → b ≡ true → (a || b) ≡ true
right_of true b e = refl
right_of false b e = e

left_of : (a b : Bool) → a ≡ true → (a || b) ≡ true
left_of a b e = ap (λ x. x || b) e

-- an entry of some field
pub record IsAmong (path q : Path) (xs : List FilledField) : Type 0 where
  pub place : ℕ
  pub field : FilledField
  pub at : slice_get xs place ≡ Some field
  pub here : has (entries_at path field) q ≡ true

among : (path q : Path) (xs : List FilledField) → has (flat_map (entries_at path) xs) q ≡ true → IsAmong path q xs
among path q [] e = absurd (false≢true e)
among path q (x ∷ xs) e = by (λ h. among path q xs h) (has (entries_at path x) q) refl (sym (has-append (entries_at path x) (flat_map (entries_at path) xs) q) ∙ e)
  where
    by : (has (flat_map (entries_at path) xs) q ≡ true → IsAmong path q xs) → (b : Bool) → has (entries_at path x) q ≡ b → (has (entries_at path x) q || has (flat_map (entries_at path) xs) q) ≡ true → IsAmong path q (x ∷ xs)
    by later true is whole = record { place = zero; field = x; at = refl; here = is }
    by later false is whole =
        let r = later (sym (ap (λ b. b || has (flat_map (entries_at path) xs) q) is) ∙ whole) in
        record { place = suc r.place; field = r.field; at = r.at; here = r.here }

within : (path q : Path) (xs : List FilledField) (i : ℕ) (x : FilledField) → slice_get xs i ≡ Some x → has (entries_at path x) q ≡ true → has (flat_map (entries_at path) xs) q ≡ true
within path q [] i x at e = absurd (cc)
within path q (y ∷ ys) zero x at e =
    let same : y ≡ x = cc in
    has-append (entries_at path y) (flat_map (entries_at path) ys) q ∙ left_of (has (entries_at path y) q) (has (flat_map (entries_at path) ys) q) (ap (λ z. has (entries_at path z) q) same ∙ e)
within path q (y ∷ ys) (suc i) x at e =
    has-append (entries_at path y) (flat_map (entries_at path) ys) q ∙ right_of (has (entries_at path y) q) (has (flat_map (entries_at path) ys) q) (within path q ys i x at e)

-- its own entry, whatever its bits are
own_same : (part : Part) (here : Path) (u v : List Bool) (q : Path) → has (own_entry part here u) q ≡ has (own_entry part here v) q
own_same Header here u v q = by (bytes_eq q here)
  where
    by : (b : Bool) → is_some (cond b (Some u) None) ≡ is_some (cond b (Some v) None)
    by true = refl
    by false = refl
own_same Control here u v q = by (bytes_eq q here)
  where
    by : (b : Bool) → is_some (cond b (Some u) None) ≡ is_some (cond b (Some v) None)
    by true = refl
    by false = refl
own_same Local here u v q = refl

-- the declaration of a field is that of the format
declared_at : (xs : List FilledField) (ds : List Field) (i : ℕ) (x : FilledField) (d : Field) → map (λ s. s.declared) (map sides_of xs) ≡ map (λ (f : Field). f.declared) ds → slice_get xs i ≡ Some x
    → slice_get ds i ≡ Some d → (sides_of x).declared ≡ d.declared
declared_at [] ds i x d e at at' = absurd (cc)
declared_at (y ∷ ys) [] i x d e at at' = absurd (cc)
declared_at (y ∷ ys) (c ∷ cs) zero x d e at at' = let a : y ≡ x = cc in let b : c ≡ d = cc in let both : (sides_of y).declared ≡ c.declared = cc in sym (ap (λ z. (sides_of z).declared) a) ∙ both ∙ ap (λ (z : Field). z.declared) b
declared_at (y ∷ ys) (c ∷ cs) (suc i) x d e at at' = let rest : map (λ s. s.declared) (map sides_of ys) ≡ map (λ (f : Field). f.declared) cs = cc in declared_at ys cs i x d rest at at'

module _ (methods : List Method) (alike : AreAlike methods) (calls : CallAlike methods) (ctx other : Context) where
  -- what is inside a field of the other filling: if this one has an entry there, so has that
  abbrev Matches : Path → FilledField → FilledField → Path → Type 0
  Matches path x y q = has (entries_at path x) q ≡ true → has (entries_at path y) q ≡ true

  -- of two fields that are declared alike one has the entry of its own that the other has
  own_there : (path : Path) (x y : FilledField) (q : Path) → (sides_of x).declared ≡ (sides_of y).declared → has (own_entry (sides_of x).declared.part (below path (sides_of x).declared.name) (sides_of x).uncompressed) q ≡ true
      → has (entries_at path y) q ≡ true
  own_there path x y q same e =
      let here = below path (sides_of y).declared.name in
      let moved : has (own_entry (sides_of y).declared.part here (sides_of x).uncompressed) q ≡ true = ap (λ (d : Declared). has (own_entry d.part (below path d.name) (sides_of x).uncompressed) q) (sym same) ∙ e in
      has-append (own_entry (sides_of y).declared.part here (sides_of y).uncompressed) (entries_inside (inner_of y) here) q
      ∙ left_of (has (own_entry (sides_of y).declared.part here (sides_of y).uncompressed) q) (has (entries_inside (inner_of y) here) q)
      (own_same (sides_of y).declared.part here (sides_of y).uncompressed (sides_of x).uncompressed q ∙ moved)

  -- nothing inside: the entry is its own
  plain_there : (path : Path) (x y : FilledField) (q : Path) → (sides_of x).declared ≡ (sides_of y).declared → inner_of x ≡ None → Matches path x y q
  plain_there path x y q same none e =
      let here = below path (sides_of x).declared.name in
      let own = own_entry (sides_of x).declared.part here (sides_of x).uncompressed in
      own_there path x y q same (sym (drop_false (has own q)) ∙ sym (ap (λ o. has own q || has (entries_inside o here) q) none) ∙ sym (has-append own (entries_inside (inner_of x) here) q) ∙ e)
    where
      drop_false : (b : Bool) → (b || false) ≡ b
      drop_false true = refl
      drop_false false = refl

  inside_there : (path : Path) (x y : FilledField) (q : Path) (inner inner' : Filling) → (sides_of x).declared ≡ (sides_of y).declared → inner_of x ≡ Some inner → inner_of y ≡ Some inner'
      → (has (entries_below inner (below path (sides_of x).declared.name)) q ≡ true → has (entries_below inner' (below path (sides_of x).declared.name)) q ≡ true) → Matches path x y q
  inside_there path x y q inner inner' same is is' deeper e = by (has own q) refl (sym (has-append own (entries_inside (inner_of x) here) q) ∙ e)
    where
      here : Path
      here = below path (sides_of x).declared.name

      own : Entries
      own = own_entry (sides_of x).declared.part here (sides_of x).uncompressed

      by : (b : Bool) → has own q ≡ b → (has own q || has (entries_inside (inner_of x) here) q) ≡ true → has (entries_at path y) q ≡ true
      by true mine whole = own_there path x y q same mine
      by false mine whole =
          let there = below path (sides_of y).declared.name in
          let places : here ≡ there = ap (λ (d : Declared). below path d.name) same in
          let first : has (entries_below inner here) q ≡ true = ap (λ o. has (entries_inside o here) q) (sym is) ∙ sym (ap (λ b. b || has (entries_inside (inner_of x) here) q) mine) ∙ whole in
          let second : has (entries_inside (inner_of y) there) q ≡ true = ap (λ o. has (entries_inside o there) q) is' ∙ ap (λ p. has (entries_below inner' p) q) (sym places) ∙ deeper first in
          has-append (own_entry (sides_of y).declared.part there (sides_of y).uncompressed) (entries_inside (inner_of y) there) q
          ∙ right_of (has (own_entry (sides_of y).declared.part there (sides_of y).uncompressed) q) (has (entries_inside (inner_of y) there) q) second

  -- the field of the other filling at the same place
  pub record Partner (path : Path) (d : Field) (i : ℕ) (g : Filling) (k : ℕ) (others : List ℤ) (p : FitsParts methods other k others path g) : Type 0 where
    pub field : Field
    pub filled : FilledField
    pub at : slice_get p.format.fields i ≡ Some field
    pub filled_at : slice_get (fields_of g) i ≡ Some filled
    pub declared_is : field.declared ≡ d.declared
    pub filled_is : (sides_of filled).declared ≡ d.declared

  partner : (path : Path) (d : Field) (i n k : ℕ) (others : List ℤ) (g : Filling) (format : Format) (p : FitsParts methods other k others path g) → format_at methods k n ≡ Some format
      → slice_get format.fields i ≡ Some d → (d.declared.part ≡ Local → ⊥) → Partner path d i g k others p
  partner path d i n k others g format p is at kept =
      let a = and_then_some (λ (m : Method). slice_get m.formats n) (slice_get methods k) format is in
      let b = and_then_some (λ (m : Method). slice_get m.formats (out-Filling g).format) (slice_get methods k) p.format p.is_format in
      let one : b.0 ≡ a.0 = one_value (slice_get methods k) b.0 a.0 b.1 a.1 in
      let e = alike.fields k n (out-Filling g).format i a.0 format p.format d a.1 a.2 (ap (λ (m : Method). slice_get m.formats (out-Filling g).format) (sym one) ∙ b.2) at kept in
      let y = also_at p.format.fields (fields_of g) i e.0 (sym (length-fields p.format g p.level_fits.shaped)) e.1 in
      record {
        field = e.0;
        filled = y.0;
        at = e.1;
        filled_at = y.1;
        declared_is = e.2.declared_is;
        filled_is = declared_at (fields_of g) p.format.fields i y.0 e.0 p.level_fits.shaped.declared_is y.1 e.1 ∙ e.2.declared_is;
      }

  nothing_local : (part : Part) (here : Path) (u : List Bool) (o : Option Filling) (q : Path) → o ≡ None → part ≡ Local → has (own_entry part here u ++ entries_inside o here) q ≡ false
  nothing_local Local here u None q none local = refl
  nothing_local Header here u None q none local = absurd (cc)
  nothing_local Control here u None q none local = absurd (cc)
  nothing_local part here u (Some f) q none local = absurd (cc)

  plain_names : (path : Path) (d : Field) (x : FilledField) (i n k : ℕ) (others : List ℤ) (g : Filling) (format : Format) (p : FitsParts methods other k others path g) (q : Path) → format_at methods k n ≡ Some format
      → slice_get format.fields i ≡ Some d → (sides_of x).declared ≡ d.declared → inner_of x ≡ None → has (entries_at path x) q ≡ true → has (flat_map (entries_at path) (fields_of g)) q ≡ true
  plain_names path d x i n k others g format p q is at declared none here =
      let kept : d.declared.part ≡ Local → ⊥ = λ local. false≢true (sym (nothing_local (sides_of x).declared.part (below path (sides_of x).declared.name) (sides_of x).uncompressed (inner_of x) q none
      (ap (λ (z : Declared). z.part) declared ∙ local)) ∙ here) in
      let y = partner path d i n k others g format p is at kept in
      within path q (fields_of g) i y.filled y.filled_at (plain_there path x y.filled q (declared ∙ sym y.filled_is) none here)

  mutual
    names : {k : ℕ} {args others : List ℤ} {path : Path} {f g : Filling} → Fits methods ctx k args path f → Fits methods other k others path g → (q : Path)
        → has (entries_below f path) q ≡ true → has (entries_below g path) q ≡ true
    names {k} {args} {others} {path} {f} {g} (fit.fits format is level_fits each) h q e =
        let p = parts h in
        let a = among path q (fields_of f) (sym (ap (λ es. has es q) (entries_are f path)) ∙ e) in
        let d = also_at (fields_of f) format.fields a.place a.field (length-fields format f level_fits.shaped) a.at in
        let declared = declared_at (fields_of f) format.fields a.place a.field d.0 level_fits.shaped.declared_is a.at d.1 in
        ap (λ es. has es q) (entries_are g path)
        ∙ field_names (each a.place d.0 a.field d.1 a.at) refl format (out-Filling f).format a.place k others g p q is d.1 declared a.here

    field_names : {side : Subject → Side → List Bool} {a : Assignment} {path : Path} {d : Field} {c : Encoding} {x : FilledField} → FieldFits methods ctx side a path d c x → d.encoding ≡ c
        → (format : Format) (n i k : ℕ) (others : List ℤ) (g : Filling) (p : FitsParts methods other k others path g) (q : Path) → format_at methods k n ≡ Some format
        → slice_get format.fields i ≡ Some d → (sides_of x).declared ≡ d.declared → has (entries_at path x) q ≡ true → has (flat_map (entries_at path) (fields_of g)) q ≡ true
    field_names {path} {d} {x} (fit.bare short unsent plain) c_is format n i k others g p q is at declared here = plain_names path d x i n k others g format p q is at declared plain here
    field_names {path} {d} {x} (fit.coded m m_is holds plain) c_is format n i k others g p q is at declared here = plain_names path d x i n k others g format p q is at declared plain here
    field_names {path} {d} {x} (fit.called {k = j} {es = es} values inner is_values is_inner fitted u c) c_is format n i k others g p q is at declared here =
        let kept : d.declared.part ≡ Local → ⊥ = λ local. calls.no_local k n i j es format d is at local c_is in
        let y = partner path d i n k others g format p is at kept in
        let e = calls.same k n (out-Filling g).format i j es format p.format d y.field is p.is_format at y.at kept c_is in
        let t = called_parts methods other (p.each i y.field y.filled y.at y.filled_at) j e.0 e.1 in
        let fitted' : Fits methods other j t.args (below path d.declared.name) t.inner = subst (λ (z : Declared). Fits methods other j t.args (below path z.name) t.inner) y.declared_is t.inner_fits in
        let deeper : has (entries_below inner (below path d.declared.name)) q ≡ true → has (entries_below t.inner (below path d.declared.name)) q ≡ true = names fitted fitted' q in
        within path q (fields_of g) i y.filled y.filled_at (inside_there path x y.filled q inner t.inner (declared ∙ sym y.filled_is) is_inner t.is_inner
        (subst (λ (z : Declared). has (entries_below inner (below path z.name)) q ≡ true → has (entries_below t.inner (below path z.name)) q ≡ true) (sym declared) deeper) here)

none_is : (o : Option (List Bool)) → is_some o ≡ false → o ≡ None
none_is None e = refl
none_is (Some x) e = absurd (false≢true (sym e))

not_both : (a b : Bool) → (a ≡ true → b ≡ true) → b ≡ false → a ≡ false
not_both true b to e = absurd (false≢true (sym e ∙ to refl))
not_both false b to e = refl

pub same_paths : SamePaths
same_paths methods top alike calls ctx other f g h h' path none =
    let without : has (entries g) path ≡ false = sym (has-reverse (entries g) path) ∙ ap is_some none in
    none_is (bits_at (reverse (entries f)) path) (has-reverse (entries f) path ∙ not_both (has (entries f) path) (has (entries g) path) (names methods alike calls ctx other h h' path) without)
