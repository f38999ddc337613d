-- What is listed of a filling is what it uses.
use Rattle.std.proofs.Common.{◌≡◌, ◌∙◌, refl, sym, ap, subst, ℕ, zero, suc, ◌<◌, Bool, true, false, nat_eq, List, [], ◌∷◌, ◌++◌, arith}
use Rattle.std.specs.Prelude.{slice_get, Some, ℤ}
use Rattle.std.proofs.lemmas.Bool.{false≢true, eqb-true, eqb-false}
use Rattle.std.proofs.lemmas.Option.{slice_get_within}
use Rattle.sem_expr.specs.declared.expr.Expr.{Expr}
use Rattle.sem_expr.specs.declared.expr.Side.{Side}
use Rattle.sem_expr.specs.declared.expr.Subject.{Subject}
use Rattle.sem_expr.specs.Values.{Assignment}
use Rattle.sem_library.specs.Methods as lib
use Rattle.sem_profile.specs.declared.profile.Library.{Library}
use Rattle.sem_profile.specs.declared.profile.Encoding.{Encoding}
use Rattle.sem_profile.specs.declared.profile.Encoding.TheVariants as encoding
use Rattle.sem_profile.specs.declared.profile.Field.{Field}
use Rattle.sem_profile.specs.declared.profile.Format.{Format}
use Rattle.sem_profile.specs.declared.profile.Method.{Method}
use Rattle.sem_filling.specs.declared.filling.Filling.{Filling, out-Filling}
use Rattle.sem_filling.specs.declared.filling.FilledField.{FilledField}
use Rattle.sem_filling.specs.Fillings.{inner_of, fields_of, level}
use Rattle.sem_filling.specs.Entries.{Path, below}
use Rattle.sem_filling.specs.Fits.{format_at, side_of, assigned, method_of, vals}
use Rattle.sem_filling.proofs.FitsSized.{one_value}
use Rattle.sem_elsewhere.specs.Uses.{Use, Uses, own, inside, use_of, refers}
use Rattle.sem_elsewhere.specs.Listed.{UsesAre, of_fields, FirstUse, none_yet, one_more, FieldUses, bare_uses, own_use, no_use, inside_use, none_inside, IsAmong, AreItsUses}

-- ---- among joined lists

left_among : (u : Use) (xs ys : List Use) → IsAmong u xs → IsAmong u (xs ++ ys)
left_among u [] ys among = absurd (cc)
left_among u (x ∷ xs) ys (zero, at) = (zero, at)
left_among u (x ∷ xs) ys (suc i, at) = let r = left_among u xs ys (i, at) in (suc r.0, r.1)

right_among : (u : Use) (xs ys : List Use) → IsAmong u ys → IsAmong u (xs ++ ys)
right_among u [] ys among = among
right_among u (x ∷ xs) ys among = let r = right_among u xs ys among in (suc r.0, r.1)

-- where the use is one of joined lists, it is one of one of them
apart : (u : Use) (xs ys : List Use) (R : Type 0) → (IsAmong u xs → R) → (IsAmong u ys → R) → IsAmong u (xs ++ ys) → R
apart u [] ys R left right among = right among
apart u (x ∷ xs) ys R left right (zero, at) = left (zero, at)
apart u (x ∷ xs) ys R left right (suc i, at) = apart u xs ys R (λ m. left (suc m.0, m.1)) right (i, at)

none_among : (u : Use) → IsAmong u [] → ⊥
none_among u among = absurd (cc)

lone_among : (u v : Use) → IsAmong u (v ∷ []) → v ≡ u
lone_among u v (zero, at) = cc
lone_among u v (suc i, at) = absurd (cc)

-- ---- what is listed is used

module _ (methods : List Method) where
  mutual
    listed : {k : ℕ} {args : List ℤ} {path : Path} {f : Filling} {us : List Use} (u : Use) → UsesAre methods k args path f us → IsAmong u us → Uses methods k args path f u
    listed {args = args} {f = f} u (of_fields format is first) among = first_listed {args = args} u is first refl refl among

    first_listed : {k : ℕ} {args : List ℤ} {path : Path} {f : Filling} {n : ℕ} {us : List Use} {format : Format} {side : Subject → Side → List Bool} {a : Assignment} (u : Use)
        → format_at methods k (out-Filling f).format ≡ Some format → FirstUse methods side a path format f n us → side ≡ side_of format.listing (level f) → a ≡ assigned format.listing (level f) args
        → IsAmong u us → Uses methods k args path f u
    first_listed u is none_yet side_is a_is among = absurd (none_among u among)
    first_listed {k} {args} {path} {f} u is (one_more {n = n} {us = us} {more = more} d g before at at' field) side_is a_is among =
        apart u us more (Uses methods k args path f u) (λ m. first_listed {args = args} u is before side_is a_is m) (λ m. field_listed {args = args} u is n g at at' refl field side_is a_is m) among

    field_listed : {k : ℕ} {args : List ℤ} {path : Path} {f : Filling} {us : List Use} {e : Encoding} {d : Field} {format : Format} {side : Subject → Side → List Bool} {a : Assignment} (u : Use)
        → format_at methods k (out-Filling f).format ≡ Some format → (i : ℕ) (g : FilledField) → slice_get format.fields i ≡ Some d → slice_get (fields_of f) i ≡ Some g → d.encoding ≡ e
        → FieldUses methods side a path d e g us → side ≡ side_of format.listing (level f) → a ≡ assigned format.listing (level f) args → IsAmong u us → Uses methods k args path f u
    field_listed u is i g at at' e bare_uses side_is a_is among = absurd (none_among u among)
    field_listed {k} {args} {path} {f} {d = d} {format = format} {side = side} {a = a} u is i g at at' e (own_use {l = l} m m_is r) side_is a_is among =
        subst (λ v. Uses methods k args path f v) (lone_among u (use_of path d g m) among)
        (own format i d g l m is at at' e (sym (ap (λ s. method_of s (assigned format.listing (level f) args) l) side_is) ∙ sym (ap (λ b. method_of side b l) a_is) ∙ m_is) r)
    field_listed u is i g at at' e (no_use none) side_is a_is among = absurd (none_among u among)
    field_listed {d = d} {format = format} u is i g at at' e (inside_use {k = j} {es = es} values inner is_values is_inner these) side_is a_is among =
        inside format i d g j es values inner is at at' e (sym (ap (λ b. vals b es) a_is) ∙ is_values) is_inner (listed u these among)
    field_listed u is i g at at' e (none_inside none) side_is a_is among = absurd (none_among u among)

-- ---- what is used is listed

module _ (methods : List Method) (side : Subject → Side → List Bool) (a : Assignment) (path : Path) where
  own_found : {d : Field} {e : Encoding} {g : FilledField} {us : List Use} (l : Library) (m : lib.Method) → FieldUses methods side a path d e g us → e ≡ encoding.Library l → method_of side a l ≡ Some m → refers m ≡ true
      → IsAmong (use_of path d g m) us
  own_found l m bare_uses e m_is r = absurd (cc)
  own_found {d} {e = c} {g} l m (own_use {l = l'} m' m_is' r') e m_is r =
      let same : l' ≡ l = cc in
      let one : m' ≡ m = one_value (method_of side a l) m' m (ap (method_of side a) (sym same) ∙ m_is') m_is in
      (0, ap (λ x. Some (use_of path d g x)) one)
  own_found l m (no_use {l = l'} none) e m_is r =
      let same : l' ≡ l = cc in
      absurd (false≢true (sym (none m (ap (method_of side a) same ∙ m_is)) ∙ r))
  own_found l m (inside_use values inner is_values is_inner these) e m_is r = absurd (cc)
  own_found l m (none_inside none) e m_is r = absurd (cc)

  inner_found : {d : Field} {e : Encoding} {g : FilledField} {us : List Use} (u : Use) (j : ℕ) (es : List Expr) (values : List ℤ) (inner : Filling) → FieldUses methods side a path d e g us → e ≡ encoding.Call j es
      → vals a es ≡ Some values → inner_of g ≡ Some inner → ((these : List Use) → UsesAre methods j values (below path d.declared.name) inner these → IsAmong u these) → IsAmong u us
  inner_found u j es values inner bare_uses e is_values is_inner deep = absurd (cc)
  inner_found u j es values inner (own_use m m_is r) e is_values is_inner deep = absurd (cc)
  inner_found u j es values inner (no_use none) e is_values is_inner deep = absurd (cc)
  inner_found {d} {us = us} u j es values inner (inside_use {k = k} {es = fs} values' inner' is_values' is_inner' these) e is_values is_inner deep =
      let same_k : k ≡ j = cc in
      let same_es : fs ≡ es = cc in
      let same_values : values' ≡ values = one_value (vals a es) values' values (ap (vals a) (sym same_es) ∙ is_values') is_values in
      let same_inner : inner' ≡ inner = one_value (inner_of _) inner' inner is_inner' is_inner in
      deep us (subst (λ x. UsesAre methods x values (below path d.declared.name) inner us) same_k (subst (λ x. UsesAre methods k x (below path d.declared.name) inner us) same_values
      (subst (λ x. UsesAre methods k values' (below path d.declared.name) x us) same_inner these)))
  inner_found u j es values inner (none_inside {es = fs} none) e is_values is_inner deep =
      let same_es : fs ≡ es = cc in
      absurd (none values inner (ap (vals a) same_es ∙ is_values) is_inner)

  first_found : {format : Format} {f : Filling} {n : ℕ} {us : List Use} (u : Use) (i : ℕ) (d : Field) (g : FilledField) → FirstUse methods side a path format f n us → i < n
      → slice_get format.fields i ≡ Some d → slice_get (fields_of f) i ≡ Some g → ((these : List Use) → FieldUses methods side a path d d.encoding g these → IsAmong u these) → IsAmong u us
  first_found u i d g none_yet lt at at' here = absurd (omega (arith, lt))
  first_found {format} {f} u i d g (one_more {n = n} {us = us} {more = more} d' g' before at2 at2' field) lt at at' here =
      by (nat_eq i n) refl (λ earlier. first_found u i d g before earlier at at' here)
    where
      by : (b : Bool) → nat_eq i n ≡ b → (i < n → IsAmong u us) → IsAmong u (us ++ more)
      by true e rest =
          let same : i ≡ n = eqb-true i n e in
          let d_is : d' ≡ d = one_value (slice_get format.fields n) d' d at2 (ap (slice_get format.fields) (sym same) ∙ at) in
          let g_is : g' ≡ g = one_value (slice_get (fields_of f) n) g' g at2' (ap (slice_get (fields_of f)) (sym same) ∙ at') in
          right_among u us more (here more (subst (λ x. FieldUses methods side a path x x.encoding g more) d_is (subst (λ x. FieldUses methods side a path d' d'.encoding x more) g_is field)))
      by false e rest =
          let other : i ≡ n → ⊥ = eqb-false i n e in
          left_among u us more (rest (omega (arith, lt, other)))

module _ (methods : List Method) where
  found : {k : ℕ} {args : List ℤ} {path : Path} {f : Filling} {us : List Use} {u : Use} → UsesAre methods k args path f us → Uses methods k args path f u → IsAmong u us
  found {k} {args} {path} {f} {us} (of_fields format is first) (own other i d g l m is' at at' e m_is r) =
      let same : other ≡ format = one_value (format_at methods k (out-Filling f).format) other format is' is in
      let here : slice_get format.fields i ≡ Some d = ap (λ (x : Format). slice_get x.fields i) (sym same) ∙ at in
      let moved : method_of (side_of format.listing (level f)) (assigned format.listing (level f) args) l ≡ Some m =
      ap (λ (x : Format). method_of (side_of x.listing (level f)) (assigned x.listing (level f) args) l) (sym same) ∙ m_is in
      first_found methods _ _ path (use_of path d g m) i d g first (slice_get_within format.fields i d here) here at' (λ these field. own_found methods _ _ path l m field e moved r)
  found {k} {args} {path} {f} {us} {u} (of_fields format is first) (inside other i d g j es values inner is' at at' e is_values is_inner deep) =
      let same : other ≡ format = one_value (format_at methods k (out-Filling f).format) other format is' is in
      let here : slice_get format.fields i ≡ Some d = ap (λ (x : Format). slice_get x.fields i) (sym same) ∙ at in
      let moved : vals (assigned format.listing (level f) args) es ≡ Some values = ap (λ (x : Format). vals (assigned x.listing (level f) args) es) (sym same) ∙ is_values in
      first_found methods _ _ path u i d g first (slice_get_within format.fields i d here) here at'
      (λ these field. inner_found methods _ _ path u j es values inner field e moved is_inner (λ us' are. found are deep))

pub are_its_uses : AreItsUses
are_its_uses methods k args path f us are u = (λ used. found methods are used, λ among. listed methods u are among)
