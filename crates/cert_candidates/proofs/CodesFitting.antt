-- What fits is a candidate.
use Rattle.std.proofs.Common.{◌≡◌, refl, sym, ◌∙◌, ap, subst, ℕ, zero, suc, ◌^◌, ◌<◌, Bool, true, List, [], ◌∷◌, ◌++◌, length, map, arith}
use Rattle.std.specs.Prelude.{Option, Some, None, ℤ, pos, negsuc, option_and_then, option_map, slice_get, unwrap_or, nat_le}
use Rattle.sem_bits.specs.Number.{num}
use Rattle.sem_bits.proofs.Numbers.{num-below}
use Rattle.sem_expr.specs.Values.{Assignment, val}
use Rattle.sem_expr.specs.declared.expr.Expr.{Expr}
use Rattle.sem_expr.specs.declared.expr.Subject.{Subject}
use Rattle.sem_expr.specs.declared.expr.Subject.TheVariants as subject
use Rattle.sem_expr.specs.declared.expr.Side.{Side}
use Rattle.sem_expr.specs.declared.expr.Side.TheVariants.{Uncompressed}
use Rattle.sem_expr.specs.declared.expr.Measure.TheVariants as measure
use Rattle.sem_library.specs.Methods as lib
use Rattle.sem_profile.specs.declared.profile.Library.TheVariants as library
use Rattle.sem_profile.specs.declared.profile.Encoding.{Encoding}
use Rattle.sem_profile.specs.declared.profile.Encoding.TheVariants as encoding
use Rattle.sem_profile.specs.declared.profile.Constraint.{Constraint}
use Rattle.sem_profile.specs.declared.profile.Field.{Field}
use Rattle.sem_profile.specs.declared.profile.Format.{Format}
use Rattle.sem_profile.specs.declared.profile.Method.{Method}
use Rattle.sem_profile.specs.declared.profile.FormatSizes.{FormatSizes}
use Rattle.sem_profile.specs.declared.profile.MethodSizes.{MethodSizes}
use Rattle.sem_profile.specs.Constants.{constant}
use Rattle.sem_profile.specs.Outcome.{AreSizes}
use Rattle.cert_types.specs.declared.certificate.Direction.TheVariants.{Write}
use Rattle.cert_types.specs.declared.certificate.Step.{Step}
use Rattle.cert_types.specs.declared.certificate.Step.TheVariants.{Call, Choose}
use Rattle.cert_types.specs.declared.certificate.Plans.{Plans}
use Rattle.cert_types.specs.declared.certificate.Version.{Version}
use Rattle.cert_types.specs.Kept.{Entries, choice_limit}
use Rattle.sem_filling.specs.declared.filling.Filling.{Filling, out-Filling}
use Rattle.sem_filling.specs.declared.filling.FilledField.{FilledField}
use Rattle.sem_filling.specs.Fillings.{sides_of, inner_of, fields_of, level}
use Rattle.sem_filling.specs.Entries.{Path, below}
use Rattle.sem_filling.proofs.FillingsUnique.{also_at}
use Rattle.sem_filling.specs.Fits.{Context, Fits, FieldFits, LevelFits, Holds, side_of, assigned, field_side, method_of, vals, format_at}
use Rattle.sem_filling.specs.Fits as fit
use Rattle.sem_filling.proofs.FitsInverted.{coded_parts, called_parts, length-fields}
use Rattle.sem_filling.proofs.FitsSized.{and_then_some, map_some}
use Rattle.sem_filling.proofs.Bounding.{placed, constant_value}
use Rattle.cert_types.specs.declared.rule.Fact.{Fact}
use Rattle.cert_types.specs.declared.rule.Rule.{Rule}
use Rattle.cert_rules.specs.Rules.{first_or, bracketed, equated, attribute_of, choosable, bracket_size, chosen_size, choice, write_call, write_rule}
use Rattle.cert_rules.specs.Plans.{way_of, enabled, learnt, all_enabled, IsPlan}
use Rattle.cert_rules.specs.Counts.{callee, ways}
use Rattle.cert_rules.specs.Valid.{Valid, plans_at}
use Rattle.cert_rules.proofs.ViewsAgree.{and_true, when_some}
use Rattle.cert_rules.proofs.RulesConstraints.{length_value}
use Rattle.cert_candidates.specs.Codes.{shown_bits, show, write_plan, number, IsCalled, IsCandidate, candidate}

-- each step of a plan has a rule
ruled : (rules : Step → Option Rule) (known : List Fact) (steps : List Step) → all_enabled rules known steps ≡ true → (j : ℕ) (s : Step) → slice_get steps j ≡ Some s → (r : Rule) × (rules s ≡ Some r)
ruled rules known [] e j s at = absurd (cc)
ruled rules known (x ∷ steps) e zero s at =
    let b = and_true (enabled known (rules x)) (all_enabled rules (learnt (rules x) ++ known) steps) e in
    let same : x ≡ s = cc in
    there (rules s) (subst (λ z. enabled known (rules z) ≡ true) same b.0) where
      there : (o : Option Rule) → enabled known o ≡ true → (r : Rule) × (o ≡ Some r)
      there None h = absurd (cc)
      there (Some r) h = (r, refl)
ruled rules known (x ∷ steps) e (suc j) s at =
    ruled rules (learnt (rules x) ++ known) steps (and_true (enabled known (rules x)) (all_enabled rules (learnt (rules x) ++ known) steps) e).1 j s at

-- a bracket of one constant tells the length
bracket_tells : (side : Subject → Side → List Bool) (a : Assignment) (i : ℕ) (ks : List Constraint) (n : ℕ) →
    a.attribute (attribute_of i Uncompressed measure.Length) ≡ Some (pos (length (side (subject.Field i) Uncompressed))) →
    ((j : ℕ) (c : Constraint) → slice_get ks j ≡ Some c → Holds side a c) →
    bracket_size i ks ≡ Some (pos n) → length (side (subject.Field i) Uncompressed) ≡ n
bracket_tells side a i [] n own holds e = absurd (cc)
bracket_tells side a i (k ∷ ks) n own holds e = by (option_and_then constant (bracketed i Uncompressed k)) refl e (λ h. bracket_tells side a i ks n own (λ j. holds (suc j)) h) where
  by : (o : Option ℤ) → option_and_then constant (bracketed i Uncompressed k) ≡ o → first_or o (bracket_size i ks) ≡ Some (pos n) → (bracket_size i ks ≡ Some (pos n) → length (side (subject.Field i) Uncompressed) ≡ n) → length (side (subject.Field i) Uncompressed) ≡ n
  by None is h on = on h
  by (Some v) is h on =
      let x = and_then_some constant (bracketed i Uncompressed k) v is in
      let given = ap (λ o. first_or o (equated (attribute_of i Uncompressed measure.Length) k)) x.1 in
      let told = length_value side a i Uncompressed k x.0 own given (holds 0 k refl) in
      let fixed = constant_value a x.0 v x.2 in
      let both : Some v ≡ Some (pos (length (side (subject.Field i) Uncompressed))) = sym fixed ∙ told in
      let v_is : v ≡ pos n = cc in
      let last : pos n ≡ pos (length (side (subject.Field i) Uncompressed)) = cc in
      cc

choosable_is : (o : Option ℤ) (n : ℕ) → choosable o ≡ Some n → o ≡ Some (pos n)
choosable_is None n e = absurd (cc)
choosable_is (Some (pos m)) n e = let w = when_some (nat_le m choice_limit) m n e in ap (λ z. Some (pos z)) w.1
choosable_is (Some (negsuc m)) n e = absurd (cc)

-- the bits shown are the field's uncompressed side
pub bits_are : {A : Type 0} (make : Filling → ℕ → A) (gs : List FilledField) (i : ℕ) → shown_bits (slice_get (map (show make) gs) i) ≡ field_side (slice_get (map sides_of gs) i) Uncompressed
bits_are make [] i = refl
bits_are make (g ∷ gs) zero = refl
bits_are make (g ∷ gs) (suc i) = bits_are make gs i

side_here : (gs : List FilledField) (i : ℕ) (g : FilledField) → slice_get gs i ≡ Some g → field_side (slice_get (map sides_of gs) i) Uncompressed ≡ (sides_of g).uncompressed
side_here [] i g e = absurd (cc)
side_here (x ∷ gs) zero g e = let same : x ≡ g = cc in ap (λ z. (sides_of z).uncompressed) same
side_here (x ∷ gs) (suc i) g e = side_here gs i g e

call_rule : (table : List MethodSizes) (format : Format) (i : ℕ) (h : Bool) (c : Encoding) (r : Rule) → write_call table format i h c ≡ Some r → (k : ℕ) × (es : List Expr) × (c ≡ encoding.Call k es)
call_rule table format i h (encoding.Call k es) r e = (k, es, refl)
call_rule table format i h encoding.Bare r e = absurd (cc)
call_rule table format i h (encoding.Library l) r e = absurd (cc)

pub callee_call : (c : Encoding) (k : ℕ) → callee c ≡ Some k → (es : List Expr) × (c ≡ encoding.Call k es)
callee_call (encoding.Call j es) k e = let same : j ≡ k = cc in (es, ap (λ z. encoding.Call z es) same)
callee_call encoding.Bare k e = absurd (cc)
callee_call (encoding.Library l) k e = absurd (cc)

first_at : {X : Type 0} (xs : List X) (n : ℕ) (x : X) → slice_get xs n ≡ Some x → (y : X) × (slice_get xs 0 ≡ Some y)
first_at [] n x e = absurd (cc)
first_at (y ∷ ys) n x e = (y, refl)

module _ (methods : List Method) (table : List MethodSizes) (ctx : Context) where
  -- one level
  module _ (args : List ℤ) (path : Path) (format : Format) (f : Filling) (fitting : LevelFits format f args)
      (each : (i : ℕ) (d : Field) (g : FilledField) → slice_get format.fields i ≡ Some d → slice_get (fields_of f) i ≡ Some g →
      FieldFits methods ctx (side_of format.listing (level f)) (assigned format.listing (level f) args) path d d.encoding g) where
    field_of : (i : ℕ) (d : Field) → slice_get format.fields i ≡ Some d → (g : FilledField) × (slice_get (fields_of f) i ≡ Some g)
    field_of i d e = also_at format.fields (fields_of f) i d (sym (length-fields format f fitting.shaped)) e

    long : (i : ℕ) (d : Field) (g : FilledField) (n : ℕ) (c : Encoding) → d.encoding ≡ c → slice_get format.fields i ≡ Some d → slice_get (fields_of f) i ≡ Some g →
        chosen_size i format.constraints c ≡ Some (pos n) → length (field_side (slice_get (level f) i) Uncompressed) ≡ n
    long i d g n encoding.Bare is e e' h = bracket_tells (side_of format.listing (level f)) (assigned format.listing (level f) args) i format.constraints n refl fitting.constraints h
    long i d g n (encoding.Call k es) is e e' h = bracket_tells (side_of format.listing (level f)) (assigned format.listing (level f) args) i format.constraints n refl fitting.constraints h
    long i d g n (encoding.Library (library.Irregular len)) is e e' h = by (constant len) refl h where
      by : (o : Option ℤ) → constant len ≡ o → first_or o (bracket_size i format.constraints) ≡ Some (pos n) → length (field_side (slice_get (level f) i) Uncompressed) ≡ n
      by None none h = bracket_tells (side_of format.listing (level f)) (assigned format.listing (level f) args) i format.constraints n refl fitting.constraints h
      by (Some v) const h =
          let a = assigned format.listing (level f) args in
          let p = coded_parts methods ctx (each i d g e e') (library.Irregular len) is in
          let fixed : val a len ≡ Some v = constant_value a len v const in
          let is_method : Some (lib.irregular v) ≡ Some p.method = sym (ap (option_map lib.irregular) fixed) ∙ p.is_method in
          let same : p.method ≡ lib.irregular v = cc in
          let holds = subst (λ z. lib.Lib z (fit.reference_of d.declared.part ctx (below path d.declared.name) d.initial) (sides_of g).uncompressed (sides_of g).compressed) same p.holds in
          let v_is : v ≡ pos n = cc in
          let length_is : pos (length (sides_of g).uncompressed) ≡ pos n = holds.1 ∙ v_is in
          let here : length (field_side (slice_get (level f) i) Uncompressed) ≡ length (sides_of g).uncompressed = ap length (side_here (fields_of f) i g e') in
          here ∙ (cc)
    long i d g n (encoding.Library (library.UncompressedValue len v)) is e e' h = bracket_tells (side_of format.listing (level f)) (assigned format.listing (level f) args) i format.constraints n refl fitting.constraints h
    long i d g n (encoding.Library (library.CompressedValue len v)) is e e' h = bracket_tells (side_of format.listing (level f)) (assigned format.listing (level f) args) i format.constraints n refl fitting.constraints h
    long i d g n (encoding.Library library.Static) is e e' h = bracket_tells (side_of format.listing (level f)) (assigned format.listing (level f) args) i format.constraints n refl fitting.constraints h
    long i d g n (encoding.Library (library.Lsb k offset)) is e e' h = bracket_tells (side_of format.listing (level f)) (assigned format.listing (level f) args) i format.constraints n refl fitting.constraints h
    long i d g n (encoding.Library (library.Crc crc)) is e e' h = bracket_tells (side_of format.listing (level f)) (assigned format.listing (level f) args) i format.constraints n refl fitting.constraints h

    -- so many bits are chosen
    pub chosen_long : (i n : ℕ) → option_and_then (choice format i) (slice_get format.fields i) ≡ Some n → length (field_side (slice_get (level f) i) Uncompressed) ≡ n
    chosen_long i n e =
        let d = and_then_some (choice format i) (slice_get format.fields i) n e in
        let c = and_then_some _ (choosable (chosen_size i format.constraints d.0.encoding)) n d.2 in
        let w = when_some _ c.0 n c.2 in
        let size = choosable_is (chosen_size i format.constraints d.0.encoding) c.0 c.1 ∙ ap (λ z. Some (pos z)) w.1 in
        let g = field_of i d.0 d.1 in
        long i d.0 g.0 n d.0.encoding refl d.1 g.1 size

    -- the chosen bits are as many as the step tries
    pub chosen_below : (version : Version) (sizes : FormatSizes) (make : Filling → ℕ → ℕ) (counts : List ℕ) (i : ℕ) (r : Rule) → write_rule version table sizes format (Choose i) ≡ Some r →
        num (shown_bits (slice_get (map (show make) (fields_of f)) i)) < ways counts format (Choose i)
    chosen_below version sizes make counts i r e =
        let m = map_some _ (option_and_then (choice format i) (slice_get format.fields i)) r e in
        let b = num-below (field_side (slice_get (level f) i) Uncompressed) in
        let small : num (field_side (slice_get (level f) i) Uncompressed) < 2 ^ m.0 = subst (λ z. num (field_side (slice_get (level f) i) Uncompressed) < 2 ^ z) (chosen_long i m.0 m.1) b in
        let ways_are : ways counts format (Choose i) ≡ 2 ^ m.0 = ap (λ z. unwrap_or (option_map (λ n. 2 ^ n) z) 1) m.1 in
        let shown : num (shown_bits (slice_get (map (show make) (fields_of f)) i)) ≡ num (field_side (slice_get (level f) i) Uncompressed) = ap num (bits_are make (fields_of f) i) in
        omega (arith, small, ways_are, shown)

    pub is_called : (version : Version) (sizes : FormatSizes) (i : ℕ) (r : Rule) → write_rule version table sizes format (Call i) ≡ Some r → IsCalled format f i
    is_called version sizes i r e =
        let d = and_then_some _ (slice_get format.fields i) r e in
        let c = call_rule table format i _ d.0.encoding r d.2 in
        let g = field_of i d.0 d.1 in
        let p = called_parts methods ctx (each i d.0 g.0 d.1 g.1) c.0 c.1 c.2 in
        record {
          method = c.0;
          inner = p.inner;
          calls = ap (option_and_then (λ d. callee d.encoding)) d.1 ∙ ap callee c.2;
          filled = ap (option_and_then inner_of) g.1 ∙ p.is_inner;
        }

module _ (methods : List Method) (table : List MethodSizes) (top : ℕ) (version : Version) (cert : Entries) (are : AreSizes methods table) (valid : Valid methods table top (record { version = version; methods = cert })) where
  -- a format with these bounds has a write plan
  pub write_by : (k n : ℕ) (format : Format) → format_at methods k n ≡ Some format → (whole : MethodSizes) (sizes : FormatSizes) → slice_get table k ≡ Some whole → slice_get whole.formats n ≡ Some sizes →
      (plans : Plans) × (write_plan cert k n ≡ Some plans) × (IsPlan (way_of version Write table sizes format) plans.write)
  write_by k n format is whole sizes whole_at sizes_at =
      let m = and_then_some (λ (m : Method). slice_get m.formats n) (slice_get methods k) format is in
      let first = first_at m.0.formats n format m.2 in
      let v = valid.entries k m.0 whole first.0 m.1 whole_at first.1 in
      let h = v.formats n format sizes m.2 sizes_at in
      (h.plans, ap (option_and_then (λ entry. plans_at entry n)) v.entry_is ∙ h.plans_are, h.write)

  -- a format has a write plan
  pub write_is : (k n : ℕ) (format : Format) → format_at methods k n ≡ Some format → (plans : Plans) × (write_plan cert k n ≡ Some plans) × (sizes : FormatSizes) × (IsPlan (way_of version Write table sizes format) plans.write)
  write_is k n format is =
      let place = placed methods table are k n format is in
      let m = and_then_some (λ (m : Method). slice_get m.formats n) (slice_get methods k) format is in
      let first = first_at m.0.formats n format m.2 in
      let v = valid.entries k m.0 place.whole first.0 m.1 place.whole_at first.1 in
      let h = v.formats n format place.sizes m.2 place.sizes_at in
      (h.plans, ap (option_and_then (λ entry. plans_at entry n)) v.entry_is ∙ h.plans_are, place.sizes, h.write)

module _ (methods : List Method) (table : List MethodSizes) (top : ℕ) (version : Version) (cert : Entries) (are : AreSizes methods table) (valid : Valid methods table top (record { version = version; methods = cert })) (counts : List ℕ) (ctx : Context) where
  mutual
    pub is_candidate : {k : ℕ} {args : List ℤ} {path : Path} {f : Filling} → Fits methods ctx k args path f → IsCandidate methods cert counts k f
    is_candidate {k} {args} {path} {f} (fit.fits format is fitting each) =
        let w = write_is methods table top version cert are valid k (out-Filling f).format format is in
        candidate format w.0 is w.1
        (λ j i e. let r = ruled (way_of version Write table w.2 format).rule (way_of version Write table w.2 format).start w.0.write w.3.enabled j (Choose i) e in chosen_below methods table ctx args path format f fitting each version w.2 (number methods cert counts) counts i r.0 r.1)
        (λ j i e. let r = ruled (way_of version Write table w.2 format).rule (way_of version Write table w.2 format).start w.0.write w.3.enabled j (Call i) e in is_called methods table ctx args path format f fitting each version w.2 i r.0 r.1)
        (λ j i c inner e calls filled.
        let d = and_then_some (λ (d : Field). callee d.encoding) (slice_get format.fields i) c calls in
        let g = and_then_some inner_of (slice_get (fields_of f) i) inner filled in
        let es = callee_call d.0.encoding c d.2 in
        candidate_inside (each i d.0 g.0 d.1 g.1) c es.0 inner es.1 g.2)

    candidate_inside : {side : Subject → Side → List Bool} {a : Assignment} {path : Path} {d : Field} {c : Encoding} {x : FilledField} → FieldFits methods ctx side a path d c x →
        (k : ℕ) (es : List Expr) (inner : Filling) → c ≡ encoding.Call k es → inner_of x ≡ Some inner → IsCandidate methods cert counts k inner
    candidate_inside (fit.bare short none plain) k es inner e filled = absurd (cc)
    candidate_inside (fit.coded v is holds plain) k es inner e filled = absurd (cc)
    candidate_inside (fit.called {k = j} {es = xs} args g is_args is_inner fitted u c) k es inner e filled =
        let same : g ≡ inner = cc in
        let same_method : j ≡ k = cc in
        subst (λ z. IsCandidate methods cert counts z inner) same_method (subst (λ z. IsCandidate methods cert counts j z) same (is_candidate fitted))
