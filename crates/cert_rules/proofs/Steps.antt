-- Two fillings agree on what a step gives, where they agree on what it needs; for the steps that read bits they stand at the front of the same bits.
use Rattle.std.proofs.Common.{◌≡◌, refl, sym, ◌∙◌, ap, subst, ℕ, suc, ◌≤◌, Bool, true, false, List, [], ◌∷◌, ◌++◌, length, map}
use Rattle.std.specs.Prelude.{Option, Some, None, ℤ, pos, option_map, option_and_then, slice_get, ◌&&◌, not, flat_map}
use Rattle.std.proofs.lemmas.Option.{slice_get-map}
use Rattle.std.specs.Prelude.{◌-ℤ◌}
use Rattle.sem_expr.specs.Values.{Assignment, remainder, val}
use Rattle.sem_filling.specs.Entries.{Path, below}
use Rattle.sem_filling.specs.Fillings.{Sides, sides_of, inner_of, fields_of, level, packed, packed_bits, header, inner_at}
use Rattle.sem_profile.specs.Fields.{lists}
use Rattle.sem_bits.specs.Number.{num}
use Rattle.sem_filling.specs.Fits.{Context, Fits, FieldFits, LevelFits, Holds, side_of, assigned, vals, reference_of, field_side}
use Rattle.sem_filling.specs.Fits as fit
use Rattle.sem_expr.specs.declared.expr.Subject.{Subject}
use Rattle.sem_expr.specs.declared.expr.Side.{Side}
use Rattle.sem_expr.specs.declared.expr.Side.TheVariants.{Uncompressed, Compressed}
use Rattle.sem_expr.specs.declared.expr.Measure.TheVariants as measure
use Rattle.sem_expr.specs.declared.expr.Expr.{Expr}
use Rattle.sem_profile.specs.declared.profile.Library.{Library}
use Rattle.sem_profile.specs.declared.profile.Encoding.{Encoding}
use Rattle.sem_profile.specs.declared.profile.Encoding.TheVariants as encoding
use Rattle.sem_profile.specs.declared.profile.Field.{Field}
use Rattle.sem_profile.specs.declared.profile.Constraint.{Constraint}
use Rattle.sem_profile.specs.declared.profile.Format.{Format}
use Rattle.sem_profile.specs.declared.profile.Sizes.{Sizes}
use Rattle.sem_profile.specs.declared.profile.FormatSizes.{FormatSizes}
use Rattle.sem_profile.specs.declared.profile.Method.{Method}
use Rattle.sem_filling.proofs.FitsSized.{and_then_some, map_some}
use Rattle.sem_bits.proofs.OctetsHeld.{split_same}
use Rattle.cert_types.specs.declared.certificate.Version.{Version}
use Rattle.cert_types.specs.declared.certificate.Version.TheVariants.{One, Two}
use Rattle.cert_types.specs.declared.certificate.Step.{Step}
use Rattle.cert_types.specs.declared.certificate.Step.TheVariants.{Take, Call, LibraryUp, LibraryDown, MethodLength, ConstraintLength, Solve, Choose, Ask}
use Rattle.sem_filling.specs.declared.filling.Filling.{Filling}
use Rattle.sem_filling.specs.declared.filling.FilledField.{FilledField}
use Rattle.sem_filling.proofs.FitsInverted.{coded_parts, length-fields, called_parts}
use Rattle.sem_filling.proofs.FillingsUnique.{also_at}
use Rattle.cert_types.specs.declared.rule.Fact.{Fact}
use Rattle.cert_types.specs.declared.rule.Fact.TheVariants.{LengthOf, BitsOf, Done}
use Rattle.cert_rules.specs.Facts.{inputs, inputs_of_all, before, unlisted, at_start}
use Rattle.cert_types.specs.declared.rule.Rule.{Rule}
use Rattle.cert_rules.specs.Rules.{rule, rule_once, is_call, read_take, where_true, read_call, all_of, listed_before, by_library, up_needs, down_needs, length_needs, Congruence, length_given, value_given, remainder_given, from_two, attribute_of, by_length, by_equation, by_remainder, by_value, common_rule, read_rule}
use Rattle.cert_rules.specs.Views.{view, side_at, AgreeAll}
use Rattle.cert_rules.proofs.ViewsAgree.{agree_left, agree_right, and_true, not_true, when_some, side_is, inner_is}
use Rattle.cert_rules.proofs.ViewsInputs.{val_same, vals_same, packed_is}
use Rattle.cert_rules.proofs.ViewsFront.{place}
use Rattle.cert_rules.proofs.ViewsMethods.{num_same, Solved, solved, up_same, down_same, c_lengths_same, u_lengths_same}
use Rattle.cert_rules.proofs.RulesConstraints.{given_cases, equated_value, length_value, remainder_parts, left_of}
use Rattle.cert_rules.proofs.RulesRemainders.{IsLeft}

-- at the front of bits that it begins no other filling is
abbrev pub OnlyOne : List Method → Context → ℕ → List ℤ → Path → Filling → Type 0
OnlyOne methods ctx k args path f = (g : Filling) → Fits methods ctx k args path g → (r r' : List Bool) → packed f ++ r ≡ packed g ++ r' → f ≡ g

pub unfilled : {methods : List Method} {ctx : Context} {side : Subject → Side → List Bool} {a : Assignment} {path : Path} {d : Field} {e : Encoding} {x : FilledField} → FieldFits methods ctx side a path d e x → is_call e ≡ false → inner_of x ≡ None
unfilled (fit.bare short none plain) e = plain
unfilled (fit.coded v is holds plain) e = plain
unfilled (fit.called args inner is_args is_inner fitted u c) e = absurd (cc)

by_library_parts : (needs : Library → List Fact) (gives : List Fact) (e : Encoding) (r : Rule) → by_library needs gives e ≡ Some r → (l : Library) × (e ≡ encoding.Library l) × (needs l ≡ r.needs) × (gives ≡ r.gives)
by_library_parts needs gives (encoding.Library l) r e = let same : rule (needs l) gives ≡ r = cc in (l, refl, ap (λ z. z.needs) same, ap (λ z. z.gives) same)
by_library_parts needs gives encoding.Bare r e = absurd (cc)
by_library_parts needs gives (encoding.Call k es) r e = absurd (cc)

call_rule_parts : (format : Format) (i : ℕ) (e : Encoding) (r : Rule) → read_call format i e ≡ Some r → (k : ℕ) × (es : List Expr) × (e ≡ encoding.Call k es) ×
    (inputs_of_all format es ++ where_true (lists format.listing i) (listed_before format i) ≡ r.needs) × (all_of i ≡ r.gives)
call_rule_parts format i (encoding.Call k es) r e =
    let same : rule_once i (inputs_of_all format es ++ where_true (lists format.listing i) (listed_before format i)) (all_of i) ≡ r = cc in
    (k, es, refl, ap (λ z. z.needs) same, ap (λ z. z.gives) same)
call_rule_parts format i encoding.Bare r e = absurd (cc)
call_rule_parts format i (encoding.Library l) r e = absurd (cc)

pub from_two_some : {A : Type 0} (version : Version) (o : Option A) (x : A) → from_two version o ≡ Some x → o ≡ Some x
from_two_some Two o x e = e
from_two_some One o x e = absurd (cc)

module _ (methods : List Method) (ctx : Context) (args : List ℤ) (path : Path) (sizes : FormatSizes) (format : Format) (f g : Filling) where
  abbrev S : Filling → Subject → Side → List Bool
  S z = side_of format.listing (level z)

  abbrev A : Filling → Assignment
  A z = assigned format.listing (level z) args

  abbrev EachFits : Filling → Type 0
  EachFits z = (i : ℕ) (d : Field) (x : FilledField) → slice_get format.fields i ≡ Some d → slice_get (fields_of z) i ≡ Some x → FieldFits methods ctx (S z) (A z) path d d.encoding x

  -- two fillings of the format that fit at one place, whose sides are no longer than its bounds allow
  pub record Twins : Type 0 where
    pub within_f : (i : ℕ) (b : Sizes) → slice_get sizes.fields i ≡ Some b → length (side_at (view f) i Uncompressed) ≤ b.uncompressed.most
    pub level_f : LevelFits format f args
    pub level_g : LevelFits format g args
    pub each_f : EachFits f
    pub each_g : EachFits g

  -- at the front of the same bits, where what calls of the first hold is alone
  pub record Pair : Type 0 where
    pub twins : Twins
    pub only_one : (i : ℕ) (d : Field) (x : FilledField) → slice_get format.fields i ≡ Some d → slice_get (fields_of f) i ≡ Some x →
        (k : ℕ) (es : List Expr) → d.encoding ≡ encoding.Call k es →
        (args : List ℤ) (inner : Filling) → vals (A f) es ≡ Some args → inner_of x ≡ Some inner → OnlyOne methods ctx k args (below path d.declared.name) inner
    pub rest_f : List Bool
    pub rest_g : List Bool
    pub front : packed f ++ rest_f ≡ packed g ++ rest_g

  -- the two fields at an index
  pub record Both (i : ℕ) (d : Field) : Type 0 where
    pub x : FilledField
    pub y : FilledField
    pub at_f : slice_get (fields_of f) i ≡ Some x
    pub at_g : slice_get (fields_of g) i ≡ Some y

  pub both_at : Twins → (i : ℕ) (d : Field) → slice_get format.fields i ≡ Some d → Both i d
  both_at p i d e =
      let x = also_at format.fields (fields_of f) i d (sym (length-fields format f p.level_f.shaped)) e in
      let y = also_at format.fields (fields_of g) i d (sym (length-fields format g p.level_g.shaped)) e in
      record { x = x.0; y = y.0; at_f = x.1; at_g = y.1 }

  pub unlisted_empty : (z : Filling) → LevelFits format z args → (i : ℕ) → lists format.listing i ≡ false → side_at (view z) i Compressed ≡ []
  unlisted_empty z h i e = at_option (slice_get (level z) i) refl where
    at_option : (o : Option Sides) → slice_get (level z) i ≡ o → field_side o Compressed ≡ []
    at_option None is = refl
    at_option (Some s) is = h.unlisted i s is e

  -- what is known at the start
  start_next : Twins → (b : Bool) (n : ℕ) (facts : List Fact) → lists format.listing n ≡ b → AgreeAll (view f) (view g) facts → AgreeAll (view f) (view g) (unlisted b n facts)
  start_next p true n facts e h = h
  start_next p false n facts e h = let same = unlisted_empty f p.level_f n e ∙ sym (unlisted_empty g p.level_g n e) in (ap length same, (same, h))

  pub at_the_start : Twins → (n : ℕ) (ds : List Field) → AgreeAll (view f) (view g) (at_start format.listing n ds)
  at_the_start p n [] = tt
  at_the_start p n (d ∷ ds) = start_next p (lists format.listing n) n (at_start format.listing (suc n) ds) refl (at_the_start p (suc n) ds)

  -- a field is declared as in the format
  pub declared_at : (z : Filling) → LevelFits format z args → (i : ℕ) (d : Field) (x : FilledField) → slice_get format.fields i ≡ Some d → slice_get (fields_of z) i ≡ Some x → (sides_of x).declared ≡ d.declared
  declared_at z h i d x e e' =
      let in_filling : slice_get (map (λ s. s.declared) (level z)) i ≡ Some (sides_of x).declared =
      slice_get-map (λ s. s.declared) (level z) i ∙ ap (option_map (λ s. s.declared)) (slice_get-map sides_of (fields_of z) i ∙ ap (option_map sides_of) e') in
      let in_format : slice_get (map (λ d. d.declared) format.fields) i ≡ Some d.declared = slice_get-map (λ d. d.declared) format.fields i ∙ ap (option_map (λ d. d.declared)) e in
      let both : Some (sides_of x).declared ≡ Some d.declared = sym in_filling ∙ (ap (λ l. slice_get l i) h.shaped.declared_is ∙ in_format) in
      cc

  -- the packed bits, by the listing
  front_of : (p : Pair) → flat_map (λ i. side_at (view f) i Compressed) format.listing ++ p.rest_f ≡ flat_map (λ i. side_at (view g) i Compressed) format.listing ++ p.rest_g
  front_of p =
      let is = λ (z : Filling) (h : LevelFits format z args). ap (λ l. packed_bits l (level z)) h.shaped.listing_is ∙ packed_is format.listing (level z) in
      ap (λ z. z ++ p.rest_f) (sym (is f p.twins.level_f)) ∙ (p.front ∙ ap (λ z. z ++ p.rest_g) (is g p.twins.level_g))

  take_step : Pair → (i : ℕ) (d : Field) (r : Rule) → slice_get format.fields i ≡ Some d → read_take format i d ≡ Some r → AgreeAll (view f) (view g) r.needs → AgreeAll (view f) (view g) r.gives
  take_step p i d r e t n =
      let w = when_some (lists format.listing i && not (is_call d.encoding)) (rule_once i (LengthOf Compressed i ∷ listed_before format i) (BitsOf Compressed i ∷ Done i ∷ [])) r t in
      let b = and_true (lists format.listing i) (not (is_call d.encoding)) w.0 in
      let m : AgreeAll (view f) (view g) (LengthOf Compressed i ∷ map Done (before i format.listing)) = subst (λ z. AgreeAll (view f) (view g) z.needs) (sym w.1) n in
      let here = place (view f) (view g) format.listing i p.rest_f p.rest_g b.0 m.1 (front_of p) in
      let same = (split_same (side_at (view f) i Compressed) (side_at (view g) i Compressed) here.rest here.other m.0 here.same).0 in
      let q = both_at p.twins i d e in
      let no_call = not_true (is_call d.encoding) b.1 in
      let inner : inner_at f i ≡ inner_at g i =
      inner_is f i q.x q.at_f ∙ (unfilled (p.twins.each_f i d q.x e q.at_f) no_call ∙ sym (inner_is g i q.y q.at_g ∙ unfilled (p.twins.each_g i d q.y e q.at_g) no_call)) in
      subst (λ z. AgreeAll (view f) (view g) z.gives) w.1 (same, ((same, inner), tt))

  -- the packed bits of the two inner fillings begin the same bits
  record Begun (x y : List Bool) : Type 0 where
    rest : List Bool
    other : List Bool
    same : x ++ rest ≡ y ++ other

  begun : Pair → (i : ℕ) (b : Bool) → lists format.listing i ≡ b → AgreeAll (view f) (view g) (where_true b (listed_before format i)) → Begun (side_at (view f) i Compressed) (side_at (view g) i Compressed)
  begun p i true e n = let here = place (view f) (view g) format.listing i p.rest_f p.rest_g e n (front_of p) in record { rest = here.rest; other = here.other; same = here.same }
  begun p i false e n = record { rest = []; other = []; same = ap (λ z. z ++ []) (unlisted_empty f p.twins.level_f i e ∙ sym (unlisted_empty g p.twins.level_g i e)) }

  call_step : Pair → (i : ℕ) (d : Field) (r : Rule) → slice_get format.fields i ≡ Some d → read_call format i d.encoding ≡ Some r → AgreeAll (view f) (view g) r.needs → AgreeAll (view f) (view g) r.gives
  call_step p i d r e t n =
      let c = call_rule_parts format i d.encoding r t in
      let m = subst (AgreeAll (view f) (view g)) (sym c.3) n in
      let order = where_true (lists format.listing i) (listed_before format i) in
      let inputs_agree = agree_left (view f) (view g) (inputs_of_all format c.1) order m in
      let start = begun p i (lists format.listing i) refl (agree_right (view f) (view g) (inputs_of_all format c.1) order m) in
      let q = both_at p.twins i d e in
      let cf = called_parts methods ctx (p.twins.each_f i d q.x e q.at_f) c.0 c.1 c.2 in
      let cg = called_parts methods ctx (p.twins.each_g i d q.y e q.at_g) c.0 c.1 c.2 in
      let values : vals (A f) c.1 ≡ vals (A g) c.1 = vals_same (view f) (view g) format p.twins.level_f.shaped.declared_is p.twins.level_g.shaped.declared_is args c.1 inputs_agree in
      let args_same : cg.args ≡ cf.args = let x = cf.is_args in let y = cg.is_args in cc in
      let cx : side_at (view f) i Compressed ≡ packed cf.inner = side_is f i q.x Compressed q.at_f ∙ cf.packed_is in
      let cy : side_at (view g) i Compressed ≡ packed cg.inner = side_is g i q.y Compressed q.at_g ∙ cg.packed_is in
      let ux : side_at (view f) i Uncompressed ≡ header cf.inner = side_is f i q.x Uncompressed q.at_f ∙ cf.header_is in
      let uy : side_at (view g) i Uncompressed ≡ header cg.inner = side_is g i q.y Uncompressed q.at_g ∙ cg.header_is in
      let same : cf.inner ≡ cg.inner =
      p.only_one i d q.x e q.at_f c.0 c.1 c.2 cf.args cf.inner cf.is_args cf.is_inner cg.inner
      (subst (λ z. Fits methods ctx c.0 z (below path d.declared.name) cg.inner) args_same cg.inner_fits) start.rest start.other
      (ap (λ z. z ++ start.rest) (sym cx) ∙ (start.same ∙ ap (λ z. z ++ start.other) cy)) in
      let u = ux ∙ (ap header same ∙ sym uy) in
      let v = cx ∙ (ap packed same ∙ sym cy) in
      let inner : inner_at f i ≡ inner_at g i = inner_is f i q.x q.at_f ∙ (cf.is_inner ∙ (ap Some same ∙ sym (inner_is g i q.y q.at_g ∙ cg.is_inner))) in
      subst (AgreeAll (view f) (view g)) c.4 (ap length u, (u, (ap length v, (v, ((v, inner), tt)))))

  -- a field by a library method, in both
  record Coded (i : ℕ) (d : Field) (l : Library) : Type 0 where
    both : Both i d
    ref : Option (List Bool)
    in_f : Solved (S f) (A f) l ref (sides_of both.x).uncompressed (sides_of both.x).compressed
    in_g : Solved (S g) (A g) l ref (sides_of both.y).uncompressed (sides_of both.y).compressed

  coded_at : Twins → (i : ℕ) (d : Field) (l : Library) → slice_get format.fields i ≡ Some d → d.encoding ≡ encoding.Library l → Coded i d l
  coded_at p i d l e is =
      let q = both_at p i d e in
      let ref = reference_of d.declared.part ctx (below path d.declared.name) d.initial in
      let x = coded_parts methods ctx (p.each_f i d q.x e q.at_f) l is in
      let y = coded_parts methods ctx (p.each_g i d q.y e q.at_g) l is in
      record {
        both = q;
        ref = ref;
        in_f = solved (S f) (A f) l x.method ref (sides_of q.x).uncompressed (sides_of q.x).compressed x.is_method x.holds;
        in_g = solved (S g) (A g) l y.method ref (sides_of q.y).uncompressed (sides_of q.y).compressed y.is_method y.holds;
      }

  library_step : (i : ℕ) (needs : Library → List Fact) (gives : List Fact) (r : Rule) → option_and_then (λ d. by_library needs gives d.encoding) (slice_get format.fields i) ≡ Some r →
      ((d : Field) (l : Library) → slice_get format.fields i ≡ Some d → d.encoding ≡ encoding.Library l → AgreeAll (view f) (view g) (needs l) → AgreeAll (view f) (view g) gives) → AgreeAll (view f) (view g) r.needs → AgreeAll (view f) (view g) r.gives
  library_step i needs gives r e step n =
      let a = and_then_some (λ d. by_library needs gives d.encoding) (slice_get format.fields i) r e in
      let b = by_library_parts needs gives a.0.encoding r a.2 in
      subst (AgreeAll (view f) (view g)) b.3 (step a.0 b.0 a.1 b.1 (subst (AgreeAll (view f) (view g)) (sym b.2) n))

  side_same : {i : ℕ} {d : Field} (b : Both i d) (side : Side) → field_side (Some (sides_of b.x)) side ≡ field_side (Some (sides_of b.y)) side → side_at (view f) i side ≡ side_at (view g) i side
  side_same {i} b side same = side_is f i b.x side b.at_f ∙ (same ∙ sym (side_is g i b.y side b.at_g))

  length_same : {i : ℕ} {d : Field} (b : Both i d) (side : Side) → length (field_side (Some (sides_of b.x)) side) ≡ length (field_side (Some (sides_of b.y)) side) → length (side_at (view f) i side) ≡ length (side_at (view g) i side)
  length_same {i} b side same = ap length (side_is f i b.x side b.at_f) ∙ (same ∙ ap length (sym (side_is g i b.y side b.at_g)))

  up_step : Twins → (i : ℕ) (d : Field) (l : Library) → slice_get format.fields i ≡ Some d → d.encoding ≡ encoding.Library l → AgreeAll (view f) (view g) (up_needs format i l) → AgreeAll (view f) (view g) (LengthOf Uncompressed i ∷ BitsOf Uncompressed i ∷ [])
  up_step p i d l e is n =
      let c = coded_at p i d l e is in
      let same = side_same c.both Uncompressed (up_same (view f) (view g) format p.level_f.shaped.declared_is p.level_g.shaped.declared_is args i c.ref _ _ _ _ l (side_is f i c.both.x Compressed c.both.at_f) (side_is g i c.both.y Compressed c.both.at_g) c.in_f c.in_g n) in
      (ap length same, (same, tt))

  down_step : Twins → (i : ℕ) (d : Field) (l : Library) → slice_get format.fields i ≡ Some d → d.encoding ≡ encoding.Library l → AgreeAll (view f) (view g) (down_needs format i l) → AgreeAll (view f) (view g) (LengthOf Compressed i ∷ BitsOf Compressed i ∷ [])
  down_step p i d l e is n =
      let c = coded_at p i d l e is in
      let same = side_same c.both Compressed (down_same (view f) (view g) format p.level_f.shaped.declared_is p.level_g.shaped.declared_is args i c.ref _ _ _ _ l (side_is f i c.both.x Uncompressed c.both.at_f) (side_is g i c.both.y Uncompressed c.both.at_g) c.in_f c.in_g n) in
      (ap length same, (same, tt))

  u_length_step : Twins → (i : ℕ) (d : Field) (l : Library) → slice_get format.fields i ≡ Some d → d.encoding ≡ encoding.Library l → AgreeAll (view f) (view g) (length_needs format Uncompressed l) → AgreeAll (view f) (view g) (LengthOf Uncompressed i ∷ [])
  u_length_step p i d l e is n =
      let c = coded_at p i d l e is in
      (length_same c.both Uncompressed (u_lengths_same (view f) (view g) format p.level_f.shaped.declared_is p.level_g.shaped.declared_is args i c.ref _ _ _ _ l c.in_f c.in_g n), tt)

  c_length_step : Twins → (i : ℕ) (d : Field) (l : Library) → slice_get format.fields i ≡ Some d → d.encoding ≡ encoding.Library l → AgreeAll (view f) (view g) (length_needs format Compressed l) → AgreeAll (view f) (view g) (LengthOf Compressed i ∷ [])
  c_length_step p i d l e is n =
      let c = coded_at p i d l e is in
      (length_same c.both Compressed (c_lengths_same (view f) (view g) format p.level_f.shaped.declared_is p.level_g.shaped.declared_is args i c.ref _ _ _ _ l c.in_f c.in_g n), tt)

  equal_lengths : (x y : List Bool) (v w : Option ℤ) → v ≡ w → v ≡ Some (pos (length x)) → w ≡ Some (pos (length y)) → length x ≡ length y
  equal_lengths x y v w e a b = cc

  equal_numbers : (x y : List Bool) (v w : Option ℤ) → v ≡ w → v ≡ Some (pos (num x)) → w ≡ Some (pos (num y)) → num x ≡ num y
  equal_numbers x y v w e a b = cc

  bracket_step : Twins → (i : ℕ) (side : Side) (k : Constraint) (e : Expr) (n : ℕ) → slice_get format.constraints n ≡ Some k → length_given i side k ≡ Some e →
      AgreeAll (view f) (view g) (inputs format e) → length (side_at (view f) i side) ≡ length (side_at (view g) i side)
  bracket_step p i side k e n is given h =
      equal_lengths (side_at (view f) i side) (side_at (view g) i side) (val (A f) e) (val (A g) e) (val_same (view f) (view g) format p.level_f.shaped.declared_is p.level_g.shaped.declared_is args e h)
      (length_value (S f) (A f) i side k e refl given (p.level_f.constraints n k is))
      (length_value (S g) (A g) i side k e refl given (p.level_g.constraints n k is))

  solve_step : Twins → (i : ℕ) (k : Constraint) (e : Expr) (n : ℕ) → slice_get format.constraints n ≡ Some k → value_given i k ≡ Some e →
      AgreeAll (view f) (view g) (LengthOf Uncompressed i ∷ inputs format e) → side_at (view f) i Uncompressed ≡ side_at (view g) i Uncompressed
  solve_step p i k e n is given h =
      num_same (side_at (view f) i Uncompressed) (side_at (view g) i Uncompressed) h.0
      (equal_numbers (side_at (view f) i Uncompressed) (side_at (view g) i Uncompressed) (val (A f) e) (val (A g) e) (val_same (view f) (view g) format p.level_f.shaped.declared_is p.level_g.shaped.declared_is args e h.1)
      (equated_value (S f) (A f) (attribute_of i Uncompressed measure.Value) k e given (p.level_f.constraints n k is))
      (equated_value (S g) (A g) (attribute_of i Uncompressed measure.Value) k e given (p.level_g.constraints n k is)))

  same_left : (x y : ℕ) (m n l r by : ℤ) → m ≡ n → l ≡ r → IsLeft x m by l → IsLeft y n by r → x ≡ y
  same_left x y m n l r by e h p q = let one : Some (pos x) ≡ Some (pos y) = sym p.back ∙ ((λ i. remainder (h i -ℤ e i) by) ∙ q.back) in cc

  one_value : (o q : Option ℤ) (x y : ℤ) → o ≡ q → o ≡ Some x → q ≡ Some y → x ≡ y
  one_value o q x y e h k = cc

  remainder_step : Twins → (i : ℕ) (k : Constraint) (c : Congruence) (n : ℕ) → slice_get format.constraints n ≡ Some k → remainder_given sizes i k ≡ Some c →
      AgreeAll (view f) (view g) (LengthOf Uncompressed i ∷ inputs format c.more ++ inputs format c.left) → side_at (view f) i Uncompressed ≡ side_at (view g) i Uncompressed
  remainder_step p i k c n is given h =
      let x = side_at (view f) i Uncompressed in
      let y = side_at (view g) i Uncompressed in
      let b = remainder_parts sizes i k c given in
      let few = p.within_f i b.bounds b.bounds_at in
      let shape_f = p.level_f.shaped.declared_is in
      let shape_g = p.level_g.shaped.declared_is in
      let l = left_of (S f) (A f) sizes b.bounds i k c x refl given b.bounds_at few (p.level_f.constraints n k is) in
      let r = left_of (S g) (A g) sizes b.bounds i k c y refl given b.bounds_at (subst (λ z. z ≤ b.bounds.uncompressed.most) h.0 few) (p.level_g.constraints n k is) in
      let more = one_value (val (A f) c.more) (val (A g) c.more) l.more r.more (val_same (view f) (view g) format shape_f shape_g args c.more (agree_left (view f) (view g) (inputs format c.more) (inputs format c.left) h.1)) l.more_is r.more_is in
      let left = one_value (val (A f) c.left) (val (A g) c.left) l.left r.left (val_same (view f) (view g) format shape_f shape_g args c.left (agree_right (view f) (view g) (inputs format c.more) (inputs format c.left) h.1)) l.left_is r.left_is in
      num_same x y h.0 (same_left (num x) (num y) l.more r.more l.left r.left c.by more left l.over r.over)

  -- a value by either equation
  value_step : Twins → (version : Version) (i k : ℕ) (r : Rule) → by_value version sizes format i k ≡ Some r → AgreeAll (view f) (view g) r.needs → AgreeAll (view f) (view g) r.gives
  value_step p version i k r e =
      given_cases (by_equation format i k) (from_two version (by_remainder sizes format i k)) r (λ r. AgreeAll (view f) (view g) r.needs → AgreeAll (view f) (view g) r.gives) e
      (λ r e n.
      let m = map_some (λ e. rule (LengthOf Uncompressed i ∷ inputs format e) (BitsOf Uncompressed i ∷ [])) (option_and_then (value_given i) (slice_get format.constraints k)) r e in
      let a = and_then_some (value_given i) (slice_get format.constraints k) m.0 m.1 in
      subst (λ z. AgreeAll (view f) (view g) z.gives) m.2 (solve_step p i a.0 m.0 k a.1 a.2 (subst (λ z. AgreeAll (view f) (view g) z.needs) (sym m.2) n), tt))
      (λ r e n.
      let m = map_some (λ (c : Congruence). rule (LengthOf Uncompressed i ∷ inputs format c.more ++ inputs format c.left) (BitsOf Uncompressed i ∷ [])) (option_and_then (remainder_given sizes i) (slice_get format.constraints k)) r
      (from_two_some version (by_remainder sizes format i k) r e) in
      let a = and_then_some (remainder_given sizes i) (slice_get format.constraints k) m.0 m.1 in
      subst (λ z. AgreeAll (view f) (view g) z.gives) m.2 (remainder_step p i a.0 m.0 k a.1 a.2 (subst (λ z. AgreeAll (view f) (view g) z.needs) (sym m.2) n), tt))

  -- the step lemma of the rules that both directions have
  pub common : Twins → (version : Version) (s : Step) (r : Rule) → common_rule version sizes format s ≡ Some r → AgreeAll (view f) (view g) r.needs → AgreeAll (view f) (view g) r.gives
  common p version (LibraryUp i) r e n = library_step i (up_needs format i) (LengthOf Uncompressed i ∷ BitsOf Uncompressed i ∷ []) r e (up_step p i) n
  common p version (LibraryDown i) r e n = library_step i (down_needs format i) (LengthOf Compressed i ∷ BitsOf Compressed i ∷ []) r e (down_step p i) n
  common p version (MethodLength i Uncompressed) r e n = library_step i (length_needs format Uncompressed) (LengthOf Uncompressed i ∷ []) r e (u_length_step p i) n
  common p version (MethodLength i Compressed) r e n = library_step i (length_needs format Compressed) (LengthOf Compressed i ∷ []) r e (c_length_step p i) n
  common p version (ConstraintLength i side k) r e n =
      let d = and_then_some (λ d. by_length format i side k) (slice_get format.fields i) r e in
      let m = map_some (λ e. rule (inputs format e) (LengthOf side i ∷ [])) (option_and_then (length_given i side) (slice_get format.constraints k)) r d.2 in
      let a = and_then_some (length_given i side) (slice_get format.constraints k) m.0 m.1 in
      subst (λ z. AgreeAll (view f) (view g) z.gives) m.2 (bracket_step p i side a.0 m.0 k a.1 a.2 (subst (λ z. AgreeAll (view f) (view g) z.needs) (sym m.2) n), tt)
  common p version (Solve i k) r e n =
      let d = and_then_some (λ d. by_value version sizes format i k) (slice_get format.fields i) r e in
      value_step p version i k r d.2 n
  common p version (Take i) r e n = absurd (cc)
  common p version (Call i) r e n = absurd (cc)
  common p version (Choose i) r e n = absurd (cc)
  common p version (Ask i) r e n = absurd (cc)

  -- the step lemma of reading
  pub step : Pair → (version : Version) (s : Step) (r : Rule) → read_rule version sizes format s ≡ Some r → AgreeAll (view f) (view g) r.needs → AgreeAll (view f) (view g) r.gives
  step p version (Take i) r e n = let a = and_then_some (read_take format i) (slice_get format.fields i) r e in take_step p i a.0 r a.1 a.2 n
  step p version (Call i) r e n = let a = and_then_some (λ d. read_call format i d.encoding) (slice_get format.fields i) r e in call_step p i a.0 r a.1 a.2 n
  step p version (LibraryUp i) r e n = common p.twins version (LibraryUp i) r e n
  step p version (LibraryDown i) r e n = common p.twins version (LibraryDown i) r e n
  step p version (MethodLength i side) r e n = common p.twins version (MethodLength i side) r e n
  step p version (ConstraintLength i side k) r e n = common p.twins version (ConstraintLength i side k) r e n
  step p version (Solve i k) r e n = common p.twins version (Solve i k) r e n
  step p version (Choose i) r e n = common p.twins version (Choose i) r e n
  step p version (Ask i) r e n = common p.twins version (Ask i) r e n
