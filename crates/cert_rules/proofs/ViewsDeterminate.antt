-- A valid certificate makes the profile determinate.
use Rattle.std.proofs.Common.{◌≡◌, refl, sym, ◌∙◌, ap, subst, ℕ, ◌≤◌, Bool, true, false, List, [], ◌∷◌, ◌++◌, length, arith, length-append}
use Rattle.std.specs.Prelude.{Option, Some, None, ℤ, slice_get, ◌||◌}
use Rattle.std.proofs.lemmas.List.{append-nil}
use Rattle.sem_expr.specs.declared.expr.Side.{Side}
use Rattle.sem_expr.specs.declared.expr.Side.TheVariants.{Uncompressed, Compressed}
use Rattle.sem_expr.specs.declared.expr.Subject.{Subject}
use Rattle.sem_expr.specs.declared.expr.Expr.{Expr}
use Rattle.sem_expr.specs.Values.{Assignment}
use Rattle.sem_profile.specs.declared.profile.Encoding.{Encoding}
use Rattle.sem_profile.specs.declared.profile.Encoding.TheVariants as encoding
use Rattle.sem_profile.specs.declared.profile.Field.{Field}
use Rattle.sem_profile.specs.declared.profile.Format.{Format}
use Rattle.sem_profile.specs.declared.profile.Method.{Method}
use Rattle.sem_profile.specs.declared.profile.Sizes.{Sizes}
use Rattle.sem_profile.specs.declared.profile.FormatSizes.{FormatSizes}
use Rattle.sem_profile.specs.declared.profile.MethodSizes.{MethodSizes}
use Rattle.sem_profile.specs.Fields.{lists}
use Rattle.sem_profile.specs.Outcome.{AreSizes}
use Rattle.sem_filling.proofs.FitsSized.{and_then_some}
use Rattle.cert_types.specs.declared.certificate.Version.{Version}
use Rattle.cert_types.specs.declared.certificate.Direction.TheVariants.{Read}
use Rattle.cert_types.specs.declared.certificate.Step.{Step}
use Rattle.cert_types.specs.Kept.{Certified}
use Rattle.sem_filling.specs.declared.filling.Filling.{Filling, out-Filling}
use Rattle.sem_filling.specs.declared.filling.FilledField.{FilledField}
use Rattle.sem_filling.specs.Fillings.{Sides, inner_of, fields_of, level, packed}
use Rattle.sem_filling.specs.Entries.{Path, below}
use Rattle.sem_filling.proofs.FillingsUnique.{filling_same, field_same, list_same, also_at}
use Rattle.sem_filling.specs.Fits.{Context, Fits, FieldFits, LevelFits, field_side, side_of, assigned, vals}
use Rattle.sem_filling.specs.Fits as fit
use Rattle.sem_filling.proofs.FitsInverted.{parts, length-fields}
use Rattle.sem_filling.specs.Bounded.{LengthsLie}
use Rattle.sem_filling.proofs.Bounding.{placed, lie-in-bounds}
use Rattle.cert_types.specs.declared.rule.Fact.{Fact}
use Rattle.cert_types.specs.declared.rule.Fact.TheVariants.{Done}
use Rattle.cert_rules.specs.Facts.{has_all, has_none}
use Rattle.cert_types.specs.declared.rule.Rule.{Rule}
use Rattle.cert_rules.specs.Rules.{is_call, where_true, read_rule}
use Rattle.cert_rules.specs.Plans.{rule_of, enabled, learnt, known_after, all_enabled, known_at_start, wanted, way_of, IsPlan}
use Rattle.sem_profile.specs.Alike.{AreAlike}
use Rattle.cert_rules.specs.Trees.{Arrival, leads, nowhere, cut_off, references, way}
use Rattle.cert_rules.specs.Valid.{Valid}
use Rattle.cert_rules.specs.Views.{view, side_at, AgreeAll}
use Rattle.cert_rules.specs.Laws.{ValidIsDeterminate}
use Rattle.cert_rules.specs.Reading.{Follows}
use Rattle.cert_rules.proofs.ViewsAgree.{agree_has_all, agree_append, and_true, side_is, inner_is}
use Rattle.cert_rules.proofs.Plans.{all_learnt}
use Rattle.cert_rules.proofs.Steps.{Pair, OnlyOne, unfilled, at_the_start, declared_at, step}
use Rattle.cert_rules.proofs.TreesTold.{follows}

-- no uncompressed side is longer than its bounds allow
pub within_bounds : (sizes : FormatSizes) (f : Filling) → LengthsLie sizes f → (i : ℕ) (b : Sizes) → slice_get sizes.fields i ≡ Some b → length (side_at (view f) i Uncompressed) ≤ b.uncompressed.most
within_bounds sizes f lie i b e = by (slice_get (level f) i) refl
  where
    by : (o : Option Sides) → slice_get (level f) i ≡ o → length (field_side o Uncompressed) ≤ b.uncompressed.most
    by None is = omega arith
    by (Some s) is = (lie.fields i s b is e).uncompressed_lies.most

module _ (methods : List Method) (version : Version) (table : List MethodSizes) (ctx : Context) (args : List ℤ) (path : Path) (sizes : FormatSizes) (format : Format) (f g : Filling) (p : Pair methods ctx args path sizes format f g) where
  -- after a step
  one_step : (s : Step) (known : List Fact) (o : Option Rule) → read_rule version sizes format s ≡ o → enabled known o ≡ true → AgreeAll (view f) (view g) known → AgreeAll (view f) (view g) (learnt o)
  one_step s known None is e h = absurd (cc)
  one_step s known (Some r) is e h =
      let b = and_true (has_all known r.needs) (has_none known r.absent) e in
      step methods ctx args path sizes format f g p version s r is (agree_has_all (view f) (view g) known r.needs b.0 h)

  -- after a plan
  plan : (steps : List Step) (known : List Fact) → all_enabled (rule_of version Read table sizes format) known steps ≡ true → AgreeAll (view f) (view g) known →
      AgreeAll (view f) (view g) (known_after (rule_of version Read table sizes format) known steps)
  plan [] known e h = h
  plan (s ∷ steps) known e h =
      let b = and_true (enabled known (read_rule version sizes format s)) (all_enabled (rule_of version Read table sizes format) (learnt (read_rule version sizes format s) ++ known) steps) e in
      plan steps (learnt (read_rule version sizes format s) ++ known) b.1 (agree_append (view f) (view g) (learnt (read_rule version sizes format s)) known (one_step s known (read_rule version sizes format s) refl b.0 h) h)

  was_done : (i : ℕ) (listed called : Bool) → called ≡ true → AgreeAll (view f) (view g) (where_true (listed || called) (Done i ∷ [])) → AgreeAll (view f) (view g) (Done i ∷ [])
  was_done i true called e h = h
  was_done i false true e h = h
  was_done i false false e h = absurd (cc)

  field_at : (steps : List Step) → IsPlan (way_of version Read table sizes format) steps → (i : ℕ) (d : Field) (x y : FilledField) → slice_get format.fields i ≡ Some d → slice_get (fields_of f) i ≡ Some x → slice_get (fields_of g) i ≡ Some y → x ≡ y
  field_at steps valid i d x y e ex ey =
      let all = plan steps (known_at_start format) valid.enabled (at_the_start methods ctx args path sizes format f g p.twins 0 format.fields) in
      let hu = agree_has_all (view f) (view g) (known_after (rule_of version Read table sizes format) (known_at_start format) steps) (wanted Read format i d Uncompressed) (all_learnt Read format (known_after (rule_of version Read table sizes format) (known_at_start format) steps) valid.complete i d Uncompressed e) all in
      let hc = agree_has_all (view f) (view g) (known_after (rule_of version Read table sizes format) (known_at_start format) steps) (wanted Read format i d Compressed) (all_learnt Read format (known_after (rule_of version Read table sizes format) (known_at_start format) steps) valid.complete i d Compressed e) all in
      let u = sym (side_is f i x Uncompressed ex) ∙ (hu.0 ∙ side_is g i y Uncompressed ey) in
      let c = sym (side_is f i x Compressed ex) ∙ (hc.0 ∙ side_is g i y Compressed ey) in
      let name = declared_at methods ctx args path sizes format f g f p.twins.level_f i d x e ex ∙ sym (declared_at methods ctx args path sizes format f g g p.twins.level_g i d y e ey) in
      field_same x y (λ j. record { declared = name j; uncompressed = u j; compressed = c j }) (inner_same (is_call d.encoding) refl hc.1) where
        inner_same : (b : Bool) → is_call d.encoding ≡ b → AgreeAll (view f) (view g) (where_true (lists format.listing i || is_call d.encoding) (Done i ∷ [])) → inner_of x ≡ inner_of y
        inner_same true e' h = let w = was_done i (lists format.listing i) (is_call d.encoding) e' h in sym (inner_is f i x ex) ∙ (w.0.1 ∙ inner_is g i y ey)
        inner_same false e' h = unfilled (p.twins.each_f i d x e ex) e' ∙ sym (unfilled (p.twins.each_g i d y e ey) e')

  pub same_fields : (steps : List Step) → IsPlan (way_of version Read table sizes format) steps → fields_of f ≡ fields_of g
  same_fields steps valid =
      let m = length-fields format f p.twins.level_f.shaped in
      let n = length-fields format g p.twins.level_g.shaped in
      list_same (fields_of f) (fields_of g) (m ∙ sym n) (λ i x y e e'.
      let d = also_at (fields_of f) format.fields i x m e in field_at steps valid i d.0 x y d.1 e e')

-- two formats to which one way leads
one_leaf : (n k : ℕ) (bits own other : List Bool) (w : Arrival) → length own ≤ length bits → Follows n bits own w → Follows k bits other w → n ≡ k
one_leaf n k bits own other (leads j) fit h h' = h ∙ sym h'
one_leaf n k bits own other nowhere fit h h' = absurd h
one_leaf n k bits own other cut_off fit h h' = absurd (omega (arith, h, fit))

first_at : {X : Type 0} (xs : List X) (n : ℕ) (x : X) → slice_get xs n ≡ Some x → (y : X) × (slice_get xs 0 ≡ Some y)
first_at [] n x e = absurd (cc)
first_at (y ∷ ys) n x e = (y, refl)

module _ (methods : List Method) (table : List MethodSizes) (top : ℕ) (cert : Certified) (are : AreSizes methods table) (alike : AreAlike methods) (valid : Valid methods table top cert) (ctx : Context) where
  mutual
    -- at the front of any bits at most one filling fits a method, under its arguments and its path
    pub only_one : {k : ℕ} {args : List ℤ} {path : Path} {f : Filling} → Fits methods ctx k args path f → OnlyOne methods ctx k args path f
    only_one {k} {args} {path} {f} (fit.fits format is fitting each) g fits_g r r' front =
        let h = parts fits_g in
        let place = placed methods table are k (out-Filling f).format format is in
        let m = and_then_some (λ m. slice_get m.formats (out-Filling f).format) (slice_get methods k) format is in
        let n = and_then_some (λ m. slice_get m.formats (out-Filling g).format) (slice_get methods k) h.format h.is_format in
        let same_method : n.0 ≡ m.0 = let a = m.1 in let b = n.1 in cc in
        let first = first_at m.0.formats (out-Filling f).format format m.2 in
        let v = valid.entries k m.0 place.whole first.0 m.1 place.whole_at first.1 in
        let bits = packed f ++ r in
        let in_m : slice_get m.0.formats (out-Filling g).format ≡ Some h.format = subst (λ (z : Method). slice_get z.formats (out-Filling g).format ≡ Some h.format) same_method n.2 in
        let leaf : (out-Filling f).format ≡ (out-Filling g).format =
        one_leaf (out-Filling f).format (out-Filling g).format bits (packed f) (packed g) (way (references ctx path m.0.formats) bits args 0 v.entry.tree) (omega (arith, length-append (packed f) r))
        (follows methods ctx k args path table are alike f (fit.fits format is fitting each) bits r [] (sym (append-nil bits)) m.0 place.whole v.entry.tree m.1 place.whole_at v.tree)
        (follows methods ctx k args path table are alike g fits_g bits r' [] (sym front ∙ sym (append-nil bits)) m.0 place.whole v.entry.tree m.1 place.whole_at v.tree) in
        let same_format : h.format ≡ format = let a = m.2 in let b : slice_get m.0.formats (out-Filling f).format ≡ Some h.format = ap (slice_get m.0.formats) leaf ∙ in_m in cc in
        let in_s : slice_get place.whole.formats (out-Filling f).format ≡ Some place.sizes = place.sizes_at in
        let plans = v.formats (out-Filling f).format format place.sizes m.2 in_s in
        let lie = (lie-in-bounds methods table are ctx k args path f (fit.fits format is fitting each) place.whole place.sizes place.whole_at place.sizes_at).0 in
        let level_g = subst (λ z. LevelFits z g args) same_format h.level_fits in
        let each_g = subst (λ (z : Format). (i : ℕ) (d : Field) (x : FilledField) → slice_get z.fields i ≡ Some d → slice_get (fields_of g) i ≡ Some x →
        FieldFits methods ctx (side_of z.listing (level g)) (assigned z.listing (level g) args) path d d.encoding x) same_format h.each in
        let pair : Pair methods ctx args path place.sizes format f g = record {
          twins = record { within_f = within_bounds place.sizes f lie; level_f = fitting; level_g = level_g; each_f = each; each_g = each_g };
          only_one = λ i d x e e' k es ec args inner is_args is_inner. only_inner (each i d x e e') k es ec args inner is_args is_inner;
          rest_f = r;
          rest_g = r';
          front = front;
        } in
        filling_same f g leaf (fitting.shaped.listing_is ∙ sym level_g.shaped.listing_is) (same_fields methods cert.version table ctx args path place.sizes format f g pair plans.plans.read plans.read)

    only_inner : {side : Subject → Side → List Bool} {a : Assignment} {path : Path} {d : Field} {c : Encoding} {x : FilledField} → FieldFits methods ctx side a path d c x →
        (k : ℕ) (es : List Expr) → c ≡ encoding.Call k es → (args : List ℤ) (inner : Filling) → vals a es ≡ Some args → inner_of x ≡ Some inner → OnlyOne methods ctx k args (below path d.declared.name) inner
    only_inner (fit.bare short none plain) k es e args inner is_args is_inner = absurd (cc)
    only_inner (fit.coded v is holds plain) k es e args inner is_args is_inner = absurd (cc)
    only_inner {a} {path} {d} (fit.called {k = k'} {es = es'} args' inner' is_args' is_inner' fitted u c) k es e args inner is_args is_inner =
        let ek : k' ≡ k = cc in
        let ee : es' ≡ es = cc in
        let ei : inner' ≡ inner = cc in
        let ea : args' ≡ args = let t : vals a es' ≡ Some args = ap (vals a) ee ∙ is_args in cc in
        let found : OnlyOne methods ctx k' args' (below path d.declared.name) inner' = λ g h r r' front. only_one fitted g h r r' front in
        subst (λ z. OnlyOne methods ctx z args (below path d.declared.name) inner) ek
        (subst (λ z. OnlyOne methods ctx k' z (below path d.declared.name) inner) ea
        (subst (λ z. OnlyOne methods ctx k' args' (below path d.declared.name) z) ei found))

pub determinate : ValidIsDeterminate
determinate methods table top cert are alike valid k args path ctx bits f g one other =
    only_one methods table top cert are alike valid ctx one.fits g other.fits one.rest other.rest (sym one.front ∙ other.front)
