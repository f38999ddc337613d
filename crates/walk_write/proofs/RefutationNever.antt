-- Why no filling of a format that is refuted begins the source.
use Rattle.std.proofs.Common.{◌≡◌, refl, sym, ◌∙◌, ap, subst, ℕ, Bool, true, false, List, [], ◌++◌, length, drop}
use Rattle.std.specs.Prelude.{ℤ, pos, Option, Some, None, slice_get, option_map, nat_le, if◌then◌else◌}
use Rattle.std.proofs.lemmas.Option.{slice_get-map}
use Rattle.sem_context.specs.Entries.{bits_at}
use Rattle.sem_expr.specs.declared.expr.Side.{Side}
use Rattle.sem_expr.specs.declared.expr.Subject.{Subject}
use Rattle.sem_expr.specs.declared.expr.Subject.TheVariants as subject
use Rattle.sem_expr.specs.declared.expr.Side.TheVariants.{Uncompressed, Compressed}
use Rattle.sem_expr.specs.declared.expr.Measure.{Measure}
use Rattle.sem_expr.specs.declared.expr.Measure.TheVariants as measure
use Rattle.sem_bits.specs.Number.{num}
use Rattle.sem_expr.specs.declared.expr.Expr.{Expr}
use Rattle.sem_expr.specs.declared.expr.Expr.TheVariants as expr
use Rattle.sem_expr.specs.declared.expr.Expr.TheVariants.{Number, Parameter, Binary'}
use Rattle.sem_expr.specs.Values.{Assignment, val}
use Rattle.sem_library.specs.Methods as lib
use Rattle.sem_profile.specs.declared.profile.Constraint.TheVariants.{Enforce}
use Rattle.sem_profile.specs.declared.profile.Library.TheVariants as library
use Rattle.sem_profile.specs.declared.profile.Field.{Field}
use Rattle.sem_profile.specs.declared.profile.Format.{Format}
use Rattle.sem_profile.specs.declared.profile.FormatSizes.{FormatSizes}
use Rattle.sem_profile.specs.declared.profile.Method.{Method}
use Rattle.sem_profile.specs.declared.profile.MethodSizes.{MethodSizes}
use Rattle.sem_profile.specs.Outcome.{AreSizes}
use Rattle.sem_profile.specs.Resolved.{Resolved, IsSound}
use Rattle.sem_filling.specs.declared.filling.AskedValue.{AskedValue}
use Rattle.sem_filling.specs.declared.filling.Filling.{Filling, out-Filling}
use Rattle.sem_filling.specs.declared.filling.FilledField.{FilledField}
use Rattle.sem_filling.specs.Entries.{Path, below}
use Rattle.sem_filling.specs.Fillings.{Sides, sides_of, fields_of, level}
use Rattle.sem_filling.proofs.FillingsUnique.{also_at}
use Rattle.sem_filling.specs.Bounded.{sizes_at}
use Rattle.sem_filling.specs.Fits.{Context, FieldFits, format_at, assigned, measured, field_side, side_of, reference_of}
use Rattle.sem_filling.proofs.FitsInverted.{FitsParts, parts, coded_parts, length-fields}
use Rattle.sem_filling.proofs.FitsSized.{one_value, and_then_some}
use Rattle.cert_rules.specs.Trees.{is_static, referred}
use Rattle.cert_rules.proofs.ViewsAgree.{when_some}
use Rattle.cert_rules.proofs.ViewsMethods.{solved}
use Rattle.cert_rules.proofs.TreesTold.{static_is}
use Rattle.cert_candidates.specs.Writing.{Begins}
use Rattle.cert_accepted.specs.declared.frame.AcceptedFrame.{AcceptedFrame}
use Rattle.walk_write.specs.Refutation.{kept_number, kept_value, known_operand, reference_at, HasFalse, IsOther, by_constant, by_static, by_lsb, Differs, IsRefuted, by_constraint, by_header, NeverBegins}
use Rattle.walk_write.specs.declared.premises.Chosen.{Chosen}
use Rattle.walk_write.specs.Premises.{HasChosen, told_numbers}
use Rattle.walk_write.specs.Walking.{site_of}
use Rattle.walk_write.proofs.RefutationHeaders.{held}
use Rattle.walk_write.proofs.RefutationLacked.{AreKnown, known_false, none_under, none_lacks}
use Rattle.walk_write.proofs.PremisesLemmas as told

-- ---- together

-- what a fitting field holds is not in front of bits of which it holds none
pub none_held : (p : Resolved) → AreSizes p.methods p.sizes → (ctx : Context) (side : Subject → Side → List Bool) (known a : Assignment) → ((e : Expr) (v : ℤ) → val known e ≡ Some v → val a e ≡ Some v) → (path : Path) (d : Field) (g : FilledField) →
    FieldFits p.methods ctx side a path d d.encoding g → (bits rest : List Bool) → IsOther p known d.encoding (reference_of d.declared.part ctx (below path d.declared.name) d.initial) bits → bits ≡ (sides_of g).uncompressed ++ rest → ⊥
none_held p sized ctx side known a more path d g h bits rest (by_constant lack) whole = none_lacks p sized ctx known d.encoding bits lack a more side path d g h rest whole
none_held p sized ctx side known a more path d g h bits rest (by_static e none) whole =
    let k = coded_parts p.methods ctx h library.Static e in
    none_under k.method lib.static (reference_of d.declared.part ctx (below path d.declared.name) d.initial) bits (sides_of g).uncompressed (sides_of g).compressed rest k.is_method none whole k.holds
none_held p sized ctx side known a more path d g h bits rest (by_lsb x y count offset e none) whole =
    let k = coded_parts p.methods ctx h (library.Lsb (Number x count) (Number y offset)) e in
    none_under k.method (lib.lsb count offset) (reference_of d.declared.part ctx (below path d.declared.name) d.initial) bits (sides_of g).uncompressed (sides_of g).compressed rest k.is_method none whole k.holds

-- a static field has the number of its reference
kept_parts : (b : Bool) (o : Option ℤ) (v : ℤ) → (if b then o else None) ≡ Some v → (b ≡ true) × (o ≡ Some v)
kept_parts true o v e = (refl, e)
kept_parts false o v e = absurd (cc)

same_number : (o : Option (List Bool)) (u : List Bool) (v : ℤ) → o ≡ Some u → referred o ≡ Some v → pos (num u) ≡ v
same_number (Some r) u v is e =
    let one : r ≡ u = cc in
    let w = when_some (nat_le (length r) 64) (pos (num r)) v e in
    ap (λ z. pos (num z)) (sym one) ∙ w.1
same_number None u v is e = absurd (cc)

module _ (place : AcceptedFrame) (sound : IsSound place.accepted.now.profile) (n : ℕ) (bits : List Bool) (asked : List AskedValue) (f : Filling)
    (b : Begins place.accepted.now.profile.methods (bits_at place.frame.context.now) (site_of place bits asked) f) (format_is : (out-Filling f).format ≡ n) where
  abbrev methods : List Method
  methods = place.accepted.now.profile.methods

  abbrev table : List MethodSizes
  table = place.accepted.now.profile.sizes

  p : FitsParts methods (bits_at place.frame.context.now) place.frame.method place.frame.arguments.now place.frame.path.now f
  p = parts b.fits

  same_format : (format : Format) → format_at methods place.frame.method n ≡ Some format → p.format ≡ format
  same_format format at = one_value (format_at methods place.frame.method n) p.format format (ap (format_at methods place.frame.method) (sym format_is) ∙ p.is_format) at

  -- what is known of operands is so in the filling
  abbrev numbers : Assignment
  numbers = assigned p.format.listing (level f) place.frame.arguments.now

  kept_is : (i : ℕ) (d : Field) → slice_get p.format.fields i ≡ Some d → (v : ℤ) → kept_number place d ≡ Some v → Some (pos (num (field_side (slice_get (level f) i) Uncompressed))) ≡ Some v
  kept_is i d at v e =
      let k = kept_parts (is_static d.encoding) (referred (reference_at place d)) v e in
      let g = also_at p.format.fields (fields_of f) i d (sym (length-fields p.format f p.level_fits.shaped)) at in
      let c = coded_parts methods (bits_at place.frame.context.now) (p.each i d g.0 at g.1) library.Static (static_is d.encoding k.0) in
      let s = solved (side_of p.format.listing (level f)) numbers library.Static c.method (reference_at place d) (sides_of g.0).uncompressed (sides_of g.0).compressed c.is_method c.holds in
      let at_level : slice_get (level f) i ≡ Some (sides_of g.0) = slice_get-map sides_of (fields_of f) i ∙ ap (option_map sides_of) g.1 in
      ap (λ (o : Option Sides). Some (pos (num (field_side o Uncompressed)))) at_level ∙ ap Some (same_number (reference_at place d) (sides_of g.0).uncompressed v s.0 k.1)

  value_is : (s : Subject) (side : Side) (m : Measure) (v : ℤ) → kept_value place p.format.fields s side m ≡ Some v → Some (measured m (side_of p.format.listing (level f) s side)) ≡ Some v
  value_is (subject.Field i) Uncompressed measure.Value v e =
      let d = and_then_some (kept_number place) (slice_get p.format.fields i) v e in
      kept_is i d.0 d.1 v d.2
  value_is (subject.Field i) Uncompressed measure.Length v e = absurd (cc)
  value_is (subject.Field i) Compressed m v e = absurd (cc)
  value_is subject.This side m v e = absurd (cc)

  known_is : AreKnown (known_operand place p.format.fields) numbers
  known_is (Number s n) v e = e
  known_is (Parameter s i) v e = e
  known_is (expr.Attribute s t) v e = value_is t.subject t.side t.measure v e
  known_is (Binary' s op l x r y) v e = absurd (cc)

  no_false : (format : Format) → format_at methods place.frame.method n ≡ Some format → HasFalse (known_operand place format.fields) format.constraints → ⊥
  no_false format at h =
      let one = same_format format at in
      let here : HasFalse (known_operand place p.format.fields) p.format.constraints = subst (λ (z : Format). HasFalse (known_operand place z.fields) z.constraints) (sym one) h in
      known_false (known_operand place p.format.fields) numbers known_is here.condition here.is_false (p.level_fits.constraints here.index (Enforce here.condition here.place) here.constraint_is)

  pub no_other : (format : Format) (choices : List Chosen) → HasChosen f choices → (sizes : FormatSizes) → format_at methods place.frame.method n ≡ Some format → sizes_at table place.frame.method n ≡ Some sizes →
      Differs place (told_numbers format place.frame.arguments.now choices) format.fields sizes.fields bits → ⊥
  no_other format choices chosen sizes at sizes_are h =
      let one = same_format format at in
      let t = held methods table sound.sized (bits_at place.frame.context.now) place.frame.method place.frame.arguments.now place.frame.path.now f p b.fits format one sizes (ap (sizes_at table place.frame.method) format_is ∙ sizes_are) bits b.rest b.in_front h.index h.offset h.field
      h.before h.field_is h.in_header in
      none_held place.accepted.now.profile sound.sized (bits_at place.frame.context.now) _ (told_numbers format place.frame.arguments.now choices) numbers
      (told.value_is methods (bits_at place.frame.context.now) place.frame.method place.frame.arguments.now place.frame.path.now format choices f p one chosen) place.frame.path.now h.field t.field t.fits (drop h.offset bits) t.later h.other t.there

pub never_begins : (place : AcceptedFrame) → IsSound place.accepted.now.profile → (n : ℕ) (bits : List Bool) → IsRefuted place n bits → NeverBegins place n bits
never_begins place sound n bits (by_constraint format at h) asked f b e = no_false place sound n bits asked f b e format at h
never_begins place sound n bits (by_header format sizes at sizes_are h) asked f b e = no_other place sound n bits asked f b e format [] tt sizes at sizes_are h
