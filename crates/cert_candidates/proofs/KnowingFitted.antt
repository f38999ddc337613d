-- A filling of a format that fits where a walk stands, field by field.
use Rattle.std.proofs.Common.{◌≡◌, refl, sym, ◌∙◌, ap, subst, ℕ, true, false, List}
use Rattle.std.specs.Prelude.{Option, Some, None, slice_get, option_and_then}
use Rattle.sem_profile.specs.declared.profile.Field.{Field}
use Rattle.sem_profile.specs.declared.profile.Format.{Format}
use Rattle.sem_profile.specs.declared.profile.Method.{Method}
use Rattle.sem_filling.specs.declared.filling.Filling.{Filling}
use Rattle.sem_filling.specs.declared.filling.FilledField.{FilledField}
use Rattle.sem_filling.specs.Fillings.{inner_of, fields_of, level, inner_at}
use Rattle.sem_filling.proofs.FillingsUnique.{also_at}
use Rattle.sem_filling.specs.Fits.{Context, FieldFits, LevelFits, side_of, assigned, format_at}
use Rattle.sem_filling.proofs.FitsInverted.{parts, length-fields}
use Rattle.cert_rules.specs.declared.slots.Slot.{Slot}
use Rattle.cert_types.specs.declared.rule.Fact.{Fact}
use Rattle.cert_rules.specs.Reading.{Spot, IsLevel}
use Rattle.cert_rules.specs.Slots.{calls_at, knows_all, slots_view}
use Rattle.cert_rules.specs.Views.{View, view, AgreeAll}
use Rattle.cert_rules.proofs.ViewsInputs.{declared_of, declared_in}
use Rattle.cert_rules.proofs.SlotsKnown.{agree_known, slots_declared}
use Rattle.cert_rules.proofs.Steps.{unfilled}

module _ (methods : List Method) (ctx : Context) (spot : Spot) (n : ℕ) (format : Format) (slots : List Slot) (f : Filling) (h : IsLevel methods ctx spot n format slots f) where
  pub record Fitted : Type 0 where
    pub level_fits : LevelFits format f spot.args
    pub each : (i : ℕ) (d : Field) (x : FilledField) → slice_get format.fields i ≡ Some d → slice_get (fields_of f) i ≡ Some x →
        FieldFits methods ctx (side_of format.listing (level f)) (assigned format.listing (level f) spot.args) spot.path d d.encoding x

  pub fitted : Fitted
  fitted =
      let p = parts h.ahead.in_front.fits in
      let found : format_at methods spot.method n ≡ Some p.format = ap (format_at methods spot.method) (sym h.format_is) ∙ p.is_format in
      let one : p.format ≡ format = let e : Some p.format ≡ Some format = sym found ∙ h.at in cc in
      record {
        level_fits = subst (λ z. LevelFits z f spot.args) one p.level_fits;
        each = subst (λ (z : Format). (i : ℕ) (d : Field) (x : FilledField) → slice_get z.fields i ≡ Some d → slice_get (fields_of f) i ≡ Some x →
            FieldFits methods ctx (side_of z.listing (level f)) (assigned z.listing (level f) spot.args) spot.path d d.encoding x) one p.each;
      }

  pub declared_f : declared_of (level f) ≡ declared_in format.fields
  declared_f = fitted.level_fits.shaped.declared_is

  abbrev pub shown : View
  shown = slots_view format slots

  pub declared_w : declared_of shown.sides ≡ declared_in format.fields
  declared_w = slots_declared format.fields slots h.count

  pub field_of : (i : ℕ) (d : Field) → slice_get format.fields i ≡ Some d → (x : FilledField) × (slice_get (fields_of f) i ≡ Some x)
  field_of i d e = also_at format.fields (fields_of f) i d (sym (length-fields format f fitted.level_fits.shaped)) e

  -- a field that isn't called has no filling inside
  plain_at : (i : ℕ) (o : Option Field) → slice_get format.fields i ≡ o → (x : Option FilledField) → slice_get (fields_of f) i ≡ x → calls_at o ≡ false → option_and_then inner_of x ≡ None
  plain_at i o e None ex no_call = refl
  plain_at i None e (Some x) ex no_call = absurd (let t = also_at (fields_of f) format.fields i x (length-fields format f fitted.level_fits.shaped) ex in let u = t.1 in cc)
  plain_at i (Some d) e (Some x) ex no_call = unfilled (fitted.each i d x e ex) no_call

  pub plain : (i : ℕ) → calls_at (slice_get format.fields i) ≡ false → inner_at f i ≡ None
  plain i no_call = plain_at i (slice_get format.fields i) refl (slice_get (fields_of f) i) refl no_call

  pub agreed : (xs : List Fact) → knows_all format slots xs ≡ true → AgreeAll shown (view f) xs
  agreed xs e = agree_known format slots f h.count h.has plain xs e
