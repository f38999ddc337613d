-- The attribute that an equation solves is narrow.
use Rattle.std.proofs.Common.{◌≡◌, refl, sym, ◌∙◌, ap, ℕ, true, false}
use Rattle.std.specs.Prelude.{Some, slice_get, nat_eq, ◌&&◌}
use Rattle.std.proofs.lemmas.Bool.{eqb-true}
use Rattle.sem_expr.specs.declared.expr.Attribute.{Attribute}
use Rattle.sem_expr.specs.declared.expr.Subject.{Subject}
use Rattle.sem_expr.specs.declared.expr.Subject.TheVariants as subject
use Rattle.sem_expr.specs.declared.expr.Side.{Side}
use Rattle.sem_expr.specs.declared.expr.Side.TheVariants.{Uncompressed, Compressed}
use Rattle.sem_expr.specs.declared.expr.Measure.{Measure}
use Rattle.sem_expr.specs.declared.expr.Measure.TheVariants as measure
use Rattle.sem_expr.specs.declared.expr.Expr.{Expr}
use Rattle.sem_expr.specs.declared.expr.Expr.TheVariants as expr
use Rattle.sem_expr.specs.declared.expr.Expr.TheVariants.{Number, Parameter, Binary'}
use Rattle.sem_expr.specs.declared.inputs.Input.TheVariants as input
use Rattle.sem_expr.specs.Inputs.{inputs_of}
use Rattle.sem_profile.specs.declared.profile.FormatSizes.{FormatSizes}
use Rattle.sem_profile.specs.BoundsFaults.{is_wide, is_wide_by}
use Rattle.cert_rules.specs.Rules.{same_subject, same_measure, is_attribute, attribute_of}
use Rattle.cert_rules.specs.Facts.{same_side}
use Rattle.cert_rules.proofs.ViewsAgree.{and_true}
use Rattle.walk_steps.specs.Partial.{bounds_at}

-- an attribute is that value of the field
wide_same : (i : ℕ) (sizes : FormatSizes) (u : Attribute) → (same_subject u.subject (subject.Field i) && (same_side u.side Uncompressed && same_measure u.measure measure.Value)) ≡ true →
    is_wide sizes u ≡ is_wide_by measure.Value (bounds_at sizes i Uncompressed)
wide_same i sizes u e = by u.subject u.side u.measure e
  where
    by : (s : Subject) (z : Side) (m : Measure) → (same_subject s (subject.Field i) && (same_side z Uncompressed && same_measure m measure.Value)) ≡ true →
        is_wide sizes (record { subject = s; side = z; measure = m }) ≡ is_wide_by measure.Value (bounds_at sizes i Uncompressed)
    by (subject.Field k) Uncompressed measure.Value h = ap (λ n. is_wide_by measure.Value (bounds_at sizes n Uncompressed)) (eqb-true k i (and_true (nat_eq k i) true h).0)
    by (subject.Field k) Uncompressed measure.Length h = absurd (let wrong = (and_true (nat_eq k i) false h).1 in cc)
    by (subject.Field k) Compressed m h = absurd (let wrong = (and_true (nat_eq k i) false h).1 in cc)
    by subject.This z m h = absurd (cc)

pub attribute_narrow : (i : ℕ) (sizes : FormatSizes) (x : Expr) → is_attribute (attribute_of i Uncompressed measure.Value) x ≡ true →
    ((k : ℕ) (t : Attribute) → slice_get (inputs_of x) k ≡ Some (input.Attribute t) → is_wide sizes t ≡ false) → is_wide_by measure.Value (bounds_at sizes i Uncompressed) ≡ false
attribute_narrow i sizes (expr.Attribute s u) e narrow = sym (wide_same i sizes u e) ∙ narrow 0 u refl
attribute_narrow i sizes (Number s n) e narrow = absurd (cc)
attribute_narrow i sizes (Parameter s n) e narrow = absurd (cc)
attribute_narrow i sizes (Binary' s op p x q y) e narrow = absurd (cc)
