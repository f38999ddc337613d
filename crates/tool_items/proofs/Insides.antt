-- Calls lead down, field by field.
use Rattle.std.proofs.Common.{◌≡◌, ◌∙◌, refl, sym, ap, subst, ℕ, List}
use Rattle.std.specs.Prelude.{slice_get, Option, Some, None, Result, Ok, Err, IfOk, IfSome, ℤ, string_bytes}
use Rattle.sem_profile.specs.BoundsLaws.{in_encoding, encoding_exprs}
use Rattle.sem_expr.specs.declared.expr.Expr.{Expr}
use Rattle.sem_expr.specs.declared.known.Known.{Known}
use Rattle.sem_expr.specs.Known.{assignment_of}
use Rattle.sem_expr.specs.Values.{Assignment}
use Rattle.sem_filling.specs.Entries.{Path, below}
use Rattle.sem_filling.specs.Fillings.{fields_of, inner_of, level}
use Rattle.sem_filling.specs.declared.filling.FilledField.{FilledField}
use Rattle.sem_filling.specs.declared.filling.Filling.{Filling}
use Rattle.sem_filling.proofs.FitsValues.{vals_same}
use Rattle.sem_filling.specs.Fits.{assigned, vals}
use Rattle.sem_filling.specs.Ready.{ArgumentsLieAt, HasLevel}
use Rattle.sem_holds.proofs.LevelsFit.{ready_level}
use Rattle.sem_profile.specs.declared.profile.Encoding.TheVariants as encoding
use Rattle.sem_profile.specs.declared.profile.Field.{Field}
use Rattle.sem_profile.specs.declared.profile.Format.{Format}
use Rattle.sem_profile.specs.Resolved.{Resolved, IsSound}
use Rattle.tool_items.specs.Inside.{LeadsDown, StandsBelow, StandsInField, StandsWithin, at_its_end, by_field}
use Rattle.tool_items.specs.declared.inside.Standing.{Standing}

module _ (p : Resolved) (sound : IsSound p) (k : ℕ) (args : List ℤ) (path : Path) (f : Filling) (format : Format) (known : Known) (has : HasLevel p k args f format known) (lies : ArgumentsLieAt p k args) where
  -- a field of the level inside which it stands
  from_inner : (i : ℕ) (x : FilledField) (s : Standing) (here : StandsInField p path format (assignment_of known) i x s) → slice_get (fields_of f) i ≡ Some x → (o : Option Filling) → inner_of x ≡ o
      → StandsWithin p here.callee here.values (below path here.field.declared.name) o s → StandsBelow p k args path f s
  from_inner i x s here at (Some inner) inner_is stands =
      let can = (ready_level p sound k args f format known has lies).1 in (
        by_field format i here.field x here.callee here.arguments here.values inner has.level.place.format_is here.field_is at here.encoding_is
            (vals_same (assigned format.listing (level f) args) (assignment_of known) here.arguments
            (λ n e is. sym (can.value_is e (in_encoding i n here.field_is (ap (λ z. slice_get (encoding_exprs z) n) here.encoding_is ∙ is))))
            ∙ here.values_are)
            inner_is stands.0,
        stands.1,
      )
  from_inner i x s here at None inner_is stands = absurd stands

  -- a field of the level that leads down to it does so from the filling
  pub from_field : (i : ℕ) (x : FilledField) (s : Standing) → slice_get (fields_of f) i ≡ Some x → StandsInField p path format (assignment_of known) i x s → StandsBelow p k args path f s
  from_field i x s at here = from_inner i x s here at (inner_of x) refl here.stands

-- what is true of an answer is true of it in other words
pub part_weaker : {A : Type 0} (P Q : A → Type 0) (o : Option A) → ((x : A) → P x → Q x) → IfSome o P → IfSome o Q
part_weaker P Q None weaker is = tt
part_weaker P Q (Some x) weaker is = weaker x is

pub ok_part_weaker : {A E : Type 0} (P Q : A → Type 0) (r : Result (Option A) E) → ((x : A) → P x → Q x) → IfOk r (λ o. IfSome o P) → IfOk r (λ o. IfSome o Q)
ok_part_weaker P Q (Err e) weaker is = tt
ok_part_weaker P Q (Ok o) weaker is = part_weaker P Q o weaker is

-- the field of a level whose call leads on
pub in_field : (p : Resolved) (path : Path) (format : Format) (a : Assignment) (i : ℕ) (x : FilledField) (d : Field) (k : ℕ) (es : List Expr) (values : List ℤ) (s : Standing)
    → slice_get format.fields i ≡ Some d → d.encoding ≡ encoding.Call k es → vals a es ≡ Some values → StandsWithin p k values (below path d.declared.name) (inner_of x) s
    → StandsInField p path format a i x s
in_field p path format a i x d k es values s at is values_are stands =
    record { field = d; field_is = at; callee = k; arguments = es; encoding_is = is; values = values; values_are = values_are; stands = stands }

-- where no name follows, it stands there
pub at_end : (p : Resolved) (k : ℕ) (args : List ℤ) (path : Path) (f : Filling) (s : Standing) → ArgumentsLieAt p k args → s.method ≡ k → s.arguments ≡ args → string_bytes s.path ≡ path → s.filling.now ≡ f → StandsBelow p k args path f s
at_end p k args path f s lie method arguments here filling = (
  subst (λ n. LeadsDown p.methods s.method s.arguments (string_bytes s.path) s.filling.now n args path f) method
      (subst (λ xs. LeadsDown p.methods s.method s.arguments (string_bytes s.path) s.filling.now s.method xs path f) arguments
      (subst (λ q. LeadsDown p.methods s.method s.arguments (string_bytes s.path) s.filling.now s.method s.arguments q f) here
      (subst (λ g. LeadsDown p.methods s.method s.arguments (string_bytes s.path) s.filling.now s.method s.arguments (string_bytes s.path) g) filling at_its_end))),
  subst (λ xs. ArgumentsLieAt p s.method xs) (sym arguments) (subst (λ n. ArgumentsLieAt p n args) (sym method) lie),
)
