-- The arguments of a call: each filling that shows what a level knows has values for them, which lie in the ranges of the parameters.
use Rattle.std.proofs.Common.{◌≡◌, refl, sym, ◌∙◌, ap, subst, ℕ, List, true, false}
use Rattle.std.specs.Prelude.{Option, Some, None, slice_get, option_and_then, ℤ, Bool}
use Rattle.std.proofs.lemmas.Option.{same_Some}
use Rattle.sem_context.specs.Entries.{bits_at}
use Rattle.sem_expr.specs.declared.expr.Expr.{Expr}
use Rattle.sem_expr.specs.Known.{assignment_of}
use Rattle.sem_profile.specs.declared.profile.Encoding.TheVariants as encoding
use Rattle.sem_profile.specs.declared.profile.Field.{Field}
use Rattle.sem_profile.specs.declared.profile.Format.{Format}
use Rattle.sem_profile.specs.declared.profile.Method.{Method}
use Rattle.sem_profile.specs.BoundsLaws.{encoding_exprs, in_encoding}
use Rattle.sem_profile.proofs.ParametersWidening.{lie-in-parameters}
use Rattle.sem_profile.specs.Resolved.{IsSound}
use Rattle.sem_filling.specs.declared.filling.Filling.{Filling}
use Rattle.sem_filling.specs.declared.filling.FilledField.{FilledField}
use Rattle.sem_filling.specs.Fillings.{fields_of, inner_of, inner_at}
use Rattle.sem_filling.specs.Entries.{Path}
use Rattle.sem_filling.proofs.FillingsUnique.{also_at}
use Rattle.sem_filling.specs.Fits.{Context, format_at, vals}
use Rattle.sem_filling.proofs.FitsInverted.{length-fields, called_parts}
use Rattle.sem_filling.specs.Ready.{ArgumentsLieAt}
use Rattle.sem_filling.proofs.FitsJudged.{Fitting, fitting, placed, sized}
use Rattle.sem_filling.proofs.FitsLimits.{at_level}
use Rattle.sem_filling.proofs.Readying.{call_lies}
use Rattle.cert_rules.specs.Facts.{inputs_of_all}
use Rattle.cert_rules.specs.Numbers.{known_of}
use Rattle.cert_rules.specs.Slots.{calls_at, knows_all, slots_view}
use Rattle.cert_rules.specs.Views.{view}
use Rattle.cert_rules.proofs.ViewsInputs.{vals_same}
use Rattle.cert_rules.proofs.SlotsKnown.{slots_declared, agree_known}
use Rattle.cert_rules.proofs.SlotsLying.{all_lie}
use Rattle.cert_rules.proofs.Steps.{unfilled}
use Rattle.walk_steps.specs.Partial.{Reached, IsKept, stands}
use Rattle.walk_steps.proofs.LevelAsked.{all_shown}
use Rattle.walk_steps.specs.declared.level_frame.LevelFrame.{LevelFrame}
use Rattle.walk_steps.specs.Calls.{MayCall}
use Rattle.walk_steps.specs.Finding.{IsAt, Shows, AllAsked, shown_numbers}

-- a field that calls no method has no filling inside
plain : {methods : List Method} {ctx : Context} {args : List ℤ} {path : Path} (format : Format) (f : Filling) → Fitting methods ctx args path format f → (i : ℕ) → calls_at (slice_get format.fields i) ≡ false →
    inner_at f i ≡ None
plain format f fit i no_call = by (slice_get format.fields i) refl (slice_get (fields_of f) i) refl no_call
  where
    by : (o : Option Field) → slice_get format.fields i ≡ o → (x : Option FilledField) → slice_get (fields_of f) i ≡ x → calls_at o ≡ false → option_and_then inner_of x ≡ None
    by o at None at_f none = refl
    by None at (Some x) at_f none = absurd (let t = also_at (fields_of f) format.fields i x (length-fields format f fit.level_fits.shaped) at_f in let u = t.1 in cc)
    by (Some d) at (Some x) at_f none = unfilled (fit.each i d x at at_f) none

-- what the arguments ask for is known
pub call_known : (l : Reached) (i k : ℕ) (d : Field) (es : List Expr) → slice_get l.format.fields i ≡ Some d → d.encoding ≡ encoding.Call k es → MayCall l i → knows_all l.format l.slots (inputs_of_all l.format es) ≡ true
call_known l i k d es at is may =
    let same : may.field ≡ d = same_Some may.field d (sym may.field_is ∙ at) in
    let calls : encoding.Call may.method may.exprs ≡ encoding.Call k es = sym may.encoding_is ∙ (ap (λ x. x.encoding) same ∙ is) in
    let same_es : may.exprs ≡ es = cc in
    subst (λ xs. knows_all l.format l.slots (inputs_of_all l.format xs) ≡ true) same_es may.known

module _ (l : Reached) (i k : ℕ) (d : Field) (es : List Expr) (at_d : slice_get l.format.fields i ≡ Some d) (is : d.encoding ≡ encoding.Call k es) where
  pub arguments_asked : AllAsked l es
  arguments_asked n e here = stands (in_encoding i n at_d (ap (λ x. slice_get (encoding_exprs x) n) is ∙ here))

  module _ (level_frame : LevelFrame) (at : IsAt level_frame l) (known : knows_all l.format l.slots (inputs_of_all l.format es) ≡ true) where
    pub valued : (bits : List Bool) (f : Filling) → Shows level_frame l bits f → (args : List ℤ) × (vals (shown_numbers l) es ≡ Some args)
    valued bits f shows =
        let fit : Fitting level_frame.frame.profile.now.methods (bits_at level_frame.frame.context.now) l.args level_frame.frame.path.now l.format f =
        fitting l.format (ap (format_at level_frame.frame.profile.now.methods level_frame.frame.method) shows.format_is ∙ at.format_is) shows.ahead.in_front.fits in
        let shaped = fit.level_fits.shaped in
        let x = also_at l.format.fields (fields_of f) i d (sym (length-fields l.format f shaped)) at_d in
        let c = called_parts level_frame.frame.profile.now.methods (bits_at level_frame.frame.context.now) (fit.each i d x.0 at_d x.1) k es is in
        let agree = agree_known l.format l.slots f shows.count shows.has (plain l.format f fit) (inputs_of_all l.format es) known in
        (c.args, vals_same (slots_view l.format l.slots) (view f) l.format (slots_declared l.format.fields l.slots shows.count) shaped.declared_is l.args es agree ∙ c.is_args)

    pub arguments_lie : IsSound level_frame.frame.profile.now → IsKept l → ArgumentsLieAt level_frame.frame.profile.now level_frame.frame.method l.args → (args : List ℤ) → vals (shown_numbers l) es ≡ Some args → ArgumentsLieAt level_frame.frame.profile.now k args
    arguments_lie sound kept lie args are t whole =
        let p = level_frame.frame.profile.now in
        let m = placed p.methods level_frame.frame.method level_frame.format l.format at.format_is in
        let s = sized p.sizes level_frame.frame.method level_frame.format l.sizes at.sizes_are in
        let here = at_level p.methods p.sizes level_frame.frame.method level_frame.format l.format l.sizes m s in
        let ranges = all_lie p.methods p.sizes sound.sized m.method l.format s.whole l.sizes here l.slots l.args kept.count kept.within (lie s.whole s.whole_at) in
        let formed = sound.well_formed.formats level_frame.frame.method level_frame.format m.method l.format m.method_at m.format_is in
        let callee = formed.calls i k d es at_d is in
        let take = lie-in-parameters p.methods p.sizes sound.sized in
        let values = all_shown l.format l.sizes l.args l.slots kept es arguments_asked known ∙ are in
        call_lies p.methods p.sizes take m.method l.format s.whole l.sizes here i k d es args t at_d is whole (callee.2 ∙ sym (take.each k callee.0 t callee.1 whole)) (assignment_of (known_of l.format l.slots l.args)) ranges values
