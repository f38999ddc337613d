-- The passes of name resolution, joined.
use Rattle.std.proofs.Common.{◌≡◌, ◌∙◌, ap, ℕ, ◌<◌, List, refl, sym, subst, length}
use Rattle.std.proofs.lemmas.List.{length-map}
use Rattle.std.specs.Prelude.{Some, Option}
use Rattle.text_source.specs.declared.span.Span.{Span}
use Rattle.text_tree.specs.declared.tree.Part.{Part}
use Rattle.sem_profile.specs.declared.fault.ProfileFault.{ProfileFault}
use Rattle.sem_profile.specs.declared.fault.ResolveError.{ResolveError}
use Rattle.sem_profile.specs.declared.fault.ResolveError.TheVariants as errors
use Rattle.sem_profile.specs.declared.profile.Method.{Method}
use Rattle.sem_profile.specs.declared.profile.MethodSizes.{MethodSizes}
use Rattle.sem_profile.specs.Precedence.{Blames}
use Rattle.sem_graph.specs.Calls.{Calls}
use Rattle.sem_graph.specs.Order.{IsOrder}
use Rattle.sem_profile.specs.Methods as bounds
use Rattle.sem_profile.specs.Outcome as sizes
use Rattle.text_resolve.specs.Parts.{methods_of, method_names}
use Rattle.text_resolve.specs.Calls.{graph_of}
use Rattle.sem_profile.specs.Limits.{IsWithinLimits}
use Rattle.text_resolve.specs.Methods.{HaveForm}
use Rattle.sem_profile.specs.Uses.{Uses, AreReached}
use Rattle.text_resolve.specs.Twice.{AreDistinct}
use Rattle.sem_profile.specs.declared.asked.AskedField.{AskedField}
use Rattle.sem_profile.specs.Asked.{asked_of, AreAsked}
use Rattle.sem_profile.specs.Resolved.{Resolved, IsSound}
use Rattle.text_resolve.specs.Resolved.{top_of, OrderOfText, IsProfile, IsNormalForm, ProfileCause, no_bounds}
use Rattle.sem_profile.specs.Named.{AreNamed, AreWords}
use Rattle.sem_profile.specs.Rooted.{IsPlain, HaveFormats}
use Rattle.sem_profile.specs.WellFormed.{AreWellFormed}
use Rattle.sem_profile.specs.Alike.{AreAlike}
use Rattle.text_resolve.proofs.WellFormedAlikeFields.{kept_is_alike}
use Rattle.text_resolve.proofs.WellFormedSoundKept.{kept_well_formed}
use Rattle.text_resolve.proofs.ProfileLimitsKept.{kept_within_limits}
use Rattle.text_resolve.proofs.PartsKeptNames.{kept_named, kept_rooted}
use Rattle.text_resolve.proofs.MethodsAskedFields.{kept_asked}
use Rattle.text_resolve.proofs.MethodsBridging.{uses_of_text, as_many}
use Rattle.text_resolve.proofs.CallsUsing.{order_of_uses, order_of_kept}

-- the same error by a cause that the first gives
pub blames_as : {C D : ProfileFault → Type 0} → ((f : ProfileFault) → C f → D f) → (e : ResolveError) → Blames C e → Blames D e
blames_as to (errors.Fault f) blames = to f blames
blames_as to errors.OutOfMemory blames = tt

-- what the bounds' error says of the profile
pub bounds_refused : (names : List Span) (all kept : List Method) (top : ℕ) (order : List ℕ) → AreReached all top kept → bounds.IsOrder kept order
    → (e : ResolveError) → sizes.Blames kept order e → Blames (ProfileCause names all top) e
bounds_refused names all kept top order reached ordered (errors.Fault f) blames = no_bounds kept order reached ordered blames
bounds_refused names all kept top order reached ordered errors.OutOfMemory blames = tt

-- there are as many normal forms as methods
pub form_for_each : (text : List ℕ) (parts : List Part) (top : Option ℕ) (all : List Method) → HaveForm text parts top all → length all ≡ length (methods_of parts)
form_for_each text parts top all form = as_many form.file _ top 0 (methods_of parts) all form.are_methods

-- the order of the text is one of all its methods
pub text_ordered : (text : List ℕ) (parts : List Part) (calls : List (List ℕ)) (order : List ℕ) → calls ≡ graph_of text (method_names text parts) parts
    → IsOrder (Calls calls) (length calls) order → OrderOfText text parts order
text_ordered text parts calls order is ordered =
    let graph = graph_of text (method_names text parts) parts in
    let by_graph = subst (λ g. IsOrder (Calls g) (length g) order) is ordered in
    subst (λ n. IsOrder (Calls graph) n order) (length-map (methods_of parts) _) by_graph

-- and one of their normal forms
pub forms_ordered : (text : List ℕ) (parts : List Part) (top : Option ℕ) (all : List Method) (order : List ℕ) → HaveForm text parts top all → OrderOfText text parts order
    → IsOrder (Uses all) (length all) order
forms_ordered text parts top all order form ordered =
    order_of_uses (Calls (graph_of text (method_names text parts) parts)) (length all) order all
    (subst (λ n. IsOrder (Calls (graph_of text (method_names text parts) parts)) n order) (sym (form_for_each text parts top all form)) ordered) (uses_of_text text parts top all form)

-- the methods that the top reaches, with bounds
pub sound : (all kept : List Method) (table : List MethodSizes) (top : ℕ) (asked : List AskedField) (order : List ℕ) → asked ≡ asked_of kept top → AreAsked all top (asked_of all top) → IsOrder (Uses all) (length all) order → top < length all → AreReached all top kept
    → sizes.AreSizes kept table → AreWellFormed all → AreAlike all → AreNamed all → AreWords kept → IsPlain all top → HaveFormats all → IsWithinLimits all top
    → IsSound (record { methods = kept; sizes = table; top = top; asked = asked })
sound all kept table top asked order asked_are asking ordered within reached sized well_formed alike named words plain formats limits = record {
  order = order;
  ordered = order_of_kept (length all) order all kept top refl ordered reached;
  sized = sized;
  within = subst (λ n. top < n) (sym reached.each) within;
  well_formed = kept_well_formed all kept top well_formed reached;
  alike = kept_is_alike all kept top alike reached;
  named = kept_named all kept top named reached;
  words = words;
  rooted = kept_rooted all kept top plain formats reached;
  asking = subst (AreAsked kept top) (sym asked_are) (kept_asked all kept top within asking reached);
  limits = kept_within_limits all kept top order ordered within reached limits;
}

-- the normal form from its passes
pub normal : (text : List ℕ) (parts : List Part) (name : List ℕ) (all : List Method) (top : ℕ) (order : List ℕ) (p : Resolved) → AreDistinct text parts → top_of text parts name ≡ Some top
    → HaveForm text parts (Some top) all → OrderOfText text parts order → IsProfile all top p → IsNormalForm text parts name p
normal text parts name all top order p distinct place form ordered is = record {
  distinct = distinct;
  top_is = place ∙ ap Some (sym is.top_is);
  all = all;
  forms = subst (λ t. HaveForm text parts (Some t) all) (sym is.top_is) form;
  order = order;
  ordered = ordered;
  profile = subst (λ t. IsProfile all t p) (sym is.top_is) is;
}
