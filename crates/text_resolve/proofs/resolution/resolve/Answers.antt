use Rattle.std.proofs.Common.{sym, ◌∙◌, subst}
use Rattle.std.proofs.lemmas.List.{length-map}
use Rattle.text_resolve.specs.Parts.{methods_of, method_places}
use Rattle.std.specs.Prelude.{Some}
use Rattle.std.proofs.lemmas.Result.{err_from_is_err_and, IfOk-weaker, IfErr-weaker}
use Rattle.sem_profile.specs.Precedence.{Blames}
use Rattle.text_resolve.specs.Resolved.{IsNormalForm, IsProfile, ProfileCause, Cause, in_head, in_methods, has_no_top, calls_back, in_profile}
use Rattle.text_resolve.proofs.PartsPasses.{blames_as, form_for_each, text_ordered, forms_ordered, normal}
use Rattle.text_resolve.proofs.CallsOwn.{own_names}
use Rattle.text_resolve.proofs.MethodsAskedFields.{are_asked}
use Rattle.text_resolve.proofs.NamedMethods.{are_named, have_formats, is_plain}
use Rattle.text_resolve.proofs.WellFormedAlikeFields.{form_is_alike}
use Rattle.text_resolve.proofs.SoundMethods.{well_formed}
use Rattle.text_resolve.proofs.resolution.resolve.Goals as goal

pub returns-in_err-head-clause-refused : goal.returns-in_err-head-clause-refused
returns-in_err-head-clause-refused c =
    let p = err_from_is_err_and c.from_residual.result c.from_residual.ensures.1 in
    rw (p.1, p.2) (blames_as (λ f cause. in_head cause) _ (rw c.as_slice-given.ensures at c.in_err-head.ensures.refused))

pub returns-in_err-methods-clause-refused : goal.returns-in_err-methods-clause-refused
returns-in_err-methods-clause-refused c =
    let p = err_from_is_err_and c.from_residual-in_err-methods.result c.from_residual-in_err-methods.ensures.1 in
    rw (p.1, p.2) (blames_as (λ f cause. in_methods cause) _ c.in_err-methods.ensures.refused)

pub returns-in_default-clause-refused : goal.returns-in_default-clause-refused
returns-in_default-clause-refused c = rw c.no_top.ensures (has_no_top (sym (rw c.as_slice-given.ensures at c.top-place.ensures.place) ∙ c.in_default.is))

pub returns-in_err-calls-clause-refused : goal.returns-in_err-calls-clause-refused
returns-in_err-calls-clause-refused c =
    let p = err_from_is_err_and c.from_residual-in_err-calls.result c.from_residual-in_err-calls.ensures.1 in
    rw (p.1, p.2) (blames_as (λ f cause. calls_back cause) _ (rw c.as_slice-given.ensures at rw c.in_err-calls.was at c.ordered-calls.ensures.refused))

pub profile_of-requires-clause-order : goal.profile_of-requires-clause-order
profile_of-requires-clause-order c =
    let text = c.args.text.now in
    let parts = c.args.parts in
    let calls = c.in_ok-calls.calls in
    let form = rw c.in-Some.is at c.in_ok-methods.ensures.found in
    let names = (rw c.as_slice-given.ensures at c.in_ok-head.ensures.tables).methods_are in
    let graph = rw (c.as_slice-given.ensures, names) at rw c.in_ok-calls.was at c.ordered-calls.ensures.calls in
    rw c.as_slice-2.ensures (forms_ordered text parts (Some c.in-Some.top) c.in_ok-methods.methods calls.order form (text_ordered text parts calls.calls calls.order graph (rw c.in_ok-calls.was at c.ordered-calls.ensures.order)))

pub profile_of-requires-clause-top : goal.profile_of-requires-clause-top
profile_of-requires-clause-top c =
    let form = rw c.in-Some.is at c.in_ok-methods.ensures.found in
    rw (form_for_each c.args.text.now c.args.parts (Some c.in-Some.top) c.in_ok-methods.methods form) (rw c.in-Some.is at (rw c.as_slice-given.ensures at c.top-place.ensures.within))

pub profile_of-requires-clause-named : goal.profile_of-requires-clause-named
profile_of-requires-clause-named c =
    let form = rw c.in-Some.is at c.in_ok-methods.ensures.found in
    let names = c.as_slice.ensures ∙ (rw c.as_slice-given.ensures at c.in_ok-head.ensures.places) in
    rw names (form_for_each c.args.text.now c.args.parts (Some c.in-Some.top) c.in_ok-methods.methods form ∙ sym (length-map (methods_of c.args.parts) _))

pub profile_of-requires-clause-well_formed : goal.profile_of-requires-clause-well_formed
profile_of-requires-clause-well_formed c =
    let form = rw c.in-Some.is at c.in_ok-methods.ensures.found in
    well_formed c.args.text.now c.args.parts (Some c.in-Some.top) c.in_ok-methods.methods form

pub profile_of-requires-clause-alike : goal.profile_of-requires-clause-alike
profile_of-requires-clause-alike c =
    let form = rw c.in-Some.is at c.in_ok-methods.ensures.found in
    form_is_alike c.args.text.now c.args.parts (Some c.in-Some.top) c.in_ok-methods.methods form

pub profile_of-requires-clause-names : goal.profile_of-requires-clause-names
profile_of-requires-clause-names c =
    let form = rw c.in-Some.is at c.in_ok-methods.ensures.found in
    are_named c.args.text.now c.args.parts (Some c.in-Some.top) c.in_ok-methods.methods (rw c.as_slice-given.ensures at c.in_ok-head.ensures.tables).distinct form

pub profile_of-requires-clause-plain : goal.profile_of-requires-clause-plain
profile_of-requires-clause-plain c =
    let form = rw c.in-Some.is at c.in_ok-methods.ensures.found in
    is_plain c.args.text.now c.args.parts c.args.name.now c.in-Some.top c.in_ok-methods.methods (sym (rw c.as_slice-given.ensures at c.top-place.ensures.place) ∙ c.in-Some.is) form

pub profile_of-requires-clause-formats : goal.profile_of-requires-clause-formats
profile_of-requires-clause-formats c =
    let form = rw c.in-Some.is at c.in_ok-methods.ensures.found in
    have_formats c.args.text.now c.args.parts (Some c.in-Some.top) c.in_ok-methods.methods form

pub profile_of-requires-clause-asking : goal.profile_of-requires-clause-asking
profile_of-requires-clause-asking c =
    let form = rw c.in-Some.is at c.in_ok-methods.ensures.found in
    are_asked c.args.text.now c.args.parts c.in-Some.top c.in_ok-methods.methods form

pub returns-clause-found : goal.returns-clause-found
returns-clause-found c =
    let text = c.args.text.now in
    let parts = c.args.parts in
    let calls = c.in_ok-calls.calls in
    let all = c.in_ok-methods.methods in
    let top = c.in-Some.top in
    let form = rw c.in-Some.is at c.in_ok-methods.ensures.found in
    let names = (rw c.as_slice-given.ensures at c.in_ok-head.ensures.tables).methods_are in
    let graph = rw (c.as_slice-given.ensures, names) at rw c.in_ok-calls.was at c.ordered-calls.ensures.calls in
    let place = sym (rw c.as_slice-given.ensures at c.top-place.ensures.place) ∙ c.in-Some.is in
    IfOk-weaker c.profile_of.result (IsProfile all top) (IsNormalForm text parts c.args.name.now)
    (λ p is. normal text parts c.args.name.now all top calls.order p (rw c.as_slice-given.ensures at c.in_ok-head.ensures.tables).distinct place form (text_ordered text parts calls.calls calls.order graph (rw c.in_ok-calls.was at c.ordered-calls.ensures.order)) is)
    c.profile_of.ensures.found

pub returns-clause-refused : goal.returns-clause-refused
returns-clause-refused c =
    let text = c.args.text.now in
    let parts = c.args.parts in
    let all = c.in_ok-methods.methods in
    let top = c.in-Some.top in
    let form = rw c.in-Some.is at c.in_ok-methods.ensures.found in
    let place = sym (rw c.as_slice-given.ensures at c.top-place.ensures.place) ∙ c.in-Some.is in
    let names = c.as_slice.ensures ∙ (rw c.as_slice-given.ensures at c.in_ok-head.ensures.places) in
    IfErr-weaker c.profile_of.result (Blames (ProfileCause (method_places parts) all top)) (Blames (Cause text parts c.args.name.now))
    (blames_as (λ f cause. in_profile all top place form cause)) (rw names at c.profile_of.ensures.refused)

pub ordered-calls-requires-clause-own : goal.ordered-calls-requires-clause-own
ordered-calls-requires-clause-own c =
    let tables = rw c.as_slice-given.ensures at c.in_ok-head.ensures.tables in
    rw tables.methods_are (own_names c.args.text.now c.args.parts tables.distinct)
