use Rattle.std.proofs.Common.{◌≡◌, ◌∙◌, sym, ap, subst, true}
use Rattle.std.specs.Prelude.{Some, None, slice_get}
use Rattle.std.proofs.lemmas.Option.{none-some}
use Rattle.sem_filling.specs.Entries.{below}
use Rattle.sem_filling.specs.Fits.{vals}
use Rattle.cert_rules.specs.Facts.{inputs_of_all}
use Rattle.cert_rules.specs.Slots.{knows_all}
use Rattle.walk_steps.specs.Finding.{shown_numbers}
use Rattle.walk_steps.proofs.FindingValued.{call_known, arguments_asked, valued, arguments_lie}
use Rattle.walk_steps.proofs.calls.called.Goals as goal

pub values-requires : goal.values-requires
values-requires c =
    let l = c.args.level.now in
    let at = ap (λ z. slice_get z.fields c.args.field) (sym c.format.ensures) ∙ sym c.in-Some.ensures.value in
    record { asked = λ n e here. arguments_asked l c.args.field c.in-Call.method c.in-Some.coded.now c.in-Call.arguments at (sym c.get-2.ensures ∙ c.in-Call.is) n e (ap (λ xs. slice_get xs n) (sym c.as_slice.ensures) ∙ here) }

pub returns-in_default-2-clause-fault : goal.returns-in_default-2-clause-fault
returns-in_default-2-clause-fault c = λ bits f shows.
    let l = c.args.level.now in
    let es = c.in-Call.arguments in
    let at = ap (λ z. slice_get z.fields c.args.field) (sym c.format.ensures) ∙ sym c.in-Some.ensures.value in
    let known : knows_all l.format l.slots (inputs_of_all l.format es) ≡ true = call_known l c.args.field c.in-Call.method c.in-Some.coded.now es at (sym c.get-2.ensures ∙ c.in-Call.is) c.requires.ready in
    let found = c.in_ok-values.ensures.shown (subst (λ xs. knows_all l.format l.slots (inputs_of_all l.format xs) ≡ true) (sym c.as_slice.ensures) known) in
    let none : None ≡ vals (shown_numbers l) es = sym c.in_default-2.is ∙ (found ∙ ap (vals (shown_numbers l)) c.as_slice.ensures) in
    let some = valued l c.args.field c.in-Call.method c.in-Some.coded.now es at (sym c.get-2.ensures ∙ c.in-Call.is) c.args.level_frame.now c.requires.at known bits f shows in
    none-some some.0 (none ∙ some.1)

pub returns-clause-found : goal.returns-clause-found
returns-clause-found c =
    let l = c.args.level.now in
    let es = c.in-Call.arguments in
    let at = ap (λ z. slice_get z.fields c.args.field) (sym c.format.ensures) ∙ sym c.in-Some.ensures.value in
    let known : knows_all l.format l.slots (inputs_of_all l.format es) ≡ true = call_known l c.args.field c.in-Call.method c.in-Some.coded.now es at (sym c.get-2.ensures ∙ c.in-Call.is) c.requires.ready in
    let found = c.in_ok-values.ensures.shown (subst (λ xs. knows_all l.format l.slots (inputs_of_all l.format xs) ≡ true) (sym c.as_slice.ensures) known) in
    let are : vals (shown_numbers l) es ≡ Some c.in-Some-2.values = sym (found ∙ ap (vals (shown_numbers l)) c.as_slice.ensures) ∙ c.in-Some-2.is in
    record {
      field = c.in-Some.coded.now;
      exprs = es;
      field_is = at;
      encoding_is = sym c.get-2.ensures ∙ c.in-Call.is;
      args_are = are;
      path_is = c.in_ok-below.ensures ∙ ap (below c.args.level_frame.now.frame.path.now) c.as_str.ensures;
      lie = arguments_lie l c.args.field c.in-Call.method c.in-Some.coded.now es at (sym c.get-2.ensures ∙ c.in-Call.is) c.args.level_frame.now c.requires.at known c.keeps.ensures c.keeps-2.ensures c.requires.lie c.in-Some-2.values are;
    }
