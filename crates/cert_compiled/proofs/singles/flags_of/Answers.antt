use Rattle.std.proofs.Common.{◌≡◌, ◌+◌, ◌∙◌, refl, sym, ap, subst, length, rules}
use Rattle.std.specs.Prelude.{option_and_then}
use Rattle.std.proofs.lemmas.Option.{slice_get_read}
use Rattle.cert_types.specs.declared.certificate.FormatPlans.{FormatPlans}
use Rattle.cert_compiled.specs.Single.{AreTold}
use Rattle.cert_compiled.proofs.Growing.{length_next}
use Rattle.cert_compiled.proofs.Telling.{none_told, told_next}
use Rattle.cert_compiled.proofs.singles.flags_of.Goals as goal

pub loop-index-init : goal.loop-index-init
loop-index-init c = (ap length c.new-flags.ensures, none_told c.args.tellers.now c.args.formats.now c.args.plans.now c.new-flags.result c.new-flags.ensures)

pub loop-index-preserved : goal.loop-index-preserved
loop-index-preserved c =
    let i = c.loop-index.index in
    let so_far = c.loop-index.invariant in
    let here = slice_get_read c.args.formats.now _ i c.index-formats-index.result refl (search rules) c.index-formats-index.is in (
      subst (λ z. length z ≡ i + 1) (sym c.in_ok-push.ensures.ok) (length_next c.loop-index.flags c.is_told.result i so_far.0),
      subst (AreTold c.args.tellers.now c.args.formats.now c.args.plans.now) (sym c.in_ok-push.ensures.ok)
          (told_next c.args.tellers.now c.args.formats.now c.args.plans.now c.loop-index.flags i c.index-formats-index.result c.is_told.result so_far.0 here (λ e plans at_plan. c.is_told.ensures e plans (ap (option_and_then (λ (f : FormatPlans). f.plans)) c.at.ensures ∙ at_plan)) so_far.1),
    )

pub returns : goal.returns
returns c = c.loop-index.invariant.1
