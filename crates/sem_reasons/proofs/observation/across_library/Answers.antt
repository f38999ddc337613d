use Rattle.std.proofs.Common.{ap, sym, ◌∙◌}
use Rattle.std.specs.Option.{option_copied}
use Rattle.std.proofs.lemmas.Result.{IfOk-weaker}
use Rattle.sem_expr.specs.Bounds.{bounding_of}
use Rattle.sem_reasons.specs.Across.{with_values}
use Rattle.sem_reasons.specs.Settings.{setting_of}
use Rattle.sem_reasons.specs.Told.{base_ranges, reference_in}
use Rattle.sem_reasons.proofs.FullSeen.{valued_across}
use Rattle.sem_reasons.proofs.observation.across_library.Goals as goal

pub returns : goal.returns
returns c =
    let s = setting_of c.args.look.now.question in
    let l = c.args.library.now in
    IfOk-weaker c.other_side.result _ _
    (valued_across (bounding_of (base_ranges s c.args.look.now.sizes.now)) l c.args.side c.args.own.now (sym c.is_crc.ensures ∙ c.if-is_crc.false) c.in-Some.method
    (ap (λ z. with_values (bounding_of z) l) (sym c.requires.base_is) ∙ (sym c.with_values.ensures ∙ c.in-Some.is)) c.new-covered.result c.new-covered.ensures (option_copied c.in_ok-reference.reference) (reference_in s c.args.field.now)
    c.in_ok-reference.ensures)
    c.other_side.ensures
