use Rattle.std.proofs.Common.{rules, ◌≡◌, ◌∙◌, sym, subst, refl, length, List, Some}
use Rattle.std.specs.Prelude.{slice_get}
use Rattle.std.proofs.lemmas.Option.{slice_get_read}
use Rattle.sem_filling.proofs.FitsSized.{one_value}
use Rattle.sem_profile.specs.declared.profile.FormatSizes.{FormatSizes}
use Rattle.cert_types.specs.declared.certificate.FormatPlans.{FormatPlans}
use Rattle.cert_prove.specs.Made.{IsFormatMade}
use Rattle.cert_prove.proofs.MadeLacking.{format_lacks}
use Rattle.cert_prove.proofs.EntriesPairs.{Pairs, no_pairs, one_pair}
use Rattle.cert_prove.proofs.entries.all_formats.Goals as goal

pub loop-format-init : goal.loop-format-init
loop-format-init c = subst (λ (es : List FormatPlans). Pairs (λ n f e. (z : FormatSizes) → slice_get c.args.bounds.now n ≡ Some z → IsFormatMade c.args.version c.args.table.now z f e) c.args.formats.now es 0) (sym c.new-entries.ensures) (no_pairs (λ n f e. (z : FormatSizes) → slice_get c.args.bounds.now n ≡ Some z → IsFormatMade c.args.version c.args.table.now z f e) c.args.formats.now)

pub returns-in-Err-clause-lacks : goal.returns-in-Err-clause-lacks
returns-in-Err-clause-lacks c =
    let at = slice_get_read c.args.formats.now _ c.loop-format.format c.index-formats-format.result refl (search rules) (search rules) in
    let sized = slice_get_read c.args.bounds.now _ c.loop-format.format c.index-bounds-format.result refl (search rules) (search rules) in
    format_lacks c.args.version c.args.table.now c.args.method c.loop-format.format c.args.bounds.now c.args.formats.now c.loop-format.entries c.index-bounds-format.result c.index-formats-format.result c.in-Err.unproved at sized c.loop-format.invariant c.in-Err.ensures.lacks

pub loop-format-preserved : goal.loop-format-preserved
loop-format-preserved c =
    let at = slice_get_read c.args.formats.now _ c.loop-format.format c.index-formats-format.result refl (search rules) (search rules) in
    let sized = slice_get_read c.args.bounds.now _ c.loop-format.format c.index-bounds-format.result refl (search rules) (search rules) in
    one_pair (λ n f e. (z : FormatSizes) → slice_get c.args.bounds.now n ≡ Some z → IsFormatMade c.args.version c.args.table.now z f e) c.args.formats.now c.loop-format.entries c.push.new.self c.loop-format.format c.index-formats-format.result c.in-Ok.entry at
    (λ z here. subst (λ (y : FormatSizes). IsFormatMade c.args.version c.args.table.now y c.index-formats-format.result c.in-Ok.entry) (one_value (slice_get c.args.bounds.now c.loop-format.format) c.index-bounds-format.result z sized here) c.in-Ok.ensures.made)
    c.in_ok-push-in-Ok.ensures.ok c.loop-format.invariant

pub returns-clause-made : goal.returns-clause-made
returns-clause-made c =
    let whole : c.loop-format.format ≡ length c.args.formats.now = search rules in
    record { each = c.loop-format.invariant.long ∙ whole; made = λ n f z e at sized there. c.loop-format.invariant.each n f e at there z sized }
