use Rattle.std.proofs.Common.{sym, refl}
use Rattle.std.proofs.lemmas.Option.{slice_get_read}
use Rattle.cert_candidates.proofs.SpansListing.{format_more, entries_done}
use Rattle.cert_candidates.proofs.spans.plan_counts.Goals as goal

pub returns-in_default : goal.returns-in_default
returns-in_default c = λ exact is.
    entries_done exact c.args.formats.now c.args.entries.now c.loop-place.place c.loop-place.found _ (c.loop-place.invariant exact is) (sym c.in_default.ensures)

pub loop-place-preserved : goal.loop-place-preserved
loop-place-preserved c = λ exact is.
    let here = slice_get_read c.args.formats.now _ c.loop-place.place c.index-formats-place.result refl c.loop-place-test.true c.index-formats-place.is in
    format_more exact c.args.formats.now c.args.entries.now c.loop-place.place c.loop-place.found _ (c.loop-place.invariant exact is)
    c.index-formats-place.result c.in-Some.entry.now c.push.new.self c.in_ok-format_count.field-0 here (sym c.in-Some.ensures) (c.in_ok-format_count.ensures exact is) c.in_ok-push.ensures.ok
