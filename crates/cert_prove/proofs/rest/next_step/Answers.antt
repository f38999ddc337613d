use Rattle.std.proofs.Common.{refl, sym, ◌∙◌}
use Rattle.std.proofs.lemmas.Option.{slice_get_read}
use Rattle.cert_plans.specs.Knowing.{shows}
use Rattle.cert_prove.proofs.SearchingAwaiting.{waits_more, waits_next, found_here, none_here, left_more}
use Rattle.cert_prove.proofs.rest.next_step.Goals as goal

pub returns-then-is_due-clause-next : goal.returns-then-is_due-clause-next
returns-then-is_due-clause-next c =
    let so = c.more.invariant in
    let w = c.more.waits in
    sym (found_here (shows c.args.known.now) c.args.format.now c.args.possible.now w.due w.noted c.more.place so.0 so.2 c.index-possible-place.result c.more-test.true c.index-possible-place.is
    (sym c.in_ok-rest.ensures.next ∙ (sym c.is_due.ensures ∙ c.if-is_due.true)))

pub returns-then-is_due-clause-waits : goal.returns-then-is_due-clause-waits
returns-then-is_due-clause-waits c =
    let old = c.more.waits in
    let new = c.lay_aside.new.waits in
    let aside = c.lay_aside.ensures in
    let xs = c.args.possible.now in
    let p = c.index-possible-place.result in
    let here = slice_get_read xs _ c.more.place p refl c.more-test.true c.index-possible-place.is in
    waits_next old.due old.noted new.due new.noted c.more.place aside.others (shows c.args.known.now) c.args.format.now xs p c.more.invariant.0 here aside.many aside.rows aside.keeps

pub returns-clause-next : goal.returns-clause-next
returns-clause-next c =
    let so = c.more.invariant in
    let w = c.more.waits in
    sym (none_here (shows c.args.known.now) c.args.format.now c.args.possible.now w.due w.noted c.more.place so.0 so.2 c.more-test.false)

pub more-preserved : goal.more-preserved
more-preserved c =
    let old = c.more.waits in
    let new = c.lay_aside.new.waits in
    let aside = c.lay_aside.ensures in
    let rest = c.in_ok-rest in
    let xs = c.args.possible.now in
    let p = c.index-possible-place.result in
    let here = slice_get_read xs _ c.more.place p refl c.more-test.true c.index-possible-place.is in (
      waits_more old.due old.noted new.due new.noted c.more.place aside.others (shows c.args.known.now) c.args.format.now xs p c.more.invariant.0 here aside.many aside.rows aside.keeps rest.rest rest.ensures.rests
          (rest.ensures.still (sym c.is_due.ensures ∙ c.if-is_due.false)) aside.noted,
      left_more c.args.format.now xs (shows c.args.known.now) c.more.needs.items _ c.more.place p _ here refl c.more.invariant.1 rest.ensures.left,
      c.first_due-place-in-more.ensures.before,
    )
