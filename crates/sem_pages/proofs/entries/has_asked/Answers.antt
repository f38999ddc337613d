use Rattle.std.proofs.Common.{rules, ◌≡◌, ◌<◌, refl, sym, length}
use Rattle.std.proofs.lemmas.Option.{slice_get_read}
use Rattle.sem_pages.proofs.Leaving.{asked_by, element_at, rest_start, rest_past, rest_on, rest_end}
use Rattle.sem_pages.proofs.entries.has_asked.Goals as goal

pub loop-i-init : goal.loop-i-init
loop-i-init c = rest_start c.as_slice-fields.result.now c.as_slice-shown.result.now c.args.values.now

pub loop-i-preserved-then-not-field : goal.loop-i-preserved-then-not-field
loop-i-preserved-then-not-field c =
    let ds = c.as_slice-fields.result.now in
    let ss = c.as_slice-shown.result.now in
    let d_at = slice_get_read ds _ c.loop-i.i c.index-fields-i.result refl (search rules) c.index-fields-i.is in
    let count : length ss ≡ length ds = (search rules) in
    let under : c.loop-i.i < length ss = (search rules) in
    let s = element_at ss c.loop-i.i under in
    rest_past ds ss c.args.values.now c.loop-i.i c.loop-i.place _ s.0 d_at s.1 c.if-not-field.true c.loop-i.invariant

pub loop-i-preserved : goal.loop-i-preserved
loop-i-preserved c =
    let ds = c.as_slice-fields.result.now in
    let ss = c.as_slice-shown.result.now in
    let d_at = slice_get_read ds _ c.loop-i.i c.index-fields-i.result refl (search rules) c.index-fields-i.is in
    let s_at = slice_get_read ss _ c.loop-i.i c.index-shown-i.result refl (search rules) c.index-shown-i.is in
    rest_on ds ss c.args.values.now c.loop-i.i c.loop-i.place _ _ d_at s_at (search rules) (c.is_next.ensures.same c.if-not-is_next.false) c.loop-i.invariant

pub returns : goal.returns
returns c = λ is f shown.
    let ds = c.as_slice-fields.result.now in
    let ss = c.as_slice-shown.result.now in
    sym (asked_by c.args.methods.now c.in-Some.format.now ds ss _ (search rules) c.as_slice-fields.ensures c.as_slice-shown.ensures
    (sym (rest_end ds ss c.args.values.now c.loop-i.i c.loop-i.place (search rules) (search rules) c.loop-i.invariant)) shown)
