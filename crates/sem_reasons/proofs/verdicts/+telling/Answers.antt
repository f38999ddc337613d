use Rattle.std.proofs.Common.{rules, ap, subst, sym, get_or, false, ◌∙◌, ◌++◌, ◌∷◌, []}
use Rattle.std.specs.Option.{option_copied}
use Rattle.std.proofs.lemmas.Option.{slice_get-get_or}
use Rattle.sem_filling.specs.Entries.{below}
use Rattle.sem_reasons.specs.Reasons.{TellAll}
use Rattle.sem_reasons.specs.Settings.{Setting, setting_of}
use Rattle.sem_reasons.specs.Conflicts.{IsClearAt}
use Rattle.sem_reasons.proofs.FieldsClear.{all_clear, further_clear, listed_clear, next_clear, no_format_seen, no_sizes_seen}
use Rattle.sem_reasons.proofs.ReasonsMaking.{all_end, all_next, called_is, calls_is, inner_same}
use Rattle.sem_profile.specs.declared.profile.Encoding.TheVariants as encoding
use Rattle.sem_reasons.proofs.verdicts.+telling.Goals as goal
use Rattle.sem_reasons.proofs.verdicts.+telling.Goals.{told_by_fields-then-not-contains+in_ok-lines-2+in_default-2, told_by_fields-else-not-contains}

pub all_told-loop-format-preserved : goal.all_told-loop-format-preserved
all_told-loop-format-preserved t c =
    all_next (setting_of c.args.question.now) c.args.depth c.loop-format.format c.loop-format.lines c.append.new.self c.in-Some.more (search rules) (rw c.in-Some.is at c.in_ok-more.ensures) c.in_ok-append.ensures c.loop-format.invariant

pub all_told-returns : goal.all_told-returns
all_told-returns t c = all_end (setting_of c.args.question.now) c.args.depth c.loop-format.format c.loop-format.lines (search rules) c.loop-format.invariant

pub told_by_call-returns : goal.told_by_call-returns
told_by_call-returns t c =
    let k = c.args.sighted.now in
    let s = setting_of k.look.question in
    let d = c.args.field.now in
    let line = c.line.result in
    let begins = rw c.in-Some.is at c.begin_of.ensures in
    let inner : Setting = record { profile = s.profile; context = s.context; method = c.in-Call.method; parameters = c.as_slice-2.result.now; path = c.as_str-2.result.now; side = s.side; bits = c.in-Some-3.bits; is_whole = false; asked = [] } in
    let inner_is = inner_same s d c.in-Call.method c.in-Some-2.parameters c.as_slice-2.result.now c.in-Some.offset c.as_str-2.result.now c.in-Some-3.bits c.as_slice-2.ensures
    (c.as_str-2.ensures.value ∙ (c.in_ok-path.ensures ∙ ap (below s.path) c.as_str.ensures)) (rw c.in-Some-3.is at c.in_ok-bits.ensures) in
    let calls = calls_is k c.requires.sighted c.args.index d c.requires.at c.in-Call.method c.as_slice.result.now (sym c.get.ensures ∙ c.in-Call.is ∙ ap (encoding.Call c.in-Call.method) (sym c.as_slice.ensures)) c.in-Some-2.parameters (rw c.in-Some-2.is at c.in_ok-parameters.ensures) c.in-Some.offset begins inner inner_is in
    let tell = subst (λ z. TellAll inner z 0 c.in-Some-4.more) c.in-Some-checked_add.ensures.1 (rw c.in-Some-4.is at c.in_ok-more.ensures) in
    called_is s inner c.args.depth k.number c.args.index line c.in-Some-4.more c.append.new.self calls tell c.line.ensures
    (c.in_ok-append.ensures ∙ ap (λ z. z ++ c.in-Some-4.more) (c.in_ok-push.ensures.ok ∙ ap (λ z. z ++ line ∷ []) c.new-lines.ensures))

pub told-returns-in_default-format_of : goal.told-returns-in_default-format_of
told-returns-in_default-format_of t c = no_format_seen (setting_of c.args.question.now) c.args.format (sym c.format_of.ensures ∙ ap option_copied c.in_default-format_of.is)

pub told-returns-in_default-sizes_of : goal.told-returns-in_default-sizes_of
told-returns-in_default-sizes_of t c = no_sizes_seen (setting_of c.args.question.now) c.args.format (sym c.sizes_of.ensures ∙ ap option_copied c.in_default-sizes_of.is)

pub told_by_fields-loop-next-preserved : goal.told_by_fields-loop-next-preserved
told_by_fields-loop-next-preserved t c =
    let order = c.args.sighted.now.look.order.now in
    let place = c.loop-next.next-index in
    next_clear c.args.sighted.now place (get_or order place 0) (slice_get-get_or order place 0 c.loop-next-test.true) (rw c.in_default.is at c.in_ok-lines.ensures) c.loop-next.invariant

pub told_by_fields-loop-index-preserved : goal.told_by_fields-loop-index-preserved
told_by_fields-loop-index-preserved t c =
    let k = c.args.sighted.now in
    let index = c.loop-index.index-counter in
    let clear : IsClearAt k index = elim c.if-not-contains.branch [
      | told_by_fields-then-not-contains+in_ok-lines-2+in_default-2 w ↦ rw w.in_default-2.is at w.in_ok-lines-2.ensures
      | told_by_fields-else-not-contains w ↦ listed_clear k c.loop-next.next-index index (search rules) c.loop-next-test.false c.loop-next.invariant
    ] in
    further_clear k index clear c.loop-index.invariant

pub told_by_fields-returns : goal.told_by_fields-returns
told_by_fields-returns t c = all_clear c.args.sighted.now c.loop-index.index-counter c.requires c.loop-index.invariant (search rules)
