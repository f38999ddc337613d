use Rattle.std.proofs.Common.{refl, sym, ◌∙◌, ap, subst, drop, ◌+◌, arith}
use Rattle.std.specs.Prelude.{OnOk, IfErr}
use Rattle.std.proofs.lemmas.List.{drop_more, drop_all}
use Rattle.cert_types.specs.declared.certificate.Step.TheVariants as steps
use Rattle.walk_write.specs.Going.{IsGoing, StepsOn, BlamesGoing, BlamesAt, BlamesInside}
use Rattle.walk_write.specs.Walking.{Blames}
use Rattle.sem_expr.specs.declared.expr.Side.TheVariants.{Uncompressed}
use Rattle.cert_rules.specs.Slots.{learnt_at}
use Rattle.cert_accepted.specs.declared.frame.AcceptedFrame.{AcceptedFrame}
use Rattle.cert_accepted.specs.Standing.{NeverFits, IsAtStart}
use Rattle.cert_candidates.specs.Writing.{header_offset, known_bits, source_for}
use Rattle.walk_write.proofs.Called as called
use Rattle.walk_write.proofs.Ended.{some_made, none_made}
use Rattle.walk_write.proofs.WalkingWhole as whole
use Rattle.walk_write.proofs.GoingInner as inner
use Rattle.walk_write.proofs.WalkingPassing.{if_err, blames_common, plain_fails}
use Rattle.walk_write.proofs.walk.+writing.Goals as goal

pub follow-write_step-requires : goal.follow-write_step-requires
follow-write_step-requires t c =
    let bits = drop c.args.writing.now.source.from c.args.writing.now.source.cursor.now.left in
    let going = subst (λ z. IsGoing c.args.writing.now.accepted.now c.args.writing.now.level_frame bits c.args.writing.now.source.asked.now z c.args.number c.loop-step.digits c.loop-step.level)
    (drop_more c.args.plan.now c.loop-step.step-index _ c.loop-step-test.true) c.loop-step.invariant.0 in (
      omega arith,
      (c.requires.within, (c.requires.deep, record { serves = c.requires.serves; later = drop (c.loop-step.step-index + 1) c.args.plan.now; number = c.args.number; going = going })),
    )

pub follow-returns-in-Err-clause-fault : goal.follow-returns-in-Err-clause-fault
follow-returns-in-Err-clause-fault t c =
    let bits = drop c.args.writing.now.source.from c.args.writing.now.source.cursor.now.left in
    let going = subst (λ z. IsGoing c.args.writing.now.accepted.now c.args.writing.now.level_frame bits c.args.writing.now.source.asked.now z c.args.number c.loop-step.digits c.loop-step.level)
    (drop_more c.args.plan.now c.loop-step.step-index _ c.loop-step-test.true) c.loop-step.invariant.0 in
    subst (λ z. BlamesAt c.in-Err.fault c.args.writing.now.accepted.now c.args.writing.now.level_frame (record { method = c.args.writing.now.level_frame.frame.method; args = z; path = c.args.writing.now.level_frame.frame.path.now; source = bits; asked = c.args.writing.now.source.asked.now }) c.args.number)
    c.loop-step.invariant.1 (c.in-Err.ensures.fault (drop (c.loop-step.step-index + 1) c.args.plan.now) c.args.number going)

pub follow-loop-step-preserved : goal.follow-loop-step-preserved
follow-loop-step-preserved t c =
    let bits = drop c.args.writing.now.source.from c.args.writing.now.source.cursor.now.left in
    let going = subst (λ z. IsGoing c.args.writing.now.accepted.now c.args.writing.now.level_frame bits c.args.writing.now.source.asked.now z c.args.number c.loop-step.digits c.loop-step.level)
    (drop_more c.args.plan.now c.loop-step.step-index _ c.loop-step-test.true) c.loop-step.invariant.0 in
    (c.in_default.ensures.on (drop (c.loop-step.step-index + 1) c.args.plan.now) c.args.number going, c.in_default.ensures.args ∙ c.loop-step.invariant.1)

pub follow-returns : goal.follow-returns
follow-returns t c =
    let bits = drop c.args.writing.now.source.from c.args.writing.now.source.cursor.now.left in
    record {
      ends = subst (λ z. IsGoing c.args.writing.now.accepted.now c.args.writing.now.level_frame bits c.args.writing.now.source.asked.now z c.args.number c.loop-step.digits c.loop-step.level)
          (drop_all c.loop-step.step-index c.args.plan.now c.loop-step-test.false) c.loop-step.invariant.0;
      args = c.loop-step.invariant.1;
      fault = tt;
    }

pub write_step-returns-in-Call-clause-on : goal.write_step-returns-in-Call-clause-on
write_step-returns-in-Call-clause-on t c =
    let bits = drop c.args.writing.now.source.from c.args.writing.now.source.cursor.now.left in
    subst (λ z. OnOk c.write_call.result (StepsOn c.args.writing.now.accepted.now c.args.writing.now.level_frame bits c.args.writing.now.source.asked.now z c.args.digits.now c.args.level.now c.write_call.new.digits c.write_call.new.level)) (sym c.in-Call.is) c.write_call.ensures.on

pub write_step-returns-in-Call-clause-fault : goal.write_step-returns-in-Call-clause-fault
write_step-returns-in-Call-clause-fault t c =
    let bits = drop c.args.writing.now.source.from c.args.writing.now.source.cursor.now.left in
    subst (λ z. IfErr c.write_call.result (λ e. BlamesGoing e c.args.writing.now.accepted.now c.args.writing.now.level_frame bits c.args.writing.now.source.asked.now z c.args.digits.now c.args.level.now)) (sym c.in-Call.is) c.write_call.ensures.fault

pub write_step-returns-in-Choose-clause-on : goal.write_step-returns-in-Choose-clause-on
write_step-returns-in-Choose-clause-on t c =
    let bits = drop c.args.writing.now.source.from c.args.writing.now.source.cursor.now.left in
    subst (λ z. OnOk c.choose_step.result (StepsOn c.args.writing.now.accepted.now c.args.writing.now.level_frame bits c.args.writing.now.source.asked.now z c.args.digits.now c.args.level.now c.choose_step.new.digits c.choose_step.new.level)) (sym c.in-Choose.is)
    c.choose_step.ensures.on

pub write_step-returns-in-Choose-clause-fault : goal.write_step-returns-in-Choose-clause-fault
write_step-returns-in-Choose-clause-fault t c =
    let bits = drop c.args.writing.now.source.from c.args.writing.now.source.cursor.now.left in
    subst (λ z. IfErr c.choose_step.result (λ e. BlamesGoing e c.args.writing.now.accepted.now c.args.writing.now.level_frame bits c.args.writing.now.source.asked.now z c.args.digits.now c.args.level.now)) (sym c.in-Choose.is) c.choose_step.ensures.fault

pub write_call-called-requires-clause-ready : goal.write_call-called-requires-clause-ready
write_call-called-requires-clause-ready t c =
    let w = c.requires.goes in
    called.may_call c.args.writing.now.accepted.now c.args.writing.now.level_frame (drop c.args.writing.now.source.from c.args.writing.now.source.cursor.now.left) c.args.writing.now.source.asked.now w.serves c.args.field w.later w.number c.args.digits.now c.args.level.now w.going

pub write_call-returns-in-Err-clause-fault : goal.write_call-returns-in-Err-clause-fault
write_call-returns-in-Err-clause-fault t c =
    let bits = drop c.args.writing.now.source.from c.args.writing.now.source.cursor.now.left in
    plain_fails c.args.writing.now.accepted.now c.args.writing.now.level_frame bits c.args.writing.now.source.asked.now c.requires.goes.serves c.in-Err.fault (steps.Call c.args.field) c.args.digits.now c.args.level.now
    (blames_common c.in-Err.fault c.args.writing.now.level_frame bits c.args.writing.now.source.asked.now c.args.level.now c.in-Err.ensures.fault) c.alike.result c.alike.ensures.count c.alike.ensures.share c.fault_of.result c.fault_of.ensures

pub write_call-radix_of-requires : goal.write_call-radix_of-requires
write_call-radix_of-requires t c =
    let w = c.requires.goes in
    record {
      within = called.has_count c.args.writing.now.accepted.now c.args.writing.now.level_frame (drop c.args.writing.now.source.from c.args.writing.now.source.cursor.now.left) c.args.writing.now.source.asked.now w.serves c.args.field c.in-Ok.call c.args.level.now c.in-Ok.ensures.found w.later w.number
          c.args.digits.now w.going;
    }

pub write_call-write_inner-requires : goal.write_call-write_inner-requires
write_call-write_inner-requires t c =
    let w = c.requires.goes in (
      omega arith,
      (
        c.requires.within,
        (
          w.serves,
          (
            c.requires.deep,
            (
              w.going.at,
              (
                c.in-Ok.ensures.found,
                (
                  called.knows_before c.args.writing.now.accepted.now c.args.writing.now.level_frame (drop c.args.writing.now.source.from c.args.writing.now.source.cursor.now.left) c.args.writing.now.source.asked.now w.serves c.args.field c.in-Ok.call c.args.level.now c.in-Ok.ensures.found w.later w.number
                      c.args.digits.now w.going,
                  λ n counted. called.digit_below c.args.writing.now.accepted.now.counts c.in-Ok.call.method c.radix_of.result c.radix_of.ensures c.next-number.result c.next-number.ensures.split.digit_below n counted,
                ),
              ),
            ),
          ),
        ),
      ),
    )

pub write_call-passed_on-requires-clause-fits : goal.write_call-passed_on-requires-clause-fits
write_call-passed_on-requires-clause-fits t c =
    let w = c.requires.goes in
    called.can_pass c.args.writing.now.accepted.now c.args.writing.now.level_frame (drop c.args.writing.now.source.from c.args.writing.now.source.cursor.now.left) c.args.writing.now.source.asked.now w.serves c.args.field c.in-Ok.call c.args.level.now c.in-Ok.ensures.found c.radix_of.result c.radix_of.ensures
    c.args.digits.now c.next-number.new.self c.next-number.result c.next-number.ensures.split c.next-number.ensures.read c.next-number.ensures.fits c.in-Err-write_inner.fault c.in-Err-write_inner.ensures.fault

pub write_call-returns-in-Err-write_inner-clause-fault : goal.write_call-returns-in-Err-write_inner-clause-fault
write_call-returns-in-Err-write_inner-clause-fault t c =
    let w = c.requires.goes in
    called.inside_fails c.args.writing.now.accepted.now c.args.writing.now.level_frame (drop c.args.writing.now.source.from c.args.writing.now.source.cursor.now.left) c.args.writing.now.source.asked.now w.serves c.args.field c.in-Ok.call c.args.level.now c.in-Ok.ensures.found c.radix_of.result c.radix_of.ensures
    c.args.digits.now c.next-number.new.self c.next-number.result c.next-number.ensures.split c.next-number.ensures.read c.in-Err-write_inner.fault c.passed_on.result c.in-Err-write_inner.ensures.fault c.passed_on.ensures

pub write_call-fill-requires-clause-within : goal.write_call-fill-requires-clause-within
write_call-fill-requires-clause-within t c =
    let w = c.requires.goes in
    called.has_slot c.args.writing.now.accepted.now c.args.writing.now.level_frame (drop c.args.writing.now.source.from c.args.writing.now.source.cursor.now.left) c.args.writing.now.source.asked.now w.serves c.args.field c.in-Ok.call c.args.level.now c.in-Ok.ensures.found w.later w.number c.args.digits.now
    w.going

pub write_call-fill-requires-clause-empty : goal.write_call-fill-requires-clause-empty
write_call-fill-requires-clause-empty t c =
    let w = c.requires.goes in
    called.is_empty c.args.writing.now.accepted.now c.args.writing.now.level_frame (drop c.args.writing.now.source.from c.args.writing.now.source.cursor.now.left) c.args.writing.now.source.asked.now w.serves c.args.field c.in-Ok.call c.args.level.now c.in-Ok.ensures.found w.later w.number c.args.digits.now
    w.going

pub write_call-returns-in-Err-fill-clause-fault : goal.write_call-returns-in-Err-fill-clause-fault
write_call-returns-in-Err-fill-clause-fault t c =
    let w = c.requires.goes in
    called.filling_fails c.args.writing.now.accepted.now c.args.writing.now.level_frame (drop c.args.writing.now.source.from c.args.writing.now.source.cursor.now.left) c.args.writing.now.source.asked.now w.serves c.args.field c.in-Ok.call c.args.level.now c.in-Ok.ensures.found c.radix_of.result c.radix_of.ensures
    c.args.digits.now c.next-number.new.self c.next-number.result c.next-number.ensures.split c.next-number.ensures.read c.in-Ok-write_inner.inner c.in-Ok-write_inner.ensures.found c.in-Err-fill.fault
    c.in-Err-fill.ensures.fault c.alike-in-Err-fill.result c.alike-in-Err-fill.ensures.count c.alike-in-Err-fill.ensures.share c.fault_of-in-Err-fill.result c.fault_of-in-Err-fill.ensures

pub write_call-returns-clause-on : goal.write_call-returns-clause-on
write_call-returns-clause-on t c =
    let w = c.requires.goes in
    called.call_goes c.args.writing.now.accepted.now c.args.writing.now.level_frame (drop c.args.writing.now.source.from c.args.writing.now.source.cursor.now.left) c.args.writing.now.source.asked.now w.serves c.args.field c.in-Ok.call c.args.level.now c.in-Ok.ensures.found c.radix_of.result c.radix_of.ensures
    c.args.digits.now c.next-number.new.self c.next-number.result c.next-number.ensures.split c.next-number.ensures.read c.in-Ok-write_inner.inner c.in-Ok-write_inner.ensures.found c.fill.new.level
    c.in_default.ensures.fills c.keeps.ensures

pub write_inner-overflow_sub-depth : goal.write_inner-overflow_sub-depth
write_inner-overflow_sub-depth t c = inner.one_deep c.args.writing.now.level_frame c.args.depth c.requires.deep

pub write_inner-overflow_sub-depth-else-is_header_at : goal.write_inner-overflow_sub-depth-else-is_header_at
write_inner-overflow_sub-depth-else-is_header_at t c = inner.one_deep c.args.writing.now.level_frame c.args.depth c.requires.deep

pub write_inner-write_method-requires : goal.write_inner-write_method-requires
write_inner-write_method-requires t c =
    let deep = inner.one_deep c.args.writing.now.level_frame c.args.depth c.requires.deep in
    let place : AcceptedFrame = record { accepted = c.args.writing.now.accepted; frame = record { profile = c.args.writing.now.level_frame.frame.profile; context = c.args.writing.now.level_frame.frame.context; method = c.args.call.now.method; arguments = c.as_slice.result; path = c.as_str.result } } in
    let r = c.requires in (
      omega (arith, deep),
      (
        inner.stands c.args.writing.now.accepted.now c.args.writing.now.level_frame c.args.level.now r.serves r.at c.args.field c.args.call.now r.called place refl refl refl c.as_slice.ensures c.as_str.ensures.value refl,
        (
          inner.deep_inside c.args.writing.now.accepted.now c.args.writing.now.level_frame c.args.level.now r.serves r.at c.args.field c.args.call.now r.called place refl refl refl c.as_slice.ensures c.as_str.ensures.value
              c.args.depth r.deep,
          (
            c.header_from-from.ensures.within,
            inner.below_inside c.args.writing.now.accepted.now c.args.writing.now.level_frame c.args.level.now r.serves r.at c.args.field c.args.call.now r.called place refl refl refl c.as_slice.ensures c.as_str.ensures.value
                c.args.number r.below,
          ),
        ),
      ),
    )

pub write_inner-returns-then-is_header_at-clause-fault : goal.write_inner-returns-then-is_header_at-clause-fault
write_inner-returns-then-is_header_at-clause-fault t c =
    let place : AcceptedFrame = record { accepted = c.args.writing.now.accepted; frame = record { profile = c.args.writing.now.level_frame.frame.profile; context = c.args.writing.now.level_frame.frame.context; method = c.args.call.now.method; arguments = c.as_slice.result; path = c.as_str.result } } in
    let r = c.requires in
    let l = c.args.level.now in
    let bits = drop c.args.writing.now.source.from c.args.writing.now.source.cursor.now.left in
    let own = drop c.header_from-from.result c.args.writing.now.source.cursor.now.left in
    let told = inner.header_told c.format.result.now l.format c.format.ensures c.args.field r.called.field r.called.field_is c.is_header_at.result c.is_header_at.ensures in
    let takes = ap (λ b. source_for b (drop (header_offset l.format l.slots c.args.field) bits) (known_bits (learnt_at l.slots c.args.field Uncompressed))) (sym told ∙ c.if-is_header_at.true) ∙ sym c.header_from-from.ensures.skips in
    if_err (λ e. Blames e place own c.as_slice-then-is_header_at.result.now c.args.number) (λ e. BlamesInside e c.args.writing.now.accepted.now c.args.writing.now.level_frame l bits c.args.field c.args.call.now c.args.number) c.write_method.result
    (λ e h. inner.blamed c.args.writing.now.accepted.now c.args.writing.now.level_frame l r.serves r.at c.args.field c.args.call.now r.called place refl refl refl c.as_slice.ensures c.as_str.ensures.value e bits own takes
    c.args.number (subst (λ z. Blames e place own z c.args.number) (c.as_slice-then-is_header_at.ensures ∙ c.new-none.ensures) h))
    c.write_method.ensures.fault

pub write_inner-write_method-requires-else-is_header_at : goal.write_inner-write_method-requires-else-is_header_at
write_inner-write_method-requires-else-is_header_at t c =
    let deep = inner.one_deep c.args.writing.now.level_frame c.args.depth c.requires.deep in
    let place : AcceptedFrame = record { accepted = c.args.writing.now.accepted; frame = record { profile = c.args.writing.now.level_frame.frame.profile; context = c.args.writing.now.level_frame.frame.context; method = c.args.call.now.method; arguments = c.as_slice.result; path = c.as_str.result } } in
    let r = c.requires in (
      omega (arith, deep),
      (
        inner.stands c.args.writing.now.accepted.now c.args.writing.now.level_frame c.args.level.now r.serves r.at c.args.field c.args.call.now r.called place refl refl refl c.as_slice.ensures c.as_str.ensures.value refl,
        (
          inner.deep_inside c.args.writing.now.accepted.now c.args.writing.now.level_frame c.args.level.now r.serves r.at c.args.field c.args.call.now r.called place refl refl refl c.as_slice.ensures c.as_str.ensures.value
              c.args.depth r.deep,
          (
            omega arith,
            inner.below_inside c.args.writing.now.accepted.now c.args.writing.now.level_frame c.args.level.now r.serves r.at c.args.field c.args.call.now r.called place refl refl refl c.as_slice.ensures c.as_str.ensures.value
                c.args.number r.below,
          ),
        ),
      ),
    )

pub write_inner-returns-clause-fault : goal.write_inner-returns-clause-fault
write_inner-returns-clause-fault t c =
    let place : AcceptedFrame = record { accepted = c.args.writing.now.accepted; frame = record { profile = c.args.writing.now.level_frame.frame.profile; context = c.args.writing.now.level_frame.frame.context; method = c.args.call.now.method; arguments = c.as_slice.result; path = c.as_str.result } } in
    let r = c.requires in
    let l = c.args.level.now in
    let bits = drop c.args.writing.now.source.from c.args.writing.now.source.cursor.now.left in
    let own = drop 0 c.new-cursor.result.left in
    let told = inner.header_told c.format.result.now l.format c.format.ensures c.args.field r.called.field r.called.field_is c.is_header_at.result c.is_header_at.ensures in
    let takes = ap (λ b. source_for b (drop (header_offset l.format l.slots c.args.field) bits) (known_bits (learnt_at l.slots c.args.field Uncompressed))) (sym told ∙ c.if-is_header_at.false)
    ∙ (sym c.in-Ok.ensures ∙ sym (ap (λ z. z.left) c.new-cursor.ensures)) in
    if_err (λ e. Blames e place own c.as_slice-else-is_header_at.result.now c.args.number) (λ e. BlamesInside e c.args.writing.now.accepted.now c.args.writing.now.level_frame l bits c.args.field c.args.call.now c.args.number)
    c.write_method-else-is_header_at.result
    (λ e h. inner.blamed c.args.writing.now.accepted.now c.args.writing.now.level_frame l r.serves r.at c.args.field c.args.call.now r.called place refl refl refl c.as_slice.ensures c.as_str.ensures.value e bits own takes
    c.args.number (subst (λ z. Blames e place own z c.args.number) (c.as_slice-else-is_header_at.ensures ∙ c.new-none.ensures) h))
    c.write_method-else-is_header_at.ensures.fault

pub write_method-returns-in-Some-2-clause-fault : goal.write_method-returns-in-Some-2-clause-fault
write_method-returns-in-Some-2-clause-fault t c = rw c.in-Some-2.is at c.in_ok-skipped.ensures

pub write_format-returns-in_default-clause-fault : goal.write_format-returns-in_default-clause-fault
write_format-returns-in_default-clause-fault t c =
    let start = c.args.start in
    whole.never_fits c.args.place.now c.requires.stands c.args.number start c.requires.begins (none_made (NeverFits c.args.place.now start.format) c.in_ok-level.field-0 c.in_default.not-Some c.in_ok-level.ensures.none)
    (drop c.args.source.now.from c.args.source.now.cursor.now.left) c.args.source.now.asked.now c.alike.result c.alike.ensures.count c.alike.ensures.share

pub write_format-follow-requires : goal.write_format-follow-requires
write_format-follow-requires t c =
    let place = c.args.place.now in
    let start = c.args.start in
    let bits = drop c.args.source.now.from c.args.source.now.cursor.now.left in
    let b = c.requires.begins in
    let is = c.level_frame.ensures in
    let at = some_made (IsAtStart place start.format) c.in_ok-level.field-0 c.in-Some.level c.in-Some.is c.in_ok-level.ensures.found in
    let going = whole.going place c.requires.stands c.args.number start b c.level_frame.result is c.in-Some.level at c.in-Some-plans_of.plans.now (sym c.in-Some-plans_of.ensures) bits c.args.source.now.asked.now in (
      omega arith,
      (
        c.requires.within,
        (
          whole.serves place c.requires.stands c.args.number start b c.level_frame.result is,
          (
            whole.deep place c.requires.stands c.args.number start b c.level_frame.result is c.args.depth c.requires.deep,
            subst (λ z. IsGoing place.accepted.now c.level_frame.result bits c.args.source.now.asked.now z c.args.number start.digits c.in-Some.level) (sym c.as_slice.ensures) going,
          ),
        ),
      ),
    )
