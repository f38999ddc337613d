use Rattle.std.proofs.Common.{refl, sym, ◌∙◌, ap, subst, drop, get_or, [], arith, ◌+◌, ◌-◌}
use Rattle.std.specs.Prelude.{IfErr, IfSome}
use Rattle.sem_profile.specs.Fields.{lists}
use Rattle.cert_types.specs.declared.certificate.Step.TheVariants.{Take}
use Rattle.sem_filling.proofs.Coded.{ok_weaker}
use Rattle.sem_filling.specs.Ready.{ArgumentsLieAt}
use Rattle.sem_profile.specs.Resolved.{IsSound}
use Rattle.cert_rules.specs.Reading.{IsMade, bits_from, offset_of}
use Rattle.walk_steps.proofs.FindingRuled.{within_slots}
use Rattle.cert_accepted.specs.declared.frame.AcceptedFrame.{AcceptedFrame}
use Rattle.cert_accepted.specs.Standing.{IsLevelFrameOf, IsAtStart}
use Rattle.walk_read.specs.Walk as spec
use Rattle.walk_read.specs.Walking as walking
use Rattle.walk_read.specs.Walking.{bits_of}
use Rattle.walk_read.proofs.WalkOffsets.{joined_offset}
use Rattle.walk_read.proofs.WalkSharing.{on_err}
use Rattle.walk_read.proofs.WalkingInside as inside
use Rattle.walk_read.proofs.WalkingUnder as under
use Rattle.walk_read.proofs.walk.+reading.Goals as goal

pub read_call-called-requires-clause-lie : goal.read_call-called-requires-clause-lie
read_call-called-requires-clause-lie t c = inside.lie_here c.args.reading.now.place c.args.reading.now.level_frame c.requires.level_frame c.args.level.now.args c.requires.args c.requires.stands

pub read_call-called-requires-clause-ready : goal.read_call-called-requires-clause-ready
read_call-called-requires-clause-ready t c = inside.may_call c.args.level.now c.args.field c.requires.ready

pub read_call-returns-in-Err-clause-fault : goal.read_call-returns-in-Err-clause-fault
read_call-returns-in-Err-clause-fault t c =
    let bits = bits_of c.args.reading.now in
    subst (λ e. walking.BlamesShown e c.args.reading.now.level_frame c.args.level.now bits) (sym c.fault_of.ensures) (inside.called_blames c.args.reading.now.level_frame c.args.level.now bits c.in-Err.fault c.in-Err.ensures.fault)

pub read_call-fill-requires-clause-within : goal.read_call-fill-requires-clause-within
read_call-fill-requires-clause-within t c = within_slots c.args.level.now c.keeps.ensures c.args.field c.in-Ok.ensures.found.field c.in-Ok.ensures.found.field_is

pub read_call-returns-in-Ok-fill-clause-learns : goal.read_call-returns-in-Ok-fill-clause-learns
read_call-returns-in-Ok-fill-clause-learns t c =
    inside.call_learns c.args.reading.now.place c.args.reading.now.level_frame c.requires.level_frame c.args.level.now c.args.field (bits_of c.args.reading.now) c.in-Ok.call c.in-Ok.ensures.found c.requires.ready
    c.in-Ok-read_inner.inner c.in-Ok-read_inner.ensures.found c.fill.new.level c.in-Ok-fill.ensures.fills

pub read_call-returns-in-Ok-read_inner-clause-fault : goal.read_call-returns-in-Ok-read_inner-clause-fault
read_call-returns-in-Ok-read_inner-clause-fault t c =
    let bits = bits_of c.args.reading.now in
    subst (λ e. walking.BlamesShown e c.args.reading.now.level_frame c.args.level.now bits) (sym c.fault_of-in-Err-fill.ensures)
    (inside.filling_blames c.args.reading.now.place c.args.reading.now.level_frame c.requires.level_frame c.args.level.now c.args.field bits c.in-Ok.call c.in-Ok.ensures.found c.requires.ready
    c.in-Ok-read_inner.inner c.in-Ok-read_inner.ensures.found c.in-Err-fill.fault c.in-Err-fill.ensures.fault)

pub read_call-returns-clause-fault : goal.read_call-returns-clause-fault
read_call-returns-clause-fault t c =
    inside.inside_blames c.args.reading.now.place c.args.reading.now.level_frame c.requires.level_frame c.args.level.now c.args.field (bits_of c.args.reading.now) c.in-Ok.call c.in-Ok.ensures.found c.requires.ready
    c.in-Err-read_inner.fault c.in-Err-read_inner.ensures.fault

pub read_inner-start_of-start-requires-clause-measured : goal.read_inner-start_of-start-requires-clause-measured
read_inner-start_of-start-requires-clause-measured t c =
    let l = c.args.level.now in
    let call = c.requires.call in
    let listed = ap (λ m. lists m.listing c.args.field) (sym c.format.ensures) ∙ (sym c.is_listed.ensures ∙ c.if-is_listed.true) in
    joined_offset l.format l.slots c.args.field c.keeps-2.ensures.count
    (inside.before_known l c.args.field c.requires.ready c.args.call.now.method call.field call.exprs call.field_is call.encoding_is listed)

pub read_inner-overflow_sub-depth : goal.read_inner-overflow_sub-depth
read_inner-overflow_sub-depth t c = inside.one_deep c.args.reading.now.place c.args.depth c.requires.deep

pub read_inner-read_method-requires : goal.read_inner-read_method-requires
read_inner-read_method-requires t c =
    let place = c.args.reading.now.place in
    let deep = inside.one_deep place c.args.depth c.requires.deep in (
      omega (arith, deep),
      (
        record {
          profile_is = c.requires.stands.profile_is;
          within = inside.callee_there place c.args.reading.now.level_frame c.requires.level_frame c.args.level.now c.args.field c.args.call.now c.requires.call c.requires.at (subst IsSound c.profile.ensures c.keeps.ensures);
          lie = subst (ArgumentsLieAt place.accepted.now.profile c.args.call.now.method) (sym c.as_slice.ensures)
              (inside.callee_lies place c.args.reading.now.level_frame c.requires.level_frame c.args.level.now c.args.field c.args.call.now c.requires.call c.requires.at);
        },
        (inside.callee_deep place c.args.reading.now.level_frame c.requires.level_frame c.args.level.now c.args.field c.args.call.now c.requires.call c.requires.at c.args.depth c.requires.deep, c.start_of-start.ensures.within),
      ),
    )

pub read_inner-returns-then-is_listed-clause-fault : goal.read_inner-returns-then-is_listed-clause-fault
read_inner-returns-then-is_listed-clause-fault t c =
    let l = c.args.level.now in
    let bits = bits_of c.args.reading.now in
    let there = drop c.start_of-start.result c.args.reading.now.cursor.now.left in
    let listed = ap (λ m. lists m.listing c.args.field) (sym c.format.ensures) ∙ (sym c.is_listed.ensures ∙ c.if-is_listed.true) in
    let same_bits = c.start_of-start.ensures.start ∙ ap (λ b. bits_from b (offset_of l.format l.slots c.args.field) bits) (sym listed) in
    on_err _ (λ e. walking.BlamesInside e c.args.reading.now.place l c.args.field c.args.call.now bits) c.read_method.result
    (inside.listed_blames c.args.reading.now.place _ l c.args.field c.args.call.now bits there
    (λ q. record { method = c.args.call.now.method; args = c.as_slice.ensures q; path = c.as_str.ensures.value q; bits = same_bits q }) refl refl listed)
    c.read_method.ensures.fault

pub read_inner-returns-then-is_listed-clause-few : goal.read_inner-returns-then-is_listed-clause-few
read_inner-returns-then-is_listed-clause-few t c =
    let l = c.args.level.now in
    let bits = bits_of c.args.reading.now in
    let there = drop c.start_of-start.result c.args.reading.now.cursor.now.left in
    let listed = ap (λ m. lists m.listing c.args.field) (sym c.format.ensures) ∙ (sym c.is_listed.ensures ∙ c.if-is_listed.true) in
    let deep = inside.one_deep c.args.reading.now.place c.args.depth c.requires.deep in
    on_err (λ e. spec.AreFew e (c.args.depth - 1) there) (λ e. spec.AreFew e c.args.depth bits) c.read_method.result
    (λ e h. inside.few_inside e c.args.depth (offset_of l.format l.slots c.args.field) bits there deep (inside.offset_small l c.keeps-2.ensures c.args.field listed) c.start_of-start.ensures.start h)
    c.read_method.ensures.few

pub read_inner-overflow_sub-depth-2 : goal.read_inner-overflow_sub-depth-2
read_inner-overflow_sub-depth-2 t c = inside.one_deep c.args.reading.now.place c.args.depth c.requires.deep

pub read_inner-read_method-requires-2 : goal.read_inner-read_method-requires-2
read_inner-read_method-requires-2 t c =
    let place = c.args.reading.now.place in
    let deep = inside.one_deep place c.args.depth c.requires.deep in (
      omega (arith, deep),
      (
        record {
          profile_is = c.requires.stands.profile_is;
          within = inside.callee_there place c.args.reading.now.level_frame c.requires.level_frame c.args.level.now c.args.field c.args.call.now c.requires.call c.requires.at (subst IsSound c.profile.ensures c.keeps.ensures);
          lie = subst (ArgumentsLieAt place.accepted.now.profile c.args.call.now.method) (sym c.as_slice.ensures)
              (inside.callee_lies place c.args.reading.now.level_frame c.requires.level_frame c.args.level.now c.args.field c.args.call.now c.requires.call c.requires.at);
        },
        (inside.callee_deep place c.args.reading.now.level_frame c.requires.level_frame c.args.level.now c.args.field c.args.call.now c.requires.call c.requires.at c.args.depth c.requires.deep, omega arith),
      ),
    )

pub read_inner-returns-clause-fault : goal.read_inner-returns-clause-fault
read_inner-returns-clause-fault t c =
    let l = c.args.level.now in
    let bits = bits_of c.args.reading.now in
    let there = drop 0 c.new.result.left in
    let inner : AcceptedFrame = record { accepted = c.args.reading.now.place.accepted; frame = record { profile = c.args.reading.now.place.frame.profile; context = c.args.reading.now.place.frame.context; method = c.args.call.now.method; arguments = c.as_slice.result; path = c.as_str.result } } in
    let unlisted = ap (λ m. lists m.listing c.args.field) (sym c.format.ensures) ∙ (sym c.is_listed.ensures ∙ c.if-is_listed.false) in
    let same_bits = ap (λ z. drop 0 z.left) c.new.ensures ∙ (c.new-nothing.ensures ∙ ap (λ b. bits_from b (offset_of l.format l.slots c.args.field) bits) (sym unlisted)) in
    subst (λ r. IfErr r (λ e. walking.BlamesInside e c.args.reading.now.place l c.args.field c.args.call.now bits)) (sym c.ended.ensures)
    (inside.ended_fails c.read_method-2.result (λ e. spec.Blames e inner there) (λ e. walking.BlamesInside e c.args.reading.now.place l c.args.field c.args.call.now bits)
    (inside.unlisted_blames c.args.reading.now.place inner l c.args.field c.args.call.now bits there
    (λ q. record { method = c.args.call.now.method; args = c.as_slice.ensures q; path = c.as_str.ensures.value q; bits = same_bits q }) refl refl unlisted)
    c.read_method-2.ensures.fault)

pub read_method-read_plan-requires : goal.read_method-read_plan-requires
read_method-read_plan-requires t c =
    let place = c.args.place.now in
    let bits = drop c.args.from c.args.cursor.now.left in
    let is = sym c.level_frame.ensures.format_is in
    let start = subst (λ o. IfSome o (IsAtStart place c.in-Ok.format)) c.in-Some.is c.in-Ok-level.ensures.found in (
      omega arith,
      (
        subst (λ n. IsLevelFrameOf place n c.level_frame.result) is c.level_frame.ensures,
        (
          c.requires.stands,
          (
            c.requires.deep,
            (
              c.requires.within,
              subst (λ n. walking.IsUnderWay place n bits c.in-Some-plan_of.plan.now c.in-Some.level) is
                  (under.started place c.in-Ok.format bits c.in-Some-plan_of.plan.now c.in-Some.level start c.in-Some-plan_of.ensures.found),
            ),
          ),
        ),
      ),
    )

pub read_method-returns-in-Ok-read_plan-clause-found : goal.read_method-returns-in-Ok-read_plan-clause-found
read_method-returns-in-Ok-read_plan-clause-found t c =
    let place = c.args.place.now in
    let bits = drop c.args.from c.args.cursor.now.left in
    let l = c.read_plan.new.level in
    let n = c.in-Ok.format in
    let way = subst (λ k. walking.IsUnderWay place k bits [] l) c.level_frame.ensures.format_is c.in-Ok-read_plan.ensures.done in
    ok_weaker (IsMade n l.format l.slots) (spec.IsOnlyAhead place bits) c.finished.result (under.only place n bits l way c.keeps.ensures.count c.in-Ok.ensures.found) c.finished.ensures.made

pub read_method-returns-in-Ok-read_plan-clause-fault : goal.read_method-returns-in-Ok-read_plan-clause-fault
read_method-returns-in-Ok-read_plan-clause-fault t c =
    let place = c.args.place.now in
    let bits = drop c.args.from c.args.cursor.now.left in
    let l = c.read_plan.new.level in
    let n = c.in-Ok.format in
    let way = subst (λ k. walking.IsUnderWay place k bits [] l) c.level_frame.ensures.format_is c.in-Ok-read_plan.ensures.done in
    on_err (λ e. walking.BlamesEnd e place n l) (λ e. spec.Blames e place bits) c.finished.result (under.ended_by place n bits l way c.keeps.ensures.count c.in-Ok.ensures.found) c.finished.ensures.fault

pub read_plan-read_step-requires : goal.read_plan-read_step-requires
read_plan-read_step-requires t c =
    let place = c.args.reading.now.place in
    let level_frame = c.args.reading.now.level_frame in
    let bits = bits_of c.args.reading.now in
    let plan = c.args.plan.now in
    let i = c.loop-step.step-index in
    let l = c.loop-step.level in
    let way = c.loop-step.invariant.1 in
    let count = c.keeps.ensures.count in
    let next = under.drop_next plan i (Take 0) c.loop-step-test.true in (
      omega arith,
      (
        c.requires.level_frame,
        (
          c.requires.stands,
          (
            c.requires.deep,
            (
              c.requires.within,
              (
                under.at place level_frame c.requires.level_frame bits (drop i plan) l way count,
                (
                  way.args_are,
                  (
                    under.ready place level_frame c.requires.level_frame bits (drop i plan) l way count (get_or plan i (Take 0)) (drop (i + 1) plan) next,
                    under.fresh place level_frame c.requires.level_frame bits (drop i plan) l way count (get_or plan i (Take 0)) (drop (i + 1) plan) next,
                  ),
                ),
              ),
            ),
          ),
        ),
      ),
    )

pub read_plan-returns-in-Err-clause-fault : goal.read_plan-returns-in-Err-clause-fault
read_plan-returns-in-Err-clause-fault t c =
    let bits = bits_of c.args.reading.now in
    under.blames c.args.reading.now.place c.args.reading.now.level_frame c.requires.level_frame bits (drop c.loop-step.step-index c.args.plan.now) c.loop-step.level c.loop-step.invariant.1 c.keeps.ensures.count
    c.in-Err.fault c.in-Err.ensures.fault

pub read_plan-loop-step-preserved : goal.read_plan-loop-step-preserved
read_plan-loop-step-preserved t c =
    let bits = bits_of c.args.reading.now in
    let plan = c.args.plan.now in
    let i = c.loop-step.step-index in
    let next = under.drop_next plan i (Take 0) c.loop-step-test.true in (
      refl,
      under.gone_on c.args.reading.now.place c.args.reading.now.level_frame c.requires.level_frame bits (drop i plan) c.loop-step.level c.loop-step.invariant.1 c.keeps.ensures.count
          (get_or plan i (Take 0)) (drop (i + 1) plan) next c.read_step.new.level c.in_default.ensures.learns,
    )

pub read_step-returns-in-Err : goal.read_step-returns-in-Err
read_step-returns-in-Err t c =
    let bits = bits_of c.args.reading.now in
    let level_frame = c.args.reading.now.level_frame in
    let l = c.args.level.now in
    let deep = inside.one_deep c.args.reading.now.place c.args.depth c.requires.deep in
    record {
      learns = tt;
      fault = subst (λ e. walking.BlamesShown e level_frame l bits) (sym c.fault_of.ensures) (inside.step_blames level_frame l bits c.in-Err.fault c.in-Err.ensures.fault);
      few = subst (λ e. spec.AreFew e c.args.depth bits) (sym c.fault_of.ensures) (inside.step_few level_frame c.args.depth bits c.in-Err.fault deep c.in-Err.ensures.few);
    }
