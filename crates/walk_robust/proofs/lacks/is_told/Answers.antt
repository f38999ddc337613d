use Rattle.std.proofs.Common.{◌≡◌, refl, arith}
use Rattle.std.proofs.lemmas.Option.{slice_get_read, slice_get_within}
use Rattle.sem_filling.proofs.Each.{before_next}
use Rattle.walk_robust.proofs.lacks.is_told.Goals as goal

pub returns-then-lack-format : goal.returns-then-lack-format
returns-then-lack-format c =
    let at = slice_get_read c.args.found.now _ c.loop-lack.lack-index c.lack-item.result refl c.loop-lack-test.true c.lack-item.is in
    ((λ t. (c.loop-lack.lack-index, c.lack-item.result, at, c.if-lack-format.true)), (λ told. refl))

pub loop-lack-preserved : goal.loop-lack-preserved
loop-lack-preserved c =
    before_next (λ j x. x.format ≡ c.args.format → ⊥) c.args.found.now c.loop-lack.lack-index c.lack-item.result
    (slice_get_read c.args.found.now _ c.loop-lack.lack-index c.lack-item.result refl c.loop-lack-test.true c.lack-item.is) c.if-lack-format.false c.loop-lack.invariant

pub returns : goal.returns
returns c = (
  (λ t. absurd (cc t)),
  (λ told.
      let within = slice_get_within c.args.found.now told.0 told.1 told.2 in
      let past = c.loop-lack-test.false in
      absurd (c.loop-lack.invariant told.0 told.1 (omega (arith, within, past)) told.2 told.3)),
)
