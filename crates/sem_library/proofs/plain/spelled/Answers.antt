use Rattle.sem_library.specs.Methods.{Spells}
use Rattle.sem_library.proofs.MethodsSpelling.{from_passed, not_passed, number_fits, spelled_only_ok}
use Rattle.sem_library.proofs.plain.spelled.Goals as goal

pub returns-in_default-try_from : goal.returns-in_default-try_from
returns-in_default-try_from c = λ x s. not_passed c.args.value c.ranges.value c.in_default-try_from.ensures (number_fits c.args.length c.args.value x s)

pub returns : goal.returns
returns c =
    let len = from_passed c.args.length c.in-Ok.count c.ranges.length c.in-Ok.ensures in
    let val = from_passed c.args.value c.in-Ok-try_from.number c.ranges.value c.in-Ok-try_from.ensures in
    spelled_only_ok (Spells c.args.length c.args.value) c.in-Ok.count c.in-Ok-try_from.number c.from_value.result
    (λ x s. rw (len, val) s) (λ x s. rw (← len, ← val) s) c.from_value.ensures
