use Rattle.std.proofs.Common.{subst}
use Rattle.walk_engine.specs.Reading.{Fitting}
use Rattle.walk_engine.proofs.Reading.{ahead_of}
use Rattle.walk_engine.proofs.reader.read_judged.Goals as goal

pub returns-in-Some-clause-found : goal.returns-in-Some-clause-found
returns-in-Some-clause-found c =
    let a = c.args.accepted.now in
    let ctx = c.args.context.now in
    let bits = c.args.cursor.now.left in
    record {
      fits = rw c.in-Some.is at c.in_ok-whole-in-Ok.ensures.fits;
      alone = λ more g h. c.in-Ok.ensures.found g (ahead_of a ctx _ c.top_place-place.ensures.top bits more g h);
    }

pub returns-in-None-clause-fault : goal.returns-in-None-clause-fault
returns-in-None-clause-fault c more f h =
    let same = c.in-Ok.ensures.found f (ahead_of _ _ _ c.top_place-place.ensures.top _ more f h) in
    (rw c.in-None.is at c.in_ok-whole-in-Ok.ensures.none) (subst (Fitting c.args.accepted.now c.args.context.now) same h.fits)

pub refused-requires : goal.refused-requires
refused-requires c more f h =
    let none = rw c.in-Err-Refused.field-0-is at c.in-Err-Refused.ensures.fault in
    none f (ahead_of _ _ _ c.top_place-place.ensures.top _ more f h)
