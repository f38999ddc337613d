use Rattle.std.proofs.Common.{arith}
use Rattle.cert_types.specs.declared.certificate.Step.TheVariants.{Call}
use Rattle.std.proofs.Common.{◌∷◌}
use Rattle.walk_write.proofs.ForesightLemmas.{seen_on}
use Rattle.walk_write.proofs.foresight.goes_past.Goals as goal

pub read_call-requires : goal.read_call-requires
read_call-requires c =
    let s = c.requires.stands in
    let few = c.if-many-alike.false in
    let alike = c.alike.ensures.count in
    let rest = c.skip.ensures.rest in
    let span = c.skip.ensures.span in
    record {
      stands = record {
        later = s.later;
        seen = seen_on c.args.outlook.now.place.now c.args.outlook.now.index c.args.outlook.now.format.now c.args.outlook.now.source.now.asked.now (Call c.args.field ∷ s.later) c.args.number.now c.args.digits.now c.skip.new.self c.args.choices.now s.seen c.args.many rest span
            (omega (arith, few, alike, rest, span));
      };
    }

pub returns-clause-on : goal.returns-clause-on
returns-clause-on c = λ e later seen.
    let few = c.if-many-alike.false in
    let alike = c.alike.ensures.count in
    let rest = c.skip.ensures.rest in
    let span = c.skip.ensures.span in
    c.read_call.ensures later
    (seen_on c.args.outlook.now.place.now c.args.outlook.now.index c.args.outlook.now.format.now c.args.outlook.now.source.now.asked.now (Call c.args.field ∷ later) c.args.number.now c.args.digits.now c.skip.new.self c.args.choices.now seen c.args.many rest span
    (omega (arith, few, alike, rest, span)))
