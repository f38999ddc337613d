use Rattle.std.proofs.Common.{refl, drop}
use Rattle.cert_accepted.specs.declared.frame.AcceptedFrame.{AcceptedFrame}
use Rattle.walk_write.proofs.ForesightLemmas.{all_refuted}
use Rattle.walk_write.proofs.foresight.alike_inside.Goals as goal

pub returns-then-is_told : goal.returns-then-is_told
returns-then-is_told c =
    let inner : AcceptedFrame = record {
      accepted = c.args.outlook.now.place.now.accepted;
      frame = record {
        profile = c.args.outlook.now.place.now.frame.profile;
        context = c.args.outlook.now.place.now.frame.context;
        method = c.args.called.now.method;
        arguments = c.args.called.now.arguments;
        path = c.args.outlook.now.place.now.frame.path;
      };
    } in
    all_refuted c.args.outlook.now.place.now c.args.number c.in-Some.start inner refl c.in-Some.ensures.found c.alike.result c.alike.ensures.count c.alike.ensures.share
    c.args.outlook.now.index c.args.outlook.now.format.now c.args.called.now.index c.args.called.now.field.now c.args.called.now.arguments.now (drop c.args.outlook.now.source.now.from c.args.outlook.now.source.now.cursor.now.left) (c.in_ok-is_told.ensures c.if-is_told.true)
