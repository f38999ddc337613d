use Rattle.std.proofs.Common.{◌+◌, [], refl, sym, ◌∙◌, ap, subst, drop, arith}
use Rattle.std.proofs.lemmas.List.{drop-drop}
use Rattle.std.specs.Prelude.{slice_get}
use Rattle.sem_profile.specs.declared.profile.Method.{Method}
use Rattle.sem_profile.specs.Limits.{at_top}
use Rattle.sem_filling.specs.Entries.{below}
use Rattle.sem_filling.proofs.FitsSized.{and_then_some}
use Rattle.cert_accepted.specs.declared.frame.AcceptedFrame.{AcceptedFrame}
use Rattle.cert_accepted.proofs.StandingDepth.{calls_are_shallower}
use Rattle.walk_write.specs.Closer.{FailsInside}
use Rattle.walk_write.specs.Walking.{Fails}
use Rattle.walk_write.proofs.Called.{is_method}
use Rattle.walk_write.proofs.CloserLemmas.{some_weaker}
use Rattle.walk_write.proofs.closer.walked_inside.Goals as goal

pub walked_at-requires-clause-stands : goal.walked_at-requires-clause-stands
walked_at-requires-clause-stands c =
    let place = c.args.outlook.now.place.now in
    let x = c.args.called.now in
    let is = c.requires.calls in
    record {
      profile_is = c.requires.stands.profile_is;
      within = is_method place.accepted.now.profile is.sound place.frame.method c.args.outlook.now.index x.index x.method c.args.outlook.now.format.now x.field.now is.exprs is.format_is is.field_is is.encoding_is;
      lie = c.do_lie.ensures c.if-not-do_lie.false;
    }

pub walked_at-requires-clause-some : goal.walked_at-requires-clause-some
walked_at-requires-clause-some c = let one = c.requires.deep c.args.outlook.now.place.now.frame.method 1 at_top in omega (arith, one)

pub walked_at-requires-clause-deep : goal.walked_at-requires-clause-deep
walked_at-requires-clause-deep c = λ j n chain.
    let place = c.args.outlook.now.place.now in
    let methods = place.accepted.now.profile.methods in
    let x = c.args.called.now in
    let is = c.requires.calls in
    let m = and_then_some (λ (y : Method). slice_get y.formats c.args.outlook.now.index) (slice_get methods place.frame.method) c.args.outlook.now.format.now is.format_is in
    let s = (calls_are_shallower methods place.frame.method c.args.depth c.requires.deep m.0 c.args.outlook.now.index x.index x.method c.args.outlook.now.format.now x.field.now is.exprs m.1 m.2 is.field_is is.encoding_is).below j n chain in
    omega (arith, s)

pub returns : goal.returns
returns c =
    let place = c.args.outlook.now.place.now in
    let x = c.args.called.now in
    let there : AcceptedFrame = record {
      accepted = place.accepted;
      frame = record { profile = place.frame.profile; context = place.frame.context; method = x.method; arguments = x.arguments; path = c.as_str-2.result };
    } in
    let listed = c.requires.listed in
    let from = c.args.outlook.now.source.now.from in
    let left = c.args.outlook.now.source.now.cursor.now.left in
    let offset = c.in-Some.offset in
    some_weaker (Fails there (drop (from + offset) left) [] c.args.number) (FailsInside c.args.outlook.now x c.args.number) c.walked_at.result
    (λ many fails. record {
      sizes = listed.sizes;
      sizes_are = listed.sizes_are;
      offset = offset;
      before = listed.right x.index offset c.in-Some.ensures.1;
      there = there;
      placed = record { accepted_is = refl; context_is = refl; method_is = refl; args_are = refl; path_is = c.as_str-2.ensures ∙ (c.in_ok-path.ensures ∙ ap (below place.frame.path.now) c.as_str.ensures) };
      fails = subst (λ z. Fails there z [] c.args.number many) (sym (drop-drop offset from left)) fails;
    })
    c.walked_at.ensures
