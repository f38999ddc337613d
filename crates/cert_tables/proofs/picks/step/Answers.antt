use Rattle.std.proofs.Common.{◌≡◌, drop, subst, rules, to_z, of_z}
use Rattle.std.specs.Int.{w128}
use Rattle.std.specs.Prelude.{slice_get}
use Rattle.cert_rules.specs.Trees.{is_number}
use Rattle.cert_tables.proofs.Sized.{at_front}
use Rattle.cert_tables.proofs.WalkingLed.{by_its_bit, by_its_test}
use Rattle.cert_tables.proofs.picks.step.Goals as goal

pub returns-in-Parameter : goal.returns-in-Parameter
returns-in-Parameter c = λ refs.
    let constant : to_z w128 (of_z w128 c.in-Parameter.constant) ≡ c.in-Parameter.constant = (search rules) in
    let is = subst (λ z. c.is_at-is_other.result ≡ is_number z (slice_get c.args.arguments.now c.in-Parameter.parameter)) constant c.is_at-is_other.ensures in
    by_its_test refs (drop c.args.from c.args.cursor.now.left) c.args.arguments.now c.args.nodes.now c.args.place c.subtree.result c.in-Parameter.parameter c.in-Parameter.constant c.is_at-is_other.result
    (at_front c.args.nodes.now c.args.place _ _ c.requires.within c.in-Parameter.is) is c.subtree.ensures.first c.subtree.ensures.second

pub returns-in-Some : goal.returns-in-Some
returns-in-Some c = λ refs.
    by_its_bit refs (drop c.args.from c.args.cursor.now.left) c.args.arguments.now c.args.nodes.now c.args.place c.subtree-in-Some.result c.in-Bit.offset c.in-Some.bit
    (at_front c.args.nodes.now c.args.place _ _ c.requires.within c.in-Bit.is) c.in-Some.ensures c.subtree-in-Some.ensures.first c.subtree-in-Some.ensures.second
