use Rattle.std.specs.Prelude.{slice_get}
use Rattle.std.proofs.Common.{◌≡◌, ◌∙◌, ap, drop, subst, rules, to_z, of_z}
use Rattle.std.specs.Int.{w128}
use Rattle.sem_context.specs.Entries.{bits_at}
use Rattle.cert_tables.specs.Picked.{formats_of}
use Rattle.cert_rules.specs.Trees.{is_number, references, way}
use Rattle.cert_tables.proofs.WalkingLed.{by_its_reference}
use Rattle.cert_tables.proofs.picks.follow.Goals as goal
use Rattle.cert_tables.proofs.picks.follow.Goals.{in-Node, in-Reference+in_ok-is_other-in-Reference}

pub loop-place-preserved : goal.loop-place-preserved
loop-place-preserved c =
    let refs = references (bits_at c.args.frame.now.context.now) c.args.frame.now.path.now (formats_of (slice_get c.args.frame.now.profile.now.methods c.args.frame.now.method)) in
    let bits = drop c.args.from c.args.cursor.now.left in
    let args = c.args.frame.now.arguments.now in
    let on : way refs bits args 0 (drop c.match-step.next c.args.tree.now.nodes.now) ≡ way refs bits args 0 (drop c.loop-place.place c.args.tree.now.nodes.now) =
    elim c.match-step.branch [
      | in-Node w ↦ ap (λ k. way refs bits args 0 (drop k c.args.tree.now.nodes.now)) w.next-is ∙ (w.in-Node.ensures refs).same
      | in-Reference+in_ok-is_other-in-Reference w ↦
          let constant : to_z w128 (of_z w128 w.in-Reference.constant) ≡ w.in-Reference.constant = (search rules) in
          let is = subst (λ z. w.in_ok-is_other-in-Reference.field-0 ≡ is_number z (refs w.in-Reference.field)) constant w.in_ok-is_other-in-Reference.ensures in
          let step =
          by_its_reference refs bits args c.args.tree.now.nodes.now c.loop-place.place w.subtree-next.result w.in-Reference.field w.in-Reference.constant
          w.in_ok-is_other-in-Reference.field-0 (w.in-Reference.ensures refs) is w.subtree-next.ensures.first w.subtree-next.ensures.second in
          ap (λ k. way refs bits args 0 (drop k c.args.tree.now.nodes.now)) w.next-is ∙ step.same
    ] in
    c.looked_up-place.ensures.same refs args ∙ (on ∙ c.loop-place.invariant)
