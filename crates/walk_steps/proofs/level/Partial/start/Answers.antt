use Rattle.std.proofs.Common.{◌∙◌, refl, sym, ap, subst}
use Rattle.sem_expr.specs.declared.expr.Side.TheVariants.{Uncompressed, Compressed}
use Rattle.walk_steps.specs.Joined.{header_places}
use Rattle.walk_steps.specs.Partial.{IsPlaced, IsKept}
use Rattle.walk_steps.proofs.FrontsAdvancing.{front_first}
use Rattle.walk_steps.proofs.JoinedKept.{start_kept}
use Rattle.walk_steps.proofs.level.Partial.start.Goals as goal

pub invariant_of-result : goal.invariant_of-result
invariant_of-result c =
    let placed = subst (IsPlaced c.args.format.now c.args.sizes.now) (sym c.in_ok-parameters.ensures) c.requires in
    let kept = start_kept c.args.format.now c.args.sizes.now c.in_ok-parameters.parameters placed (c.if-not-are_unsent.ensures.0 refl) in
    record {
      kept = subst (λ xs. IsKept (record { format = c.args.format.now; sizes = c.args.sizes.now; args = c.in_ok-parameters.parameters; slots = xs })) (sym c.in_ok-slots.ensures) kept;
      headers_are = c.in_ok-headers.ensures ∙ ap (header_places 0) c.as_slice.ensures;
      fronts_are = record {
        uncompressed = front_first _ Uncompressed _ c.at_first.result c.at_first.ensures;
        compressed = front_first _ Compressed _ c.at_first-2.result c.at_first-2.ensures;
      };
    }
