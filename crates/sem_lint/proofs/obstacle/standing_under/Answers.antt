use Rattle.std.proofs.Common.{ℕ, subst}
use Rattle.text_source.specs.declared.span.Span.{Span}
use Rattle.sem_expr.specs.declared.expr.Side.{Side}
use Rattle.sem_expr.specs.Bounds.{bounding_of}
use Rattle.sem_lint.specs.Demands.{HasUnmet}
use Rattle.sem_filling.specs.declared.obstacle.Unmet.{Unmet}
use Rattle.sem_lint.specs.Never.{IsUntrue}
use Rattle.sem_lint.specs.Obstacles.{HasNoLength, SendsMore, SplitsOctets, HasNoValue}
use Rattle.sem_lint.proofs.ObstaclesStanding.{none_stands}
use Rattle.sem_lint.proofs.obstacle.standing_under.Goals as goal

pub returns-in-None : goal.returns-in-None
returns-in-None c =
    none_stands c.args.format.now c.args.sizes.now (bounding_of c.args.ranges.now)
    (subst (λ bs. (i : ℕ) (side : Side) → HasNoLength bs i side → ⊥) c.as_slice.ensures c.in_default.ensures)
    (subst (λ bs. (i : ℕ) → SendsMore c.args.format.now.fields bs i → ⊥) c.as_slice-2.ensures (subst (λ fs. (i : ℕ) → SendsMore fs c.as_slice-2.result.now i → ⊥) c.as_slice-fields.ensures c.in_default-sends_more.ensures))
    (subst (λ fs. (i : ℕ) → SplitsOctets fs c.args.sizes.now i → ⊥) c.as_slice-fields.ensures c.in_default-splits_octets.ensures)
    (subst (λ ks. (at : Span) → HasNoValue c.args.format.now.fields ks (bounding_of c.args.ranges.now) at → ⊥) c.as_slice-constraints.ensures
    (subst (λ fs. (at : Span) → HasNoValue fs c.as_slice-constraints.result.now (bounding_of c.args.ranges.now) at → ⊥) c.as_slice-fields.ensures c.in_default-no_value.ensures))
    (subst (λ fs. (u : Unmet) → HasUnmet fs (bounding_of c.args.ranges.now) u → ⊥) c.as_slice-fields.ensures c.in_default-first_unmet.ensures)
    (subst (λ ks. (j : ℕ) → IsUntrue ks (bounding_of c.args.ranges.now) j → ⊥) c.as_slice-constraints.ensures c.in-None.ensures)
