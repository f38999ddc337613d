use Rattle.std.proofs.Common.{sym, ◌∙◌, subst, ◌<◌, ◌^◌, length}
use Rattle.sem_expr.specs.declared.expr.Side.TheVariants.{Uncompressed, Compressed}
use Rattle.walk_steps.specs.Joined.{joined_bits}
use Rattle.walk_steps.specs.Fronts.{AreMeasured}
use Rattle.walk_steps.specs.Sides.{LearnsAt}
use Rattle.walk_steps.proofs.FrontsAdvancing.{fronts_after}
use Rattle.walk_steps.proofs.JoinedKept.{kept_after, whole_short}
use Rattle.walk_steps.proofs.level.Partial.learn.Goals as goal

pub go_on-self-inside-requires-clause-header : goal.go_on-self-inside-requires-clause-header
go_on-self-inside-requires-clause-header c =
    let i = c.self.inside in
    let new = c.learn_at-is_learnt.new.slots.items in
    let l = subst (λ b. LearnsAt b c.args.field c.args.side c.args.found i.slots.items new) c.bounds_at-bounds.ensures (c.learn_at-is_learnt.ensures.learnt c.if-is_learnt.true) in
    let kept = kept_after i.format.now i.sizes.now i.parameters i.slots.items new c.args.field c.args.side c.args.found c.self.invariant.kept l in
    let short = whole_short i.format.now i.sizes.now i.parameters i.headers.items new c.self.invariant.headers_are kept in
    subst (λ xs. length (joined_bits xs Uncompressed c.as_slice-then-is_learnt.result.now) < 2 ^ 31) (sym c.as_slice.ensures.value)
    (subst (λ h. length (joined_bits new Uncompressed h) < 2 ^ 31) (sym c.as_slice-then-is_learnt.ensures) short.0)

pub go_on-self-inside-requires-clause-packed : goal.go_on-self-inside-requires-clause-packed
go_on-self-inside-requires-clause-packed c =
    let i = c.self.inside in
    let new = c.learn_at-is_learnt.new.slots.items in
    let l = subst (λ b. LearnsAt b c.args.field c.args.side c.args.found i.slots.items new) c.bounds_at-bounds.ensures (c.learn_at-is_learnt.ensures.learnt c.if-is_learnt.true) in
    let kept = kept_after i.format.now i.sizes.now i.parameters i.slots.items new c.args.field c.args.side c.args.found c.self.invariant.kept l in
    let short = whole_short i.format.now i.sizes.now i.parameters i.headers.items new c.self.invariant.headers_are kept in
    subst (λ xs. length (joined_bits xs Compressed c.as_slice-then-is_learnt-2.result.now) < 2 ^ 31) (sym c.as_slice.ensures.value)
    (subst (λ h. length (joined_bits new Compressed h) < 2 ^ 31) (sym (c.as_slice-then-is_learnt-2.ensures ∙ c.get.ensures)) short.1)

pub go_on-self-inside-requires-clause-before : goal.go_on-self-inside-requires-clause-before
go_on-self-inside-requires-clause-before c =
    let i = c.self.inside in
    let new = c.learn_at-is_learnt.new.slots.items in
    let fronts = fronts_after _ c.args.field c.args.side c.args.found i.slots.items new (c.learn_at-is_learnt.ensures.learnt c.if-is_learnt.true) i.headers.items i.format.now.listing i.fronts c.self.invariant.fronts_are in
    subst (λ xs. AreMeasured xs c.as_slice-then-is_learnt.result.now c.as_slice-then-is_learnt-2.result.now i.fronts) (sym c.as_slice.ensures.value)
    (subst (λ h. AreMeasured new h c.as_slice-then-is_learnt-2.result.now i.fronts) (sym c.as_slice-then-is_learnt.ensures)
    (subst (λ l. AreMeasured new i.headers.items l i.fronts) (sym (c.as_slice-then-is_learnt-2.ensures ∙ c.get.ensures)) fronts))

pub invariant_of-self : goal.invariant_of-self
invariant_of-self c =
    let i = c.self.inside in
    let new = c.learn_at-is_learnt.new.slots.items in
    let l = subst (λ b. LearnsAt b c.args.field c.args.side c.args.found i.slots.items new) c.bounds_at-bounds.ensures (c.learn_at-is_learnt.ensures.learnt c.if-is_learnt.true) in
    let now = c.go_on-self-inside.result in
    record {
      kept = kept_after i.format.now i.sizes.now i.parameters i.slots.items new c.args.field c.args.side c.args.found c.self.invariant.kept l;
      headers_are = c.self.invariant.headers_are;
      fronts_are = subst (λ xs. AreMeasured xs i.headers.items i.format.now.listing now) c.as_slice.ensures.value
          (subst (λ h. AreMeasured c.as_slice.result.now h i.format.now.listing now) c.as_slice-then-is_learnt.ensures
          (subst (λ x. AreMeasured c.as_slice.result.now c.as_slice-then-is_learnt.result.now x now) (c.as_slice-then-is_learnt-2.ensures ∙ c.get.ensures) c.go_on-self-inside.ensures));
    }
