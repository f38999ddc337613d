use Rattle.std.proofs.Common.{◌≡◌, ◌∙◌, ◌∷◌, ◌++◌, [], ap, sym, subst, refl, string_bytes}
use Rattle.sem_context.specs.Entries.{AreDistinct, bits_at}
use Rattle.sem_context.specs.Placing.{shown}
use Rattle.sem_context.proofs.PlacingPaths.{next_absent, next_copied}
use Rattle.sem_context.proofs.context.Context.copy.Goals as goal

pub push_new-requires : goal.push_new-requires
push_new-requires c =
    ap (bits_at c.loop-path.copy) (c.in_ok-path.ensures.ok ∙ c.as_str.ensures.value ∙ ap (λ e. string_bytes e.0) c.loop-path-item.is)
    ∙ next_absent c.deref-path-items.result.now c.loop-path.path-index _ c.loop-path.copy c.args.self.now c.loop-path-test.true (subst AreDistinct c.self.view_is c.self.invariant.distinct) c.loop-path.invariant
