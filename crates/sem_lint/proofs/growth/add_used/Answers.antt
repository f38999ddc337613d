use Rattle.std.proofs.Common.{refl, sym, ◌∙◌}
use Rattle.sem_lint.proofs.NeedsAdding.{done_then, used_first, used_then}
use Rattle.sem_lint.proofs.growth.add_used.Goals as goal

pub returns-then-not-is_reached-clause-grows : goal.returns-then-not-is_reached-clause-grows
returns-then-not-is_reached-clause-grows c =
    used_first c.args.ground.now c.args.place c.args.site.now.method c.args.number _ c.args.format.now (record { site = c.args.site.now; site_at = c.requires.site; method_is = refl; path_is = refl }) c.requires.format _ _ _ c.requires.used
    c.in_ok-first.ensures.sets

pub returns-clause-grows : goal.returns-clause-grows
returns-clause-grows c =
    rw c.either.ensures (used_then c.args.ground.now c.args.place c.args.site.now.method c.args.number _ c.args.format.now (record { site = c.args.site.now; site_at = c.requires.site; method_is = refl; path_is = refl }) c.requires.format _ _ _ _ _
    c.requires.used c.in_ok-first.ensures.sets (sym (rw c.as_slice.ensures at c.is_reached.ensures) ∙ c.if-not-is_reached.false) (rw (c.as_str-path.ensures.value, c.as_slice-2.ensures) at c.in_ok-more.ensures.adds))

pub returns-clause-done : goal.returns-clause-done
returns-clause-done c =
    rw c.either.ensures (done_then c.args.ground.now c.args.place c.args.site.now.method c.args.number _ c.args.format.now (record { site = c.args.site.now; site_at = c.requires.site; method_is = refl; path_is = refl }) c.requires.format _ _ _ _ _
    c.in_ok-first.ensures.sets (rw (c.as_str-path.ensures.value, c.as_slice-2.ensures) at c.in_ok-more.ensures.adds))
