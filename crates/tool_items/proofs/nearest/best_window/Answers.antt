use Rattle.std.proofs.Common.{rules, to_z, of_z, ◌≡◌, sym, subst, ◌+◌, ◌∷◌, pos, drop, get_or, arith}
use mir.Syntax.{w64}
use Rattle.std.proofs.lemmas.List.{drop_all, drop_more}
use Rattle.tool_items.specs.Nearest.{IsWalk}
use Rattle.tool_items.proofs.NearestBest.{walk_end}
use Rattle.tool_items.proofs.nearest.best_window.Goals as goal

pub loop-entry-preserved : goal.loop-entry-preserved
loop-entry-preserved c =
    let entry = get_or c.args.entries.now c.loop-entry.entry-index (pos 0, 0) in
    let rest = drop (c.loop-entry.entry-index + 1) c.args.entries.now in
    let step : to_z w64 (of_z w64 (get_or c.args.entries.now c.loop-entry.entry-index (pos 0, 0)).0) ≡ (get_or c.args.entries.now c.loop-entry.entry-index (pos 0, 0)).0 = (search rules) in
    let here : IsWalk c.args.bits c.args.entries.now (entry ∷ rest) c.loop-entry.walk = subst (λ es. IsWalk c.args.bits c.args.entries.now es c.loop-entry.walk) (drop_more c.args.entries.now c.loop-entry.entry-index (pos 0, 0) (omega (arith, c.loop-entry-test.true))) c.loop-entry.invariant in
    c.in_ok-go_on.ensures c.args.entries.now entry.1 rest (subst (λ s. IsWalk c.args.bits c.args.entries.now ((s, entry.1) ∷ rest) c.loop-entry.walk) (sym step) here)

pub returns : goal.returns
returns c = walk_end c.args.bits c.args.entries.now _ c.loop-entry.walk c.requires.sorted (drop_all c.loop-entry.entry-index c.args.entries.now (omega (arith, c.loop-entry-test.false))) c.loop-entry.invariant
