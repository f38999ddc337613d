use Rattle.std.proofs.Common.{◌∙◌, ap}
use Rattle.std.specs.Prelude.{option_map, pos}
use Rattle.walk_steps.proofs.FindingEquations.{solve_finds, solve_within, solve_learns}
use Rattle.walk_steps.proofs.FindingGaining.{on_ok}
use Rattle.walk_steps.proofs.solutions.solve.Goals as goal

pub learn_bits-requires-clause-within : goal.learn_bits-requires-clause-within
learn_bits-requires-clause-within c = solve_within c.args.level.now c.args.field c.args.constraint c.keeps-2.ensures c.requires.ready

pub learn_bits-requires-clause-finds : goal.learn_bits-requires-clause-finds
learn_bits-requires-clause-finds c =
    solve_finds c.args.level_frame.now c.args.level.now c.args.field c.args.constraint c.counted-len.result c.solved-number.result c.in_ok-found.found c.keeps.ensures c.keeps-2.ensures c.requires.at c.requires.ready
    (c.counted-len.ensures ∙ ap (option_map pos) c.length.ensures) c.solved-number.ensures c.in_ok-found.ensures

pub returns-clause-learns : goal.returns-clause-learns
returns-clause-learns c =
    on_ok c.learn_bits.result _ _ (solve_learns c.args.level_frame.now c.args.level.now c.args.field c.args.constraint c.in_ok-found.found c.learn_bits.new.level c.requires.ready) c.learn_bits.ensures.gains
