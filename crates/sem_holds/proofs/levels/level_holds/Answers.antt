use Rattle.std.proofs.Common.{◌∙◌, sym, ap}
use Rattle.std.specs.Prelude.{slice_get}
use Rattle.sem_filling.specs.Fillings.{level}
use Rattle.sem_filling.specs.Fits.{assigned}
use Rattle.sem_holds.proofs.LevelsFit.{ready_level, constraints_ranged, level_is}
use Rattle.sem_holds.proofs.levels.level_holds.Goals as goal

pub constraints_hold-requires : goal.constraints_hold-requires
constraints_hold-requires c = λ j x at.
    let ready = ready_level c.args.frame.now.profile.now c.keeps.ensures c.args.frame.now.method c.args.frame.now.arguments.now c.args.filling.now c.args.level.now.format.now c.args.level.now.known c.requires.found c.requires.arguments in
    constraints_ranged c.args.level.now.format.now c.args.level.now.known (assigned c.args.level.now.format.now.listing (level c.args.filling.now) c.args.frame.now.arguments.now) ready.1 j x
    (ap (λ xs. slice_get xs j) (sym c.as_slice.ensures) ∙ at)

pub returns : goal.returns
returns c =
    level_is c.args.frame.now.profile.now c.keeps.ensures c.args.frame.now.method c.args.frame.now.arguments.now c.args.filling.now c.args.level.now.format.now c.args.level.now.known c.requires.found c.requires.arguments
    c.constraints_hold.result (rw c.as_slice.ensures at c.constraints_hold.ensures)
