use Rattle.text_methods.proofs.ConstraintsHiding.{are_fine}
use Rattle.text_methods.proofs.encodings.format_encodings.Goals as goal

pub own_fault-requires : goal.own_fault-requires
own_fault-requires c =
    rw c.fine_ones-fine.ensures
    (are_fine c.args.scope.now c.args.methods.now c.args.sections.now c.args.chosen.now c.args.own.now.number c.args.own.now.items.now c.in_ok-encodings.encodings.fault c.in_ok-encodings.ensures.fault c.requires.own)
