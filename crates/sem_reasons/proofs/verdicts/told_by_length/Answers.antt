use Rattle.std.proofs.Common.{rules, arith, sym, ◌∙◌}
use Rattle.std.proofs.lemmas.List.{length-drop}
use Rattle.std.specs.Prelude.{◌-◌}
use Rattle.sem_reasons.proofs.ReasonsMaking.{cut_is}
use Rattle.sem_reasons.proofs.verdicts.told_by_length.Goals as goal

pub alone-requires : goal.alone-requires
alone-requires c =
    let many = c.len-many.ensures.value in
    let within = c.if-offset-many.false in
    cut_is c.args.sighted.now c.requires c.args.index c.in-Some.offset c.in-Some-length_in.due (c.len-many.result - c.in-Some.offset) (omega (arith, many, within)) (rw c.in-Some.is at c.begin_of.ensures)
    (sym c.length_in.ensures ∙ c.in-Some-length_in.is) (search (rules, length-drop)) c.if-left-due.false
