use Rattle.std.proofs.Common.{sym}
use Rattle.text_statements.specs.Asked.{field_asked, field_valueless, field_enforced}
use Rattle.text_statements.proofs.asked.asked_field.Goals as goal

pub returns-then-is_set : goal.returns-then-is_set
returns-then-is_set c = field_enforced (sym (rw (c.word.ensures, c.text.ensures) at c.if-is_set.ensures))

pub returns-in-Ok : goal.returns-in-Ok
returns-in-Ok c = field_asked _ c.in-Ok.ensures.value (sym (rw (c.word.ensures, c.text.ensures) at c.if-is_set.ensures))

pub returns-in_ok-_fault-in-Err : goal.returns-in_ok-_fault-in-Err
returns-in_ok-_fault-in-Err c = field_valueless c.in_ok-_fault-in-Err._fault (rw c.in_ok-_fault-in-Err.ensures.fault at c.in-Err.ensures.refused)
