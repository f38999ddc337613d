use Rattle.std.proofs.Common.{sym}
use Rattle.std.proofs.lemmas.Result.{IfOk-weaker}
use Rattle.text_statements.specs.Asked.{encoded, enforces, no_length}
use Rattle.text_statements.proofs.ItemsAsked.{statement_asks}
use Rattle.text_statements.proofs.asked.asked_name.Goals as goal

pub returns-in-Some : goal.returns-in-Some
returns-in-Some c = rw c.in-Field.is (IfOk-weaker c.asked_field.result _ _ (λ o found. statement_asks _ _ _ _ _ o (sym c.in-Some.ensures) found) c.asked_field.ensures)

pub returns-in-None : goal.returns-in-None
returns-in-None c = rw c.in-Field.is (no_length (sym c.in-None.ensures))

pub returns-in-Bound : goal.returns-in-Bound
returns-in-Bound c = rw c.in-Bound.is encoded

pub returns-in-Enforce : goal.returns-in-Enforce
returns-in-Enforce c = rw c.in-Enforce.is enforces
