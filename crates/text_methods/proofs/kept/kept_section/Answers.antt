use Rattle.std.proofs.lemmas.Result.{IfOk-weaker}
use Rattle.text_methods.specs.Kept.{each, none}
use Rattle.text_methods.proofs.kept.kept_section.Goals as goal

pub returns-then-is_in : goal.returns-then-is_in
returns-then-is_in c = IfOk-weaker c.kept_items.result _ _ (λ ts all. each all) (rw c.as_slice.ensures at c.kept_items.ensures)

pub returns-then-is_in-2 : goal.returns-then-is_in-2
returns-then-is_in-2 c = IfOk-weaker c.kept_encodings.result _ _ (λ ts all. each all) (rw c.as_slice-then-is_in-2.ensures at c.kept_encodings.ensures)

pub returns-else-is_in-2 : goal.returns-else-is_in-2
returns-else-is_in-2 c = rw c.new.ensures none
