use Rattle.std.proofs.Common.{sym, refl}
use Rattle.cert_prove.proofs.rule.parts_anew.Goals as goal

pub returns-then-is_tried-clause-parts : goal.returns-then-is_tried-clause-parts
returns-then-is_tried-clause-parts c = λ known. sym (c.if-is_tried.ensures _ known refl)

pub returns-clause-tried : goal.returns-clause-tried
returns-clause-tried c = λ known. c.keep.ensures _ known (sym c.if-equation_parts.ensures)
