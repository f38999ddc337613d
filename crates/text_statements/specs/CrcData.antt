-- The data of a crc: the value of a side of a field or of the whole (RFC 4997, section 4.11.6).
use Rattle.std.specs.Prelude.{Bool, true, false, Option, None, Some, if◌then◌else◌}
use Rattle.std.specs.Option.{option_or}
use Rattle.text_source.specs.declared.span.Span.{Span}
use Rattle.text_tree.specs.declared.tree.Expr.{Expr as Tree, fold-Expr}
use Rattle.text_tree.specs.declared.tree.Expr.TheOpen.{Expr-F}
use Rattle.text_tree.specs.declared.tree.Attribute.{Attribute as Word}
use Rattle.text_tree.specs.declared.tree.Attribute.TheVariants as words
use Rattle.sem_expr.specs.declared.expr.Attribute.{Attribute}
use Rattle.sem_expr.specs.declared.expr.Measure.{Measure}
use Rattle.sem_expr.specs.declared.expr.Measure.TheVariants.{Value, Length}
use Rattle.sem_expr.specs.declared.expr.Subject.{Subject}
use Rattle.sem_expr.specs.declared.expr.Side.{Side}
use Rattle.sem_expr.specs.declared.expr.Expr.TheVariants as expr
use Rattle.sem_profile.specs.declared.fault.ProfileFault.{ProfileFault}
use Rattle.text_statements.specs.declared.crc_data.CrcData.{CrcData}
use Rattle.text_statements.specs.declared.term.Term.{Term}
use Rattle.text_statements.specs.declared.term.Term.TheVariants.{Number}
use Rattle.text_statements.specs.Names.{Names}
use Rattle.text_statements.specs.Judged.{judged, wrong_kind}
use Rattle.text_statements.specs.Means.{Means}

-- the part means the value of this side
pub record IsData (s : Names) (part : Tree) (d : CrcData) : Type 0 where
  pub at : Span
  pub means : Means s part (Number (expr.Attribute at record { subject = d.subject; side = d.side; measure = Value }))

abbrev pub is_value : Word → Bool
is_value words.Uvalue = true
is_value words.Cvalue = true
is_value words.Ulength = false
is_value words.Clength = false

abbrev pub data_step : Expr-F Bool → Bool
data_step (Expr-F.Attribute at owner which) = is_value which
data_step (Expr-F.Group at inner) = inner
data_step _ = false

-- UVALUE or CVALUE of something, through round brackets
abbrev pub is_data : Tree → Bool
is_data = fold-Expr Bool data_step

-- the fault inside the part, or else that it is no data
abbrev pub data_fault : Names → Tree → Option ProfileFault
data_fault s part = option_or (judged s part).fault (if is_data part then None else Some (wrong_kind (judged s part).place))

-- ---- the same of a typed expression

abbrev pub value_by : Measure → Subject → Side → Option CrcData
value_by Value subject side = Some record { subject = subject; side = side }
value_by Length subject side = None

abbrev pub value_of : Attribute → Option CrcData
value_of t = value_by t.measure t.subject t.side

abbrev pub named : Term → Option CrcData
named (Number (expr.Attribute at t)) = value_of t
named _ = None
