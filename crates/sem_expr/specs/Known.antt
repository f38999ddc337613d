-- The known numbers, as an assignment.
use Rattle.std.specs.Prelude.{ℕ, List, [], ℤ, Option, None, slice_get}
use Rattle.std.specs.Option.{unwrap_or}
use Rattle.sem_expr.specs.Values.{Assignment}
use Rattle.sem_expr.specs.declared.known.Numbers.{Numbers}
use Rattle.sem_expr.specs.declared.known.SideNumbers.{SideNumbers}
use Rattle.sem_expr.specs.declared.known.Known.{Known}
use Rattle.sem_expr.specs.declared.expr.Subject.{Subject}
use Rattle.sem_expr.specs.declared.expr.Subject.TheVariants.{Field, This}
use Rattle.sem_expr.specs.declared.expr.Side.{Side}
use Rattle.sem_expr.specs.declared.expr.Side.TheVariants.{Uncompressed, Compressed}
use Rattle.sem_expr.specs.declared.expr.Measure.{Measure}
use Rattle.sem_expr.specs.declared.expr.Measure.TheVariants.{Value, Length}

abbrev pub no_numbers : Numbers
no_numbers = record { value = None; length = None }

-- no attribute and no parameter has a number
abbrev pub nothing_known : Known
nothing_known = record { fields = []; whole = record { uncompressed = no_numbers; compressed = no_numbers }; parameters = [] }

-- those of a field; none past the end of the list
abbrev pub numbers_at : List SideNumbers → ℕ → SideNumbers
numbers_at fields i = unwrap_or (slice_get fields i) record { uncompressed = no_numbers; compressed = no_numbers }

abbrev pub subject_numbers : Known → Subject → SideNumbers
subject_numbers k (Field i) = numbers_at k.fields i
subject_numbers k This = k.whole

abbrev pub side_numbers : SideNumbers → Side → Numbers
side_numbers s Uncompressed = s.uncompressed
side_numbers s Compressed = s.compressed

abbrev pub measured : Numbers → Measure → Option ℤ
measured n Value = n.value
measured n Length = n.length

abbrev pub assignment_of : Known → Assignment
assignment_of k = record {
  attribute = λ t. measured (side_numbers (subject_numbers k t.subject) t.side) t.measure;
  parameter = λ i. slice_get k.parameters i;
}
