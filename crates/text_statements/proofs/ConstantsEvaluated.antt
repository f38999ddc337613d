-- What constants need: nothing is known of any attribute or parameter.
use Rattle.std.proofs.Common.{◌≡◌, ◌∙◌, ap, subst, sym, refl, [], None, Ok, Result, arith}
use Rattle.std.specs.Prelude.{IfSome, IsOk}
use Rattle.std.specs.Option.{unwrap_or}
use Rattle.std.proofs.lemmas.Option.{slice_get_past}
use Rattle.text_tree.specs.declared.tree.Expr.{Expr as Tree}
use Rattle.sem_expr.specs.declared.expr.Expr.{Expr}
use Rattle.sem_expr.specs.declared.expr.Attribute.{Attribute}
use Rattle.sem_expr.specs.declared.expr.Subject.{Subject}
use Rattle.sem_expr.specs.declared.expr.Subject.TheVariants.{Field, This}
use Rattle.sem_expr.specs.declared.expr.Side.{Side}
use Rattle.sem_expr.specs.declared.expr.Side.TheVariants.{Uncompressed, Compressed}
use Rattle.sem_expr.specs.declared.expr.Measure.{Measure}
use Rattle.sem_expr.specs.declared.expr.Measure.TheVariants.{Value, Length}
use Rattle.sem_expr.specs.declared.interval.Interval.{Interval}
use Rattle.sem_expr.specs.declared.known.SideNumbers.{SideNumbers}
use Rattle.sem_expr.specs.declared.fault.RangeFault.{RangeFault}
use Rattle.sem_expr.specs.Known.{nothing_known, assignment_of, no_numbers, subject_numbers, side_numbers, measured}
use Rattle.sem_expr.specs.Rules.{IsIn}
use Rattle.sem_expr.specs.Ranged.{Bounding, ranged}
use Rattle.sem_expr.specs.Spread.{LieIn, IsRanged}
use Rattle.sem_profile.specs.declared.fault.ResolveError.{ResolveError}
use Rattle.sem_profile.specs.declared.fault.ResolveError.TheVariants as errors
use Rattle.text_statements.specs.declared.term.TermKind.TheVariants as kinds
use Rattle.text_statements.specs.Names.{Names}
use Rattle.text_statements.specs.Judged.{fault_of, Refuses}
use Rattle.text_statements.specs.Constants.{Blames, ValueFault, ill_formed}

abbrev no_sides : SideNumbers
no_sides = record { uncompressed = no_numbers; compressed = no_numbers }

of_subject : (u : Subject) → subject_numbers nothing_known u ≡ no_sides
of_subject (Field i) = ap (λ o. unwrap_or o no_sides) (slice_get_past [] i (omega arith))
of_subject This = refl

of_sides : (sd : Side) (m : Measure) → measured (side_numbers no_sides sd) m ≡ None
of_sides Uncompressed Value = refl
of_sides Uncompressed Length = refl
of_sides Compressed Value = refl
of_sides Compressed Length = refl

no_attribute : (t : Attribute) → (assignment_of nothing_known).attribute t ≡ None
no_attribute t = ap (λ sides. measured (side_numbers sides t.side) t.measure) (of_subject t.subject) ∙ of_sides t.side t.measure

nothing_lies : (b : Bounding) → LieIn (assignment_of nothing_known) b
nothing_lies b = record {
  attributes = λ t. subst (λ o. IfSome o (IsIn (b.attribute t))) (sym (no_attribute t)) tt;
  parameters = λ i. subst (λ o. IfSome o (IsIn (b.parameter i))) (sym (slice_get_past [] i (omega arith))) tt;
}

-- an accepted expression may be evaluated
pub may_evaluate : (b : Bounding) (e : Expr) (i : Interval) → Ok i ≡ ranged b e → IsRanged (assignment_of nothing_known) e
may_evaluate b e i is = record { ranges = b; lie = nothing_lies b; accepted = subst (λ (r : Result Interval RangeFault). IsOk r) is refl }

pub ill : (s : Names) (part : Tree) (e : ResolveError) → Refuses (fault_of kinds.Number s part) e → Blames (ValueFault s part) e
ill s part (errors.Fault fault) h = ill_formed h
ill s part errors.OutOfMemory h = tt
