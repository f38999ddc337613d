use Rattle.std.proofs.Common.{◌≡◌, sym, subst, true}
use Rattle.std.specs.Prelude.{pos, slice_get, Some}
use Rattle.sem_expr.specs.Values.{truth, val}
use Rattle.sem_expr.specs.declared.expr.Expr.{Expr}
use Rattle.sem_filling.specs.Fits.{Holds}
use Rattle.sem_pages.specs.Pages.{numbers_in, numbers_seen, side_in}
use Rattle.sem_pages.proofs.CodedSides.{length_on}
use Rattle.sem_pages.proofs.Seeing.{truth_on}
use Rattle.sem_pages.proofs.constraints.constraint_holds.Goals as goal

pub returns-in-Some : goal.returns-in-Some
returns-in-Some c = λ is l bears.
    let found = c.is_value_of.ensures is in
    subst (Holds (side_in l) (numbers_in l)) (sym c.in-Bracket.is)
    (length_on l c.args.view.now bears c.in-Bracket.field c.in-Bracket.side c.in-Bracket.lengths c.in-Some.word c.len.result c.in-Some.ensures c.len.ensures.value
    (subst (λ es. (n : _) × (e : Expr) × (slice_get es n ≡ Some e) × (val (numbers_seen c.args.view.now) e ≡ Some (pos c.len.result))) c.as_slice.ensures found))

pub returns-in-Enforce : goal.returns-in-Enforce
returns-in-Enforce c = λ is l bears. subst (Holds (side_in l) (numbers_in l)) (sym c.in-Enforce.is) (truth_on l c.args.view.now bears c.in-Enforce.condition true (subst (λ k. truth (numbers_seen c.args.view.now) k ≡ Some true) c.get.ensures (c.is_true.ensures is)))
