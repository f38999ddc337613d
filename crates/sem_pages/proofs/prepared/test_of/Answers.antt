use Rattle.std.proofs.Common.{◌≡◌, sym, subst}
use Rattle.std.specs.Prelude.{pos, slice_get, Some}
use Rattle.sem_expr.specs.Values.{val}
use Rattle.sem_expr.specs.declared.expr.Expr.{Expr}
use Rattle.sem_filling.specs.Fits.{Holds}
use Rattle.sem_pages.specs.Pages.{numbers_in, numbers_seen, side_in}
use Rattle.sem_pages.proofs.CodedSides.{length_on}
use Rattle.sem_pages.proofs.prepared.test_of.Goals as goal

pub returns-in_ok-count_of-in-Bracket : goal.returns-in_ok-count_of-in-Bracket
returns-in_ok-count_of-in-Bracket c = λ v passed l bears.
    let count = c.in_ok-count_of-in-Bracket.field-0 in
    let one = c.in_ok-count_of-in-Bracket.ensures (numbers_seen v) in
    subst (Holds (side_in l) (numbers_in l)) (sym c.in-Bracket.is)
    (length_on l v bears c.in-Bracket.field c.in-Bracket.side c.in-Bracket.lengths passed.0 count passed.1 (sym passed.2)
    (subst (λ es. (n : _) × (e : Expr) × (slice_get es n ≡ Some e) × (val (numbers_seen v) e ≡ Some (pos count))) c.as_slice.ensures one))
