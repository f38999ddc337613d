-- The constraints of a format's statements, one statement after the other.
use Rattle.std.proofs.Common.{◌≡◌, ◌∙◌, ap, ℕ, ◌+◌, List, [], ◌∷◌, ◌++◌, ◌≤◌, length, refl, sym, subst, suc, zero, drop, fold, arith, cond, Bool, true, false, append_assoc, append-nil}
use Rattle.std.specs.Prelude.{slice_get, Some, None, Option}
use Rattle.text_tree.specs.declared.tree.Item.{Item}
use Rattle.sem_expr.specs.declared.expr.Side.{Side}
use Rattle.sem_expr.specs.declared.expr.Side.TheVariants.{Uncompressed}
use Rattle.sem_profile.specs.declared.fault.ProfileFault.{ProfileFault}
use Rattle.sem_profile.specs.declared.profile.Constraint.{Constraint}
use Rattle.sem_profile.specs.Precedence.{earlier}
use Rattle.sem_profile.proofs.PrecedenceLemmas.{neither}
use Rattle.text_statements.specs.Names.{Names}
use Rattle.text_statements.specs.Constraints.{ItemMeans, item_fault}
use Rattle.text_methods.specs.Constraints.{Statement, on, AreNumbered, none, more, statement_fault, Leads}
use Rattle.text_methods.specs.Kept.{Says}
use Rattle.text_methods.proofs.EncodingsGathering.{kept}

-- a statement without a fault
pub with_found : {s : Names} {side : Side} {rest whole : List Statement} {found : List Constraint} {fault : Option ProfileFault} (item : Item) (cs new : List Constraint)
    → ItemMeans s side item cs → item_fault s item ≡ None → new ≡ found ++ cs → Leads s (on side item ∷ rest) whole found fault → Leads s rest whole new fault
with_found {s} {side} {rest} {whole} {found} {fault} item cs new means fine is so = subst (λ z. Leads s rest whole z fault) (sym is) (record {
  faults = ap (λ o. fold (λ f x. earlier f (statement_fault s x)) o rest) (sym (kept fault) ∙ ap (earlier fault) (sym fine)) ∙ so.faults;
  finds = λ e ds rests. subst (AreNumbered s whole) (sym (append_assoc found cs ds)) (so.finds e (cs ++ ds) (more means rests));
})

-- a statement whose constraints are kept
pub with_kept : {s : Names} {rest whole : List Statement} {found : List Constraint} {fault : Option ProfileFault} (item : Item) (cs new : List Constraint)
    → Says s item cs → new ≡ found ++ cs → Leads s (on Uncompressed item ∷ rest) whole found fault → Leads s rest whole new fault
with_kept item cs new says is so = with_found item cs new says.means says.fine is so

-- a statement with one
pub with_fault : {s : Names} {side : Side} {rest whole : List Statement} {found : List Constraint} {fault : Option ProfileFault} (item : Item) (g : ProfileFault) (next : Option ProfileFault)
    → item_fault s item ≡ Some g → next ≡ earlier fault (Some g) → Leads s (on side item ∷ rest) whole found fault → Leads s rest whole found next
with_fault {s} {side} {rest} {whole} {found} {fault} item g next bad is so = subst (Leads s rest whole found) (sym is) (record {
  faults = ap (λ o. fold (λ f x. earlier f (statement_fault s x)) (earlier fault o) rest) (sym bad) ∙ so.faults;
  finds = λ e. let wrong : Some g ≡ None = (neither fault (Some g) e).1 in absurd cc;
})

dropped_suc : {A : Type 0} (xs : List A) (i : ℕ) (x : A) → slice_get xs i ≡ Some x → drop i xs ≡ x ∷ drop (suc i) xs
dropped_suc [] i x h = let wrong : None ≡ Some x = h in absurd cc
dropped_suc (y ∷ ys) zero x h = let same : y ≡ x = cc in ap (λ z. z ∷ ys) same
dropped_suc (y ∷ ys) (suc i) x h = dropped_suc ys i x h

-- the first of the rest
pub dropped : {A : Type 0} (xs : List A) (i : ℕ) (x : A) → slice_get xs i ≡ Some x → drop i xs ≡ x ∷ drop (i + 1) xs
dropped xs i x h = let e : suc i ≡ i + 1 = omega arith in dropped_suc xs i x h ∙ ap (λ n. x ∷ drop n xs) e

-- statements that are taken where a test holds
pub opened : {s : Names} {whole : List Statement} {found : List Constraint} {fault : Option ProfileFault} (b : Bool) (part others rest : List Statement)
    → b ≡ true → Leads s ((cond b part [] ++ others) ++ rest) whole found fault → Leads s (part ++ (others ++ rest)) whole found fault
opened {s} {whole} {found} {fault} true part others rest is so = subst (λ zs. Leads s zs whole found fault) (append_assoc part others rest) so
opened {s} {whole} {found} {fault} false part others rest is so = let wrong : false ≡ true = is in absurd cc

pub skipped : {s : Names} {whole : List Statement} {found : List Constraint} {fault : Option ProfileFault} (b : Bool) (part others rest : List Statement)
    → b ≡ false → Leads s ((cond b part [] ++ others) ++ rest) whole found fault → Leads s (others ++ rest) whole found fault
skipped {s} {whole} {found} {fault} true part others rest is so = let wrong : true ≡ false = is in absurd cc
skipped {s} {whole} {found} {fault} false part others rest is so = so

-- all statements are to come
pub start : {s : Names} (whole : List Statement) → Leads s whole whole [] None
start whole = record { faults = refl; finds = λ e cs are. are }

-- none is to come
pub ended : {s : Names} {whole : List Statement} {found : List Constraint} {fault : Option ProfileFault} → Leads s [] whole found fault → fault ≡ None → AreNumbered s whole found
ended {s} {whole} {found} so e = subst (AreNumbered s whole) (append-nil found) (so.finds e [] none)

-- the statements of the next element, then those of the rest
pub next : {A : Type 0} {s : Names} {whole : List Statement} {found : List Constraint} {fault : Option ProfileFault} (of : List A → List Statement) (xs : List A) (i : ℕ) (x : A) (rest : List Statement)
    → slice_get xs i ≡ Some x → Leads s (of (drop i xs) ++ rest) whole found fault → Leads s (of (x ∷ drop (i + 1) xs) ++ rest) whole found fault
next {s = s} {whole = whole} {found = found} {fault = fault} of xs i x rest here so = subst (λ zs. Leads s (of zs ++ rest) whole found fault) (dropped xs i x here) so

none_left : {A : Type 0} (xs : List A) (i : ℕ) → length xs ≤ i → drop i xs ≡ []
none_left [] zero h = refl
none_left [] (suc i) h = refl
none_left (x ∷ xs) zero h = absurd (omega arith)
none_left (x ∷ xs) (suc i) h = none_left xs i (omega arith)

pub last : {A : Type 0} {s : Names} {whole : List Statement} {found : List Constraint} {fault : Option ProfileFault} (of : List A → List Statement) (xs : List A) (i : ℕ) (rest : List Statement)
    → length xs ≤ i → Leads s (of (drop i xs) ++ rest) whole found fault → Leads s (of [] ++ rest) whole found fault
last {s = s} {whole = whole} {found = found} {fault = fault} of xs i rest ends so = subst (λ zs. Leads s (of zs ++ rest) whole found fault) (none_left xs i ends) so

-- the last part is whole
pub as_last : {s : Names} {whole rest : List Statement} {found : List Constraint} {fault : Option ProfileFault} → Leads s rest whole found fault → Leads s (rest ++ []) whole found fault
as_last {s} {whole} {rest} {found} {fault} so = subst (λ zs. Leads s zs whole found fault) (sym (append-nil rest)) so

-- the four parts of a whole, one after the other
pub joined : {s : Names} (a b c d : List Statement) {f1 f2 f3 f4 f5 : List Constraint} {g1 g2 g3 g4 g5 : Option ProfileFault}
    → f1 ≡ [] → g1 ≡ None
    → ((rest whole : List Statement) → Leads s (a ++ rest) whole f1 g1 → Leads s rest whole f2 g2)
    → ((rest whole : List Statement) → Leads s (b ++ rest) whole f2 g2 → Leads s rest whole f3 g3)
    → ((rest whole : List Statement) → Leads s (c ++ rest) whole f3 g3 → Leads s rest whole f4 g4)
    → ((rest whole : List Statement) → Leads s (d ++ rest) whole f4 g4 → Leads s rest whole f5 g5)
    → Leads s [] (a ++ (b ++ (c ++ d))) f5 g5
joined {s} a b c d {g1 = g1} no_constraint no_fault first second third fourth =
    let whole = a ++ (b ++ (c ++ d)) in
    let nothing = subst (λ f. Leads s whole whole f g1) (sym no_constraint) (subst (λ g. Leads s whole whole [] g) (sym no_fault) (start whole)) in
    fourth [] whole (as_last (third d whole (second (c ++ d) whole (first (b ++ (c ++ d)) whole nothing))))
