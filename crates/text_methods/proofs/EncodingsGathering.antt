-- What is built element by element, while the earliest fault is kept.
use Rattle.std.proofs.Common.{◌≡◌, ◌∙◌, ap, ℕ, ◌+◌, ◌<◌, get_or, length, List, [], ◌∷◌, ◌++◌, refl, sym, subst, take}
use Rattle.std.specs.Prelude.{Some, None, Option}
use Rattle.std.specs.List.{AllZip}
use Rattle.std.proofs.lemmas.List.Sums.{fold-append}
use Rattle.std.proofs.lemmas.Option.{slice_get-get_or}
use Rattle.sem_profile.proofs.Loops.{taken}
use Rattle.sem_profile.specs.declared.fault.ProfileFault.{ProfileFault}
use Rattle.sem_profile.specs.declared.fault.ResolveError.{ResolveError}
use Rattle.sem_profile.specs.declared.fault.ResolveError.TheVariants as errors
use Rattle.sem_profile.specs.Precedence.{earlier}
use Rattle.sem_profile.proofs.PrecedenceLemmas.{neither}
use Rattle.text_sections.specs.Causes.{earliest}
use Rattle.text_statements.specs.Judged.{Refuses}

pub all_more : {A B : Type 0} (R : A → B → Type 0) (xs : List A) (ys : List B) (x : A) (y : B) → AllZip R xs ys → R x y → AllZip R (xs ++ x ∷ []) (ys ++ y ∷ [])
all_more R [] [] x y all r = (r, tt)
all_more R [] (z ∷ ys) x y all r = absurd all
all_more R (z ∷ xs) [] x y all r = absurd all
all_more R (z ∷ xs) (w ∷ ys) x y all r = (all.0, all_more R xs ys x y all.1 r)

pub kept : (o : Option ProfileFault) → earlier o None ≡ o
kept None = refl
kept (Some f) = refl

-- the fault is the earliest one; where there is none, each element has its outcome
pub record Gathered {A B : Type 0} (R : A → B → Type 0) (f : A → Option ProfileFault) (xs : List A) (ys : List B) (fault : Option ProfileFault) : Type 0 where
  pub fault_is : fault ≡ earliest f xs
  pub found : fault ≡ None → AllZip R xs ys

pub more_found : {A B : Type 0} {R : A → B → Type 0} {f : A → Option ProfileFault} {xs : List A} {ys : List B} {fault : Option ProfileFault} (x : A) (y : B)
    → Gathered R f xs ys fault → f x ≡ None → R x y → Gathered R f (xs ++ x ∷ []) (ys ++ y ∷ []) fault
more_found {R = R} {f = f} {xs = xs} {ys = ys} {fault = fault} x y so fine r = record {
  fault_is = so.fault_is ∙ sym (kept (earliest f xs)) ∙ ap (earlier (earliest f xs)) (sym fine) ∙ sym (fold-append (λ found z. earlier found (f z)) None xs (x ∷ []));
  found = λ e. all_more R xs ys x y (so.found e) r;
}

pub more_refused : {A B : Type 0} {R : A → B → Type 0} {f : A → Option ProfileFault} {xs : List A} {ys : List B} {fault : Option ProfileFault} (x : A) (g : ProfileFault)
    → Gathered R f xs ys fault → f x ≡ Some g → Gathered R f (xs ++ x ∷ []) ys (earlier fault (Some g))
more_refused {f = f} {xs = xs} {fault = fault} x g so bad = record {
  fault_is = ap (λ o. earlier o (Some g)) so.fault_is ∙ ap (earlier (earliest f xs)) (sym bad) ∙ sym (fold-append (λ found z. earlier found (f z)) None xs (x ∷ []));
  found = λ e. let wrong : Some g ≡ None = (neither fault (Some g) e).1 in absurd cc;
}

pub nothing_yet : {A B : Type 0} {R : A → B → Type 0} {f : A → Option ProfileFault} → Gathered R f [] [] None
nothing_yet = record { fault_is = refl; found = λ e. tt }

-- one more element of a list that the code reads by index
pub fine_at : {A B : Type 0} (R : A → B → Type 0) (f : A → Option ProfileFault) (xs : List A) (i : ℕ) (d : A) (ys new : List B) (fault next : Option ProfileFault) (y : B)
    → i < length xs → Gathered R f (take i xs) ys fault → f (get_or xs i d) ≡ None → R (get_or xs i d) y → new ≡ ys ++ y ∷ [] → next ≡ fault
    → Gathered R f (take (i + 1) xs) new next
fine_at R f xs i d ys new fault next y lt so fine r is same =
    rw (taken xs i (get_or xs i d) (slice_get-get_or xs i d lt), is, same) (more_found (get_or xs i d) y so fine r)

pub refused_at : {A B : Type 0} (R : A → B → Type 0) (f : A → Option ProfileFault) (xs : List A) (i : ℕ) (d : A) (ys new : List B) (fault next : Option ProfileFault) (g : ProfileFault)
    → i < length xs → Gathered R f (take i xs) ys fault → f (get_or xs i d) ≡ Some g → new ≡ ys → next ≡ earlier fault (Some g)
    → Gathered R f (take (i + 1) xs) new next
refused_at R f xs i d ys new fault next g lt so bad is same =
    rw (taken xs i (get_or xs i d) (slice_get-get_or xs i d lt), is, same) (more_refused (get_or xs i d) g so bad)

-- the fault of a refusal that is not out of memory
pub refused_is : (o : Option ProfileFault) (e : ResolveError) (g : ProfileFault) → Refuses o e → e ≡ errors.Fault g → o ≡ Some g
refused_is o e g refuses is = subst (Refuses o) is refuses
