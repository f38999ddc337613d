-- Formats that a parameter tells apart, and formats whose calls are told.
use Rattle.std.proofs.Common.{◌≡◌, ◌∙◌, sym, ap, subst, ℕ, ◌+◌, ◌<◌, ◌≤◌, Bool, true, List, [], ◌∷◌, ◌++◌, length, inl, inr, arith}
use Rattle.std.specs.Prelude.{slice_get, ℤ, Option, Some, None, Result, Ok, Err, IfOk, IfSome, option_and_then}
use Rattle.std.proofs.lemmas.Bool.{cases_lt}
use Rattle.std.proofs.lemmas.Option.{slice_get_within}
use Rattle.sem_profile.specs.declared.profile.Constraint.{Constraint}
use Rattle.sem_profile.specs.declared.profile.Format.{Format}
use Rattle.sem_profile.specs.declared.profile.Method.{Method}
use Rattle.cert_types.specs.declared.certificate.FormatPlans.{FormatPlans}
use Rattle.cert_types.specs.declared.certificate.MethodPlans.{MethodPlans}
use Rattle.cert_types.specs.declared.certificate.Plans.{Plans}
use Rattle.cert_types.specs.Kept.{Entries}
use Rattle.cert_rules.specs.Counts.{entry_at}
use Rattle.cert_rules.specs.Valid.{plans_at}
use Rattle.sem_filling.proofs.FitsSized.{and_then_some}
use Rattle.sem_pages.proofs.Growing.{at_end, front_get, last_get}
use Rattle.cert_compiled.specs.Single.{Keeps, HasKey, HaveKeys, IsTeller, AreTellers, AreTold, AreStepsTold, AreLinesTold, AreSingles}
use Rattle.cert_compiled.proofs.Growing.{length_next}
use Rattle.cert_compiled.proofs.Looking.{some_says}

-- the first formats have numbers of their own
pub record KeysSoFar (p : ℕ) (formats : List Format) (keys : List ℤ) (n : ℕ) : Type 0 where
  pub count : length keys ≡ n
  pub each : (m : ℕ) (format : Format) → m < n → slice_get formats m ≡ Some format → (key : ℤ) × (slice_get keys m ≡ Some key) × HasKey p format.constraints key
  pub apart : (l m : ℕ) (key : ℤ) → slice_get keys l ≡ Some key → slice_get keys m ≡ Some key → l ≡ m

pub no_keys : (p : ℕ) (formats : List Format) (keys : List ℤ) → keys ≡ [] → KeysSoFar p formats keys 0
no_keys p formats keys none = record {
  count = ap length none;
  each = λ m format under. absurd (omega (arith, under));
  apart = λ l m key at. let wrong : None ≡ Some key = ap (λ ks. slice_get ks l) (sym none) ∙ at in absurd cc;
}

pub keys_next : (p : ℕ) (formats : List Format) (keys : List ℤ) (n : ℕ) (format : Format) (key : ℤ) → slice_get formats n ≡ Some format → HasKey p format.constraints key → ((m : ℕ) → slice_get keys m ≡ Some key → ⊥) → KeysSoFar p formats keys n
    → KeysSoFar p formats (keys ++ key ∷ []) (n + 1)
keys_next p formats keys n format key here has new so_far = record {
  count = length_next keys key n so_far.count;
  each = λ m other under at. by m other under at;
  apart = λ l m k one two. at_end keys key l k one (l ≡ m)
      (λ old. at_end keys key m k two (l ≡ m) (λ older. so_far.apart l m k old older) (λ last same. absurd (new l (subst (λ z. slice_get keys l ≡ Some z) (sym same) old))))
      (λ last same. at_end keys key m k two (l ≡ m) (λ old. absurd (new m (subst (λ z. slice_get keys m ≡ Some z) (sym same) old))) (λ last' same'. last ∙ sym last'));
}
  where
    found : (m : ℕ) → m ≡ n → (other : Format) → slice_get formats m ≡ Some other → (k : ℤ) × (slice_get (keys ++ key ∷ []) m ≡ Some k) × HasKey p other.constraints k
    found m is other at =
        let one : Some format ≡ Some other = sym here ∙ ap (slice_get formats) (sym is) ∙ at in
        let same : format ≡ other = cc in
        (key, ap (slice_get (keys ++ key ∷ [])) (is ∙ sym so_far.count) ∙ last_get keys key, subst (λ f. HasKey p f.constraints key) same has)

    by : (m : ℕ) (other : Format) → m < n + 1 → slice_get formats m ≡ Some other → (k : ℤ) × (slice_get (keys ++ key ∷ []) m ≡ Some k) × HasKey p other.constraints k
    by m other under at = elim (cases_lt m n) [
      | inl less ↦ let old = so_far.each m other less at in (old.0, front_get keys (key ∷ []) m old.0 old.1, old.2)
      | inr more ↦ found m (omega (arith, under, more)) other at
    ]

pub keys_end : (p : ℕ) (formats : List Format) (keys : List ℤ) (n : ℕ) → length formats ≤ n → KeysSoFar p formats keys n → HaveKeys p formats
keys_end p formats keys n all so_far = record {
  keys = keys;
  each = λ m format at. let inside = slice_get_within formats m format at in so_far.each m format (omega (arith, all, inside)) at;
  apart = so_far.apart;
}

-- one flag more
pub told_next : (tellers : List (Option ℕ)) (formats : List Format) (entries : List FormatPlans) (flags : List Bool) (n : ℕ) (format : Format) (flag : Bool) → length flags ≡ n → slice_get formats n ≡ Some format
    → (flag ≡ true → (plans : Plans) → option_and_then (λ f. f.plans) (slice_get entries n) ≡ Some plans → AreStepsTold tellers format plans.write) → AreTold tellers formats entries flags → AreTold tellers formats entries (flags ++ flag ∷ [])
told_next tellers formats entries flags n format flag long here told so_far m other plans on at there = at_end flags flag m true on (AreStepsTold tellers other plans.write)
    (λ old. so_far m other plans old at there)
    (λ last same.
    let place : m ≡ n = last ∙ long in
    let one : Some format ≡ Some other = sym here ∙ ap (slice_get formats) (sym place) ∙ at in
    let is : format ≡ other = cc in
    subst (λ f. AreStepsTold tellers f plans.write) is (told same plans (ap (λ k. option_and_then (λ f. f.plans) (slice_get entries k)) (sym place) ∙ there)))

pub none_told : (tellers : List (Option ℕ)) (formats : List Format) (entries : List FormatPlans) (flags : List Bool) → flags ≡ [] → AreTold tellers formats entries flags
none_told tellers formats entries flags none m format plans on = let wrong : None ≡ Some true = ap (λ fs. slice_get fs m) (sym none) ∙ on in absurd cc

-- the constraint at a place has the number
pub key_there : (p : ℕ) (constraints : List Constraint) (i : ℕ) (c : Constraint) (o : Option ℤ) → slice_get constraints i ≡ Some c → IfSome o (λ key. Keeps p key c) → IfSome o (HasKey p constraints)
key_there p constraints i c None at keeps = tt
key_there p constraints i c (Some key) at keeps = (i, c, at, keeps)

-- one method more
pub teller_next : (methods : List Method) (cert : Entries) (tellers : List (Option ℕ)) (n : ℕ) (m : Method) (o : Option ℕ) → length tellers ≡ n → slice_get methods n ≡ Some m → IfSome o (IsTeller m.formats (entry_at cert n)) → AreTellers methods cert tellers
    → AreTellers methods cert (tellers ++ o ∷ [])
teller_next methods cert tellers n m o long here teller so_far k p other at there = at_end tellers o k (Some p) at (IsTeller other.formats (entry_at cert k) p)
    (λ old. so_far k p other old there)
    (λ last same.
    let place : k ≡ n = last ∙ long in
    let one : Some m ≡ Some other = sym here ∙ ap (slice_get methods) (sym place) ∙ there in
    let is : m ≡ other = cc in
    subst (λ z. IsTeller other.formats (entry_at cert z) p) (sym place) (subst (λ (z : Method). IsTeller z.formats (entry_at cert n) p) is (some_says (IsTeller m.formats (entry_at cert n)) o teller p same)))

pub no_tellers : (methods : List Method) (cert : Entries) (tellers : List (Option ℕ)) → tellers ≡ [] → AreTellers methods cert tellers
no_tellers methods cert tellers none k p m at = let wrong : None ≡ Some (Some p) = ap (λ ts. slice_get ts k) (sym none) ∙ at in absurd cc

pub no_lines : (tellers : List (Option ℕ)) (methods : List Method) (cert : Entries) (flags : List (List Bool)) → flags ≡ [] → AreLinesTold tellers methods cert flags
no_lines tellers methods cert flags none k m line here at = let wrong : None ≡ Some line = ap (λ ls. slice_get ls k) (sym none) ∙ at in absurd cc

-- what is told of all methods
pub singles_are : (tellers : List (Option ℕ)) (methods : List Method) (cert : Entries) (flags : List (List Bool)) → AreTellers methods cert tellers → AreLinesTold tellers methods cert flags → AreSingles methods cert flags
singles_are tellers methods cert flags are told k n format plans on there plans_are =
    let line = and_then_some (λ (l : List Bool). slice_get l n) (slice_get flags k) true on in
    let m = and_then_some (λ (m : Method). slice_get m.formats n) (slice_get methods k) format there in
    let entry = and_then_some (λ (e : MethodPlans). plans_at e n) (entry_at cert k) plans plans_are in
    record { tellers = tellers; are = are; told = told k m.0 line.0 m.1 line.1 entry.0 entry.1 n format plans line.2 m.2 entry.2 }

pub all_singles : {E : Type 0} (tellers : List (Option ℕ)) (methods : List Method) (cert : Entries) (r : Result (List (List Bool)) E) → AreTellers methods cert tellers → IfOk r (AreLinesTold tellers methods cert) → IfOk r (AreSingles methods cert)
all_singles tellers methods cert (Ok flags) are told = singles_are tellers methods cert flags are told
all_singles tellers methods cert (Err e) are told = tt
