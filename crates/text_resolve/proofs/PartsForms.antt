-- The methods of a file, one after the other.
use Rattle.std.proofs.Common.{◌≡◌, ◌∙◌, ap, ℕ, ◌+◌, inl, inr, Bool, List, [], ◌∷◌, ◌++◌, ◌≤◌, length, refl, sym, subst, drop, suc, zero, arith, append_assoc, append-nil, reverse}
use Rattle.std.proofs.lemmas.List.{reverse-append}
use Rattle.std.specs.Prelude.{slice_get, Some, None, Option}
use Rattle.text_tree.specs.declared.tree.Method.{Method as TreeMethod}
use Rattle.text_tree.specs.declared.tree.Constant.{Constant}
use Rattle.text_tree.specs.declared.tree.Part.{Part}
use Rattle.text_tree.specs.declared.tree.Part.TheVariants as part
use Rattle.sem_profile.specs.declared.fault.ProfileFault.{ProfileFault}
use Rattle.sem_profile.specs.declared.profile.Method.{Method}
use Rattle.sem_profile.specs.Precedence.{earlier, Judged}
use Rattle.sem_profile.proofs.PrecedenceLemmas.{neither, which}
use Rattle.text_methods.specs.declared.methods.FileSetting.{FileSetting}
use Rattle.text_methods.specs.Methods.{IsMethod, MethodCause}
use Rattle.text_resolve.specs.declared.methods.Drafts.{Drafts}
use Rattle.text_resolve.specs.Parts.{methods_of}
use Rattle.text_resolve.specs.Methods.{constant_mentions, is_at, AreMethods, no_methods, a_method, InMethod, in_method, IsFile, HaveForm, FormCause, form_cause, Leads}

-- the first of the rest, and what is after it
at_front : {A : Type 0} (xs : List A) (k : ℕ) (x : A) (rest : List A) → drop k xs ≡ x ∷ rest → (slice_get xs k ≡ Some x) × (drop (suc k) xs ≡ rest)
at_front [] zero x rest e = let wrong : [] ≡ x ∷ rest = e in absurd cc
at_front [] (suc k) x rest e = let wrong : [] ≡ x ∷ rest = e in absurd cc
at_front (y ∷ ys) zero x rest e = let same : y ∷ ys ≡ x ∷ rest = e in let head : y ≡ x = cc in let tail : ys ≡ rest = cc in (ap Some head, tail)
at_front (y ∷ ys) (suc k) x rest e = at_front ys k x rest e

pub with_method : (file : FileSetting) (parts : List Part) (top : Option ℕ) (k : ℕ) (m : TreeMethod) (rest : List TreeMethod) (old new : Drafts) (is_top : Bool) (r : Method) (fault : Option ProfileFault)
    → is_top ≡ is_at top k → Judged (IsMethod file (constant_mentions parts) m is_top r) (MethodCause file (constant_mentions parts) m) fault
    → new.found ≡ old.found ++ r ∷ [] → new.fault ≡ earlier old.fault fault → Leads file parts top k (m ∷ rest) old → Leads file parts top (k + 1) rest new
with_method file parts top k m rest old new is_top r fault is judged found is_fault so =
    let here = at_front (methods_of parts) k m rest so.at in
    let next : k + 1 ≡ suc k = omega arith in
    let whole = AreMethods file (constant_mentions parts) top 0 (methods_of parts) in
    record {
      at = ap (λ n. drop n (methods_of parts)) next ∙ here.1;
      finds = λ e rs are.
          let both = neither old.fault fault (sym is_fault ∙ e) in
          let form = subst (λ b. IsMethod file (constant_mentions parts) m b r) is (judged.fine both.1) in
          subst (λ z. whole (z ++ rs)) (sym found) (subst whole (sym (append_assoc old.found (r ∷ []) rs)) (so.finds both.0 (r ∷ rs) (a_method form are)));
      causes = λ f e. elim (which old.fault fault f (sym is_fault ∙ e)) as (λ _. InMethod file parts f) [
        | inl before ↦ so.causes f before
        | inr now ↦ in_method k here.0 (judged.cause f now)
      ];
    }

-- all methods are to come
pub start : (file : FileSetting) (parts : List Part) (top : Option ℕ) (all : Drafts) → all.found ≡ [] → all.fault ≡ None → Leads file parts top 0 (methods_of parts) all
start file parts top all found fault = record {
  at = refl;
  finds = λ e rs are. subst (λ z. AreMethods file (constant_mentions parts) top 0 (methods_of parts) (z ++ rs)) (sym found) are;
  causes = λ f e. let wrong : None ≡ Some f = sym fault ∙ e in absurd cc;
}

-- what is taken from the end of a list comes first in it backwards
pub turned : (xs ys : List Part) (x : Part) → xs ≡ ys ++ x ∷ [] → reverse xs ≡ x ∷ reverse ys
turned xs ys x e = ap reverse e ∙ reverse-append ys (x ∷ [])

-- a part of the file comes next that is a method
pub at_method : (file : FileSetting) (parts : List Part) (top : Option ℕ) (k : ℕ) (p : Part) (m : TreeMethod) (rest : List Part) (all : Drafts) → p ≡ part.Method m
    → Leads file parts top k (methods_of (p ∷ rest)) all → Leads file parts top k (m ∷ methods_of rest) all
at_method file parts top k p m rest all is so = subst (λ q. Leads file parts top k (methods_of (q ∷ rest)) all) is so

-- one that is a constant
pub at_constant : (file : FileSetting) (parts : List Part) (top : Option ℕ) (k : ℕ) (p : Part) (c : Constant) (rest : List Part) (all : Drafts) → p ≡ part.Constant c
    → Leads file parts top k (methods_of (p ∷ rest)) all → Leads file parts top k (methods_of rest) all
at_constant file parts top k p c rest all is so = subst (λ q. Leads file parts top k (methods_of (q ∷ rest)) all) is so

-- none is to come
pub ended : (file : FileSetting) (parts : List Part) (top : Option ℕ) (k : ℕ) (rest : List Part) (all : Drafts) → rest ≡ [] → Leads file parts top k (methods_of rest) all
    → Judged (AreMethods file (constant_mentions parts) top 0 (methods_of parts) all.found) (InMethod file parts) all.fault
ended file parts top k rest all none left =
    let so = subst (λ ps. Leads file parts top k (methods_of ps) all) none left in
    record {
      fine = λ e. subst (AreMethods file (constant_mentions parts) top 0 (methods_of parts)) (append-nil all.found) (so.finds e [] no_methods);
      cause = so.causes;
    }

-- a fault is that of some file
pub formed : (text : List ℕ) (file : FileSetting) (parts : List Part) (top : Option ℕ) (all : Drafts)
    → Judged (AreMethods file (constant_mentions parts) top 0 (methods_of parts) all.found) (InMethod file parts) all.fault → IsFile text parts file
    → Judged (HaveForm text parts top all.found) (FormCause text parts) all.fault
formed text file parts top all judged is_file = record {
  fine = λ e. record { file = file; is_file = is_file; are_methods = judged.fine e };
  cause = λ f e. form_cause is_file (judged.cause f e);
}
