-- The formats of a method, one section after the other.
use Rattle.std.proofs.Common.{◌≡◌, ◌∙◌, ℕ, ◌+◌, inl, inr, List, [], ◌∷◌, ◌++◌, ◌≤◌, length, refl, sym, subst, drop, true, false, suc, zero, arith, append_assoc, append-nil}
use Rattle.std.specs.Prelude.{slice_get, Some, None}
use Rattle.text_tree.specs.declared.tree.Section.{Section}
use Rattle.sem_profile.specs.Precedence.{earlier, Judged}
use Rattle.sem_profile.proofs.PrecedenceLemmas.{neither, which}
use Rattle.text_sections.specs.declared.mention.Group.TheVariants as groups
use Rattle.text_sections.specs.Mentions.{is_in}
use Rattle.text_methods.specs.declared.drafts.Setting.{Setting}
use Rattle.text_methods.specs.declared.formats.Resolved.{Resolved}
use Rattle.text_methods.specs.Formats.{IsResolved}
use Rattle.text_methods.proofs.ConstraintsNumbering.{dropped}
use Rattle.text_methods.specs.declared.method_formats.Formats.{Formats}
use Rattle.text_methods.specs.MethodFormats.{AreFormats, no_sections, gives, gives_none, FormatCause, in_format, Leads}

-- a COMPRESSED section with its format
pub with_format : (x : Setting) (k : ℕ) (section : Section) (rest : List Section) (old new : Formats) (r : Resolved)
    → slice_get x.sections.now k ≡ Some section → is_in groups.Formats section.kind ≡ true → IsResolved x k section r
    → new.found ≡ old.found ++ r.format ∷ [] → new.fault ≡ earlier old.fault r.fault → Leads x k (section ∷ rest) old → Leads x (k + 1) rest new
with_format x k section rest old new r here formats is found fault so = record {
  finds = λ e fs are.
      let both = neither old.fault r.fault (sym fault ∙ e) in
      subst (λ z. AreFormats x 0 x.sections.now (z ++ fs)) (sym found)
      (subst (AreFormats x 0 x.sections.now) (sym (append_assoc old.found (r.format ∷ []) fs))
      (so.finds both.0 (r.format ∷ fs) (gives formats (is.format_is both.1) are)));
  causes = λ f e. elim (which old.fault r.fault f (sym fault ∙ e)) as (λ _. FormatCause x f) [
    | inl before ↦ so.causes f before
    | inr now ↦ in_format k here formats (sym is.fault_is ∙ now)
  ];
}

-- another section
pub without_format : (x : Setting) (k : ℕ) (section : Section) (rest : List Section) (old new : Formats)
    → is_in groups.Formats section.kind ≡ false → new.found ≡ old.found → new.fault ≡ old.fault → Leads x k (section ∷ rest) old → Leads x (k + 1) rest new
without_format x k section rest old new other found fault so = record {
  finds = λ e fs are. subst (λ z. AreFormats x 0 x.sections.now (z ++ fs)) (sym found) (so.finds (sym fault ∙ e) fs (gives_none other are));
  causes = λ f e. so.causes f (sym fault ∙ e);
}

-- all sections are to come
pub start : (x : Setting) (all : Formats) → all.found ≡ [] → all.fault ≡ None → Leads x 0 x.sections.now all
start x all found fault = record {
  finds = λ e fs are. subst (λ z. AreFormats x 0 x.sections.now (z ++ fs)) (sym found) are;
  causes = λ f e. let wrong : None ≡ Some f = sym fault ∙ e in absurd cc;
}

-- the next section is to come
pub next : (x : Setting) (k : ℕ) (section : Section) (all : Formats) → slice_get x.sections.now k ≡ Some section → Leads x k (drop k x.sections.now) all
    → Leads x k (section ∷ drop (k + 1) x.sections.now) all
next x k section all here so = subst (λ zs. Leads x k zs all) (dropped x.sections.now k section here) so

none_left : (xs : List Section) (i : ℕ) → length xs ≤ i → drop i xs ≡ []
none_left [] zero h = refl
none_left [] (suc i) h = refl
none_left (x ∷ xs) zero h = absurd (omega arith)
none_left (x ∷ xs) (suc i) h = none_left xs i (omega arith)

-- none is to come
pub ended : (x : Setting) (k : ℕ) (all : Formats) → length x.sections.now ≤ k → Leads x k (drop k x.sections.now) all
    → Judged (AreFormats x 0 x.sections.now all.found) (FormatCause x) all.fault
ended x k all past left =
    let so = subst (λ zs. Leads x k zs all) (none_left x.sections.now k past) left in
    record {
      fine = λ e. subst (AreFormats x 0 x.sections.now) (append-nil all.found) (so.finds e [] no_sections);
      cause = so.causes;
    }
