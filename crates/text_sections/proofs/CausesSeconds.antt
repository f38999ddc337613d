-- What a search for a second mention tells.
use Rattle.std.proofs.Common.{◌≡◌, ◌∙◌, ap, ℕ, ◌+◌, ◌<◌, ◌≤◌, inl, inr, List, sym, take, length, Some, None, arith, subst}
use Rattle.std.specs.Prelude.{slice_get}
use Rattle.std.proofs.lemmas.Option.{slice_get_within}
use Rattle.std.proofs.lemmas.Bool.{cases_order}
use Rattle.sem_profile.specs.declared.fault.ProfileFault.{ProfileFault}
use Rattle.sem_profile.specs.Words.{word}
use Rattle.text_sections.specs.declared.mention.Mention.{Mention}
use Rattle.text_sections.specs.Mentions.{first_of}
use Rattle.text_sections.specs.declared.table.Table.{Table}
use Rattle.text_sections.specs.Tables.{IsTable, find_in}
use Rattle.text_sections.specs.Causes.{Answers, IsSecond, is_second, second_statement}

-- below the place no name is there twice
abbrev pub NoneSecond : List ℕ → List Mention → ℕ → Type 0
NoneSecond text mentions below = (k : ℕ) (t : Mention) → k < below → slice_get mentions k ≡ Some t → first_of text (take k mentions) (word text t.name) ≡ None

pub none_at_start : (text : List ℕ) (mentions : List Mention) → NoneSecond text mentions 0
none_at_start text mentions k t lt at = absurd (omega arith)

further : (text : List ℕ) (mentions : List Mention) (i : ℕ) (t : Mention) → NoneSecond text mentions i → slice_get mentions i ≡ Some t → first_of text (take i mentions) (word text t.name) ≡ None
    → NoneSecond text mentions (i + 1)
further text mentions i t before here fresh k u lt at = elim (cases_order k i) as (λ _. first_of text (take k mentions) (word text u.name) ≡ None) [
  | inl e ↦
      let both : Some u ≡ Some t = sym (subst (λ n. slice_get mentions n ≡ Some u) e at) ∙ here in
      let same : u ≡ t = cc in
      subst (λ v. first_of text (take k mentions) (word text v.name) ≡ None) (sym same) (subst (λ n. first_of text (take n mentions) (word text t.name) ≡ None) (sym e) fresh)
  | inr o ↦ elim o as (λ _. first_of text (take k mentions) (word text u.name) ≡ None) [ inl l ↦ before k u l at | inr g ↦ absurd (omega arith) ]
]

pub none_further : (text : List ℕ) (mentions : List Mention) (i : ℕ) (t : Mention) (table : Table) (name : List ℕ) → NoneSecond text mentions i → slice_get mentions i ≡ Some t → name ≡ word text t.name
    → IsTable text (take i mentions) table → find_in table name ≡ None → NoneSecond text mentions (i + 1)
none_further text mentions i t table name before here name_is is none =
    further text mentions i t before here (ap (first_of text (take i mentions)) (sym name_is) ∙ (sym (is.finds name) ∙ none))

pub second_is : (text : List ℕ) (mentions : List Mention) (f : ProfileFault) → IsSecond text mentions f → Answers (IsSecond text mentions) (Some f)
second_is text mentions f second = record {
  fine = λ e. let wrong : Some f ≡ None = e in absurd cc;
  cause = λ g e. let same : f ≡ g = cc in subst (IsSecond text mentions) same second;
}

pub second_here : (text : List ℕ) (mentions : List Mention) (i : ℕ) (s t : Mention) (table : Table) (name : List ℕ) {f : ProfileFault} → slice_get mentions i ≡ Some t → name ≡ word text t.name
    → IsTable text (take i mentions) table → find_in table name ≡ Some s → f ≡ second_statement s t → Answers (IsSecond text mentions) (Some f)
second_here text mentions i s t table name here name_is is found f_is =
    let second : IsSecond text mentions (second_statement s t) = is_second i here (ap (first_of text (take i mentions)) (sym name_is) ∙ (sym (is.finds name) ∙ found)) in
    second_is text mentions _ (subst (IsSecond text mentions) (sym f_is) second)

-- the same where the earlier mentions were looked through
pub few_further : (text : List ℕ) (mentions : List Mention) (i : ℕ) (t : Mention) (name : List ℕ) → NoneSecond text mentions i → slice_get mentions i ≡ Some t → name ≡ word text t.name
    → first_of text (take i mentions) name ≡ None → NoneSecond text mentions (i + 1)
few_further text mentions i t name before here name_is none = further text mentions i t before here (ap (first_of text (take i mentions)) (sym name_is) ∙ none)

pub few_here : (text : List ℕ) (mentions : List Mention) (i : ℕ) (s t : Mention) (name : List ℕ) {f : ProfileFault} → slice_get mentions i ≡ Some t → name ≡ word text t.name
    → first_of text (take i mentions) name ≡ Some s → f ≡ second_statement s t → Answers (IsSecond text mentions) (Some f)
few_here text mentions i s t name here name_is found f_is =
    let second : IsSecond text mentions (second_statement s t) = is_second i here (ap (first_of text (take i mentions)) (sym name_is) ∙ found) in
    second_is text mentions _ (subst (IsSecond text mentions) (sym f_is) second)

pub none_in_all : (text : List ℕ) (mentions : List Mention) (i : ℕ) → length mentions ≤ i → NoneSecond text mentions i → Answers (IsSecond text mentions) None
none_in_all text mentions i past none_yet = record {
  fine = λ e f second. none_of f second;
  cause = λ f e. let wrong : None ≡ Some f = e in absurd cc;
}
  where
    none_of : (f : ProfileFault) → IsSecond text mentions f → ⊥
    none_of f (is_second k {s} {t} at found) =
        let lt : k < length mentions = slice_get_within mentions k t at in
        let wrong : None ≡ Some s = sym (none_yet k t (omega arith) at) ∙ found in
        absurd cc
