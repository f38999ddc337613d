-- Names that have each a number of its own are distinct.
use Rattle.std.proofs.Common.{◌≡◌, ◌∙◌, ap, ℕ, zero, suc, ◌+◌, ◌<◌, Bool, true, false, cond, List, [], ◌∷◌, refl, sym, get_or, take, length, Some, None, Option, arith, subst, inl, inr}
use Rattle.std.specs.Prelude.{slice_get, slice_set}
use Rattle.std.specs.Str.{bytes_eq}
use Rattle.std.proofs.lemmas.Bool.{cases_order}
use Rattle.std.proofs.lemmas.Slice.Eq.{bytes_eq-Decides}
use Rattle.sem_profile.specs.Words.{word}
use Rattle.text_sections.specs.declared.mention.Mention.{Mention}
use Rattle.text_sections.specs.Mentions.{first_of}
use Rattle.text_sections.specs.Marks.{mark_of}
use Rattle.text_sections.proofs.Tabled.{read_at}
use Rattle.text_sections.proofs.CausesSeconds.{NoneSecond, few_further}

-- the numbers of the names below the place are marked
abbrev pub AreMarked : List ℕ → List Mention → ℕ → List Bool → Type 0
AreMarked text mentions below seen = (k : ℕ) (t : Mention) → k < below → slice_get mentions k ≡ Some t → slice_get seen (mark_of (word text t.name)) ≡ Some true

pub none_marked : (text : List ℕ) (mentions : List Mention) (seen : List Bool) → AreMarked text mentions 0 seen
none_marked text mentions seen k t lt at = absurd (omega arith)

still_set : (xs : List Bool) (j m : ℕ) → slice_get xs j ≡ Some true → slice_get (slice_set xs m true) j ≡ Some true
still_set [] j m h = h
still_set (x ∷ xs) zero zero h = refl
still_set (x ∷ xs) (suc j) zero h = h
still_set (x ∷ xs) zero (suc m) h = h
still_set (x ∷ xs) (suc j) (suc m) h = still_set xs j m h

set_there : (xs : List Bool) (m : ℕ) → m < length xs → slice_get (slice_set xs m true) m ≡ Some true
set_there [] m lt = absurd (omega arith)
set_there (x ∷ xs) zero lt = refl
set_there (x ∷ xs) (suc m) lt = set_there xs m (omega arith)

pub as_long : (xs : List Bool) (m : ℕ) → length (slice_set xs m true) ≡ length xs
as_long [] m = refl
as_long (x ∷ xs) zero = refl
as_long (x ∷ xs) (suc m) = ap suc (as_long xs m)

-- where a name was found
found_at : (text : List ℕ) (mentions : List Mention) (i : ℕ) (name : List ℕ) (s : Mention) → first_of text (take i mentions) name ≡ Some s
    → (k : ℕ) × (k < i) × (slice_get mentions k ≡ Some s) × (bytes_eq name (word text s.name) ≡ true)
found_at text mentions zero name s h = let wrong : None ≡ Some s = h in absurd cc
found_at text [] (suc i) name s h = let wrong : None ≡ Some s = h in absurd cc
found_at text (m ∷ ms) (suc i) name s h = by (bytes_eq name (word text m.name)) refl h (λ so. found_at text ms i name s so)
  where
    by : (b : Bool) → bytes_eq name (word text m.name) ≡ b → cond b (Some m) (first_of text (take i ms) name) ≡ Some s
        → (first_of text (take i ms) name ≡ Some s → (k : ℕ) × (k < i) × (slice_get ms k ≡ Some s) × (bytes_eq name (word text s.name) ≡ true))
        → (k : ℕ) × (k < suc i) × (slice_get (m ∷ ms) k ≡ Some s) × (bytes_eq name (word text s.name) ≡ true)
    by true e h more = let same : m ≡ s = cc in (0, omega arith, ap Some same, subst (λ x. bytes_eq name (word text x.name) ≡ true) same e)
    by false e h more = let r = more h in let lt = r.1 in (suc r.0, omega (arith, lt), r.2, r.3)

pub unmarked : (text : List ℕ) (mentions : List Mention) (i : ℕ) (name : List ℕ) (seen : List Bool) → AreMarked text mentions i seen → slice_get seen (mark_of name) ≡ Some false → first_of text (take i mentions) name ≡ None
unmarked text mentions i name seen marked free = by (first_of text (take i mentions) name) refl
  where
    by : (o : Option Mention) → first_of text (take i mentions) name ≡ o → o ≡ None
    by None e = refl
    by (Some s) e =
        let r = found_at text mentions i name s e in
        let same : name ≡ word text s.name = (bytes_eq-Decides name (word text s.name)).0 r.3 in
        let taken : slice_get seen (mark_of name) ≡ Some true = ap (λ n. slice_get seen (mark_of n)) same ∙ marked r.0 s r.1 r.2 in
        let wrong : Some false ≡ Some true = sym free ∙ taken in
        absurd cc

pub marked_more : (text : List ℕ) (mentions : List Mention) (i : ℕ) (t : Mention) (seen : List Bool) → AreMarked text mentions i seen → slice_get mentions i ≡ Some t → mark_of (word text t.name) < length seen
    → AreMarked text mentions (i + 1) (slice_set seen (mark_of (word text t.name)) true)
marked_more text mentions i t seen before here within k u lt at = elim (cases_order k i) as (λ _. slice_get (slice_set seen (mark_of (word text t.name)) true) (mark_of (word text u.name)) ≡ Some true) [
  | inl e ↦
      let both : Some u ≡ Some t = sym (subst (λ n. slice_get mentions n ≡ Some u) e at) ∙ here in
      let same : u ≡ t = cc in
      subst (λ v. slice_get (slice_set seen (mark_of (word text t.name)) true) (mark_of (word text v.name)) ≡ Some true) (sym same) (set_there seen (mark_of (word text t.name)) within)
  | inr o ↦ elim o as (λ _. slice_get (slice_set seen (mark_of (word text t.name)) true) (mark_of (word text u.name)) ≡ Some true) [
    | inl l ↦ still_set seen (mark_of (word text u.name)) (mark_of (word text t.name)) (before k u l at)
    | inr g ↦ absurd (omega arith)
  ]
]

pub free_at : (seen : List Bool) (mark : ℕ) (d : Bool) → length seen ≡ 2039 → mark < 2039 → get_or seen mark d ≡ false → slice_get seen mark ≡ Some false
free_at seen mark d long within free = read_at seen mark d (omega (arith, long, within)) ∙ ap Some free

-- one name more
pub apart_more : (text : List ℕ) (mentions : List Mention) (i : ℕ) (t : Mention) (seen : List Bool) (name : List ℕ) (mark : ℕ) → slice_get mentions i ≡ Some t → name ≡ word text t.name → mark ≡ mark_of name → mark < 2039
    → slice_get seen mark ≡ Some false → AreMarked text mentions i seen × (length seen ≡ 2039) × NoneSecond text mentions i
    → AreMarked text mentions (i + 1) (slice_set seen mark true) × (length (slice_set seen mark true) ≡ 2039) × NoneSecond text mentions (i + 1)
apart_more text mentions i t seen name mark here name_is mark_is within free so =
    let long = so.1 in
    let place : mark_of (word text t.name) ≡ mark = ap mark_of (sym name_is) ∙ sym mark_is in
    let none : first_of text (take i mentions) name ≡ None = unmarked text mentions i name seen so.0 (ap (slice_get seen) (sym mark_is) ∙ free) in (
      subst (λ m. AreMarked text mentions (i + 1) (slice_set seen m true)) place (marked_more text mentions i t seen so.0 here (subst (λ m. m < length seen) (sym place) (omega (arith, long, within)))),
      as_long seen mark ∙ long,
      few_further text mentions i t name so.2 here name_is none,
    )
