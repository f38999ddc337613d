-- What is told so far of what stands against packing an item.
use Rattle.std.proofs.Common.{◌≡◌, ◌∙◌, refl, sym, ap, subst, ℕ, zero, suc, ◌+◌, ◌<◌, List, [], ◌∷◌, ◌++◌, map, inl, inr, arith}
use Rattle.std.specs.Prelude.{Result, Ok, Err, OnOk, Some, slice_get}
use Rattle.std.specs.declared.alloc.AllocError.{AllocError}
use Rattle.std.proofs.lemmas.Bool.{cases_lt}
use Rattle.std.proofs.lemmas.List.{map-append}
use Rattle.std.proofs.lemmas.Option.{slice_get_within}
use Rattle.sem_context.specs.Entries.{Entries}
use Rattle.sem_filling.specs.declared.filling.Filling.{Filling}
use Rattle.sem_filling.specs.declared.filling.Item.{Item}
use Rattle.sem_filling.specs.Fillings.{item}
use Rattle.cert_accepted.specs.Accepted.{Accepting}
use Rattle.sem_elsewhere.specs.Held.{Holding}
use Rattle.walk_engine.specs.declared.search.Candidate.{Candidate}
use Rattle.walk_engine.specs.Reading.{Fitting}
use Rattle.walk_engine.specs.Searching.{number_in}
use Rattle.walk_engine.specs.Writing.{HasNoneFrom, IsPackedFrom}
use Rattle.walk_loss.specs.declared.unserved.Lack.{Lack}
use Rattle.walk_robust.specs.Answers.{FitsEach}
use Rattle.walk_robust.specs.Lacks.{AddsLack, AreLacks, IsBestOfFormat, IsLack, IsTold, fits_all, format_of, lacks, was_told}
use Rattle.walk_robust.proofs.Staying.{at_either, at_left, at_right, past, past_is}

-- the only one of a list of one
only_one : {A : Type 0} (x y : A) (i : ℕ) → slice_get (x ∷ []) i ≡ Some y → (i ≡ 0) × (x ≡ y)
only_one x y zero at = (refl, cc)
only_one x y (suc i) at = absurd (cc)

-- a line more
pub pushed : (a : Accepting) (others : List Holding) (f : Filling) (old now : List Lack) (l : Lack) (r : Result (Unit {0}) AllocError) → OnOk r (now ≡ old ++ l ∷ []) → (IsTold old (format_of f) → ⊥) → IsLack a others f l → OnOk r (AddsLack a others f old now)
pushed a others f old now l (Ok u) grown new is = subst (AddsLack a others f old) (sym grown) (lacks l new is)
pushed a others f old now l (Err e) grown new is = tt

module _ (a : Accepting) (own : Entries) (others : List Holding) (it : Item) where
  -- of all candidates with a number below this one
  pub record LackTo (from : ℕ) (ls : List Lack) : Type 0 where
    pub rows : List (Filling × Lack)
    pub lines_are : ls ≡ map (λ r. r.1) rows
    pub each : (i : ℕ) (r : Filling × Lack) → slice_get rows i ≡ Some r → IsBestOfFormat a own it r.0 × IsLack a others r.0 r.1
    pub in_order : (i j : ℕ) (r s : Filling × Lack) → i < j → slice_get rows i ≡ Some r → slice_get rows j ≡ Some s → number_in a r.0 < number_in a s.0
    pub under : (i : ℕ) (r : Filling × Lack) → slice_get rows i ≡ Some r → number_in a r.0 < from
    pub all : (g : Filling) → Fitting a own g → item g ≡ it → number_in a g < from → IsTold ls (format_of g)

  pub to_none : LackTo 0 []
  to_none = record {
    rows = [];
    lines_are = refl;
    each = λ i r at. absurd (cc);
    in_order = λ i j r s l at_i at_j. absurd (cc);
    under = λ i r at. absurd (cc);
    all = λ g there has l. absurd (omega (arith, l));
  }

  module _ (from : ℕ) (ls : List Lack) (c : Candidate) (p : LackTo from ls) (h : IsPackedFrom a own it from c) where
    abbrev f : Filling
    f = c.packed.filling

    -- with a line of its format all up to it have one
    covered : (now : List Lack) → ((n : ℕ) → IsTold ls n → IsTold now n) → IsTold now (format_of f) → (g : Filling) → Fitting a own g → item g ≡ it → number_in a g < c.number + 1 → IsTold now (format_of g)
    covered now keeps here g there has below =
        elim (cases_lt (number_in a g) from) [
          | inl before ↦ keeps (format_of g) (p.all g there has before)
          | inr from_here ↦
              let same : g ≡ f = h.first.first g there has from_here (omega (arith, below)) in
              subst (λ z. IsTold now (format_of z)) (sym same) here
        ]

    -- where its format has none yet, it is the best of it
    best_now : (IsTold ls (format_of f) → ⊥) → IsBestOfFormat a own it f
    best_now new = record {
      fits = h.first.fits;
      has = h.first.has;
      first = λ g there has same_format.
          elim (cases_lt (number_in a g) from) [
            | inl before ↦ absurd (new (subst (IsTold ls) same_format (p.all g there has before)))
            | inr from_here ↦ elim (cases_lt c.number (number_in a g)) [
              | inl above ↦ let n = h.first.number_is in omega (arith, above, n)
              | inr up_to ↦ let same : g ≡ f = h.first.first g there has from_here up_to in let n : number_in a g ≡ number_in a f = ap (number_in a) same in omega (arith, n)
            ]
          ];
    }

    module _ (l : Lack) (new : IsTold ls (format_of f) → ⊥) (is : IsLack a others f l) where
      abbrev row : Filling × Lack
      row = (f, l)

      each_now : (i : ℕ) (r : Filling × Lack) → slice_get (p.rows ++ row ∷ []) i ≡ Some r → IsBestOfFormat a own it r.0 × IsLack a others r.0 r.1
      each_now i r at =
          elim (at_either p.rows (row ∷ []) i r at) [
            | inl old ↦ p.each i r old
            | inr later ↦ subst (λ (z : Filling × Lack). IsBestOfFormat a own it z.0 × IsLack a others z.0 z.1) (only_one row r later.0 later.2).1 (best_now new, is)
          ]

      under_now : (i : ℕ) (r : Filling × Lack) → slice_get (p.rows ++ row ∷ []) i ≡ Some r → number_in a r.0 < c.number + 1
      under_now i r at =
          elim (at_either p.rows (row ∷ []) i r at) [
            | inl old ↦ let u = p.under i r old in let up = h.first.above in omega (arith, u, up)
            | inr later ↦
                let n : number_in a f ≡ number_in a r.0 = ap (λ (z : Filling × Lack). number_in a z.0) (only_one row r later.0 later.2).1 in
                let m = h.first.number_is in
                omega (arith, n, m)
          ]

      order_now : (i j : ℕ) (r s : Filling × Lack) → i < j → slice_get (p.rows ++ row ∷ []) i ≡ Some r → slice_get (p.rows ++ row ∷ []) j ≡ Some s → number_in a r.0 < number_in a s.0
      order_now i j r s less at_i at_j =
          elim (at_either p.rows (row ∷ []) i r at_i) [
            | inl old_i ↦ elim (at_either p.rows (row ∷ []) j s at_j) [
              | inl old_j ↦ p.in_order i j r s less old_i old_j
              | inr later ↦
                  let u = p.under i r old_i in
                  let up = h.first.above in
                  let n : number_in a f ≡ number_in a s.0 = ap (λ (z : Filling × Lack). number_in a z.0) (only_one row s later.0 later.2).1 in
                  let m = h.first.number_is in
                  omega (arith, u, up, n, m)
            ]
            | inr later_i ↦ elim (at_either p.rows (row ∷ []) j s at_j) [
              | inl old_j ↦ let w = slice_get_within p.rows j s old_j in let q = later_i.1 ∙ past_is p.rows later_i.0 in absurd (omega (arith, less, w, q))
              | inr later_j ↦
                  let i_is = later_i.1 ∙ ap (past p.rows) (only_one row r later_i.0 later_i.2).0 in
                  let j_is = later_j.1 ∙ ap (past p.rows) (only_one row s later_j.0 later_j.2).0 in
                  absurd (omega (arith, less, i_is, j_is))
            ]
          ]

      one_lacks : LackTo (c.number + 1) (ls ++ l ∷ [])
      one_lacks = record {
        rows = p.rows ++ row ∷ [];
        lines_are = ap (λ xs. xs ++ l ∷ []) p.lines_are ∙ sym (map-append (λ (r : Filling × Lack). r.1) p.rows (row ∷ []));
        each = each_now;
        in_order = order_now;
        under = under_now;
        all = covered (ls ++ l ∷ []) (λ n told. (told.0, told.1, at_left ls (l ∷ []) told.0 told.1 told.2, told.3)) (past ls 0, l, at_right ls (l ∷ []) 0 l refl, is.format_is);
      }

    pub one_told : (FitsEach a others f → ⊥) → (now : List Lack) → AddsLack a others f ls now → LackTo (c.number + 1) now
    one_told none now (was_told told) = record {
      rows = p.rows;
      lines_are = p.lines_are;
      each = p.each;
      in_order = p.in_order;
      under = λ i r at. let u = p.under i r at in let up = h.first.above in omega (arith, u, up);
      all = covered ls (λ n t. t) told;
    }
    one_told none now (fits_all there) = absurd (none there)
    one_told none now (lacks l new is) = one_lacks l new is

  pub all_told : (from : ℕ) (ls : List Lack) → LackTo from ls → HasNoneFrom a own it from → AreLacks a own others it ls
  all_told from ls p h = record {
    rows = p.rows;
    lines_are = p.lines_are;
    each = p.each;
    in_order = p.in_order;
    all = λ g there has.
        elim (cases_lt (number_in a g) from) [
          | inl under ↦ p.all g there has under
          | inr from_here ↦ absurd (h.none g there has from_here)
        ];
  }
