-- What is known at the start.
use Rattle.std.proofs.Common.{◌≡◌, refl, sym, ◌∙◌, ap, subst, ℕ, suc, ◌+◌, ◌<◌, ◌≤◌, ◌≢◌, Bool, true, false, List, [], ◌∷◌, ◌++◌, length, drop, get_or, map, inl, inr, arith}
use Rattle.std.specs.Prelude.{nat_eq, ◌&&◌, ◌||◌}
use Rattle.std.proofs.lemmas.Bool.{eq-eqb, ne_eqb, and_left, or_from, cases_eq, cases_lt}
use Rattle.std.proofs.lemmas.List.{get_or-map, length-map, drop_all, append-nil}
use Rattle.sem_expr.specs.declared.expr.Side.TheVariants.{Uncompressed, Compressed}
use Rattle.sem_profile.specs.declared.profile.Field.{Field}
use Rattle.sem_profile.specs.declared.profile.Format.{Format}
use Rattle.sem_profile.specs.Fields.{lists}
use Rattle.cert_types.specs.declared.rule.Fact.{Fact}
use Rattle.cert_types.specs.declared.rule.Fact.TheVariants.{LengthOf, BitsOf, Done}
use Rattle.cert_rules.specs.Facts as facts
use Rattle.cert_rules.specs.Facts.{has, unlisted}
use Rattle.cert_rules.specs.Plans.{known_at_start}
use Rattle.cert_plans.specs.declared.knowledge.FieldKnowledge.{FieldKnowledge}
use Rattle.cert_plans.specs.Knowing.{field_of, shows_of, nothing, at_start}
use Rattle.cert_plans.specs.Listed.{AreFlags}
use Rattle.cert_plans.proofs.Knowing.{shows_past}

with_true : (b h : Bool) → (b || h) ≡ ((b && true) || h)
with_true true h = refl
with_true false h = refl

with_false : (b h : Bool) → h ≡ ((b && false) || h)
with_false true h = refl
with_false false h = refl

-- what a field adds that is listed, or isn't
first_has : (listed : Bool) (n : ℕ) (x : Fact) (xs : List Fact) → has (unlisted listed n xs) x ≡ ((nat_eq n (field_of x) && shows_of (at_start listed) x) || has xs x)
first_has true n (LengthOf Uncompressed i) xs = with_false (nat_eq n i) _
first_has true n (LengthOf Compressed i) xs = with_false (nat_eq n i) _
first_has true n (BitsOf Uncompressed i) xs = with_false (nat_eq n i) _
first_has true n (BitsOf Compressed i) xs = with_false (nat_eq n i) _
first_has true n (Done i) xs = with_false (nat_eq n i) _
first_has false n (LengthOf Uncompressed i) xs = with_false (nat_eq n i) _
first_has false n (LengthOf Compressed i) xs = with_true (nat_eq n i) _
first_has false n (BitsOf Uncompressed i) xs = with_false (nat_eq n i) _
first_has false n (BitsOf Compressed i) xs = with_true (nat_eq n i) _
first_has false n (Done i) xs = with_false (nat_eq n i) _

-- the first field's, where the others have nothing
settled : (b s r : Bool) → b ≡ true → r ≡ false → ((b && s) || r) ≡ s
settled true true r p q = refl
settled true false r p q = q
settled false s r p q = absurd (cc)

module _ (listing : List ℕ) (x : Fact) where
  -- the field of x is none of these: it is before them, or after them
  elsewhere : (n : ℕ) (ds : List Field) → ((j : ℕ) → j < length ds → n + j ≢ field_of x) → has (facts.at_start listing n ds) x ≡ false
  elsewhere n [] apart = refl
  elsewhere n (d ∷ ds) apart =
      first_has (lists listing n) n x (facts.at_start listing (suc n) ds)
      ∙ or_from _ _ (and_left (nat_eq n (field_of x)) _ (ne_eqb n (field_of x) (λ e. apart 0 (omega arith) (omega (arith, e)))))
      (elsewhere (suc n) ds (λ j h e. apart (suc j) (omega (arith, h)) (omega (arith, e))))

  -- it is one of these
  within : (n : ℕ) (ds : List Field) → n ≤ field_of x → field_of x < n + length ds → has (facts.at_start listing n ds) x ≡ shows_of (at_start (lists listing (field_of x))) x
  within n [] l h = absurd (omega (arith, l, h))
  within n (d ∷ ds) l h = first_has (lists listing n) n x (facts.at_start listing (suc n) ds) ∙ elim (cases_eq n (field_of x)) [
    | inl e ↦ settled (nat_eq n (field_of x)) (shows_of (at_start (lists listing n)) x) (has (facts.at_start listing (suc n) ds) x) (eq-eqb n (field_of x) e)
        (elsewhere (suc n) ds (λ j h d. absurd (omega (arith, e, d))))
        ∙ ap (λ k. shows_of (at_start (lists listing k)) x) e
    | inr d ↦ ap (λ z. (z && shows_of (at_start (lists listing n)) x) || has (facts.at_start listing (suc n) ds) x) (ne_eqb n (field_of x) d)
        ∙ within (suc n) ds (omega (arith, l, d)) (omega (arith, h))
  ]

-- by the flags, what is shown is what is known at the start
pub start_shown : (format : Format) (flags : List Bool) (x : Fact) → AreFlags format flags → shows_of (get_or (map at_start flags) (field_of x) nothing) x ≡ has (known_at_start format) x
start_shown format flags x are = elim (cases_lt (field_of x) (length format.fields)) [
  | inl h ↦ ap (λ (f : FieldKnowledge). shows_of f x) (get_or-map at_start flags (field_of x) false nothing (subst (λ n. field_of x < n) (sym are.each) h))
      ∙ ap (λ b. shows_of (at_start b) x) (are.right (field_of x) h)
      ∙ sym (within format.listing x 0 format.fields (omega arith) (omega (arith, h)))
  | inr h ↦ shows_past (map at_start flags) x (let e = length-map flags at_start in let f = are.each in omega (arith, e, f, h))
      ∙ sym (elsewhere format.listing x 0 format.fields (λ j l e. absurd (omega (arith, l, e, h))))
]

-- the same where all flags are gone through
pub start_known : (format : Format) (flags items : List Bool) (i : ℕ) (fields : List FieldKnowledge) → AreFlags format flags → items ≡ flags → length items ≤ i → fields ++ map at_start (drop i items) ≡ map at_start items →
    fields ≡ map at_start flags
start_known format flags items i fields are same end l =
    sym (append-nil fields) ∙ ap (λ z. fields ++ map at_start z) (sym (drop_all i items end)) ∙ l ∙ ap (map at_start) same
