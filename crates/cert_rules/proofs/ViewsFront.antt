-- Bits at the front of bits.
use Rattle.std.proofs.Common.{◌≡◌, refl, sym, ◌∙◌, ap, subst, ℕ, Bool, true, false, List, [], ◌∷◌, ◌++◌, map, append_assoc}
use Rattle.std.specs.Prelude.{nat_eq, ◌||◌, flat_map}
use Rattle.std.proofs.lemmas.Bool.{eqb-true}
use Rattle.std.proofs.lemmas.List.{append_cancel_left}
use Rattle.sem_profile.specs.Fields.{lists}
use Rattle.sem_expr.specs.declared.expr.Side.TheVariants.{Compressed}
use Rattle.cert_types.specs.declared.rule.Fact.TheVariants.{Done}
use Rattle.cert_rules.specs.Facts.{before, before_more}
use Rattle.cert_rules.specs.Views.{View, side_at, AgreeAll}

module _ (f g : View) where
  abbrev c_of : View → ℕ → List Bool
  c_of z i = side_at z i Compressed

  -- what stands at i's place begins the same bits in both
  pub record Place (i : ℕ) : Type 0 where
    pub rest : List Bool
    pub other : List Bool
    pub same : c_of f i ++ rest ≡ c_of g i ++ other

  here_or_later : (i k : ℕ) (ks : List ℕ) (r r' : List Bool) (b : Bool) → nat_eq k i ≡ b → (b || lists ks i) ≡ true →
      AgreeAll f g (map Done (before_more b k (before i ks))) → (c_of f k ++ flat_map (c_of f) ks) ++ r ≡ (c_of g k ++ flat_map (c_of g) ks) ++ r' →
      (lists ks i ≡ true → AgreeAll f g (map Done (before i ks)) → flat_map (c_of f) ks ++ r ≡ flat_map (c_of g) ks ++ r' → Place i) → Place i
  here_or_later i k ks r r' true e l h same later =
      let is : k ≡ i = eqb-true k i e in
      subst Place is record { rest = flat_map (c_of f) ks ++ r; other = flat_map (c_of g) ks ++ r'; same = sym (append_assoc (c_of f k) _ _) ∙ (same ∙ append_assoc (c_of g k) _ _) }
  here_or_later i k ks r r' false e l h same later =
      later l h.1 (append_cancel_left (c_of f k) _ _ (sym (append_assoc (c_of f k) _ _) ∙ (same ∙ (append_assoc (c_of g k) _ _ ∙ ap (λ z. z ++ (flat_map (c_of g) ks ++ r')) (sym h.0.0)))))

  pub place : (listing : List ℕ) (i : ℕ) (r r' : List Bool) → lists listing i ≡ true → AgreeAll f g (map Done (before i listing)) →
      flat_map (c_of f) listing ++ r ≡ flat_map (c_of g) listing ++ r' → Place i
  place [] i r r' l h same = absurd (cc)
  place (k ∷ ks) i r r' l h same = here_or_later i k ks r r' (nat_eq k i) refl l h same (λ l h same. place ks i r r' l h same)
