-- The worked certificates of version two are right.
use Rattle.std.proofs.Common.{◌≡◌, refl, sym, ◌∙◌, ap, subst, ℕ, zero, suc, ◌<◌, Bool, true, false, List, [], ◌∷◌, arith}
use Rattle.std.specs.Prelude.{Option, Some, None, slice_get, pos, negsuc, ℤ, Box}
use Rattle.std.specs.Global.{Global}
use Rattle.std.proofs.lemmas.Int.{ints}
use Rattle.sem_profile.specs.declared.profile.Format.{Format}
use Rattle.sem_profile.specs.declared.profile.FormatSizes.{FormatSizes}
use Rattle.cert_types.specs.declared.certificate.Node.{Node}
use Rattle.cert_types.specs.declared.certificate.Node.TheVariants as node
use Rattle.cert_rules.specs.Trees.{Reach, reach_at, Reaches, everything, IsRight, PartsFormats}
use Rattle.cert_rules.specs.Worked as w

some_is : {A : Type 0} (x y : A) → Some x ≡ Some y → x ≡ y
some_is x y e = cc

false_true : {P : Type 0} → false ≡ true → P
false_true e = absurd (cc)

-- what reaches a node, where that is told
told : (formats : List Format) (n : ℕ) (format : Format) (sizes : FormatSizes) (this : Reach) (reach : Reach) → Some this ≡ Some reach → reach format sizes ≡ true → this format sizes ≡ true
told formats n format sizes this reach is here = ap (λ (z : Reach). z format sizes) (some_is this reach is) ∙ here

module _ (reach : Reach) where
  first_only : reach_at (everything ∷ []) (w.mode_tree (pos 0)) 1 ≡ Some reach → (n : ℕ) (format : Format) (sizes : FormatSizes) → slice_get (w.whole ∷ w.part ∷ []) n ≡ Some format → reach format sizes ≡ true → n ≡ 0
  first_only is zero format sizes f here = refl
  first_only is (suc zero) format sizes f here = false_true (told [] 1 w.part sizes _ reach is (subst (λ z. reach z sizes ≡ true) (sym (some_is w.part format f)) here))
  first_only is (suc (suc n)) format sizes f here = absurd (cc)

  second_only : reach_at (everything ∷ []) (w.mode_tree (pos 0)) 2 ≡ Some reach → (n : ℕ) (format : Format) (sizes : FormatSizes) → slice_get (w.whole ∷ w.part ∷ []) n ≡ Some format → reach format sizes ≡ true → n ≡ 1
  second_only is zero format sizes f here = false_true (told [] 0 w.whole sizes _ reach is (subst (λ z. reach z sizes ≡ true) (sym (some_is w.whole format f)) here))
  second_only is (suc zero) format sizes f here = refl
  second_only is (suc (suc n)) format sizes f here = absurd (cc)

node_at : (P : Node → Type 0) (x y : Node) → Some x ≡ Some y → P x → P y
node_at P x y e h = subst P (some_is x y e) h

right : (n : ℕ) (x : Node) (reach : Reach) → slice_get (w.mode_tree (pos 0)) n ≡ Some x → reach_at (everything ∷ []) (w.mode_tree (pos 0)) n ≡ Some reach → IsRight (w.whole ∷ w.part ∷ []) w.mode_sizes reach x
right zero x reach h is = node_at (IsRight (w.whole ∷ w.part ∷ []) w.mode_sizes reach) (node.Reference 1 (pos 0)) x h (0, refl, omega arith)
right (suc zero) x reach h is = node_at (IsRight (w.whole ∷ w.part ∷ []) w.mode_sizes reach) (node.Leaf 0) x h (λ n r. first_only reach is n r.format r.sizes r.format_at r.reaches)
right (suc (suc zero)) x reach h is = node_at (IsRight (w.whole ∷ w.part ∷ []) w.mode_sizes reach) (node.Leaf 1) x h (λ n r. second_only reach is n r.format r.sizes r.format_at r.reaches)
right (suc (suc (suc n))) x reach h is = absurd (cc)

pub mode_is_right : w.ModeIsRight
mode_is_right = record {
  tree = record { whole = refl; each = right };
  whole_read = record { enabled = refl; complete = refl };
  whole_written = record { enabled = refl; complete = refl };
  part_read = record { enabled = refl; complete = refl };
  part_written = record { enabled = refl; complete = refl };
  beyond = λ h. let short = h.each 0 (node.Reference 1 (negsuc 0)) everything refl refl in let wrong : negsuc 0 ≡ pos short.0 = short.1 in absurd (cc);
}

pub turn_is_right : (b : Box (Unit {0}) Global) → w.TurnIsRight b
turn_is_right b = record {
  read = record { enabled = refl; complete = refl };
  written = record { enabled = refl; complete = refl };
  only_two = refl;
  too_few = refl;
}
