-- Facts that are written out, one after the other.
use Rattle.std.proofs.Common.{◌≡◌, ◌⊎◌, refl, sym, ◌∙◌, ap, subst, ℕ, ◌+◌, ◌<◌, Bool, true, false, List, [], ◌∷◌, ◌++◌, length, take, get_or, append_assoc, inl, inr}
use Rattle.std.specs.Prelude.{Result, OnOk, ◌&&◌}
use Rattle.std.proofs.lemmas.Result.{on_ok_weaker}
use Rattle.std.specs.List.{list_all}
use Rattle.std.proofs.lemmas.List.{append-nil, take_more}
use Rattle.std.proofs.lemmas.List.Folds.{list_all-append}
use Rattle.sem_expr.specs.declared.expr.Expr.{Expr}
use Rattle.sem_expr.specs.declared.expr.Side.{Side}
use Rattle.sem_expr.specs.declared.expr.Side.TheVariants.{Uncompressed, Compressed}
use Rattle.sem_expr.specs.declared.expr.Measure.{Measure}
use Rattle.sem_expr.specs.declared.expr.Measure.TheVariants.{Length, Value}
use Rattle.sem_expr.specs.declared.expr.Subject.TheVariants.{This}
use Rattle.sem_profile.specs.declared.profile.Format.{Format}
use Rattle.cert_types.specs.declared.rule.Fact.{Fact}
use Rattle.cert_rules.specs.Facts.{side_facts, inputs, inputs_of_all}
use Rattle.cert_plans.specs.declared.needs.Need.{Need}
use Rattle.cert_plans.specs.Needing.{facts_of, facts_of_all}
use Rattle.cert_prove.specs.declared.needed.Wholes.{Wholes}
use Rattle.cert_prove.specs.Needed.{is_in, with_whole, AskTheSame, AreWritten, Adds}

first_true : (a b : Bool) → (a && b) ≡ true → a ≡ true
first_true true b e = refl
first_true false b e = e

second_true : (a b : Bool) → (a && b) ≡ true → b ≡ true
second_true true b e = e
second_true false b e = absurd (cc)

implied : (a b : Bool) → (a ≡ true → b ≡ true) → a ≡ (a && b)
implied true b h = sym (h refl)
implied false b h = refl

-- one more is itself or one of those before
with_in : (w : Wholes) (side : Side) (measure : Measure) (s : Side) (m : Measure) → is_in (with_whole w side measure) s m ≡ true → ((side ≡ s) × (measure ≡ m)) ⊎ (is_in w s m ≡ true)
with_in w Uncompressed Length Uncompressed Length e = inl (refl, refl)
with_in w Uncompressed Value Uncompressed Value e = inl (refl, refl)
with_in w Compressed Length Compressed Length e = inl (refl, refl)
with_in w Compressed Value Compressed Value e = inl (refl, refl)
with_in w Uncompressed Length Uncompressed Value e = inr e
with_in w Uncompressed Length Compressed Length e = inr e
with_in w Uncompressed Length Compressed Value e = inr e
with_in w Uncompressed Value Uncompressed Length e = inr e
with_in w Uncompressed Value Compressed Length e = inr e
with_in w Uncompressed Value Compressed Value e = inr e
with_in w Compressed Length Uncompressed Length e = inr e
with_in w Compressed Length Uncompressed Value e = inr e
with_in w Compressed Length Compressed Value e = inr e
with_in w Compressed Value Uncompressed Length e = inr e
with_in w Compressed Value Uncompressed Value e = inr e
with_in w Compressed Value Compressed Length e = inr e

-- one more is taken
pub take_more_is : {X : Type 0} (xs : List X) (i : ℕ) (x : X) → i < length xs → x ≡ get_or xs i x → take (i + 1) xs ≡ take i xs ++ x ∷ []
take_more_is xs i x within is = take_more xs i x within ∙ ap (λ z. take i xs ++ z ∷ []) (sym is)

module _ (format : Format) where
  -- nothing is written at first
  pub none_written : (w : Wholes) → w ≡ record { uncompressed_length = false; uncompressed_bits = false; compressed_length = false; compressed_bits = false } → AreWritten format [] [] w
  none_written w e = record { same = λ known. refl; written = λ side measure h. absurd (by side measure (subst (λ z. is_in z side measure ≡ true) e h)) } where
    by : (side : Side) (measure : Measure) → is_in (record { uncompressed_length = false; uncompressed_bits = false; compressed_length = false; compressed_bits = false }) side measure ≡ true → ⊥
    by Uncompressed Length h = absurd (cc)
    by Uncompressed Value h = absurd (cc)
    by Compressed Length h = absurd (cc)
    by Compressed Value h = absurd (cc)

  -- nothing more
  pub adds_none : (facts : List Fact) (w : Wholes) → Adds format [] facts w facts w
  adds_none facts w = λ asked so. subst (λ z. AreWritten format z facts w) (sym (append-nil asked)) so

  -- one after the other
  pub adds_both : (xs ys facts mid last : List Fact) (w v u : Wholes) → Adds format xs facts w mid v → Adds format ys mid v last u → Adds format (xs ++ ys) facts w last u
  adds_both xs ys facts mid last w v u a b = λ asked so. subst (λ z. AreWritten format z last u) (append_assoc asked xs ys) (b (asked ++ xs) (a asked so))

  -- what is written out at the end
  same_then : (xs facts new asked : List Fact) → new ≡ facts ++ xs → AskTheSame facts asked → AskTheSame new (asked ++ xs)
  same_then xs facts new asked e same known = ap (list_all known) e ∙ (list_all-append known facts xs ∙ (ap (λ b. b && list_all known xs) (same known) ∙ sym (list_all-append known asked xs)))

  still : (xs asked : List Fact) (known : Fact → Bool) → list_all known (asked ++ xs) ≡ true → list_all known asked ≡ true
  still xs asked known all = first_true (list_all known asked) (list_all known xs) (sym (list_all-append known asked xs) ∙ all)

  pub adds_all : (xs facts new : List Fact) (w : Wholes) → new ≡ facts ++ xs → Adds format xs facts w new w
  adds_all xs facts new w e = λ asked so. record {
    same = same_then xs facts new asked e so.same;
    written = λ side measure is known all. so.written side measure is known (still xs asked known all);
  }

  pub pushed : {T E : Type 0} (xs facts new : List Fact) (w : Wholes) (r : Result T E) → OnOk r (new ≡ facts ++ xs) → OnOk r (Adds format xs facts w new w)
  pushed xs facts new w r h = on_ok_weaker r (adds_all xs facts new w) h

  pub joined : {T E : Type 0} (xs ys facts mid last : List Fact) (w v u : Wholes) (r : Result T E) → Adds format xs facts w mid v → OnOk r (Adds format ys mid v last u) → OnOk r (Adds format (xs ++ ys) facts w last u)
  joined xs ys facts mid last w v u r a h = on_ok_weaker r (adds_both xs ys facts mid last w v u a) h

  module _ (side : Side) (measure : Measure) where
    abbrev whole : List Fact
    whole = side_facts format This side measure

    -- THIS that is written out
    pub adds_no_more : (facts : List Fact) (w : Wholes) → is_in w side measure ≡ true → Adds format whole facts w facts w
    adds_no_more facts w has = λ asked so. record {
      same = λ known. so.same known ∙ (implied (list_all known asked) (list_all known whole) (λ h. so.written side measure has known h) ∙ sym (list_all-append known asked whole));
      written = λ s m there known all. so.written s m there known (still whole asked known all);
    }

    -- and THIS that isn't
    pub adds_whole : (facts new : List Fact) (w v : Wholes) → new ≡ facts ++ whole → v ≡ with_whole w side measure → Adds format whole facts w new v
    adds_whole facts new w v e marks = λ asked so. record {
      same = same_then whole facts new asked e so.same;
      written = λ s m is known all. elim (with_in w side measure s m (subst (λ z. is_in z s m ≡ true) marks is)) [
        | inl p ↦
            subst (λ z. list_all known (side_facts format This z m) ≡ true) p.0
            (subst (λ z. list_all known (side_facts format This side z) ≡ true) p.1 (second_true (list_all known asked) (list_all known whole) (sym (list_all-append known asked whole) ∙ all)))
        | inr h ↦ so.written s m h known (still whole asked known all)
      ];
    }

    pub whole_pushed : {T E : Type 0} (facts new : List Fact) (w v : Wholes) (r : Result T E) → v ≡ with_whole w side measure → OnOk r (new ≡ facts ++ whole) → OnOk r (Adds format whole facts w new v)
    whole_pushed facts new w v r marks h = on_ok_weaker r (λ e. adds_whole facts new w v e marks) h

  -- one need more
  of_all_more : (needs more : List Need) → facts_of_all format (needs ++ more) ≡ facts_of_all format needs ++ facts_of_all format more
  of_all_more [] more = refl
  of_all_more (n ∷ ns) more = ap (λ z. facts_of format n ++ z) (of_all_more ns more) ∙ sym (append_assoc (facts_of format n) (facts_of_all format ns) (facts_of_all format more))

  pub need_more : (needs : List Need) (i : ℕ) (n : Need) (facts new : List Fact) (w v : Wholes) → take (i + 1) needs ≡ take i needs ++ n ∷ [] →
      AreWritten format (facts_of_all format (take i needs)) facts w → Adds format (facts_of format n) facts w new v → AreWritten format (facts_of_all format (take (i + 1) needs)) new v
  need_more needs i n facts new w v next so adds =
      let joined = ap (facts_of_all format) next ∙ (of_all_more (take i needs) (n ∷ []) ∙ ap (λ z. facts_of_all format (take i needs) ++ z) (append-nil (facts_of format n))) in
      subst (λ z. AreWritten format z new v) (sym joined) (adds (facts_of_all format (take i needs)) so)

  -- one expression more
  of_exprs_more : (es more : List Expr) → inputs_of_all format (es ++ more) ≡ inputs_of_all format es ++ inputs_of_all format more
  of_exprs_more [] more = refl
  of_exprs_more (e ∷ es) more = ap (λ z. inputs format e ++ z) (of_exprs_more es more) ∙ sym (append_assoc (inputs format e) (inputs_of_all format es) (inputs_of_all format more))

  pub expr_more : (es : List Expr) (i : ℕ) (e : Expr) (facts mid new : List Fact) (w v u : Wholes) → take (i + 1) es ≡ take i es ++ e ∷ [] →
      Adds format (inputs_of_all format (take i es)) facts w mid v → Adds format (inputs format e) mid v new u → Adds format (inputs_of_all format (take (i + 1) es)) facts w new u
  expr_more es i e facts mid new w v u next so adds =
      let joined = ap (inputs_of_all format) next ∙ (of_exprs_more (take i es) (e ∷ []) ∙ ap (λ z. inputs_of_all format (take i es) ++ z) (append-nil (inputs format e))) in
      subst (λ z. Adds format z facts w new u) (sym joined) (adds_both (inputs_of_all format (take i es)) (inputs format e) facts mid new w v u so adds)
