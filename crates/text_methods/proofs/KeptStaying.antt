-- What a statement means, and its faults, stay the same where fields are added behind the others.
use Rattle.std.proofs.Common.{◌≡◌, ◌∙◌, ap, refl, sym, subst, ℕ, true, false, List, [], ◌∷◌, Option, Some, None}
use Rattle.std.specs.Prelude.{is_some}
use Rattle.std.specs.List.{AllZip}
use Rattle.std.specs.Option.{option_or}
use Rattle.text_source.specs.declared.span.Span.{Span}
use Rattle.text_tree.specs.declared.tree.Bracket.{Bracket}
use Rattle.text_tree.specs.declared.tree.Encoding.{Encoding as TreeEncoding}
use Rattle.text_tree.specs.declared.tree.Expr.{Expr as Tree}
use Rattle.text_tree.specs.declared.tree.Item.{Item}
use Rattle.text_tree.specs.declared.tree.Item.TheVariants as items
use Rattle.sem_expr.specs.declared.expr.Expr.{Expr}
use Rattle.sem_expr.specs.declared.expr.Side.{Side}
use Rattle.sem_profile.specs.declared.profile.Constraint.{Constraint}
use Rattle.sem_profile.specs.declared.profile.Encoding.{Encoding}
use Rattle.sem_profile.specs.declared.profile.CrcArguments.{CrcArguments}
use Rattle.text_statements.specs.declared.term.TermKind.TheVariants as kind
use Rattle.text_statements.specs.Judged.{fault_of, first_of, wanted}
use Rattle.text_statements.specs.Names.{Names, field_of}
use Rattle.text_statements.proofs.NamesStaying.{widened, field_stays, meaning_stays, judgement_stays, conjuncts_stay, conjuncts_judged, data_stay, data_judged}
use Rattle.text_statements.specs.declared.arguments.Pair.{Pair}
use Rattle.text_statements.specs.declared.callee.Callee.{Callee}
use Rattle.text_statements.specs.declared.callee.Methods.{Methods}
use Rattle.text_statements.specs.Arguments.{IsNumber, IsSingle, ArePair, AreCrc, are_crc, count_fault}
use Rattle.text_statements.specs.Constraints.{BracketMeans, OptionalMeans, ItemMeans, on_index, bracket_fault, optional_fault, item_fault}
use Rattle.text_statements.specs.Constraints as parts
use Rattle.text_statements.specs.Encodings.{Means, Calls, callee_fault, call_fault}
use Rattle.text_statements.specs.Encodings as given
use Rattle.text_methods.specs.Kept.{names_field, Says, IsGiven, Gives, gives}

module _ (s : Names) (more : List (List ℕ)) where
  -- ---- numbers

  numbers_stay : (xs : List Tree) (es : List Expr) → AllZip (IsNumber s) xs es → AllZip (IsNumber (widened s more)) xs es
  numbers_stay [] [] h = tt
  numbers_stay [] (e ∷ es) h = absurd h
  numbers_stay (x ∷ xs) [] h = absurd h
  numbers_stay (x ∷ xs) (e ∷ es) h = (meaning_stays s more x _ h.0, numbers_stay xs es h.1)

  numbers_judged : (xs : List Tree) (es : List Expr) → AllZip (IsNumber s) xs es → first_of (fault_of kind.Number (widened s more)) xs ≡ first_of (fault_of kind.Number s) xs
  numbers_judged [] [] h = refl
  numbers_judged [] (e ∷ es) h = absurd h
  numbers_judged (x ∷ xs) [] h = absurd h
  numbers_judged (x ∷ xs) (e ∷ es) h = λ i. option_or (wanted kind.Number (judgement_stays s more x _ h.0 i)) (numbers_judged xs es h.1 i)

  -- ---- brackets and ENFORCE

  bracket_stays : (side : Side) (name : Span) (i : ℕ) (b : Bracket) (cs : List Constraint) → field_of s name ≡ Some i → BracketMeans s side name b cs → BracketMeans (widened s more) side name b cs
  bracket_stays side name i b cs known parts.variable = parts.variable
  bracket_stays side name i b cs known (parts.lengths {place = place} es are) =
      subst (λ o. BracketMeans (widened s more) side name b (on_index side place es o)) (field_stays s more name i known ∙ sym known) (parts.lengths es (numbers_stay _ es are))

  bracket_judged : (side : Side) (name : Span) (b : Bracket) (cs : List Constraint) → BracketMeans s side name b cs → bracket_fault (widened s more) b ≡ bracket_fault s b
  bracket_judged side name b cs parts.variable = refl
  bracket_judged side name b cs (parts.lengths es are) = numbers_judged _ es are

  optional_stays : (side : Side) (name : Span) (i : ℕ) (b : Option Bracket) (cs : List Constraint) → field_of s name ≡ Some i → OptionalMeans s side name b cs → OptionalMeans (widened s more) side name b cs
  optional_stays side name i b cs known parts.no_bracket = parts.no_bracket
  optional_stays side name i b cs known (parts.with_bracket h) = parts.with_bracket (bracket_stays side name i _ cs known h)

  optional_judged : (side : Side) (name : Span) (b : Option Bracket) (cs : List Constraint) → OptionalMeans s side name b cs → optional_fault (widened s more) b ≡ optional_fault s b
  optional_judged side name b cs parts.no_bracket = refl
  optional_judged side name b cs (parts.with_bracket h) = bracket_judged side name _ cs h

  known_by : (name : Span) (o : Option ℕ) → field_of s name ≡ o → is_some o ≡ true → (i : ℕ) × (field_of s name ≡ Some i)
  known_by name (Some i) e is = (i, e)
  known_by name None e is = let wrong : false ≡ true = is in absurd cc

  known : (name : Span) → is_some (field_of s name) ≡ true → (i : ℕ) × (field_of s name ≡ Some i)
  known name is = known_by name (field_of s name) refl is

  still_known : (name : Span) → is_some (field_of s name) ≡ true → is_some (field_of (widened s more) name) ≡ true
  still_known name is = let k = known name is in ap is_some (field_stays s more name k.0 k.1)

  item_stays : (side : Side) (item : Item) (cs : List Constraint) → names_field s item ≡ true → ItemMeans s side item cs → ItemMeans (widened s more) side item cs
  item_stays side item cs is (parts.field {name = name} h) = let k = known name is in parts.field (optional_stays side name k.0 _ cs k.1 h)
  item_stays side item cs is (parts.bound {b = b} h) = let k = known b.name is in parts.bound (optional_stays side b.name k.0 _ cs k.1 h)
  item_stays side item cs is (parts.enforced h) = parts.enforced (conjuncts_stay s more _ cs h)

  item_judged : (side : Side) (item : Item) (cs : List Constraint) → ItemMeans s side item cs → item_fault (widened s more) item ≡ item_fault s item
  item_judged side item cs (parts.field {name = name} h) = optional_judged side name _ cs h
  item_judged side item cs (parts.bound {b = b} h) = optional_judged side b.name _ cs h
  item_judged side item cs (parts.enforced h) = ap (wanted kind.Truth) (conjuncts_judged s more _ cs h)

  named_stays : (item : Item) → names_field s item ≡ true → names_field (widened s more) item ≡ true
  named_stays (items.Field name bracket) is = still_known name is
  named_stays (items.Bound b) is = still_known b.name is
  named_stays (items.Enforce at condition) is = refl

  -- ---- encodings

  pair_stays : (xs : List Tree) (p : Pair) → ArePair s xs p → ArePair (widened s more) xs p
  pair_stays xs p h = (h.0, h.1, h.2, meaning_stays s more h.0 _ h.3, meaning_stays s more h.1 _ h.4)

  pair_judged : (xs : List Tree) (p : Pair) → ArePair s xs p → first_of (fault_of kind.Number (widened s more)) xs ≡ first_of (fault_of kind.Number s) xs
  pair_judged xs p h =
      ap (first_of (fault_of kind.Number (widened s more))) h.2 ∙ numbers_judged (h.0 ∷ h.1 ∷ []) (p.first ∷ p.second ∷ []) (h.3, (h.4, tt)) ∙ sym (ap (first_of (fault_of kind.Number s)) h.2)

  single_judged : (xs : List Tree) (e : Expr) → IsSingle s xs e → first_of (fault_of kind.Number (widened s more)) xs ≡ first_of (fault_of kind.Number s) xs
  single_judged xs e h =
      ap (first_of (fault_of kind.Number (widened s more))) h.1 ∙ numbers_judged (h.0 ∷ []) (e ∷ []) (h.2, tt) ∙ sym (ap (first_of (fault_of kind.Number s)) h.1)

  crc_stays : (xs : List Tree) (c : CrcArguments) → AreCrc s xs c → AreCrc (widened s more) xs c
  crc_stays xs c (are_crc h) = are_crc (record {
    bits_is = meaning_stays s more _ _ h.bits_is;
    polynomial_is = meaning_stays s more _ _ h.polynomial_is;
    initial_is = meaning_stays s more _ _ h.initial_is;
    data_is = data_stay s more _ _ h.data_is;
    length_is = meaning_stays s more _ _ h.length_is;
  })

  calls_stay : (methods : Methods) (c : Callee) (xs : List Tree) (e : Encoding) → Calls s methods c xs e → Calls (widened s more) methods c xs e
  calls_stay methods c xs e (given.uncompressed_value p h) = given.uncompressed_value p (pair_stays xs p h)
  calls_stay methods c xs e (given.compressed_value p h) = given.compressed_value p (pair_stays xs p h)
  calls_stay methods c xs e (given.irregular h) = given.irregular (h.0, h.1, meaning_stays s more h.0 _ h.2)
  calls_stay methods c xs e (given.static h) = given.static h
  calls_stay methods c xs e (given.lsb p h) = given.lsb p (pair_stays xs p h)
  calls_stay methods c xs e (given.crc h) = given.crc (crc_stays xs _ h)
  calls_stay methods c xs e (given.own h) = given.own (h.0, numbers_stay xs _ h.1)

  calls_judged : (methods : Methods) (name : Span) (c : Callee) (xs : List Tree) (e : Encoding) → Calls s methods c xs e → call_fault (widened s more) methods name c xs ≡ call_fault s methods name c xs
  calls_judged methods name c xs e (given.uncompressed_value p h) = ap (option_or (count_fault name 2 xs)) (pair_judged xs p h)
  calls_judged methods name c xs e (given.compressed_value p h) = ap (option_or (count_fault name 2 xs)) (pair_judged xs p h)
  calls_judged methods name c xs e (given.irregular h) = ap (option_or (count_fault name 1 xs)) (single_judged xs _ h)
  calls_judged methods name c xs e (given.static h) = refl
  calls_judged methods name c xs e (given.lsb p h) = ap (option_or (count_fault name 2 xs)) (pair_judged xs p h)
  calls_judged methods name c xs e (given.crc (are_crc h)) = λ i.
      option_or (wanted kind.Number (judgement_stays s more _ _ h.bits_is i))
      (option_or (wanted kind.Number (judgement_stays s more _ _ h.polynomial_is i))
      (option_or (wanted kind.Number (judgement_stays s more _ _ h.initial_is i))
      (option_or (data_judged s more _ _ h.data_is i) (wanted kind.Number (judgement_stays s more _ _ h.length_is i)))))
  calls_judged methods name c xs e (given.own h) = ap (option_or (count_fault name _ xs)) (numbers_judged xs _ h.1)

  encoding_stays : (methods : Methods) (g : TreeEncoding) (e : Encoding) → Means s methods g e → Means (widened s more) methods g e
  encoding_stays methods g e given.bits = given.bits
  encoding_stays methods g e (given.call c is h) = given.call c is (calls_stay methods c _ e h)

  encoding_judged : (methods : Methods) (g : TreeEncoding) (e : Encoding) → Means s methods g e → given.fault_of (widened s more) methods g ≡ given.fault_of s methods g
  encoding_judged methods g e given.bits = refl
  encoding_judged methods g e (given.call {name = name} {arguments = xs} c is h) =
      ap (λ o. callee_fault (widened s more) methods name o xs) is ∙ calls_judged methods name c xs e h ∙ sym (ap (λ o. callee_fault s methods name o xs) is)

  -- ---- what is kept of a statement

  pub said_stays : (item : Item) (cs : List Constraint) → Says s item cs → Says (widened s more) item cs
  said_stays item cs h = record {
    named = named_stays item h.named;
    means = item_stays _ item cs h.named h.means;
    fine = item_judged _ item cs h.means ∙ h.fine;
  }

  given_stays : (methods : Methods) (g : TreeEncoding) (e : Encoding) → IsGiven s methods g e → IsGiven (widened s more) methods g e
  given_stays methods g e h = record { means = encoding_stays methods g e h.means; fine = encoding_judged methods g e h.means ∙ h.fine }

  pub gives_stays : (methods : Methods) (item : Item) (e : Encoding) → Gives s methods item e → Gives (widened s more) methods item e
  gives_stays methods item e (gives is h) = gives is (given_stays methods _ e h)
