-- The form of each rule: on which field, what hinders it, and what it gives.
use Rattle.std.proofs.Common.{◌≡◌, refl, sym, ◌∙◌, ap, subst, ℕ, suc, ◌<◌, Bool, true, false, List, [], ◌∷◌, ◌++◌, length, ◌⊎◌, inl, inr}
use Rattle.std.specs.Prelude.{Some, slice_get, option_and_then, ◌&&◌, not}
use Rattle.std.proofs.lemmas.Bool.{and_parts, or_cases}
use Rattle.std.proofs.lemmas.Option.{slice_get_within}
use Rattle.sem_expr.specs.declared.expr.Side.TheVariants.{Uncompressed, Compressed}
use Rattle.sem_profile.specs.declared.profile.Library.{Library}
use Rattle.sem_profile.specs.declared.profile.Encoding.{Encoding}
use Rattle.sem_profile.specs.declared.profile.Encoding.TheVariants as encoding
use Rattle.sem_profile.specs.declared.profile.Field.{Field}
use Rattle.sem_profile.specs.declared.profile.Format.{Format}
use Rattle.sem_profile.specs.declared.profile.FormatSizes.{FormatSizes}
use Rattle.sem_profile.specs.declared.profile.MethodSizes.{MethodSizes}
use Rattle.sem_profile.specs.Fields.{lists}
use Rattle.sem_filling.specs.Fillings.{is_header}
use Rattle.sem_filling.proofs.FitsSized.{and_then_some, map_some}
use Rattle.cert_types.specs.Steps.{field_of}
use Rattle.cert_types.specs.declared.certificate.Version.{Version}
use Rattle.cert_types.specs.declared.certificate.Direction.{Direction}
use Rattle.cert_types.specs.declared.certificate.Direction.TheVariants.{Read, Write}
use Rattle.cert_types.specs.declared.certificate.Step.{Step}
use Rattle.cert_types.specs.declared.certificate.Step.TheVariants.{Take, Call, LibraryUp, LibraryDown, MethodLength, ConstraintLength, Solve, Choose, Ask}
use Rattle.cert_types.specs.declared.rule.Fact.{Fact}
use Rattle.cert_types.specs.declared.rule.Fact.TheVariants.{LengthOf, BitsOf, Done}
use Rattle.cert_types.specs.declared.rule.Rule.{Rule}
use Rattle.cert_rules.specs.Facts.{same_fact, has, inputs, inputs_of_all, unlisted, at_start}
use Rattle.cert_rules.specs.Rules.{rule, rule_once, when, is_call, by_library, up_needs, down_needs, length_needs, length_given, value_given, Congruence, remainder_given, from_two, by_length, by_equation, by_remainder, by_value, listed_before, where_true, all_of, read_take, read_call, read_rule, headers_before, is_headless, own_bits, in_header, write_take, write_call, choice, write_rule}
use Rattle.cert_rules.specs.Plans.{rule_of, known_at_start}
use Rattle.cert_rules.proofs.ViewsAgree.{not_true, when_some, same_is}
use Rattle.cert_rules.proofs.RulesConstraints.{given_cases}
use Rattle.cert_rules.proofs.Steps.{from_two_some}

-- what a step wants undone
abbrev pub undone : Step → List Fact
undone (Take i) = Done i ∷ []
undone (Call i) = Done i ∷ []
undone _ = []

-- whether the field is one that is taken, or called
abbrev pub Does : Step → Field → Type 0
Does (Take i) d = is_call d.encoding ≡ false
Does (Call i) d = is_call d.encoding ≡ true
Does _ d = Unit {0}

-- its constraint is one of so many
abbrev pub Within : Step → ℕ → Type 0
Within (ConstraintLength i side n) constraints = n < constraints
Within (Solve i n) constraints = n < constraints
Within _ constraints = Unit {0}

-- only writing chooses and asks
abbrev pub IsOfDirection : Direction → Step → Type 0
IsOfDirection Read (Choose i) = ⊥
IsOfDirection Read (Ask i) = ⊥
IsOfDirection _ _ = Unit {0}

pub record Shape (format : Format) (s : Step) (r : Rule) : Type 0 where
  pub field : Field
  pub is_field : slice_get format.fields (field_of s) ≡ Some field
  pub absent_is : r.absent ≡ undone s
  pub done_by : (j : ℕ) → has r.gives (Done j) ≡ true → has (undone s) (Done j) ≡ true
  pub does : Does s field
  pub within : Within s (length format.constraints)

module _ (version : Version) (sizes : FormatSizes) (format : Format) where
  by_method : (needs : Library → List Fact) (gives : List Fact) (e : Encoding) (r : Rule) → by_library needs gives e ≡ Some r → (r.absent ≡ []) × (r.gives ≡ gives)
  by_method needs gives (encoding.Library l) r e =
      let same : rule (needs l) gives ≡ r = cc in (ap (λ (z : Rule). z.absent) (sym same), ap (λ (z : Rule). z.gives) (sym same))
  by_method needs gives encoding.Bare r e = absurd (cc)
  by_method needs gives (encoding.Call k es) r e = absurd (cc)

  called : (i : ℕ) (e : Encoding) (r : Rule) → read_call format i e ≡ Some r → (is_call e ≡ true) × (r.absent ≡ Done i ∷ []) × (r.gives ≡ all_of i)
  called i (encoding.Call k es) r e =
      let same : rule_once i (inputs_of_all format es ++ where_true (lists format.listing i) (listed_before format i)) (all_of i) ≡ r = cc in
      (refl, ap (λ (z : Rule). z.absent) (sym same), ap (λ (z : Rule). z.gives) (sym same))
  called i encoding.Bare r e = absurd (cc)
  called i (encoding.Library l) r e = absurd (cc)

  library_shape : (s : Step) (needs : Library → List Fact) (gives : List Fact) (r : Rule) → option_and_then (λ d. by_library needs gives d.encoding) (slice_get format.fields (field_of s)) ≡ Some r →
      undone s ≡ [] → ((j : ℕ) → has gives (Done j) ≡ true → has (undone s) (Done j) ≡ true) → ((d : Field) → Does s d) → Within s (length format.constraints) → Shape format s r
  library_shape s needs gives r e plain none does within =
      let a = and_then_some (λ d. by_library needs gives d.encoding) (slice_get format.fields (field_of s)) r e in
      let b = by_method needs gives a.0.encoding r a.2 in
      record { field = a.0; is_field = a.1; absent_is = b.0 ∙ sym plain; done_by = λ j h. none j (subst (λ z. has z (Done j) ≡ true) b.1 h); does = does a.0; within = within }

  -- a value by either equation
  value_parts : (i n : ℕ) (r : Rule) → by_value version sizes format i n ≡ Some r → (r.absent ≡ []) × (r.gives ≡ BitsOf Uncompressed i ∷ []) × (n < length format.constraints)
  value_parts i n r e =
      given_cases (by_equation format i n) (from_two version (by_remainder sizes format i n)) r (λ r. (r.absent ≡ []) × (r.gives ≡ BitsOf Uncompressed i ∷ []) × (n < length format.constraints)) e
      (λ r e.
      let m = map_some (λ e. rule (LengthOf Uncompressed i ∷ inputs format e) (BitsOf Uncompressed i ∷ [])) (option_and_then (value_given i) (slice_get format.constraints n)) r e in
      let k = and_then_some (value_given i) (slice_get format.constraints n) m.0 m.1 in
      (ap (λ (z : Rule). z.absent) (sym m.2), ap (λ (z : Rule). z.gives) (sym m.2), slice_get_within format.constraints n k.0 k.1))
      (λ r e.
      let m = map_some (λ (c : Congruence). rule (LengthOf Uncompressed i ∷ inputs format c.more ++ inputs format c.left) (BitsOf Uncompressed i ∷ [])) (option_and_then (remainder_given sizes i) (slice_get format.constraints n)) r
      (from_two_some version (by_remainder sizes format i n) r e) in
      let k = and_then_some (remainder_given sizes i) (slice_get format.constraints n) m.0 m.1 in
      (ap (λ (z : Rule). z.absent) (sym m.2), ap (λ (z : Rule). z.gives) (sym m.2), slice_get_within format.constraints n k.0 k.1))

  read_shape : (s : Step) (r : Rule) → read_rule version sizes format s ≡ Some r → Shape format s r
  read_shape (Take i) r e =
      let a = and_then_some (read_take format i) (slice_get format.fields i) r e in
      let w = when_some (lists format.listing i && not (is_call a.0.encoding)) (rule_once i (LengthOf Compressed i ∷ listed_before format i) (BitsOf Compressed i ∷ Done i ∷ [])) r a.2 in
      record {
        field = a.0;
        is_field = a.1;
        absent_is = ap (λ (z : Rule). z.absent) (sym w.1);
        done_by = λ j h. subst (λ (z : Rule). has z.gives (Done j) ≡ true) (sym w.1) h;
        does = not_true (is_call a.0.encoding) (and_parts (lists format.listing i) (not (is_call a.0.encoding)) w.0).1;
        within = tt;
      }
  read_shape (Call i) r e =
      let a = and_then_some (λ d. read_call format i d.encoding) (slice_get format.fields i) r e in
      let c = called i a.0.encoding r a.2 in
      record { field = a.0; is_field = a.1; absent_is = c.1; done_by = λ j h. subst (λ z. has z (Done j) ≡ true) c.2 h; does = c.0; within = tt }
  read_shape (LibraryUp i) r e = library_shape (LibraryUp i) (up_needs format i) (LengthOf Uncompressed i ∷ BitsOf Uncompressed i ∷ []) r e refl (λ j h. absurd (cc)) (λ d. tt) tt
  read_shape (LibraryDown i) r e = library_shape (LibraryDown i) (down_needs format i) (LengthOf Compressed i ∷ BitsOf Compressed i ∷ []) r e refl (λ j h. absurd (cc)) (λ d. tt) tt
  read_shape (MethodLength i side) r e = library_shape (MethodLength i side) (length_needs format side) (LengthOf side i ∷ []) r e refl (λ j h. absurd (cc)) (λ d. tt) tt
  read_shape (ConstraintLength i side n) r e =
      let a = and_then_some (λ d. by_length format i side n) (slice_get format.fields i) r e in
      let m = map_some (λ e. rule (inputs format e) (LengthOf side i ∷ [])) (option_and_then (length_given i side) (slice_get format.constraints n)) r a.2 in
      let k = and_then_some (length_given i side) (slice_get format.constraints n) m.0 m.1 in
      record {
        field = a.0;
        is_field = a.1;
        absent_is = ap (λ (z : Rule). z.absent) (sym m.2);
        done_by = λ j h. absurd (let u = subst (λ (z : Rule). has z.gives (Done j) ≡ true) (sym m.2) h in cc);
        does = tt;
        within = slice_get_within format.constraints n k.0 k.1;
      }
  read_shape (Solve i n) r e =
      let a = and_then_some (λ d. by_value version sizes format i n) (slice_get format.fields i) r e in
      let v = value_parts i n r a.2 in
      record {
        field = a.0;
        is_field = a.1;
        absent_is = v.0;
        done_by = λ j h. absurd (let u = subst (λ z. has z (Done j) ≡ true) v.1 h in cc);
        does = tt;
        within = v.2;
      }
  read_shape (Choose i) r e = absurd (cc)
  read_shape (Ask i) r e = absurd (cc)

  -- reading neither chooses nor asks
  read_does : (s : Step) (r : Rule) → read_rule version sizes format s ≡ Some r → IsOfDirection Read s
  read_does (Choose i) r e = absurd (cc)
  read_does (Ask i) r e = absurd (cc)
  read_does (Take i) r e = tt
  read_does (Call i) r e = tt
  read_does (LibraryUp i) r e = tt
  read_does (LibraryDown i) r e = tt
  read_does (MethodLength i side) r e = tt
  read_does (ConstraintLength i side n) r e = tt
  read_does (Solve i n) r e = tt

  module _ (table : List MethodSizes) where
    write_called : (i : ℕ) (b : Bool) (e : Encoding) (r : Rule) → write_call table format i b e ≡ Some r → (is_call e ≡ true) × (r.absent ≡ Done i ∷ []) × (r.gives ≡ all_of i)
    write_called i b (encoding.Call k es) r e =
        let same : rule_once i (inputs_of_all format es ++ in_header b (headers_before format i) (own_bits (is_headless (slice_get table k)) i)) (all_of i) ≡ r = cc in
        (refl, ap (λ (z : Rule). z.absent) (sym same), ap (λ (z : Rule). z.gives) (sym same))
    write_called i b encoding.Bare r e = absurd (cc)
    write_called i b (encoding.Library l) r e = absurd (cc)

    write_shape : (s : Step) (r : Rule) → write_rule version table sizes format s ≡ Some r → Shape format s r
    write_shape (Take i) r e =
        let a = and_then_some (write_take format i) (slice_get format.fields i) r e in
        let w = when_some (is_header a.0.declared.part && not (is_call a.0.encoding)) (rule_once i (LengthOf Uncompressed i ∷ headers_before format i) (BitsOf Uncompressed i ∷ Done i ∷ [])) r a.2 in
        record {
          field = a.0;
          is_field = a.1;
          absent_is = ap (λ (z : Rule). z.absent) (sym w.1);
          done_by = λ j h. subst (λ (z : Rule). has z.gives (Done j) ≡ true) (sym w.1) h;
          does = not_true (is_call a.0.encoding) (and_parts (is_header a.0.declared.part) (not (is_call a.0.encoding)) w.0).1;
          within = tt;
        }
    write_shape (Call i) r e =
        let a = and_then_some (λ d. write_call table format i (is_header d.declared.part) d.encoding) (slice_get format.fields i) r e in
        let c = write_called i (is_header a.0.declared.part) a.0.encoding r a.2 in
        record { field = a.0; is_field = a.1; absent_is = c.1; done_by = λ j h. subst (λ z. has z (Done j) ≡ true) c.2 h; does = c.0; within = tt }
    write_shape (Choose i) r e =
        let m = map_some (λ n. rule [] (LengthOf Uncompressed i ∷ BitsOf Uncompressed i ∷ [])) (option_and_then (choice format i) (slice_get format.fields i)) r e in
        let a = and_then_some (choice format i) (slice_get format.fields i) m.0 m.1 in
        record { field = a.0; is_field = a.1; absent_is = ap (λ (z : Rule). z.absent) (sym m.2); done_by = λ j h. absurd (let u = subst (λ (z : Rule). has z.gives (Done j) ≡ true) (sym m.2) h in cc); does = tt; within = tt }
    write_shape (Ask i) r e =
        let a = and_then_some (λ d. when d.declared.asked (rule [] (LengthOf Uncompressed i ∷ BitsOf Uncompressed i ∷ []))) (slice_get format.fields i) r e in
        let w = when_some a.0.declared.asked (rule [] (LengthOf Uncompressed i ∷ BitsOf Uncompressed i ∷ [])) r a.2 in
        record { field = a.0; is_field = a.1; absent_is = ap (λ (z : Rule). z.absent) (sym w.1); done_by = λ j h. absurd (let u = subst (λ (z : Rule). has z.gives (Done j) ≡ true) (sym w.1) h in cc); does = tt; within = tt }
    write_shape (LibraryUp i) r e = read_shape (LibraryUp i) r e
    write_shape (LibraryDown i) r e = read_shape (LibraryDown i) r e
    write_shape (MethodLength i side) r e = read_shape (MethodLength i side) r e
    write_shape (ConstraintLength i side n) r e = read_shape (ConstraintLength i side n) r e
    write_shape (Solve i n) r e = read_shape (Solve i n) r e

    pub shape : (direction : Direction) (s : Step) (r : Rule) → rule_of version direction table sizes format s ≡ Some r → Shape format s r
    shape Read s r e = read_shape s r e
    shape Write s r e = write_shape s r e

    pub does_so : (direction : Direction) (s : Step) (r : Rule) → rule_of version direction table sizes format s ≡ Some r → IsOfDirection direction s
    does_so Read s r e = read_does s r e
    does_so Write s r e = tt

  -- ---- a field is done by one step

  done_is : (i : ℕ) (x : Fact) → has (Done i ∷ []) x ≡ true → Done i ≡ x
  done_is i x h = by (or_cases (same_fact (Done i) x) false h) where
    by : (same_fact (Done i) x ≡ true) ⊎ (false ≡ true) → Done i ≡ x
    by (inl e) = same_is (Done i) x e
    by (inr e) = absurd (cc)

  is_done : (s : Step) (x : Fact) → has (undone s) x ≡ true → Done (field_of s) ≡ x
  is_done (Take i) x h = done_is i x h
  is_done (Call i) x h = done_is i x h
  is_done _ x h = absurd (cc)

  -- only take and call do a field
  done_twice : (s t : Step) → field_of s ≡ field_of t → (d : Field) → Does s d → Does t d → (x : Fact) → has (undone s) x ≡ true → has (undone t) x ≡ true → s ≡ t
  done_twice (Take i) (Take j) e d p q x h k = ap Take e
  done_twice (Call i) (Call j) e d p q x h k = ap Call e
  done_twice (Take i) (Call j) e d p q x h k = absurd (let u : false ≡ true = sym p ∙ q in cc)
  done_twice (Call i) (Take j) e d p q x h k = absurd (let u : false ≡ true = sym q ∙ p in cc)
  done_twice (Take i) _ e d p q x h k = absurd (cc)
  done_twice (Call i) _ e d p q x h k = absurd (cc)
  done_twice _ t e d p q x h k = absurd (cc)

  pub one_step : (s t : Step) (r q : Rule) (x : Fact) → Shape format s r → Shape format t q → has r.absent x ≡ true → has q.gives x ≡ true → s ≡ t
  one_step s t r q x a b h k =
      let us = subst (λ z. has z x ≡ true) a.absent_is h in
      let xs = is_done s x us in
      let ut = subst (λ z. has (undone t) z ≡ true) xs (b.done_by (field_of s) (subst (λ z. has q.gives z ≡ true) (sym xs) k)) in
      let same : field_of s ≡ field_of t = let e : Done (field_of s) ≡ Done (field_of t) = xs ∙ sym (is_done t x ut) in cc in
      let field : Some a.field ≡ Some b.field = sym a.is_field ∙ (ap (slice_get format.fields) same ∙ b.is_field) in
      done_twice s t same a.field a.does (subst (Does t) (let e : b.field ≡ a.field = cc in e) b.does) x us ut

  nothing_done : (b : Bool) (n j : ℕ) (facts : List Fact) → has facts (Done j) ≡ false → has (unlisted b n facts) (Done j) ≡ false
  nothing_done true n j facts h = h
  nothing_done false n j facts h = h

  none_at_start : (n j : ℕ) (ds : List Field) → has (at_start format.listing n ds) (Done j) ≡ false
  none_at_start n j [] = refl
  none_at_start n j (d ∷ ds) = nothing_done (lists format.listing n) n j (at_start format.listing (suc n) ds) (none_at_start (suc n) j ds)

  pub not_at_start : (s : Step) (r : Rule) (x : Fact) → Shape format s r → has r.absent x ≡ true → has (known_at_start format) x ≡ true → ⊥
  not_at_start s r x a h k =
      let xs = is_done s x (subst (λ z. has z x ≡ true) a.absent_is h) in
      let e : true ≡ false = sym (subst (λ z. has (known_at_start format) z ≡ true) (sym xs) k) ∙ none_at_start 0 (field_of s) format.fields in
      absurd (cc)
