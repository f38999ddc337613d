-- A rule gives facts of the step's field alone, which is one of the format's.
use Rattle.std.proofs.Common.{◌≡◌, refl, sym, ◌∙◌, subst, ℕ, ◌<◌, Bool, true, false, List, [], ◌∷◌, length, inl, inr}
use Rattle.std.specs.Prelude.{Option, Some, None, slice_get, option_and_then, option_map}
use Rattle.std.proofs.lemmas.Bool.{or_cases}
use Rattle.std.proofs.lemmas.Option.{slice_get_within}
use Rattle.sem_expr.specs.declared.expr.Side.TheVariants.{Uncompressed, Compressed}
use Rattle.sem_profile.specs.declared.profile.Library.{Library}
use Rattle.sem_profile.specs.declared.profile.Encoding.{Encoding}
use Rattle.sem_profile.specs.declared.profile.Encoding.TheVariants as encoding
use Rattle.sem_profile.specs.declared.profile.Field.{Field}
use Rattle.sem_profile.specs.declared.profile.Format.{Format}
use Rattle.sem_profile.specs.declared.profile.FormatSizes.{FormatSizes}
use Rattle.sem_profile.specs.declared.profile.MethodSizes.{MethodSizes}
use Rattle.sem_filling.specs.Fillings.{is_header}
use Rattle.cert_types.specs.declared.certificate.Version.{Version}
use Rattle.cert_types.specs.declared.certificate.Version.TheVariants.{One, Two}
use Rattle.cert_types.specs.declared.certificate.Direction.{Direction}
use Rattle.cert_types.specs.declared.certificate.Direction.TheVariants.{Read, Write}
use Rattle.cert_types.specs.declared.certificate.Step.{Step}
use Rattle.cert_types.specs.declared.certificate.Step.TheVariants.{Take, Call, LibraryUp, LibraryDown, MethodLength, ConstraintLength, Solve, Choose, Ask}
use Rattle.cert_types.specs.declared.rule.Fact.{Fact}
use Rattle.cert_types.specs.declared.rule.Fact.TheVariants.{LengthOf, BitsOf, Done}
use Rattle.cert_types.specs.declared.rule.Rule.{Rule}
use Rattle.cert_rules.specs.Facts.{same_fact, has}
use Rattle.cert_rules.specs.Rules.{when, rule, by_library, up_needs, down_needs, length_needs, first_or, from_two, by_length, by_equation, by_remainder, by_value, common_rule, read_take, read_call, read_rule, write_take, write_call, choice, write_rule, all_of}
use Rattle.cert_rules.specs.Plans.{rule_of, learnt}
use Rattle.cert_plans.specs.Knowing.{field_of}
use Rattle.cert_plans.specs.Judging.{GivesWithin}
use Rattle.cert_plans.proofs.Knowing.{same_field}

-- the facts are of the field i
AllOf : ℕ → List Fact → Type 0
AllOf i facts = (x : Fact) → has facts x ≡ true → i ≡ field_of x

none_of : (i : ℕ) → AllOf i []
unfolding AllOf
none_of i x h = absurd (cc)

also_of : (i : ℕ) (y : Fact) (ys : List Fact) → i ≡ field_of y → AllOf i ys → AllOf i (y ∷ ys)
unfolding AllOf
also_of i y ys e rest x h = elim (or_cases (same_fact y x) (has ys x) h) [ inl s ↦ e ∙ same_field y x s | inr r ↦ rest x r ]

one_of : (i : ℕ) (y : Fact) → i ≡ field_of y → AllOf i (y ∷ [])
one_of i y e = also_of i y [] e (none_of i)

two_of : (i : ℕ) (y z : Fact) → i ≡ field_of y → i ≡ field_of z → AllOf i (y ∷ z ∷ [])
two_of i y z e f = also_of i y (z ∷ []) e (one_of i z f)

five_of : (i : ℕ) → AllOf i (all_of i)
five_of i =
    also_of i (LengthOf Uncompressed i) (BitsOf Uncompressed i ∷ LengthOf Compressed i ∷ BitsOf Compressed i ∷ Done i ∷ []) refl
    (also_of i (BitsOf Uncompressed i) (LengthOf Compressed i ∷ BitsOf Compressed i ∷ Done i ∷ []) refl
    (also_of i (LengthOf Compressed i) (BitsOf Compressed i ∷ Done i ∷ []) refl (two_of i (BitsOf Compressed i) (Done i) refl refl)))

-- what an optional rule gives
when_of : (i : ℕ) (b : Bool) (r : Rule) → AllOf i r.gives → AllOf i (learnt (when b r))
when_of i true r h = h
when_of i false r h = none_of i

map_of : {A : Type 0} (i : ℕ) (f : A → Rule) (o : Option A) → ((x : A) → AllOf i (f x).gives) → AllOf i (learnt (option_map f o))
map_of i f None h = none_of i
map_of i f (Some x) h = h x

either_of : (i : ℕ) (o q : Option Rule) → AllOf i (learnt o) → AllOf i (learnt q) → AllOf i (learnt (first_or o q))
either_of i (Some r) q h k = h
either_of i None q h k = k

two_version_of : (i : ℕ) (version : Version) (o : Option Rule) → AllOf i (learnt o) → AllOf i (learnt (from_two version o))
two_version_of i One o h = none_of i
two_version_of i Two o h = h

library_of : (i : ℕ) (needs : Library → List Fact) (gives : List Fact) (e : Encoding) → AllOf i gives → AllOf i (learnt (by_library needs gives e))
library_of i needs gives (encoding.Library l) h = h
library_of i needs gives encoding.Bare h = none_of i
library_of i needs gives (encoding.Call k es) h = none_of i

read_call_of : (format : Format) (i : ℕ) (e : Encoding) → AllOf i (learnt (read_call format i e))
read_call_of format i (encoding.Call k es) = five_of i
read_call_of format i encoding.Bare = none_of i
read_call_of format i (encoding.Library l) = none_of i

write_call_of : (table : List MethodSizes) (format : Format) (i : ℕ) (header : Bool) (e : Encoding) → AllOf i (learnt (write_call table format i header e))
write_call_of table format i header (encoding.Call k es) = five_of i
write_call_of table format i header encoding.Bare = none_of i
write_call_of table format i header (encoding.Library l) = none_of i

-- a rule of a field that is there gives facts of the format's fields
at_field : (fields : List Field) (i : ℕ) (f : Field → Option Rule) → ((d : Field) → AllOf i (learnt (f d))) → GivesWithin (length fields) (option_and_then f (slice_get fields i))
unfolding AllOf
at_field fields i f h = by (slice_get fields i) refl where
  by : (o : Option Field) → slice_get fields i ≡ o → GivesWithin (length fields) (option_and_then f o)
  by None e x a = absurd (cc)
  by (Some d) e x a = subst (λ j. j < length fields) (h d x a) (slice_get_within fields i d e)

no_rule : (n : ℕ) → GivesWithin n None
no_rule n x h = absurd (cc)

module _ (version : Version) (sizes : FormatSizes) (format : Format) where
  common_gives : (step : Step) → GivesWithin (length format.fields) (common_rule version sizes format step)
  common_gives (LibraryUp i) =
      at_field format.fields i _ (λ d. library_of i (up_needs format i) (LengthOf Uncompressed i ∷ BitsOf Uncompressed i ∷ []) d.encoding (two_of i (LengthOf Uncompressed i) (BitsOf Uncompressed i) refl refl))
  common_gives (LibraryDown i) =
      at_field format.fields i _ (λ d. library_of i (down_needs format i) (LengthOf Compressed i ∷ BitsOf Compressed i ∷ []) d.encoding (two_of i (LengthOf Compressed i) (BitsOf Compressed i) refl refl))
  common_gives (MethodLength i side) = at_field format.fields i _ (λ d. library_of i (length_needs format side) (LengthOf side i ∷ []) d.encoding (one_of i (LengthOf side i) refl))
  common_gives (ConstraintLength i side n) = at_field format.fields i (λ d. by_length format i side n) (λ d. map_of i _ _ (λ e. one_of i (LengthOf side i) refl))
  common_gives (Solve i n) = at_field format.fields i (λ d. by_value version sizes format i n) (λ d. either_of i (by_equation format i n) (from_two version (by_remainder sizes format i n))
      (map_of i _ _ (λ e. one_of i (BitsOf Uncompressed i) refl)) (two_version_of i version (by_remainder sizes format i n) (map_of i _ _ (λ e. one_of i (BitsOf Uncompressed i) refl))))
  common_gives (Take i) = no_rule (length format.fields)
  common_gives (Call i) = no_rule (length format.fields)
  common_gives (Choose i) = no_rule (length format.fields)
  common_gives (Ask i) = no_rule (length format.fields)

  read_gives : (step : Step) → GivesWithin (length format.fields) (read_rule version sizes format step)
  read_gives (Take i) = at_field format.fields i (read_take format i) (λ d. when_of i _ _ (two_of i (BitsOf Compressed i) (Done i) refl refl))
  read_gives (Call i) = at_field format.fields i _ (λ d. read_call_of format i d.encoding)
  read_gives (LibraryUp i) = common_gives (LibraryUp i)
  read_gives (LibraryDown i) = common_gives (LibraryDown i)
  read_gives (MethodLength i side) = common_gives (MethodLength i side)
  read_gives (ConstraintLength i side n) = common_gives (ConstraintLength i side n)
  read_gives (Solve i n) = common_gives (Solve i n)
  read_gives (Choose i) = common_gives (Choose i)
  read_gives (Ask i) = common_gives (Ask i)

  -- what is chosen, as a rule of the field
  choose_apart : (i : ℕ) (o : Option Field) (r : Rule) → option_map (λ n. r) (option_and_then (choice format i) o) ≡ option_and_then (λ d. option_map (λ n. r) (choice format i d)) o
  choose_apart i None r = refl
  choose_apart i (Some d) r = refl

  write_gives : (table : List MethodSizes) (step : Step) → GivesWithin (length format.fields) (write_rule version table sizes format step)
  write_gives table (Take i) = at_field format.fields i (write_take format i) (λ d. when_of i _ _ (two_of i (BitsOf Uncompressed i) (Done i) refl refl))
  write_gives table (Call i) = at_field format.fields i _ (λ d. write_call_of table format i (is_header d.declared.part) d.encoding)
  write_gives table (Choose i) =
      let r = rule [] (LengthOf Uncompressed i ∷ BitsOf Uncompressed i ∷ []) in
      subst (GivesWithin (length format.fields)) (sym (choose_apart i (slice_get format.fields i) r))
      (at_field format.fields i (λ d. option_map (λ n. r) (choice format i d)) (λ d. map_of i _ _ (λ n. two_of i (LengthOf Uncompressed i) (BitsOf Uncompressed i) refl refl)))
  write_gives table (Ask i) = at_field format.fields i _ (λ d. when_of i _ _ (two_of i (LengthOf Uncompressed i) (BitsOf Uncompressed i) refl refl))
  write_gives table (LibraryUp i) = common_gives (LibraryUp i)
  write_gives table (LibraryDown i) = common_gives (LibraryDown i)
  write_gives table (MethodLength i side) = common_gives (MethodLength i side)
  write_gives table (ConstraintLength i side n) = common_gives (ConstraintLength i side n)
  write_gives table (Solve i n) = common_gives (Solve i n)

pub rule_gives : (version : Version) (direction : Direction) (table : List MethodSizes) (sizes : FormatSizes) (format : Format) (step : Step) → GivesWithin (length format.fields) (rule_of version direction table sizes format step)
rule_gives version Read table sizes format step = read_gives version sizes format step
rule_gives version Write table sizes format step = write_gives version sizes format table step
