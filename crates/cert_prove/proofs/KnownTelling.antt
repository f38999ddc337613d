-- What is told of the formats by their numbers, against the sets of formats.
use Rattle.std.proofs.Common.{◌≡◌, ◌∙◌, refl, sym, ap, ℕ, zero, suc, ◌+◌, ◌^◌, ◌<◌, ◌≤◌, min, Bool, true, false, nat_eq, nat_lt, cond, List, [], ◌∷◌, ◌++◌, length, arith}
use Rattle.std.specs.Prelude.{◌&&◌, ◌||◌, not, Option, Some, None, slice_get}
use Rattle.std.specs.List.{filter, flat_map, list_any, list_all, range_with_len, AllByRecursion}
use Rattle.std.specs.HashMap.{get, keys}
use Rattle.std.specs.Option.{is_some}
use Rattle.std.proofs.lemmas.Bool.{eqb-true, le-leb}
use Rattle.std.proofs.lemmas.Option.{slice_get_within}
use Rattle.std.proofs.lemmas.Map.Made.{is_some-lookup}
use Rattle.sem_expr.specs.declared.interval.Interval.{Interval}
use Rattle.sem_profile.specs.declared.profile.Format.{Format}
use Rattle.sem_profile.specs.declared.profile.FormatSizes.{FormatSizes}
use Rattle.sem_profile.specs.declared.profile.MethodSizes.{MethodSizes}
use Rattle.cert_types.specs.declared.certificate.Version.{Version}
use Rattle.cert_types.specs.declared.certificate.Version.TheVariants.{One, Two}
use Rattle.cert_types.specs.declared.certificate.Node.{Node}
use Rattle.cert_types.specs.declared.certificate.Node.TheVariants.{Bit, Parameter, Reference, Leaf, Nowhere}
use Rattle.cert_types.specs.Kept.{IsNodeKept, offset_limit}
use Rattle.cert_rules.specs.Trees.{Reach, onward, is_bit, known_bit, never_at, never_refers}
use Rattle.cert_trees.specs.declared.equations.Equation.{Equation}
use Rattle.cert_trees.specs.declared.signatures.Signature.{Signature}
use Rattle.cert_trees.specs.declared.signatures.Test.{Test}
use Rattle.cert_trees.specs.declared.signatures.Test.TheVariants.{Lacks, MayBe, MayDiffer, MayHold, MayLack}
use Rattle.cert_trees.specs.Signature.{IsSignature, AreSignatures, IsTest, survives}
use Rattle.cert_trees.proofs.SignaturesPassing.{passes_is}
use Rattle.cert_prove.specs.Tree.{Numbered, numbered, all_of, is_longer, knows, parts_at, parts_by, lies_in, equations, is_word, refers_apart, references}
use Rattle.cert_prove.specs.Growing.{those}
use Rattle.cert_prove.specs.Known.{numbers, told_passes, stays, loses, least, are_longer, bit_parts, equation_parts, told_equations, reference_parts, told_references, references_by, subsets_by, is_far, AreFar, AreKnown}
use Rattle.cert_prove.proofs.RuleElements.{filter_twice, each_kept}
use Rattle.cert_prove.proofs.TreeTesting.{each_of_all}
use Rattle.cert_prove.proofs.TreeGrowth.{waiting}

-- ---- all formats by their numbers

numbers_from : (n : ℕ) (formats : List Format) (sizes : List FormatSizes) (count : ℕ) → count ≡ min (length formats) (length sizes) → numbers (numbered n formats sizes) ≡ range_with_len n count
numbers_from n [] sizes zero e = refl
numbers_from n [] sizes (suc count) e = absurd (omega (arith, e))
numbers_from n (f ∷ formats) [] zero e = refl
numbers_from n (f ∷ formats) [] (suc count) e = absurd (omega (arith, e))
numbers_from n (f ∷ formats) (z ∷ sizes) zero e = absurd (omega (arith, e))
numbers_from n (f ∷ formats) (z ∷ sizes) (suc count) e = ap (λ ns. n ∷ ns) (numbers_from (n + 1) formats sizes count (omega (arith, e)))

pub all_numbered : (formats : List Format) (s : MethodSizes) (tolds : List Signature) → AreSignatures tolds formats s.formats → range_with_len 0 (length tolds) ≡ numbers (all_of formats s)
all_numbered formats s tolds told = sym (numbers_from 0 formats s.formats (length tolds) told.count)

range_pushed : (n count : ℕ) → range_with_len n count ++ (n + count) ∷ [] ≡ range_with_len n (suc count)
range_pushed n zero = let same : n + 0 ≡ n = omega arith in ap (λ m. m ∷ []) same
range_pushed n (suc count) =
    let same : n + suc count ≡ (n + 1) + count = omega arith in
    ap (λ ns. n ∷ ns) (ap (λ m. range_with_len (n + 1) count ++ m ∷ []) same ∙ range_pushed (n + 1) count)

pub one_more_number : (set newer : List ℕ) (count : ℕ) → set ≡ range_with_len 0 count → newer ≡ set ++ count ∷ [] → newer ≡ range_with_len 0 (count + 1)
one_more_number set newer count is pushed =
    let last : count ≡ 0 + count = omega arith in
    let next : suc count ≡ count + 1 = omega arith in
    pushed ∙ ((λ i. is i ++ last i ∷ []) ∙ (range_pushed 0 count ∙ ap (range_with_len 0) next))

-- ---- what is told of a format

-- of the format at its number
pub record ToldOf (s : MethodSizes) (tolds : List Signature) (far : List ℕ) (z : Numbered) : Type 0 where
  pub told : Signature
  pub told_at : slice_get tolds z.number ≡ Some told
  pub is_told : IsSignature told z.format z.sizes
  pub sizes_at : slice_get s.formats z.number ≡ Some z.sizes
  pub far_are : AreFar tolds far

there : {X : Type 0} (xs : List X) (n : ℕ) → n < length xs → (x : X) × (slice_get xs n ≡ Some x)
there [] n lt = absurd (omega (arith, lt))
there (x ∷ xs) zero lt = (x, refl)
there (x ∷ xs) (suc n) lt = there xs n (omega (arith, lt))

pub told_of_all : (formats : List Format) (s : MethodSizes) (tolds : List Signature) (far : List ℕ) → AreKnown formats s tolds far → AllByRecursion (ToldOf s tolds far) (all_of formats s)
told_of_all formats s tolds far known = each_of_all (ToldOf s tolds far) formats s
    (λ j f z at sized.
    let one = slice_get_within formats j f at in
    let two = slice_get_within s.formats j z sized in
    let count = known.told.count in
    let t = there tolds j (omega (arith, one, two, count)) in
    record { told = t.0; told_at = t.1; is_told = known.told.each j t.0 f z t.1 at sized; sizes_at = sized; far_are = known.far_are })

pub told_of_those : (formats : List Format) (s : MethodSizes) (tolds : List Signature) (far : List ℕ) (reach : Reach) → AreKnown formats s tolds far → AllByRecursion (ToldOf s tolds far) (those reach (all_of formats s))
told_of_those formats s tolds far reach known = each_kept (ToldOf s tolds far) (λ z. reach z.format z.sizes) (all_of formats s) (told_of_all formats s tolds far known)

-- ---- tests by numbers

not_not : (b : Bool) → not (not b) ≡ b
not_not true = refl
not_not false = refl

module _ (s : MethodSizes) (tolds : List Signature) (far : List ℕ) where
  abbrev Signature' : Numbered → Type 0
  Signature' z = ToldOf s tolds far z

  passes_there : (test : Test) → IsTest test → (z : Numbered) → Signature' z → stays tolds test z.number ≡ survives test z.format z.sizes
  passes_there test is z t = ap (told_passes test) t.told_at ∙ passes_is t.told z.format z.sizes test t.is_told is

  pub least_there : (z : Numbered) → Signature' z → least (slice_get s.formats z.number) ≡ z.sizes.whole.compressed.least
  least_there z t = ap least t.sizes_at

  kept_numbers : (test : Test) → IsTest test → (set : List Numbered) → AllByRecursion Signature' set → filter (stays tolds test) (numbers set) ≡ numbers (filter (λ z. survives test z.format z.sizes) set)
  kept_numbers test is [] h = refl
  kept_numbers test is (z ∷ set) h =
      (λ i. cond (passes_there test is z h.0 i) (z.number ∷ kept_numbers test is set h.1 i) (kept_numbers test is set h.1 i)) ∙ by (survives test z.format z.sizes)
    where
      by : (b : Bool) → cond b (z.number ∷ numbers (filter (λ z. survives test z.format z.sizes) set)) (numbers (filter (λ z. survives test z.format z.sizes) set)) ≡
          numbers (cond b (z ∷ filter (λ z. survives test z.format z.sizes) set) (filter (λ z. survives test z.format z.sizes) set))
      by true = refl
      by false = refl

  lost_there : (test : Test) (p : Numbered → Bool) → IsTest test → ((z : Numbered) → not (survives test z.format z.sizes) ≡ p z) → (set : List Numbered) → AllByRecursion Signature' set → loses tolds (numbers set) test ≡ list_any p set
  lost_there test p is says [] h = refl
  lost_there test p is says (z ∷ set) h = λ i. (ap not (passes_there test is z h.0) ∙ says z) i || lost_there test p is says set h.1 i

  longer_there : (o : ℕ) (set : List Numbered) → AllByRecursion Signature' set → are_longer s.formats (numbers set) o ≡ list_all (is_longer o) set
  longer_there o [] h = refl
  longer_there o (z ∷ set) h = λ i. nat_lt o (least_there z h.0 i) && longer_there o set h.1 i

  pub bit_same : (o : ℕ) → o < 2 ^ 128 → (set : List Numbered) → AllByRecursion Signature' set → bit_parts tolds s.formats (numbers set) o ≡ parts_at set o
  bit_same o small set h = λ i.
      longer_there o set h i && (lost_there (Lacks o false) (knows false o) small (λ z. not_not (knows false o z)) set h i && lost_there (Lacks o true) (knows true o) small (λ z. not_not (knows true o z)) set h i)

  pub equation_same : (ranges : List Interval) (set : List Numbered) → AllByRecursion Signature' set → (e : Equation) → equation_parts tolds ranges (numbers set) e ≡ parts_by ranges set e
  equation_same ranges set h e =
      ap (λ b. e.equal && (lies_in (slice_get ranges e.tested) e.constant && b))
      (lost_there (MayBe e.tested e.constant) (λ z. never_at e.tested e.constant z.format) tt (λ z. not_not (never_at e.tested e.constant z.format)) set h)

  pub equations_same : (set : List Numbered) → AllByRecursion Signature' set → flat_map (λ n. told_equations (slice_get tolds n)) (numbers set) ≡ equations set
  equations_same [] h = refl
  equations_same (z ∷ set) h = λ i. (ap told_equations h.0.told_at ∙ h.0.is_told.equations) i ++ equations_same set h.1 i

  pub reference_same : (set : List Numbered) → AllByRecursion Signature' set → (e : Equation) → reference_parts tolds (numbers set) e ≡ refers_apart set e
  reference_same set h e =
      ap (λ b. e.equal && (is_word e.constant && b))
      (lost_there (MayHold e.tested e.constant) (λ z. never_refers e.tested e.constant z.format) tt (λ z. not_not (never_refers e.tested e.constant z.format)) set h)

  references_told : (set : List Numbered) → AllByRecursion Signature' set → flat_map (λ n. told_references (slice_get tolds n)) (numbers set) ≡ references Two set
  references_told [] h = refl
  references_told (z ∷ set) h = λ i. (ap told_references h.0.told_at ∙ h.0.is_told.references) i ++ references_told set h.1 i

  pub references_same : (version : Version) (set : List Numbered) → AllByRecursion Signature' set → references_by version tolds (numbers set) ≡ references version set
  references_same One set h = refl
  references_same Two set h = references_told set h

  -- a bit past the limit of offsets that is known of one of them is at one of the far offsets
  pub far_there : (o : ℕ) → o < 2 ^ 128 → offset_limit ≤ o → (b : Bool) (set : List Numbered) → AllByRecursion Signature' set → list_any (knows b o) set ≡ true → list_any (nat_eq o) far ≡ true
  far_there o small past b [] h e = absurd (cc)
  far_there o small past b (z ∷ set) h e = by (knows b o z) refl e (far_there o small past b set h.1)
    where
      told : (x : Option Bool) → known_bit z.format.fields z.sizes.fields z.format.listing o ≡ x → is_bit b x ≡ true → list_any (nat_eq o) far ≡ true
      told None at is = absurd (cc)
      told (Some x) at is = h.0.far_are z.number o h.0.told x h.0.told_at (h.0.is_told.bits o small ∙ at) past

      by : (c : Bool) → knows b o z ≡ c → (c || list_any (knows b o) set) ≡ true → (list_any (knows b o) set ≡ true → list_any (nat_eq o) far ≡ true) → list_any (nat_eq o) far ≡ true
      by true at e rest = told (known_bit z.format.fields z.sizes.fields z.format.listing o) refl at
      by false at e rest = rest e

-- ---- the subsets

module _ (formats : List Format) (s : MethodSizes) (tolds : List Signature) (far : List ℕ) (known : AreKnown formats s tolds far) where
  subset_numbers : (test : Test) → IsTest test → (reach : Reach) →
      filter (stays tolds test) (numbers (those reach (all_of formats s))) ≡ numbers (those (λ f z. reach f z && survives test f z) (all_of formats s))
  subset_numbers test is reach =
      kept_numbers s tolds far test is (those reach (all_of formats s)) (told_of_those formats s tolds far reach known) ∙
      ap numbers (filter_twice (λ z. survives test z.format z.sizes) (λ z. reach z.format z.sizes) (all_of formats s))

  pub subsets_wait : (reach : Reach) (x : Node) (more : List Reach) → IsNodeKept x → subsets_by tolds (numbers (those reach (all_of formats s))) x ++ waiting formats s more ≡ waiting formats s (onward reach x ++ more)
  subsets_wait reach (Bit o) more kept =
      let small : o < 2 ^ 128 = omega (arith, kept) in
      λ i. subset_numbers (Lacks o true) small reach i ∷ subset_numbers (Lacks o false) small reach i ∷ waiting formats s more
  subsets_wait reach (Parameter p c) more kept = λ i. subset_numbers (MayBe p c) tt reach i ∷ subset_numbers (MayDiffer p c) tt reach i ∷ waiting formats s more
  subsets_wait reach (Reference i c) more kept = λ j. subset_numbers (MayHold i c) tt reach j ∷ subset_numbers (MayLack i c) tt reach j ∷ waiting formats s more
  subsets_wait reach (Leaf n) more kept = refl
  subsets_wait reach Nowhere more kept = refl

-- ---- offsets past the limit

or_more : (a b : Bool) → b ≡ true → (a || b) ≡ true
or_more true b e = refl
or_more false b e = e

or_here : (a b : Bool) → a ≡ true → (a || b) ≡ true
or_here a b e = ap (λ a. a || b) e

far_kept : (o : ℕ) (ks : List ℕ) → is_far o ≡ true → list_any (nat_eq o) ks ≡ true → list_any (nat_eq o) (filter is_far ks) ≡ true
far_kept o [] f h = h
far_kept o (q ∷ ks) f h = by (nat_eq o q) refl (is_far q) refl h (far_kept o ks f)
  where
    by : (a : Bool) → nat_eq o q ≡ a → (b : Bool) → is_far q ≡ b → (a || list_any (nat_eq o) ks) ≡ true → (list_any (nat_eq o) ks ≡ true → list_any (nat_eq o) (filter is_far ks) ≡ true) →
        list_any (nat_eq o) (cond b (q ∷ filter is_far ks) (filter is_far ks)) ≡ true
    by true e true g h rest = or_here (nat_eq o q) (list_any (nat_eq o) (filter is_far ks)) e
    by true e false g h rest = let same : o ≡ q = eqb-true o q e in let wrong : true ≡ false = sym f ∙ (ap is_far same ∙ g) in absurd (cc)
    by false e true g h rest = or_more (nat_eq o q) (list_any (nat_eq o) (filter is_far ks)) (rest h)
    by false e false g h rest = rest h

any_in_front : (o : ℕ) (xs ys : List ℕ) → list_any (nat_eq o) xs ≡ true → list_any (nat_eq o) (xs ++ ys) ≡ true
any_in_front o [] ys h = absurd (cc)
any_in_front o (x ∷ xs) ys h = by (nat_eq o x) h (any_in_front o xs ys)
  where
    by : (a : Bool) → (a || list_any (nat_eq o) xs) ≡ true → (list_any (nat_eq o) xs ≡ true → list_any (nat_eq o) (xs ++ ys) ≡ true) → (a || list_any (nat_eq o) (xs ++ ys)) ≡ true
    by true h rest = refl
    by false h rest = rest h

any_behind : (o : ℕ) (xs ys : List ℕ) → list_any (nat_eq o) ys ≡ true → list_any (nat_eq o) (xs ++ ys) ≡ true
any_behind o [] ys h = h
any_behind o (x ∷ xs) ys h = or_more (nat_eq o x) (list_any (nat_eq o) (xs ++ ys)) (any_behind o xs ys h)

has_key : (told : Signature) (o : ℕ) (b : Bool) → get nat_eq told.bits o ≡ Some b → list_any (nat_eq o) (keys told.bits) ≡ true
has_key told o b e = sym (is_some-lookup (nat_eq o) told.bits.entries) ∙ ap is_some e

pub far_found : (tolds : List Signature) → AreFar tolds (flat_map (λ t. filter is_far (keys t.bits)) tolds)
far_found [] n o told b at e past = absurd (cc)
far_found (t ∷ tolds) zero o told b at e past =
    let same : t ≡ told = cc in
    any_in_front o (filter is_far (keys t.bits)) (flat_map (λ t. filter is_far (keys t.bits)) tolds)
    (far_kept o (keys t.bits) (le-leb offset_limit o past) (has_key t o b (ap (λ t. get nat_eq t.bits o) same ∙ e)))
far_found (t ∷ tolds) (suc n) o told b at e past = any_behind o (filter is_far (keys t.bits)) (flat_map (λ t. filter is_far (keys t.bits)) tolds) (far_found tolds n o told b at e past)
