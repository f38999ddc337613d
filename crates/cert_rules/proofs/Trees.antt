-- A fitting filling reaches the leaf of its format.
use Rattle.std.proofs.Common.{◌≡◌, refl, sym, ◌∙◌, ap, subst, ℕ, zero, suc, ◌^◌, ◌<◌, ◌≤◌, Bool, true, false, List, [], ◌∷◌, ◌++◌, length, arith}
use Rattle.std.specs.Prelude.{Option, Some, None, ℤ, pos, negsuc, option_and_then, slice_get, ◌&&◌, ◌||◌, not, nat_lt, nat_le}
use Rattle.std.specs.List.{list_any, flat_map}
use Rattle.std.specs.Ordering.{int_eq}
use Rattle.std.proofs.lemmas.Bool.{eqb-true, ltb-true}
use Rattle.sem_bits.specs.Number.{num, enc}
use Rattle.sem_bits.proofs.Numbers.{length-enc, num-enc}
use Rattle.sem_library.specs.Methods.{Spells}
use Rattle.sem_expr.specs.Values.{Assignment, val}
use Rattle.sem_expr.specs.declared.expr.Subject.{Subject}
use Rattle.sem_expr.specs.declared.expr.Side.{Side}
use Rattle.sem_expr.specs.declared.expr.Comparison.TheVariants.{Equal, NotEqual}
use Rattle.sem_expr.specs.declared.expr.Expr.{Expr}
use Rattle.sem_expr.specs.declared.expr.Expr.TheVariants as expr
use Rattle.sem_expr.specs.declared.expr.Expr.TheVariants.{Number, Parameter, Binary'}
use Rattle.sem_expr.specs.declared.expr.Cond.TheVariants.{Compare}
use Rattle.sem_profile.specs.declared.profile.Field.{Field}
use Rattle.sem_profile.specs.declared.profile.Sizes.{Sizes}
use Rattle.sem_profile.specs.declared.profile.FormatSizes.{FormatSizes}
use Rattle.sem_profile.specs.declared.profile.MethodSizes.{MethodSizes}
use Rattle.sem_profile.specs.declared.profile.Constraint.{Constraint}
use Rattle.sem_profile.specs.declared.profile.Constraint.TheVariants.{Enforce}
use Rattle.sem_profile.specs.declared.profile.Format.{Format}
use Rattle.sem_profile.specs.Constants.{constant}
use Rattle.sem_filling.specs.Fits.{Holds}
use Rattle.sem_filling.proofs.Bounding.{constant_value}
use Rattle.sem_filling.proofs.FitsSized.{and_then_some}
use Rattle.cert_types.specs.declared.certificate.Node.{Node}
use Rattle.cert_types.specs.declared.certificate.Node.TheVariants as node
use Rattle.cert_rules.specs.Rules.{when}
use Rattle.cert_types.specs.Kept.{trees_after, are_trees}
use Rattle.cert_rules.specs.Trees.{spelled, literal, fixed, after_bits, after_gap, after_field, known_bit, is_bit, lacks_bit, is_parameter, said_of, denied_of, is_number, is_other, is_denied, is_said, never_at, only_at, never_refers, only_refers, Reach, onward, reach_at, Reaches, IsRight, everything, PartsFormats, cut_off, by_bit, by_test, way}
use Rattle.cert_rules.specs.Reading.{Follows, CutOffBelow}
use Rattle.cert_rules.proofs.ViewsAgree.{and_true, when_some}
use Rattle.cert_rules.proofs.ViewsMethods.{num_same}
use Rattle.cert_rules.proofs.RulesConstraints.{compared, given_cases, same_numbers, number_self, other_numbers}

pub parameter_value : (a : Assignment) (p : ℕ) (e : Expr) → is_parameter p e ≡ true → val a e ≡ a.parameter p
parameter_value a p (Parameter s i) h = ap (λ z. a.parameter z) (eqb-true i p h)
parameter_value a p (Number s n) h = absurd (cc)
parameter_value a p (expr.Attribute s t) h = absurd (cc)
parameter_value a p (Binary' s op x l y r) h = absurd (cc)

-- ---- tests for a constant

-- of expressions of one value
module _ (side : Subject → Side → List Bool) (a : Assignment) (is : Expr → Bool) (v : Option ℤ) (value : (e : Expr) → is e ≡ true → val a e ≡ v) where
  -- the constant on the one side, the expression on the other
  sides_of : (x y : Expr) (d : ℤ) → option_and_then constant (when (is x) y) ≡ Some d → (val a x ≡ v) × (val a y ≡ Some d)
  sides_of x y d e =
      let t = and_then_some constant (when (is x) y) d e in
      let w = when_some (is x) y t.0 t.1 in
      (value x w.0, constant_value a y d (ap constant w.1 ∙ t.2))

  is_value : (k : Constraint) (d : ℤ) → said_of is k ≡ Some d → Holds side a k → v ≡ Some d
  is_value (Enforce (Compare s Equal x y) place) d e holds =
      let c = compared Equal (val a x) (val a y) holds in
      let same : c.0 ≡ c.1 = same_numbers c.0 c.1 c.4 in
      let equal : val a x ≡ val a y = c.2 ∙ (ap Some same ∙ sym c.3) in
      given_cases (option_and_then constant (when (is x) y)) (option_and_then constant (when (is y) x)) d (λ d. v ≡ Some d) e
      (λ d h. let t = sides_of x y d h in sym t.0 ∙ (equal ∙ t.1))
      (λ d h. let t = sides_of y x d h in sym t.0 ∙ (sym equal ∙ t.1))
  is_value _ d e holds = absurd (cc)

  one_number : (o : Option ℤ) (x y : ℤ) → o ≡ Some x → o ≡ Some y → x ≡ y
  one_number o x y e h = cc

  is_not_value : (k : Constraint) (d : ℤ) → denied_of is k ≡ Some d → Holds side a k → v ≡ Some d → ⊥
  is_not_value (Enforce (Compare s NotEqual x y) place) d e holds same =
      let c = compared NotEqual (val a x) (val a y) holds in
      other_numbers c.0 c.1 c.4
      (given_cases (option_and_then constant (when (is x) y)) (option_and_then constant (when (is y) x)) d (λ d. v ≡ Some d → c.0 ≡ c.1) e
      (λ d h same. let t = sides_of x y d h in one_number (val a x) c.0 d c.2 (t.0 ∙ same) ∙ one_number (val a y) d c.1 t.1 c.3)
      (λ d h same. let t = sides_of y x d h in one_number (val a x) c.0 d c.2 t.1 ∙ one_number (val a y) d c.1 (t.0 ∙ same) c.3) same)
  is_not_value _ d e holds same = absurd (cc)

  none_of : (test : Constraint → Bool) (ks : List Constraint) → ((j : ℕ) (k : Constraint) → slice_get ks j ≡ Some k → Holds side a k) → ((k : Constraint) → Holds side a k → test k ≡ false) → list_any test ks ≡ false
  none_of test [] h each = refl
  none_of test (k ∷ ks) h each = (λ i. each k (h zero k refl) i || list_any test ks) ∙ none_of test ks (λ j. h (suc j)) each

  not_other : (c : ℤ) (o : Option ℤ) → ((d : ℤ) → o ≡ Some d → c ≡ d) → is_other c o ≡ false
  not_other c None h = refl
  not_other c (Some d) h = ap (λ z. not (int_eq c z)) (sym (h d refl)) ∙ ap not (number_self c)

  false_of : (b : Bool) → (b ≡ true → ⊥) → b ≡ false
  false_of true h = absurd (h refl)
  false_of false h = refl

  not_number : (c : ℤ) (o : Option ℤ) → ((d : ℤ) → o ≡ Some d → c ≡ d → ⊥) → is_number c o ≡ false
  not_number c None h = refl
  not_number c (Some d) h = false_of (int_eq c d) (λ e. h d refl (same_numbers c d e))

  some_same : (o : Option ℤ) (c d : ℤ) → o ≡ Some c → o ≡ Some d → c ≡ d
  some_same o c d e h = cc

  pub kept_at : (ks : List Constraint) (c : ℤ) → ((j : ℕ) (k : Constraint) → slice_get ks j ≡ Some k → Holds side a k) → v ≡ Some c → is_denied is c ks ≡ false
  kept_at ks c h e = none_of (λ k. is_other c (said_of is k) || is_number c (denied_of is k)) ks h
      (λ k holds. (λ i. not_other c (said_of is k) (λ d f. some_same v c d e (is_value k d f holds)) i || is_number c (denied_of is k)) ∙
      not_number c (denied_of is k) (λ d f same. is_not_value k d f holds (e ∙ ap Some same)))

  pub kept_off : (ks : List Constraint) (c : ℤ) → ((j : ℕ) (k : Constraint) → slice_get ks j ≡ Some k → Holds side a k) → (v ≡ Some c → ⊥) → is_said is c ks ≡ false
  kept_off ks c h e = none_of (λ k. is_number c (said_of is k)) ks h
      (λ k holds. not_number c (said_of is k) (λ d f same. e (is_value k d f holds ∙ ap Some (sym same))))

-- ---- known bits

pub spelled_is : (p q : ℤ) (bits c : List Bool) → spelled (Some p) (Some q) ≡ Some bits → Spells p q c → c ≡ bits
spelled_is (pos n) (pos v) bits c e h =
    let w = when_some (nat_le n 64 && nat_lt v (2 ^ n)) (enc n v) bits e in
    let b = and_true (nat_le n 64) (nat_lt v (2 ^ n)) w.0 in
    let l : length c ≡ n = let x = h.length_is in cc in
    let m : num c ≡ v = let x = h.number_is in cc in
    num_same c (enc n v) (l ∙ sym (length-enc n v)) (m ∙ sym (num-enc n v (ltb-true v (2 ^ n) b.1))) ∙ w.1
spelled_is (pos n) (negsuc v) bits c e h = absurd (cc)
spelled_is (negsuc n) q bits c e h = absurd (cc)

bits_sound : (bits : List Bool) (rest : ℕ → Option Bool) (ys : List Bool) → ((o : ℕ) (b : Bool) → rest o ≡ Some b → slice_get ys o ≡ Some b) → (o : ℕ) (b : Bool) → after_bits bits rest o ≡ Some b → slice_get (bits ++ ys) o ≡ Some b
bits_sound [] rest ys h o b e = h o b e
bits_sound (x ∷ bits) rest ys h zero b e = e
bits_sound (x ∷ bits) rest ys h (suc o) b e = bits_sound bits rest ys h o b e

gap_sound : (n : ℕ) (xs : List Bool) (rest : ℕ → Option Bool) (ys : List Bool) → length xs ≡ n → ((o : ℕ) (b : Bool) → rest o ≡ Some b → slice_get ys o ≡ Some b) → (o : ℕ) (b : Bool) → after_gap n rest o ≡ Some b → slice_get (xs ++ ys) o ≡ Some b
gap_sound zero [] rest ys l h o b e = h o b e
gap_sound zero (x ∷ xs) rest ys l h o b e = absurd (omega (arith, l))
gap_sound (suc n) [] rest ys l h o b e = absurd (omega (arith, l))
gap_sound (suc n) (x ∷ xs) rest ys l h zero b e = absurd (cc)
gap_sound (suc n) (x ∷ xs) rest ys l h (suc o) b e = gap_sound n xs rest ys (omega (arith, l)) h o b e

field_sound : (l : Option (List Bool)) (w : Option ℕ) (rest : ℕ → Option Bool) (xs ys : List Bool) → ((bits : List Bool) → l ≡ Some bits → xs ≡ bits) → ((n : ℕ) → w ≡ Some n → length xs ≡ n) →
    ((o : ℕ) (b : Bool) → rest o ≡ Some b → slice_get ys o ≡ Some b) → (o : ℕ) (b : Bool) → after_field l w rest o ≡ Some b → slice_get (xs ++ ys) o ≡ Some b
field_sound (Some bits) w rest xs ys is gap h o b e = subst (λ z. slice_get (z ++ ys) o ≡ Some b) (sym (is bits refl)) (bits_sound bits rest ys h o b e)
field_sound None (Some n) rest xs ys is gap h o b e = gap_sound n xs rest ys (gap n refl) h o b e
field_sound None None rest xs ys is gap h o b e = absurd (cc)

pub known_sound : (fields : List Field) (sizes : List Sizes) (c : ℕ → List Bool) →
    ((i : ℕ) (bits : List Bool) → option_and_then (λ d. literal d.encoding) (slice_get fields i) ≡ Some bits → c i ≡ bits) →
    ((i n : ℕ) → option_and_then (λ b. fixed b.compressed) (slice_get sizes i) ≡ Some n → length (c i) ≡ n) →
    (listing : List ℕ) (o : ℕ) (b : Bool) → known_bit fields sizes listing o ≡ Some b → slice_get (flat_map c listing) o ≡ Some b
known_sound fields sizes c is gap [] o b e = absurd (cc)
known_sound fields sizes c is gap (i ∷ more) o b e =
    field_sound (option_and_then (λ d. literal d.encoding) (slice_get fields i)) (option_and_then (λ b. fixed b.compressed) (slice_get sizes i)) (known_bit fields sizes more) (c i) (flat_map c more)
    (is i) (gap i) (known_sound fields sizes c is gap more) o b e

-- ---- the way

-- what a fitting filling of the format tells of its bits, its arguments and the references of its fields
pub record Told (format : Format) (sizes : FormatSizes) (refs : ℕ → Option ℤ) (bits : List Bool) (args : List ℤ) : Type 0 where
  pub known : (o : ℕ) (b : Bool) → known_bit format.fields sizes.fields format.listing o ≡ Some b → slice_get bits o ≡ Some b
  pub long : sizes.whole.compressed.least ≤ length bits
  pub kept : (p : ℕ) (c : ℤ) → slice_get args p ≡ Some c → never_at p c format ≡ false
  pub off : (p : ℕ) (c : ℤ) → (slice_get args p ≡ Some c → ⊥) → only_at p c format ≡ false
  pub referring : (i : ℕ) (c : ℤ) → refs i ≡ Some c → never_refers i c format ≡ false
  pub other : (i : ℕ) (c : ℤ) → (refs i ≡ Some c → ⊥) → only_refers i c format ≡ false

-- the bits at one place of lists that begin the same bits are one
front_bit : (xs ys r q : List Bool) (o : ℕ) (b : Bool) → xs ++ r ≡ ys ++ q → o < length xs → slice_get ys o ≡ Some b → slice_get xs o ≡ Some b
front_bit [] ys r q o b e l at = absurd (omega (arith, l))
front_bit (x ∷ xs) [] r q o b e l at = absurd (cc)
front_bit (x ∷ xs) (y ∷ ys) r q zero b e l at = let same : x ≡ y = cc in ap Some same ∙ at
front_bit (x ∷ xs) (y ∷ ys) r q (suc o) b e l at = let rest : xs ++ r ≡ ys ++ q = cc in front_bit xs ys r q o b rest (omega (arith, l)) at

past_end : (ys : List Bool) (o : ℕ) → slice_get ys o ≡ None → length ys ≤ o
past_end [] o e = omega arith
past_end (y ∷ ys) zero e = absurd (cc)
past_end (y ∷ ys) (suc o) e = omega (arith, past_end ys o e)

lacks : (o : Option Bool) (b : Bool) → ((x : Bool) → o ≡ Some x → x ≡ b) → not (is_bit (not b) o) ≡ true
lacks None b h = refl
lacks (Some true) true h = refl
lacks (Some false) true h = absurd (let e = h false refl in cc)
lacks (Some true) false h = absurd (let e = h true refl in cc)
lacks (Some false) false h = refl

true_and : (a b : Bool) → a ≡ true → b ≡ true → (a && b) ≡ true
true_and a b e h = λ i. (e ∙ refl) i && h i

number_is : (c : ℤ) (o : Option ℤ) → is_number c o ≡ true → o ≡ Some c
number_is c None e = absurd (cc)
number_is c (Some d) e = ap Some (sym (same_numbers c d e))

is_this : (c : ℤ) (o : Option ℤ) → o ≡ Some c → is_number c o ≡ true
is_this c o e = ap (is_number c) e ∙ number_self c

-- the nodes are right, each by what reaches it
abbrev AllRight : List Format → MethodSizes → List Reach → List Node → Type 0
AllRight formats s rs [] = Unit {0}
AllRight formats s [] (x ∷ nodes) = Unit {0}
AllRight formats s (r ∷ rs) (x ∷ nodes) = IsRight formats s r x × AllRight formats s (onward r x ++ rs) nodes

all_right : (formats : List Format) (s : MethodSizes) (rs : List Reach) (nodes : List Node) →
    ((n : ℕ) (x : Node) (reach : Reach) → slice_get nodes n ≡ Some x → reach_at rs nodes n ≡ Some reach → IsRight formats s reach x) → AllRight formats s rs nodes
all_right formats s rs [] h = tt
all_right formats s [] (x ∷ nodes) h = tt
all_right formats s (r ∷ rs) (x ∷ nodes) h = (h zero x r refl refl, all_right formats s (onward r x ++ rs) nodes (λ n. h (suc n)))

counted : (r : Reach) (x : Node) (rs : List Reach) → length (onward r x ++ rs) ≡ trees_after x (length rs)
counted r (node.Bit o) rs = refl
counted r (node.Parameter i c) rs = refl
counted r (node.Reference i c) rs = refl
counted r (node.Leaf k) rs = refl
counted r node.Nowhere rs = refl

passed : (r : Reach) (x : Node) (rs : List Reach) (j : ℕ) → slice_get (onward r x ++ rs) (trees_after x j) ≡ slice_get rs j
passed r (node.Bit o) rs j = refl
passed r (node.Parameter i c) rs j = refl
passed r (node.Reference i c) rs j = refl
passed r (node.Leaf k) rs j = refl
passed r node.Nowhere rs j = refl

module _ (formats : List Format) (s : MethodSizes) (n : ℕ) (format : Format) (sizes : FormatSizes) (is_format : slice_get formats n ≡ Some format) (is_sizes : slice_get s.formats n ≡ Some sizes)
    (refs : ℕ → Option ℤ) (bits own r q : List Bool) (args : List ℤ) (same : own ++ r ≡ bits ++ q) (told : Told format sizes refs own args) where
  abbrev reaching : (reach : Reach) → reach format sizes ≡ true → Reaches formats s reach n
  reaching reach e = record { format = format; sizes = sizes; format_at = is_format; sizes_at = is_sizes; reaches = e }

  -- from a subtree of a node on
  abbrev On : Reach → Node → List Node → Type 0
  On reach x nodes = (j : ℕ) (on : Reach) → slice_get (onward reach x) j ≡ Some on → on format sizes ≡ true → Follows n bits own (way refs bits args j nodes)

  after_bit : (o : ℕ) (reach : Reach) (nodes : List Node) (found : Option Bool) → slice_get bits o ≡ found → o < length own → reach format sizes ≡ true →
      On reach (node.Bit o) nodes → Follows n bits own (by_bit found (λ m. way refs bits args m nodes))
  after_bit o reach nodes None is low here on = let e = past_end bits o is in omega (arith, e, low)
  after_bit o reach nodes (Some false) is low here on =
      let own_bit = front_bit own bits r q o false same low is in
      on 0 (λ f z. reach f z && lacks_bit true o f z) refl
      (true_and (reach format sizes) (lacks_bit true o format sizes) here (lacks (known_bit format.fields sizes.fields format.listing o) false (λ x e. let h = told.known o x e in cc)))
  after_bit o reach nodes (Some true) is low here on =
      let own_bit = front_bit own bits r q o true same low is in
      on 1 (λ f z. reach f z && lacks_bit false o f z) refl
      (true_and (reach format sizes) (lacks_bit false o format sizes) here (lacks (known_bit format.fields sizes.fields format.listing o) true (λ x e. let h = told.known o x e in cc)))

  after_test : (i : ℕ) (c : ℤ) (reach : Reach) (nodes : List Node) (found : Bool) → is_number c (slice_get args i) ≡ found → reach format sizes ≡ true →
      On reach (node.Parameter i c) nodes → Follows n bits own (by_test found (λ m. way refs bits args m nodes))
  after_test i c reach nodes true is here on =
      on 0 (λ f z. reach f z && not (never_at i c f)) refl
      (true_and (reach format sizes) (not (never_at i c format)) here (ap not (told.kept i c (number_is c (slice_get args i) is))))
  after_test i c reach nodes false is here on =
      on 1 (λ f z. reach f z && not (only_at i c f)) refl
      (true_and (reach format sizes) (not (only_at i c format)) here (ap not (told.off i c (λ e. let h = is_this c (slice_get args i) e in let wrong : true ≡ false = sym h ∙ is in absurd (cc)))))

  after_reference : (i : ℕ) (c : ℤ) (reach : Reach) (nodes : List Node) (found : Bool) → is_number c (refs i) ≡ found → reach format sizes ≡ true →
      On reach (node.Reference i c) nodes → Follows n bits own (by_test found (λ m. way refs bits args m nodes))
  after_reference i c reach nodes true is here on =
      on 0 (λ f z. reach f z && not (never_refers i c f)) refl
      (true_and (reach format sizes) (not (never_refers i c format)) here (ap not (told.referring i c (number_is c (refs i) is))))
  after_reference i c reach nodes false is here on =
      on 1 (λ f z. reach f z && not (only_refers i c f)) refl
      (true_and (reach format sizes) (not (only_refers i c format)) here (ap not (told.other i c (λ e. let h = is_this c (refs i) e in let wrong : true ≡ false = sym h ∙ is in absurd (cc)))))

  in_front : (xs ys : List Reach) (j : ℕ) (on : Reach) → slice_get xs j ≡ Some on → slice_get (xs ++ ys) j ≡ Some on
  in_front [] ys j on e = absurd (cc)
  in_front (x ∷ xs) ys zero on e = e
  in_front (x ∷ xs) ys (suc j) on e = in_front xs ys j on e

  follows : (nodes : List Node) (rs : List Reach) (j : ℕ) (reach : Reach) → are_trees (length rs) nodes ≡ true → AllRight formats s rs nodes →
      slice_get rs j ≡ Some reach → reach format sizes ≡ true → Follows n bits own (way refs bits args j nodes)
  follows [] [] j reach whole right at reached = absurd (cc)
  follows [] (r ∷ rs) j reach whole right at reached = absurd (cc)
  follows (x ∷ nodes) [] j reach whole right at reached = absurd (cc)
  follows (x ∷ nodes) (r ∷ rs) (suc j) reach whole right at reached =
      follows nodes (onward r x ++ rs) (trees_after x j) reach (ap (λ k. are_trees k nodes) (counted r x rs) ∙ whole) right.1 (passed r x rs j ∙ at) reached
  follows (node.Leaf k ∷ nodes) (r ∷ rs) zero reach whole right at reached =
      let this : r ≡ reach = cc in
      right.0 n (reaching r (ap (λ (z : Reach). z format sizes) this ∙ reached))
  follows (node.Nowhere ∷ nodes) (r ∷ rs) zero reach whole right at reached =
      let this : r ≡ reach = cc in
      right.0 n (reaching r (ap (λ (z : Reach). z format sizes) this ∙ reached))
  follows (node.Bit o ∷ nodes) (r ∷ rs) zero reach whole right at reached =
      let this : r ≡ reach = cc in
      let here : r format sizes ≡ true = ap (λ (z : Reach). z format sizes) this ∙ reached in
      let below : o < sizes.whole.compressed.least = right.0 n (reaching r here) in
      let long = told.long in
      after_bit o r nodes (slice_get bits o) refl (omega arith) here
      (λ j on at' reached'. follows nodes (onward r (node.Bit o) ++ rs) j on whole right.1 (in_front (onward r (node.Bit o)) rs j on at') reached')
  follows (node.Parameter i c ∷ nodes) (r ∷ rs) zero reach whole right at reached =
      let this : r ≡ reach = cc in
      let here : r format sizes ≡ true = ap (λ (z : Reach). z format sizes) this ∙ reached in
      after_test i c r nodes (is_number c (slice_get args i)) refl here
      (λ j on at' reached'. follows nodes (onward r (node.Parameter i c) ++ rs) j on whole right.1 (in_front (onward r (node.Parameter i c)) rs j on at') reached')
  follows (node.Reference i c ∷ nodes) (r ∷ rs) zero reach whole right at reached =
      let this : r ≡ reach = cc in
      let here : r format sizes ≡ true = ap (λ (z : Reach). z format sizes) this ∙ reached in
      after_reference i c r nodes (is_number c (refs i)) refl here
      (λ j on at' reached'. follows nodes (onward r (node.Reference i c) ++ rs) j on whole right.1 (in_front (onward r (node.Reference i c)) rs j on at') reached')

  -- the way through the whole tree
  pub leads_on : (nodes : List Node) → PartsFormats formats s nodes → Follows n bits own (way refs bits args 0 nodes)
  leads_on nodes h = follows nodes (everything ∷ []) 0 everything h.whole (all_right formats s (everything ∷ []) nodes h.each) refl refl

-- ---- bits that run out

-- past a test
cut_by : (limit : ℕ) (nodes : List Node) (refs : ℕ → Option ℤ) (bits : List Bool) (args : List ℤ) (found : Bool) → by_test found (λ m. way refs bits args m nodes) ≡ cut_off →
    ((j : ℕ) → way refs bits args j nodes ≡ cut_off → length bits < limit) → length bits < limit
cut_by limit nodes refs bits args true e on = on 0 e
cut_by limit nodes refs bits args false e on = on 1 e

cut_below : (limit : ℕ) (nodes : List Node) (refs : ℕ → Option ℤ) (bits : List Bool) (args : List ℤ) (j : ℕ) → ((n o : ℕ) → slice_get nodes n ≡ Some (node.Bit o) → o < limit) → way refs bits args j nodes ≡ cut_off → length bits < limit
cut_below limit [] refs bits args j low e = absurd (cc)
cut_below limit (x ∷ nodes) refs bits args (suc j) low e = cut_below limit nodes refs bits args (trees_after x j) (λ n. low (suc n)) e
cut_below limit (node.Leaf k ∷ nodes) refs bits args zero low e = absurd (cc)
cut_below limit (node.Nowhere ∷ nodes) refs bits args zero low e = absurd (cc)
cut_below limit (node.Bit o ∷ nodes) refs bits args zero low e = by (slice_get bits o) refl e (λ j e. cut_below limit nodes refs bits args j (λ n. low (suc n)) e)
  where
    by : (found : Option Bool) → slice_get bits o ≡ found → by_bit found (λ m. way refs bits args m nodes) ≡ cut_off → ((j : ℕ) → way refs bits args j nodes ≡ cut_off → length bits < limit) → length bits < limit
    by None is e on = omega (arith, past_end bits o is, low 0 o refl)
    by (Some false) is e on = on 0 e
    by (Some true) is e on = on 1 e
cut_below limit (node.Parameter i c ∷ nodes) refs bits args zero low e =
    cut_by limit nodes refs bits args (is_number c (slice_get args i)) e (λ j e. cut_below limit nodes refs bits args j (λ n. low (suc n)) e)
cut_below limit (node.Reference i c ∷ nodes) refs bits args zero low e =
    cut_by limit nodes refs bits args (is_number c (refs i)) e (λ j e. cut_below limit nodes refs bits args j (λ n. low (suc n)) e)

pub cut_off_below : CutOffBelow
cut_off_below limit nodes refs bits args j low e = cut_below limit nodes refs bits args j low e
