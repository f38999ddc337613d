-- An ordered tree names formats and parameters of its method.
use Rattle.std.proofs.Common.{◌≡◌, ◌∙◌, refl, sym, ap, subst, ℕ, zero, suc, ◌<◌, Bool, true, false, cond, List, [], ◌∷◌, ◌++◌, length}
use Rattle.std.specs.Prelude.{Option, Some, None, slice_get, ℤ}
use Rattle.std.specs.List.{find, filter_map, flat_map, cons_option, AllByRecursion}
use Rattle.std.proofs.lemmas.Option.{slice_get_within}
use Rattle.sem_expr.specs.declared.expr.Cond.{Cond}
use Rattle.sem_expr.specs.declared.expr.Cond.TheVariants.{Constant, Compare, Not', And', Or'}
use Rattle.sem_expr.specs.declared.expr.Expr.{Expr}
use Rattle.sem_expr.specs.declared.expr.Expr.TheVariants as expr
use Rattle.sem_expr.specs.declared.expr.Expr.TheVariants.{Number, Parameter, Binary'}
use Rattle.sem_expr.specs.declared.expr.Subject.{Subject}
use Rattle.sem_expr.specs.declared.expr.Subject.TheVariants as subject
use Rattle.sem_expr.specs.declared.expr.Side.{Side}
use Rattle.sem_expr.specs.declared.expr.Side.TheVariants.{Uncompressed, Compressed}
use Rattle.sem_expr.specs.declared.expr.Measure.{Measure}
use Rattle.sem_expr.specs.declared.expr.Measure.TheVariants as measure
use Rattle.sem_expr.specs.declared.interval.Interval.{Interval}
use Rattle.sem_expr.specs.declared.inputs.Input.{Input}
use Rattle.sem_expr.specs.declared.inputs.Input.TheVariants as input
use Rattle.sem_expr.specs.Inputs.{inputs_of, condition_inputs_of}
use Rattle.sem_profile.specs.Constants.{constant}
use Rattle.sem_profile.specs.declared.profile.Part.TheVariants.{Local}
use Rattle.sem_profile.specs.declared.profile.Declared.{Declared}
use Rattle.sem_profile.specs.declared.profile.Field.{Field}
use Rattle.sem_profile.specs.declared.profile.Format.{Format}
use Rattle.sem_profile.specs.declared.profile.Library.TheVariants as library
use Rattle.sem_profile.specs.declared.profile.Encoding.{Encoding}
use Rattle.sem_profile.specs.declared.profile.Encoding.TheVariants as encoding
use Rattle.sem_profile.specs.declared.profile.Constraint.{Constraint}
use Rattle.sem_profile.specs.declared.profile.Constraint.TheVariants.{Bracket, Enforce}
use Rattle.sem_profile.specs.declared.profile.Method.{Method}
use Rattle.sem_profile.specs.declared.profile.MethodSizes.{MethodSizes}
use Rattle.sem_profile.specs.WellFormed.{refers, FormatIsSound, AreWellFormed}
use Rattle.cert_types.specs.declared.certificate.Version.{Version}
use Rattle.cert_types.specs.declared.certificate.Version.TheVariants.{One, Two}
use Rattle.cert_types.specs.declared.certificate.Node.{Node}
use Rattle.cert_types.specs.declared.certificate.Node.TheVariants as node
use Rattle.cert_types.specs.Kept.{are_trees, IsNodeIn}
use Rattle.cert_types.specs.Of.{IsFirstKept, IsNodeOf}
use Rattle.sem_profile.specs.Alike.{AreAlike}
use Rattle.cert_rules.specs.Trees.{Reach, onward, reach_at, everything, is_static, is_static_field}
use Rattle.cert_rules.proofs.ViewsAgree.{when_some}
use Rattle.cert_rules.proofs.RulesConstraints.{given_cases}
use Rattle.cert_rules.proofs.Numbers.{in_left, in_right}
use Rattle.cert_trees.specs.declared.equations.Equation.{Equation}
use Rattle.cert_trees.specs.Equations.{parameter_of, static_value, static_of, paired, equality, compared_by, condition_by, condition_equation, equation_of, reference_of}
use Rattle.cert_prove.specs.Tree.{Numbered, all_of, parts_by, equations, refers_apart, references, TreeRule, least_offset, first_equation, first_reference, no_test, NodeRule}
use Rattle.cert_prove.specs.Growing.{those}
use Rattle.cert_prove.specs.TreeLaws.{OrderedNames, OrderedIsVersed}
use Rattle.cert_prove.proofs.RuleElements.{each_kept}
use Rattle.cert_prove.proofs.TreeTesting.{StandsAt, all_stand}
use Rattle.cert_prove.proofs.TreeWhole.{counted}

-- ---- facts of each element

each_joined : {X : Type 0} (P : X → Type 0) (xs ys : List X) → AllByRecursion P xs → AllByRecursion P ys → AllByRecursion P (xs ++ ys)
each_joined P [] ys h g = g
each_joined P (x ∷ xs) ys h g = (h.0, each_joined P xs ys h.1 g)

each_flat : {X Y : Type 0} (P : Y → Type 0) (f : X → List Y) (Q : X → Type 0) → ((x : X) → Q x → AllByRecursion P (f x)) → (xs : List X) → AllByRecursion Q xs → AllByRecursion P (flat_map f xs)
each_flat P f Q on [] h = tt
each_flat P f Q on (x ∷ xs) h = each_joined P (f x) (flat_map f xs) (on x h.0) (each_flat P f Q on xs h.1)

each_mapped : {X Y : Type 0} (P : Y → Type 0) (f : X → Option Y) (xs : List X) → ((n : ℕ) (x : X) (y : Y) → slice_get xs n ≡ Some x → f x ≡ Some y → P y) → AllByRecursion P (filter_map f xs)
each_mapped P f [] on = tt
each_mapped {Y = Y} P f (x ∷ xs) on = by (f x) refl (each_mapped P f xs (λ n. on (suc n)))
  where
    by : (o : Option Y) → f x ≡ o → AllByRecursion P (filter_map f xs) → AllByRecursion P (cons_option o (filter_map f xs))
    by None e rest = rest
    by (Some y) e rest = (on zero x y refl e, rest)

found_has : {X : Type 0} (P : X → Type 0) (p : X → Bool) (x : X) (xs : List X) → AllByRecursion P xs → find p xs ≡ Some x → P x
found_has P p x [] h e = absurd (cc)
found_has P p x (y ∷ ys) h e = by (p y) e (found_has P p x ys h.1)
  where
    by : (b : Bool) → cond b (Some y) (find p ys) ≡ Some x → (find p ys ≡ Some x → P x) → P x
    by true e rest = let same : y ≡ x = cc in subst P same h.0
    by false e rest = rest e

each_at : {X : Type 0} (P : X → Type 0) (xs : List X) → ((n : ℕ) (x : X) → slice_get xs n ≡ Some x → P x) → AllByRecursion P xs
each_at P [] on = tt
each_at P (x ∷ xs) on = (on zero x refl, each_at P xs (λ n. on (suc n)))

-- ---- the parameter of an equation stands in its condition

abbrev StandsIn : ℕ → List Input → Type 0
StandsIn p inputs = (k : ℕ) × (slice_get inputs k ≡ Some (input.Parameter p))

is_input : (e : Expr) (p : ℕ) → parameter_of e ≡ Some p → slice_get (inputs_of e) 0 ≡ Some (input.Parameter p)
is_input (Parameter s q) p h = let same : q ≡ p = cc in ap (λ n. Some (input.Parameter n)) same
is_input (Number s n) p h = absurd (cc)
is_input (expr.Attribute s t) p h = absurd (cc)
is_input (Binary' s op x l y r) p h = absurd (cc)

paired_by : (equal : Bool) (a : Option ℕ) (c : Option ℤ) (e : Equation) → paired equal a c ≡ Some e → a ≡ Some e.tested
paired_by equal (Some p) (Some c) e h = let same : record { tested = p; constant = c; equal = equal } ≡ e = cc in ap (λ (q : Equation). Some q.tested) same
paired_by equal (Some p) None e h = absurd (cc)
paired_by equal None c e h = absurd (cc)

condition_has : (c : Cond) (e : Equation) → condition_equation c ≡ Some e → StandsIn e.tested (condition_inputs_of c)
condition_has (Compare s comparison x y) e h = by (equality comparison) h
  where
    by : (o : Option Bool) → compared_by parameter_of x y o ≡ Some e → StandsIn e.tested (inputs_of x ++ inputs_of y)
    by None h = absurd (cc)
    by (Some equal) h = given_cases (paired equal (parameter_of x) (constant y)) (paired equal (parameter_of y) (constant x)) e (λ q. StandsIn q.tested (inputs_of x ++ inputs_of y)) h
        (λ q f. (0, in_left (inputs_of x) (inputs_of y) 0 (input.Parameter q.tested) (is_input x q.tested (paired_by equal (parameter_of x) (constant y) q f))))
        (λ q f. in_right (inputs_of x) (inputs_of y) 0 (input.Parameter q.tested) (is_input y q.tested (paired_by equal (parameter_of y) (constant x) q f)))
condition_has (Constant s b) e h = absurd (cc)
condition_has (Not' s p x) e h = absurd (cc)
condition_has (And' s p x q y) e h = absurd (cc)
condition_has (Or' s p x q y) e h = absurd (cc)

-- ---- the field of a reference is static

static_is : (e : Encoding) → is_static e ≡ true → e ≡ encoding.Library library.Static
static_is (encoding.Library library.Static) h = refl
static_is (encoding.Library (library.UncompressedValue len v)) h = absurd (cc)
static_is (encoding.Library (library.CompressedValue len v)) h = absurd (cc)
static_is (encoding.Library (library.Irregular len)) h = absurd (cc)
static_is (encoding.Library (library.Lsb b offset)) h = absurd (cc)
static_is (encoding.Library (library.Crc crc)) h = absurd (cc)
static_is encoding.Bare h = absurd (cc)
static_is (encoding.Call j es) h = absurd (cc)

static_at : (o : Option Field) → is_static_field o ≡ true → (d : Field) × (o ≡ Some d) × (d.encoding ≡ encoding.Library library.Static)
static_at (Some d) h = (d, refl, static_is d.encoding h)
static_at None h = absurd (cc)

value_static : (fields : List Field) (z : Subject) (d : Side) (m : Measure) (i : ℕ) → static_value fields z d m ≡ Some i → is_static_field (slice_get fields i) ≡ true
value_static fields (subject.Field j) Uncompressed measure.Value i e =
    let w = when_some (is_static_field (slice_get fields j)) j i e in
    ap (λ n. is_static_field (slice_get fields n)) (sym w.1) ∙ w.0
value_static fields (subject.Field j) Uncompressed measure.Length i e = absurd (cc)
value_static fields (subject.Field j) Compressed m i e = absurd (cc)
value_static fields subject.This d m i e = absurd (cc)

is_static_of : (fields : List Field) (e : Expr) (i : ℕ) → static_of fields e ≡ Some i → is_static_field (slice_get fields i) ≡ true
is_static_of fields (expr.Attribute s t) i h = value_static fields t.subject t.side t.measure i h
is_static_of fields (Parameter s q) i h = absurd (cc)
is_static_of fields (Number s n) i h = absurd (cc)
is_static_of fields (Binary' s op x l y r) i h = absurd (cc)

condition_static : (fields : List Field) (c : Cond) (e : Equation) → condition_by (static_of fields) c ≡ Some e → is_static_field (slice_get fields e.tested) ≡ true
condition_static fields (Compare s comparison x y) e h = by (equality comparison) h
  where
    by : (o : Option Bool) → compared_by (static_of fields) x y o ≡ Some e → is_static_field (slice_get fields e.tested) ≡ true
    by None h = absurd (cc)
    by (Some equal) h = given_cases (paired equal (static_of fields x) (constant y)) (paired equal (static_of fields y) (constant x)) e (λ q. is_static_field (slice_get fields q.tested) ≡ true) h
        (λ q f. is_static_of fields x q.tested (paired_by equal (static_of fields x) (constant y) q f))
        (λ q f. is_static_of fields y q.tested (paired_by equal (static_of fields y) (constant x) q f))
condition_static fields (Constant s b) e h = absurd (cc)
condition_static fields (Not' s p x) e h = absurd (cc)
condition_static fields (And' s p x q y) e h = absurd (cc)
condition_static fields (Or' s p x q y) e h = absurd (cc)

-- ---- nodes

module _ (version : Version) (methods : List Method) (k : ℕ) (m : Method) (s : MethodSizes) (formed : AreWellFormed methods) (alike : AreAlike methods) (at : slice_get methods k ≡ Some m) where
  abbrev IsThere : Equation → Type 0
  IsThere e = e.tested < length m.parameters

  constraint_there : (z : Numbered) → FormatIsSound methods (length m.parameters) z.format → (n : ℕ) (c : Constraint) (e : Equation) → slice_get z.format.constraints n ≡ Some c → equation_of c ≡ Some e → IsThere e
  constraint_there z sound n (Enforce c place) e is h = let stands = condition_has c e h in (sound.conditions n c place is).of_parameters stands.0 e.tested stands.1
  constraint_there z sound n (Bracket i side lengths place) e is h = absurd (cc)

  equations_there : (set : List Numbered) → AllByRecursion (StandsAt m.formats s) set → AllByRecursion IsThere (equations set)
  equations_there set h = each_flat IsThere (λ z. filter_map equation_of z.format.constraints) (StandsAt m.formats s)
      (λ z there. each_mapped IsThere equation_of z.format.constraints (constraint_there z (formed.formats k z.number m z.format at there.format_at))) set h

  abbrev IsKept : Equation → Type 0
  IsKept e = IsFirstKept m.formats e.tested

  -- a field that is static is a header or control field, as the first format has it
  static_kept : (z : Numbered) → StandsAt m.formats s z → (i : ℕ) → is_static_field (slice_get z.format.fields i) ≡ true → IsFirstKept m.formats i
  static_kept z there i is =
      let d = static_at (slice_get z.format.fields i) is in
      let sound = formed.formats k z.number m z.format at there.format_at in
      let kept = sound.referring i d.0 d.1 (ap refers d.2) in
      by m.formats refl there.format_at d.0 d.1 kept
    where
      by : (formats : List Format) → m.formats ≡ formats → slice_get m.formats z.number ≡ Some z.format → (d : Field) → slice_get z.format.fields i ≡ Some d → (d.declared.part ≡ Local → ⊥) → IsFirstKept formats i
      by [] e there d at_d kept = let wrong : None ≡ Some z.format = ap (λ fs. slice_get fs z.number) (sym e) ∙ there in absurd (cc)
      by (first ∷ formats) e there d at_d kept =
          let first_at : slice_get m.formats 0 ≡ Some first = ap (λ fs. slice_get fs 0) e in
          let f = alike.fields k z.number 0 i m z.format first d at there first_at at_d kept in
          record { field = f.0; field_at = f.1; kept = λ local. kept (ap (λ (x : Declared). x.part) (sym f.2.declared_is) ∙ local) }

  reference_there : (z : Numbered) → StandsAt m.formats s z → (n : ℕ) (c : Constraint) (e : Equation) → slice_get z.format.constraints n ≡ Some c → reference_of z.format.fields c ≡ Some e → IsKept e
  reference_there z there n (Enforce c place) e is h = static_kept z there e.tested (condition_static z.format.fields c e h)
  reference_there z there n (Bracket i side lengths place) e is h = absurd (cc)

  references_there : (version : Version) (set : List Numbered) → AllByRecursion (StandsAt m.formats s) set → AllByRecursion IsKept (references version set)
  references_there One set h = tt
  references_there Two set h = each_flat IsKept (λ z. filter_map (reference_of z.format.fields) z.format.constraints) (StandsAt m.formats s)
      (λ z there. each_mapped IsKept (reference_of z.format.fields) z.format.constraints (reference_there z there)) set h

  test_there : (set : List Numbered) → AllByRecursion (StandsAt m.formats s) set → (t : Option Node) (x : Node) → t ≡ Some x → TreeRule version s.parameters set t → IsNodeOf m x
  test_there set h _ x e (least_offset {o = o} parts before) = let same : node.Bit o ≡ x = cc in subst (IsNodeOf m) same tt
  test_there set h _ x e (first_equation {e = q} none found) =
      let same : node.Parameter q.tested q.constant ≡ x = cc in subst (IsNodeOf m) same (found_has IsThere (parts_by s.parameters set) q (equations set) (equations_there set h) found)
  test_there set h _ x e (first_reference {e = q} none no_equation found) =
      let same : node.Reference q.tested q.constant ≡ x = cc in subst (IsNodeOf m) same (found_has IsKept (refers_apart set) q (references version set) (references_there version set h) found)
  test_there set h _ x e (no_test none found no_reference) = absurd (cc)

  node_there : (set : List Numbered) → AllByRecursion (StandsAt m.formats s) set → (x : Node) → NodeRule version s.parameters set x → IsNodeOf m x
  node_there [] h x rule = subst (IsNodeOf m) (sym rule) tt
  node_there (z ∷ []) h x rule = subst (IsNodeOf m) (sym rule) (slice_get_within m.formats z.number z.format h.0.format_at)
  node_there (z ∷ w ∷ set) h x rule = test_there (z ∷ w ∷ set) h (Some x) x refl rule

-- each node of whole trees is reached by something
arrives : (rs : List Reach) (nodes : List Node) → are_trees (length rs) nodes ≡ true → (n : ℕ) (x : Node) → slice_get nodes n ≡ Some x → (r : Reach) × (reach_at rs nodes n ≡ Some r)
arrives rs [] whole n x at = absurd (cc)
arrives [] (y ∷ nodes) whole n x at = absurd (cc)
arrives (r ∷ rs) (y ∷ nodes) whole zero x at = (r, refl)
arrives (r ∷ rs) (y ∷ nodes) whole (suc n) x at = arrives (onward r y ++ rs) nodes (ap (λ count. are_trees count nodes) (counted r y rs) ∙ whole) n x at

pub ordered_names : OrderedNames
ordered_names version methods k m s nodes formed alike at o = each_at (IsNodeOf m) nodes
    (λ n x is.
    let r = arrives (everything ∷ []) nodes o.whole n x is in
    let stand = each_kept (StandsAt m.formats s) (λ z. r.0 z.format z.sizes) (all_of m.formats s) (all_stand m.formats s) in
    node_there version methods k m s formed alike at (those r.0 (all_of m.formats s)) stand x (o.each n x r.0 is r.1))

-- ---- the nodes are those of the version

rule_versed : (version : Version) (ranges : List Interval) (set : List Numbered) (t : Option Node) (x : Node) → t ≡ Some x → TreeRule version ranges set t → IsNodeIn version x
rule_versed version ranges set _ x e (least_offset {o = o} parts before) = let same : node.Bit o ≡ x = cc in subst (IsNodeIn version) same (plain version)
  where
    plain : (v : Version) → IsNodeIn v (node.Bit o)
    plain One = tt
    plain Two = tt
rule_versed version ranges set _ x e (first_equation {e = q} none found) = let same : node.Parameter q.tested q.constant ≡ x = cc in subst (IsNodeIn version) same (plain version)
  where
    plain : (v : Version) → IsNodeIn v (node.Parameter q.tested q.constant)
    plain One = tt
    plain Two = tt
rule_versed One ranges set _ x e (first_reference {e = q} none no_equation found) = absurd (cc)
rule_versed Two ranges set _ x e (first_reference {e = q} none no_equation found) = let same : node.Reference q.tested q.constant ≡ x = cc in subst (IsNodeIn Two) same tt
rule_versed version ranges set _ x e (no_test none found no_reference) = absurd (cc)

leaf_versed : (v : Version) (n : ℕ) → IsNodeIn v (node.Leaf n)
leaf_versed One n = tt
leaf_versed Two n = tt

nowhere_versed : (v : Version) → IsNodeIn v node.Nowhere
nowhere_versed One = tt
nowhere_versed Two = tt

node_versed : (version : Version) (ranges : List Interval) (set : List Numbered) (x : Node) → NodeRule version ranges set x → IsNodeIn version x
node_versed version ranges [] x rule = subst (IsNodeIn version) (sym rule) (nowhere_versed version)
node_versed version ranges (z ∷ []) x rule = subst (IsNodeIn version) (sym rule) (leaf_versed version z.number)
node_versed version ranges (z ∷ w ∷ set) x rule = rule_versed version ranges (z ∷ w ∷ set) (Some x) x refl rule

pub ordered_is_versed : OrderedIsVersed
ordered_is_versed version formats s nodes o = each_at (IsNodeIn version) nodes
    (λ n x is. let r = arrives (everything ∷ []) nodes o.whole n x is in node_versed version s.parameters (those r.0 (all_of formats s)) x (o.each n x r.0 is r.1))
