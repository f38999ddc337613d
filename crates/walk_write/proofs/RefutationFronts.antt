-- What a look at the bits in front of others tells of a field.
use Rattle.std.proofs.Common.{◌≡◌, refl, sym, ◌∙◌, ap, subst, ℕ, ◌+◌, ◌-◌, Bool, List, [], ◌∷◌, ◌++◌, length, take, drop, arith}
use Rattle.std.specs.Prelude.{ℤ, Option, Some, None, Result, Ok, Err, IfOk, IsTrue, slice_range}
use Rattle.sem_bits.specs.Number.{num, enc}
use Rattle.sem_bits.proofs.Numbers.{enc-num}
use Rattle.sem_expr.specs.Values.{Assignment}
use Rattle.sem_expr.specs.declared.expr.Expr.{Expr}
use Rattle.sem_expr.specs.declared.expr.Expr.TheVariants as expr
use Rattle.sem_expr.specs.declared.expr.Expr.TheVariants.{Number, Parameter, Binary'}
use Rattle.sem_library.specs.Methods.{lsb, Lib, IsOnly}
use Rattle.sem_profile.specs.declared.profile.Encoding.TheVariants as encoding
use Rattle.sem_profile.specs.declared.profile.Library.TheVariants as library
use Rattle.sem_profile.specs.declared.profile.Constraint.{Constraint}
use Rattle.sem_profile.specs.declared.profile.Field.{Field}
use Rattle.sem_profile.specs.declared.profile.Format.{Format}
use Rattle.sem_profile.specs.declared.profile.FormatSizes.{FormatSizes}
use Rattle.text_source.specs.declared.span.Span.{Span}
use Rattle.sem_profile.specs.Resolved.{Resolved}
use Rattle.sem_filling.specs.Bounded.{sizes_at}
use Rattle.cert_accepted.specs.declared.frame.AcceptedFrame.{AcceptedFrame}
use Rattle.walk_write.specs.Refutation.{HasFalse, IsElse, CallsOnly, Lacks, of_field, FieldLacks, IsOther, by_lsb, operand, known_operand}
use Rattle.walk_write.specs.Premises.{told_numbers}

fronted : (u rest : List Bool) → take (length u) (u ++ rest) ≡ u
fronted [] rest = refl
fronted (x ∷ u) rest = ap (λ z. x ∷ z) (fronted u rest)

-- what a look at so many bits shows where these are in front
seen : (left u rest : List Bool) (begin n : ℕ) → drop begin left ≡ u ++ rest → length u ≡ n → slice_range left begin (begin + n) ≡ u
seen left u rest begin n e l =
    let count : (begin + n) - begin ≡ length u = omega (arith, l) in
    (λ i. take (count i) (e i)) ∙ fronted u rest

-- what is there, by its number, has no packed bits
pub beyond : (k offset p q : ℤ) (r left there : List Bool) (packed : Option (List Bool)) (begin n m number : ℕ) → p ≡ k → q ≡ offset → n ≡ length r → m ≡ length r → number ≡ num (slice_range left begin (begin + n))
    → there ≡ enc m number → packed ≡ None → IsOnly (λ c. Lib (lsb p q) (Some r) there c) packed → IsElse (lsb k offset) (Some r) (drop begin left)
beyond k offset p q r left there packed begin n m number k_is offset_is n_is m_is number_is there_is none only u c rest e h =
    let is : number ≡ num u = number_is ∙ ap num (seen left u rest begin n e (h.as_long ∙ sym n_is)) in
    let same : there ≡ u = there_is ∙ ((λ i. enc ((m_is ∙ sym h.as_long) i) (is i)) ∙ enc-num u) in
    subst (IsOnly (λ z. Lib (lsb p q) (Some r) there z)) none only c (subst (λ z. Lib (lsb p q) (Some r) z c) (sym same) (subst (λ z. Lib (lsb p z) (Some r) u c) (sym offset_is) (subst (λ z. Lib (lsb z offset) (Some r) u c) (sym k_is) h)))

-- ---- encodings

-- without a reference
pub none_lsb : (k offset : ℤ) (bits : List Bool) → IsElse (lsb k offset) None bits
none_lsb k offset bits u c rest e h = h

-- `lsb` of these numbers
pub far : (profile : Resolved) (known : Assignment) (k offset : Expr) (p q : Span) (count ahead a b : ℤ) (ref : Option (List Bool)) (bits : List Bool) → k ≡ Number p count → offset ≡ Number q ahead → a ≡ count → b ≡ ahead → IsElse (lsb a b) ref bits
    → IsOther profile known (encoding.Library (library.Lsb k offset)) ref bits
far profile known k offset p q count ahead a b ref bits k_is offset_is a_is b_is none =
    by_lsb p q count ahead (λ i. encoding.Library (library.Lsb (k_is i) (offset_is i))) (subst (λ z. IsElse (lsb count z) ref bits) b_is (subst (λ z. IsElse (lsb z b) ref bits) a_is none))

-- what a test tells says another fact too
pub told : {E P Q : Type 0} (r : Result Bool E) → (P → Q) → IfOk r (λ is. IsTrue is → P) → IfOk r (λ is. IsTrue is → Q)
told (Ok b) f h = λ t. f (h t)
told (Err e) f h = tt

-- a header field inside a call lacks its constant
pub lacks_by : (p : Resolved) (known : Assignment) (j : ℕ) (exprs : List Expr) (bits : List Bool) (args : List ℤ) (inner : Format) (sizes : FormatSizes) → CallsOnly p known (encoding.Call j exprs) j args inner → sizes_at p.sizes j 0 ≡ Some sizes →
    FieldLacks p (told_numbers inner args []) inner.fields sizes.fields bits → Lacks p known (encoding.Call j exprs) bits
lacks_by p known j exprs bits args inner sizes calls sizes_are h = of_field j args inner sizes h.index h.offset h.field calls sizes_are h.before h.field_is h.in_header h.lacks

-- ---- constraints

-- what the arguments tell of an operand is told
known_too : (place : AcceptedFrame) (fields : List Field) (e : Expr) (v : ℤ) → operand place.frame.arguments.now e ≡ Some v → known_operand place fields e ≡ Some v
known_too place fields (Number s n) v is = is
known_too place fields (Parameter s i) v is = is
known_too place fields (expr.Attribute s t) v is = absurd (cc)
known_too place fields (Binary' s op p x q y) v is = absurd (cc)

-- a constraint that is false by the arguments is false
pub known_false : (place : AcceptedFrame) (fields : List Field) (constraints : List Constraint) → HasFalse (operand place.frame.arguments.now) constraints → HasFalse (known_operand place fields) constraints
known_false place fields constraints h =
    let f = h.is_false in
    record {
      index = h.index;
      condition = h.condition;
      place = h.place;
      constraint_is = h.constraint_is;
      is_false = record {
        place = f.place;
        comparison = f.comparison;
        one = f.one;
        other = f.other;
        one_value = f.one_value;
        other_value = f.other_value;
        condition_is = f.condition_is;
        one_is = known_too place fields f.one f.one_value f.one_is;
        other_is = known_too place fields f.other f.other_value f.other_is;
        is_false = f.is_false;
      };
    }
