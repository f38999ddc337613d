-- Bounds and faults of expressions don't depend on their boxes: of each format they are those of the format with one box throughout.
use denote.RawPtr.{null_ptr}
use Rattle.std.proofs.Common.{◌≡◌, ◌∙◌, ap, ℕ, ◌+◌, suc, zero, ◌||◌, cond, nat_eq, List, [], ◌∷◌, Option, Some, None, Box, Global, fold, length, map, refl, sym}
use Rattle.std.specs.Prelude.{slice_get}
use Rattle.std.specs.Option.{option_map, option_and_then, unwrap_or}
use Rattle.std.specs.Result.{result_err, result_ok}
use Rattle.sem_expr.specs.declared.expr.Cond.{Cond}
use Rattle.sem_expr.specs.declared.expr.Cond.TheVariants.{Constant, Compare, Not', And', Or'}
use Rattle.sem_expr.specs.declared.expr.Expr.{Expr}
use Rattle.sem_expr.specs.declared.expr.Expr.TheVariants as exprs
use Rattle.sem_expr.specs.declared.expr.Expr.TheVariants.{Number, Parameter, Binary'}
use Rattle.sem_expr.specs.declared.expr.Subject.{Subject}
use Rattle.sem_expr.specs.declared.expr.Subject.TheVariants as subjects
use Rattle.sem_expr.specs.declared.interval.Interval.{Interval}
use Rattle.sem_expr.specs.declared.ranges.Ranges.{Ranges}
use Rattle.sem_expr.specs.Bounds.{anything, bounding_of}
use Rattle.sem_expr.specs.Known.{assignment_of, nothing_known}
use Rattle.sem_expr.specs.Ranged.{Bounding, ranged, joined, both_ranged, first_fault, fault_in}
use Rattle.sem_expr.specs.Values.{Assignment, val, apply, both}
use Rattle.sem_profile.specs.declared.fault.ProfileFault.{ProfileFault}
use Rattle.sem_profile.specs.declared.profile.Bounds.{Bounds}
use Rattle.sem_profile.specs.declared.profile.Constraint.{Constraint}
use Rattle.sem_profile.specs.declared.profile.Constraint.TheVariants.{Bracket, Enforce}
use Rattle.sem_profile.specs.declared.profile.Encoding.{Encoding}
use Rattle.sem_profile.specs.declared.profile.Encoding.TheVariants as encodings
use Rattle.sem_profile.specs.declared.profile.Field.{Field}
use Rattle.sem_profile.specs.declared.profile.Format.{Format}
use Rattle.sem_profile.specs.declared.profile.FormatSizes.{FormatSizes}
use Rattle.sem_profile.specs.declared.profile.Library.TheVariants as libraries
use Rattle.sem_profile.specs.declared.profile.Method.{Method}
use Rattle.sem_profile.specs.declared.profile.MethodSizes.{MethodSizes}
use Rattle.sem_profile.specs.declared.profile.Sizes.{Sizes}
use Rattle.sem_profile.specs.Faults.{of_range}
use Rattle.sem_profile.specs.Precedence.{earlier, earliest}
use Rattle.sem_profile.specs.declared.extent.Extent.{Extent}
use Rattle.sem_profile.specs.declared.extent.Extent.TheVariants.{Whole, Known}
use Rattle.sem_profile.specs.Constants.{constant, where_ranged}
use Rattle.sem_profile.specs.BoundsFaults.{is_wide, word_length, front, wide_value, wide_in, wide_in_condition, expr_fault, condition_fault, encoding_fault, constraint_fault, format_fault}
use Rattle.sem_profile.specs.Fields.{bounds, sides, counted, by_length, encoding_sizes, lists, where_listed, enclosing, enclosing_all, narrowed_by, narrowed, field_sizes}
use Rattle.sem_profile.specs.Formats.{header_bounds, both_totals, sizes_at, sized_by, format_sizes}
use Rattle.sem_profile.specs.Extents.{lacks, known_fault, known_condition_fault, range_fault, condition_range_fault}
use Rattle.sem_profile.specs.Parameters as parameters
use Rattle.sem_profile.specs.Parameters.{argument_range, with_arguments, with_call, with_fields, with_format, with_method, with_entry, gathered, parameter_ranges}
use Rattle.sem_profile.specs.Passes.{indexed, folded}
use Rattle.sem_profile.specs.Ranging.{format_ranges}
use Rattle.text_resolve.specs.Plain.{PlainExpr, number, parameter, attribute, binary, plain_expr, PlainCond, constant as truth_constant, compare, denial, conjunction, disjunction, plain_cond, PlainEncoding, bare, uncompressed_value, compressed_value, irregular, static, lsb, crc, call, plain_encoding, PlainConstraint, bracket, enforce, plain_constraint, PlainField, plain_field, PlainFormat, plain_format, PlainMethod, plain_method}

-- ---- with one box throughout

a_box : Box (Unit {0}) Global
a_box = record { ptr = null_ptr; alloc = record { memory = record { seal = tt } }; value = tt }

abbrev boxed : PlainExpr → Expr
boxed (number at n) = Number at n
boxed (parameter at i) = Parameter at i
boxed (attribute at t) = exprs.Attribute at t
boxed (binary at op x y) = Binary' at op a_box (boxed x) a_box (boxed y)

abbrev boxed_cond : PlainCond → Cond
boxed_cond (truth_constant at b) = Constant at b
boxed_cond (compare at op x y) = Compare at op (boxed x) (boxed y)
boxed_cond (denial at x) = Not' at a_box (boxed_cond x)
boxed_cond (conjunction at x y) = And' at a_box (boxed_cond x) a_box (boxed_cond y)
boxed_cond (disjunction at x y) = Or' at a_box (boxed_cond x) a_box (boxed_cond y)

abbrev boxed_encoding : PlainEncoding → Encoding
boxed_encoding bare = encodings.Bare
boxed_encoding (uncompressed_value x y) = encodings.Library (libraries.UncompressedValue (boxed x) (boxed y))
boxed_encoding (compressed_value x y) = encodings.Library (libraries.CompressedValue (boxed x) (boxed y))
boxed_encoding (irregular x) = encodings.Library (libraries.Irregular (boxed x))
boxed_encoding static = encodings.Library libraries.Static
boxed_encoding (lsb x y) = encodings.Library (libraries.Lsb (boxed x) (boxed y))
boxed_encoding (crc b p i subject side l) =
    encodings.Library (libraries.Crc record { bits = boxed b; polynomial = boxed p; initial = boxed i; subject = subject; side = side; length = boxed l })
boxed_encoding (call k xs) = encodings.Call k (map boxed xs)

abbrev boxed_constraint : PlainConstraint → Constraint
boxed_constraint (bracket i side lengths place) = Bracket i side (map boxed lengths) place
boxed_constraint (enforce c place) = Enforce (boxed_cond c) place

abbrev boxed_field : PlainField → Field
boxed_field d = record { declared = d.declared; encoding = boxed_encoding d.encoding; initial = d.initial }

abbrev boxed_format : PlainFormat → Format
boxed_format f = record { name = f.name; fields = map boxed_field f.fields; listing = f.listing; constraints = map boxed_constraint f.constraints }

abbrev boxed_method : PlainMethod → Method
boxed_method m = record { name = m.name; place = m.place; parameters = m.parameters; formats = map boxed_format m.formats }

abbrev all_boxed : List Expr → List Expr
all_boxed es = map boxed (map plain_expr es)

-- ---- lists

fold_as : {A B P : Type 0} (f g : B → A → B) (into : A → P) (back : P → A) → ((b : B) (x : A) → f b (back (into x)) ≡ g b x) → (b : B) (xs : List A) → fold f b (map back (map into xs)) ≡ fold g b xs
fold_as f g into back same b [] = refl
fold_as f g into back same b (x ∷ xs) = ap (λ c. fold f c (map back (map into xs))) (same b x) ∙ fold_as f g into back same (g b x) xs

folded_as : {A B P : Type 0} (f g : ℕ → B → A → B) (into : A → P) (back : P → A) → ((n : ℕ) (b : B) (x : A) → f n b (back (into x)) ≡ g n b x) → (n : ℕ) (b : B) (xs : List A)
    → folded f n b (map back (map into xs)) ≡ folded g n b xs
folded_as f g into back same n b [] = refl
folded_as f g into back same n b (x ∷ xs) = ap (λ c. folded f (n + 1) c (map back (map into xs))) (same n b x) ∙ folded_as f g into back same (n + 1) (g n b x) xs

indexed_as : {A B P : Type 0} (f g : ℕ → A → B) (into : A → P) (back : P → A) → ((n : ℕ) (x : A) → f n (back (into x)) ≡ g n x) → (n : ℕ) (xs : List A)
    → indexed f n (map back (map into xs)) ≡ indexed g n xs
indexed_as f g into back same n [] = refl
indexed_as f g into back same n (x ∷ xs) = λ i. same n x i ∷ indexed_as f g into back same (n + 1) xs i

-- ---- expressions

ranged_as : (r : Bounding) (e : Expr) → ranged r (boxed (plain_expr e)) ≡ ranged r e
ranged_as r (Number at n) = refl
ranged_as r (Parameter at i) = refl
ranged_as r (exprs.Attribute at t) = refl
ranged_as r (Binary' at op p x q y) = λ i. both_ranged (joined at op) (ranged_as r x i) (ranged_as r y i)

val_as : (a : Assignment) (e : Expr) → val a (boxed (plain_expr e)) ≡ val a e
val_as a (Number at n) = refl
val_as a (Parameter at i) = refl
val_as a (exprs.Attribute at t) = refl
val_as a (Binary' at op p x q y) = λ i. both (apply op) (val_as a x i) (val_as a y i)

constant_as : (e : Expr) → constant (boxed (plain_expr e)) ≡ constant e
constant_as e = λ i. where_ranged (ranged_as (bounding_of anything) e i) (val_as (assignment_of nothing_known) e i)

lacks_as : (r : Bounding) (e : Expr) → lacks r (boxed (plain_expr e)) ≡ lacks r e
lacks_as r (Number at n) = refl
lacks_as r (Parameter at i) = refl
lacks_as r (exprs.Attribute at t) = refl
lacks_as r (Binary' at op p x q y) = λ i. lacks_as r x i || lacks_as r y i

known_as : (r : Bounding) (e : Expr) → known_fault r (boxed (plain_expr e)) ≡ known_fault r e
known_as r (Number at n) = refl
known_as r (Parameter at i) = refl
known_as r (exprs.Attribute at t) = refl
known_as r (Binary' at op p x q y) =
    λ i. cond (lacks_as r x i || lacks_as r y i) (first_fault (known_as r x i) (known_as r y i)) (result_err (both_ranged (joined at op) (ranged_as r x i) (ranged_as r y i)))

range_fault_as : (x : Extent) (r : Bounding) (e : Expr) → range_fault x r (boxed (plain_expr e)) ≡ range_fault x r e
range_fault_as Whole r e = ap result_err (ranged_as r e)
range_fault_as Known r e = known_as r e

fault_in_as : (r : Bounding) (c : Cond) → fault_in r (boxed_cond (plain_cond c)) ≡ fault_in r c
fault_in_as r (Constant at b) = refl
fault_in_as r (Compare at op x y) = λ i. first_fault (result_err (ranged_as r x i)) (result_err (ranged_as r y i))
fault_in_as r (Not' at p x) = fault_in_as r x
fault_in_as r (And' at p x q y) = λ i. first_fault (fault_in_as r x i) (fault_in_as r y i)
fault_in_as r (Or' at p x q y) = λ i. first_fault (fault_in_as r x i) (fault_in_as r y i)

known_condition_as : (r : Bounding) (c : Cond) → known_condition_fault r (boxed_cond (plain_cond c)) ≡ known_condition_fault r c
known_condition_as r (Constant at b) = refl
known_condition_as r (Compare at op x y) = λ i. first_fault (known_as r x i) (known_as r y i)
known_condition_as r (Not' at p x) = known_condition_as r x
known_condition_as r (And' at p x q y) = λ i. first_fault (known_condition_as r x i) (known_condition_as r y i)
known_condition_as r (Or' at p x q y) = λ i. first_fault (known_condition_as r x i) (known_condition_as r y i)

condition_range_as : (x : Extent) (r : Bounding) (c : Cond) → condition_range_fault x r (boxed_cond (plain_cond c)) ≡ condition_range_fault x r c
condition_range_as Whole r c = fault_in_as r c
condition_range_as Known r c = known_condition_as r c

-- ---- bounds

enclosing_as : (o : Option Bounds) (es : List Expr) → enclosing_all o (all_boxed es) ≡ enclosing_all o es
enclosing_as o [] = refl
enclosing_as o (e ∷ es) = λ i. option_and_then (λ v. enclosing_as (Some (enclosing o (counted v))) es i) (constant_as e i)

encoding_sizes_as : (table : List MethodSizes) (e : Encoding) → encoding_sizes table (boxed_encoding (plain_encoding e)) ≡ encoding_sizes table e
encoding_sizes_as table encodings.Bare = refl
encoding_sizes_as table (encodings.Library (libraries.UncompressedValue x y)) = ap (λ o. sides (by_length o) (bounds 0 0)) (constant_as x)
encoding_sizes_as table (encodings.Library (libraries.CompressedValue x y)) = ap (λ o. sides (bounds 0 0) (by_length o)) (constant_as x)
encoding_sizes_as table (encodings.Library (libraries.Irregular x)) = ap (λ o. sides (by_length o) (by_length o)) (constant_as x)
encoding_sizes_as table (encodings.Library libraries.Static) = refl
encoding_sizes_as table (encodings.Library (libraries.Lsb x y)) = ap (λ o. sides (bounds 0 64) (by_length o)) (constant_as x)
encoding_sizes_as table (encodings.Library (libraries.Crc c)) = ap (λ o. sides (bounds 0 0) (by_length o)) (constant_as c.bits)
encoding_sizes_as table (encodings.Call k es) = refl

narrowed_as : (n : ℕ) (s : Sizes) (c : Constraint) → narrowed n s (boxed_constraint (plain_constraint c)) ≡ narrowed n s c
narrowed_as n s (Bracket field side lengths place) = ap (λ b. cond (nat_eq field n) (narrowed_by b side s) s) (enclosing_as None lengths)
narrowed_as n s (Enforce c place) = refl

abbrev again : Format → Format
again f = boxed_format (plain_format f)

field_sizes_as : (table : List MethodSizes) (f : Format) (n : ℕ) (d : Field) → field_sizes table (again f) n (boxed_field (plain_field d)) ≡ field_sizes table f n d
field_sizes_as table f n d =
    ap (λ s. fold (narrowed n) (where_listed (lists f.listing n) s) (map boxed_constraint (map plain_constraint f.constraints))) (encoding_sizes_as table d.encoding)
    ∙ fold_as (narrowed n) (narrowed n) plain_constraint boxed_constraint (narrowed_as n) (where_listed (lists f.listing n) (encoding_sizes table d.encoding)) f.constraints

format_sizes_as : (table : List MethodSizes) (f : Format) → format_sizes table (again f) ≡ format_sizes table f
format_sizes_as table f =
    ap (sized_by (again f)) (indexed_as (field_sizes table (again f)) (field_sizes table f) plain_field boxed_field (field_sizes_as table f) 0 f.fields)
    ∙ ap (λ header. record { fields = indexed (field_sizes table f) 0 f.fields; whole = both_totals header (map (λ i. (sizes_at (indexed (field_sizes table f) 0 f.fields) i).compressed) f.listing) })
    (indexed_as (header_bounds (indexed (field_sizes table f) 0 f.fields)) (header_bounds (indexed (field_sizes table f) 0 f.fields)) plain_field boxed_field (λ n d. refl) 0 f.fields)

map_as : {A B P : Type 0} (g : A → B) (into : A → P) (back : P → A) → ((x : A) → g (back (into x)) ≡ g x) → (xs : List A) → map g (map back (map into xs)) ≡ map g xs
map_as g into back same [] = refl
map_as g into back same (x ∷ xs) = λ i. same x i ∷ map_as g into back same xs i

pub same_all_sizes : (table : List MethodSizes) (fs gs : List Format) → map plain_format fs ≡ map plain_format gs → map (format_sizes table) fs ≡ map (format_sizes table) gs
same_all_sizes table fs gs e =
    sym (map_as (format_sizes table) plain_format boxed_format (format_sizes_as table) fs)
    ∙ (ap (λ ps. map (format_sizes table) (map boxed_format ps)) e ∙ map_as (format_sizes table) plain_format boxed_format (format_sizes_as table) gs)

pub same_sizes : (table : List MethodSizes) (f g : Format) → plain_format f ≡ plain_format g → format_sizes table f ≡ format_sizes table g
same_sizes table f g e = sym (format_sizes_as table f) ∙ (ap (λ p. format_sizes table (boxed_format p)) e ∙ format_sizes_as table g)

-- ---- faults

length_at : (fields : List Field) (n : ℕ)
    → unwrap_or (option_map (λ (d : Field). length d.declared.name) (slice_get (map boxed_field (map plain_field fields)) n)) 0 ≡ unwrap_or (option_map (λ (d : Field). length d.declared.name) (slice_get fields n)) 0
length_at [] n = refl
length_at (d ∷ ds) zero = refl
length_at (d ∷ ds) (suc n) = length_at ds n

word_length_as : (fields : List Field) (s : Subject) → word_length (map boxed_field (map plain_field fields)) s ≡ word_length fields s
word_length_as fields (subjects.Field n) = length_at fields n
word_length_as fields subjects.This = refl

wide_as : (f : Format) (s : FormatSizes) (e : Expr) → wide_in (again f) s (boxed (plain_expr e)) ≡ wide_in f s e
wide_as f s (Number at n) = refl
wide_as f s (Parameter at i) = refl
wide_as f s (exprs.Attribute at t) = λ i. cond (is_wide s t) (Some (record { kind = (wide_value f.fields at t.subject).kind; at = at; first = Some (front at (word_length_as f.fields t.subject i)); second = None })) None
wide_as f s (Binary' at op p x q y) = λ i. earlier (wide_as f s x i) (wide_as f s y i)

wide_condition_as : (f : Format) (s : FormatSizes) (c : Cond) → wide_in_condition (again f) s (boxed_cond (plain_cond c)) ≡ wide_in_condition f s c
wide_condition_as f s (Constant at b) = refl
wide_condition_as f s (Compare at op x y) = λ i. earlier (wide_as f s x i) (wide_as f s y i)
wide_condition_as f s (Not' at p x) = wide_condition_as f s x
wide_condition_as f s (And' at p x q y) = λ i. earlier (wide_condition_as f s x i) (wide_condition_as f s y i)
wide_condition_as f s (Or' at p x q y) = λ i. earlier (wide_condition_as f s x i) (wide_condition_as f s y i)

expr_fault_as : (x : Extent) (f : Format) (s : FormatSizes) (r : Ranges) (e : Expr) → expr_fault x (again f) s r (boxed (plain_expr e)) ≡ expr_fault x f s r e
expr_fault_as x f s r e = λ i. earlier (wide_as f s e i) (option_map of_range (range_fault_as x (bounding_of r) e i))

condition_fault_as : (x : Extent) (f : Format) (s : FormatSizes) (r : Ranges) (c : Cond) → condition_fault x (again f) s r (boxed_cond (plain_cond c)) ≡ condition_fault x f s r c
condition_fault_as x f s r c = λ i. earlier (wide_condition_as f s c i) (option_map of_range (condition_range_as x (bounding_of r) c i))

abbrev Judge : Type 0
Judge = Expr → Option ProfileFault

earliest_as : (judge given : Judge) → ((e : Expr) → judge (boxed (plain_expr e)) ≡ given e) → (es : List Expr) → earliest judge (all_boxed es) ≡ earliest given es
earliest_as judge given same es = fold_as (λ o e. earlier o (judge e)) (λ o e. earlier o (given e)) plain_expr boxed (λ o e. ap (earlier o) (same e)) None es

encoding_fault_as : (judge given : Judge) → ((e : Expr) → judge (boxed (plain_expr e)) ≡ given e) → (e : Encoding) → encoding_fault judge (boxed_encoding (plain_encoding e)) ≡ encoding_fault given e
encoding_fault_as judge given same encodings.Bare = refl
encoding_fault_as judge given same (encodings.Library (libraries.UncompressedValue x y)) = λ i. earlier (same x i) (same y i)
encoding_fault_as judge given same (encodings.Library (libraries.CompressedValue x y)) = λ i. earlier (same x i) (same y i)
encoding_fault_as judge given same (encodings.Library (libraries.Irregular x)) = same x
encoding_fault_as judge given same (encodings.Library libraries.Static) = refl
encoding_fault_as judge given same (encodings.Library (libraries.Lsb x y)) = λ i. earlier (same x i) (same y i)
encoding_fault_as judge given same (encodings.Library (libraries.Crc c)) = λ i. earlier (earlier (same c.bits i) (same c.polynomial i)) (earlier (same c.initial i) (same c.length i))
encoding_fault_as judge given same (encodings.Call k es) = earliest_as judge given same es

constraint_fault_as : (x : Extent) (f : Format) (s : FormatSizes) (r : Ranges) (c : Constraint) → constraint_fault x (again f) s r (boxed_constraint (plain_constraint c)) ≡ constraint_fault x f s r c
constraint_fault_as x f s r (Bracket field side lengths place) = earliest_as (expr_fault x (again f) s r) (expr_fault x f s r) (expr_fault_as x f s r) lengths
constraint_fault_as x f s r (Enforce c place) = condition_fault_as x f s r c

format_fault_as : (x : Extent) (f : Format) (s : FormatSizes) (r : Ranges) → format_fault x (again f) s r ≡ format_fault x f s r
format_fault_as x f s r =
    let of_field = λ (d : Field). encoding_fault_as (expr_fault x (again f) s r) (expr_fault x f s r) (expr_fault_as x f s r) d.encoding in
    let of_fields = fold_as (λ o (d : Field). earlier o (encoding_fault (expr_fault x (again f) s r) d.encoding)) (λ o (d : Field). earlier o (encoding_fault (expr_fault x f s r) d.encoding)) plain_field boxed_field
    (λ o d. ap (earlier o) (of_field d)) None f.fields in
    let of_constraints = fold_as (λ o c. earlier o (constraint_fault x (again f) s r c)) (λ o c. earlier o (constraint_fault x f s r c)) plain_constraint boxed_constraint
    (λ o c. ap (earlier o) (constraint_fault_as x f s r c)) None f.constraints in
    λ i. earlier (of_fields i) (of_constraints i)

pub same_fault : (x : Extent) (f g : Format) (s : FormatSizes) (r : Ranges) → plain_format f ≡ plain_format g → format_fault x f s r ≡ format_fault x g s r
same_fault x f g s r e = sym (format_fault_as x f s r) ∙ (ap (λ p. format_fault x (boxed_format p) s r) e ∙ format_fault_as x g s r)

-- ---- the ranges of parameters

argument_as : (r : Ranges) (es : List Expr) (q : ℕ) → argument_range r (all_boxed es) q ≡ argument_range r es q
argument_as r [] q = refl
argument_as r (e ∷ es) zero = ap result_ok (ranged_as (bounding_of r) e)
argument_as r (e ∷ es) (suc q) = argument_as r es q

call_as : (r : Ranges) (k : ℕ) (found : List (Option Interval)) (e : Encoding) → with_call r k found (boxed_encoding (plain_encoding e)) ≡ with_call r k found e
call_as r k found encodings.Bare = refl
call_as r k found (encodings.Library (libraries.UncompressedValue x y)) = refl
call_as r k found (encodings.Library (libraries.CompressedValue x y)) = refl
call_as r k found (encodings.Library (libraries.Irregular x)) = refl
call_as r k found (encodings.Library libraries.Static) = refl
call_as r k found (encodings.Library (libraries.Lsb x y)) = refl
call_as r k found (encodings.Library (libraries.Crc c)) = refl
call_as r k found (encodings.Call j es) = λ i. cond (nat_eq j k) (indexed (λ q o. parameters.joined o (argument_as r es q i)) 0 found) found

format_as : (ps : List Interval) (k : ℕ) (found : List (Option Interval)) (f : Format) (s : Option FormatSizes) → with_format ps k found (again f) s ≡ with_format ps k found f s
format_as ps k found f None = refl
format_as ps k found f (Some s) =
    fold_as (λ o (d : Field). with_call (format_ranges s ps) k o d.encoding) (λ o (d : Field). with_call (format_ranges s ps) k o d.encoding) plain_field boxed_field
    (λ o d. call_as (format_ranges s ps) k o d.encoding) found f.fields

entry_as : (s : Option MethodSizes) (k : ℕ) (found : List (Option Interval)) (m : Method) → with_entry s k found (boxed_method (plain_method m)) ≡ with_entry s k found m
entry_as None k found m = refl
entry_as (Some s) k found m =
    folded_as (λ n o f. with_format s.parameters k o f (slice_get s.formats n)) (λ n o f. with_format s.parameters k o f (slice_get s.formats n)) plain_format boxed_format
    (λ n o f. format_as s.parameters k o f (slice_get s.formats n)) 0 found m.formats

gathered_as : (methods : List Method) (table : List MethodSizes) (k : ℕ) (found : List (Option Interval)) → gathered (map boxed_method (map plain_method methods)) table k found ≡ gathered methods table k found
gathered_as methods table k found =
    folded_as (λ i o m. with_entry (slice_get table i) k o m) (λ i o m. with_entry (slice_get table i) k o m) plain_method boxed_method (λ i o m. entry_as (slice_get table i) k o m) 0 found methods

abbrev start : PlainMethod → List (Option Interval)
start p = map (λ (x : List ℕ). None) p.parameters

pub same_ranges : (methods others : List Method) → map plain_method methods ≡ map plain_method others → (stand : Interval) (table : List MethodSizes) (k : ℕ) (m n : Method) → plain_method m ≡ plain_method n
    → parameter_ranges stand methods table k m ≡ parameter_ranges stand others table k n
same_ranges methods others e stand table k m n same =
    ap (map (λ (o : Option Interval). unwrap_or o stand))
    (sym (gathered_as methods table k (start (plain_method m)))
    ∙ ((λ i. gathered (map boxed_method (e i)) table k (start (same i))) ∙ gathered_as others table k (start (plain_method n))))
