-- What calls, bounds and faults of bounds methods have is one for all methods of equal plain forms.
use Rattle.std.proofs.Common.{◌≡◌, ◌∙◌, ap, ℕ, ◌⊎◌, Bool, true, false, ◌&&◌, List, [], ◌∷◌, ◌++◌, Option, Some, None, length, map, refl, sym, arith}
use Rattle.std.specs.Prelude.{slice_get}
use Rattle.std.specs.List.{filter_map, flat_map, cons_option}
use Rattle.std.specs.Option.{option_map}
use Rattle.std.proofs.lemmas.List.{length-map}
use Rattle.std.proofs.lemmas.Option.{slice_get_within, slice_get-map}
use Rattle.sem_expr.specs.declared.expr.Expr.{Expr}
use Rattle.sem_expr.specs.declared.interval.Interval.{Interval}
use Rattle.sem_profile.specs.declared.fault.ProfileFault.{ProfileFault}
use Rattle.sem_profile.specs.declared.profile.Encoding.{Encoding}
use Rattle.sem_profile.specs.declared.profile.Encoding.TheVariants as encodings
use Rattle.sem_profile.specs.declared.profile.Field.{Field}
use Rattle.sem_profile.specs.declared.profile.Format.{Format}
use Rattle.sem_profile.specs.declared.profile.FormatSizes.{FormatSizes}
use Rattle.sem_profile.specs.declared.profile.Library.TheVariants as libraries
use Rattle.sem_profile.specs.declared.profile.Method.{Method}
use Rattle.sem_profile.specs.declared.profile.MethodSizes.{MethodSizes}
use Rattle.sem_graph.proofs.OrderPushing.{some_is}
use Rattle.sem_profile.specs.declared.extent.Extent.{Extent}
use Rattle.sem_profile.specs.declared.extent.Extent.TheVariants.{Whole, Known}
use Rattle.sem_profile.specs.BoundsFaults.{format_fault}
use Rattle.sem_profile.specs.Methods.{CallsMethod, IsOrder, SizedBefore, is_short}
use Rattle.sem_profile.specs.Outcome.{FormatAt, AreSizes, IsFaulty, is_wide, in_format}
use Rattle.sem_profile.specs.Parameters.{RangedFrom}
use Rattle.sem_profile.specs.Ranging.{format_ranges}
use Rattle.sem_profile.proofs.FieldsRuling.{there}
use Rattle.sem_profile.specs.Uses.{callee_of, format_uses, method_uses, uses_of, used_methods, used_graph}
use Rattle.text_resolve.specs.Plain.{PlainEncoding, bare, uncompressed_value, compressed_value, irregular, static, lsb, crc, call, plain_encoding, PlainField, plain_field, PlainFormat, plain_format, PlainMethod, plain_method}
use Rattle.text_resolve.proofs.PlainHaveRanges.{IsCalled, have_ranges}
use Rattle.text_resolve.proofs.KnownParts.{known_parts_right}
use Rattle.text_resolve.proofs.PlainOneBox.{same_all_sizes, same_fault, same_ranges}
use Rattle.text_resolve.proofs.PlainOneTable.{Alike, agree, AreRanged, same_ranges_in}

-- ---- elements of lists that are one up to boxes

pub twin : {X P : Type 0} (f : X → P) (xs ys : List X) → map f xs ≡ map f ys → (k : ℕ) (y : X) → slice_get ys k ≡ Some y → (x : X) × (slice_get xs k ≡ Some x) × (f x ≡ f y)
twin {X = X} f xs ys e k y at = by (slice_get xs k) refl (sym (slice_get-map f xs k) ∙ (ap (λ l. slice_get l k) e ∙ (slice_get-map f ys k ∙ ap (option_map f) at)))
  where
    by : (o : Option X) → slice_get xs k ≡ o → option_map f (slice_get xs k) ≡ Some (f y) → (x : X) × (slice_get xs k ≡ Some x) × (f x ≡ f y)
    by (Some x) is same = (x, is, some_is (sym (ap (option_map f) is) ∙ same))
    by None is same = let wrong : None ≡ Some (f y) = sym (ap (option_map f) is) ∙ same in absurd cc

pub as_many : {X P : Type 0} (f : X → P) (xs ys : List X) → map f xs ≡ map f ys → length xs ≡ length ys
as_many f xs ys e = sym (length-map xs f) ∙ (ap length e ∙ length-map ys f)

map_via : {A B P : Type 0} (g : A → B) (h : P → B) (into : A → P) → ((x : A) → g x ≡ h (into x)) → (xs : List A) → map g xs ≡ map h (map into xs)
map_via g h into same [] = refl
map_via g h into same (x ∷ xs) = λ i. same x i ∷ map_via g h into same xs i

filter_via : {A B P : Type 0} (g : A → Option B) (h : P → Option B) (into : A → P) → ((x : A) → g x ≡ h (into x)) → (xs : List A) → filter_map g xs ≡ filter_map h (map into xs)
filter_via g h into same [] = refl
filter_via g h into same (x ∷ xs) = λ i. cons_option (same x i) (filter_via g h into same xs i)

flat_via : {A B P : Type 0} (g : A → List B) (h : P → List B) (into : A → P) → ((x : A) → g x ≡ h (into x)) → (xs : List A) → flat_map g xs ≡ flat_map h (map into xs)
flat_via g h into same [] = refl
flat_via g h into same (x ∷ xs) = λ i. same x i ++ flat_via g h into same xs i

-- ---- calls

abbrev callee_in : PlainEncoding → Option ℕ
callee_in bare = None
callee_in (uncompressed_value x y) = None
callee_in (compressed_value x y) = None
callee_in (irregular x) = None
callee_in static = None
callee_in (lsb x y) = None
callee_in (crc b p i subject side l) = None
callee_in (call k xs) = Some k

callee_as : (e : Encoding) → callee_of e ≡ callee_in (plain_encoding e)
callee_as encodings.Bare = refl
callee_as (encodings.Library (libraries.UncompressedValue x y)) = refl
callee_as (encodings.Library (libraries.CompressedValue x y)) = refl
callee_as (encodings.Library (libraries.Irregular x)) = refl
callee_as (encodings.Library libraries.Static) = refl
callee_as (encodings.Library (libraries.Lsb x y)) = refl
callee_as (encodings.Library (libraries.Crc c)) = refl
callee_as (encodings.Call k es) = refl

called_by : (e : Encoding) (j : ℕ) → callee_of e ≡ Some j → (es : List Expr) × (e ≡ encodings.Call j es)
called_by (encodings.Call k es) j h = (es, ap (λ n. encodings.Call n es) (some_is h))
called_by (encodings.Library l) j h = let wrong : None ≡ Some j = h in absurd cc
called_by encodings.Bare j h = let wrong : None ≡ Some j = h in absurd cc

pub calls_as : (m n : Method) (j : ℕ) → plain_method m ≡ plain_method n → CallsMethod n j → CallsMethod m j
calls_as m n j same c =
    let f = twin plain_format m.formats n.formats (ap (λ (p : PlainMethod). p.formats) same) c.format_place c.format c.format_at in
    let d = twin plain_field f.0.fields c.format.fields (ap (λ (p : PlainFormat). p.fields) f.2) c.field_place c.field c.field_at in
    let callee : callee_of d.0.encoding ≡ Some j =
    callee_as d.0.encoding ∙ (ap (λ (p : PlainField). callee_in p.encoding) d.2 ∙ (sym (callee_as c.field.encoding) ∙ ap callee_of c.is_call)) in
    let is = called_by d.0.encoding j callee in
    record { format = f.0; format_place = c.format_place; format_at = f.1; field = d.0; field_place = c.field_place; field_at = d.1; arguments = is.0; is_call = is.1 }

abbrev uses_in : PlainFormat → List (Option ℕ)
uses_in p = map (λ (d : PlainField). callee_in d.encoding) p.fields

abbrev callees_in : PlainFormat → List ℕ
callees_in p = filter_map (λ (d : PlainField). callee_in d.encoding) p.fields

abbrev method_uses_in : PlainMethod → List (List (Option ℕ))
method_uses_in p = map uses_in p.formats

abbrev used_in : PlainMethod → List ℕ
used_in p = flat_map callees_in p.formats

field_callee : (d : Field) → callee_of d.encoding ≡ callee_in (plain_field d).encoding
field_callee d = callee_as d.encoding

uses_via : (ms : List Method) → uses_of ms ≡ map method_uses_in (map plain_method ms)
uses_via ms = map_via method_uses method_uses_in plain_method (λ m. map_via format_uses uses_in plain_format (λ f. map_via _ _ plain_field field_callee f.fields) m.formats) ms

graph_via : (ms : List Method) → used_graph ms ≡ map used_in (map plain_method ms)
graph_via ms = map_via used_methods used_in plain_method (λ m. flat_via _ callees_in plain_format (λ f. filter_via _ _ plain_field field_callee f.fields) m.formats) ms

pub same_uses : (ms ns : List Method) → map plain_method ms ≡ map plain_method ns → uses_of ms ≡ uses_of ns
same_uses ms ns e = uses_via ms ∙ (ap (map method_uses_in) e ∙ sym (uses_via ns))

pub same_graph : (ms ns : List Method) → map plain_method ms ≡ map plain_method ns → used_graph ms ≡ used_graph ns
same_graph ms ns e = graph_via ms ∙ (ap (map used_in) e ∙ sym (graph_via ns))

-- ---- an order, bounds and ranges of the ones are those of the others

order_as : (ms ns : List Method) → map plain_method ms ≡ map plain_method ns → (order : List ℕ) → IsOrder ns order → IsOrder ms order
order_as ms ns e order is = record {
  each = λ k lt. is.each k (omega (arith, lt, as_many plain_method ms ns e));
  once = λ i j k lt. is.once i j k (omega (arith, lt, as_many plain_method ms ns e));
  before = λ i k j m at here calls.
      let n = twin plain_method ns ms (sym e) k m here in
      is.before i k j n.0 at n.1 (calls_as n.0 m j n.2 calls);
}

sized_as : (ms ns : List Method) → map plain_method ms ≡ map plain_method ns → (order : List ℕ) (place : ℕ) (table : List MethodSizes) → SizedBefore ns order place table → SizedBefore ms order place table
sized_as ms ns e order place table is = record {
  each = is.each ∙ sym (as_many plain_method ms ns e);
  sized = λ i k m lt at here.
      let n = twin plain_method ns ms (sym e) k m here in
      let s = is.sized i k n.0 lt at n.1 in
      (s.0, s.1, record { formats_are = s.2.formats_are ∙ same_all_sizes table n.0.formats m.formats (ap (λ (p : PlainMethod). p.formats) n.2); whole_is = s.2.whole_is });
}

-- a table of all methods is one before any place of an order
sized_all : (ms : List Method) (order : List ℕ) (place : ℕ) (table : List MethodSizes) → AreSizes ms table → SizedBefore ms order place table
sized_all ms order place table are = record {
  each = are.each;
  sized = λ i k m lt at here.
      let s = there table k (omega (arith, slice_get_within ms k m here, are.each)) in
      (s.0, s.1, are.sized k m s.0 here s.1);
}

-- ---- faults

-- each method with a format has no parameters or is called
abbrev pub AreCalled : List Method → Type 0
AreCalled ms = (k n : ℕ) (m : Method) (f : Format) → slice_get ms k ≡ Some m → slice_get m.formats n ≡ Some f → (m.parameters ≡ []) ⊎ IsCalled ms k (length m.parameters)

right_parts : (x : Extent) (f : Format) (s : FormatSizes) (ps : List Interval) → format_fault Whole f s (format_ranges s ps) ≡ None → format_fault x f s (format_ranges s ps) ≡ None
right_parts Whole f s ps h = h
right_parts Known f s ps h = known_parts_right f s (format_ranges s ps) h

-- bounds of the ones, and a table of the others
pub record AreBoth (ms ns : List Method) (order : List ℕ) (stand : Interval) (old new : List MethodSizes) : Type 0 where
  pub plain : map plain_method ms ≡ map plain_method ns
  pub called : AreCalled ms
  pub sizes : AreSizes ms old
  pub ordered : IsOrder ns order
  pub sized : SizedBefore ns order (length order) new
  pub ranged : RangedFrom stand ns order 0 new

alike_at : (ms ns : List Method) (order : List ℕ) (stand : Interval) (old new : List MethodSizes) → AreBoth ms ns order stand old new → (k : ℕ) (m : Method) → slice_get ms k ≡ Some m → Alike old new k
alike_at ms ns order stand old new are k m here =
    let is = order_as ms ns are.plain order are.ordered in
    let place = is.each k (slice_get_within ms k m here) in
    let below = slice_get_within order place.0 k place.1 in
    agree ms order (length order) old new (record { ordered = is; before = sized_all ms order (length order) old are.sizes; after = sized_as ms ns are.plain order (length order) new are.sized })
    (length order) place.0 k m below below place.1 here

ranged_both : (ms ns : List Method) (order : List ℕ) (stand : Interval) (old new : List MethodSizes) → AreBoth ms ns order stand old new → AreRanged ms order stand old new
ranged_both ms ns order stand old new are =
    let is = order_as ms ns are.plain order are.ordered in
    record {
      ordered = is;
      count_old = are.sizes.each;
      count_new = are.sized.each ∙ sym (as_many plain_method ms ns are.plain);
      alike = alike_at ms ns order stand old new are;
      by_old = λ k m s. are.sizes.ranged k m s;
      by_new = λ k m s here at.
          let n = twin plain_method ns ms (sym are.plain) k m here in
          let place = is.each k (slice_get_within ms k m here) in
          are.ranged.ranged place.0 k n.0 s (omega arith) place.1 n.1 at ∙ same_ranges ns ms (sym are.plain) stand new k n.0 m n.2;
      filled = λ k n m f here at_f. have_ranges ms old are.sizes k m here (are.called k n m f here at_f);
    }

first_true : (a b : Bool) → (a && b) ≡ true → a ≡ true
first_true true b e = refl
first_true false b e = e

-- where the bounds of the ones are fine, a table of the others has no fault
pub no_table_fault : (ms ns : List Method) (order : List ℕ) (stand : Interval) (old new : List MethodSizes) → AreBoth ms ns order stand old new → (x : Extent) (f : ProfileFault) → IsFaulty x ns new f → ⊥
no_table_fault ms ns order stand old new are x f (is_wide w) =
    let m = twin plain_method ms ns are.plain w.place w.method w.method_at in
    let s = there old w.place (omega (arith, slice_get_within ms w.place m.0 m.1, are.sizes.each)) in
    let same = (alike_at ms ns order stand old new are w.place m.0 m.1 s.0 w.sizes s.1 w.sizes_at).1 in
    let wrong : true ≡ false = sym (first_true _ _ (are.sizes.fine.within w.place m.0 s.0 m.1 s.1)) ∙ (ap is_short same ∙ w.beyond) in
    absurd cc
no_table_fault ms ns order stand old new are x f (in_format {m = n} {format = g} {s = t} {sizes = sizes} at e) =
    let k = at.method_place in
    let m = twin plain_method ms ns are.plain k n at.method_at in
    let own = twin plain_format m.0.formats n.formats (ap (λ (p : PlainMethod). p.formats) m.2) at.format_place g at.format_at in
    let s = there old k (omega (arith, slice_get_within ms k m.0 m.1, are.sizes.each)) in
    let same = alike_at ms ns order stand old new are k m.0 m.1 s.0 t s.1 at.whole_at in
    let here : FormatAt ms old m.0 own.0 s.0 sizes =
    record { method_place = k; method_at = m.1; whole_at = s.1; format_place = at.format_place; format_at = own.1; sizes_at = ap (λ fs. slice_get fs at.format_place) same.0 ∙ at.sizes_at } in
    let fine = right_parts x own.0 sizes s.0.parameters (are.sizes.fine.accepted m.0 own.0 s.0 sizes here) in
    let ranges = same_ranges_in ms order stand old new (ranged_both ms ns order stand old new are) k at.format_place m.0 own.0 s.0 t m.1 own.1 s.1 at.whole_at in
    let wrong : None ≡ Some f = sym fine ∙ (ap (λ ps. format_fault x own.0 sizes (format_ranges sizes ps)) ranges ∙ (same_fault x own.0 g sizes (format_ranges sizes t.parameters) own.2 ∙ e)) in
    absurd cc
