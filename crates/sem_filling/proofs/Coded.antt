-- Arguments with values, and what is found of the compressed side.
use Rattle.std.proofs.Common.{◌≡◌, ◌∙◌, refl, sym, ap, subst, List, [], Bool, ℕ}
use Rattle.std.specs.Prelude.{slice_get, Option, Some, None, ◌↔◌, Result, Ok, Err, IfOk, IsTrue, ℤ, option_map}
use Rattle.sem_expr.specs.declared.known.Known.{Known}
use Rattle.sem_expr.specs.declared.expr.Expr.{Expr}
use Rattle.sem_expr.specs.Known.{assignment_of}
use Rattle.sem_expr.specs.Spread.{IsRanged}
use Rattle.sem_profile.specs.declared.profile.Library.{Library}
use Rattle.sem_profile.specs.BoundsLaws.{library_exprs}
use Rattle.sem_library.specs.Methods.{IsOnly, Method, Lib}
use Rattle.sem_library.specs.Methods as lib
use Rattle.sem_expr.specs.Values.{Assignment, val}
use Rattle.sem_profile.specs.declared.profile.Library.TheVariants as library
use Rattle.sem_profile.specs.declared.profile.CrcArguments.{CrcArguments}
use Rattle.sem_profile.specs.declared.profile.Field.{Field}
use Rattle.sem_filling.specs.declared.filling.Filling.{Filling}
use Rattle.sem_filling.specs.declared.filling.FilledField.{FilledField}
use Rattle.sem_filling.specs.Fillings.{level, listing_of, sides_of, inner_of}
use Rattle.sem_filling.specs.Entries.{Path, below}
use Rattle.sem_filling.specs.Fits.{Context, side_of, two_values, method_of, reference_of}
use Rattle.sem_filling.specs.Coding.{HasSpelling, IsCarried}
use Rattle.sem_filling.specs.Ready.{IsCoded}
use Rattle.sem_filling.specs.Level.{AllRanged}

-- the argument at a place of a method that is known by its constructor
pub argument_ranged : (known : Known) {l m : Library} {e : Expr} (n : ℕ) → AllRanged known (library_exprs l) → l ≡ m → slice_get (library_exprs m) n ≡ Some e → IsRanged (assignment_of known) e
argument_ranged known n all same at = all n _ (ap (λ x. slice_get (library_exprs x) n) same ∙ at)

pub is_only : (P : List Bool → Type 0) (o : Option (List Bool)) (x : List Bool) → IsOnly P o → (o ≡ Some x) ↔ P x
is_only P None x none = (λ e. absurd cc, λ p. absurd (none x p))
is_only P (Some y) x only = (λ e. let same : y ≡ x = cc in subst P same only.0, λ p. ap Some (sym (only.1 x p)))

-- bits that were found are these
pub found_is : {o : Option (List Bool)} {x y : List Bool} (b : Bool) → o ≡ Some x → (IsTrue b ↔ (x ≡ y)) → IsTrue b ↔ (o ≡ Some y)
found_is {o} {x} {y} b here same = (λ t. here ∙ ap Some (same.0 t), λ e. let one : Some x ≡ Some y = sym here ∙ e in same.1 cc)

-- an answer that says less
pub ok_weaker : {E O : Type 0} (P Q : O → Type 0) (r : Result O E) → ((o : O) → P o → Q o) → IfOk r P → IfOk r Q
ok_weaker P Q (Ok o) to p = to o p
ok_weaker P Q (Err e) to p = tt

-- ---- what each method's judgement says

two_are : (f : ℤ → ℤ → Method) (o q : Option ℤ) (m : Method) → two_values f o q ≡ Some m → (x : ℤ) × (y : ℤ) × (o ≡ Some x) × (q ≡ Some y) × (f x y ≡ m)
two_are f None q m e = let wrong : None ≡ Some m = e in absurd cc
two_are f (Some x) None m e = let wrong : None ≡ Some m = e in absurd cc
two_are f (Some x) (Some y) m e = let both : Some (f x y) ≡ Some m = e in (x, y, refl, refl, cc)

one_is : (f : ℤ → Method) (o : Option ℤ) (m : Method) → option_map f o ≡ Some m → (x : ℤ) × (o ≡ Some x) × (f x ≡ m)
one_is f None m e = let wrong : None ≡ Some m = e in absurd cc
one_is f (Some x) m e = let both : Some (f x) ≡ Some m = e in (x, refl, cc)

module _ (ctx : Context) (path : Path) (f : Filling) (a : Assignment) (d : Field) (g : FilledField) (outer : inner_of g ≡ None) where
  pub spelled_up : (len v : Expr) → (HasSpelling a len v (sides_of g).uncompressed × ((sides_of g).compressed ≡ [])) ↔ IsCoded ctx path f a d (library.UncompressedValue len v) g
  spelled_up len v = (
    λ h. record {
      outer = outer;
      method = lib.uncompressed_value h.0.count h.0.number;
      method_is = rw (h.0.count_is, h.0.number_is) refl;
      related = (h.0.spells, h.1);
    },
    λ c.
        let t = two_are lib.uncompressed_value (val a len) (val a v) c.method c.method_is in
        let r = subst (λ m. Lib m (reference_of d.declared.part ctx (below path d.declared.name) d.initial) (sides_of g).uncompressed (sides_of g).compressed) (sym t.4) c.related in
        (record { count = t.0; count_is = t.2; number = t.1; number_is = t.3; spells = r.0 }, r.1),
  )

  pub spelled_down : (len v : Expr) → (HasSpelling a len v (sides_of g).compressed × ((sides_of g).uncompressed ≡ [])) ↔ IsCoded ctx path f a d (library.CompressedValue len v) g
  spelled_down len v = (
    λ h. record {
      outer = outer;
      method = lib.compressed_value h.0.count h.0.number;
      method_is = rw (h.0.count_is, h.0.number_is) refl;
      related = (h.1, h.0.spells);
    },
    λ c.
        let t = two_are lib.compressed_value (val a len) (val a v) c.method c.method_is in
        let r = subst (λ m. Lib m (reference_of d.declared.part ctx (below path d.declared.name) d.initial) (sides_of g).uncompressed (sides_of g).compressed) (sym t.4) c.related in
        (record { count = t.0; count_is = t.2; number = t.1; number_is = t.3; spells = r.1 }, r.0),
  )

  pub carried_is : (len : Expr) → IsCarried a len (sides_of g).uncompressed (sides_of g).compressed ↔ IsCoded ctx path f a d (library.Irregular len) g
  carried_is len = (
    λ h. record {
      outer = outer;
      method = lib.irregular h.count;
      method_is = rw h.count_is refl;
      related = h.related;
    },
    λ c.
        let t = one_is lib.irregular (val a len) c.method c.method_is in
        record {
          count = t.0;
          count_is = t.1;
          related = subst (λ m. Lib m (reference_of d.declared.part ctx (below path d.declared.name) d.initial) (sides_of g).uncompressed (sides_of g).compressed) (sym t.2) c.related;
        },
  )

  -- a field is coded where its packed side is the one that the method makes
  made_is : (l : Library) (m : Method) (ref o : Option (List Bool)) (b : Bool) → method_of (side_of (listing_of f) (level f)) a l ≡ Some m
      → ref ≡ reference_of d.declared.part ctx (below path d.declared.name) d.initial → IsOnly (λ c. Lib m ref (sides_of g).uncompressed c) o
      → (IsTrue b ↔ (o ≡ Some (sides_of g).compressed)) → IsTrue b ↔ IsCoded ctx path f a d l g
  made_is l m ref o b method ref_is only found =
      let same = is_only (λ c. Lib m ref (sides_of g).uncompressed c) o (sides_of g).compressed only in (
        λ t. record {
          outer = outer;
          method = m;
          method_is = method;
          related = subst (λ r. Lib m r (sides_of g).uncompressed (sides_of g).compressed) ref_is (same.0 (found.0 t));
        },
        λ c.
            let one : Some c.method ≡ Some m = sym c.method_is ∙ method in
            let is : c.method ≡ m = cc in
            found.1 (same.1 (subst (λ k. Lib k ref (sides_of g).uncompressed (sides_of g).compressed) is
            (subst (λ r. Lib c.method r (sides_of g).uncompressed (sides_of g).compressed) (sym ref_is) c.related))),
      )

  pub near_is : (k offset : Expr) (x y : ℤ) (ref o : Option (List Bool)) (b : Bool) → val a k ≡ Some x → val a offset ≡ Some y
      → ref ≡ reference_of d.declared.part ctx (below path d.declared.name) d.initial → IsOnly (λ c. Lib (lib.lsb x y) ref (sides_of g).uncompressed c) o
      → (IsTrue b ↔ (o ≡ Some (sides_of g).compressed)) → IsTrue b ↔ IsCoded ctx path f a d (library.Lsb k offset) g
  near_is k offset x y ref o b one other = made_is (library.Lsb k offset) (lib.lsb x y) ref o b (rw (one, other) refl)

  pub summed_is : (c : CrcArguments) (n p i len : ℤ) (covered : List Bool) (o : Option (List Bool)) (b : Bool) → val a c.bits ≡ Some n → val a c.polynomial ≡ Some p → val a c.initial ≡ Some i
      → val a c.length ≡ Some len → covered ≡ side_of (listing_of f) (level f) c.subject c.side
      → ((ref : Option (List Bool)) → IsOnly (λ z. Lib (lib.crc n p i covered len) ref (sides_of g).uncompressed z) o)
      → (IsTrue b ↔ (o ≡ Some (sides_of g).compressed)) → IsTrue b ↔ IsCoded ctx path f a d (library.Crc c) g
  summed_is c n p i len covered o b one two three four covers only =
      let ref = reference_of d.declared.part ctx (below path d.declared.name) d.initial in
      made_is (library.Crc c) (lib.crc n p i covered len) ref o b (rw (one, two, three, four, sym covers) refl) refl (only ref)
