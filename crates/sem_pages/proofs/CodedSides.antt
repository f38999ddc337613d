-- What a library method says of two sides, where the packed one is what was made of the other.
use Rattle.std.proofs.Common.{◌≡◌, ◌∙◌, ◌≤◌, refl, sym, ap, ℕ, length, List, [], Bool}
use Rattle.std.specs.Prelude.{Option, Some, None, Result, Ok, Err, IfOk, IfSome, ℤ, pos, slice_get}
use Rattle.sem_expr.specs.declared.expr.Side.{Side}
use Rattle.sem_expr.specs.declared.expr.Subject.TheVariants as subject
use Rattle.sem_expr.specs.declared.expr.Expr.{Expr}
use Rattle.sem_expr.specs.Values.{val}
use Rattle.sem_library.specs.Methods.{IsOnly, Lib}
use Rattle.sem_library.specs.Methods as lib
use Rattle.sem_profile.specs.declared.profile.CrcArguments.{CrcArguments}
use Rattle.sem_profile.specs.declared.profile.Field.{Field}
use Rattle.sem_profile.specs.declared.profile.Library.TheVariants as library
use Rattle.sem_filling.specs.Entries.{Path, below}
use Rattle.sem_filling.specs.Coding.{HasSpelling, IsCarried}
use Rattle.sem_filling.specs.Fits.{Context, reference_of}
use Rattle.sem_filling.proofs.Coded.{is_only}
use Rattle.sem_pages.specs.Pages.{Looked, Seen, Bears, IsCodedBy, IsCodedOn, numbers_in, numbers_seen, seen_side, side_in}
use Rattle.sem_pages.proofs.Seeing.{value_on}

module _ (ctx : Context) (path : Path) (l : Looked) (d : Field) (u c : List Bool) where
  pub spelled_up_by : (len v : Expr) → HasSpelling (numbers_in l) len v u → c ≡ [] → IsCodedBy ctx path l d (library.UncompressedValue len v) u c
  spelled_up_by len v h none = record {
    method = lib.uncompressed_value h.count h.number;
    method_is = rw (h.count_is, h.number_is) refl;
    related = (h.spells, none);
  }

  pub spelled_down_by : (len v : Expr) → HasSpelling (numbers_in l) len v c → u ≡ [] → IsCodedBy ctx path l d (library.CompressedValue len v) u c
  spelled_down_by len v h none = record {
    method = lib.compressed_value h.count h.number;
    method_is = rw (h.count_is, h.number_is) refl;
    related = (none, h.spells);
  }

  pub carried_by : (len : Expr) → IsCarried (numbers_in l) len u c → IsCodedBy ctx path l d (library.Irregular len) u c
  carried_by len h = record {
    method = lib.irregular h.count;
    method_is = rw h.count_is refl;
    related = h.related;
  }

  pub summed_by : (a : CrcArguments) (n p i len : ℤ) (covered : List Bool) (o : Option (List Bool)) → val (numbers_in l) a.bits ≡ Some n → val (numbers_in l) a.polynomial ≡ Some p
      → val (numbers_in l) a.initial ≡ Some i → val (numbers_in l) a.length ≡ Some len → covered ≡ side_in l a.subject a.side
      → ((ref : Option (List Bool)) → IsOnly (λ z. Lib (lib.crc n p i covered len) ref u z) o) → o ≡ Some c → IsCodedBy ctx path l d (library.Crc a) u c
  summed_by a n p i len covered o one two three four covers only found =
      let ref = reference_of d.declared.part ctx (below path d.declared.name) d.initial in
      record {
        method = lib.crc n p i covered len;
        method_is = rw (one, two, three, four, sym covers) refl;
        related = (is_only (λ z. Lib (lib.crc n p i covered len) ref u z) o c (only ref)).0 found;
      }

-- ---- on each level that has what is seen

module _ (v : Seen) where
  spelling_on : (l : Looked) → Bears l v → (len n : Expr) (bits : List Bool) → HasSpelling (numbers_seen v) len n bits → HasSpelling (numbers_in l) len n bits
  spelling_on l bears len n bits h = record {
    count = h.count;
    count_is = value_on l v bears len h.count h.count_is;
    number = h.number;
    number_is = value_on l v bears n h.number h.number_is;
    spells = h.spells;
  }

  module _ (ctx : Context) (path : Path) (d : Field) (u c : List Bool) where
    pub constant_up_on : (len n : Expr) → HasSpelling (numbers_seen v) len n u → c ≡ [] → IsCodedOn ctx path v d (library.UncompressedValue len n) u c
    constant_up_on len n h none = λ l bears. spelled_up_by ctx path l d u c len n (spelling_on l bears len n u h) none

    pub constant_down_on : (len n : Expr) → HasSpelling (numbers_seen v) len n c → u ≡ [] → IsCodedOn ctx path v d (library.CompressedValue len n) u c
    constant_down_on len n h none = λ l bears. spelled_down_by ctx path l d u c len n (spelling_on l bears len n c h) none

    pub carried_on : (len : Expr) (count : ℕ) → val (numbers_seen v) len ≡ Some (pos count) → u ≡ c → length u ≡ count → length u ≤ 64 → IsCodedOn ctx path v d (library.Irregular len) u c
    carried_on len count is same length_is short = λ l bears. carried_by ctx path l d u c len record { count = pos count; count_is = value_on l v bears len (pos count) is; related = (same, ap pos length_is, short) }

    pub kept_on : (ref : Option (List Bool)) → ref ≡ reference_of d.declared.part ctx (below path d.declared.name) d.initial → ref ≡ Some u → length u ≤ 64 → c ≡ [] → IsCodedOn ctx path v d library.Static u c
    kept_on ref ref_is found short none = λ l bears. record { method = lib.static; method_is = refl; related = (sym ref_is ∙ found, short, none) }

    pub carried_up_on : (len : Expr) (count : ℕ) → val (numbers_seen v) len ≡ Some (pos count) → u ≡ c → count ≡ length u → length u ≤ 64 → IsCodedOn ctx path v d (library.Irregular len) u c
    carried_up_on len count is same length_is short = carried_on len count is same (sym length_is) short

    pub raised_on : (k offset : Expr) (x y : ℤ) → val (numbers_seen v) k ≡ Some x → val (numbers_seen v) offset ≡ Some y
        → Lib (lib.lsb x y) (reference_of d.declared.part ctx (below path d.declared.name) d.initial) u c → IsCodedOn ctx path v d (library.Lsb k offset) u c
    raised_on k offset x y one other related = λ l bears. record { method = lib.lsb x y; method_is = rw (value_on l v bears k x one, value_on l v bears offset y other) refl; related = related }

    pub summed_on : (a : CrcArguments) (n p i len : ℤ) (covered : List Bool) (o : Option (List Bool)) → val (numbers_seen v) a.bits ≡ Some n → val (numbers_seen v) a.polynomial ≡ Some p
        → val (numbers_seen v) a.initial ≡ Some i → val (numbers_seen v) a.length ≡ Some len → seen_side v a.subject a.side ≡ Some covered
        → ((ref : Option (List Bool)) → IsOnly (λ z. Lib (lib.crc n p i covered len) ref u z) o) → o ≡ Some c → IsCodedOn ctx path v d (library.Crc a) u c
    summed_on a n p i len covered o one two three four covers only found = λ l bears.
        summed_by ctx path l d u c a n p i len covered o (value_on l v bears a.bits n one) (value_on l v bears a.polynomial p two) (value_on l v bears a.initial i three) (value_on l v bears a.length len four)
        (sym (bears.sides_are a.subject a.side covered covers)) only found

pub some_weaker : {A : Type 0} (P Q : A → Type 0) (o : Option A) → ((x : A) → P x → Q x) → IfSome o P → IfSome o Q
some_weaker P Q (Some x) to p = to x p
some_weaker P Q None to p = tt

pub found_weaker : {A E : Type 0} (P Q : A → Type 0) (r : Result (Option A) E) → ((x : A) → P x → Q x) → IfOk r (λ o. IfSome o P) → IfOk r (λ o. IfSome o Q)
found_weaker P Q (Ok (Some x)) to p = to x p
found_weaker P Q (Ok None) to p = tt
found_weaker P Q (Err e) to p = tt

-- ---- constraints

pub length_on : (l : Looked) (v : Seen) → Bears l v → (i : ℕ) (which : Side) (lengths : List Expr) (w : List Bool) (k : ℕ) → seen_side v (subject.Field i) which ≡ Some w → k ≡ length w
    → (n : ℕ) × (e : Expr) × (slice_get lengths n ≡ Some e) × (val (numbers_seen v) e ≡ Some (pos k))
    → (n : ℕ) × (e : Expr) × (slice_get lengths n ≡ Some e) × (val (numbers_in l) e ≡ Some (pos (length (side_in l (subject.Field i) which))))
length_on l v bears i which lengths w k seen count found =
    (found.0, found.1, found.2, value_on l v bears found.1 (pos k) found.3 ∙ ap (λ n. Some (pos n)) (count ∙ sym (ap length (bears.sides_are (subject.Field i) which w seen))))
