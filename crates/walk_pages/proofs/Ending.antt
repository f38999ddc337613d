-- The end of a level that is read.
use Rattle.std.proofs.Common.{◌≡◌, ◌∙◌, refl, sym, ap, subst, ℕ, zero, suc, Bool, false, List, [], ◌∷◌, ◌++◌, length, true}
use Rattle.std.specs.Prelude.{slice_get, slice_set, Some, None, ℤ, unwrap_or}
use Rattle.std.proofs.lemmas.List.{length-set}
use Rattle.std.proofs.lemmas.Option.{slice_get_within}
use Rattle.sem_context.specs.Entries.{bits_at}
use Rattle.sem_expr.specs.declared.expr.Side.{Side}
use Rattle.sem_expr.specs.declared.expr.Side.TheVariants.{Uncompressed, Compressed}
use Rattle.sem_expr.specs.declared.expr.Subject.{Subject}
use Rattle.sem_expr.specs.declared.expr.Subject.TheVariants as subject
use Rattle.sem_profile.specs.declared.profile.Constraint.{Constraint}
use Rattle.sem_profile.specs.declared.profile.Field.{Field}
use Rattle.sem_profile.specs.declared.profile.Format.{Format}
use Rattle.sem_profile.specs.declared.profile.Method.{Method}
use Rattle.sem_filling.specs.declared.whole_sides.WholeSides.{WholeSides}
use Rattle.sem_filling.specs.Entries.{Path}
use Rattle.sem_filling.specs.Fillings.{Sides, header_bits, packed_bits, is_header}
use Rattle.sem_profile.specs.declared.profile.Declared.{Declared}
use Rattle.sem_filling.specs.Fits.{Context, format_at}
use Rattle.sem_pages.specs.declared.frame.PageFrame.{PageFrame}
use Rattle.sem_pages.specs.declared.page.Page.{Page, out-Page}
use Rattle.sem_pages.specs.declared.page.Shown.{Shown, out-Shown}
use Rattle.sem_pages.specs.Pages.{AreRead, Bears, FitsOn, HoldsOn, IsPageOf, IsPlain, IsUnsent, Keeps, Looked, Seen, level_by, seen_in, seen_side, seen_at_end}
use Rattle.sem_pages.proofs.Pages.{page_read}
use Rattle.sem_pages.proofs.Reading.{set_read}
use Rattle.walk_pages.specs.declared.draft.Draft.{Draft}
use Rattle.sem_pages.specs.declared.prepared.LengthTest.{LengthTest}
use Rattle.sem_pages.specs.Prepared.{AreCovered, IsCovered, Passes, by_encoding, by_test, by_value}
use Rattle.sem_pages.proofs.Settled.{encoded_hold}
use Rattle.walk_pages.specs.Drafts.{AreEncoded, AreEnded, AreSettled, IsRight, IsSettled, IsSummed, seen_with_header}

-- ---- checksums

header_same : (d : Declared) (u u' c c' : List Bool) (xs ys : List Sides) → u ≡ u' → header_bits xs ≡ header_bits ys
    → header_bits (record { declared = d; uncompressed = u; compressed = c } ∷ xs) ≡ header_bits (record { declared = d; uncompressed = u'; compressed = c' } ∷ ys)
header_same d u u' c c' xs ys one rest = by (is_header d.part) refl
  where
    by : (b : Bool) → is_header d.part ≡ b → header_bits (record { declared = d; uncompressed = u; compressed = c } ∷ xs) ≡ header_bits (record { declared = d; uncompressed = u'; compressed = c' } ∷ ys)
    by true e = rw e (λ i. one i ++ rest i)
    by false e = rw e rest

header_set : (ds : List Field) (ss : List Shown) (i : ℕ) (s t : Shown) → slice_get ss i ≡ Some s → unwrap_or (out-Shown t).uncompressed [] ≡ unwrap_or (out-Shown s).uncompressed []
    → header_bits (level_by ds (slice_set ss i t)) ≡ header_bits (level_by ds ss)
header_set [] [] i s t at up = refl
header_set [] (x ∷ xs) zero s t at up = refl
header_set [] (x ∷ xs) (suc i) s t at up = refl
header_set (d ∷ ds) [] i s t at up = let wrong : None ≡ Some s = at in absurd cc
header_set (d ∷ ds) (x ∷ xs) zero s t at up =
    let one : Some x ≡ Some s = at in
    let same : s ≡ x = cc in
    header_same d.declared (unwrap_or (out-Shown t).uncompressed []) (unwrap_or (out-Shown x).uncompressed []) (unwrap_or (out-Shown t).compressed []) (unwrap_or (out-Shown x).compressed []) (level_by ds xs) (level_by ds xs)
    (up ∙ ap (λ y. unwrap_or (out-Shown y).uncompressed []) same) refl
header_set (d ∷ ds) (x ∷ xs) (suc i) s t at up =
    header_same d.declared (unwrap_or (out-Shown x).uncompressed []) (unwrap_or (out-Shown x).uncompressed []) (unwrap_or (out-Shown x).compressed []) (unwrap_or (out-Shown x).compressed []) (level_by ds (slice_set xs i t)) (level_by ds xs)
    refl (header_set ds xs i s t at up)

pub none_ended : (format : Format) (args : List ℤ) (h : List Bool) (old new : List Shown) → new ≡ old → AreEnded format args h old new
none_ended format args h old new is = record {
  read = λ methods ctx path solved r. rw is r;
  count_is = ap length is;
  header_is = ap (λ ss. header_bits (level_by format.fields ss)) is;
}

pub ended_trans : (format : Format) (args : List ℤ) (h : List Bool) (old mid new : List Shown) → AreEnded format args h old mid → AreEnded format args h mid new → AreEnded format args h old new
ended_trans format args h old mid new one other = record {
  read = λ methods ctx path solved r. other.read methods ctx path solved (one.read methods ctx path solved r);
  count_is = other.count_is ∙ one.count_is;
  header_is = other.header_is ∙ one.header_is;
}

pub sum_ended : (format : Format) (args : List ℤ) (h : List Bool) (old new : List Shown) (i : ℕ) (s t : Shown) (field : Field) (c : List Bool) → slice_get old i ≡ Some s → (out-Shown s).uncompressed ≡ None
    → ((b : List Bool) → (out-Shown s).compressed ≡ Some b → b ≡ c) → IsPlain t [] c → new ≡ slice_set old i t → slice_get format.fields i ≡ Some field → IsSummed (seen_with_header old args h) field c → AreEnded format args h old new
sum_ended format args h old new i s t field c here up down plain new_is there summed = record {
  read = λ methods ctx path solved r. rw new_is (set_read (seen_with_header old args h) i s t here keeps methods ctx path format solved
      (λ d u x at whole. let one : Some field ≡ Some d = sym there ∙ at in let same : field ≡ d = cc in subst (λ z. FitsOn methods ctx path (seen_with_header old args h) z t) same (summed methods ctx path t plain)) r);
  count_is = ap length new_is ∙ length-set old i t;
  header_is = ap (λ ss. header_bits (level_by format.fields ss)) new_is ∙ header_set format.fields old i s t here
      (ap (λ o. unwrap_or o []) plain.sides_are.uncompressed_is ∙ sym (ap (λ o. unwrap_or o []) up));
}
  where
    keeps : Keeps s t
    keeps Uncompressed b at = let wrong : None ≡ Some b = sym up ∙ at in absurd cc
    keeps Compressed b at = plain.sides_are.compressed_is ∙ ap Some (sym (down b at))

-- ---- the whole

-- what is seen of a level is seen of it with more of the whole
more_read : (methods : List Method) (ctx : Context) (path : Path) (format : Format) (v v' : Seen) (solved : List ℕ) → v'.fields ≡ v.fields → ((l : Looked) → Bears l v' → Bears l v) → AreRead methods ctx path format v solved
    → AreRead methods ctx path format v' solved
more_read methods ctx path format v v' solved same less read = record {
  count = ap length same ∙ read.count;
  fields = λ i d s u c at there whole l bears. read.fields i d s u c at (ap (λ zs. slice_get zs i) (sym same) ∙ there) whole l (less l bears);
  constraints = λ n j c at there l bears. read.constraints n j c at there l (less l bears);
}

header_less : (ss : List Shown) (args : List ℤ) (h : List Bool) (l : Looked) → Bears l (seen_with_header ss args h) → Bears l (seen_in ss args)
header_less ss args h l bears = record { arguments_are = bears.arguments_are; sides_are = λ x side b at. bears.sides_are x side b (by x side b at) }
  where
    by : (x : Subject) (side : Side) (b : List Bool) → seen_side (seen_in ss args) x side ≡ Some b → seen_side (seen_with_header ss args h) x side ≡ Some b
    by (subject.Field k) side b at = at
    by subject.This Uncompressed b at = let wrong : None ≡ Some b = at in absurd cc
    by subject.This Compressed b at = let wrong : None ≡ Some b = at in absurd cc

end_less : (ss : List Shown) (args : List ℤ) (w : WholeSides) (l : Looked) → Bears l (seen_at_end ss args w) → Bears l (seen_with_header ss args w.header)
end_less ss args w l bears = record { arguments_are = bears.arguments_are; sides_are = λ x side b at. bears.sides_are x side b (by x side b at) }
  where
    by : (x : Subject) (side : Side) (b : List Bool) → seen_side (seen_with_header ss args w.header) x side ≡ Some b → seen_side (seen_at_end ss args w) x side ≡ Some b
    by (subject.Field k) side b at = at
    by subject.This Uncompressed b at = at
    by subject.This Compressed b at = let wrong : None ≡ Some b = at in absurd cc

pub page_ended : (frame : PageFrame) (d : Draft) (index : ℕ) (p : Page) (w : WholeSides) (ss : List Shown) → IsRight frame d → format_at frame.methods.now frame.method index ≡ Some d.format.now → d.arguments.now ≡ frame.arguments.now
    → (out-Page p).format ≡ index → (out-Page p).fields ≡ ss
    → AreEnded d.format.now d.arguments.now w.header d.fields ss → w.header ≡ header_bits (level_by d.format.now.fields d.fields) → w.packed ≡ packed_bits d.format.now.listing (level_by d.format.now.fields ss)
    → ((i : ℕ) (s : Shown) → slice_get ss i ≡ Some s → IsUnsent d.format.now.listing i s)
    → AreSettled (seen_at_end ss d.arguments.now w) d.format.now d.solved.items
    → IsPageOf frame.methods.now (bits_at frame.context.now) frame.method frame.arguments.now frame.path.now p w.header w.packed
page_ended frame d index p w ss right at args_are index_is fields_are ended header_is packed_is unsent constraints =
    let methods = frame.methods.now in
    let ctx = bits_at frame.context.now in
    let path = frame.path.now in
    let args = d.arguments.now in
    let format = d.format.now in
    let begun = more_read methods ctx path format (seen_in d.fields args) (seen_with_header d.fields args w.header) d.solved.items refl (header_less d.fields args w.header) right.read in
    let read = more_read methods ctx path format (seen_with_header ss args w.header) (seen_at_end ss args w) d.solved.items refl (end_less ss args w) (ended.read methods ctx path d.solved.items begun) in
    let encoded = encoded_hold methods ctx path format (seen_at_end ss args w) d.solved.items read (λ i s here. let u = unsent i s here in (u.uncompressed, u.compressed, u.sides_are)) in
    subst (λ xs. IsPageOf methods ctx frame.method xs path p w.header w.packed) args_are
    (page_read methods ctx frame.method args path p format w d.solved.items (ap (format_at methods frame.method) index_is ∙ at)
    (subst (λ zs. AreRead methods ctx path format (seen_at_end zs args w) d.solved.items) (sym fields_are) read)
    (λ i s here. let u = unsent i s (ap (λ zs. slice_get zs i) (sym fields_are) ∙ here) in (u.uncompressed, u.compressed, u.sides_are))
    (λ i s here out. let u = unsent i s (ap (λ zs. slice_get zs i) (sym fields_are) ∙ here) in ap (λ o. unwrap_or o []) u.sides_are.compressed_is ∙ u.unsent out)
    (λ j c here. subst (λ zs. HoldsOn (seen_at_end zs args w) c) (sym fields_are) (constraints encoded read.constraints j c here))
    (header_is ∙ sym ended.header_is ∙ ap (λ zs. header_bits (level_by format.fields zs)) (sym fields_are))
    (packed_is ∙ ap (λ zs. packed_bits format.listing (level_by format.fields zs)) (sym fields_are)))

-- each constraint has a test that is passed, or is settled
settled_by : (v : Seen) (ds : List Field) (cs : List Constraint) (tests : List LengthTest) (others solved : List ℕ) → ((m : ℕ) (t : LengthTest) → slice_get tests m ≡ Some t → Passes v t) → AreEncoded v ds
    → ((m j : ℕ) → slice_get others m ≡ Some j → IsSettled v cs solved j) → (j : ℕ) (c : Constraint) → slice_get cs j ≡ Some c → ((n : ℕ) → slice_get solved n ≡ Some j → HoldsOn v c) → IsCovered ds tests others j c → HoldsOn v c
settled_by v ds cs tests others solved passed encoded settled j c here is (by_test m t at test) = test v (passed m t at)
settled_by v ds cs tests others solved passed encoded settled j c here is (by_encoding t settles test) = encoded t settles c test
settled_by v ds cs tests others solved passed encoded settled j c here is (by_value m at) = settled m j at c here is

pub covered_hold : (v : Seen) (ds : List Field) (cs : List Constraint) (tests : List LengthTest) (others solved : List ℕ) → AreCovered ds cs tests others (length cs) → ((m : ℕ) (t : LengthTest) → slice_get tests m ≡ Some t → Passes v t)
    → ((m j : ℕ) → slice_get others m ≡ Some j → IsSettled v cs solved j) → AreEncoded v ds → ((n j : ℕ) (c : Constraint) → slice_get solved n ≡ Some j → slice_get cs j ≡ Some c → HoldsOn v c)
    → (j : ℕ) (c : Constraint) → slice_get cs j ≡ Some c → HoldsOn v c
covered_hold v ds cs tests others solved covered passed settled encoded is j c here = settled_by v ds cs tests others solved passed encoded settled j c here (λ n at. is n j c at here) (covered j c (slice_get_within cs j c here) here)

pub settled_moved : (v v' : Seen) (format : Format) (solved solved' : List ℕ) → v ≡ v' → solved ≡ solved' → AreSettled v format solved → AreSettled v' format solved'
settled_moved v v' format solved solved' v_is solved_are settled = subst (AreSettled v' format) solved_are (subst (λ z. AreSettled z format solved) v_is settled)

-- the same by what the code reads
pub covered_moved : (v v' : Seen) (ds : List Field) (cs cs' : List Constraint) (tests tests' : List LengthTest) (others others' solved solved' : List ℕ) → v ≡ v' → cs ≡ cs' → tests ≡ tests' → others ≡ others' → solved ≡ solved'
    → AreCovered ds cs' tests' others' (length cs') → ((m : ℕ) (t : LengthTest) → slice_get tests m ≡ Some t → Passes v t) → ((m j : ℕ) → slice_get others m ≡ Some j → IsSettled v cs solved j)
    → AreEncoded v' ds → ((n j : ℕ) (c : Constraint) → slice_get solved' n ≡ Some j → slice_get cs' j ≡ Some c → HoldsOn v' c) → (j : ℕ) (c : Constraint) → slice_get cs' j ≡ Some c → HoldsOn v' c
covered_moved v v' ds cs cs' tests tests' others others' solved solved' v_is cs_are tests_are others_are solved_are covered =
    rw (sym v_is, sym cs_are, sym solved_are) (covered_hold v ds cs tests others solved (rw (cs_are, tests_are, others_are) covered))
