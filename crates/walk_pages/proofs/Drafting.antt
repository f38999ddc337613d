-- A level that goes on.
use Rattle.std.proofs.Common.{◌≡◌, ◌∙◌, refl, sym, ap, subst, ℕ, zero, suc, ◌<◌, length, Bool, true, List, [], ◌∷◌, ◌++◌, arith}
use Rattle.std.proofs.lemmas.Option.{slice_get_within}
use Rattle.std.specs.Prelude.{slice_get, slice_set, Option, Some, None, ℤ, pos, IfSome}
use Rattle.sem_bits.specs.Number.{num}
use Rattle.sem_context.specs.Entries.{bits_at}
use Rattle.sem_expr.specs.declared.expr.Attribute.{Attribute}
use Rattle.sem_expr.specs.declared.expr.Comparison.TheVariants.{Equal}
use Rattle.sem_expr.specs.declared.expr.Cond.TheVariants.{Compare}
use Rattle.sem_expr.specs.declared.expr.Expr.{Expr}
use Rattle.sem_expr.specs.declared.expr.Measure.TheVariants as measure
use Rattle.sem_expr.specs.declared.expr.Side.{Side}
use Rattle.sem_expr.specs.declared.expr.Side.TheVariants.{Uncompressed, Compressed}
use Rattle.sem_expr.specs.declared.expr.Subject.{Subject}
use Rattle.sem_expr.specs.declared.expr.Subject.TheVariants as subject
use Rattle.sem_expr.specs.Values.{Assignment, both, compare, truth, val}
use Rattle.sem_profile.specs.declared.profile.Constraint.{Constraint}
use Rattle.sem_profile.specs.declared.profile.Constraint.TheVariants.{Enforce}
use Rattle.sem_profile.specs.declared.profile.Field.{Field}
use Rattle.sem_profile.specs.declared.profile.Format.{Format}
use Rattle.sem_profile.specs.declared.profile.Method.{Method}
use Rattle.sem_filling.specs.Entries.{Path}
use Rattle.sem_filling.specs.Fits.{Context, Holds}
use Rattle.cert_rules.specs.Rules.{attribute_of, equated, is_attribute}
use Rattle.cert_rules.proofs.RulesConstraints.{attribute_value, first_cases, number_self}
use Rattle.sem_pages.specs.declared.frame.PageFrame.{PageFrame}
use Rattle.sem_pages.specs.declared.page.Page.{Page}
use Rattle.sem_pages.specs.declared.page.Shown.{Shown, out-Shown, roll-Shown, out-roll-Shown}
use Rattle.sem_pages.specs.Pages.{AreRead, Bears, FitsOn, HoldsOn, IsPlain, IsWhole, Keeps, ReadsAs, Seen, numbers_in, numbers_seen, seen_in, seen_side, shown_side, side_in}
use Rattle.sem_pages.specs.declared.page.BothSides.{BothSides}
use Rattle.sem_pages.specs.declared.prepared.Prepared.{Prepared}
use Rattle.sem_pages.specs.Made.{AreMade}
use Rattle.sem_pages.specs.Prepared.{AreConstants, HasConstant, IsPrepared}
use Rattle.sem_pages.proofs.Pages.{called_has}
use Rattle.sem_pages.proofs.Reading.{bears_less, seen_with, set_read}
use Rattle.sem_pages.proofs.Seeing.{value_on, values_on}
use Rattle.walk_pages.specs.declared.draft.Draft.{Draft}
use Rattle.walk_pages.specs.declared.draft.WholePage.{WholePage}
use Rattle.walk_pages.specs.Drafts.{BeginsWith, GoesOn, HasValue, IsCalled, IsPut, IsReadIn, IsSolved, blank, seen_of}

-- ---- the start

pub not_whole : (s : Shown) (u c : List Bool) → blank ≡ s → IsWhole s u c → ⊥
not_whole s u c is whole =
    let out : (out-Shown blank).uncompressed ≡ None = ap (λ x. x.uncompressed) (out-roll-Shown record { uncompressed = None; compressed = None; inner = None }) in
    let wrong : None ≡ Some u = sym out ∙ ap (λ x. (out-Shown x).uncompressed) is ∙ whole.uncompressed_is in
    absurd cc

begun_field : (methods : List Method) (ctx : Context) (path : Path) (v : Seen) (d : Field) (o : Option BothSides) (s : Shown) (u c : List Bool) → HasConstant d o → BeginsWith o s → IsWhole s u c → FitsOn methods ctx path v d s
begun_field methods ctx path v d None s u c has begins whole = absurd (not_whole s u c (sym begins) whole)
begun_field methods ctx path v d (Some b) s u c has begins whole = has methods ctx path v s begins

-- an element of a list that is as long as another
made_there : {A : Type 0} (xs : List A) (i : ℕ) → i < length xs → (x : A) × (slice_get xs i ≡ Some x)
made_there [] i lt = absurd (omega (arith, lt))
made_there (x ∷ xs) zero lt = (x, refl)
made_there (x ∷ xs) (suc i) lt = made_there xs i (omega (arith, lt))

-- the constants alone are read
pub begun_read : (methods : List Method) (ctx : Context) (path : Path) (format : Format) (args : List ℤ) (ss : List Shown) (js : List ℕ) (p : Prepared) (os : List (Option BothSides)) → IsPrepared format p → os ≡ p.constants
    → AreMade BeginsWith os ss (length os) → js ≡ [] → AreRead methods ctx path format (seen_in ss args) js
begun_read methods ctx path format args ss js p os prepared os_are made js_are =
    let told : AreConstants format.fields os = subst (AreConstants format.fields) (sym os_are) prepared.constants in
    record {
      count = made.count ∙ told.count;
      fields = λ i d s u c here there whole.
          let under : i < length os = omega (arith, slice_get_within ss i s there, made.count) in
          let o = made_there os i under in
          begun_field methods ctx path (seen_in ss args) d o.0 s u c (told.each i d o.0 here o.1) (made.each i o.0 s o.1 there) whole;
      constraints = λ k j c here there. let wrong : None ≡ Some j = ap (λ z. slice_get z k) (sym js_are) ∙ here in absurd cc;
    }

-- ---- one step

moved : (methods : List Method) (ctx : Context) (path : Path) (f f' : Format) (ss ss' : List Shown) (args args' : List ℤ) (js js' : List ℕ) → f' ≡ f → ss' ≡ ss → args' ≡ args → js' ≡ js
    → AreRead methods ctx path f (seen_in ss args) js → AreRead methods ctx path f' (seen_in ss' args') js'
moved methods ctx path f f' ss ss' args args' js js' f_is ss_are args_are js_are read = rw (f_is, ss_are, args_are, js_are) read

prepared_moved : (f f' : Format) (p p' : Prepared) → f' ≡ f → p' ≡ p → IsPrepared f p → IsPrepared f' p'
prepared_moved f f' p p' f_is p_is prepared = rw (f_is, p_is) prepared

pub goes_trans : (frame : PageFrame) (old mid new : Draft) → GoesOn frame old mid → GoesOn frame mid new → GoesOn frame old new
goes_trans frame old mid new one other = record {
  right = λ r. other.right (one.right r);
  same = record { format_is = other.same.format_is ∙ one.same.format_is; arguments_are = other.same.arguments_are ∙ one.same.arguments_are; prepared_is = other.same.prepared_is ∙ one.same.prepared_is };
}

-- where no field is read or solved
pub ahead_goes : (frame : PageFrame) (old new : Draft) → new.format.now ≡ old.format.now → new.arguments.now ≡ old.arguments.now → new.fields ≡ old.fields → new.solved.items ≡ old.solved.items → new.told.prepared.now ≡ old.told.prepared.now → GoesOn frame old new
ahead_goes frame old new format_is arguments_are fields_are solved_are prepared_is = record {
  right = λ r. record {
    read = moved frame.methods.now (bits_at frame.context.now) frame.path.now old.format.now new.format.now old.fields new.fields old.arguments.now new.arguments.now old.solved.items new.solved.items
        format_is fields_are arguments_are solved_are r.read;
    prepared = prepared_moved old.format.now new.format.now old.told.prepared.now new.told.prepared.now format_is prepared_is r.prepared;
  };
  same = record { format_is = format_is; arguments_are = arguments_are; prepared_is = prepared_is };
}

nothing_keeps : (s t : Shown) → (out-Shown s).uncompressed ≡ None → (out-Shown s).compressed ≡ None → Keeps s t
nothing_keeps s t up down Uncompressed b at = let wrong : None ≡ Some b = sym up ∙ at in absurd cc
nothing_keeps s t up down Compressed b at = let wrong : None ≡ Some b = sym down ∙ at in absurd cc

pub put_goes : (frame : PageFrame) (i : ℕ) (t : Shown) (old new : Draft) → IsPut i t old new
    → (IsPrepared old.format.now old.told.prepared.now → (d : Field) (u c : List Bool) → slice_get old.format.now.fields i ≡ Some d → IsWhole t u c → FitsOn frame.methods.now (bits_at frame.context.now) frame.path.now (seen_of old) d t) → GoesOn frame old new
put_goes frame i t old new put fits = record {
  right = λ r. record {
    read = moved frame.methods.now (bits_at frame.context.now) frame.path.now old.format.now new.format.now (slice_set old.fields i t) new.fields old.arguments.now new.arguments.now old.solved.items new.solved.items
        put.same.format_is put.fields_are put.same.arguments_are put.solved_are
        (set_read (seen_of old) i put.before t put.before_is (nothing_keeps put.before t put.not_up put.not_down) frame.methods.now (bits_at frame.context.now) frame.path.now old.format.now old.solved.items (fits r.prepared) r.read);
    prepared = prepared_moved old.format.now new.format.now old.told.prepared.now new.told.prepared.now put.same.format_is put.same.prepared_is r.prepared;
  };
  same = put.same;
}

-- a field whose uncompressed side isn't there is not read
pub put_half : (frame : PageFrame) (i : ℕ) (t : Shown) (old new : Draft) → (out-Shown t).uncompressed ≡ None → IsPut i t old new → GoesOn frame old new
put_half frame i t old new up put = put_goes frame i t old new put (λ prepared d u c here whole. let wrong : None ≡ Some u = sym up ∙ whole.uncompressed_is in absurd cc)

pub put_plain : (frame : PageFrame) (i : ℕ) (t : Shown) (u c : List Bool) (field : Field) (old new : Draft) → IsPut i t old new → IsPlain t u c → slice_get old.format.now.fields i ≡ Some field
    → (IsPrepared old.format.now old.told.prepared.now → (s : Shown) → IsPlain s u c → FitsOn frame.methods.now (bits_at frame.context.now) frame.path.now (seen_of old) field s) → GoesOn frame old new
put_plain frame i t u c field old new put plain here reads = put_goes frame i t old new put
    (λ prepared d x y at whole.
    let one : Some field ≡ Some d = sym here ∙ at in let same : field ≡ d = cc in subst (λ z. FitsOn frame.methods.now (bits_at frame.context.now) frame.path.now (seen_of old) z t) same (reads prepared t plain))

-- both sides that what is prepared gives
pub told_in : (frame : PageFrame) (d : Draft) (i : ℕ) (field : Field) (o : Option BothSides)
    → (IsPrepared d.format.now d.told.prepared.now → slice_get d.format.now.fields i ≡ Some field → IfSome o (λ b. ReadsAs frame.methods.now (bits_at frame.context.now) frame.path.now (seen_of d) field b.uncompressed b.compressed))
    → IfSome o (IsReadIn frame d i field)
told_in frame d i field (Some b) told = told
told_in frame d i field None told = tt

-- a field that calls a method
pub put_called : (frame : PageFrame) (i : ℕ) (w : WholePage) (t : Shown) (u c : List Bool) (old new : Draft) → IsPut i t old new → (out-Shown t).uncompressed ≡ Some u → (out-Shown t).compressed ≡ Some c → (out-Shown t).inner ≡ Some w.page
    → u ≡ w.whole.header → c ≡ w.whole.packed → IsCalled frame old i w → GoesOn frame old new
put_called frame i w t u c old new put up down inner u_is c_is called = put_goes frame i t old new put
    (λ prepared d x y at whole.
    let one : Some called.field ≡ Some d = sym called.field_is ∙ at in
    let same : called.field ≡ d = cc in
    subst (λ z. FitsOn frame.methods.now (bits_at frame.context.now) frame.path.now (seen_of old) z t) same
    (λ l bears. called_has frame.methods.now (bits_at frame.context.now) frame.path.now l called.field t called.method called.exprs called.encoding_is record {
      args = called.arguments;
      values_are = values_on l (seen_of old) bears called.exprs called.arguments called.values_are;
      inside = record { page = w.page; page_is = inner; is_page = rw (up, down, u_is, c_is) called.is_page };
    }))

-- ---- what is solved

equated_holds : (side : Subject → Side → List Bool) (a : Assignment) (t : Attribute) (k : Constraint) (e : Expr) (n : ℤ) → equated t k ≡ Some e → val a e ≡ Some n → a.attribute t ≡ Some n → Holds side a k
equated_holds side a t (Enforce (Compare s Equal x y) place) e n h value number =
    first_cases (is_attribute t x) (is_attribute t y) y x e (λ z. val a z ≡ Some n → truth a (Compare s Equal x y) ≡ Some true) h
    (λ b v. equal (val a x) (val a y) (attribute_value a t x b ∙ number) v) (λ b v. equal (val a x) (val a y) v (attribute_value a t y b ∙ number)) value
  where
    equal : (o o' : Option ℤ) → o ≡ Some n → o' ≡ Some n → both (λ v w. Some (compare Equal v w)) o o' ≡ Some true
    equal o o' one other = (λ i. both (λ v w. Some (compare Equal v w)) (one i) (other i)) ∙ ap Some (number_self n)
equated_holds side a t _ e n h value number = absurd (cc)

last_or : (js : List ℕ) (j k n : ℕ) → slice_get (js ++ j ∷ []) n ≡ Some k → (P : ℕ → Type 0) → ((m : ℕ) → slice_get js m ≡ Some k → P k) → P j → P k
last_or [] j k zero at P old new = let one : Some j ≡ Some k = at in let same : j ≡ k = cc in subst P same new
last_or [] j k (suc n) at P old new = let wrong : None ≡ Some k = at in absurd cc
last_or (x ∷ xs) j k zero at P old new = old zero at
last_or (x ∷ xs) j k (suc n) at P old new = last_or xs j k n at P (λ m here. old (suc m) here) new

-- what was solved
pub solved_goes : (frame : PageFrame) (i j : ℕ) (e : Expr) (bits : List Bool) (n : ℕ) (old mid new : Draft) → GoesOn frame old mid → HasValue i bits old mid → num bits ≡ n → val (numbers_seen (seen_of old)) e ≡ Some (pos n)
    → new.format.now ≡ mid.format.now → new.arguments.now ≡ mid.arguments.now → new.fields ≡ mid.fields → new.solved.items ≡ mid.solved.items ++ j ∷ [] → new.told.prepared.now ≡ mid.told.prepared.now → IsSolved frame i j e old new
solved_goes frame i j e bits n old mid new one has spelled value format_is arguments_are fields_are solved_are prepared_is constraint there given =
    record {
      right = λ r. record {
        read = moved frame.methods.now (bits_at frame.context.now) frame.path.now mid.format.now new.format.now mid.fields new.fields mid.arguments.now new.arguments.now (mid.solved.items ++ j ∷ []) new.solved.items
            format_is fields_are arguments_are solved_are (with_one (one.right r).read);
        prepared = prepared_moved mid.format.now new.format.now mid.told.prepared.now new.told.prepared.now format_is prepared_is (one.right r).prepared;
      };
      same = record { format_is = format_is ∙ one.same.format_is; arguments_are = arguments_are ∙ one.same.arguments_are; prepared_is = prepared_is ∙ one.same.prepared_is };
    }
  where
    here_set : {A : Type 0} (xs : List A) (k : ℕ) (x y : A) → slice_get xs k ≡ Some x → slice_get (slice_set xs k y) k ≡ Some y
    here_set [] k x y at = let wrong : None ≡ Some x = at in absurd cc
    here_set (z ∷ xs) zero x y at = refl
    here_set (z ∷ xs) (suc k) x y at = here_set xs k x y at

    set_side : shown_side (slice_get (slice_set old.fields i has.after) i) Uncompressed ≡ Some bits
    set_side = ap (λ s. shown_side s Uncompressed) (here_set old.fields i has.put.before has.after has.put.before_is) ∙ has.plain.sides_are.uncompressed_is

    moved_side : (x : Subject) (side : Side) (b : List Bool) → seen_side (seen_with (seen_of old) i has.after) x side ≡ Some b → seen_side (seen_of mid) x side ≡ Some b
    moved_side (subject.Field k) side b at = ap (λ ss. shown_side (slice_get ss k) side) has.put.fields_are ∙ at
    moved_side subject.This Uncompressed b at = at
    moved_side subject.This Compressed b at = at

    holds : HoldsOn (seen_of mid) constraint
    holds l bears =
        let v = seen_of old in
        let put = has.put in
        let bears_set : Bears l (seen_with v i has.after) = record {
          arguments_are = bears.arguments_are ∙ put.same.arguments_are;
          sides_are = λ x side b at. bears.sides_are x side b (moved_side x side b at);
        } in
        let before : Bears l v = bears_less v i put.before has.after put.before_is (nothing_keeps put.before has.after put.not_up put.not_down) l bears_set in
        let bits_are : side_in l (subject.Field i) Uncompressed ≡ bits = bears_set.sides_are (subject.Field i) Uncompressed bits set_side in
        equated_holds (side_in l) (numbers_in l) (attribute_of i Uncompressed measure.Value) constraint e (pos n) given (value_on l v before e (pos n) value)
        (ap (λ (b : List Bool). Some (pos (num b))) bits_are ∙ ap (λ k. Some (pos k)) spelled)

    with_one : AreRead frame.methods.now (bits_at frame.context.now) frame.path.now mid.format.now (seen_of mid) mid.solved.items → AreRead frame.methods.now (bits_at frame.context.now) frame.path.now mid.format.now (seen_of mid) (mid.solved.items ++ j ∷ [])
    with_one r = record {
      count = r.count;
      fields = r.fields;
      constraints = λ m k c at is. last_or mid.solved.items j k m at (λ x. slice_get mid.format.now.constraints x ≡ Some c → HoldsOn (seen_of mid) c) (λ p found. r.constraints p k c found)
          (λ first. let one_is : Some constraint ≡ Some c = sym there ∙ ap (λ f. slice_get f.constraints j) (sym has.put.same.format_is) ∙ first in let same : constraint ≡ c = cc in subst (HoldsOn (seen_of mid)) same holds) is;
    }

pub half_up : (c : Option (List Bool)) (o : Option Page) → (out-Shown (roll-Shown record { uncompressed = None; compressed = c; inner = o })).uncompressed ≡ None
half_up c o = ap (λ x. x.uncompressed) (out-roll-Shown record { uncompressed = None; compressed = c; inner = o })

pub plain_shown : (u c : List Bool) → u ≡ [] → IsPlain (roll-Shown record { uncompressed = Some u; compressed = Some c; inner = None }) [] c
plain_shown u c none =
    let out = out-roll-Shown record { uncompressed = Some u; compressed = Some c; inner = None } in
    record { sides_are = record { uncompressed_is = ap (λ x. x.uncompressed) out ∙ ap Some none; compressed_is = ap (λ x. x.compressed) out }; inner_is = ap (λ x. x.inner) out }

pub whole_shown : (u c : List Bool) (p : Page)
    → let s = roll-Shown record { uncompressed = Some u; compressed = Some c; inner = Some p } in ((out-Shown s).uncompressed ≡ Some u) × ((out-Shown s).compressed ≡ Some c) × ((out-Shown s).inner ≡ Some p)
whole_shown u c p =
    let out = out-roll-Shown record { uncompressed = Some u; compressed = Some c; inner = Some p } in
    (ap (λ x. x.uncompressed) out, ap (λ x. x.compressed) out, ap (λ x. x.inner) out)
