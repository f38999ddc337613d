-- Two fillings that begin a site and have one number there are one.
use Rattle.std.proofs.Common.{◌≡◌, refl, sym, ◌∙◌, ap, subst, ℕ, zero, suc, ◌+◌, ◌<◌, Bool, true, false, List, [], ◌∷◌, ◌++◌, length, take, drop, arith}
use Rattle.std.specs.Prelude.{Option, Some, None, ℤ, slice_get, option_and_then, ◌&&◌, ◌||◌, not}
use Rattle.std.proofs.lemmas.List.{append-nil, append_cancel_left}
use Rattle.std.proofs.lemmas.Option.{same_Some}
use Rattle.sem_expr.specs.declared.expr.Side.TheVariants.{Uncompressed, Compressed}
use Rattle.sem_expr.specs.declared.expr.Side.{Side}
use Rattle.sem_expr.specs.declared.expr.Subject.{Subject}
use Rattle.sem_expr.specs.declared.expr.Expr.{Expr}
use Rattle.sem_expr.specs.Values.{Assignment}
use Rattle.sem_profile.specs.declared.profile.Declared.{Declared}
use Rattle.sem_profile.specs.declared.profile.Encoding.{Encoding}
use Rattle.sem_profile.specs.declared.profile.Encoding.TheVariants as encoding
use Rattle.sem_profile.specs.declared.profile.Field.{Field}
use Rattle.sem_profile.specs.declared.profile.Format.{Format}
use Rattle.sem_profile.specs.declared.profile.Method.{Method}
use Rattle.sem_profile.specs.declared.profile.FormatSizes.{FormatSizes}
use Rattle.sem_profile.specs.declared.profile.MethodSizes.{MethodSizes}
use Rattle.sem_profile.specs.Outcome.{AreSizes}
use Rattle.sem_bits.proofs.OctetsHeld.{split_same}
use Rattle.sem_filling.specs.declared.filling.AskedValue.{AskedValue}
use Rattle.sem_filling.specs.declared.filling.Filling.{Filling, out-Filling}
use Rattle.sem_filling.specs.declared.filling.FilledField.{FilledField}
use Rattle.sem_filling.specs.Fillings.{is_header, header, header_bits, packed, level, asked_values, inner_of, fields_of, inner_at}
use Rattle.sem_filling.specs.Entries.{Path, below}
use Rattle.sem_filling.proofs.FillingsUnique.{filling_same, field_same, list_same, also_at}
use Rattle.sem_filling.specs.Fits.{Context, Fits, FieldFits, LevelFits, field_side, side_of, assigned, format_at, vals}
use Rattle.sem_filling.specs.Fits as fit
use Rattle.sem_filling.proofs.FitsInverted.{parts, called_parts, length-fields}
use Rattle.sem_filling.proofs.FitsSides.{header_splits}
use Rattle.sem_filling.proofs.FitsSized.{and_then_some, map_some}
use Rattle.cert_types.specs.declared.certificate.Direction.TheVariants.{Write}
use Rattle.cert_types.specs.declared.certificate.Step.{Step}
use Rattle.cert_types.specs.declared.certificate.Step.TheVariants.{Take, Call, LibraryUp, LibraryDown, MethodLength, ConstraintLength, Solve, Choose, Ask}
use Rattle.cert_types.specs.declared.rule.Fact.{Fact}
use Rattle.cert_types.specs.declared.rule.Fact.TheVariants.{LengthOf, BitsOf, Done}
use Rattle.cert_types.specs.declared.rule.Rule.{Rule}
use Rattle.cert_types.specs.Kept.{Entries}
use Rattle.cert_rules.specs.Counts.{callee}
use Rattle.cert_rules.specs.Facts.{same_fact, has, has_all, has_none, of_header, of_headers, inputs_of_all}
use Rattle.cert_rules.specs.Plans.{rule_of, enabled, learnt, known_after, all_enabled, known_at_start, wanted, way_of, IsPlan}
use Rattle.cert_rules.specs.Rules.{rule, rule_once, is_call, when, where_true, all_of, headers_before, is_headless, own_bits, in_header, choice, common_rule, write_take, write_call, write_rule}
use Rattle.cert_rules.specs.Views.{View, view, side_at, AgreeAll}
use Rattle.cert_rules.proofs.ViewsAgree.{and_true, not_true, when_some, same_is, side_is, inner_is}
use Rattle.cert_rules.proofs.ViewsInputs.{vals_same}
use Rattle.cert_rules.proofs.ViewsMethods.{num_same}
use Rattle.cert_rules.proofs.Plans.{all_learnt}
use Rattle.cert_types.specs.declared.certificate.Version.TheVariants.{Two}
use Rattle.sem_filling.proofs.Bounding.{placed, lie-in-bounds}
use Rattle.cert_rules.proofs.ViewsDeterminate.{within_bounds}
use Rattle.cert_rules.proofs.RulesVersions.{plans_go_on}
use Rattle.cert_rules.proofs.Steps.{Twins, both_at, unfilled, at_the_start, declared_at, common}
use Rattle.cert_candidates.specs.Codes.{number, numbers_in, called_at, step_digit}
use Rattle.cert_candidates.specs.Digits.{HasRead}
use Rattle.cert_candidates.proofs.CodesFitting.{is_candidate, chosen_long, write_by}
use Rattle.cert_candidates.proofs.Reading as digits
use Rattle.cert_candidates.specs.Writing.{IsChecked, AsksNothing, asked_before}
use Rattle.cert_candidates.specs.WritingLaws.{CallsAskNothing, OneNumbered}
use Rattle.cert_candidates.proofs.Knowing.{NoneDone, inputs_all_plain, rule_plain, start_plain}
use Rattle.cert_candidates.proofs.WritingSteps.{parted, stands, front_same, asked_at, headless, asks_none}

-- ---- what two fillings have in common

-- two views agree on what a fact tells in writing: of a field that is done the uncompressed side, and the filling inside
abbrev Told : View → View → Fact → Type 0
Told f g (LengthOf side i) = length (side_at f i side) ≡ length (side_at g i side)
Told f g (BitsOf side i) = side_at f i side ≡ side_at g i side
Told f g (Done i) = (side_at f i Uncompressed ≡ side_at g i Uncompressed) × (f.inner i ≡ g.inner i)

-- and on all of several
abbrev AllTold : View → View → List Fact → Type 0
AllTold f g [] = Unit {0}
AllTold f g (x ∷ xs) = Told f g x × AllTold f g xs

module _ (f g : View) where
  first_or_later : (x y : Fact) (rest b : Bool) → same_fact y x ≡ b → (b || rest) ≡ true → Told f g y → (rest ≡ true → Told f g x) → Told f g x
  first_or_later x y rest true s e here there = subst (Told f g) (same_is y x s) here
  first_or_later x y rest false s e here there = there e

  told_has : (known : List Fact) (x : Fact) → has known x ≡ true → AllTold f g known → Told f g x
  told_has [] x e h = absurd (cc)
  told_has (y ∷ ys) x e h = first_or_later x y (has ys x) (same_fact y x) refl e h.0 (λ e. told_has ys x e h.1)

  told_has_all : (known xs : List Fact) → has_all known xs ≡ true → AllTold f g known → AllTold f g xs
  told_has_all known [] e h = tt
  told_has_all known (x ∷ xs) e h =
      let b = and_true (has known x) (has_all known xs) e in (told_has known x b.0 h, told_has_all known xs b.1 h)

  told_left : (xs ys : List Fact) → AllTold f g (xs ++ ys) → AllTold f g xs
  told_left [] ys h = tt
  told_left (x ∷ xs) ys h = (h.0, told_left xs ys h.1)

  told_right : (xs ys : List Fact) → AllTold f g (xs ++ ys) → AllTold f g ys
  told_right [] ys h = h
  told_right (x ∷ xs) ys h = told_right xs ys h.1

  told_append : (xs ys : List Fact) → AllTold f g xs → AllTold f g ys → AllTold f g (xs ++ ys)
  told_append [] ys h k = k
  told_append (x ∷ xs) ys h k = (h.0, told_append xs ys h.1 k)

  -- on other facts the two directions agree alike
  to_both : (xs : List Fact) → NoneDone xs → AllTold f g xs → AgreeAll f g xs
  to_both [] plain h = tt
  to_both (LengthOf side i ∷ xs) plain h = (h.0, to_both xs plain.1 h.1)
  to_both (BitsOf side i ∷ xs) plain h = (h.0, to_both xs plain.1 h.1)
  to_both (Done i ∷ xs) plain h = absurd (plain.0)

  from_both : (xs : List Fact) → NoneDone xs → AgreeAll f g xs → AllTold f g xs
  from_both [] plain h = tt
  from_both (LengthOf side i ∷ xs) plain h = (h.0, from_both xs plain.1 h.1)
  from_both (BitsOf side i ∷ xs) plain h = (h.0, from_both xs plain.1 h.1)
  from_both (Done i ∷ xs) plain h = absurd (plain.0)

  headers_done : (n : ℕ) (ds : List Field) (i : ℕ) → AllTold f g (of_headers Done n (take i ds)) → (j : ℕ) (d : Field) → slice_get ds j ≡ Some d → is_header d.declared.part ≡ true → j < i →
      (k : ℕ) → n + j ≡ k → Told f g (Done k)
  headers_done n ds zero h j d e is l k at = absurd (omega (arith, l))
  headers_done n [] (suc i) h j d e is l k at = absurd (cc)
  headers_done n (x ∷ ds) (suc i) h zero d e is l k at =
      let one : x ≡ d = cc in
      let at_header : is_header x.declared.part ≡ true = ap (λ (z : Field). is_header z.declared.part) one ∙ is in
      let here : n ≡ k = omega (arith, at) in
      let all : AllTold f g (Done n ∷ of_headers Done (suc n) (take i ds)) = subst (λ b. AllTold f g (of_header b (Done n) (of_headers Done (suc n) (take i ds)))) at_header h in
      subst (λ z. Told f g (Done z)) here all.0
  headers_done n (x ∷ ds) (suc i) h (suc j) d e is l k at =
      headers_done (suc n) ds i (later (is_header x.declared.part) h) j d e is (omega (arith, l)) k (omega (arith, at))
    where
      later : (b : Bool) → AllTold f g (of_header b (Done n) (of_headers Done (suc n) (take i ds))) → AllTold f g (of_headers Done (suc n) (take i ds))
      later true h = h.1
      later false h = h

call_rule_parts : (table : List MethodSizes) (format : Format) (i : ℕ) (b : Bool) (e : Encoding) (r : Rule) → write_call table format i b e ≡ Some r → (k : ℕ) × (es : List Expr) × (e ≡ encoding.Call k es) ×
    (inputs_of_all format es ++ in_header b (headers_before format i) (own_bits (is_headless (slice_get table k)) i) ≡ r.needs) × (all_of i ≡ r.gives)
call_rule_parts table format i b (encoding.Call k es) r e =
    let same : rule_once i (inputs_of_all format es ++ in_header b (headers_before format i) (own_bits (is_headless (slice_get table k)) i)) (all_of i) ≡ r = cc in
    (k, es, refl, ap (λ (z : Rule). z.needs) same, ap (λ (z : Rule). z.gives) same)
call_rule_parts table format i b encoding.Bare r e = absurd (cc)
call_rule_parts table format i b (encoding.Library l) r e = absurd (cc)

-- with the header at the front of bits and the same asked values no other filling has its number
abbrev OnlyNumbered : List Method → Entries → List ℕ → Context → ℕ → List ℤ → Path → Filling → Type 0
OnlyNumbered methods cert counts ctx k args path f = (g : Filling) → Fits methods ctx k args path g → (r r' : List Bool) → header f ++ r ≡ header g ++ r' → asked_values (level f) ≡ asked_values (level g) →
    number methods cert counts f k ≡ number methods cert counts g k → f ≡ g

-- ---- one level

module _ (methods : List Method) (table : List MethodSizes) (cert : Entries) (counts : List ℕ) (ctx : Context) (args : List ℤ) (path : Path) (sizes : FormatSizes) (format : Format) (f g : Filling) where
  abbrev A : Filling → Assignment
  A z = assigned format.listing (level z) args

  abbrev own : Filling → ℕ → List Bool
  own z i = side_at (view z) i Uncompressed

  abbrev Same : List Fact → Type 0
  Same xs = AllTold (view f) (view g) xs

  -- the step has one digit in both
  abbrev SameDigit : Step → Type 0
  SameDigit s = step_digit format (numbers_in methods cert counts f) s ≡ step_digit format (numbers_in methods cert counts g) s

  -- two fillings that fit at one place, with their headers at the front of the same bits and the same asked values, where what calls of the first hold is alone
  record Pair : Type 0 where
    twins : Twins methods ctx args path sizes format f g
    are_sizes : AreSizes methods table
    asks : (i : ℕ) (d : Field) (j : ℕ) (es : List Expr) → slice_get format.fields i ≡ Some d → d.encoding ≡ encoding.Call j es → AsksNothing methods j
    only_one : (i : ℕ) (d : Field) (x : FilledField) → slice_get format.fields i ≡ Some d → slice_get (fields_of f) i ≡ Some x →
        (k : ℕ) (es : List Expr) → d.encoding ≡ encoding.Call k es →
        (args : List ℤ) (inner : Filling) → vals (A f) es ≡ Some args → inner_of x ≡ Some inner → OnlyNumbered methods cert counts ctx k args (below path d.declared.name) inner
    rest_f : List Bool
    rest_g : List Bool
    front : header f ++ rest_f ≡ header g ++ rest_g
    asked : asked_values (level f) ≡ asked_values (level g)

  -- these bits begin the same bits
  record Begun (x y : List Bool) : Type 0 where
    rest : List Bool
    other : List Bool
    same : x ++ rest ≡ y ++ other

  next : Pair → (i : ℕ) (d : Field) → slice_get format.fields i ≡ Some d → is_header d.declared.part ≡ true → Same (headers_before format i) → Begun (own f i) (own g i)
  next p i d e is before =
      let bits = header f ++ p.rest_f in
      let df = p.twins.level_f.shaped.declared_is in
      let dg = p.twins.level_g.shaped.declared_is in
      let s = stands (level f) format.fields i d df e in
      let t = stands (level g) format.fields i d dg e in
      let s_header : is_header s.s.declared.part ≡ true = ap (λ (z : Declared). is_header z.part) s.declared ∙ is in
      let t_header : is_header t.s.declared.part ≡ true = ap (λ (z : Declared). is_header z.part) t.declared ∙ is in
      let whole_f = header_splits f (take i (level f)) (drop (suc i) (level f)) s.s bits p.rest_f (parted (level f) i s.s s.at) s_header refl in
      let whole_g = header_splits g (take i (level g)) (drop (suc i) (level g)) t.s bits p.rest_g (parted (level g) i t.s t.at) t_header p.front in
      let fronts = front_same format.fields (level f) (level g) df dg i (λ j d e is l. (headers_done (view f) (view g) 0 format.fields i before j d e is l j (omega arith)).0) in
      let here : own f i ≡ s.s.uncompressed = ap (λ o. field_side o Uncompressed) s.at in
      let there : own g i ≡ t.s.uncompressed = ap (λ o. field_side o Uncompressed) t.at in
      let rest = header_bits (drop (suc i) (level f)) ++ p.rest_f in
      let other = header_bits (drop (suc i) (level g)) ++ p.rest_g in
      let all : header_bits (take i (level f)) ++ (s.s.uncompressed ++ rest) ≡ header_bits (take i (level f)) ++ (t.s.uncompressed ++ other) =
      sym whole_f ∙ (whole_g ∙ ap (λ z. z ++ (t.s.uncompressed ++ other)) (sym fronts)) in
      record {
        rest = rest;
        other = other;
        same = ap (λ z. z ++ rest) here ∙ (append_cancel_left (header_bits (take i (level f))) (s.s.uncompressed ++ rest) (t.s.uncompressed ++ other) all ∙ ap (λ z. z ++ other) (sym there));
      }

  take_step : Pair → (i : ℕ) (d : Field) (r : Rule) → slice_get format.fields i ≡ Some d → write_take format i d ≡ Some r → Same r.needs → Same r.gives
  take_step p i d r e t n =
      let w = when_some (is_header d.declared.part && not (is_call d.encoding)) (rule_once i (LengthOf Uncompressed i ∷ headers_before format i) (BitsOf Uncompressed i ∷ Done i ∷ [])) r t in
      let b = and_true (is_header d.declared.part) (not (is_call d.encoding)) w.0 in
      let m : Same (LengthOf Uncompressed i ∷ headers_before format i) = subst (λ (z : Rule). Same z.needs) (sym w.1) n in
      let here = next p i d e b.0 m.1 in
      let same = (split_same (own f i) (own g i) here.rest here.other m.0 here.same).0 in
      let q = both_at methods ctx args path sizes format f g p.twins i d e in
      let no_call = not_true (is_call d.encoding) b.1 in
      let inner : inner_at f i ≡ inner_at g i =
      inner_is f i q.x q.at_f ∙ (unfilled (p.twins.each_f i d q.x e q.at_f) no_call ∙ sym (inner_is g i q.y q.at_g ∙ unfilled (p.twins.each_g i d q.y e q.at_g) no_call)) in
      subst (λ (z : Rule). Same z.gives) w.1 (same, ((same, inner), tt))

  -- the headers of the two inner fillings begin the same bits
  begun : Pair → (i : ℕ) (d : Field) → slice_get format.fields i ≡ Some d → (j : ℕ) (x y : Filling) → own f i ≡ header x → own g i ≡ header y →
      (is_headless (slice_get table j) ≡ true → (header x ≡ []) × (header y ≡ [])) → (b : Bool) → is_header d.declared.part ≡ b →
      Same (in_header b (headers_before format i) (own_bits (is_headless (slice_get table j)) i)) → Begun (header x) (header y)
  begun p i d e j x y ux uy none true is n =
      let here = next p i d e is n in
      record { rest = here.rest; other = here.other; same = ap (λ z. z ++ here.rest) (sym ux) ∙ (here.same ∙ ap (λ z. z ++ here.other) uy) }
  begun p i d e j x y ux uy none false is n = record { rest = []; other = []; same = ap (λ z. z ++ []) (by (is_headless (slice_get table j)) refl n) }
    where
      by : (b : Bool) → is_headless (slice_get table j) ≡ b → Same (own_bits b i) → header x ≡ header y
      by true e n = let h = none e in h.0 ∙ sym h.1
      by false e n = sym ux ∙ (n.0 ∙ uy)

  call_step : Pair → (i : ℕ) (d : Field) (r : Rule) → slice_get format.fields i ≡ Some d → write_call table format i (is_header d.declared.part) d.encoding ≡ Some r → SameDigit (Call i) → Same r.needs → Same r.gives
  call_step p i d r e t digit n =
      let c = call_rule_parts table format i (is_header d.declared.part) d.encoding r t in
      let m = subst Same (sym c.3) n in
      let order = in_header (is_header d.declared.part) (headers_before format i) (own_bits (is_headless (slice_get table c.0)) i) in
      let inputs_agree = to_both (view f) (view g) (inputs_of_all format c.1) (inputs_all_plain format c.1) (told_left (view f) (view g) (inputs_of_all format c.1) order m) in
      let q = both_at methods ctx args path sizes format f g p.twins i d e in
      let cf = called_parts methods ctx (p.twins.each_f i d q.x e q.at_f) c.0 c.1 c.2 in
      let cg = called_parts methods ctx (p.twins.each_g i d q.y e q.at_g) c.0 c.1 c.2 in
      let values : vals (A f) c.1 ≡ vals (A g) c.1 = vals_same (view f) (view g) format p.twins.level_f.shaped.declared_is p.twins.level_g.shaped.declared_is args c.1 inputs_agree in
      let args_same : cg.args ≡ cf.args = let x = cf.is_args in let y = cg.is_args in cc in
      let fits_g : Fits methods ctx c.0 cf.args (below path d.declared.name) cg.inner = subst (λ z. Fits methods ctx c.0 z (below path d.declared.name) cg.inner) args_same cg.inner_fits in
      let cx : side_at (view f) i Compressed ≡ packed cf.inner = side_is f i q.x Compressed q.at_f ∙ cf.packed_is in
      let cy : side_at (view g) i Compressed ≡ packed cg.inner = side_is g i q.y Compressed q.at_g ∙ cg.packed_is in
      let ux : own f i ≡ header cf.inner = side_is f i q.x Uncompressed q.at_f ∙ cf.header_is in
      let uy : own g i ≡ header cg.inner = side_is g i q.y Uncompressed q.at_g ∙ cg.header_is in
      let start = begun p i d e c.0 cf.inner cg.inner ux uy
      (λ none. (headless methods ctx table p.are_sizes c.0 cf.args (below path d.declared.name) cf.inner cf.inner_fits none, headless methods ctx table p.are_sizes c.0 cf.args (below path d.declared.name) cg.inner fits_g none))
      (is_header d.declared.part) refl (told_right (view f) (view g) (inputs_of_all format c.1) order m) in
      let asks = p.asks i d c.0 c.1 e c.2 in
      let asked : asked_values (level cf.inner) ≡ asked_values (level cg.inner) =
      asks_none methods ctx c.0 cf.args (below path d.declared.name) cf.inner cf.inner_fits asks ∙ sym (asks_none methods ctx c.0 cf.args (below path d.declared.name) cg.inner fits_g asks) in
      let in_f : inner_at f i ≡ Some cf.inner = inner_is f i q.x q.at_f ∙ cf.is_inner in
      let in_g : inner_at g i ≡ Some cg.inner = inner_is g i q.y q.at_g ∙ cg.is_inner in
      let called : called_at format i ≡ Some c.0 = ap (option_and_then (λ (z : Field). callee z.encoding)) e ∙ ap callee c.2 in
      let numbered : number methods cert counts cf.inner c.0 ≡ number methods cert counts cg.inner c.0 =
      sym (digits.call methods cert counts format f i c.0 cf.inner called in_f) ∙ (digit ∙ digits.call methods cert counts format g i c.0 cg.inner called in_g) in
      let same : cf.inner ≡ cg.inner = p.only_one i d q.x e q.at_f c.0 c.1 c.2 cf.args cf.inner cf.is_args cf.is_inner cg.inner fits_g start.rest start.other start.same asked numbered in
      let u = ux ∙ (ap header same ∙ sym uy) in
      let v = cx ∙ (ap packed same ∙ sym cy) in
      let inner : inner_at f i ≡ inner_at g i = in_f ∙ (ap Some same ∙ sym in_g) in
      subst Same c.4 (ap length u, (u, (ap length v, (v, ((u, inner), tt)))))

  choose_step : Pair → (i n : ℕ) → option_and_then (choice format i) (slice_get format.fields i) ≡ Some n → SameDigit (Choose i) → own f i ≡ own g i
  choose_step p i n e digit =
      num_same (own f i) (own g i)
      (chosen_long methods table ctx args path format f p.twins.level_f p.twins.each_f i n e ∙ sym (chosen_long methods table ctx args path format g p.twins.level_g p.twins.each_g i n e))
      (sym (digits.choice methods cert counts format f i) ∙ (digit ∙ digits.choice methods cert counts format g i))

  ask_step : Pair → (i : ℕ) (d : Field) → slice_get format.fields i ≡ Some d → d.declared.asked ≡ true → own f i ≡ own g i
  ask_step p i d e is =
      let x = asked_at format.fields (level f) p.twins.level_f.shaped.declared_is i d e is in
      let y = asked_at format.fields (level g) p.twins.level_g.shaped.declared_is i d e is in
      ap (λ (z : AskedValue). z.bits) (same_Some _ _ (sym x ∙ (ap (λ z. slice_get z (asked_before format i)) p.asked ∙ y)))

  common_step : Pair → (s : Step) (r : Rule) → common_rule Two sizes format s ≡ Some r → Same r.needs → Same r.gives
  common_step p s r e n =
      let plain = rule_plain sizes format s r e in
      from_both (view f) (view g) r.gives plain.gives (common methods ctx args path sizes format f g p.twins Two s r e (to_both (view f) (view g) r.needs plain.needs n))

  step : Pair → (s : Step) (r : Rule) → write_rule Two table sizes format s ≡ Some r → SameDigit s → Same r.needs → Same r.gives
  step p (Take i) r e digit n = let a = and_then_some (write_take format i) (slice_get format.fields i) r e in take_step p i a.0 r a.1 a.2 n
  step p (Call i) r e digit n =
      let a = and_then_some (λ d. write_call table format i (is_header d.declared.part) d.encoding) (slice_get format.fields i) r e in
      call_step p i a.0 r a.1 a.2 digit n
  step p (Choose i) r e digit n =
      let m = map_some (λ n. rule [] (LengthOf Uncompressed i ∷ BitsOf Uncompressed i ∷ [])) (option_and_then (choice format i) (slice_get format.fields i)) r e in
      let same = choose_step p i m.0 m.1 digit in
      subst (λ (z : Rule). Same z.gives) m.2 (ap length same, (same, tt))
  step p (Ask i) r e digit n =
      let a = and_then_some (λ d. when d.declared.asked (rule [] (LengthOf Uncompressed i ∷ BitsOf Uncompressed i ∷ []))) (slice_get format.fields i) r e in
      let w = when_some a.0.declared.asked (rule [] (LengthOf Uncompressed i ∷ BitsOf Uncompressed i ∷ [])) r a.2 in
      let same = ask_step p i a.0 a.1 w.0 in
      subst (λ (z : Rule). Same z.gives) w.1 (ap length same, (same, tt))
  step p (LibraryUp i) r e digit n = common_step p (LibraryUp i) r e n
  step p (LibraryDown i) r e digit n = common_step p (LibraryDown i) r e n
  step p (MethodLength i side) r e digit n = common_step p (MethodLength i side) r e n
  step p (ConstraintLength i side k) r e digit n = common_step p (ConstraintLength i side k) r e n
  step p (Solve i k) r e digit n = common_step p (Solve i k) r e n

  -- ---- a plan

  one_step : Pair → (s : Step) (known : List Fact) (o : Option Rule) → write_rule Two table sizes format s ≡ o → enabled known o ≡ true → SameDigit s → Same known → Same (learnt o)
  one_step p s known None is e digit h = absurd (cc)
  one_step p s known (Some r) is e digit h =
      let b = and_true (has_all known r.needs) (has_none known r.absent) e in
      step p s r is digit (told_has_all (view f) (view g) known r.needs b.0 h)

  plan : Pair → (steps : List Step) (known : List Fact) → all_enabled (rule_of Two Write table sizes format) known steps ≡ true → ((j : ℕ) (s : Step) → slice_get steps j ≡ Some s → SameDigit s) → Same known →
      Same (known_after (rule_of Two Write table sizes format) known steps)
  plan p [] known e digit h = h
  plan p (s ∷ steps) known e digit h =
      let b = and_true (enabled known (write_rule Two table sizes format s)) (all_enabled (rule_of Two Write table sizes format) (learnt (write_rule Two table sizes format s) ++ known) steps) e in
      plan p steps (learnt (write_rule Two table sizes format s) ++ known) b.1 (λ j. digit (suc j))
      (told_append (view f) (view g) (learnt (write_rule Two table sizes format s)) known (one_step p s known (write_rule Two table sizes format s) refl b.0 (digit zero s refl) h) h)

  -- ---- its end

  was_done : (i : ℕ) (b called : Bool) → called ≡ true → Same (where_true (b || called) (Done i ∷ [])) → Same (Done i ∷ [])
  was_done i true called e h = h
  was_done i false true e h = h
  was_done i false false e h = absurd (cc)

  module _ (p : Pair) (steps : List Step) (valid : IsPlan (way_of Two Write table sizes format) steps) (digit : (j : ℕ) (s : Step) → slice_get steps j ≡ Some s → SameDigit s) where
    field_at : (i : ℕ) (d : Field) (x y : FilledField) → slice_get format.fields i ≡ Some d → slice_get (fields_of f) i ≡ Some x → slice_get (fields_of g) i ≡ Some y → x ≡ y
    field_at i d x y e ex ey =
        let known = known_after (rule_of Two Write table sizes format) (known_at_start format) steps in
        let start = from_both (view f) (view g) (known_at_start format) (start_plain format.listing 0 format.fields) (at_the_start methods ctx args path sizes format f g p.twins 0 format.fields) in
        let all = plan p steps (known_at_start format) valid.enabled digit start in
        let hu = told_has_all (view f) (view g) known (wanted Write format i d Uncompressed) (all_learnt Write format known valid.complete i d Uncompressed e) all in
        let hc = told_has_all (view f) (view g) known (wanted Write format i d Compressed) (all_learnt Write format known valid.complete i d Compressed e) all in
        let u = sym (side_is f i x Uncompressed ex) ∙ (hu.0 ∙ side_is g i y Uncompressed ey) in
        let c = sym (side_is f i x Compressed ex) ∙ (hc.0 ∙ side_is g i y Compressed ey) in
        let name = declared_at methods ctx args path sizes format f g f p.twins.level_f i d x e ex ∙ sym (declared_at methods ctx args path sizes format f g g p.twins.level_g i d y e ey) in
        field_same x y (λ j. record { declared = name j; uncompressed = u j; compressed = c j }) (inner_same (is_call d.encoding) refl hu.1) where
          inner_same : (b : Bool) → is_call d.encoding ≡ b → Same (where_true (is_header d.declared.part || is_call d.encoding) (Done i ∷ [])) → inner_of x ≡ inner_of y
          inner_same true e' h = let w = was_done i (is_header d.declared.part) (is_call d.encoding) e' h in sym (inner_is f i x ex) ∙ (w.0.1 ∙ inner_is g i y ey)
          inner_same false e' h = unfilled (p.twins.each_f i d x e ex) e' ∙ sym (unfilled (p.twins.each_g i d y e ey) e')

    same_fields : fields_of f ≡ fields_of g
    same_fields =
        let m = length-fields format f p.twins.level_f.shaped in
        let n = length-fields format g p.twins.level_g.shaped in
        list_same (fields_of f) (fields_of g) (m ∙ sym n) (λ i x y e e'.
        let d = also_at (fields_of f) format.fields i x m e in field_at i d.0 x y d.1 e e')

-- ---- all levels

module _ (methods : List Method) (table : List MethodSizes) (top : ℕ) (cert : Entries) (counts : List ℕ) (base : IsChecked methods table top cert counts) (asks : CallsAskNothing methods) (ctx : Context) where
  mutual
    only_one : {k : ℕ} {args : List ℤ} {path : Path} {f : Filling} → Fits methods ctx k args path f → OnlyNumbered methods cert counts ctx k args path f
    only_one {k} {args} {path} {f} (fit.fits format is fitting each) g fits_g r r' front asked numbered =
        let n = (out-Filling f).format in
        let cf = is_candidate methods table top base.version cert base.are_sizes base.valid counts ctx (fit.fits {args = args} {path = path} format is fitting each) in
        let cg = is_candidate methods table top base.version cert base.are_sizes base.valid counts ctx fits_g in
        let place = placed methods table base.are_sizes k n format is in
        let w = write_by methods table top base.version cert base.are_sizes base.valid k n format is place.whole place.sizes place.whole_at place.sizes_at in
        let lie = (lie-in-bounds methods table base.are_sizes ctx k args path f (fit.fits format is fitting each) place.whole place.sizes place.whole_at place.sizes_at).0 in
        let read : HasRead methods cert counts k n format (number methods cert counts f k) [] f =
        record { format_is = refl; at = is; plans = w.0; plans_are = w.1; done = w.0.write; so_far = sym (append-nil w.0.write); number_is = omega arith } in
        let shared = digits.shared methods cert counts base.are_counts k n format (number methods cert counts f k) [] f g cf cg read (record { from = omega (arith, numbered); to = omega (arith, numbered) }) in
        let leaf : n ≡ (out-Filling g).format = sym shared.0.format_is in
        let h = parts fits_g in
        let same_format : h.format ≡ format = same_Some h.format format (sym h.is_format ∙ (ap (format_at methods k) (sym leaf) ∙ is)) in
        let level_g = subst (λ z. LevelFits z g args) same_format h.level_fits in
        let each_g = subst (λ (z : Format). (i : ℕ) (d : Field) (x : FilledField) → slice_get z.fields i ≡ Some d → slice_get (fields_of g) i ≡ Some x →
        FieldFits methods ctx (side_of z.listing (level g)) (assigned z.listing (level g) args) path d d.encoding x) same_format h.each in
        let pair : Pair methods table cert counts ctx args path place.sizes format f g = record {
          twins = record { within_f = within_bounds place.sizes f lie; level_f = fitting; level_g = level_g; each_f = each; each_g = each_g };
          are_sizes = base.are_sizes;
          asks = λ i d j es e ec. asks k n i j format d es is e ec;
          only_one = λ i d x e e' k es ec args inner is_args is_inner. only_inner (each i d x e e') k es ec args inner is_args is_inner;
          rest_f = r;
          rest_g = r';
          front = front;
          asked = asked;
        } in
        filling_same f g leaf (fitting.shaped.listing_is ∙ sym level_g.shaped.listing_is) (same_fields methods table cert counts ctx args path place.sizes format f g pair w.0.write (plans_go_on base.version Write table place.sizes format w.0.write w.2) (λ j s at. sym (shared.1 j s at)))

    only_inner : {side : Subject → Side → List Bool} {a : Assignment} {path : Path} {d : Field} {c : Encoding} {x : FilledField} → FieldFits methods ctx side a path d c x →
        (k : ℕ) (es : List Expr) → c ≡ encoding.Call k es → (args : List ℤ) (inner : Filling) → vals a es ≡ Some args → inner_of x ≡ Some inner →
        OnlyNumbered methods cert counts ctx k args (below path d.declared.name) inner
    only_inner (fit.bare short none plain) k es e args inner is_args is_inner = absurd (cc)
    only_inner (fit.coded v is holds plain) k es e args inner is_args is_inner = absurd (cc)
    only_inner {a} {path} {d} (fit.called {k = k'} {es = es'} args' inner' is_args' is_inner' fitted u c) k es e args inner is_args is_inner =
        let ek : k' ≡ k = cc in
        let ee : es' ≡ es = cc in
        let ei : inner' ≡ inner = cc in
        let ea : args' ≡ args = let t : vals a es' ≡ Some args = ap (vals a) ee ∙ is_args in cc in
        let found : OnlyNumbered methods cert counts ctx k' args' (below path d.declared.name) inner' = λ g h r r' front asked numbered. only_one fitted g h r r' front asked numbered in
        subst (λ z. OnlyNumbered methods cert counts ctx z args (below path d.declared.name) inner) ek
        (subst (λ z. OnlyNumbered methods cert counts ctx k' z (below path d.declared.name) inner) ea
        (subst (λ z. OnlyNumbered methods cert counts ctx k' args' (below path d.declared.name) z) ei found))

pub one_numbered : OneNumbered
one_numbered methods table top cert counts base asks ctx site f g one other numbered =
    only_one methods table top cert counts base asks ctx one.fits g other.fits one.rest other.rest (sym one.in_front ∙ other.in_front) (one.asked_are ∙ sym other.asked_are) numbered
