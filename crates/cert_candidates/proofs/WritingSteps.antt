-- What each step finds of a filling that begins the source.
use Rattle.std.proofs.Common.{◌≡◌, refl, sym, ◌∙◌, ap, subst, ℕ, zero, suc, ◌+◌, ◌<◌, ◌≤◌, Bool, true, false, cond, List, [], ◌∷◌, ◌++◌, length, map, take, drop, arith, length-append}
use Rattle.std.specs.Prelude.{Option, Some, None, slice_get, filter, ℤ, ◌&&◌, ◌||◌, not}
use Rattle.std.proofs.lemmas.List.{append-nil}
use Rattle.std.proofs.lemmas.Bool.{eqb-true}
use Rattle.sem_expr.specs.declared.expr.Expr.{Expr}
use Rattle.sem_expr.specs.declared.expr.Side.{Side}
use Rattle.sem_expr.specs.declared.expr.Side.TheVariants.{Uncompressed, Compressed}
use Rattle.sem_profile.specs.declared.profile.Encoding.TheVariants as encoding
use Rattle.sem_profile.specs.declared.profile.Declared.{Declared}
use Rattle.sem_profile.specs.declared.profile.Field.{Field}
use Rattle.sem_profile.specs.declared.profile.Format.{Format}
use Rattle.sem_profile.specs.declared.profile.Method.{Method}
use Rattle.sem_profile.specs.declared.profile.MethodSizes.{MethodSizes}
use Rattle.sem_profile.specs.Outcome.{AreSizes}
use Rattle.sem_filling.specs.declared.filling.AskedValue.{AskedValue}
use Rattle.sem_filling.specs.declared.filling.Filling.{Filling, out-Filling}
use Rattle.sem_filling.specs.Fillings.{Sides, is_header, header, header_bits, asked_values, level}
use Rattle.sem_filling.specs.Entries.{Path, below}
use Rattle.sem_filling.specs.Fits.{Context, Fits, field_side}
use Rattle.sem_filling.proofs.Bounding.{placed, lie-in-bounds}
use Rattle.sem_filling.proofs.FitsInverted.{parts, called_parts}
use Rattle.sem_filling.proofs.FitsSides.{header_splits}
use Rattle.cert_types.specs.declared.rule.Fact.TheVariants.{LengthOf, Done}
use Rattle.cert_rules.specs.declared.slots.Learnt.{Learnt}
use Rattle.cert_rules.specs.declared.slots.Learnt.TheVariants.{Nothing, Length, Whole}
use Rattle.cert_rules.specs.declared.slots.Slot.{Slot}
use Rattle.cert_rules.specs.Facts.{of_header, of_headers, inputs_of_all}
use Rattle.cert_rules.specs.Reading.{IsLevel}
use Rattle.cert_rules.specs.Rules.{headers_before, is_headless, own_bits, in_header}
use Rattle.cert_rules.specs.Slots.{HasSide, has_bits, learnt_of, learnt_at, bits_of, slot_sides, calls_at, is_there, slot_inner, slots_view, HasSlots}
use Rattle.cert_rules.specs.Views.{view, side_at}
use Rattle.cert_rules.proofs.ViewsAgree.{and_true, side_is, inner_is}
use Rattle.cert_rules.proofs.ViewsInputs.{declared_of, declared_in, header_cons, vals_same}
use Rattle.cert_rules.proofs.ViewsInputs as inputs
use Rattle.cert_rules.proofs.SlotsKnown.{slot_side, known_bits}
use Rattle.cert_rules.proofs.Reading.{take_front, drop_front}
use Rattle.cert_candidates.specs.Knowing.{writer_knows, writer_knows_all}
use Rattle.cert_candidates.specs.Writing.{Site, Begins, spot_at, header_offset, TakenIs, source_for, inner_site, AsksNothing, InnerIs, asked_before}
use Rattle.cert_candidates.specs.Writing as writing
use Rattle.cert_candidates.proofs.KnowingFitted.{fitted, declared_f, declared_w, field_of, agreed}
use Rattle.cert_candidates.proofs.Knowing.{alike, inputs_all_plain, left_known, right_known}

-- ---- lists

pub parted : {X : Type 0} (xs : List X) (i : ℕ) (x : X) → slice_get xs i ≡ Some x → xs ≡ take i xs ++ x ∷ drop (suc i) xs
parted [] i x e = absurd (cc)
parted (y ∷ xs) zero x e = let same : y ≡ x = cc in ap (λ z. z ∷ xs) same
parted (y ∷ xs) (suc i) x e = ap (λ z. y ∷ z) (parted xs i x e)

pub record Stands (xs : List Sides) (i : ℕ) (d : Field) : Type 0 where
  pub s : Sides
  pub at : slice_get xs i ≡ Some s
  pub declared : s.declared ≡ d.declared

pub stands : (xs : List Sides) (ds : List Field) (i : ℕ) (d : Field) → declared_of xs ≡ declared_in ds → slice_get ds i ≡ Some d → Stands xs i d
stands xs [] i d same e = absurd (cc)
stands [] (x ∷ ds) i d same e = absurd (cc)
stands (s ∷ xs) (x ∷ ds) zero d same e =
    let here : s.declared ≡ x.declared = cc in
    let one : x ≡ d = cc in
    record { s = s; at = refl; declared = here ∙ ap (λ (z : Field). z.declared) one }
stands (s ∷ xs) (x ∷ ds) (suc i) d same e =
    let later : declared_of xs ≡ declared_in ds = cc in
    let t = stands xs ds i d later e in
    record { s = t.s; at = t.at; declared = t.declared }

-- ---- the header before a field

pub has_known : (f : Filling) (slots : List Slot) → HasSlots f slots → (i : ℕ) (side : Side) → HasSide (side_at (view f) i side) (learnt_at slots i side)
has_known f slots has i side = by (slice_get slots i) refl side
  where
    by : (o : Option Slot) → slice_get slots i ≡ o → (side : Side) → HasSide (side_at (view f) i side) (learnt_of side o)
    by None e side = tt
    by (Some s) e Uncompressed = (has i s e).uncompressed
    by (Some s) e Compressed = (has i s e).compressed

-- the headers of two levels up to a place are one where their header fields before it are
pub front_same : (ds : List Field) (xs ys : List Sides) → declared_of xs ≡ declared_in ds → declared_of ys ≡ declared_in ds → (i : ℕ) →
    ((j : ℕ) (d : Field) → slice_get ds j ≡ Some d → is_header d.declared.part ≡ true → j < i → field_side (slice_get xs j) Uncompressed ≡ field_side (slice_get ys j) Uncompressed) →
    header_bits (take i xs) ≡ header_bits (take i ys)
front_same ds xs ys dx dy zero same = refl
front_same [] [] [] dx dy (suc i) same = refl
front_same [] (x ∷ xs) ys dx dy (suc i) same = absurd (cc)
front_same [] [] (y ∷ ys) dx dy (suc i) same = absurd (cc)
front_same (d ∷ ds) [] ys dx dy (suc i) same = absurd (cc)
front_same (d ∷ ds) (x ∷ xs) [] dx dy (suc i) same = absurd (cc)
front_same (d ∷ ds) (x ∷ xs) (y ∷ ys) dx dy (suc i) same =
    let ex : x.declared ≡ d.declared = cc in
    let ey : y.declared ≡ d.declared = cc in
    let dx' : declared_of xs ≡ declared_in ds = cc in
    let dy' : declared_of ys ≡ declared_in ds = cc in
    let later = front_same ds xs ys dx' dy' i (λ j d e is l. same (suc j) d e is (omega (arith, l))) in
    header_cons x (take i xs) ∙ (ap (λ (z : Declared). inputs.joined (is_header z.part) x.uncompressed (header_bits (take i xs))) ex ∙
    (first (is_header d.declared.part) refl later ∙
    sym (header_cons y (take i ys) ∙ ap (λ (z : Declared). inputs.joined (is_header z.part) y.uncompressed (header_bits (take i ys))) ey)))
  where
    first : (b : Bool) → is_header d.declared.part ≡ b → header_bits (take i xs) ≡ header_bits (take i ys) → inputs.joined b x.uncompressed (header_bits (take i xs)) ≡ inputs.joined b y.uncompressed (header_bits (take i ys))
    first true is later = λ k. same zero d refl is (omega arith) k ++ later k
    first false is later = later

headers_done : (format : Format) (slots : List Slot) (n : ℕ) (ds : List Field) (i : ℕ) → writer_knows_all format slots (of_headers Done n (take i ds)) ≡ true →
    (j : ℕ) (d : Field) → slice_get ds j ≡ Some d → is_header d.declared.part ≡ true → j < i → (k : ℕ) → n + j ≡ k → writer_knows format slots (Done k) ≡ true
headers_done format slots n ds zero known j d e is l k at = absurd (omega (arith, l))
headers_done format slots n [] (suc i) known j d e is l k at = absurd (cc)
headers_done format slots n (x ∷ ds) (suc i) known zero d e is l k at =
    let one : x ≡ d = cc in
    let header : is_header x.declared.part ≡ true = ap (λ (z : Field). is_header z.declared.part) one ∙ is in
    let here : n ≡ k = omega (arith, at) in
    let rest = of_headers Done (suc n) (take i ds) in
    let all : writer_knows_all format slots (Done n ∷ rest) ≡ true = subst (λ b. writer_knows_all format slots (of_header b (Done n) rest) ≡ true) header known in
    subst (λ z. writer_knows format slots (Done z) ≡ true) here (and_true (writer_knows format slots (Done n)) (writer_knows_all format slots rest) all).0
headers_done format slots n (x ∷ ds) (suc i) known (suc j) d e is l k at =
    headers_done format slots (suc n) ds i (later (is_header x.declared.part) known) j d e is (omega (arith, l)) k (omega (arith, at))
  where
    later : (b : Bool) → writer_knows_all format slots (of_header b (Done n) (of_headers Done (suc n) (take i ds))) ≡ true → writer_knows_all format slots (of_headers Done (suc n) (take i ds)) ≡ true
    later true h = (and_true (writer_knows format slots (Done n)) (writer_knows_all format slots (of_headers Done (suc n) (take i ds))) h).1
    later false h = h

-- ---- asked fields

abbrev values_cons : (b : Bool) (x : Sides) (xs : List Sides) → List AskedValue
values_cons true x xs = record { name = x.declared.name; bits = x.uncompressed } ∷ asked_values xs
values_cons false x xs = asked_values xs

asked_cons : (x : Sides) (xs : List Sides) → asked_values (x ∷ xs) ≡ values_cons x.declared.asked x xs
asked_cons x xs = by x.declared.asked where
  by : (b : Bool) → map (λ (s : Sides). record { name = s.declared.name; bits = s.uncompressed }) (cond b (x ∷ filter (λ s. s.declared.asked) xs) (filter (λ s. s.declared.asked) xs)) ≡ values_cons b x xs
  by true = refl
  by false = refl

pub none_asked : (ds : List Field) (xs : List Sides) → declared_of xs ≡ declared_in ds → ((i : ℕ) (d : Field) → slice_get ds i ≡ Some d → d.declared.asked ≡ false) → asked_values xs ≡ []
none_asked [] [] same none = refl
none_asked [] (x ∷ xs) same none = absurd (cc)
none_asked (d ∷ ds) [] same none = absurd (cc)
none_asked (d ∷ ds) (x ∷ xs) same none =
    let here : x.declared ≡ d.declared = cc in
    let later : declared_of xs ≡ declared_in ds = cc in
    asked_cons x xs ∙ (ap (λ b. values_cons b x xs) (ap (λ (z : Declared). z.asked) here ∙ none zero d refl) ∙ none_asked ds xs later (λ i. none (suc i)))

pub asked_at : (ds : List Field) (xs : List Sides) → declared_of xs ≡ declared_in ds → (i : ℕ) (d : Field) → slice_get ds i ≡ Some d → d.declared.asked ≡ true →
    slice_get (asked_values xs) (length (filter (λ (d : Field). d.declared.asked) (take i ds))) ≡ Some (record { name = d.declared.name; bits = field_side (slice_get xs i) Uncompressed })
asked_at [] xs same i d e is = absurd (cc)
asked_at (x ∷ ds) [] same i d e is = absurd (cc)
asked_at (x ∷ ds) (s ∷ xs) same zero d e is =
    let here : s.declared ≡ x.declared = cc in
    let one : x ≡ d = cc in
    let declared : s.declared ≡ d.declared = here ∙ ap (λ (z : Field). z.declared) one in
    ap (λ z. slice_get z 0) (asked_cons s xs ∙ ap (λ b. values_cons b s xs) (ap (λ (z : Declared). z.asked) declared ∙ is)) ∙ (λ k. Some (record { name = (declared k).name; bits = s.uncompressed }))
asked_at (x ∷ ds) (s ∷ xs) same (suc i) d e is =
    let here : s.declared ≡ x.declared = cc in
    let later : declared_of xs ≡ declared_in ds = cc in
    let found = asked_at ds xs later i d e is in
    ap (λ z. slice_get z (length (filter (λ (d : Field). d.declared.asked) (take (suc i) (x ∷ ds))))) (asked_cons s xs ∙ ap (λ b. values_cons b s xs) (ap (λ (z : Declared). z.asked) here)) ∙ by x.declared.asked found
  where
    by : (b : Bool) → slice_get (asked_values xs) (length (filter (λ (d : Field). d.declared.asked) (take i ds))) ≡ Some (record { name = d.declared.name; bits = field_side (slice_get xs i) Uncompressed }) →
        slice_get (values_cons b s xs) (length (cond b (x ∷ filter (λ (d : Field). d.declared.asked) (take i ds)) (filter (λ (d : Field). d.declared.asked) (take i ds)))) ≡ Some (record { name = d.declared.name; bits = field_side (slice_get xs i) Uncompressed })
    by true h = h
    by false h = h

-- ---- a called method

module _ (methods : List Method) (ctx : Context) where
  -- what fits a method without a header has none
  pub headless : (table : List MethodSizes) → AreSizes methods table → (j : ℕ) (args : List ℤ) (path : Path) (inner : Filling) → Fits methods ctx j args path inner → is_headless (slice_get table j) ≡ true → header inner ≡ []
  headless table are j args path inner fitting e =
      let p = parts fitting in
      let here = placed methods table are j (out-Filling inner).format p.format p.is_format in
      let lie = (lie-in-bounds methods table are ctx j args path inner fitting here.whole here.sizes here.whole_at here.sizes_at).1 in
      let none : here.whole.whole.uncompressed.most ≡ 0 = eqb-true here.whole.whole.uncompressed.most 0 (ap is_headless (sym here.whole_at) ∙ e) in
      empty (header inner) (omega (arith, lie.uncompressed_lies.most, none))
    where
      empty : (xs : List Bool) → length xs ≤ 0 → xs ≡ []
      empty [] l = refl
      empty (x ∷ xs) l = absurd (omega (arith, l))

  -- what fits a method that asks nothing has no asked values
  pub asks_none : (j : ℕ) (args : List ℤ) (path : Path) (inner : Filling) → Fits methods ctx j args path inner → AsksNothing methods j → asked_values (level inner) ≡ []
  asks_none j args path inner fitting asks =
      let p = parts fitting in
      none_asked p.format.fields (level inner) p.level_fits.shaped.declared_is (λ i d e. asks (out-Filling inner).format i p.format d p.is_format e)

-- ---- one filling

module _ (methods : List Method) (ctx : Context) (site : Site) (n : ℕ) (format : Format) (slots : List Slot) (f : Filling) (b : Begins methods ctx site f) (h : IsLevel methods ctx (spot_at site) n format slots f) where
  abbrev own : ℕ → List Bool
  own i = side_at (view f) i Uncompressed

  own_known : (i : ℕ) → has_bits (learnt_at slots i Uncompressed) ≡ true → bits_of (learnt_at slots i Uncompressed) ≡ own i
  own_known i e = known_bits (learnt_at slots i Uncompressed) (own i) (has_known f slots h.has i Uncompressed) e

  front_known : (i : ℕ) → writer_knows_all format slots (headers_before format i) ≡ true → header_bits (take i (slot_sides format.fields slots)) ≡ header_bits (take i (level f))
  front_known i known =
      front_same format.fields (slot_sides format.fields slots) (level f) (declared_w methods ctx (spot_at site) n format slots f h) (declared_f methods ctx (spot_at site) n format slots f h) i
      (λ j d e is l.
      let done = headers_done format slots 0 format.fields i known j d e is l j (omega arith) in
      let bits = (and_true (has_bits (learnt_at slots j Uncompressed)) (not (calls_at (slice_get format.fields j)) || is_there (slot_inner (slice_get slots j))) done).0 in
      slot_side format.fields slots h.count j Uncompressed ∙ own_known j bits)

  -- the source falls apart at a header field
  record Apart (i : ℕ) : Type 0 where
    front : List Bool
    later : List Bool
    as_long : length front ≡ header_offset format slots i
    is : front ++ (own i ++ later) ≡ site.source

  apart : (i : ℕ) (d : Field) → slice_get format.fields i ≡ Some d → is_header d.declared.part ≡ true → writer_knows_all format slots (headers_before format i) ≡ true → Apart i
  apart i d e is known =
      let t = stands (level f) format.fields i d (declared_f methods ctx (spot_at site) n format slots f h) e in
      let header : is_header t.s.declared.part ≡ true = ap (λ (z : Declared). is_header z.part) t.declared ∙ is in
      let whole = header_splits f (take i (level f)) (drop (suc i) (level f)) t.s site.source b.rest (parted (level f) i t.s t.at) header b.in_front in
      let here : own i ≡ t.s.uncompressed = ap (λ o. field_side o Uncompressed) t.at in
      let later = header_bits (drop (suc i) (level f)) ++ b.rest in
      record {
        front = header_bits (take i (level f));
        later = later;
        as_long = ap length (sym (front_known i known));
        is = ap (λ z. header_bits (take i (level f)) ++ (z ++ later)) here ∙ sym whole;
      }

  source_long : (i : ℕ) (a : Apart i) → header_offset format slots i + (length (own i) + length a.later) ≡ length site.source
  source_long i a = omega (arith, ap length a.is, length-append a.front (own i ++ a.later), length-append (own i) a.later, a.as_long)

  -- what is left from a header field on
  next_is : (i : ℕ) (a : Apart i) → own i ++ a.later ≡ drop (header_offset format slots i) site.source
  next_is i a =
      let low : length a.front ≤ length site.source = let l = source_long i a in let e = a.as_long in omega arith in
      drop_front a.front (own i ++ a.later) site.source [] (a.is ∙ sym (append-nil site.source)) low ∙ (append-nil (drop (length a.front) site.source) ∙ ap (λ z. drop z site.source) a.as_long)

  pub taken : (i : ℕ) (d : Field) → slice_get format.fields i ≡ Some d → is_header d.declared.part ≡ true → writer_knows_all format slots (LengthOf Uncompressed i ∷ headers_before format i) ≡ true →
      TakenIs format slots site i (length (bits_of (learnt_at slots i Uncompressed))) f
  taken i d e is known =
      let all = and_true (writer_knows format slots (LengthOf Uncompressed i)) (writer_knows_all format slots (headers_before format i)) known in
      let a = apart i d e is all.1 in
      let agree = agreed methods ctx (spot_at site) n format slots f h (LengthOf Uncompressed i ∷ []) (λ k. all.0 k && true) in
      let as_long : length (bits_of (learnt_at slots i Uncompressed)) ≡ length (own i) = ap length (sym (slot_side format.fields slots h.count i Uncompressed)) ∙ agree.0 in
      let left = drop (header_offset format slots i) site.source in
      let there : own i ++ a.later ≡ left ++ [] = next_is i a ∙ sym (append-nil left) in
      let room : length (own i) ≤ length left = omega (arith, ap length (next_is i a), length-append (own i) a.later) in
      record {
        enough = omega (arith, source_long i a, as_long);
        taken = take_front (own i) a.later left [] there room ∙ ap (λ z. take z left) (sym as_long);
      }

  -- ---- calls

  -- what a called field takes from, where it is no header field
  own_source : (b : Bool) (i : ℕ) (bits : List Bool) → own i ≡ bits → (b ≡ true → bits ≡ []) → writer_knows_all format slots (own_bits b i) ≡ true → writing.known_bits (learnt_at slots i Uncompressed) ≡ bits
  own_source b i bits is none known = by (learnt_at slots i Uncompressed) refl b none known
    where
      by : (l : Learnt) → learnt_at slots i Uncompressed ≡ l → (b : Bool) → (b ≡ true → bits ≡ []) → writer_knows_all format slots (own_bits b i) ≡ true → writing.known_bits l ≡ bits
      by (Whole known) e b none k = sym (subst (HasSide (own i)) e (has_known f slots h.has i Uncompressed)) ∙ is
      by Nothing e true none k = sym (none refl)
      by (Length m) e true none k = sym (none refl)
      by Nothing e false none k = absurd (let u = and_true (has_bits (learnt_at slots i Uncompressed)) true k in let w : false ≡ true = sym (ap has_bits e) ∙ u.0 in cc)
      by (Length m) e false none k = absurd (let u = and_true (has_bits (learnt_at slots i Uncompressed)) true k in let w : false ≡ true = sym (ap has_bits e) ∙ u.0 in cc)

  inner_begins : (table : List MethodSizes) → AreSizes methods table → (i : ℕ) (d : Field) (j : ℕ) (args : List ℤ) (inner : Filling) → slice_get format.fields i ≡ Some d → Fits methods ctx j args (below site.path d.declared.name) inner →
      own i ≡ header inner → AsksNothing methods j → (b : Bool) → is_header d.declared.part ≡ b →
      writer_knows_all format slots (in_header b (headers_before format i) (own_bits (is_headless (slice_get table j)) i)) ≡ true →
      (rest : List Bool) × (source_for b (drop (header_offset format slots i) site.source) (writing.known_bits (learnt_at slots i Uncompressed)) ≡ header inner ++ rest)
      × (b ≡ false → source_for b (drop (header_offset format slots i) site.source) (writing.known_bits (learnt_at slots i Uncompressed)) ≡ header inner)
  inner_begins table are i d j args inner e fitting same asks true is known =
      let a = apart i d e is known in
      (a.later, sym (next_is i a) ∙ ap (λ z. z ++ a.later) same, λ wrong. absurd (cc))
  inner_begins table are i d j args inner e fitting same asks false is known =
      let source = own_source (is_headless (slice_get table j)) i (header inner) same (headless methods ctx table are j args (below site.path d.declared.name) inner fitting) known in
      ([], source ∙ sym (append-nil (header inner)), λ e. source)

  pub called : (table : List MethodSizes) → AreSizes methods table → (i : ℕ) (d : Field) (j : ℕ) (es : List Expr) → slice_get format.fields i ≡ Some d → d.encoding ≡ encoding.Call j es → AsksNothing methods j →
      writer_knows_all format slots (inputs_of_all format es ++ in_header (is_header d.declared.part) (headers_before format i) (own_bits (is_headless (slice_get table j)) i)) ≡ true →
      InnerIs methods ctx site format slots i d j es f
  called table are i d j es e is asks known =
      let spot = spot_at site in
      let order = in_header (is_header d.declared.part) (headers_before format i) (own_bits (is_headless (slice_get table j)) i) in
      let inputs_known = sym (alike format slots (inputs_of_all format es) (inputs_all_plain format es)) ∙ left_known format slots (inputs_of_all format es) order known in
      let x = field_of methods ctx spot n format slots f h i d e in
      let c = called_parts methods ctx ((fitted methods ctx spot n format slots f h).each i d x.0 e x.1) j es is in
      let up : own i ≡ header c.inner = side_is f i x.0 Uncompressed x.1 ∙ c.header_is in
      let source = inner_begins table are i d j c.args c.inner e c.inner_fits up asks (is_header d.declared.part) refl (right_known format slots (inputs_of_all format es) order known) in
      record {
        args = c.args;
        args_are = vals_same (slots_view format slots) (view f) format (declared_w methods ctx spot n format slots f h) (declared_f methods ctx spot n format slots f h) site.args es
            (agreed methods ctx spot n format slots f h (inputs_of_all format es) inputs_known) ∙ c.is_args;
        inner = c.inner;
        inner_is = inner_is f i x.0 x.1 ∙ c.is_inner;
        uncompressed = up;
        compressed = side_is f i x.0 Compressed x.1 ∙ c.packed_is;
        begins = record { fits = c.inner_fits; rest = source.0; in_front = source.1; asked_are = asks_none methods ctx j c.args (below site.path d.declared.name) c.inner c.inner_fits asks };
        used_up = source.2;
      }

  pub asked : (i : ℕ) (d : Field) → slice_get format.fields i ≡ Some d → d.declared.asked ≡ true → slice_get site.asked (asked_before format i) ≡ Some (record { name = d.declared.name; bits = own i })
  asked i d e is =
      ap (λ z. slice_get z (asked_before format i)) (sym b.asked_are) ∙ asked_at format.fields (level f) (declared_f methods ctx (spot_at site) n format slots f h) i d e is
