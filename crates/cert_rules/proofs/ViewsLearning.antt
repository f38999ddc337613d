-- The laws of a reading walk's steps.
use Rattle.std.proofs.Common.{◌≡◌, refl, sym, ◌∙◌, ap, subst, ℕ, zero, suc, ◌+◌, ◌<◌, ◌≤◌, Bool, true, false, List, [], ◌∷◌, ◌++◌, length, map, take, drop, arith, length-append, append_assoc}
use Rattle.std.specs.Prelude.{Option, Some, None, IfSome, slice_get, option_and_then, ℤ, ◌||◌, nat_le}
use Rattle.std.proofs.lemmas.List.{append-nil}
use Rattle.std.proofs.lemmas.Bool.{leb-true, leb-false}
use Rattle.sem_expr.specs.Values.{val}
use Rattle.sem_expr.specs.declared.expr.Side.{Side}
use Rattle.sem_expr.specs.declared.expr.Side.TheVariants.{Uncompressed, Compressed}
use Rattle.sem_expr.specs.declared.expr.Measure.TheVariants as measure
use Rattle.sem_expr.specs.declared.expr.Expr.{Expr}
use Rattle.sem_profile.specs.declared.profile.Library.{Library}
use Rattle.sem_profile.specs.declared.profile.Encoding.TheVariants as encoding
use Rattle.sem_profile.specs.declared.profile.Constraint.{Constraint}
use Rattle.sem_profile.specs.declared.profile.Sizes.{Sizes}
use Rattle.sem_profile.specs.declared.profile.FormatSizes.{FormatSizes}
use Rattle.sem_profile.specs.declared.profile.Method.{Method}
use Rattle.sem_profile.specs.declared.profile.Field.{Field}
use Rattle.sem_profile.specs.declared.profile.Format.{Format}
use Rattle.sem_profile.specs.Fields.{lists}
use Rattle.sem_filling.specs.declared.filling.Filling.{Filling, out-Filling}
use Rattle.sem_filling.specs.declared.filling.FilledField.{FilledField}
use Rattle.sem_filling.specs.Fillings.{Sides, sides_of, inner_of, fields_of, level, packed, packed_bits, inner_at}
use Rattle.sem_filling.specs.Entries.{below}
use Rattle.sem_filling.proofs.FillingsUnique.{also_at, same}
use Rattle.sem_filling.specs.Fits.{Context, Fits, FieldFits, LevelFits, side_of, assigned, field_side, format_at}
use Rattle.sem_filling.proofs.FitsInverted.{parts, coded_parts, length-fields, called_parts}
use Rattle.sem_filling.proofs.FitsSides.{splits}
use Rattle.sem_filling.proofs.FitsSized.{sized}
use Rattle.cert_types.specs.declared.certificate.Direction.TheVariants.{Read}
use Rattle.cert_rules.specs.declared.slots.Slot.{Slot}
use Rattle.cert_types.specs.declared.rule.Fact.{Fact}
use Rattle.cert_types.specs.declared.rule.Fact.TheVariants.{Done, LengthOf, BitsOf}
use Rattle.cert_rules.specs.Facts.{inputs, inputs_of_all, before}
use Rattle.cert_rules.specs.Rules.{is_call, up_needs, down_needs, length_needs, Congruence, length_given, value_given, remainder_given, attribute_of, listed_before, where_true}
use Rattle.cert_rules.specs.Plans.{wanted, goals_of, is_complete}
use Rattle.cert_rules.specs.Views.{View, view, side_at, AgreeAll}
use Rattle.cert_rules.specs.Slots.{HasSide, learnt_at, calls_at, knows_all, bits_of, slot_inner, slot_sides, slots_view, HasSlot}
use Rattle.cert_rules.specs.Steps.{UpIs, DownIs, IsValue, LengthIs, SolvedIs, RemainderIs}
use Rattle.cert_rules.specs.Reading.{Spot, IsAhead, offset_of, bits_from, IsLevel, known_sides, known_numbers, ref_at, InnerIs, TakenIs, start_side, start_slot, start_slots, TreeLeads, StartHas, IsMade}
use Rattle.cert_rules.proofs.ViewsAgree.{agree_left, agree_right, side_is, inner_is}
use Rattle.cert_rules.proofs.ViewsInputs.{declared_of, declared_in, val_same, vals_same, packed_same}
use Rattle.cert_rules.proofs.ViewsMethods.{Solved, solved}
use Rattle.cert_rules.proofs.Plans.{all_learnt}
use Rattle.cert_rules.proofs.SlotsGrowing.{knows_all_had}
use Rattle.cert_rules.proofs.RulesConstraints.{equated_value, length_value, left_of}
use Rattle.cert_rules.proofs.Steps.{unfilled}
use Rattle.cert_rules.proofs.TreesTold as told
use Rattle.cert_rules.proofs.SlotsKnown.{has_inner, slot_side, slots_declared, agree_known}
use Rattle.cert_rules.proofs.Reading.{up_is, down_is, u_length_is, c_length_is, take_front, drop_front, drop_past, drop_length, split_at}

-- a filling ahead by this format
record Fitted (methods : List Method) (ctx : Context) (spot : Spot) (format : Format) (f : Filling) : Type 0 where
  level_fits : LevelFits format f spot.args
  each : (i : ℕ) (d : Field) (x : FilledField) → slice_get format.fields i ≡ Some d → slice_get (fields_of f) i ≡ Some x →
      FieldFits methods ctx (side_of format.listing (level f)) (assigned format.listing (level f) spot.args) spot.path d d.encoding x

fitted : (methods : List Method) (ctx : Context) (spot : Spot) (n : ℕ) (format : Format) (f : Filling) → Fits methods ctx spot.method spot.args spot.path f → (out-Filling f).format ≡ n → format_at methods spot.method n ≡ Some format →
    Fitted methods ctx spot format f
fitted methods ctx spot n format f h is at =
    let p = parts h in
    let found : format_at methods spot.method n ≡ Some p.format = ap (format_at methods spot.method) (sym is) ∙ p.is_format in
    let one : p.format ≡ format = let e : Some p.format ≡ Some format = sym found ∙ at in cc in
    record {
      level_fits = subst (λ z. LevelFits z f spot.args) one p.level_fits;
      each = subst (λ (z : Format). (i : ℕ) (d : Field) (x : FilledField) → slice_get z.fields i ≡ Some d → slice_get (fields_of f) i ≡ Some x →
          FieldFits methods ctx (side_of z.listing (level f)) (assigned z.listing (level f) spot.args) spot.path d d.encoding x) one p.each;
    }

module _ (methods : List Method) (ctx : Context) (spot : Spot) (format : Format) (f : Filling) (p : Fitted methods ctx spot format f) where
  -- a field that isn't called has no filling inside
  plain_at : (i : ℕ) (o : Option Field) → slice_get format.fields i ≡ o → (x : Option FilledField) → slice_get (fields_of f) i ≡ x → calls_at o ≡ false → option_and_then inner_of x ≡ None
  plain_at i o e None ex no_call = refl
  plain_at i None e (Some x) ex no_call = absurd (let t = also_at (fields_of f) format.fields i x (length-fields format f p.level_fits.shaped) ex in let u = t.1 in cc)
  plain_at i (Some d) e (Some x) ex no_call = unfilled (p.each i d x e ex) no_call

  plain : (i : ℕ) → calls_at (slice_get format.fields i) ≡ false → inner_at f i ≡ None
  plain i no_call = plain_at i (slice_get format.fields i) refl (slice_get (fields_of f) i) refl no_call

  field_of : (i : ℕ) (d : Field) → slice_get format.fields i ≡ Some d → (x : FilledField) × (slice_get (fields_of f) i ≡ Some x)
  field_of i d e = also_at format.fields (fields_of f) i d (sym (length-fields format f p.level_fits.shaped)) e

  unsent : (i : ℕ) → lists format.listing i ≡ false → side_at (view f) i Compressed ≡ []
  unsent i e = at_option (slice_get (level f) i) refl where
    at_option : (o : Option Sides) → slice_get (level f) i ≡ o → field_side o Compressed ≡ []
    at_option None is = refl
    at_option (Some s) is = p.level_fits.unlisted i s is e

  -- the packed bits fall apart at a listed field
  record Apart (i : ℕ) : Type 0 where
    later : List Bool
    is : packed f ≡ packed_bits (before i format.listing) (level f) ++ (side_at (view f) i Compressed ++ later)

  apart : (i : ℕ) → lists format.listing i ≡ true → Apart i
  apart i e =
      let t = split_at i format.listing e in
      let later = packed_bits t.0 (level f) in
      let front = packed_bits (before i format.listing) (level f) in
      let whole = splits f (before i format.listing) t.0 i (packed f ++ []) [] (p.level_fits.shaped.listing_is ∙ t.1) refl in
      record {
        later = later;
        is = sym (append-nil (packed f)) ∙ (whole ∙ ap (λ z. front ++ (side_at (view f) i Compressed ++ z)) (append-nil later));
      }

done_sent : (w g : View) (is : List ℕ) → AgreeAll w g (map Done is) → AgreeAll w g (map (BitsOf Compressed) is)
done_sent w g [] h = tt
done_sent w g (i ∷ is) h = (h.0.0, done_sent w g is h.1)

module _ (methods : List Method) (ctx : Context) (spot : Spot) (n : ℕ) (format : Format) (slots : List Slot) (f : Filling) (h : IsLevel methods ctx spot n format slots f) where
  p : Fitted methods ctx spot format f
  p = fitted methods ctx spot n format f h.ahead.in_front.fits h.format_is h.at

  abbrev w : View
  w = slots_view format slots

  shape_w : declared_of w.sides ≡ declared_in format.fields
  shape_w = slots_declared format.fields slots h.count

  agreed : (xs : List Fact) → knows_all format slots xs ≡ true → AgreeAll w (view f) xs
  agreed xs e = agree_known format slots f h.count h.has (plain methods ctx spot format f p) xs e

  side_here : (i : ℕ) (side : Side) → side_at w i side ≡ bits_of (learnt_at slots i side)
  side_here i side = slot_side format.fields slots h.count i side

  record Coded (i : ℕ) (d : Field) (l : Library) : Type 0 where
    x : FilledField
    at_f : slice_get (fields_of f) i ≡ Some x
    solves : Solved (side_of format.listing (level f)) (assigned format.listing (level f) spot.args) l (ref_at ctx spot d) (sides_of x).uncompressed (sides_of x).compressed
    short : length (sides_of x).compressed ≤ 64

  coded : (i : ℕ) (d : Field) (l : Library) → slice_get format.fields i ≡ Some d → d.encoding ≡ encoding.Library l → Coded i d l
  coded i d l e is =
      let x = field_of methods ctx spot format f p i d e in
      let c = coded_parts methods ctx (p.each i d x.0 e x.1) l is in
      let side = side_of format.listing (level f) in
      let a = assigned format.listing (level f) spot.args in
      record {
        x = x.0;
        at_f = x.1;
        solves = solved side a l c.method (ref_at ctx spot d) (sides_of x.0).uncompressed (sides_of x.0).compressed c.is_method c.holds;
        short = (sized side a l c.method (ref_at ctx spot d) (sides_of x.0).uncompressed (sides_of x.0).compressed c.is_method c.holds).short Compressed;
      }

  pub up : (i : ℕ) (d : Field) (l : Library) → slice_get format.fields i ≡ Some d → d.encoding ≡ encoding.Library l → knows_all format slots (up_needs format i l) ≡ true →
      UpIs (known_numbers format slots spot.args) (ref_at ctx spot d) (bits_of (learnt_at slots i Compressed)) l (side_at (view f) i Uncompressed)
  up i d l e is known =
      let c = coded i d l e is in
      let found = up_is format spot.args w (view f) shape_w p.level_fits.shaped.declared_is i (ref_at ctx spot d) (sides_of c.x).uncompressed (sides_of c.x).compressed l
      (side_is f i c.x Compressed c.at_f) c.solves (agreed (up_needs format i l) known) in
      subst (λ z. UpIs (known_numbers format slots spot.args) (ref_at ctx spot d) (bits_of (learnt_at slots i Compressed)) l z) (sym (side_is f i c.x Uncompressed c.at_f))
      (subst (λ z. UpIs (known_numbers format slots spot.args) (ref_at ctx spot d) z l (sides_of c.x).uncompressed) (side_here i Compressed) found)

  pub down : (i : ℕ) (d : Field) (l : Library) → slice_get format.fields i ≡ Some d → d.encoding ≡ encoding.Library l → knows_all format slots (down_needs format i l) ≡ true →
      DownIs (known_sides format slots) (known_numbers format slots spot.args) (bits_of (learnt_at slots i Uncompressed)) l (side_at (view f) i Compressed)
  down i d l e is known =
      let c = coded i d l e is in
      let found = down_is format spot.args w (view f) shape_w p.level_fits.shaped.declared_is i (ref_at ctx spot d) (sides_of c.x).uncompressed (sides_of c.x).compressed l
      (side_is f i c.x Uncompressed c.at_f) c.solves c.short (agreed (down_needs format i l) known) in
      subst (λ z. DownIs (known_sides format slots) (known_numbers format slots spot.args) (bits_of (learnt_at slots i Uncompressed)) l z) (sym (side_is f i c.x Compressed c.at_f))
      (subst (λ z. DownIs (known_sides format slots) (known_numbers format slots spot.args) z l (sides_of c.x).compressed) (side_here i Uncompressed) found)

  pub length_of : (i : ℕ) (d : Field) (l : Library) (side : Side) → slice_get format.fields i ≡ Some d → d.encoding ≡ encoding.Library l → knows_all format slots (length_needs format side l) ≡ true →
      LengthIs (known_numbers format slots spot.args) (ref_at ctx spot d) side l (length (side_at (view f) i side))
  length_of i d l Uncompressed e is known =
      let c = coded i d l e is in
      subst (λ z. LengthIs (known_numbers format slots spot.args) (ref_at ctx spot d) Uncompressed l (length z)) (sym (side_is f i c.x Uncompressed c.at_f))
      (u_length_is format spot.args w (view f) shape_w p.level_fits.shaped.declared_is i (ref_at ctx spot d) (sides_of c.x).uncompressed (sides_of c.x).compressed l
      c.solves (agreed (length_needs format Uncompressed l) known))
  length_of i d l Compressed e is known =
      let c = coded i d l e is in
      subst (λ z. LengthIs (known_numbers format slots spot.args) (ref_at ctx spot d) Compressed l (length z)) (sym (side_is f i c.x Compressed c.at_f))
      (c_length_is format spot.args w (view f) shape_w p.level_fits.shaped.declared_is i (ref_at ctx spot d) (sides_of c.x).uncompressed (sides_of c.x).compressed l
      c.solves (agreed (length_needs format Compressed l) known))

  value_here : (e : Expr) → knows_all format slots (inputs format e) ≡ true → val (known_numbers format slots spot.args) e ≡ val (assigned format.listing (level f) spot.args) e
  value_here e known = val_same w (view f) format shape_w p.level_fits.shaped.declared_is spot.args e (agreed (inputs format e) known)

  pub by_constraint : (i j : ℕ) (side : Side) (k : Constraint) (e : Expr) → slice_get format.constraints j ≡ Some k → length_given i side k ≡ Some e → knows_all format slots (inputs format e) ≡ true →
      IsValue (known_numbers format slots spot.args) e (length (side_at (view f) i side))
  by_constraint i j side k e at given known =
      value_here e known ∙ length_value (side_of format.listing (level f)) (assigned format.listing (level f) spot.args) i side k e refl given (p.level_fits.constraints j k at)

  pub solve : (i j : ℕ) (k : Constraint) (e : Expr) → slice_get format.constraints j ≡ Some k → value_given i k ≡ Some e → knows_all format slots (LengthOf Uncompressed i ∷ inputs format e) ≡ true →
      SolvedIs (known_numbers format slots spot.args) (length (bits_of (learnt_at slots i Uncompressed))) e (side_at (view f) i Uncompressed)
  solve i j k e at given known =
      let all = agreed (LengthOf Uncompressed i ∷ inputs format e) known in
      record {
        as_long = sym all.0 ∙ ap length (side_here i Uncompressed);
        number_is = val_same w (view f) format shape_w p.level_fits.shaped.declared_is spot.args e all.1 ∙
            equated_value (side_of format.listing (level f)) (assigned format.listing (level f) spot.args) (attribute_of i Uncompressed measure.Value) k e given (p.level_fits.constraints j k at);
      }

  pub solve_remainder : (sizes : FormatSizes) (b : Sizes) (i j : ℕ) (k : Constraint) (c : Congruence) → slice_get format.constraints j ≡ Some k → remainder_given sizes i k ≡ Some c → slice_get sizes.fields i ≡ Some b →
      length (side_at (view f) i Uncompressed) ≤ b.uncompressed.most → knows_all format slots (LengthOf Uncompressed i ∷ inputs format c.more ++ inputs format c.left) ≡ true →
      RemainderIs (known_numbers format slots spot.args) (length (bits_of (learnt_at slots i Uncompressed))) c (side_at (view f) i Uncompressed)
  solve_remainder sizes b i j k c at given bounds_at few known =
      let all = agreed (LengthOf Uncompressed i ∷ inputs format c.more ++ inputs format c.left) known in
      let shape_f = p.level_fits.shaped.declared_is in
      let l = left_of (side_of format.listing (level f)) (assigned format.listing (level f) spot.args) sizes b i k c (side_at (view f) i Uncompressed) refl given bounds_at few (p.level_fits.constraints j k at) in
      record {
        as_long = sym all.0 ∙ ap length (side_here i Uncompressed);
        more = l.more;
        more_is = val_same w (view f) format shape_w shape_f spot.args c.more (agree_left w (view f) (inputs format c.more) (inputs format c.left) all.1) ∙ l.more_is;
        left = l.left;
        left_is = val_same w (view f) format shape_w shape_f spot.args c.left (agree_right w (view f) (inputs format c.more) (inputs format c.left) all.1) ∙ l.left_is;
        above = l.over.above;
        below = l.over.below;
        number_is = l.over.back;
      }

  -- the bits before a listed field
  before_is : (i : ℕ) → AgreeAll w (view f) (listed_before format i) → packed_bits (before i format.listing) (slot_sides format.fields slots) ≡ packed_bits (before i format.listing) (level f)
  before_is i known = packed_same w (view f) (before i format.listing) (done_sent w (view f) (before i format.listing) known)

  record Ahead (i : ℕ) : Type 0 where
    front : List Bool
    later : List Bool
    as_long : length front ≡ offset_of format slots i
    whole : packed f ≡ front ++ (side_at (view f) i Compressed ++ later)
    split : front ++ (side_at (view f) i Compressed ++ (later ++ h.ahead.in_front.rest)) ≡ spot.bits ++ h.ahead.more

  ahead_at : (i : ℕ) → lists format.listing i ≡ true → AgreeAll w (view f) (listed_before format i) → Ahead i
  ahead_at i listed known =
      let a = apart methods ctx spot format f p i listed in
      let front = packed_bits (before i format.listing) (level f) in
      let own = side_at (view f) i Compressed in
      record {
        front = front;
        later = a.later;
        as_long = ap length (sym (before_is i known));
        whole = a.is;
        split = ap (λ z. front ++ z) (sym (append_assoc own a.later h.ahead.in_front.rest)) ∙ (sym (append_assoc front (own ++ a.later) h.ahead.in_front.rest) ∙ (ap (λ z. z ++ h.ahead.in_front.rest) (sym a.is) ∙ sym h.ahead.in_front.front));
      }

  whole_length : (i : ℕ) (a : Ahead i) → offset_of format slots i + length (side_at (view f) i Compressed) ≤ length (packed f)
  whole_length i a =
      let own = side_at (view f) i Compressed in
      omega (arith, ap length a.whole, length-append a.front (own ++ a.later), length-append own a.later, a.as_long)

  pub taken : (i : ℕ) → lists format.listing i ≡ true → knows_all format slots (LengthOf Compressed i ∷ listed_before format i) ≡ true → TakenIs format slots spot i (length (bits_of (learnt_at slots i Compressed))) f
  taken i listed known =
      let all = agreed (LengthOf Compressed i ∷ listed_before format i) known in
      let a = ahead_at i listed all.1 in
      let own = side_at (view f) i Compressed in
      let same_length : length (bits_of (learnt_at slots i Compressed)) ≡ length own = ap length (sym (side_here i Compressed)) ∙ all.0 in
      record {
        enough = λ fits.
            let low : length a.front ≤ length spot.bits = let l = a.as_long in omega arith in
            let there = drop_front a.front (own ++ (a.later ++ h.ahead.in_front.rest)) spot.bits h.ahead.more a.split low in
            let room : length own ≤ length (drop (length a.front) spot.bits) = let l = a.as_long in omega (arith, drop_length (length a.front) spot.bits low) in
            take_front own (a.later ++ h.ahead.in_front.rest) (drop (length a.front) spot.bits) h.ahead.more there room
            ∙ (λ j. take (sym same_length j) (drop (a.as_long j) spot.bits));
        few = λ short. let l = whole_length i a in omega arith;
      }

  -- where a call stands
  abbrev inner_at_bits : Field → ℕ → List ℤ → List Bool → Spot
  inner_at_bits d j args bits = record { method = j; args = args; path = below spot.path d.declared.name; bits = bits }

  ahead_inner : (i : ℕ) (d : Field) (j : ℕ) (args : List ℤ) (inner : Filling) → Fits methods ctx j args (below spot.path d.declared.name) inner → side_at (view f) i Compressed ≡ packed inner →
      (b : Bool) → lists format.listing i ≡ b → AgreeAll w (view f) (where_true b (listed_before format i)) →
      IsAhead methods ctx (inner_at_bits d j args (bits_from b (offset_of format slots i) spot.bits)) inner
  ahead_inner i d j args inner fitting is false listed known =
      let none : packed inner ≡ [] = sym is ∙ unsent methods ctx spot format f p i listed in
      record { more = []; in_front = record { fits = fitting; rest = []; front = ap (λ z. z ++ []) (sym none) } }
  ahead_inner i d j args inner fitting is true listed known =
      let a = ahead_at i listed known in by_room a (nat_le (offset_of format slots i) (length spot.bits)) refl
    where
      by_room : (a : Ahead i) (b : Bool) → nat_le (offset_of format slots i) (length spot.bits) ≡ b → IsAhead methods ctx (inner_at_bits d j args (drop (offset_of format slots i) spot.bits)) inner
      by_room a true e =
          let room = leb-true (offset_of format slots i) (length spot.bits) e in
          let low : length a.front ≤ length spot.bits = let l = a.as_long in omega arith in
          let after = a.later ++ h.ahead.in_front.rest in
          let left = drop_front a.front (side_at (view f) i Compressed ++ after) spot.bits h.ahead.more a.split low in
          record {
            more = h.ahead.more;
            in_front = record {
              fits = fitting;
              rest = after;
              front = ap (λ z. drop z spot.bits ++ h.ahead.more) (sym a.as_long) ∙ (sym left ∙ ap (λ z. z ++ after) is);
            };
          }
      by_room a false e =
          let past = leb-false (offset_of format slots i) (length spot.bits) e in
          let own = packed inner ++ [] in
          record { more = own; in_front = record { fits = fitting; rest = []; front = ap (λ z. z ++ own) (drop_past (offset_of format slots i) spot.bits (omega arith)) } }

  pub called : (i : ℕ) (d : Field) (j : ℕ) (es : List Expr) → slice_get format.fields i ≡ Some d → d.encoding ≡ encoding.Call j es →
      knows_all format slots (inputs_of_all format es ++ where_true (lists format.listing i) (listed_before format i)) ≡ true → InnerIs methods ctx spot format slots i d j es f
  called i d j es e is known =
      let order = where_true (lists format.listing i) (listed_before format i) in
      let all = agreed (inputs_of_all format es ++ order) known in
      let x = field_of methods ctx spot format f p i d e in
      let c = called_parts methods ctx (p.each i d x.0 e x.1) j es is in
      let sent : side_at (view f) i Compressed ≡ packed c.inner = side_is f i x.0 Compressed x.1 ∙ c.packed_is in
      let stands = ahead_inner i d j c.args c.inner c.inner_fits sent (lists format.listing i) refl (agree_right w (view f) (inputs_of_all format es) order all) in
      record {
        args = c.args;
        args_are = vals_same w (view f) format shape_w p.level_fits.shaped.declared_is spot.args es (agree_left w (view f) (inputs_of_all format es) order all) ∙ c.is_args;
        inner = c.inner;
        inner_is = inner_is f i x.0 x.1 ∙ c.is_inner;
        uncompressed = side_is f i x.0 Uncompressed x.1 ∙ c.header_is;
        compressed = sent;
        ahead = stands;
        longer = λ listed short. longer_by i c.inner sent listed (agree_right w (view f) (inputs_of_all format es) order all) short;
        unsent = λ unlisted. sym sent ∙ unsent methods ctx spot format f p i unlisted;
      }
    where
      longer_by : (i : ℕ) (inner : Filling) → side_at (view f) i Compressed ≡ packed inner → lists format.listing i ≡ true → AgreeAll w (view f) (where_true (lists format.listing i) (listed_before format i)) →
          length (drop (offset_of format slots i) spot.bits) < length (packed inner) → length spot.bits < length (packed f)
      longer_by i inner sent listed known short =
          let a = ahead_at i listed (subst (λ b. AgreeAll w (view f) (where_true b (listed_before format i))) listed known) in
          let l = whole_length i a in
          let same_length = ap length sent in
          by_room (nat_le (offset_of format slots i) (length spot.bits)) refl l same_length short
        where
          by_room : (b : Bool) → nat_le (offset_of format slots i) (length spot.bits) ≡ b → offset_of format slots i + length (side_at (view f) i Compressed) ≤ length (packed f) →
              length (side_at (view f) i Compressed) ≡ length (packed inner) → length (drop (offset_of format slots i) spot.bits) < length (packed inner) → length spot.bits < length (packed f)
          by_room true e l same_length short = omega (arith, drop_length (offset_of format slots i) spot.bits (leb-true (offset_of format slots i) (length spot.bits) e), l, same_length, short)
          by_room false e l same_length short = omega (arith, leb-false (offset_of format slots i) (length spot.bits) e, l)

  -- ---- the end of a plan

  sides_same : (ds : List Field) (xs ys : List Sides) → declared_of xs ≡ declared_in ds → declared_of ys ≡ declared_in ds →
      ((i : ℕ) (d : Field) (side : Side) → slice_get ds i ≡ Some d → field_side (slice_get xs i) side ≡ field_side (slice_get ys i) side) → xs ≡ ys
  sides_same [] [] [] dx dy each = refl
  sides_same [] (x ∷ xs) ys dx dy each = absurd (cc)
  sides_same [] [] (y ∷ ys) dx dy each = absurd (cc)
  sides_same (d ∷ ds) [] ys dx dy each = absurd (cc)
  sides_same (d ∷ ds) (x ∷ xs) [] dx dy each = absurd (cc)
  sides_same (d ∷ ds) (x ∷ xs) (y ∷ ys) dx dy each =
      let name : x.declared ≡ y.declared = cc in
      let later_x : declared_of xs ≡ declared_in ds = cc in
      let later_y : declared_of ys ≡ declared_in ds = cc in
      λ j. record { declared = name j; uncompressed = each zero d Uncompressed refl j; compressed = each zero d Compressed refl j }
      ∷ sides_same ds xs ys later_x later_y (λ i. each (suc i)) j

  module _ (complete : (i : ℕ) (d : Field) (side : Side) → slice_get format.fields i ≡ Some d → knows_all format slots (wanted Read format i d side) ≡ true) where
    side_known : (i : ℕ) (d : Field) (side : Side) → slice_get format.fields i ≡ Some d → side_at w i side ≡ side_at (view f) i side
    side_known i d Uncompressed e = (agreed (wanted Read format i d Uncompressed) (complete i d Uncompressed e)).0
    side_known i d Compressed e = (agreed (wanted Read format i d Compressed) (complete i d Compressed e)).0

    level_known : level f ≡ slot_sides format.fields slots
    level_known = sides_same format.fields (level f) (slot_sides format.fields slots) p.level_fits.shaped.declared_is shape_w (λ i d side e. sym (side_known i d side e))

    none_inside : (i : ℕ) (o : Option Filling) → inner_at f i ≡ None → IfSome o (λ g. inner_at f i ≡ Some g) → inner_at f i ≡ o
    none_inside i None e has = e
    none_inside i (Some g) e has = absurd (let wrong : None ≡ Some g = sym e ∙ has in cc)

    was_called : (i : ℕ) (listed calls : Bool) → calls ≡ true → AgreeAll w (view f) (where_true (listed || calls) (Done i ∷ [])) → slot_inner (slice_get slots i) ≡ inner_at f i
    was_called i true calls e agree = agree.0.1
    was_called i false true e agree = agree.0.1
    was_called i false false e agree = absurd (cc)

    inside_known : (i : ℕ) (o : Option Field) → slice_get format.fields i ≡ o → (b : Bool) → calls_at o ≡ b → inner_at f i ≡ slot_inner (slice_get slots i)
    inside_known i o e false no_call =
        none_inside i (slot_inner (slice_get slots i)) (plain methods ctx spot format f p i (ap calls_at e ∙ no_call)) (has_inner format slots f h.count h.has (plain methods ctx spot format f p) i (slice_get slots i) refl)
    inside_known i None e true is_call = absurd (cc)
    inside_known i (Some d) e true calls =
        sym (was_called i (lists format.listing i) (is_call d.encoding) calls (agreed (wanted Read format i d Compressed) (complete i d Compressed e)).1)

    one_made : (g : Filling) → IsMade n format slots g → f ≡ g
    one_made g made =
        same f g (h.format_is ∙ sym made.format_is) (p.level_fits.shaped.listing_is ∙ sym made.listing_is) (level_known ∙ sym made.level_is)
        (λ i. inside_known i (slice_get format.fields i) refl (calls_at (slice_get format.fields i)) refl ∙ sym (made.inner_is i))

  pub only_made : (known : List Fact) → is_complete (goals_of Read format) known ≡ true → knows_all format slots known ≡ true → (g : Filling) → IsMade n format slots g → f ≡ g
  only_made known complete knows g made =
      one_made (λ i d side e. knows_all_had format slots known (wanted Read format i d side) (all_learnt Read format known complete i d side e) knows) g made

-- ---- the start

start_at : (listing : List ℕ) (n : ℕ) (ds : List Field) (i : ℕ) (s : Slot) → slice_get (start_slots listing n ds) i ≡ Some s → s ≡ start_slot listing (n + i)
start_at listing n [] i s e = absurd (cc)
start_at listing n (d ∷ ds) zero s e = let same : start_slot listing n ≡ s = cc in sym same ∙ ap (start_slot listing) (omega arith)
start_at listing n (d ∷ ds) (suc i) s e = start_at listing (suc n) ds i s e ∙ ap (start_slot listing) (omega arith)

pub start_has : StartHas
start_has methods ctx spot n format f ahead is at i s e =
    let p = fitted methods ctx spot n format f ahead.in_front.fits is at in
    let this : s ≡ start_slot format.listing (0 + i) = start_at format.listing 0 format.fields i s e in
    let here : s ≡ start_slot format.listing i = this ∙ ap (start_slot format.listing) (omega arith) in
    subst (HasSlot f i) (sym here) record { uncompressed = tt; compressed = compressed (lists format.listing i) refl; inner = tt } where
      compressed : (b : Bool) → lists format.listing i ≡ b → HasSide (side_at (view f) i Compressed) (start_side b)
      compressed true is = tt
      compressed false is' = unsent methods ctx spot format f (fitted methods ctx spot n format f ahead.in_front.fits is at) i is'

pub tree_leads : TreeLeads
tree_leads methods table are alike ctx spot f h m s nodes em es tree = told.follows methods ctx spot.method spot.args spot.path table are alike f h.in_front.fits spot.bits h.in_front.rest h.more (sym h.in_front.front) m s nodes em es tree
