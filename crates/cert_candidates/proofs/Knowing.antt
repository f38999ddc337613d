-- What the slots of a walk that writes know.
use Rattle.std.proofs.Common.{◌≡◌, refl, sym, ◌∙◌, ap, subst, ℕ, suc, Bool, true, false, List, [], ◌∷◌, ◌++◌, map}
use Rattle.std.specs.Prelude.{Option, Some, None, IfSome, slice_get, option_and_then, ◌&&◌, ◌||◌, not}
use Rattle.std.proofs.lemmas.Option.{same_Some}
use Rattle.sem_expr.specs.declared.expr.Expr.{Expr}
use Rattle.sem_expr.specs.declared.expr.Expr.TheVariants as expr
use Rattle.sem_expr.specs.declared.expr.Expr.TheVariants.{Number, Parameter, Binary'}
use Rattle.sem_expr.specs.declared.expr.Measure.{Measure}
use Rattle.sem_expr.specs.declared.expr.Measure.TheVariants as measure
use Rattle.sem_expr.specs.declared.expr.Subject.{Subject}
use Rattle.sem_expr.specs.declared.expr.Subject.TheVariants as subject
use Rattle.sem_expr.specs.declared.expr.Side.{Side}
use Rattle.sem_expr.specs.declared.expr.Side.TheVariants.{Uncompressed, Compressed}
use Rattle.sem_profile.specs.declared.profile.Encoding.{Encoding}
use Rattle.sem_profile.specs.declared.profile.Encoding.TheVariants as encoding
use Rattle.sem_profile.specs.declared.profile.Field.{Field}
use Rattle.sem_profile.specs.declared.profile.Format.{Format}
use Rattle.sem_profile.specs.declared.profile.Library.{Library}
use Rattle.sem_profile.specs.declared.profile.Library.TheVariants as library
use Rattle.sem_filling.specs.declared.filling.Filling.{Filling}
use Rattle.sem_filling.specs.Fillings.{is_header}
use Rattle.sem_profile.specs.Fields.{lists}
use Rattle.sem_profile.specs.HasBounds.{size_of}
use Rattle.sem_filling.proofs.FitsSized.{and_then_some, map_some}
use Rattle.cert_types.specs.declared.certificate.Step.{Step}
use Rattle.cert_types.specs.declared.certificate.Step.TheVariants.{Take, Call, LibraryUp, LibraryDown, MethodLength, ConstraintLength, Solve, Choose, Ask}
use Rattle.cert_types.specs.declared.rule.Fact.{Fact}
use Rattle.cert_types.specs.declared.rule.Fact.TheVariants.{LengthOf, BitsOf, Done}
use Rattle.cert_types.specs.declared.rule.Rule.{Rule}
use Rattle.cert_rules.specs.declared.slots.Slot.{Slot}
use Rattle.cert_rules.specs.Facts.{same_fact, has, has_all, has_none, fact_of, of_header, of_headers, side_facts, inputs, inputs_of_all, unlisted, at_start}
use Rattle.cert_rules.specs.Plans.{known_at_start}
use Rattle.cert_rules.specs.Reading.{start_slots}
use Rattle.cert_types.specs.declared.certificate.Version.TheVariants.{Two}
use Rattle.sem_profile.specs.declared.profile.FormatSizes.{FormatSizes}
use Rattle.sem_expr.specs.declared.expr.Expr.{Expr}
use Rattle.cert_rules.proofs.RulesConstraints.{given_cases}
use Rattle.cert_rules.specs.Rules.{up_needs, down_needs, size_inputs, length_needs, by_library, length_given, value_given, rule, Congruence, remainder_given, by_equation, by_remainder, by_value, common_rule}
use Rattle.cert_rules.specs.Slots.{has_bits, learnt_at, calls_at, is_there, slot_inner, knows, knows_all, Grows}
use Rattle.cert_rules.proofs.ViewsAgree.{and_true, same_is}
use Rattle.cert_rules.proofs.SlotsGrowing.{grown_know, start_knows}
use Rattle.cert_candidates.specs.Knowing.{writer_knows, writer_knows_all, StartKnown, NeedsKnown, GrownKnow, CommonKnown}

pub both_true : (a b : Bool) → a ≡ true → b ≡ true → (a && b) ≡ true
both_true a b e h = λ i. (e ∙ refl) i && h i

-- ---- facts that both directions know alike

abbrev pub NotDone : Fact → Type 0
NotDone (LengthOf side i) = Unit {0}
NotDone (BitsOf side i) = Unit {0}
NotDone (Done i) = ⊥

abbrev pub NoneDone : List Fact → Type 0
NoneDone [] = Unit {0}
NoneDone (x ∷ xs) = NotDone x × NoneDone xs

joined : (xs ys : List Fact) → NoneDone xs → NoneDone ys → NoneDone (xs ++ ys)
joined [] ys h k = k
joined (x ∷ xs) ys h k = (h.0, joined xs ys h.1 k)

module _ (format : Format) (slots : List Slot) where
  alike_one : (x : Fact) → NotDone x → writer_knows format slots x ≡ knows format slots x
  alike_one (LengthOf side i) h = refl
  alike_one (BitsOf side i) h = refl
  alike_one (Done i) h = absurd h

  pub alike : (xs : List Fact) → NoneDone xs → writer_knows_all format slots xs ≡ knows_all format slots xs
  alike [] h = refl
  alike (x ∷ xs) h = λ i. alike_one x h.0 i && alike xs h.1 i

-- ---- what expressions and library methods need

fact_plain : (side : Side) (m : Measure) (i : ℕ) → NotDone (fact_of side m i)
fact_plain side measure.Length i = tt
fact_plain side measure.Value i = tt

header_plain : (b : Bool) (x : Fact) (xs : List Fact) → NotDone x → NoneDone xs → NoneDone (of_header b x xs)
header_plain true x xs h k = (h, k)
header_plain false x xs h k = k

headers_plain : (side : Side) (m : Measure) (n : ℕ) (ds : List Field) → NoneDone (of_headers (fact_of side m) n ds)
headers_plain side m n [] = tt
headers_plain side m n (d ∷ ds) = header_plain (is_header d.declared.part) (fact_of side m n) (of_headers (fact_of side m) (suc n) ds) (fact_plain side m n) (headers_plain side m (suc n) ds)

listed_plain : (side : Side) (m : Measure) (is : List ℕ) → NoneDone (map (fact_of side m) is)
listed_plain side m [] = tt
listed_plain side m (i ∷ is) = (fact_plain side m i, listed_plain side m is)

side_plain : (format : Format) (s : Subject) (side : Side) (m : Measure) → NoneDone (side_facts format s side m)
side_plain format (subject.Field i) side m = (fact_plain side m i, tt)
side_plain format subject.This Uncompressed m = headers_plain Uncompressed m 0 format.fields
side_plain format subject.This Compressed m = listed_plain Compressed m format.listing

pub inputs_plain : (format : Format) (e : Expr) → NoneDone (inputs format e)
inputs_plain format (Number s n) = tt
inputs_plain format (Parameter s i) = tt
inputs_plain format (expr.Attribute s t) = side_plain format t.subject t.side t.measure
inputs_plain format (Binary' s op p x q y) = joined (inputs format x) (inputs format y) (inputs_plain format x) (inputs_plain format y)

pub inputs_all_plain : (format : Format) (es : List Expr) → NoneDone (inputs_of_all format es)
inputs_all_plain format [] = tt
inputs_all_plain format (e ∷ es) = joined (inputs format e) (inputs_of_all format es) (inputs_plain format e) (inputs_all_plain format es)

up_plain : (format : Format) (i : ℕ) (l : Library) → NoneDone (up_needs format i l)
up_plain format i (library.UncompressedValue len v) = joined (inputs format len) (inputs format v) (inputs_plain format len) (inputs_plain format v)
up_plain format i (library.CompressedValue len v) = tt
up_plain format i (library.Irregular len) = (tt, tt)
up_plain format i library.Static = tt
up_plain format i (library.Lsb k offset) = (tt, joined (inputs format k) (inputs format offset) (inputs_plain format k) (inputs_plain format offset))
up_plain format i (library.Crc crc) = tt

down_plain : (format : Format) (i : ℕ) (l : Library) → NoneDone (down_needs format i l)
down_plain format i (library.UncompressedValue len v) = tt
down_plain format i (library.CompressedValue len v) = joined (inputs format len) (inputs format v) (inputs_plain format len) (inputs_plain format v)
down_plain format i (library.Irregular len) = (tt, tt)
down_plain format i library.Static = tt
down_plain format i (library.Lsb k offset) = (tt, inputs_plain format k)
down_plain format i (library.Crc crc) =
    let es = crc.bits ∷ crc.polynomial ∷ crc.initial ∷ crc.length ∷ [] in
    joined (side_facts format crc.subject crc.side measure.Value) (inputs_of_all format es) (side_plain format crc.subject crc.side measure.Value) (inputs_all_plain format es)

size_plain : (format : Format) (o : Option Expr) → NoneDone (size_inputs format o)
size_plain format None = tt
size_plain format (Some e) = inputs_plain format e

-- ---- the steps of both directions

pub record IsPlain (r : Rule) : Type 0 where
  pub needs : NoneDone r.needs
  pub gives : NoneDone r.gives

library_plain : (needs : Library → List Fact) (gives : List Fact) (e : Encoding) (r : Rule) → by_library needs gives e ≡ Some r → ((l : Library) → NoneDone (needs l)) → NoneDone gives → IsPlain r
library_plain needs gives (encoding.Library l) r e h k = let same = same_Some _ r e in subst IsPlain same record { needs = h l; gives = k }
library_plain needs gives encoding.Bare r e h k = absurd (cc)
library_plain needs gives (encoding.Call j es) r e h k = absurd (cc)

pub rule_plain : (sizes : FormatSizes) (format : Format) (step : Step) (r : Rule) → common_rule Two sizes format step ≡ Some r → IsPlain r
rule_plain sizes format (LibraryUp i) r e =
    let d = and_then_some _ (slice_get format.fields i) r e in
    library_plain (up_needs format i) _ d.0.encoding r d.2 (up_plain format i) (tt, (tt, tt))
rule_plain sizes format (LibraryDown i) r e =
    let d = and_then_some _ (slice_get format.fields i) r e in
    library_plain (down_needs format i) _ d.0.encoding r d.2 (down_plain format i) (tt, (tt, tt))
rule_plain sizes format (MethodLength i side) r e =
    let d = and_then_some _ (slice_get format.fields i) r e in
    library_plain (length_needs format side) _ d.0.encoding r d.2 (λ l. size_plain format (size_of side l)) (tt, tt)
rule_plain sizes format (ConstraintLength i side n) r e =
    let d = and_then_some _ (slice_get format.fields i) r e in
    let x = map_some _ (option_and_then (length_given i side) (slice_get format.constraints n)) r d.2 in
    subst IsPlain x.2 record { needs = inputs_plain format x.0; gives = (tt, tt) }
rule_plain sizes format (Solve i n) r e =
    let d = and_then_some (λ (d : Field). by_value Two sizes format i n) (slice_get format.fields i) r e in
    given_cases (by_equation format i n) (by_remainder sizes format i n) r IsPlain d.2
    (λ z h. let x = map_some (λ (e : Expr). rule (LengthOf Uncompressed i ∷ inputs format e) (BitsOf Uncompressed i ∷ [])) (option_and_then (value_given i) (slice_get format.constraints n)) z h in
    subst IsPlain x.2 record { needs = (tt, inputs_plain format x.0); gives = (tt, tt) })
    (λ z h. let x = map_some (λ (c : Congruence). rule (LengthOf Uncompressed i ∷ inputs format c.more ++ inputs format c.left) (BitsOf Uncompressed i ∷ [])) (option_and_then (remainder_given sizes i) (slice_get format.constraints n)) z h in
    subst IsPlain x.2 record { needs = (tt, joined (inputs format x.0.more) (inputs format x.0.left) (inputs_plain format x.0.more) (inputs_plain format x.0.left)); gives = (tt, tt) })
rule_plain sizes format (Take i) r e = absurd (cc)
rule_plain sizes format (Call i) r e = absurd (cc)
rule_plain sizes format (Choose i) r e = absurd (cc)
rule_plain sizes format (Ask i) r e = absurd (cc)

pub common_known : CommonKnown
common_known sizes format step r e slots = let h = rule_plain sizes format step r e in (alike format slots r.needs h.needs, alike format slots r.gives h.gives)

-- ---- the start

unlisted_plain : (b : Bool) (n : ℕ) (xs : List Fact) → NoneDone xs → NoneDone (unlisted b n xs)
unlisted_plain true n xs h = h
unlisted_plain false n xs h = (tt, (tt, h))

pub start_plain : (listing : List ℕ) (n : ℕ) (ds : List Field) → NoneDone (at_start listing n ds)
start_plain listing n [] = tt
start_plain listing n (d ∷ ds) = unlisted_plain (lists listing n) n (at_start listing (suc n) ds) (start_plain listing (suc n) ds)

pub start_known : StartKnown
start_known format = alike format (start_slots format.listing 0 format.fields) (known_at_start format) (start_plain format.listing 0 format.fields) ∙ start_knows format

-- ---- as slots grow

one_known : (b : Bool) → (b && true) ≡ true → b ≡ true
one_known true e = refl
one_known false e = absurd (cc)

or_kept : (a b c : Bool) → (b ≡ true → c ≡ true) → (a || b) ≡ true → (a || c) ≡ true
or_kept true b c h e = refl
or_kept false b c h e = h e

module _ (format : Format) (old new : List Slot) (grows : Grows old new) where
  one_kept : (x : Fact) → NotDone x → writer_knows format old x ≡ true → writer_knows format new x ≡ true
  one_kept x h e =
      let was : knows_all format old (x ∷ []) ≡ true = sym (alike format old (x ∷ []) (h, tt)) ∙ both_true (writer_knows format old x) true e refl in
      one_known (writer_knows format new x) (alike format new (x ∷ []) (h, tt) ∙ grown_know format old new (x ∷ []) grows was)

  inner_kept : (i : ℕ) (o : Option Slot) → slice_get old i ≡ o → is_there (slot_inner o) ≡ true → is_there (slot_inner (slice_get new i)) ≡ true
  inner_kept i None e h = absurd (cc)
  inner_kept i (Some s) e h = let t = grows i s e in ap (λ z. is_there (slot_inner z)) t.1 ∙ by s.inner t.0.inner t.2.inner h
    where
      by : (o q : Option Filling) → IfSome o (λ g. q ≡ Some g) → is_there o ≡ true → is_there q ≡ true
      by None q h e = absurd (cc)
      by (Some g) q h e = ap is_there h

  knows_kept : (x : Fact) → writer_knows format old x ≡ true → writer_knows format new x ≡ true
  knows_kept (LengthOf side i) e = one_kept (LengthOf side i) tt e
  knows_kept (BitsOf side i) e = one_kept (BitsOf side i) tt e
  knows_kept (Done i) e =
      let plain = not (calls_at (slice_get format.fields i)) in
      let b = and_true (has_bits (learnt_at old i Uncompressed)) (plain || is_there (slot_inner (slice_get old i))) e in
      both_true (has_bits (learnt_at new i Uncompressed)) (plain || is_there (slot_inner (slice_get new i))) (one_kept (BitsOf Uncompressed i) tt b.0)
      (or_kept plain (is_there (slot_inner (slice_get old i))) (is_there (slot_inner (slice_get new i))) (inner_kept i (slice_get old i) refl) b.1)

  all_kept : (xs : List Fact) → writer_knows_all format old xs ≡ true → writer_knows_all format new xs ≡ true
  all_kept [] e = refl
  all_kept (x ∷ xs) e =
      let b = and_true (writer_knows format old x) (writer_knows_all format old xs) e in
      both_true (writer_knows format new x) (writer_knows_all format new xs) (knows_kept x b.0) (all_kept xs b.1)

pub grown_known : GrownKnow
grown_known format old new xs grows e = all_kept format old new grows xs e

-- ---- what a step needs

module _ (format : Format) (slots : List Slot) where
  first_or_later : (x y : Fact) (rest b : Bool) → same_fact y x ≡ b → (b || rest) ≡ true → writer_knows format slots y ≡ true → (rest ≡ true → writer_knows format slots x ≡ true) → writer_knows format slots x ≡ true
  first_or_later x y rest true s e first later = ap (writer_knows format slots) (sym (same_is y x s)) ∙ first
  first_or_later x y rest false s e first later = later e

  knows_had : (known : List Fact) (x : Fact) → has known x ≡ true → writer_knows_all format slots known ≡ true → writer_knows format slots x ≡ true
  knows_had [] x e h = absurd (cc)
  knows_had (y ∷ ys) x e h =
      let b = and_true (writer_knows format slots y) (writer_knows_all format slots ys) h in
      first_or_later x y (has ys x) (same_fact y x) refl e b.0 (λ e. knows_had ys x e b.1)

  pub all_had : (known xs : List Fact) → has_all known xs ≡ true → writer_knows_all format slots known ≡ true → writer_knows_all format slots xs ≡ true
  all_had known [] e h = refl
  all_had known (x ∷ xs) e h =
      let b = and_true (has known x) (has_all known xs) e in
      both_true (writer_knows format slots x) (writer_knows_all format slots xs) (knows_had known x b.0 h) (all_had known xs b.1 h)

  pub left_known : (xs ys : List Fact) → writer_knows_all format slots (xs ++ ys) ≡ true → writer_knows_all format slots xs ≡ true
  left_known [] ys e = refl
  left_known (x ∷ xs) ys e = let b = and_true (writer_knows format slots x) (writer_knows_all format slots (xs ++ ys)) e in both_true (writer_knows format slots x) (writer_knows_all format slots xs) b.0 (left_known xs ys b.1)

  pub right_known : (xs ys : List Fact) → writer_knows_all format slots (xs ++ ys) ≡ true → writer_knows_all format slots ys ≡ true
  right_known [] ys e = e
  right_known (x ∷ xs) ys e = right_known xs ys (and_true (writer_knows format slots x) (writer_knows_all format slots (xs ++ ys)) e).1

pub needs_known : NeedsKnown
needs_known format slots known r e h = all_had format slots known r.needs (and_true (has_all known r.needs) (has_none known r.absent) e).0 h
