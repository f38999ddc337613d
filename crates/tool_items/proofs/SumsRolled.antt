-- Sums as they are written back, part by part.
use Rattle.std.proofs.Common.{◌≡◌, sym, ◌∙◌, ap, subst, ℕ, ◌+◌, ◌<◌, ◌≤◌, List, [], length, get_or, arith}
use Rattle.std.specs.Global.{Global}
use Rattle.std.specs.Prelude.{Vec, Result, Ok, Err, OnOk}
use Rattle.std.specs.Vec.{with_item}
use Rattle.std.specs.declared.alloc.AllocError.{AllocError}
use Rattle.sem_filling.specs.Fillings.{listing_of}
use Rattle.sem_filling.specs.declared.filling.Filling.{Filling}
use Rattle.tool_items.specs.declared.counts.Tally.{Tally}
use Rattle.tool_items.specs.declared.sums.Sums.{Sums, out-Sums, roll-Sums, out-roll-Sums}
use Rattle.tool_items.specs.declared.sums.FormatSums.{FormatSums, out-FormatSums, roll-FormatSums, out-roll-FormatSums}
use Rattle.tool_items.specs.declared.sums.PlaceSums.{PlaceSums}
use Rattle.tool_items.specs.Adding.{Adds, FormatAdds, ListedAdds, SameFormats, SamePlaces}
use Rattle.tool_items.specs.Counts.{one_more, tally}
use Rattle.tool_items.specs.Sums.{Level, Row, level_of, no_level, row_in, row_of, spot_in}
use Rattle.tool_items.proofs.SumsGrowing.{format_in, sums_more}
use Rattle.tool_items.proofs.SumsPlacing.{PlacesSoFar, place_more, places_start}

abbrev row : Tally → Vec PlaceSums Global → FormatSums
row all places = roll-FormatSums record { all = all; places = places }

abbrev level : Tally → Vec FormatSums Global → Sums
level all formats = roll-Sums record { all = all; formats = formats }

row_is : (all : Tally) (places : Vec PlaceSums Global) → row_of (row all places) ≡ record { all = all; places = places.items }
row_is all places = λ i. record { all = (out-roll-FormatSums (record { all = all; places = places }) i).all; places = (out-roll-FormatSums (record { all = all; places = places }) i).places.items }

level_is : (all : Tally) (formats : Vec FormatSums Global) → level_of (level all formats) ≡ record { all = all; formats = formats.items }
level_is all formats = λ i. record { all = (out-roll-Sums (record { all = all; formats = formats }) i).all; formats = (out-roll-Sums (record { all = all; formats = formats }) i).formats.items }

pub start_here : (f : Filling) (old : FormatSums) (all : Tally) (places : Vec PlaceSums Global) (n : ℕ) → all ≡ one_more f (out-FormatSums old).all → SamePlaces (out-FormatSums (row all (out-FormatSums old).places)).places.items places.items → n ≡ length (listing_of f)
    → n ≤ length places.items → PlacesSoFar f (row_of old) 0 (row_of (row (out-FormatSums (row all (out-FormatSums old).places)).all places))
start_here f old all places n is same count room =
    let before = row_is all (out-FormatSums old).places in
    let now = row_is (out-FormatSums (row all (out-FormatSums old).places)).all places in
    places_start f (row_of old) _ (ap (λ (r : Row). r.all) now ∙ ap (λ (r : Row). r.all) before ∙ is)
    (λ p. ap (λ (r : Row). spot_in r.places p) now ∙ same p ∙ ap (λ (r : Row). spot_in r.places p) before)
    (subst (λ k. length (listing_of f) ≤ k) (ap (λ (r : Row). length r.places) (sym now)) (omega (arith, count, room)))

pub next_here : (f : Filling) (old now : FormatSums) (i k : ℕ) (q r : PlaceSums) (listing : List ℕ) → listing ≡ listing_of f → i < length listing → k ≡ get_or listing i 0 → q ≡ get_or (out-FormatSums now).places.items i q → ListedAdds f k q r
    → PlacesSoFar f (row_of old) i (row_of now) → PlacesSoFar f (row_of old) (i + 1) (row_of (row (out-FormatSums now).all (with_item (out-FormatSums now).places i r)))
next_here f old now i k q r listing same lt at read adds so =
    let next = row_is (out-FormatSums now).all (with_item (out-FormatSums now).places i r) in
    place_more f (row_of old) i k (row_of now) _ q r (subst (λ xs. i < length xs) same lt) (at ∙ ap (λ xs. get_or xs i 0) same) read adds (ap (λ (r : Row). r.all) next) (ap (λ (r : Row). r.places) next) so

pub added_here : (f : Filling) (old : Sums) (all : Tally) (formats : Vec FormatSums Global) (count : ℕ) (g h : FormatSums) (done : Result (Unit {0}) AllocError) → all ≡ one_more f (out-Sums old).all → SameFormats (out-Sums (level all (out-Sums old).formats)).formats.items formats.items
    → count ≡ format_in f + 1 → count ≤ length formats.items → g ≡ get_or (out-Sums (level (out-Sums (level all (out-Sums old).formats)).all formats)).formats.items (format_in f) g → OnOk done (FormatAdds f g h)
    → OnOk done (Adds f old (level (out-Sums (level (out-Sums (level all (out-Sums old).formats)).all formats)).all (with_item (out-Sums (level (out-Sums (level all (out-Sums old).formats)).all formats)).formats (format_in f) h)))
added_here f old all formats count g h (Err e) is same reached room read adds = tt
added_here f old all formats count g h (Ok x) is same reached room read adds =
    let first = level_is all (out-Sums old).formats in
    let then = level_is (out-Sums (level all (out-Sums old).formats)).all formats in
    let last = level_is (out-Sums (level (out-Sums (level all (out-Sums old).formats)).all formats)).all (with_item (out-Sums (level (out-Sums (level all (out-Sums old).formats)).all formats)).formats (format_in f) h) in
    let mid : List FormatSums = (level_of (level (out-Sums (level all (out-Sums old).formats)).all formats)).formats in
    let there : mid ≡ formats.items = ap (λ (l : Level). l.formats) then in
    sums_more f (level_of old) _ mid g h (ap (λ (l : Level). l.all) last ∙ ap (λ (l : Level). l.all) then ∙ ap (λ (l : Level). l.all) first ∙ is)
    (λ n. ap (λ gs. row_in gs n) there ∙ same n ∙ ap (λ (l : Level). row_in l.formats n) first) (subst (λ gs. format_in f < length gs) (sym there) (omega (arith, reached, room))) read adds (ap (λ (l : Level). l.formats) last)

pub level_none : (all : Tally) (formats : Vec FormatSums Global) → all ≡ tally [] → formats.items ≡ [] → level_of (level all formats) ≡ no_level
level_none all formats none empty = level_is all formats ∙ (λ i. record { all = none i; formats = empty i })
