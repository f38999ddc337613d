-- The table of the numbers of candidates of formats, line by line, and the search for a number's format.
use Rattle.std.proofs.Common.{◌≡◌, refl, sym, ◌∙◌, ap, ℕ, zero, suc, ◌+◌, ◌<◌, ◌≤◌, List, [], ◌∷◌, ◌++◌, length, map, take, drop, get_or, arith}
use Rattle.std.specs.Prelude.{Some, None, slice_get}
use Rattle.std.proofs.lemmas.List.{append_assoc, append-nil, drop_more, drop_all, take_all}
use Rattle.std.proofs.lemmas.Option.{slice_get_within, get_or_from_slice_get}
use Rattle.sem_profile.specs.declared.profile.Format.{Format}
use Rattle.sem_profile.specs.declared.profile.Method.{Method}
use Rattle.sem_profile.specs.Passes.{indexed}
use Rattle.sem_profile.proofs.PassesPlaces.{indexed-more}
use Rattle.cert_types.specs.declared.certificate.FormatPlans.{FormatPlans}
use Rattle.cert_types.specs.Kept.{Entries}
use Rattle.cert_rules.specs.Counts.{format_ways, entry_at}
use Rattle.cert_rules.specs.Capped.{capped}
use Rattle.cert_rules.specs.Spans.{spans_of, entry_spans}

past : {A : Type 0} (xs : List A) (i : ℕ) → slice_get xs i ≡ None → length xs ≤ i
past [] i e = omega arith
past (x ∷ xs) zero e = absurd (cc)
past (x ∷ xs) (suc i) e = omega (arith, past xs i e)

rest_at : {A : Type 0} (xs : List A) (i : ℕ) (x : A) → slice_get xs i ≡ Some x → drop i xs ≡ x ∷ drop (i + 1) xs
rest_at xs i x at = drop_more xs i x (slice_get_within xs i x at) ∙ ap (λ y. y ∷ drop (i + 1) xs) (get_or_from_slice_get xs i x x at)

no_entries : (counts : List ℕ) (formats : List Format) → spans_of counts formats [] ≡ []
no_entries counts [] = refl
no_entries counts (f ∷ formats) = refl

-- ---- the formats of a method

module _ (counts : List ℕ) (formats : List Format) (entries : List FormatPlans) (i : ℕ) (found whole : List ℕ) (so : found ++ map capped (spans_of counts (drop i formats) (drop i entries)) ≡ whole) where
  pub format_more : (f : Format) (entry : FormatPlans) (newer : List ℕ) (count : ℕ) → slice_get formats i ≡ Some f → slice_get entries i ≡ Some entry → count ≡ capped (format_ways counts f entry.plans) → newer ≡ found ++ count ∷ [] →
      newer ++ map capped (spans_of counts (drop (i + 1) formats) (drop (i + 1) entries)) ≡ whole
  format_more f entry newer count f_at at is made =
      let rest = map capped (spans_of counts (drop (i + 1) formats) (drop (i + 1) entries)) in
      ap (λ xs. xs ++ rest) (made ∙ ap (λ n. found ++ n ∷ []) is) ∙ (append_assoc found (capped (format_ways counts f entry.plans) ∷ []) rest ∙
      (sym (λ j. found ++ map capped (spans_of counts (rest_at formats i f f_at j) (rest_at entries i entry at j))) ∙ so))

  pub entries_done : slice_get entries i ≡ None → found ≡ whole
  entries_done none =
      let empty : spans_of counts (drop i formats) (drop i entries) ≡ [] = ap (spans_of counts (drop i formats)) (drop_all i entries (past entries i none)) ∙ no_entries counts (drop i formats) in
      sym (append-nil found) ∙ (ap (λ xs. found ++ map capped xs) (sym empty) ∙ so)

  pub formats_done : length formats ≤ i → found ≡ whole
  formats_done end =
      let empty : spans_of counts (drop i formats) (drop i entries) ≡ [] = ap (λ xs. spans_of counts xs (drop i entries)) (drop_all i formats end) in
      sym (append-nil found) ∙ (ap (λ xs. found ++ map capped xs) (sym empty) ∙ so)

-- ---- the methods

map-indexed : {A B C : Type 0} (g : B → C) (f : ℕ → A → B) (n : ℕ) (xs : List A) → map g (indexed f n xs) ≡ indexed (λ k x. g (f k x)) n xs
map-indexed g f n [] = refl
map-indexed g f n (x ∷ xs) = ap (λ ys. g (f n x) ∷ ys) (map-indexed g f (n + 1) xs)

module _ (counts : List ℕ) (methods : List Method) (cert : Entries) where
  -- the lines of the first methods
  abbrev pub lines : ℕ → List (List ℕ)
  lines i = map (map capped) (indexed (λ k m. entry_spans counts m.formats (entry_at cert k)) 0 (take i methods))

  pub method_more : (i n : ℕ) (m : Method) (formats : List Format) (table newer : List (List ℕ)) (line : List ℕ) → i < length methods → m ≡ get_or methods i m → formats ≡ m.formats → n ≡ length table →
      line ≡ map capped (entry_spans counts formats (entry_at cert n)) → newer ≡ table ++ line ∷ [] → table ≡ lines i → newer ≡ lines (i + 1)
  method_more i n m formats table newer line lt at formats_are here is made so =
      let f = λ (k : ℕ) (m : Method). entry_spans counts m.formats (entry_at cert k) in
      let g = λ (k : ℕ) (m : Method). map capped (f k m) in
      let whole = λ (j : ℕ). map-indexed (map capped) f 0 (take j methods) in
      let own : line ≡ g (length table) m = is ∙ (λ j. map capped (entry_spans counts (formats_are j) (entry_at cert (here j)))) in
      made ∙ (ap (λ y. table ++ y ∷ []) own ∙ (indexed-more g methods i m table lt at (so ∙ whole i) ∙ sym (whole (i + 1))))

  pub methods_done : (i : ℕ) (table : List (List ℕ)) → length methods ≤ i → table ≡ lines i → table ≡ map (map capped) (indexed (λ k m. entry_spans counts m.formats (entry_at cert k)) 0 methods)
  methods_done i table end so = so ∙ ap (λ xs. map (map capped) (indexed (λ k m. entry_spans counts m.formats (entry_at cert k)) 0 xs)) (take_all i methods end)
