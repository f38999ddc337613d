-- With a valid certificate no method that the top reaches has more candidates than the top.
use Rattle.std.proofs.Common.{◌≡◌, refl, sym, ◌∙◌, ap, subst, ℕ, zero, suc, ◌*◌, ◌^◌, ◌<◌, ◌≤◌, Bool, true, false, List, [], ◌∷◌, ◌++◌, length, map, inl, inr, arith}
use Rattle.std.specs.Prelude.{Option, Some, None, slice_get, option_and_then, option_map, unwrap_or, nat_eq, ◌||◌, ◌&&◌, not}
use Rattle.std.proofs.lemmas.Bool.{eqb-true, cases_lt}
use Rattle.std.proofs.lemmas.Nat.{pow_pos}
use Rattle.std.proofs.lemmas.Option.{slice_get_within, same_Some}
use Rattle.std.proofs.Math.Nat.{mul-le-mul_right, le-mul_of_pos_right}
use Rattle.sem_expr.specs.declared.expr.Side.TheVariants.{Uncompressed}
use Rattle.sem_profile.specs.declared.profile.Encoding.{Encoding}
use Rattle.sem_profile.specs.declared.profile.Encoding.TheVariants as encoding
use Rattle.sem_profile.specs.declared.profile.Field.{Field}
use Rattle.sem_profile.specs.declared.profile.Format.{Format}
use Rattle.sem_profile.specs.declared.profile.Library.{Library}
use Rattle.sem_profile.specs.declared.profile.Method.{Method}
use Rattle.sem_profile.specs.declared.profile.FormatSizes.{FormatSizes}
use Rattle.sem_profile.specs.declared.profile.MethodSizes.{MethodSizes}
use Rattle.sem_graph.specs.Calls.{Reaches, by_call, further}
use Rattle.sem_profile.specs.Fields.{lists}
use Rattle.sem_profile.specs.Methods.{CallsMethod, IsOrder}
use Rattle.sem_profile.specs.Outcome.{AreSizes}
use Rattle.sem_profile.specs.Rooted.{IsRooted}
use Rattle.sem_profile.specs.Uses.{Uses, IsReached}
use Rattle.sem_filling.specs.Fillings.{is_header}
use Rattle.sem_filling.proofs.FillingsUnique.{also_at}
use Rattle.sem_filling.specs.Fits.{format_at}
use Rattle.sem_filling.proofs.FitsSized.{and_then_some, map_some}
use Rattle.cert_types.specs.declared.certificate.Direction.TheVariants.{Write}
use Rattle.cert_types.specs.declared.certificate.Step.{Step}
use Rattle.cert_types.specs.declared.certificate.Step.TheVariants.{Take, Call, LibraryUp, LibraryDown, MethodLength, ConstraintLength, Solve, Choose, Ask}
use Rattle.cert_types.specs.declared.rule.Fact.{Fact}
use Rattle.cert_types.specs.declared.rule.Fact.TheVariants.{LengthOf, BitsOf, Done}
use Rattle.cert_types.specs.declared.rule.Rule.{Rule}
use Rattle.cert_types.specs.declared.certificate.Version.{Version}
use Rattle.cert_types.specs.declared.certificate.Version.TheVariants.{One, Two}
use Rattle.cert_rules.proofs.RulesConstraints.{given_cases}
use Rattle.cert_types.specs.Kept.{Entries}
use Rattle.cert_rules.specs.Counts.{ways, plan_ways, entry_ways, entry_at, callee, AreCounts}
use Rattle.cert_rules.specs.Facts.{same_fact, has, has_all, unlisted, at_start}
use Rattle.cert_rules.specs.Plans.{way_of, learnt, known_after, IsPlan}
use Rattle.cert_rules.specs.Rules.{choice, is_call, where_true, all_of, by_library, by_length, from_two, by_equation, by_remainder, by_value, write_take, write_call, write_rule}
use Rattle.cert_rules.specs.Valid.{Valid}
use Rattle.cert_rules.proofs.ViewsAgree.{and_true, not_true, when_some}
use Rattle.cert_rules.proofs.Counts.{one_count}
use Rattle.cert_rules.proofs.Plans.{all_learnt}
use Rattle.cert_rules.specs.Capped.{capped}
use Rattle.cert_candidates.specs.Codes.{called_at}
use Rattle.cert_rules.specs.Spans.{AreFew}
use Rattle.cert_candidates.specs.Laws.{KeptAreCounts}
use Rattle.cert_candidates.proofs.CodesBounds.{ways_are}
use Rattle.cert_candidates.proofs.CodesFitting.{write_is, callee_call}
use Rattle.cert_candidates.proofs.CodesSums.{before_whole}

-- ---- which step makes a field done

or_false : (a : Bool) → (a || false) ≡ true → a ≡ true
or_false true e = refl
or_false false e = e

or_true : (a b : Bool) → b ≡ true → (a || b) ≡ true
or_true true b e = refl
or_true false b e = e

neither : (a b : Bool) → (a || b) ≡ false → (a ≡ false) × (b ≡ false)
neither true b e = absurd (cc)
neither false b e = (refl, e)

not_had : (xs ys : List Fact) (x : Fact) → has xs x ≡ false → has ys x ≡ false → has (xs ++ ys) x ≡ false
not_had [] ys x e e' = e'
not_had (y ∷ xs) ys x e e' =
    let n = neither (same_fact y x) (has xs x) e in
    ap (λ b. b || has (xs ++ ys) x) n.0 ∙ not_had xs ys x n.1 e'

-- a step of the plan gives the fact
record GivenBy (rules : Step → Option Rule) (steps : List Step) (x : Fact) : Type 0 where
  place : ℕ
  step : Step
  at : slice_get steps place ≡ Some step
  rule : Rule
  rule_is : rules step ≡ Some rule
  gives : has rule.gives x ≡ true

given_by : (rules : Step → Option Rule) (known : List Fact) (steps : List Step) (x : Fact) → has (known_after rules known steps) x ≡ true → has known x ≡ false → GivenBy rules steps x
given_by rules known [] x e none = absurd (let wrong : true ≡ false = sym e ∙ none in cc)
given_by rules known (s ∷ steps) x e none =
    by (rules s) refl (has (learnt (rules s)) x) refl (λ not_here. given_by rules (learnt (rules s) ++ known) steps x e (not_had (learnt (rules s)) known x not_here none))
  where
    later : GivenBy rules steps x → GivenBy rules (s ∷ steps) x
    later g = record { place = suc g.place; step = g.step; at = g.at; rule = g.rule; rule_is = g.rule_is; gives = g.gives }

    by : (o : Option Rule) → rules s ≡ o → (b : Bool) → has (learnt (rules s)) x ≡ b → (has (learnt (rules s)) x ≡ false → GivenBy rules steps x) → GivenBy rules (s ∷ steps) x
    by o is false here rest = later (rest here)
    by None is true here rest = absurd (let wrong : false ≡ true = ap (λ z. has (learnt z) x) (sym is) ∙ here in cc)
    by (Some r) is true here rest = record { place = 0; step = s; at = refl; rule = r; rule_is = is; gives = ap (λ z. has (learnt z) x) (sym is) ∙ here }

none_done : (listing : List ℕ) (n : ℕ) (ds : List Field) (i : ℕ) → has (at_start listing n ds) (Done i) ≡ false
none_done listing n [] i = refl
none_done listing n (d ∷ ds) i = by (lists listing n) (at_start listing (suc n) ds) (none_done listing (suc n) ds i) where
  by : (b : Bool) (xs : List Fact) → has xs (Done i) ≡ false → has (unlisted b n xs) (Done i) ≡ false
  by true xs e = e
  by false xs e = e

library_gives : (needs : Library → List Fact) (gives : List Fact) (e : Encoding) (r : Rule) → by_library needs gives e ≡ Some r → r.gives ≡ gives
library_gives needs gives (encoding.Library l) r e = ap (λ (z : Rule). z.gives) (sym (same_Some _ r e))
library_gives needs gives encoding.Bare r e = absurd (cc)
library_gives needs gives (encoding.Call k es) r e = absurd (cc)

call_gives : (table : List MethodSizes) (format : Format) (i : ℕ) (h : Bool) (e : Encoding) (r : Rule) → write_call table format i h e ≡ Some r → r.gives ≡ all_of i
call_gives table format i h (encoding.Call k es) r e = ap (λ (z : Rule). z.gives) (sym (same_Some _ r e))
call_gives table format i h encoding.Bare r e = absurd (cc)
call_gives table format i h (encoding.Library l) r e = absurd (cc)

never : (gives : List Fact) (r : Rule) (i : ℕ) (P : Type 0) → r.gives ≡ gives → has gives (Done i) ≡ false → has r.gives (Done i) ≡ true → P
never gives r i P is none h = absurd (let wrong : false ≡ true = sym none ∙ (ap (λ z. has z (Done i)) (sym is) ∙ h) in cc)

of_two : {A : Type 0} (version : Version) (o : Option A) (x : A) → from_two version o ≡ Some x → o ≡ Some x
of_two One o x e = absurd (cc)
of_two Two o x e = e

value_gives : (version : Version) (sizes : FormatSizes) (format : Format) (j n : ℕ) (r : Rule) → by_value version sizes format j n ≡ Some r → r.gives ≡ BitsOf Uncompressed j ∷ []
value_gives version sizes format j n r e =
    given_cases (by_equation format j n) (from_two version (by_remainder sizes format j n)) r (λ (z : Rule). z.gives ≡ BitsOf Uncompressed j ∷ []) e
    (λ z q. let y = map_some _ _ z q in ap (λ (w : Rule). w.gives) (sym y.2))
    (λ z q. let y = map_some _ _ z (of_two version (by_remainder sizes format j n) z q) in ap (λ (w : Rule). w.gives) (sym y.2))

-- a field that is called is made done by its call alone
module _ (version : Version) (table : List MethodSizes) (sizes : FormatSizes) (format : Format) (i : ℕ) (d : Field) (d_at : slice_get format.fields i ≡ Some d) (called : is_call d.encoding ≡ true) where
  only_call : (step : Step) (r : Rule) → write_rule version table sizes format step ≡ Some r → has r.gives (Done i) ≡ true → step ≡ Call i
  only_call (Take j) r e h =
      let x = and_then_some (write_take format j) (slice_get format.fields j) r e in
      let w = when_some (is_header x.0.declared.part && not (is_call x.0.encoding)) _ r x.2 in
      let here : has (BitsOf Uncompressed j ∷ Done j ∷ []) (Done i) ≡ true = ap (λ (z : Rule). has z.gives (Done i)) w.1 ∙ h in
      let same : j ≡ i = eqb-true j i (or_false (nat_eq j i) here) in
      let both : Some x.0 ≡ Some d = sym x.1 ∙ (ap (slice_get format.fields) same ∙ d_at) in
      let one : x.0 ≡ d = cc in
      let plain = not_true (is_call x.0.encoding) (and_true (is_header x.0.declared.part) (not (is_call x.0.encoding)) w.0).1 in
      absurd (let wrong : false ≡ true = sym plain ∙ (ap (λ (z : Field). is_call z.encoding) one ∙ called) in cc)
  only_call (Call j) r e h =
      let x = and_then_some _ (slice_get format.fields j) r e in
      let g = call_gives table format j _ x.0.encoding r x.2 in
      let here : has (all_of j) (Done i) ≡ true = ap (λ z. has z (Done i)) (sym g) ∙ h in
      ap Call (eqb-true j i (or_false (nat_eq j i) here))
  only_call (LibraryUp j) r e h = let x = and_then_some _ (slice_get format.fields j) r e in never _ r i _ (library_gives _ _ x.0.encoding r x.2) refl h
  only_call (LibraryDown j) r e h = let x = and_then_some _ (slice_get format.fields j) r e in never _ r i _ (library_gives _ _ x.0.encoding r x.2) refl h
  only_call (MethodLength j side) r e h = let x = and_then_some _ (slice_get format.fields j) r e in never _ r i _ (library_gives _ _ x.0.encoding r x.2) refl h
  only_call (ConstraintLength j side n) r e h =
      let x = and_then_some (λ d. by_length format j side n) (slice_get format.fields j) r e in
      let y = map_some _ _ r x.2 in
      never (LengthOf side j ∷ []) r i _ (ap (λ (z : Rule). z.gives) (sym y.2)) refl h
  only_call (Solve j n) r e h =
      let x = and_then_some (λ d. by_value version sizes format j n) (slice_get format.fields j) r e in
      never (BitsOf Uncompressed j ∷ []) r i _ (value_gives version sizes format j n r x.2) refl h
  only_call (Choose j) r e h =
      let y = map_some _ (option_and_then (choice format j) (slice_get format.fields j)) r e in
      never (LengthOf Uncompressed j ∷ BitsOf Uncompressed j ∷ []) r i _ (ap (λ (z : Rule). z.gives) (sym y.2)) refl h
  only_call (Ask j) r e h =
      let x = and_then_some _ (slice_get format.fields j) r e in
      let w = when_some x.0.declared.asked _ r x.2 in
      never (LengthOf Uncompressed j ∷ BitsOf Uncompressed j ∷ []) r i _ (ap (λ (z : Rule). z.gives) (sym w.1)) refl h

  -- so a plan has that call
  call_in : (steps : List Step) → IsPlan (way_of version Write table sizes format) steps → (j : ℕ) × (slice_get steps j ≡ Some (Call i))
  call_in steps plan =
      let way = way_of version Write table sizes format in
      let known = known_after way.rule way.start steps in
      let all = all_learnt Write format known plan.complete i d Uncompressed d_at in
      let rest = (and_true (has known (BitsOf Uncompressed i)) (has_all known (where_true (is_header d.declared.part || is_call d.encoding) (Done i ∷ []))) all).1 in
      let due = or_true (is_header d.declared.part) (is_call d.encoding) called in
      let done : has_all known (Done i ∷ []) ≡ true = ap (λ b. has_all known (where_true b (Done i ∷ []))) (sym due) ∙ rest in
      let g = given_by way.rule way.start steps (Done i) (and_true (has known (Done i)) true done).0 (none_done format.listing 0 format.fields i) in
      (g.place, g.at ∙ ap Some (only_call g.step g.rule g.rule_is g.gives))

-- ---- ways

module _ (counts : List ℕ) (format : Format) (some : (i c n : ℕ) → called_at format i ≡ Some c → slice_get counts c ≡ Some n → 0 < n) where
  way : (step : Step) → 0 < ways counts format step
  way (Choose i) = by (option_and_then (choice format i) (slice_get format.fields i)) where
    by : (o : Option ℕ) → 0 < unwrap_or (option_map (λ n. 2 ^ n) o) 1
    by None = omega arith
    by (Some n) = pow_pos n
  way (Call i) = by (called_at format i) refl where
    count : (c : ℕ) (o : Option ℕ) → called_at format i ≡ Some c → slice_get counts c ≡ o → 0 < unwrap_or o 1
    count c None e at = omega arith
    count c (Some n) e at = some i c n e at

    by : (o : Option ℕ) → called_at format i ≡ o → 0 < unwrap_or (option_and_then (slice_get counts) o) 1
    by None e = omega arith
    by (Some c) e = count c (slice_get counts c) e refl
  way (Take i) = omega arith
  way (LibraryUp i) = omega arith
  way (LibraryDown i) = omega arith
  way (MethodLength i side) = omega arith
  way (ConstraintLength i side n) = omega arith
  way (Solve i n) = omega arith
  way (Ask i) = omega arith

  plan_way : (steps : List Step) → 0 < plan_ways counts format steps
  plan_way [] = omega arith
  plan_way (s ∷ steps) =
      let first : ways counts format s ≤ ways counts format s * plan_ways counts format steps = le-mul_of_pos_right (ways counts format s) (plan_way steps) in
      omega (arith, way s, first)

  -- a step has no more ways than its plan
  no_more : (steps : List Step) (j : ℕ) (s : Step) → slice_get steps j ≡ Some s → ways counts format s ≤ plan_ways counts format steps
  no_more [] j s e = absurd (cc)
  no_more (x ∷ steps) zero s e =
      let same : x ≡ s = cc in
      subst (λ z. ways counts format z ≤ ways counts format x * plan_ways counts format steps) same (le-mul_of_pos_right (ways counts format x) (plan_way steps))
  no_more (x ∷ steps) (suc j) s e =
      let rest = no_more steps j s e in
      let w = way x in
      let most : 1 * plan_ways counts format steps ≤ ways counts format x * plan_ways counts format steps = mul-le-mul_right (plan_ways counts format steps) (omega (arith, w)) in
      omega (arith, rest, most)

-- ---- methods

there : {X : Type 0} (xs : List X) (k : ℕ) → k < length xs → (x : X) × (slice_get xs k ≡ Some x)
there [] k l = absurd (omega (arith, l))
there (x ∷ xs) zero l = (x, refl)
there (x ∷ xs) (suc k) l = there xs k (omega (arith, l))

module _ (methods : List Method) (table : List MethodSizes) (top : ℕ) (version : Version) (cert : Entries) (order : List ℕ) (ordered : IsOrder methods order) (sized : AreSizes methods table) (rooted : IsRooted methods top)
    (valid : Valid methods table top (record { version = version; methods = cert })) (counts : List ℕ) (are : AreCounts methods cert counts) where
  count_of : (k : ℕ) (m : Method) → slice_get methods k ≡ Some m → (n : ℕ) × (slice_get counts k ≡ Some n)
  count_of k m at = also_at methods counts k m (sym are.each) at

  reached_on : (k j : ℕ) (m : Method) → slice_get methods k ≡ Some m → CallsMethod m j → IsReached methods top k → IsReached methods top j
  reached_on k j m at calls (inl same) = inr (subst (λ z. Reaches (Uses methods) z j) same (by_call record { method = m; at = at; calls = calls }))
  reached_on k j m at calls (inr reaches) = inr (further reaches record { method = m; at = at; calls = calls })

  -- what a field of the format calls, the method calls
  calls_of : (m : Method) (n i c : ℕ) (format : Format) → slice_get m.formats n ≡ Some format → called_at format i ≡ Some c → CallsMethod m c
  calls_of m n i c format at called =
      let d = and_then_some (λ (d : Field). callee d.encoding) (slice_get format.fields i) c called in
      let es = callee_call d.0.encoding c d.2 in
      record { format = format; format_place = n; format_at = at; field = d.0; field_place = i; field_at = d.1; arguments = es.0; is_call = es.1 }

  format_here : (k n : ℕ) (m : Method) (format : Format) → slice_get methods k ≡ Some m → slice_get m.formats n ≡ Some format → format_at methods k n ≡ Some format
  format_here k n m format at format_is = ap (option_and_then (λ (m : Method). slice_get m.formats n)) at ∙ format_is

  -- a method that is reached has a candidate
  some_before : (place p k : ℕ) → p < place → slice_get order p ≡ Some k → IsReached methods top k → (n : ℕ) → slice_get counts k ≡ Some n → 0 < n
  some_before zero p k l at reached n n_at = absurd (omega (arith, l))
  some_before (suc place) p k l at reached n n_at =
      let m = also_at counts methods k n are.each n_at in
      let first = there m.0.formats 0 (rooted.reached k m.0 m.1 reached) in
      let here = format_here k 0 m.0 first.0 m.1 first.1 in
      let w = write_is methods table top version cert sized valid k 0 first.0 here in
      let whole = before_whole methods cert counts are k 0 first.0 w.0 here w.1 n n_at in
      let product = plan_way counts first.0 (λ i c x called x_at.
      let calls = calls_of m.0 0 i c first.0 first.1 called in
      let q = ordered.before p k c m.0 at m.1 calls in
      some_before place q.0 c (omega (arith, l, q.1)) q.2 (reached_on k c m.0 m.1 calls reached) x x_at) w.0.write in
      omega (arith, whole, product)

  some_at : (k : ℕ) → IsReached methods top k → (n : ℕ) → slice_get counts k ≡ Some n → 0 < n
  some_at k reached n n_at =
      let m = also_at counts methods k n are.each n_at in
      let p = ordered.each k (slice_get_within methods k m.0 m.1) in
      some_before (suc p.0) p.0 k (omega arith) p.1 reached n n_at

  -- and no more than one that calls it
  fewer : (k j : ℕ) (m : Method) → slice_get methods k ≡ Some m → IsReached methods top k → CallsMethod m j → (x y : ℕ) → slice_get counts j ≡ Some x → slice_get counts k ≡ Some y → x ≤ y
  fewer k j m at reached calls x y x_at y_at =
      let here = format_here k calls.format_place m calls.format at calls.format_at in
      let w = write_is methods table top version cert sized valid k calls.format_place calls.format here in
      let call = call_in version table w.2 calls.format calls.field_place calls.field calls.field_at (ap is_call calls.is_call) w.0.write w.3 in
      let called : called_at calls.format calls.field_place ≡ Some j = ap (option_and_then (λ (d : Field). callee d.encoding)) calls.field_at ∙ ap callee calls.is_call in
      let own = ways_are counts calls.format calls.field_place j x called x_at in
      let part = no_more counts calls.format (λ i c n c_is n_at. some_at c (reached_on k c m at (calls_of m calls.format_place i c calls.format calls.format_at c_is) reached) n n_at) w.0.write call.0 (Call calls.field_place) call.1 in
      let whole = before_whole methods cert counts are k calls.format_place calls.format w.0 here w.1 y y_at in
      omega (arith, own, part, whole)

  along : {i k : ℕ} → Reaches (Uses methods) i k → i ≡ top → (x y : ℕ) → slice_get counts k ≡ Some x → slice_get counts i ≡ Some y → x ≤ y
  along {i} {k} (by_call u) same x y x_at y_at = fewer i k u.method u.at (inl same) u.calls x y x_at y_at
  along {i} {k} (further {j = j} reaches u) same x y x_at y_at =
      let z = count_of j u.method u.at in
      let more = along reaches same z.0 y z.1 y_at in
      let less = fewer j k u.method u.at (inr (subst (λ w. Reaches (Uses methods) w j) same reaches)) u.calls x z.0 x_at z.1 in
      omega (arith, more, less)

  -- no method has more than the top
  none_above : (y : ℕ) → slice_get counts top ≡ Some y → (k x : ℕ) → slice_get counts k ≡ Some x → x ≤ y
  none_above y y_at k x x_at = elim (cases_lt y x) [
    | inl more ↦
        let m = also_at counts methods k x are.each x_at in
        let none = rooted.unreached k m.0 m.1 (λ reached. let l = reached_below reached in omega (arith, l, more)) in
        let zero_ways = are.right k x m.0 m.1 x_at ∙ (ap (λ z. entry_ways counts z (entry_at cert k)) none ∙ no_formats (entry_at cert k)) in
        omega (arith, zero_ways)
    | inr past ↦ past
  ]
    where
      no_formats : (o : Option _) → entry_ways counts [] o ≡ 0
      no_formats None = refl
      no_formats (Some entry) = refl

      reached_below : IsReached methods top k → x ≤ y
      reached_below (inl same) = let both : Some x ≡ Some y = sym x_at ∙ (ap (slice_get counts) same ∙ y_at) in let one : x ≡ y = cc in omega (arith, one)
      reached_below (inr reaches) = along reaches refl x y x_at y_at

-- ---- what is kept

small_kept : (xs : List ℕ) → AreFew xs → map capped xs ≡ xs
small_kept [] few = refl
small_kept (x ∷ xs) few =
    let l = few 0 x refl in
    let here : capped x ≡ x = omega (arith, l) in
    let rest = small_kept xs (λ k. few (suc k)) in
    λ i. here i ∷ rest i

pub kept_are_counts : KeptAreCounts
kept_are_counts p version cert kept sound valid are =
    let counts = are.counts in
    let m = there p.methods p.top sound.within in
    let y = also_at p.methods counts p.top m.0 (sym are.are_counts.each) m.1 in
    let same = one_count p.methods sound.order cert valid.counts counts sound.ordered valid.are_counts are.are_counts in
    let few_top = valid.few y.0 (ap (λ z. slice_get z p.top) same ∙ y.1) in
    let few : AreFew counts = λ k x at. let l = none_above p.methods p.sizes p.top version cert sound.order sound.ordered sound.sized sound.rooted valid counts are.are_counts y.0 y.1 k x at in omega (arith, l, few_top) in
    let is : counts ≡ kept = sym (small_kept counts few) ∙ sym are.each in
    (subst (AreCounts p.methods cert) is are.are_counts, subst AreFew is few)
