-- What the words of a line say, where they are a node or a step.
use Rattle.std.proofs.Common.{◌≡◌, ◌∙◌, sym, ap, subst, refl, cond, not, ℕ, suc, ◌+◌, ◌<◌, Bool, true, false, ◌⊎◌, inl, inr, List, [], ◌∷◌, ◌++◌, map, length, append_assoc, nat_lt, arith}
use Rattle.std.specs.Prelude.{ℤ, Option, Some, None, slice_get, option_and_then, option_map, codes, decimal}
use Rattle.std.specs.Fmt.{signed_decimal}
use Rattle.std.specs.List.{join_with_byte, position_or_len}
use Rattle.std.specs.Str.{bytes_eq}
use Rattle.std.proofs.lemmas.Bool.{ltb-true}
use Rattle.std.proofs.lemmas.Option.{slice_get_within, slice_get-map}
use Rattle.std.proofs.lemmas.Slice.Eq.{bytes_eq-Decides}
use Rattle.sem_expr.specs.declared.expr.Side.{Side}
use Rattle.sem_expr.specs.declared.expr.Side.TheVariants.{Uncompressed, Compressed}
use Rattle.sem_profile.specs.declared.profile.Format.{Format}
use Rattle.sem_profile.specs.declared.profile.Method.{Method}
use Rattle.sem_profile.specs.declared.profile.Part.{Part}
use Rattle.sem_profile.specs.declared.profile.Part.TheVariants as part
use Rattle.cert_types.specs.declared.certificate.Version.{Version}
use Rattle.cert_types.specs.declared.certificate.Version.TheVariants.{One, Two}
use Rattle.cert_types.specs.declared.certificate.Step.{Step}
use Rattle.cert_types.specs.declared.certificate.Step.TheVariants.{Take, Call, LibraryUp, LibraryDown, MethodLength, ConstraintLength, Solve, Choose, Ask}
use Rattle.cert_types.specs.declared.certificate.Node.{Node}
use Rattle.cert_types.specs.declared.certificate.Node.TheVariants.{Bit, Parameter, Reference, Leaf, Nowhere}
use Rattle.cert_text.specs.Drafts.{place_by, format_place, number_below, side_of, blank, constant_of, is_local, field_place, parameter_place, reference_place, parameter_node, reference_node, referring_node, node_of, step_on, step_of, plain_step, step_by, length_step}
use Rattle.cert_types.specs.Kept.{IsNodeKept, IsNodeIn, IsStepKept, offset_limit}
use Rattle.cert_types.specs.Of.{field_names, IsFirstKept, IsNodeOf, IsStepOf, IsConstraintBelow}
use Rattle.cert_text.specs.Text.{name_of, name_at, side_word, step_words, step_line, node_line, first_names, format_name}
use Rattle.cert_types.specs.Steps.{field_of}
use Rattle.cert_text.proofs.DraftsNumerals.{below_means, constant_means}
use Rattle.cert_text.proofs.DraftsSpaces.{spaced, spaced_side, step_word, step_more}
use Rattle.cert_text.proofs.Telling.{shown}

-- ---- what is there

pub then_some : {A : Type 0} (b : Bool) (x : Option A) (z : A) → cond b x None ≡ Some z → (b ≡ true) × (x ≡ Some z)
then_some true x z h = (refl, h)
then_some false x z h = absurd cc

pub if_some : {A : Type 0} (b : Bool) (x y : Option A) (z : A) → cond b x y ≡ Some z → ((b ≡ true) × (x ≡ Some z)) ⊎ (y ≡ Some z)
if_some true x y z h = inl (refl, h)
if_some false x y z h = inr h

pub map_some : {A B : Type 0} (f : A → B) (o : Option A) (z : B) → option_map f o ≡ Some z → (y : A) × (o ≡ Some y) × (f y ≡ z)
map_some f None z h = absurd cc
map_some f (Some y) z h = (y, refl, cc)

pub and_some : {A B : Type 0} (f : A → Option B) (o : Option A) (z : B) → option_and_then f o ≡ Some z → (y : A) × (o ≡ Some y) × (f y ≡ Some z)
and_some f None z h = absurd cc
and_some f (Some y) z h = (y, refl, h)

pub some_is : {A : Type 0} (x y : A) → Some x ≡ Some y → x ≡ y
some_is x y h = cc

passes : {A : Type 0} (p : A → Bool) (xs : List A) → position_or_len p xs < length xs → (x : A) × (slice_get xs (position_or_len p xs) ≡ Some x) × (p x ≡ true)
passes p [] h = absurd (omega arith)
passes p (y ∷ ys) h = by (p y) refl (passes p ys)
  where
    by : (b : Bool) → p y ≡ b → (position_or_len p ys < length ys → (x : _) × (slice_get ys (position_or_len p ys) ≡ Some x) × (p x ≡ true)) → (x : _) × (slice_get (y ∷ ys) (position_or_len p (y ∷ ys)) ≡ Some x) × (p x ≡ true)
    by true e more = let n : position_or_len p (y ∷ ys) ≡ 0 = ap (λ b. cond (not b) (1 + position_or_len p ys) 0) e in (y, ap (slice_get (y ∷ ys)) n, e)
    by false e more =
        let k : 1 + position_or_len p ys ≡ suc (position_or_len p ys) = omega arith in
        let n : position_or_len p (y ∷ ys) ≡ suc (position_or_len p ys) = ap (λ b. cond (not b) (1 + position_or_len p ys) 0) e ∙ k in
        let (x, at, is) = more (omega (arith, h, n)) in
        (x, ap (slice_get (y ∷ ys)) n ∙ at, is)

found : {A : Type 0} (p : A → Bool) (xs : List A) (i n : ℕ) (b : Bool) → nat_lt n (length xs) ≡ b → n ≡ position_or_len p xs → cond b (Some n) None ≡ Some i → (x : A) × (slice_get xs i ≡ Some x) × (p x ≡ true)
found p xs i n true l e h =
    let same : position_or_len p xs ≡ i = sym e ∙ some_is n i h in
    let (x, at, is) = passes p xs (subst (λ k. k < length xs) e (ltb-true n (length xs) l)) in
    (x, subst (λ k. slice_get xs k ≡ Some x) same at, is)
found p xs i n false l e h = absurd cc

pub place_means : {A : Type 0} (name_by : A → List ℕ) (name : List ℕ) (xs : List A) (i : ℕ) → place_by name_by name xs ≡ Some i → (x : A) × (slice_get xs i ≡ Some x) × (name ≡ name_by x)
place_means name_by name xs i h =
    let (x, at, is) = found (λ y. bytes_eq name (name_by y)) xs i (position_or_len (λ y. bytes_eq name (name_by y)) xs) _ refl refl h in
    (x, at, (bytes_eq-Decides name (name_by x)).0 is)

-- ---- nodes

pub record NodeSaid (v : Version) (m : Method) (word : List ℕ) (more : List (List ℕ)) (node : Node) : Type 0 where
  pub line : join_with_byte 32 (word ∷ more) ≡ node_line (shown m) node
  pub of : IsNodeOf m node
  pub kept : IsNodeKept node
  pub versed : IsNodeIn v node

versed_bit : (v : Version) (o : ℕ) → IsNodeIn v (Bit o)
versed_bit One o = tt
versed_bit Two o = tt

versed_leaf : (v : Version) (n : ℕ) → IsNodeIn v (Leaf n)
versed_leaf One n = tt
versed_leaf Two n = tt

versed_nowhere : (v : Version) → IsNodeIn v Nowhere
versed_nowhere One = tt
versed_nowhere Two = tt

versed_parameter : (v : Version) (i : ℕ) (c : ℤ) → IsNodeIn v (Parameter i c)
versed_parameter One i c = tt
versed_parameter Two i c = tt

-- what a place of a field that is not local says
common_means : (p : Part) (j i : ℕ) → cond (is_local p) None (Some j) ≡ Some i → (p ≡ part.Local → ⊥) × (j ≡ i)
common_means part.Header j i h = ((λ e. let wrong : part.Header ≡ part.Local = e in absurd cc), some_is j i h)
common_means part.Control j i h = ((λ e. let wrong : part.Control ≡ part.Local = e in absurd cc), some_is j i h)
common_means part.Local j i h = absurd cc

record ReferenceSaid (name : List ℕ) (formats : List Format) (i : ℕ) : Type 0 where
  kept : IsFirstKept formats i
  named : name ≡ name_at (first_names (map blank formats)) i

reference_said : (name : List ℕ) (formats : List Format) (i : ℕ) → reference_place name formats ≡ Some i → ReferenceSaid name formats i
reference_said name [] i h = absurd cc
reference_said name (f ∷ formats) i h =
    let (j, placed, there) = and_some _ (field_place name f) i h in
    let (d, at, named) = place_means (λ e. e.declared.name) name f.fields j placed in
    let (e, e_at, some) = and_some _ (slice_get f.fields j) i there in
    let same_field : e ≡ d = some_is e d (sym e_at ∙ at) in
    let (other, same) = common_means e.declared.part j i some in
    let shown_is : name_at (field_names f) j ≡ d.declared.name = ap name_of (slice_get-map (λ e. e.declared.name) f.fields j ∙ ap (option_map (λ e. e.declared.name)) at) in
    record {
      kept = record { field = e; field_at = ap (slice_get f.fields) (sym same) ∙ e_at; kept = other };
      named = named ∙ sym shown_is ∙ ap (name_at (field_names f)) same;
    }

parameter_said : (v : Version) (m : Method) (word a b : List ℕ) (node : Node) → word ≡ codes "param" → parameter_node m a b ≡ Some node → NodeSaid v m word (a ∷ b ∷ []) node
parameter_said v m word a b node is there =
    let (i, placed, more) = and_some _ (parameter_place a m) node there in
    let (name, at, named) = place_means (λ p. p) a m.parameters i placed in
    let (c, spelt, same) = map_some (Parameter i) _ node more in
    let means = constant_means c b spelt in
    let named_at : a ≡ name_at m.parameters i = named ∙ ap name_of (sym at) in
    subst (NodeSaid v m word (a ∷ b ∷ [])) same
    (record {
      line = (λ k. is k ++ 32 ∷ (named_at k ++ 32 ∷ means.0 k)) ∙ ap (λ t. codes "param " ++ t) (sym (spaced (name_at m.parameters i) (signed_decimal c)));
      of = slice_get_within m.parameters i name at;
      kept = means.1;
      versed = versed_parameter v i c;
    })

referring_said : (m : Method) (word a b : List ℕ) (node : Node) → reference_node m word a b ≡ Some node → NodeSaid Two m word (a ∷ b ∷ []) node
referring_said m word a b node h =
    let (is, there) = then_some (bytes_eq word (codes "ref")) _ node h in
    let (i, placed, more) = and_some _ (reference_place a m.formats) node there in
    let said = reference_said a m.formats i placed in
    let (c, spelt, same) = map_some (Reference i) (constant_of b) node more in
    let means = constant_means c b spelt in
    subst (NodeSaid Two m word (a ∷ b ∷ [])) same
    (record {
      line = (λ k. (bytes_eq-Decides word (codes "ref")).0 is k ++ 32 ∷ (said.named k ++ 32 ∷ means.0 k)) ∙ ap (λ t. codes "ref " ++ t) (sym (spaced (name_at (first_names (map blank m.formats)) i) (signed_decimal c)));
      of = said.kept;
      kept = means.1;
      versed = tt;
    })

versed_said : (v : Version) (m : Method) (word a b : List ℕ) (node : Node) → referring_node v m word a b ≡ Some node → NodeSaid v m word (a ∷ b ∷ []) node
versed_said One m word a b node h = absurd cc
versed_said Two m word a b node h = referring_said m word a b node h

pub node_said : (v : Version) (m : Method) (word : List ℕ) (more : List (List ℕ)) (node : Node) → node_of v m word more ≡ Some node → NodeSaid v m word more node
node_said v m word [] node h =
    let (is, same) = then_some (bytes_eq word (codes "none")) (Some Nowhere) node h in
    subst (NodeSaid v m word []) (some_is Nowhere node same) (record { line = (bytes_eq-Decides word (codes "none")).0 is; of = tt; kept = tt; versed = versed_nowhere v })
node_said v m word (a ∷ []) node h = either (if_some (bytes_eq word (codes "bit")) (option_map Bit _) _ node h)
  where
    either : ((bytes_eq word (codes "bit") ≡ true) × (option_map Bit (number_below offset_limit a) ≡ Some node)) ⊎ (cond (bytes_eq word (codes "leaf")) (option_map Leaf (format_place a m)) None ≡ Some node) → NodeSaid v m word (a ∷ []) node
    either (inl (is, there)) =
        let (n, spelt, same) = map_some Bit _ node there in
        let means = below_means offset_limit n a spelt in
        subst (NodeSaid v m word (a ∷ [])) same (record { line = λ i. (bytes_eq-Decides word (codes "bit")).0 is i ++ 32 ∷ means.0 i; of = tt; kept = means.1; versed = versed_bit v n })
    either (inr there) =
        let (is, known) = then_some (bytes_eq word (codes "leaf")) _ node there in
        let (n, placed, same) = map_some Leaf _ node known in
        let (f, at, named) = place_means (λ g. name_of g.name) a m.formats n placed in
        let shown_is : format_name (slice_get (map blank m.formats) n) ≡ name_of f.name = ap format_name (slice_get-map blank m.formats n ∙ ap (option_map blank) at) in
        subst (NodeSaid v m word (a ∷ [])) same (record { line = λ i. (bytes_eq-Decides word (codes "leaf")).0 is i ++ 32 ∷ (named ∙ sym shown_is) i; of = slice_get_within m.formats n f at; kept = tt; versed = versed_leaf v n })
node_said v m word (a ∷ b ∷ []) node h = either (if_some (bytes_eq word (codes "param")) (parameter_node m a b) (referring_node v m word a b) node h)
  where
    either : ((bytes_eq word (codes "param") ≡ true) × (parameter_node m a b ≡ Some node)) ⊎ (referring_node v m word a b ≡ Some node) → NodeSaid v m word (a ∷ b ∷ []) node
    either (inl (is, there)) = parameter_said v m word a b node ((bytes_eq-Decides word (codes "param")).0 is) there
    either (inr there) = versed_said v m word a b node there
node_said v m word (a ∷ b ∷ c ∷ more) node h = absurd cc

-- ---- steps

record StepOn (constraints i : ℕ) (word : List ℕ) (more : List (List ℕ)) (step : Step) : Type 0 where
  first : word ≡ step_word step
  others : more ≡ step_more step
  field : field_of step ≡ i
  below : IsConstraintBelow constraints step
  kept : IsStepKept step

plain_said : (constraints i : ℕ) (word : List ℕ) (step : Step) → plain_step i word ≡ Some step → StepOn constraints i word [] step
plain_said constraints i word step h = one (if_some (bytes_eq word (codes "take")) (Some (Take i)) _ step h)
  where
    known : (s : Step) → word ≡ step_word s → [] ≡ step_more s → field_of s ≡ i → IsConstraintBelow constraints s → IsStepKept s → Some s ≡ Some step → StepOn constraints i word [] step
    known s w o f b k e = subst (StepOn constraints i word []) (some_is s step e) (record { first = w; others = o; field = f; below = b; kept = k })

    four : (bytes_eq word (codes "ask") ≡ true) × (Some (Ask i) ≡ Some step) → StepOn constraints i word [] step
    four (is, e) = known (Ask i) ((bytes_eq-Decides word (codes "ask")).0 is) refl refl tt tt e

    three : ((bytes_eq word (codes "choose") ≡ true) × (Some (Choose i) ≡ Some step)) ⊎ (cond (bytes_eq word (codes "ask")) (Some (Ask i)) None ≡ Some step) → StepOn constraints i word [] step
    three (inl (is, e)) = known (Choose i) ((bytes_eq-Decides word (codes "choose")).0 is) refl refl tt tt e
    three (inr more) = four (then_some (bytes_eq word (codes "ask")) (Some (Ask i)) step more)

    two : ((bytes_eq word (codes "call") ≡ true) × (Some (Call i) ≡ Some step)) ⊎ (cond (bytes_eq word (codes "choose")) (Some (Choose i)) (cond (bytes_eq word (codes "ask")) (Some (Ask i)) None) ≡ Some step) → StepOn constraints i word [] step
    two (inl (is, e)) = known (Call i) ((bytes_eq-Decides word (codes "call")).0 is) refl refl tt tt e
    two (inr more) = three (if_some (bytes_eq word (codes "choose")) (Some (Choose i)) _ step more)

    one : ((bytes_eq word (codes "take") ≡ true) × (Some (Take i) ≡ Some step)) ⊎ (cond (bytes_eq word (codes "call")) (Some (Call i)) (cond (bytes_eq word (codes "choose")) (Some (Choose i)) (cond (bytes_eq word (codes "ask")) (Some (Ask i)) None)) ≡ Some step) → StepOn constraints i word [] step
    one (inl (is, e)) = known (Take i) ((bytes_eq-Decides word (codes "take")).0 is) refl refl tt tt e
    one (inr more) = two (if_some (bytes_eq word (codes "call")) (Some (Call i)) _ step more)

by_said : (constraints i : ℕ) (word a : List ℕ) (step : Step) → step_by constraints i word a ≡ Some step → StepOn constraints i word (a ∷ []) step
by_said constraints i word a step h = one (if_some (bytes_eq word (codes "solve")) _ _ step h)
  where
    known : (s : Step) → word ≡ step_word s → a ∷ [] ≡ step_more s → field_of s ≡ i → IsConstraintBelow constraints s → IsStepKept s → s ≡ step → StepOn constraints i word (a ∷ []) step
    known s w o f b k e = subst (StepOn constraints i word (a ∷ [])) e (record { first = w; others = o; field = f; below = b; kept = k })

    three : word ≡ codes "library" → (bytes_eq a (codes "down") ≡ true) × (Some (LibraryDown i) ≡ Some step) → StepOn constraints i word (a ∷ []) step
    three w (is, e) = known (LibraryDown i) w (ap (λ t. t ∷ []) ((bytes_eq-Decides a (codes "down")).0 is)) refl tt tt (some_is _ step e)

    two : word ≡ codes "library" → ((bytes_eq a (codes "up") ≡ true) × (Some (LibraryUp i) ≡ Some step)) ⊎ (cond (bytes_eq a (codes "down")) (Some (LibraryDown i)) None ≡ Some step) → StepOn constraints i word (a ∷ []) step
    two w (inl (is, e)) = known (LibraryUp i) w (ap (λ t. t ∷ []) ((bytes_eq-Decides a (codes "up")).0 is)) refl tt tt (some_is _ step e)
    two w (inr more) = three w (then_some (bytes_eq a (codes "down")) (Some (LibraryDown i)) step more)

    one : ((bytes_eq word (codes "solve") ≡ true) × (option_map (Solve i) (number_below constraints a) ≡ Some step)) ⊎ (cond (bytes_eq word (codes "library")) (cond (bytes_eq a (codes "up")) (Some (LibraryUp i)) (cond (bytes_eq a (codes "down")) (Some (LibraryDown i)) None)) None ≡ Some step) → StepOn constraints i word (a ∷ []) step
    one (inl (is, there)) =
        let (n, spelt, same) = map_some (Solve i) _ step there in
        let means = below_means constraints n a spelt in
        known (Solve i n) ((bytes_eq-Decides word (codes "solve")).0 is) (ap (λ t. t ∷ []) means.0) refl means.1 means.2 same
    one (inr more) =
        let (is, there) = then_some (bytes_eq word (codes "library")) _ step more in
        two ((bytes_eq-Decides word (codes "library")).0 is) (if_some (bytes_eq a (codes "up")) (Some (LibraryUp i)) _ step there)

side_said : (word : List ℕ) (side : Side) → side_of word ≡ Some side → word ≡ side_word side
side_said word side h = one (if_some (bytes_eq word (codes "U")) (Some Uncompressed) _ side h)
  where
    one : ((bytes_eq word (codes "U") ≡ true) × (Some Uncompressed ≡ Some side)) ⊎ (cond (bytes_eq word (codes "C")) (Some Compressed) None ≡ Some side) → word ≡ side_word side
    one (inl (is, e)) = (bytes_eq-Decides word (codes "U")).0 is ∙ ap side_word (some_is Uncompressed side e)
    one (inr more) = let (is, e) = then_some (bytes_eq word (codes "C")) (Some Compressed) side more in (bytes_eq-Decides word (codes "C")).0 is ∙ ap side_word (some_is Compressed side e)

length_said : (constraints i : ℕ) (word a b : List ℕ) (step : Step) → length_step constraints i word a b ≡ Some step → StepOn constraints i word (a ∷ b ∷ []) step
length_said constraints i word a b step h =
    let (is, there) = then_some (bytes_eq word (codes "length")) _ step h in
    let (side, sided, more) = and_some _ (side_of a) step there in
    of ((bytes_eq-Decides word (codes "length")).0 is) side (side_said a side sided) (if_some (bytes_eq b (codes "method")) (Some (MethodLength i side)) _ step more)
  where
    of : word ≡ codes "length" → (side : Side) → a ≡ side_word side → ((bytes_eq b (codes "method") ≡ true) × (Some (MethodLength i side) ≡ Some step)) ⊎ (option_map (ConstraintLength i side) (number_below constraints b) ≡ Some step) → StepOn constraints i word (a ∷ b ∷ []) step
    of w side s (inl (is, e)) = subst (StepOn constraints i word (a ∷ b ∷ [])) (some_is _ step e) (record { first = w; others = λ k. s k ∷ (bytes_eq-Decides b (codes "method")).0 is k ∷ []; field = refl; below = tt; kept = tt })
    of w side s (inr more) =
        let (n, spelt, same) = map_some (ConstraintLength i side) _ step more in
        let means = below_means constraints n b spelt in
        subst (StepOn constraints i word (a ∷ b ∷ [])) same (record { first = w; others = λ k. s k ∷ means.0 k ∷ []; field = refl; below = means.1; kept = means.2 })

on_said : (constraints i : ℕ) (word : List ℕ) (more : List (List ℕ)) (step : Step) → step_on constraints i word more ≡ Some step → StepOn constraints i word more step
on_said constraints i word [] step h = plain_said constraints i word step h
on_said constraints i word (a ∷ []) step h = by_said constraints i word a step h
on_said constraints i word (a ∷ b ∷ []) step h = length_said constraints i word a b step h
on_said constraints i word (a ∷ b ∷ c ∷ more) step h = absurd cc

joined : (name : List ℕ) (step : Step) → join_with_byte 32 (step_word step ∷ name ∷ step_more step) ≡ step_words name step
joined name (Take i) = refl
joined name (Call i) = refl
joined name (LibraryUp i) = refl
joined name (LibraryDown i) = refl
joined name (MethodLength i side) = ap (λ t. codes "length " ++ t) (sym (spaced_side name (side_word side) (codes " method")))
joined name (ConstraintLength i side n) =
    ap (λ t. codes "length " ++ t)
    (sym (ap (λ t. t ++ decimal n) (spaced_side name (side_word side) (codes " ")) ∙ append_assoc name (32 ∷ (side_word side ++ codes " ")) (decimal n) ∙ ap (λ t. name ++ 32 ∷ t) (spaced (side_word side) (decimal n))))
joined name (Solve i n) = ap (λ t. codes "solve " ++ t) (sym (spaced name (decimal n)))
joined name (Choose i) = refl
joined name (Ask i) = refl

pub record StepSaid (f : Format) (word : List ℕ) (more : List (List ℕ)) (step : Step) : Type 0 where
  pub line : join_with_byte 32 (word ∷ more) ≡ step_line (field_names f) step
  pub of : IsStepOf f step
  pub kept : IsStepKept step

pub step_said : (f : Format) (word : List ℕ) (more : List (List ℕ)) (step : Step) → step_of f word more ≡ Some step → StepSaid f word more step
step_said f word [] step h = absurd cc
step_said f word (name ∷ more) step h =
    let (i, placed, there) = and_some _ _ step h in
    let (d, at, named) = place_means (λ e. e.declared.name) name f.fields i placed in
    let on = on_said (length f.constraints) i word more step there in
    let shown_is : name_at (field_names f) (field_of step) ≡ name = ap (name_at (field_names f)) on.field ∙ ap name_of (slice_get-map (λ e. e.declared.name) f.fields i ∙ ap (option_map (λ e. e.declared.name)) at) ∙ sym named in
    record {
      line = (λ k. join_with_byte 32 (on.first k ∷ name ∷ on.others k)) ∙ joined name step ∙ ap (λ n. step_words n step) (sym shown_is);
      of = record { field = subst (λ k. k < length f.fields) (sym on.field) (slice_get_within f.fields i d at); constraint = on.below };
      kept = on.kept;
    }
