-- Whether the names of a line that looks right are known where it stands.
use Rattle.std.proofs.Common.{◌≡◌, ◌∙◌, sym, ap, subst, refl, cond, not, ℕ, zero, suc, ◌+◌, ◌<◌, ◌==◌, Bool, true, false, ◌⊎◌, inl, inr, List, [], ◌∷◌, map, length, arith}
use Rattle.std.specs.Prelude.{Option, Some, None, IfSome, is_none, slice_get, option_and_then, option_map, codes}
use Rattle.std.specs.List.{AllZip, position_or_len}
use Rattle.std.specs.Str.{bytes_eq}
use Rattle.std.proofs.lemmas.Bool.{lt-ltb}
use Rattle.std.proofs.lemmas.List.{map-id}
use Rattle.std.proofs.lemmas.Option.{slice_get-map}
use Rattle.std.proofs.lemmas.Slice.Eq.{bytes_eq-Decides}
use Rattle.sem_expr.specs.declared.expr.Side.TheVariants.{Uncompressed, Compressed}
use Rattle.sem_profile.specs.declared.profile.Field.{Field}
use Rattle.sem_profile.specs.declared.profile.Format.{Format}
use Rattle.sem_profile.specs.declared.profile.Method.{Method}
use Rattle.sem_profile.specs.declared.profile.Part.{Part}
use Rattle.sem_profile.specs.declared.profile.Part.TheVariants as part
use Rattle.sem_profile.specs.Named.{FormatIsNamed, MethodIsNamed, AreNamed}
use Rattle.cert_types.specs.declared.certificate.Version.{Version}
use Rattle.cert_types.specs.declared.certificate.Version.TheVariants.{Two}
use Rattle.cert_types.specs.declared.certificate.Node.TheVariants.{Bit, Parameter, Reference, Leaf}
use Rattle.cert_types.specs.declared.certificate.Step.TheVariants.{MethodLength, ConstraintLength, Solve}
use Rattle.cert_text.specs.declared.draft.Draft.{Draft}
use Rattle.cert_text.specs.declared.draft.Standing.{Standing}
use Rattle.cert_text.specs.declared.draft.Stage.{Stage}
use Rattle.cert_text.specs.declared.draft.Stage.TheVariants as stage
use Rattle.cert_text.specs.Drafts.{open_method, place_by, method_place, format_place, field_place, parameter_place, reference_place, common_place, is_local, number_below, constant_of, step_on, step_of}
use Rattle.cert_types.specs.Kept.{offset_limit}
use Rattle.cert_types.specs.Of.{field_names}
use Rattle.cert_text.specs.Shapes.{method_within, stands_at, is_bare, lacks_format, lacks_node, lacks_step, is_unknown}
use Rattle.cert_text.specs.Table.{exactly, either, an_offset, a_constant, a_constraint, a_method, a_format, a_parameter, a_reference, a_field, Row, first_row, method_row, bit_row, param_row, ref_row, leaf_row, none_row, format_row, read_row, write_row, take_row, call_row, library_row, length_row, length_by_row, solve_row, choose_row, ask_row, end_row, kinds, is_number, LooksLike, IsBelow, IsConstant, IsInRange}
use Rattle.cert_text.specs.Tells.{IsAmong, IsReached, IsCommon, IsConstraint, IsKnown, IsRanged}
use Rattle.cert_text.proofs.DraftsDue.{method_at, format_at, due_of}
use Rattle.cert_text.specs.Text.{name_of}
use Rattle.cert_text.proofs.DraftsMeaning.{map_some, place_means, some_is}
use Rattle.cert_text.proofs.DraftsNumerals.{below_some, below_means, constant_some}
use Rattle.cert_text.proofs.Shaped.{as_one, as_two, as_three, as_four, of_one, of_two, of_three, of_four, name_here, some_name, either_way, no_method_word}

-- a test whether something is missing
abbrev pub Found : Bool → Type 0 → Type 0
Found b P = ((b ≡ true) × (P → ⊥)) ⊎ ((b ≡ false) × P)

found_as : {P Q : Type 0} (b c : Bool) → b ≡ c → (P → Q) → (Q → P) → Found c P → Found b Q
found_as b c e up down (inl h) = inl (e ∙ h.0, λ q. h.1 (down q))
found_as b c e up down (inr h) = inr (e ∙ h.0, up h.1)

-- ---- places

within : {A : Type 0} (p : A → Bool) (xs : List A) (i : ℕ) (x : A) → slice_get xs i ≡ Some x → p x ≡ true → position_or_len p xs < length xs
within p [] i x at h = absurd cc
within p (y ∷ ys) zero x at h =
    let same : y ≡ x = cc in
    let n : position_or_len p (y ∷ ys) ≡ 0 = ap (λ b. cond (not b) (1 + position_or_len p ys) 0) (ap p same ∙ h) in
    omega (arith, n)
within p (y ∷ ys) (suc i) x at h = by (p y) refl (within p ys i x at h)
  where
    by : (b : Bool) → p y ≡ b → position_or_len p ys < length ys → position_or_len p (y ∷ ys) < length (y ∷ ys)
    by true e l = let n : position_or_len p (y ∷ ys) ≡ 0 = ap (λ b. cond (not b) (1 + position_or_len p ys) 0) e in omega (arith, n)
    by false e l = let n : position_or_len p (y ∷ ys) ≡ 1 + position_or_len p ys = ap (λ b. cond (not b) (1 + position_or_len p ys) 0) e in omega (arith, n, l)

no_place : {A : Type 0} (name_by : A → List ℕ) (name : List ℕ) (xs : List A) → place_by name_by name xs ≡ None → (i : ℕ) (x : A) → slice_get xs i ≡ Some x → name_by x ≡ name → ⊥
no_place name_by name xs none i x at named =
    let n = position_or_len (λ y. bytes_eq name (name_by y)) xs in
    let l = within (λ y. bytes_eq name (name_by y)) xs i x at ((bytes_eq-Decides name (name_by x)).1 (sym named)) in
    let wrong : None ≡ Some n = sym none ∙ ap (λ b. cond b (Some n) None) (lt-ltb n (length xs) l) in
    absurd cc

among : {A : Type 0} (name_by : A → List ℕ) (name : List ℕ) (xs : List A) → Found (is_none (place_by name_by name xs)) (IsAmong (map name_by xs) name)
among name_by name xs = by (place_by name_by name xs) refl
  where
    by : (o : Option ℕ) → place_by name_by name xs ≡ o → Found (is_none (place_by name_by name xs)) (IsAmong (map name_by xs) name)
    by None e = inl (ap is_none e, λ h. let (x, at, is) = map_some name_by _ name (sym (slice_get-map name_by xs h.place) ∙ h.there) in no_place name_by name xs e h.place x at is)
    by (Some i) e = let (x, at, is) = place_means name_by name xs i e in inr (ap is_none e, record { place = i; there = slice_get-map name_by xs i ∙ ap (option_map name_by) at ∙ ap Some (sym is) })

parameter_among : (m : Method) (name : List ℕ) → Found (is_none (parameter_place name m)) (IsAmong m.parameters name)
parameter_among m name = subst (λ ps. Found (is_none (parameter_place name m)) (IsAmong ps name)) (map-id m.parameters) (among (λ p. p) name m.parameters)

-- ---- methods

bare_none : (m : Method) → (length m.formats == 0) ≡ true → 0 < length m.formats → ⊥
bare_none m e h = let wrong : true ≡ false = sym e ∙ name_here m.formats h in absurd cc

method_known : (methods : List Method) → AreNamed methods → (name : List ℕ) → Found (is_bare (option_and_then (slice_get methods) (method_place name methods))) (IsReached methods name)
method_known methods named name = by (method_place name methods) refl
  where
    bare : (k : ℕ) (m : Method) → method_place name methods ≡ Some k → slice_get methods k ≡ Some m → name ≡ m.name → ((length m.formats == 0) ≡ true) ⊎ ((length m.formats == 0) ≡ false) → Found (is_bare (option_and_then (slice_get methods) (method_place name methods))) (IsReached methods name)
    bare k m e at is (inl none) = inl (
      ap (λ o. is_bare (option_and_then (slice_get methods) o)) e ∙ ap is_bare at ∙ none,
      λ r.
          let here : r.place ≡ k = named.once r.place k r.method m r.there at (r.named ∙ is) in
          let same : r.method ≡ m = some_is r.method m (sym r.there ∙ ap (slice_get methods) here ∙ at) in
          bare_none m none (subst (λ x. 0 < length x.formats) same r.reached),
    )
    bare k m e at is (inr some) = inr (ap (λ o. is_bare (option_and_then (slice_get methods) o)) e ∙ ap is_bare at ∙ some, record { place = k; method = m; there = at; named = sym is; reached = some_name m.formats some })

    by : (o : Option ℕ) → method_place name methods ≡ o → Found (is_bare (option_and_then (slice_get methods) (method_place name methods))) (IsReached methods name)
    by None e = inl (ap (λ o. is_bare (option_and_then (slice_get methods) o)) e, λ r. no_place (λ m. m.name) name methods e r.place r.method r.there r.named)
    by (Some k) e = let (m, at, is) = place_means (λ m. m.name) name methods k e in bare k m e at is (either_way (length m.formats == 0))

-- ---- references

reference_known : (formats : List Format) → ((f : Format) → slice_get formats 0 ≡ Some f → FormatIsNamed f) → (name : List ℕ) → Found (is_none (reference_place name formats)) (IsCommon formats name)
reference_known [] named name = inl (refl, λ h. let wrong : None ≡ Some h.first = h.is_first in absurd cc)
reference_known (f ∷ formats) named name = by (field_place name f) refl
  where
    in_first : (h : IsCommon (f ∷ formats) name) → slice_get f.fields h.place ≡ Some h.field
    in_first h = let same : f ≡ h.first = some_is f h.first h.is_first in subst (λ g. slice_get g.fields h.place ≡ Some h.field) (sym same) h.there

    by_part : (j : ℕ) (d : Field) → field_place name f ≡ Some j → slice_get f.fields j ≡ Some d → name ≡ d.declared.name → (p : Part) → d.declared.part ≡ p → Found (is_none (reference_place name (f ∷ formats))) (IsCommon (f ∷ formats) name)
    by_part j d e at is part.Local q = inl (
      ap (λ o. is_none (option_and_then (common_place f) o)) e ∙ ap (λ o. is_none (option_and_then (λ x. cond (is_local x.declared.part) None (Some j)) o)) at ∙ ap (λ x. is_none (cond (is_local x) None (Some j))) q,
      λ h.
          let here : h.place ≡ j = named f refl h.place j h.field d (in_first h) at (h.named ∙ is) in
          let same : h.field ≡ d = some_is h.field d (sym (in_first h) ∙ ap (slice_get f.fields) here ∙ at) in
          h.common (ap (λ x. x.declared.part) same ∙ q),
    )
    by_part j d e at is part.Header q = inr (
      ap (λ o. is_none (option_and_then (common_place f) o)) e ∙ ap (λ o. is_none (option_and_then (λ x. cond (is_local x.declared.part) None (Some j)) o)) at ∙ ap (λ x. is_none (cond (is_local x) None (Some j))) q,
      record { first = f; place = j; field = d; is_first = refl; there = at; named = sym is; common = λ c. let wrong : part.Header ≡ part.Local = sym q ∙ c in absurd cc },
    )
    by_part j d e at is part.Control q = inr (
      ap (λ o. is_none (option_and_then (common_place f) o)) e ∙ ap (λ o. is_none (option_and_then (λ x. cond (is_local x.declared.part) None (Some j)) o)) at ∙ ap (λ x. is_none (cond (is_local x) None (Some j))) q,
      record { first = f; place = j; field = d; is_first = refl; there = at; named = sym is; common = λ c. let wrong : part.Control ≡ part.Local = sym q ∙ c in absurd cc },
    )

    by : (o : Option ℕ) → field_place name f ≡ o → Found (is_none (reference_place name (f ∷ formats))) (IsCommon (f ∷ formats) name)
    by None e = inl (ap (λ o. is_none (option_and_then (common_place f) o)) e, λ h. no_place (λ d. d.declared.name) name f.fields e h.place h.field (in_first h) h.named)
    by (Some j) e = let (d, at, is) = place_means (λ d. d.declared.name) name f.fields j e in by_part j d e at is d.declared.part refl

-- ---- nodes

none_map : {A B : Type 0} (f : A → B) (o : Option A) → is_none (option_map f o) ≡ is_none o
none_map f None = refl
none_map f (Some x) = refl

none_then : {A B C : Type 0} (f : A → C → B) (o : Option A) (p : Option C) (z : C) → p ≡ Some z → is_none (option_and_then (λ i. option_map (f i) p) o) ≡ is_none o
none_then f None p z e = refl
none_then f (Some x) p z e = ap (λ q. is_none (option_map (f x) q)) e

bit_known : (v : Version) (o : Option Method) (a : List ℕ) → IsBelow offset_limit a → lacks_node v o (codes "bit") (a ∷ []) ≡ false
bit_known v None a h = refl
bit_known v (Some m) a h = ap (λ q. is_none (option_map Bit q)) (below_some offset_limit h.number a (omega (arith, h.below)) h.below (sym h.spelled))

none_known : (v : Version) (o : Option Method) → lacks_node v o (codes "none") [] ≡ false
none_known v None = refl
none_known v (Some m) = refl

leaf_known : (v : Version) (o : Option Method) (a : List ℕ) → Found (lacks_node v o (codes "leaf") (a ∷ [])) (IfSome o (λ m. IsAmong (map (λ f. name_of f.name) m.formats) a))
leaf_known v None a = inr (refl, tt)
leaf_known v (Some m) a = found_as _ _ (none_map Leaf (format_place a m)) (λ x. x) (λ x. x) (among (λ f. name_of f.name) a m.formats)

param_known : (v : Version) (o : Option Method) (a b : List ℕ) → IsConstant b → Found (lacks_node v o (codes "param") (a ∷ b ∷ [])) (IfSome o (λ m. IsAmong m.parameters a))
param_known v None a b h = inr (refl, tt)
param_known v (Some m) a b h = found_as _ _ (none_then Parameter (parameter_place a m) (constant_of b) h.number (ap constant_of h.spelled ∙ constant_some h.number h.wide)) (λ x. x) (λ x. x) (parameter_among m a)

ref_known : (o : Option Method) → ((m : Method) → o ≡ Some m → MethodIsNamed m) → (a b : List ℕ) → IsConstant b → Found (lacks_node Two o (codes "ref") (a ∷ b ∷ [])) (IfSome o (λ m. IsCommon m.formats a))
ref_known None named a b h = inr (refl, tt)
ref_known (Some m) named a b h =
    found_as _ _ (none_then Reference (reference_place a m.formats) (constant_of b) h.number (ap constant_of h.spelled ∙ constant_some h.number h.wide)) (λ x. x) (λ x. x)
    (reference_known m.formats (λ f at. (named m refl).fields 0 f at) a)

format_known : (o : Option Method) (a : List ℕ) → Found (lacks_format o (a ∷ [])) (IfSome o (λ m. IsAmong (map (λ f. name_of f.name) m.formats) a))
format_known None a = inr (refl, tt)
format_known (Some m) a = among (λ f. name_of f.name) a m.formats

-- ---- steps

step_known : (f : Format) (word a : List ℕ) (more : List (List ℕ)) → ((i : ℕ) → is_none (step_on (length f.constraints) i word more) ≡ false) → Found (is_none (step_of f word (a ∷ more))) (IsAmong (field_names f) a)
step_known f word a more always = found_as _ _ (by (field_place a f)) (λ x. x) (λ x. x) (among (λ d. d.declared.name) a f.fields)
  where
    by : (o : Option ℕ) → is_none (option_and_then (λ i. step_on (length f.constraints) i word more) o) ≡ is_none o
    by None = refl
    by (Some i) = always i

-- a step by a constraint
constraint_known : (f : Format) (word a b : List ℕ) (more : List (List ℕ)) → ((i : ℕ) → is_none (step_on (length f.constraints) i word more) ≡ is_none (number_below (length f.constraints) b)) → Found (is_none (step_of f word (a ∷ more))) (IsAmong (field_names f) a × IsConstraint f b)
constraint_known f word a b more by_number = by (field_place a f) refl (among (λ d. d.declared.name) a f.fields)
  where
    numbered : (i : ℕ) → field_place a f ≡ Some i → IsAmong (field_names f) a → (o : Option ℕ) → number_below (length f.constraints) b ≡ o → Found (is_none (step_of f word (a ∷ more))) (IsAmong (field_names f) a × IsConstraint f b)
    numbered i e there None n = inl (
      ap (λ o. is_none (option_and_then (λ j. step_on (length f.constraints) j word more) o)) e ∙ by_number i ∙ ap is_none n,
      λ h. let wrong : None ≡ Some h.1.number = sym n ∙ below_some (length f.constraints) h.1.number b h.1.short h.1.there (sym h.1.spelled) in absurd cc,
    )
    numbered i e there (Some k) n =
        let m = below_means (length f.constraints) k b n in
        inr (ap (λ o. is_none (option_and_then (λ j. step_on (length f.constraints) j word more) o)) e ∙ by_number i ∙ ap is_none n, (there, record { number = k; there = m.1; short = m.2; spelled = m.0 }))

    by : (o : Option ℕ) → field_place a f ≡ o → Found (is_none (field_place a f)) (IsAmong (field_names f) a) → Found (is_none (step_of f word (a ∷ more))) (IsAmong (field_names f) a × IsConstraint f b)
    by None e (inl h) = inl (ap (λ o. is_none (option_and_then (λ j. step_on (length f.constraints) j word more) o)) e, λ x. h.1 x.0)
    by None e (inr h) = let wrong : true ≡ false = sym (ap is_none e) ∙ h.0 in absurd cc
    by (Some i) e (inl h) = let wrong : false ≡ true = sym (ap is_none e) ∙ h.0 in absurd cc
    by (Some i) e (inr h) = numbered i e h.1 (number_below (length f.constraints) b) refl

plain_known : (o : Option Format) (word a : List ℕ) (more : List (List ℕ)) → ((f : Format) (i : ℕ) → is_none (step_on (length f.constraints) i word more) ≡ false) → Found (lacks_step o word (a ∷ more)) (IfSome o (λ f. IsAmong (field_names f) a))
plain_known None word a more always = inr (refl, tt)
plain_known (Some f) word a more always = step_known f word a more (always f)

numbered_known : (o : Option Format) (word a b : List ℕ) (more : List (List ℕ)) → ((f : Format) (i : ℕ) → is_none (step_on (length f.constraints) i word more) ≡ is_none (number_below (length f.constraints) b))
    → Found (lacks_step o word (a ∷ more)) (IfSome o (λ f. IsAmong (field_names f) a) × IfSome o (λ f. IsConstraint f b))
numbered_known None word a b more by_number = inr (refl, (tt, tt))
numbered_known (Some f) word a b more by_number = constraint_known f word a b more (by_number f)

library_on : (f : Format) (i : ℕ) (b : List ℕ) → (b ≡ codes "up") ⊎ (b ≡ codes "down") → is_none (step_on (length f.constraints) i (codes "library") (b ∷ [])) ≡ false
library_on f i b (inl e) = ap (λ x. is_none (step_on (length f.constraints) i (codes "library") (x ∷ []))) e
library_on f i b (inr e) = ap (λ x. is_none (step_on (length f.constraints) i (codes "library") (x ∷ []))) e

method_on : (f : Format) (i : ℕ) (b c : List ℕ) → (b ≡ codes "U") ⊎ (b ≡ codes "C") → c ≡ codes "method" → is_none (step_on (length f.constraints) i (codes "length") (b ∷ c ∷ [])) ≡ false
method_on f i b c (inl e) s = λ j. is_none (step_on (length f.constraints) i (codes "length") (e j ∷ s j ∷ []))
method_on f i b c (inr e) s = λ j. is_none (step_on (length f.constraints) i (codes "length") (e j ∷ s j ∷ []))

length_on : (f : Format) (i : ℕ) (b c : List ℕ) → (b ≡ codes "U") ⊎ (b ≡ codes "C") → is_number c ≡ true → is_none (step_on (length f.constraints) i (codes "length") (b ∷ c ∷ [])) ≡ is_none (number_below (length f.constraints) c)
length_on f i b c side num = by side
  where
    by : (b ≡ codes "U") ⊎ (b ≡ codes "C") → is_none (step_on (length f.constraints) i (codes "length") (b ∷ c ∷ [])) ≡ is_none (number_below (length f.constraints) c)
    by (inl e) =
        ap (λ x. is_none (step_on (length f.constraints) i (codes "length") (x ∷ c ∷ []))) e
        ∙ ap (λ t. is_none (cond t (Some (MethodLength i Uncompressed)) (option_map (ConstraintLength i Uncompressed) (number_below (length f.constraints) c)))) (no_method_word c num)
        ∙ none_map (ConstraintLength i Uncompressed) (number_below (length f.constraints) c)
    by (inr e) =
        ap (λ x. is_none (step_on (length f.constraints) i (codes "length") (x ∷ c ∷ []))) e
        ∙ ap (λ t. is_none (cond t (Some (MethodLength i Compressed)) (option_map (ConstraintLength i Compressed) (number_below (length f.constraints) c)))) (no_method_word c num)
        ∙ none_map (ConstraintLength i Compressed) (number_below (length f.constraints) c)

-- ---- lines

abbrev pub unknown_in : Standing → List Method → List (List ℕ) → Bool
unknown_in place methods [] = false
unknown_in place methods (word ∷ more) = is_unknown place methods word more

abbrev pub NamesFound : List Method → Draft → Row → List (List ℕ) → Type 0
NamesFound methods d row ws = Found (unknown_in (stands_at d) methods ws) (AllZip (IsKnown methods (due_of methods d)) (kinds row) ws)

-- the method that is open has distinct names
open_named : (methods : List Method) → AreNamed methods → (d : Draft) (m : Method) → method_at methods d ≡ Some m → MethodIsNamed m
open_named methods named d m h = by d.stage h
  where
    by : (s : Stage) → method_within s (open_method methods d) ≡ Some m → MethodIsNamed m
    by stage.Version e = absurd cc
    by stage.Between e = absurd cc
    by stage.End e = absurd cc
    by stage.Tree e = named.each (length d.entries) m e
    by stage.Formats e = named.each (length d.entries) m e
    by stage.Head e = named.each (length d.entries) m e
    by stage.Read e = named.each (length d.entries) m e
    by stage.Write e = named.each (length d.entries) m e

pub names_found : (methods : List Method) → AreNamed methods → (d : Draft) (row : Row) (ws : List (List ℕ)) → IsRanged d.version row ws → NamesFound methods d row ws
names_found methods named d first_row ws h =
    let (a, b, is, p, q) = of_two LooksLike (exactly (codes "rohcfn-certificate")) (either (codes "1") (codes "2")) ws h.shape.alike in
    as_two (NamesFound methods d first_row) (codes "rohcfn-certificate") a b ws is p
    (inr (refl, (tt, (tt, tt))))
names_found methods named d method_row ws h =
    let (a, b, is, p, q) = of_two LooksLike (exactly (codes "method")) a_method ws h.shape.alike in
    as_two (NamesFound methods d method_row) (codes "method") a b ws is p
    (found_as _ _ refl (λ x. (tt, (x, tt))) (λ x. x.1.0) (method_known methods named b))
names_found methods named d bit_row ws h =
    let (a, b, is, p, q) = of_two LooksLike (exactly (codes "bit")) an_offset ws h.shape.alike in
    as_two (NamesFound methods d bit_row) (codes "bit") a b ws is p
    (inr (bit_known d.version (method_at methods d) b (subst (AllZip IsInRange (kinds bit_row)) is h.ranged).1.0, (tt, (tt, tt))))
names_found methods named d param_row ws h =
    let (a, b, c, is, p, q, r) = of_three LooksLike (exactly (codes "param")) a_parameter a_constant ws h.shape.alike in
    as_three (NamesFound methods d param_row) (codes "param") a b c ws is p
    (found_as _ _ refl (λ x. (tt, (x, (tt, tt)))) (λ x. x.1.0) (param_known d.version (method_at methods d) b c (subst (AllZip IsInRange (kinds param_row)) is h.ranged).1.1.0))
names_found methods named d ref_row ws h =
    let (a, b, c, is, p, q, r) = of_three LooksLike (exactly (codes "ref")) a_reference a_constant ws h.shape.alike in
    as_three (NamesFound methods d ref_row) (codes "ref") a b c ws is p
    (found_as _ _ (ap (λ v. lacks_node v (method_at methods d) (codes "ref") (b ∷ c ∷ [])) h.shape.in_version) (λ x. (tt, (x, (tt, tt)))) (λ x. x.1.0) (ref_known (method_at methods d) (open_named methods named d) b c (subst (AllZip IsInRange (kinds ref_row)) is h.ranged).1.1.0))
names_found methods named d leaf_row ws h =
    let (a, b, is, p, q) = of_two LooksLike (exactly (codes "leaf")) a_format ws h.shape.alike in
    as_two (NamesFound methods d leaf_row) (codes "leaf") a b ws is p
    (found_as _ _ refl (λ x. (tt, (x, tt))) (λ x. x.1.0) (leaf_known d.version (method_at methods d) b))
names_found methods named d none_row ws h =
    let (a, is, p) = of_one LooksLike (exactly (codes "none")) ws h.shape.alike in
    as_one (NamesFound methods d none_row) (codes "none") a ws is p
    (inr (none_known d.version (method_at methods d), (tt, tt)))
names_found methods named d format_row ws h =
    let (a, b, is, p, q) = of_two LooksLike (exactly (codes "format")) a_format ws h.shape.alike in
    as_two (NamesFound methods d format_row) (codes "format") a b ws is p
    (found_as _ _ refl (λ x. (tt, (x, tt))) (λ x. x.1.0) (format_known (method_at methods d) b))
names_found methods named d read_row ws h =
    let (a, is, p) = of_one LooksLike (exactly (codes "read")) ws h.shape.alike in
    as_one (NamesFound methods d read_row) (codes "read") a ws is p
    (inr (refl, (tt, tt)))
names_found methods named d write_row ws h =
    let (a, is, p) = of_one LooksLike (exactly (codes "write")) ws h.shape.alike in
    as_one (NamesFound methods d write_row) (codes "write") a ws is p
    (inr (refl, (tt, tt)))
names_found methods named d take_row ws h =
    let (a, b, is, p, q) = of_two LooksLike (exactly (codes "take")) a_field ws h.shape.alike in
    as_two (NamesFound methods d take_row) (codes "take") a b ws is p
    (found_as _ _ refl (λ x. (tt, (x, tt))) (λ x. x.1.0) (plain_known (format_at methods d) (codes "take") b [] (λ f i. refl)))
names_found methods named d call_row ws h =
    let (a, b, is, p, q) = of_two LooksLike (exactly (codes "call")) a_field ws h.shape.alike in
    as_two (NamesFound methods d call_row) (codes "call") a b ws is p
    (found_as _ _ refl (λ x. (tt, (x, tt))) (λ x. x.1.0) (plain_known (format_at methods d) (codes "call") b [] (λ f i. refl)))
names_found methods named d library_row ws h =
    let (a, b, c, is, p, q, r) = of_three LooksLike (exactly (codes "library")) a_field (either (codes "up") (codes "down")) ws h.shape.alike in
    as_three (NamesFound methods d library_row) (codes "library") a b c ws is p
    (found_as _ _ refl (λ x. (tt, (x, (tt, tt)))) (λ x. x.1.0) (plain_known (format_at methods d) (codes "library") b (c ∷ []) (λ f i. library_on f i c r)))
names_found methods named d length_row ws h =
    let (a, b, c, e, is, p, q, r, s) = of_four LooksLike (exactly (codes "length")) a_field (either (codes "U") (codes "C")) (exactly (codes "method")) ws h.shape.alike in
    as_four (NamesFound methods d length_row) (codes "length") a b c e ws is p
    (found_as _ _ refl (λ x. (tt, (x, (tt, (tt, tt))))) (λ x. x.1.0) (plain_known (format_at methods d) (codes "length") b (c ∷ e ∷ []) (λ f i. method_on f i c e r s)))
names_found methods named d length_by_row ws h =
    let (a, b, c, e, is, p, q, r, s) = of_four LooksLike (exactly (codes "length")) a_field (either (codes "U") (codes "C")) a_constraint ws h.shape.alike in
    as_four (NamesFound methods d length_by_row) (codes "length") a b c e ws is p
    (found_as _ _ refl (λ x. (tt, (x.0, (tt, (x.1, tt))))) (λ x. (x.1.0, x.1.1.1.0)) (numbered_known (format_at methods d) (codes "length") b e (c ∷ e ∷ []) (λ f i. length_on f i c e r s)))
names_found methods named d solve_row ws h =
    let (a, b, c, is, p, q, r) = of_three LooksLike (exactly (codes "solve")) a_field a_constraint ws h.shape.alike in
    as_three (NamesFound methods d solve_row) (codes "solve") a b c ws is p
    (found_as _ _ refl (λ x. (tt, (x.0, (x.1, tt)))) (λ x. (x.1.0, x.1.1.0)) (numbered_known (format_at methods d) (codes "solve") b c (c ∷ []) (λ f i. none_map (Solve i) (number_below (length f.constraints) c))))
names_found methods named d choose_row ws h =
    let (a, b, is, p, q) = of_two LooksLike (exactly (codes "choose")) a_field ws h.shape.alike in
    as_two (NamesFound methods d choose_row) (codes "choose") a b ws is p
    (found_as _ _ refl (λ x. (tt, (x, tt))) (λ x. x.1.0) (plain_known (format_at methods d) (codes "choose") b [] (λ f i. refl)))
names_found methods named d ask_row ws h =
    let (a, b, is, p, q) = of_two LooksLike (exactly (codes "ask")) a_field ws h.shape.alike in
    as_two (NamesFound methods d ask_row) (codes "ask") a b ws is p
    (found_as _ _ refl (λ x. (tt, (x, tt))) (λ x. x.1.0) (plain_known (format_at methods d) (codes "ask") b [] (λ f i. refl)))
names_found methods named d end_row ws h =
    let (a, is, p) = of_one LooksLike (exactly (codes "end")) ws h.shape.alike in
    as_one (NamesFound methods d end_row) (codes "end") a ws is p
    (inr (refl, (tt, tt)))
