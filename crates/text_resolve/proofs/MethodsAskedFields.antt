-- The asked fields of a profile: each format of the top asks for those of its first format, and no other method asks for any.
use Rattle.std.proofs.Common.{◌≡◌, ◌∙◌, ap, ℕ, suc, zero, ◌+◌, ◌<◌, inl, Bool, true, false, cond, List, [], ◌∷◌, length, map, refl, sym, subst, arith}
use Rattle.std.specs.Prelude.{ℤ, Option, Some, None, filter, is_some, slice_get, unwrap_or}
use Rattle.std.specs.List.{cons_option}
use Rattle.std.specs.Option.{option_map, option_or}
use Rattle.std.proofs.lemmas.Bool.{eqb-true}
use Rattle.text_tree.specs.declared.tree.Method.{Method as TreeMethod}
use Rattle.text_tree.specs.declared.tree.Part.{Part}
use Rattle.text_tree.specs.declared.tree.Section.{Section}
use Rattle.sem_profile.specs.declared.profile.Constraint.{Constraint}
use Rattle.sem_profile.specs.declared.profile.Field.{Field}
use Rattle.sem_profile.specs.declared.profile.Format.{Format}
use Rattle.sem_profile.specs.declared.profile.Method.{Method}
use Rattle.sem_profile.specs.Words.{word}
use Rattle.text_statements.specs.Names.{names, plain}
use Rattle.text_sections.specs.declared.mention.Mention.{Mention}
use Rattle.text_sections.specs.Names.{FieldCause, field}
use Rattle.text_statements.specs.Asked.{control_items}
use Rattle.text_statements.specs.Asked as given
use Rattle.text_statements.specs.Enforced.{set_names}
use Rattle.text_methods.specs.declared.drafts.Setting.{Setting}
use Rattle.text_methods.specs.Drafts.{fields, scope}
use Rattle.text_methods.specs.Fields.{is_one_of}
use Rattle.text_methods.specs.Formats.{IsFormat}
use Rattle.text_methods.specs.declared.methods.FileSetting.{FileSetting}
use Rattle.text_methods.specs.Methods.{IsMethod, bare_scope}
use Rattle.sem_profile.specs.declared.asked.AskedField.{AskedField}
use Rattle.sem_profile.specs.Asked.{length_by, length_of, is_asked, asked_from, asked_in, asked_by, asked_of, Asks, AreAsked}
use Rattle.sem_profile.specs.Uses.{AreReached}
use Rattle.sem_graph.proofs.OrderPushing.{some_is}
use Rattle.text_resolve.specs.Methods.{constant_mentions, is_at, AreMethods, no_methods, a_method, HaveForm}
use Rattle.text_resolve.specs.Parts.{methods_of}
use Rattle.text_resolve.proofs.MethodsAskedNames.{IsAsking, asked_is_control, asked_names_are}
use Rattle.text_resolve.proofs.MethodsAskedLengths.{lengths_alike, asked_length, same_index}
use Rattle.text_resolve.proofs.MethodsChosen.{field_of}
use Rattle.text_resolve.proofs.MethodsFielded.{IsOwn, choice}
use Rattle.text_resolve.proofs.WellFormedSoundKept.{surely_from, surely_same, with_format}
use Rattle.text_resolve.proofs.SoundMethods.{format_from}
use Rattle.text_resolve.proofs.CallsUsing.{element_at}

-- ---- the lengths that constraints give

length_from : (cs : List Constraint) (i : ℕ) (v : ℤ) → length_of cs i ≡ Some v → (k : ℕ) × (c : Constraint) × (slice_get cs k ≡ Some c) × (length_by i c ≡ Some v)
length_from [] i v e = let wrong : None ≡ Some v = e in absurd cc
length_from (c ∷ cs) i v e = by (length_by i c) refl e (λ e. length_from cs i v e)
  where
    by : (o : Option ℤ) → length_by i c ≡ o → option_or o (length_of cs i) ≡ Some v → (length_of cs i ≡ Some v → (k : ℕ) × (d : Constraint) × (slice_get cs k ≡ Some d) × (length_by i d ≡ Some v))
        → (k : ℕ) × (d : Constraint) × (slice_get (c ∷ cs) k ≡ Some d) × (length_by i d ≡ Some v)
    by (Some w) is e more = (0, c, refl, is ∙ e)
    by None is e more = let rest = more e in (suc rest.0, rest.1, rest.2, rest.3)

length_there : (cs : List Constraint) (i k : ℕ) (c : Constraint) (v : ℤ) → slice_get cs k ≡ Some c → length_by i c ≡ Some v → is_some (length_of cs i) ≡ true
length_there [] i k c v at gives = let wrong : None ≡ Some c = at in absurd cc
length_there (d ∷ cs) i zero c v at gives = ap (λ o. is_some (option_or o (length_of cs i))) (ap (length_by i) (some_is at) ∙ gives)
length_there (d ∷ cs) i (suc k) c v at gives = by (length_by i d) (length_there cs i k c v at gives)
  where
    by : (o : Option ℤ) → is_some (length_of cs i) ≡ true → is_some (option_or o (length_of cs i)) ≡ true
    by (Some w) more = refl
    by None more = more

-- ---- the asked fields of one format

abbrev with_length : Field → ℤ → AskedField
with_length d n = record { name = d.declared.name; length = n }

names_from : (cs : List Constraint) (k : ℕ) (ds : List Field) → ((j : ℕ) (d : Field) → slice_get ds j ≡ Some d → is_asked d ≡ true → is_some (length_of cs (k + j)) ≡ true)
    → map (λ (d : Field). d.declared.name) (filter is_asked ds) ≡ map (λ (a : AskedField). a.name) (asked_from cs k ds)
names_from cs k [] all = refl
names_from cs k (d ∷ ds) all =
    let here : k + 0 ≡ k = omega arith in
    by (is_asked d) (length_of cs k) (λ e. subst (λ n. is_some (length_of cs n) ≡ true) here (all 0 d refl e))
    (names_from cs (suc k) ds (λ j e at is. let next : k + suc j ≡ suc k + j = omega arith in subst (λ n. is_some (length_of cs n) ≡ true) next (all (suc j) e at is)))
  where
    by : (b : Bool) (o : Option ℤ) → (b ≡ true → is_some o ≡ true) → map (λ (d : Field). d.declared.name) (filter is_asked ds) ≡ map (λ (a : AskedField). a.name) (asked_from cs (suc k) ds)
        → map (λ (d : Field). d.declared.name) (cond b (d ∷ filter is_asked ds) (filter is_asked ds))
        ≡ map (λ (a : AskedField). a.name) (cons_option (cond b (option_map (with_length d) o) None) (asked_from cs (suc k) ds))
    by true (Some n) there more = ap (λ ns. d.declared.name ∷ ns) more
    by true None there more = let wrong : false ≡ true = there refl in absurd cc
    by false o there more = more

-- the field that is asked
record IsElement (cs : List Constraint) (k : ℕ) (ds : List Field) (a : AskedField) : Type 0 where
  place : ℕ
  element : Field
  at : slice_get ds place ≡ Some element
  named : element.declared.name ≡ a.name
  long : length_of cs (k + place) ≡ Some a.length

element_later : (cs : List Constraint) (k : ℕ) (d : Field) (ds : List Field) (a : AskedField) → IsElement cs (suc k) ds a → IsElement cs k (d ∷ ds) a
element_later cs k d ds a e =
    let next : suc k + e.place ≡ k + suc e.place = omega arith in
    record { place = suc e.place; element = e.element; at = e.at; named = e.named; long = subst (λ n. length_of cs n ≡ Some a.length) next e.long }

element_from : (cs : List Constraint) (k : ℕ) (ds : List Field) (n : ℕ) (a : AskedField) → slice_get (asked_from cs k ds) n ≡ Some a → IsElement cs k ds a
element_from cs k [] n a at = let wrong : None ≡ Some a = at in absurd cc
element_from cs k (d ∷ ds) n a at = by (is_asked d) (length_of cs k) refl n at (λ n at. element_from cs (suc k) ds n a at)
  where
    by : (b : Bool) (o : Option ℤ) → length_of cs k ≡ o → (n : ℕ)
        → slice_get (cons_option (cond b (option_map (with_length d) o) None) (asked_from cs (suc k) ds)) n ≡ Some a
        → ((n : ℕ) → slice_get (asked_from cs (suc k) ds) n ≡ Some a → IsElement cs (suc k) ds a) → IsElement cs k (d ∷ ds) a
    by true (Some v) is zero at more =
        let here : k ≡ k + 0 = omega arith in
        let same = some_is at in
        record {
          place = 0;
          element = d;
          at = refl;
          named = ap (λ (z : AskedField). z.name) same;
          long = subst (λ n. length_of cs n ≡ Some a.length) here (is ∙ ap (λ (z : AskedField). Some z.length) same);
        }
    by true (Some v) is (suc n) at more = element_later cs k d ds a (more n at)
    by true None is n at more = element_later cs k d ds a (more n at)
    by false o is n at more = element_later cs k d ds a (more n at)

-- ---- the formats of one method

-- a format of the setting, with its section
record IsOne (x : Setting) (f : Format) : Type 0 where
  number : ℕ
  section : Section
  form : IsFormat x number section f

own_field : (x : Setting) (f : Format) (o : IsOne x f) (i : ℕ) (d : Field) → slice_get f.fields i ≡ Some d → IsOwn x o.number o.section i d
own_field x f o i d at =
    field_of x (scope x o.number o.section) x.methods.now x.sections.now (choice x o.number o.section) (fields x o.number o.section) o.form.encodings o.form.encoded i d (ap (λ ds. slice_get ds i) (sym o.form.fields_are) ∙ at)

first_names : (x : Setting) (f : Format) → IsAsking x → (o : IsOne x f) → map (λ (d : Field). d.declared.name) (filter is_asked f.fields) ≡ map (λ (a : AskedField). a.name) (asked_in f)
first_names x f a o = names_from f.constraints 0 f.fields (λ j d at is.
    let own = own_field x f o j d at in
    let known = asked_length x o.number o.section f a o.form j own.mention own.at (sym (ap (λ (z : Field). z.declared.asked) own.is) ∙ is) in
    let here : j ≡ 0 + j = omega arith in
    subst (λ n. is_some (length_of f.constraints n) ≡ true) here (length_there f.constraints j known.1.number known.1.constraint known.0 known.1.at known.1.gives))

asks_one : (x : Setting) (first f : Format) → IsAsking x → IsOne x first → IsOne x f → Asks (asked_in first) f
asks_one x first f a o p = record {
  names = asked_names_are x p.number p.section f a p.form ∙ (sym (asked_names_are x o.number o.section first a o.form) ∙ first_names x first a o);
  control = λ i d at is.
      let own = own_field x f p i d at in
      ap (λ (z : Field). z.declared.part) own.is ∙ asked_is_control x p.number p.section i own.mention a own.at (sym (ap (λ (z : Field). z.declared.asked) own.is) ∙ is);
  lengths = λ i n d asked at there same.
      let e = element_from first.constraints 0 first.fields n asked there in
      let own = own_field x first o e.place e.element e.at in
      let other = own_field x f p i d at in
      let long = length_from first.constraints (0 + e.place) asked.length e.long in
      let here : 0 + e.place ≡ e.place = omega arith in
      let name = λ (z : Field). z.declared.name in
      lengths_alike x o.number p.number o.section p.section first f o.form p.form e.place i own.mention other.mention own.at other.at (sym (ap name own.is) ∙ (e.named ∙ (sym same ∙ ap name other.is))) asked.length
      (record { number = long.0; constraint = long.1; at = long.2; gives = subst (λ k. length_by k long.1 ≡ Some asked.length) here long.3 });
}

asks_each : (x : Setting) (fs : List Format) → IsAsking x → ((k : ℕ) (f : Format) → slice_get fs k ≡ Some f → IsOne x f) → (k : ℕ) (f : Format) → slice_get fs k ≡ Some f → Asks (asked_by fs) f
asks_each x [] a each k f at = let wrong : None ≡ Some f = at in absurd cc
asks_each x (first ∷ fs) a each k f at = asks_one x first f a (each 0 first refl) (each k f at)

-- ---- the methods of a file

-- the method of the tree, and whether it is the top
record HasPlace (file : FileSetting) (constants : List Mention) (is_top : Bool) (r : Method) : Type 0 where
  tree : TreeMethod
  is : IsMethod file constants tree is_top r

placed_form : (file : FileSetting) (constants : List Mention) (top : Option ℕ) (k : ℕ) (ms : List TreeMethod) (rs : List Method) → AreMethods file constants top k ms rs → (i : ℕ) (r : Method) → slice_get rs i ≡ Some r
    → HasPlace file constants (is_at top (k + i)) r
placed_form file constants top k ms rs no_methods i r at = let wrong : None ≡ Some r = at in absurd cc
placed_form file constants top k ms rs (a_method {m = m} {r = q} is rest) zero r at =
    let here : k ≡ k + 0 = omega arith in
    record { tree = m; is = subst (λ n. IsMethod file constants m (is_at top n) r) here (subst (IsMethod file constants m (is_at top k)) (some_is at) is) }
placed_form file constants top k ms rs (a_method {ms = more} {rs = others} is rest) (suc i) r at =
    let next : k + 1 + i ≡ k + suc i = omega arith in
    subst (λ n. HasPlace file constants (is_at top n) r) next (placed_form file constants top (k + 1) more others rest i r at)

one_of : (file : FileSetting) (constants : List Mention) (is_top : Bool) (r : Method) (p : HasPlace file constants is_top r) (k : ℕ) (f : Format) → slice_get r.formats k ≡ Some f → IsOne p.is.body.setting f
one_of file constants is_top r p k f at =
    let g = format_from p.is.body.setting 0 p.tree.sections r.formats p.is.body.formats_are k f at in
    record { number = 0 + g.place; section = g.section; form = g.is }

asking_of : (file : FileSetting) (constants : List Mention) (is_top : Bool) (r : Method) (p : HasPlace file constants is_top r) → is_top ≡ true → IsAsking p.is.body.setting
asking_of file constants is_top r p top =
    let m = p.tree in
    let x = p.is.body.setting in
    let same = p.is.body.is_setting in
    let s = bare_scope file m in
    let set = set_names s.text (control_items m.sections) in
    record {
      judged = λ f cause. p.is.named f (field (subst (λ ss. FieldCause file.text.now ss f) same.sections_are (subst (λ t. FieldCause t x.sections.now f) same.text_is cause)));
      scope = s;
      set = set;
      text = sym same.text_is;
      plain_is = λ at. λ i. plain (names (sym same.text_is i) (sym same.constants_are i) (sym same.values_are i) (sym same.parameters_are i) []) at;
      asked = subst (λ names_now. given.AreAsked s set (control_items x.sections.now) names_now) (sym p.is.body.has_givens.asked_are)
          (subst (λ ss. given.AreAsked s set (control_items ss) p.is.body.givens.asked) (sym same.sections_are) (p.is.body.given.asked top));
    }

-- another method asks for no field
none_asked : (file : FileSetting) (constants : List Mention) (is_top : Bool) (r : Method) (p : HasPlace file constants is_top r) → is_top ≡ false → (k i : ℕ) (f : Format) (d : Field)
    → slice_get r.formats k ≡ Some f → slice_get f.fields i ≡ Some d → is_asked d ≡ true → ⊥
none_asked file constants is_top r p other k i f d at here asked =
    let x = p.is.body.setting in
    let own = own_field x f (one_of file constants is_top r p k f at) i d here in
    let none : x.asked.now ≡ [] = p.is.body.has_givens.asked_are ∙ p.is.body.given.inner other in
    let wrong : false ≡ true = sym (ap (λ (ns : List (List ℕ)). is_one_of ns (word x.text.now own.mention.name)) none) ∙ (sym (ap (λ (z : Field). z.declared.asked) own.is) ∙ asked) in
    absurd cc

asked_at_top : (file : FileSetting) (constants : List Mention) (top j : ℕ) (b : Bool) → is_at (Some top) j ≡ b → (m : Method) → HasPlace file constants b m → (k i : ℕ) (f : Format) (d : Field)
    → slice_get m.formats k ≡ Some f → slice_get f.fields i ≡ Some d → is_asked d ≡ true → j ≡ top
asked_at_top file constants top j true e m p k i f d at here asked = sym (eqb-true top j e)
asked_at_top file constants top j false e m p k i f d at here asked = absurd (none_asked file constants false m p refl k i f d at here asked)

pub are_asked : (text : List ℕ) (parts : List Part) (top : ℕ) (methods : List Method) → HaveForm text parts (Some top) methods → AreAsked methods top (asked_of methods top)
are_asked text parts top methods form =
    let file = form.file in
    let constants = constant_mentions parts in
    let placed = λ (i : ℕ) (r : Method) (at : slice_get methods i ≡ Some r).
    let start : 0 + i ≡ i = omega arith in
    subst (λ n. HasPlace file constants (is_at (Some top) n) r) start (placed_form file constants (Some top) 0 (methods_of parts) methods form.are_methods i r at) in
    record {
      first = refl;
      each = λ k m f at here.
          let p = placed top m at in
          let asked : asked_of methods top ≡ asked_by m.formats = ap (λ o. unwrap_or (option_map (λ (m : Method). asked_by m.formats) o) []) at in
          subst (λ list. Asks list f) (sym asked)
          (asks_each p.is.body.setting m.formats (asking_of file constants (is_at (Some top) top) m p (same_index top)) (one_of file constants (is_at (Some top) top) m p) k f here);
      alone = λ j k i m f d at here there asked. asked_at_top file constants top j (is_at (Some top) j) refl m (placed j m at) k i f d here there asked;
    }

-- they stay so when methods that the top doesn't reach lose their formats
pub kept_asked : (methods kept : List Method) (top : ℕ) → top < length methods → AreAsked methods top (asked_of methods top) → AreReached methods top kept → AreAsked kept top (asked_of kept top)
kept_asked methods kept top within asked are =
    let old = element_at methods top within in
    let same : slice_get kept top ≡ slice_get methods top = are.reached top old.0 old.1 (inl refl) ∙ sym old.1 in
    let alike : asked_of kept top ≡ asked_of methods top = ap (λ o. unwrap_or (option_map (λ (m : Method). asked_by m.formats) o) []) same in
    record {
      first = refl;
      each = λ k m f at here. subst (λ list. Asks list f) (sym alike) (asked.each k m f (sym same ∙ at) here);
      alone = λ j k i m f d at here there is. surely_same j top (surely_from (with_format methods kept top j k m f are at here) (λ there_before. asked.alone j k i m f d there_before.1 here there is));
    }
