-- Entries that are listed, one after the other.
use Rattle.std.proofs.Common.{Global, length, ◌≡◌, refl, ℕ, ◌+◌, suc, Bool, true, false, cond, List, ◌++◌, take, get_or, ap, sym, ◌∙◌, subst, arith, inl, inr}
use Rattle.std.specs.Prelude.{Option, Some, None, Result, Ok, Err, OnOk, IsSome, String, is_some, not, option_and_then, replicate, ◌&&◌, ◌||◌, nat_eq, slice_get, string_bytes}
use Rattle.std.specs.Bool.{Decides}
use Rattle.std.specs.BTreeMap.{BTreeMap, get_by_text}
use Rattle.std.specs.BTreeSet.{contains_text}
use Rattle.std.specs.List.{list_any}
use Rattle.std.specs.Map.{update}
use Rattle.std.specs.Str.{bytes_eq}
use Rattle.std.proofs.lemmas.Bool.Decides.{Decides-eqb}
use Rattle.std.proofs.lemmas.Slice.Eq.{bytes_eq-Decides}
use Rattle.sem_profile.specs.declared.profile.Field.{Field}
use Rattle.sem_profile.specs.declared.profile.Format.{Format}
use Rattle.sem_profile.specs.declared.profile.Method.{Method}
use Rattle.sem_lint.specs.Entries.{Has, IsListed, IsListedBut, ListsEach, ListsField, Stay}
use Rattle.sem_lint.specs.NeedsSteps.{IsLeft, MayBe, SetsReached, SetsUsable, is_reached, is_usable, leaves, texts, reached_before, reached_in, reached_now, usable_before, usable_in, usable_now}
use Rattle.sem_lint.specs.Sites.{format_in}
use Rattle.sem_lint.specs.Paths.{is_local, keeps, keeps_by, keeps_in, keeps_of}
use Rattle.sem_lint.specs.declared.entries.EntrySource.{EntrySource}
use Rattle.sem_lint.specs.declared.growth.Flags.{Flags}
use Rattle.sem_lint.specs.declared.growth.Ground.{Ground}
use Rattle.sem_lint.specs.declared.growth.Growth.{Growth}
use Rattle.sem_lint.specs.declared.sites.Site.{Site}
use Rattle.sem_lint.proofs.NeedsAdding.{none_usable, set_other, sets_reached_moves, sets_usable_moves}
use Rattle.sem_lint.proofs.PathsLeading.{any_passes, one_passes}
use Rattle.sem_lint.proofs.SitesGrowing.{both, get_next}

same_Some : {A : Type 0} (x y : A) → Some x ≡ Some y → x ≡ y
same_Some x y e = cc

-- ---- the paths at the start

pub text_put : (bs path p : List ℕ) (x : Bool) → bs ≡ path → cond (bytes_eq bs p) true x ≡ (x || bytes_eq p path)
text_put bs path p x same = by (bytes_eq bs p) refl
  where
    or_true : (b : Bool) → true ≡ (b || true)
    or_true true = refl
    or_true false = refl

    or_false : (b : Bool) → b ≡ (b || false)
    or_false true = refl
    or_false false = refl

    other : (b : Bool) → bytes_eq p path ≡ b → bytes_eq bs p ≡ false → b ≡ false
    other false is apart = refl
    other true is apart =
        let e : bs ≡ p = same ∙ sym ((bytes_eq-Decides p path).0 is) in
        absurd (let wrong : true ≡ false = sym ((bytes_eq-Decides bs p).1 e) ∙ apart in cc)

    by : (b : Bool) → bytes_eq bs p ≡ b → cond b true x ≡ (x || bytes_eq p path)
    by true is = or_true x ∙ ap (λ z. x || z) (sym ((bytes_eq-Decides p path).1 (sym ((bytes_eq-Decides bs p).0 is) ∙ same)))
    by false isnt = or_false x ∙ ap (λ z. x || z) (sym (other (bytes_eq p path) refl isnt))

-- ---- an entry

module _ {Y : Type 0} where
  pub put_stays : (m n : BTreeMap (String Y) EntrySource) (bs : List ℕ) (source : EntrySource) → ((cs : List ℕ) → get_by_text n cs ≡ update bytes_eq (get_by_text m) bs (Some source) cs) → Stay m n
  put_stays m n bs source puts entry has = subst IsSome (sym (puts entry)) (by (bytes_eq bs entry))
    where
      by : (b : Bool) → IsSome (cond b (Some source) (get_by_text m entry))
      by true = refl
      by false = has

  pub put_there : (m n : BTreeMap (String Y) EntrySource) (bs : List ℕ) (source : EntrySource) → ((cs : List ℕ) → get_by_text n cs ≡ update bytes_eq (get_by_text m) bs (Some source) cs) → Has n bs
  put_there m n bs source puts = subst IsSome (sym (puts bs ∙ ap (λ b. cond b (Some source) (get_by_text m bs)) ((bytes_eq-Decides bs bs).1 refl))) refl

  -- ---- a field

  pub field_local : (path : List ℕ) (d : Field) (left : BTreeMap (String Y) EntrySource) → not (is_local d.declared.part) ≡ false → ListsField path d left left
  field_local path d left e = record {
    stay = λ entry has. has;
    own = λ name keeps. absurd (let wrong : true ≡ false = sym (both (not (is_local d.declared.part)) (bytes_eq d.declared.name name) keeps).0 ∙ e in cc);
  }

  pub field_kept : (path entry : List ℕ) (d : Field) (old new : BTreeMap (String Y) EntrySource) → entry ≡ path ++ d.declared.name → Stay old new → Has new entry → ListsField path d old new
  field_kept path entry d old new is stay has = record {
    stay = stay;
    own = λ name keeps.
        let same : d.declared.name ≡ name = (bytes_eq-Decides d.declared.name name).0 (both (not (is_local d.declared.part)) (bytes_eq d.declared.name name) keeps).1 in
        subst (Has new) (is ∙ ap (λ n. path ++ n) same) has;
  }

  pub field_passed : {A E : Type 0} (path entry : List ℕ) (d : Field) (old new : BTreeMap (String Y) EntrySource) (r : Result A E) → entry ≡ path ++ d.declared.name → OnOk r (Stay old new) → OnOk r (Has new entry) → OnOk r (ListsField path d old new)
  field_passed path entry d old new (Err e) is stay has = tt
  field_passed path entry d old new (Ok x) is stay has = field_kept path entry d old new is stay has

  -- ---- fields, and formats

  pub each_start : {A : Type 0} (path : List ℕ) (keep : List ℕ → A → Bool) (xs : List A) (left : BTreeMap (String Y) EntrySource) → ListsEach path keep (take 0 xs) left left
  each_start path keep xs left = record { stay = λ entry has. has; each = λ i x at name k. absurd (let none : None ≡ Some x = at in cc) }

  pub each_on : {A : Type 0} (path : List ℕ) (keep : List ℕ → A → Bool) (xs : List A) (i : ℕ) (d : A) (a b c : BTreeMap (String Y) EntrySource) → d ≡ get_or xs i d → ListsEach path keep (take i xs) a b
      → Stay b c → ((name : List ℕ) → keep name d ≡ true → Has c (path ++ name)) → ListsEach path keep (take (i + 1) xs) a c
  each_on {A} path keep xs i d a b c is so stay own = record {
    stay = λ entry has. stay entry (so.stay entry has);
    each = λ j x at name k.
        let more : suc i ≡ i + 1 = omega arith in
        elim (get_next xs i d j x (subst (λ n. slice_get (take n xs) j ≡ Some x) (sym more) at)) [
          | inl before ↦ stay (path ++ name) (so.each j x before name k)
          | inr this ↦ own name (subst (λ y. keep name y ≡ true) (sym (is ∙ this)) k)
        ];
  }

  pub format_own : (path : List ℕ) (f : Format) (a b : BTreeMap (String Y) EntrySource) → ListsEach path keeps_by f.fields a b → (name : List ℕ) → keeps_in name f ≡ true → Has b (path ++ name)
  format_own path f a b lists name k = let one = one_passes (keeps_by name) f.fields k in lists.each one.place one.element one.at name one.passes

-- ---- what is listed

pub given_found : (g : Ground) (k : Growth) (path name entry : List ℕ) → IsListed g k → entry ≡ path ++ name → contains_text k.given entry ≡ true → Decides true (MayBe g k.flags path name)
given_found g k path name entry listed is e = (λ _. inl (sym (listed.given (path ++ name)) ∙ ap (contains_text k.given) (sym is) ∙ e), λ _. refl)

pub given_not : (g : Ground) (k : Growth) (path name entry : List ℕ) (b : Bool) → IsListed g k → entry ≡ path ++ name → contains_text k.given entry ≡ false → Decides b (IsLeft g k.flags path name) → Decides b (MayBe g k.flags path name)
given_not g k path name entry b listed is e told = (
  λ yes. inr (told.0 yes),
  λ may. elim may [
    | inl given ↦ absurd (let wrong : true ≡ false = sym given ∙ sym (listed.given (path ++ name)) ∙ ap (contains_text k.given) (sym is) ∙ e in cc)
    | inr left ↦ told.1 left
  ],
)

pub left_unlisted : (g : Ground) (k : Growth) (path name entry : List ℕ) → IsListed g k → entry ≡ path ++ name → get_by_text k.left entry ≡ None → Decides false (IsLeft g k.flags path name)
left_unlisted g k path name entry listed is e = (
  λ yes. absurd (let wrong : false ≡ true = yes in cc),
  λ left. absurd (let wrong : true ≡ false = sym (listed.left path name left) ∙ ap (λ x. is_some (get_by_text k.left x)) (sym is) ∙ ap is_some e in cc),
)

-- a field that is there and keeps the name
pub field_keeps : (methods : List Method) (k n i : ℕ) (d : Field) (name : List ℕ) → option_and_then (λ (f : Format). slice_get f.fields i) (format_in methods k n) ≡ Some d → keeps_by name d ≡ true → keeps methods k name ≡ true
field_keeps methods k n i d name at e = by_method (slice_get methods k) refl at
  where
    by_format : (m : Method) (o : Option Format) → slice_get methods k ≡ Some m → slice_get m.formats n ≡ o → option_and_then (λ (f : Format). slice_get f.fields i) o ≡ Some d → keeps methods k name ≡ true
    by_format m None at_k at_n there = absurd (let none : None ≡ Some d = there in cc)
    by_format m (Some f) at_k at_n there = ap (keeps_of name) at_k ∙ any_passes (keeps_in name) m.formats n f at_n (any_passes (keeps_by name) f.fields i d there e)

    by_method : (o : Option Method) → slice_get methods k ≡ o → option_and_then (λ (f : Format). slice_get f.fields i) (option_and_then (λ (m : Method). slice_get m.formats n) o) ≡ Some d → keeps methods k name ≡ true
    by_method None at_k there = absurd (let none : None ≡ Some d = there in cc)
    by_method (Some m) at_k there = by_format m (slice_get m.formats n) at_k refl there

and_true : (a b : Bool) → a ≡ true → b ≡ true → (a && b) ≡ true
and_true a b x y = ap (λ z. z && b) x ∙ y

pub leaves_there : (g : Ground) (flags : List Flags) (path name : List ℕ) (j : ℕ) (s : Site) (b : Bool) → b ≡ (is_usable flags j && (is_reached flags j && bytes_eq (string_bytes s.path) path)) → keeps g.methods.now s.method name ≡ true → b ≡ true
    → leaves g.methods.now flags path name j s ≡ true
leaves_there g flags path name j s b is keep e =
    let (usable, more) = both (is_usable flags j) _ (sym is ∙ e) in
    let (reached, below) = both (is_reached flags j) _ more in
    and_true (is_usable flags j) (is_reached flags j && (bytes_eq (string_bytes s.path) path && keeps g.methods.now s.method name)) usable
    (and_true (is_reached flags j) (bytes_eq (string_bytes s.path) path && keeps g.methods.now s.method name) reached (and_true (bytes_eq (string_bytes s.path) path) (keeps g.methods.now s.method name) below keep))

-- ---- what becomes known of a site

abbrev leaves_by : List Method → List ℕ → List ℕ → Site → Option Flags → Bool
leaves_by methods path name s o = usable_in o && (reached_in o && (bytes_eq (string_bytes s.path) path && keeps methods s.method name))

apart_usable : (place j : ℕ) (old new : List Flags) (b : Bool) → SetsUsable place old new b → (j ≡ place → ⊥) → slice_get new j ≡ slice_get old j
apart_usable place j old _ _ (usable_before set) apart = refl
apart_usable place j old _ _ (usable_now f at off) apart = set_other old place j _ (λ e. apart (sym e))

apart_reached : (place j : ℕ) (old new : List Flags) (b : Bool) → SetsReached place old new b → (j ≡ place → ⊥) → slice_get new j ≡ slice_get old j
apart_reached place j old _ _ (reached_before set) apart = refl
apart_reached place j old _ _ (reached_now f at off) apart = set_other old place j _ (λ e. apart (sym e))

module _ (g : Ground) (k : Growth) (place : ℕ) where
  abbrev with_flags : List Flags → Growth
  with_flags new = record { flags = new; given = k.given; left = k.left }

  but_apart : (new : List Flags) → ((j : ℕ) → (j ≡ place → ⊥) → slice_get new j ≡ slice_get k.flags j) → IsListed g k → IsListedBut g place (with_flags new)
  but_apart new apart listed = record {
    given = listed.given;
    left = λ path name j s other at is. listed.left path name (j, s, at, sym (ap (leaves_by g.methods.now path name s) (apart j other)) ∙ is);
  }

  pub but_usable : (new : List Flags) (b : Bool) → SetsUsable place k.flags new b → IsListed g k → IsListedBut g place (record { flags = new; given = k.given; left = k.left })
  but_usable new b sets listed = but_apart new (λ j other. apart_usable place j k.flags new b sets other) listed

  pub but_reached : (new : List Flags) (b : Bool) → SetsReached place k.flags new b → IsListed g k → IsListedBut g place (record { flags = new; given = k.given; left = k.left })
  but_reached new b sets listed = but_apart new (λ j other. apart_reached place j k.flags new b sets other) listed

  pub listed_usable : (new : List Flags) (b : Bool) → SetsUsable place k.flags new b → b ≡ false → IsListed g k → IsListed g (record { flags = new; given = k.given; left = k.left })
  listed_usable new b sets e listed = subst (λ fs. IsListed g (with_flags fs)) (sym ((sets_usable_moves place k.flags new b sets).rests e)) listed

  pub listed_reached : (new : List Flags) (b : Bool) → SetsReached place k.flags new b → b ≡ false → IsListed g k → IsListed g (record { flags = new; given = k.given; left = k.left })
  listed_reached new b sets e listed = subst (λ fs. IsListed g (with_flags fs)) (sym ((sets_reached_moves place k.flags new b sets).rests e)) listed

  -- and what the site leaves is listed, or it leaves nothing
  all_but : (left : BTreeMap (String Global) EntrySource) → Stay k.left left → ((path name : List ℕ) (s : Site) → slice_get g.sites.now place ≡ Some s → leaves g.methods.now k.flags path name place s ≡ true → Has left (path ++ name)) → IsListedBut g place k
      → IsListed g (record { flags = k.flags; given = k.given; left = left })
  all_but left stay own but = record { given = but.given; left = λ path name l. by path name l.0 l.1 l.2 l.3 (nat_eq l.0 place) refl }
    where
      by : (path name : List ℕ) (j : ℕ) (s : Site) → slice_get g.sites.now j ≡ Some s → leaves g.methods.now k.flags path name j s ≡ true → (b : Bool) → nat_eq j place ≡ b → Has left (path ++ name)
      by path name j s at is true same =
          let e : j ≡ place = (Decides-eqb j place).0 same in
          own path name s (sym (ap (slice_get g.sites.now) e) ∙ at) (sym (ap (λ i. leaves g.methods.now k.flags path name i s) e) ∙ is)
      by path name j s at is false other =
          stay (path ++ name) (but.left path name j s (λ e. absurd (let wrong : true ≡ false = sym ((Decides-eqb j place).1 e) ∙ other in cc)) at is)

  pub but_nowhere : slice_get g.sites.now place ≡ None → IsListedBut g place k → IsListed g k
  but_nowhere none but = all_but k.left (λ entry has. has) (λ path name s at is. absurd (let wrong : None ≡ Some s = sym none ∙ at in cc)) but

  pub but_unused : (b : Bool) → b ≡ (is_usable k.flags place && is_reached k.flags place) → b ≡ false → IsListedBut g place k → IsListed g k
  but_unused b is e but = all_but k.left (λ entry has. has) (λ path name s at l.
      let (usable, more) = both (is_usable k.flags place) _ l in
      let (reached, rest) = both (is_reached k.flags place) _ more in
      absurd (let wrong : true ≡ false = sym (ap (λ x. x && is_reached k.flags place) usable ∙ reached) ∙ sym is ∙ e in cc)) but

  pub but_methodless : (s : Site) → slice_get g.sites.now place ≡ Some s → slice_get g.methods.now s.method ≡ None → IsListedBut g place k → IsListed g k
  but_methodless s at none but = all_but k.left (λ entry has. has) (λ path name t there l.
      let same : s ≡ t = same_Some s t (sym at ∙ there) in
      let keep = kept_of k.flags path name t l in
      absurd (let wrong : true ≡ false = sym keep ∙ ap (λ (x : Site). keeps g.methods.now x.method name) (sym same) ∙ ap (keeps_of name) none in cc)) but
    where
      kept_of : (flags : List Flags) (path name : List ℕ) (t : Site) → leaves g.methods.now flags path name place t ≡ true → keeps g.methods.now t.method name ≡ true
      kept_of flags path name t l =
          let (usable, more) = both (is_usable flags place) _ l in
          let (reached, rest) = both (is_reached flags place) _ more in
          (both (bytes_eq (string_bytes t.path) path) _ rest).1

  pub but_listed : {A E : Type 0} (s : Site) (m : Method) (own : List ℕ) (left : BTreeMap (String Global) EntrySource) (r : Result A E) → slice_get g.sites.now place ≡ Some s → slice_get g.methods.now s.method ≡ Some m → own ≡ string_bytes s.path
      → IsListedBut g place k → OnOk r (ListsEach own keeps_in m.formats k.left left) → OnOk r (IsListed g (record { flags = k.flags; given = k.given; left = left }))
  but_listed s m own left (Err e) at is below but lists = tt
  but_listed s m own left (Ok x) at is below but lists = all_but left lists.stay (λ path name t there l.
      let same : s ≡ t = same_Some s t (sym at ∙ there) in
      let (usable, more) = both (is_usable k.flags place) _ l in
      let (reached, rest) = both (is_reached k.flags place) _ more in
      let (here, keep) = both (bytes_eq (string_bytes t.path) path) _ rest in
      let kept : keeps_of name (Some m) ≡ true = ap (keeps_of name) (sym is) ∙ ap (λ (y : Site). keeps g.methods.now y.method name) same ∙ keep in
      let one = one_passes (keeps_in name) m.formats kept in
      let p : own ≡ path = below ∙ ap (λ (y : Site). string_bytes y.path) same ∙ (bytes_eq-Decides (string_bytes t.path) path).0 here in
      subst (λ z. Has left (z ++ name)) p (lists.each one.place one.element one.at name one.passes)) but

-- ---- at the start

pub none_listed : (g : Ground) (k : Growth) → ((path : List ℕ) → contains_text k.given path ≡ list_any (bytes_eq path) (texts g.given.now)) → k.flags ≡ replicate (length g.sites.now) (record { usable = false; reached = false }) → IsListed g k
none_listed g k given none = record {
  given = given;
  left = λ path name l.
      let (usable, more) = both (is_usable k.flags l.0) _ l.3 in
      absurd (let wrong : true ≡ false = sym usable ∙ ap (λ fs. is_usable fs l.0) none ∙ none_usable (length g.sites.now) l.0 in cc);
}
