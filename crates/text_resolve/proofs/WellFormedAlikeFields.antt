-- Each format of a method has the header and control fields of the others, at the same places.
use Rattle.std.proofs.Common.{◌≡◌, ◌∙◌, ap, ℕ, suc, zero, ◌+◌, inl, inr, Bool, true, false, cond, List, [], ◌∷◌, ◌++◌, get_or, drop, refl, sym, subst, append_assoc, append-nil, arith}
use Rattle.std.specs.Prelude.{Option, Some, None, fold, is_some, slice_get}
use Rattle.std.specs.Str.{bytes_eq}
use Rattle.std.proofs.lemmas.List.Sums.{fold-append}
use Rattle.std.proofs.lemmas.Slice.Eq.{bytes_eq-Decides}
use Rattle.text_tree.specs.declared.tree.Section.{Section}
use Rattle.text_tree.specs.declared.tree.SectionKind.{SectionKind}
use Rattle.text_tree.specs.declared.tree.SectionKind.TheVariants as kinds
use Rattle.sem_profile.specs.declared.profile.Declared.{Declared}
use Rattle.sem_profile.specs.declared.profile.Encoding.{Encoding}
use Rattle.sem_profile.specs.declared.profile.Encoding.TheVariants as encoding
use Rattle.sem_profile.specs.declared.profile.Field.{Field}
use Rattle.sem_profile.specs.declared.profile.Format.{Format}
use Rattle.sem_profile.specs.declared.profile.Method.{Method}
use Rattle.sem_profile.specs.declared.profile.Part.{Part}
use Rattle.sem_profile.specs.declared.profile.Part.TheVariants as parts
use Rattle.sem_profile.specs.Words.{word}
use Rattle.text_sections.specs.declared.mention.Mention.{Mention}
use Rattle.text_sections.specs.declared.mention.Group.TheVariants as groups
use Rattle.text_sections.specs.Mentions.{is_in, mentions_in, first_of, firsts}
use Rattle.text_methods.specs.declared.drafts.Setting.{Setting}
use Rattle.text_methods.specs.Drafts.{own, fields, scope}
use Rattle.text_methods.specs.Fields.{field, joined, part, part_of}
use Rattle.text_methods.specs.Formats.{IsFormat}
use Rattle.text_methods.specs.declared.methods.FileSetting.{FileSetting}
use Rattle.sem_graph.proofs.OrderPushing.{some_is}
use Rattle.text_resolve.specs.Methods.{constant_mentions}
use Rattle.text_resolve.specs.Parts.{methods_of}
use Rattle.text_resolve.proofs.MethodsChosen.{field_of}
use Rattle.text_resolve.proofs.MethodsFielded.{IsOwn, choice}
use Rattle.text_resolve.proofs.MethodsMentioned.{step, get_split, get_left}
use Rattle.text_resolve.proofs.WellFormedSoundKept.{Surely, surely_from, with_format}
use Rattle.text_resolve.proofs.SoundMethods.{HasForm, format_from, form_from}
use Rattle.text_resolve.proofs.MethodsStanding.{stands, part_is, in_group}
use Rattle.sem_profile.specs.Alike.{IsAlike}
use Rattle.text_resolve.specs.WellFormed.{FormIsAlike, KeptIsAlike}

-- ---- the fields of a format begin with those of UNCOMPRESSED and CONTROL

-- mentions, of which the rest is still to come, add some of their own to those that are kept
record Grown (text : List ℕ) (ms rest kept all : List Mention) : Type 0 where
  more : List Mention
  is : fold (step text) all rest ≡ kept ++ more
  from : (j : ℕ) (m : Mention) → slice_get more j ≡ Some m → (k : ℕ) × (slice_get ms k ≡ Some m)

grown : (text : List ℕ) (ms kept : List Mention) → Grown text ms ms kept kept
grown text [] kept = record { more = []; is = sym (append-nil kept); from = λ j m at. let wrong : None ≡ Some m = at in absurd cc }
grown text (m ∷ ms) kept =
    let g = by (is_some (first_of text kept (word text m.name))) (grown text ms kept) (grown text ms (kept ++ m ∷ [])) in
    record { more = g.more; is = g.is; from = g.from }
  where
    added : (g : Grown text ms ms (kept ++ m ∷ []) (kept ++ m ∷ [])) (j : ℕ) (n : Mention) → slice_get (m ∷ g.more) j ≡ Some n → (k : ℕ) × (slice_get (m ∷ ms) k ≡ Some n)
    added g zero n at = (0, at)
    added g (suc j) n at = let there = g.from j n at in (suc there.0, there.1)

    by : (b : Bool) → Grown text ms ms kept kept → Grown text ms ms (kept ++ m ∷ []) (kept ++ m ∷ []) → Grown text (m ∷ ms) ms kept (cond b kept (kept ++ m ∷ []))
    by true old new = record { more = old.more; is = old.is; from = λ j n at. let there = old.from j n at in (suc there.0, there.1) }
    by false old new = record { more = m ∷ new.more; is = new.is ∙ append_assoc kept (m ∷ []) new.more; from = added new }

abbrev base_fields : List ℕ → List Section → List Mention
base_fields text sections = mentions_in text groups.Header 0 sections ++ mentions_in text groups.Control 0 sections

-- ---- the fields of one format

get_joined : (x : Setting) (ms : List Mention) (es : List Encoding) (i : ℕ) (m : Mention) → slice_get ms i ≡ Some m → (e : Encoding) × (slice_get (joined x ms es) i ≡ Some (field x m e))
get_joined x [] es i m at = let wrong : None ≡ Some m = at in absurd cc
get_joined x (n ∷ ms) es zero m at = (get_or es 0 encoding.Bare, ap (λ (n : Mention). Some (field x n (get_or es 0 encoding.Bare))) (some_is at))
get_joined x (n ∷ ms) es (suc i) m at = get_joined x ms (drop 1 es) i m at

-- a format of the setting, with its section
record IsOne (x : Setting) (f : Format) : Type 0 where
  number : ℕ
  section : Section
  at : slice_get x.sections.now number ≡ Some section
  kind : is_in groups.Formats section.kind ≡ true
  form : IsFormat x number section f

local_format : (kind : SectionKind) → is_in groups.Formats kind ≡ true → part_of kind ≡ parts.Local
local_format kinds.Uncompressed e = absurd cc
local_format kinds.Control e = absurd cc
local_format kinds.Initial e = refl
local_format kinds.Default e = refl
local_format (kinds.Compressed name) e = refl

-- what its section gives alone is local
own_is_local : (x : Setting) (f : Format) (o : IsOne x f) (k : ℕ) (m : Mention) → slice_get (own x o.number o.section) k ≡ Some m → part x.sections.now m ≡ parts.Local
own_is_local x f o k m at =
    let there = in_group x.text.now groups.Formats x.sections.now o.number o.section k m o.at o.kind at in
    let s = stands x.text.now groups.Formats 0 x.sections.now there.0 m there.1 in
    part_is groups.Formats x.sections.now m s ∙ local_format s.section.kind s.kind

fields_begin : (x : Setting) (f : Format) (o : IsOne x f) → (g : Grown x.text.now (own x o.number o.section) (own x o.number o.section) (firsts x.text.now (base_fields x.text.now x.sections.now)) (firsts x.text.now (base_fields x.text.now x.sections.now))) ×
    (fields x o.number o.section ≡ firsts x.text.now (base_fields x.text.now x.sections.now) ++ g.more)
fields_begin x f o =
    let base = base_fields x.text.now x.sections.now in
    let g = grown x.text.now (own x o.number o.section) (firsts x.text.now base) in
    (g, fold-append (step x.text.now) [] base (own x o.number o.section) ∙ g.is)

-- ---- two formats of a method

alike : (x : Setting) (f g : Format) → IsOne x f → IsOne x g → (i : ℕ) (d : Field) → slice_get f.fields i ≡ Some d → (d.declared.part ≡ parts.Local → ⊥) → (e : Field) × (slice_get g.fields i ≡ Some e) × IsAlike d e
alike x f g o p i d at other = elim (get_split base mine.0.more i of.mention (ap (λ ms. slice_get ms i) (sym mine.1) ∙ of.at)) as (λ _. (e : Field) × (slice_get g.fields i ≡ Some e) × IsAlike d e) [
  | inl here ↦
      let there : slice_get (fields x p.number p.section) i ≡ Some of.mention = ap (λ ms. slice_get ms i) theirs.1 ∙ get_left base theirs.0.more i of.mention here in
      let made = get_joined x (fields x p.number p.section) p.form.encodings i of.mention there in (
        field x of.mention made.0,
        ap (λ ds. slice_get ds i) p.form.fields_are ∙ made.1,
        record { declared_is = ap (λ (z : Field). z.declared) (sym of.is); initial_is = ap (λ (z : Field). z.initial) (sym of.is) },
      )
  | inr there ↦
      let from = mine.0.from there.0 of.mention there.1 in
      absurd (other (ap (λ (z : Field). z.declared.part) of.is ∙ own_is_local x f o from.0 of.mention from.1))
]
  where
    base : List Mention
    base = firsts x.text.now (base_fields x.text.now x.sections.now)

    mine : (g : Grown x.text.now (own x o.number o.section) (own x o.number o.section) base base) × (fields x o.number o.section ≡ base ++ g.more)
    mine = fields_begin x f o

    theirs : (h : Grown x.text.now (own x p.number p.section) (own x p.number p.section) base base) × (fields x p.number p.section ≡ base ++ h.more)
    theirs = fields_begin x g p

    of : IsOwn x o.number o.section i d
    of = field_of x (scope x o.number o.section) x.methods.now x.sections.now (choice x o.number o.section) (fields x o.number o.section) o.form.encodings o.form.encoded i d (ap (λ ds. slice_get ds i) (sym o.form.fields_are) ∙ at)

-- ---- the methods of a file

one_of : (file : FileSetting) (constants : List Mention) (r : Method) (form : HasForm file constants r) (n : ℕ) (f : Format) → slice_get r.formats n ≡ Some f → IsOne form.is.body.setting f
one_of file constants r form n f at =
    let x = form.is.body.setting in
    let here = format_from x 0 form.tree.sections r.formats form.is.body.formats_are n f at in
    let number : 0 + here.place ≡ here.place = omega arith in
    record {
      number = here.place;
      section = here.section;
      at = ap (λ ss. slice_get ss here.place) form.is.body.is_setting.sections_are ∙ here.at;
      kind = here.kind;
      form = subst (λ n. IsFormat x n here.section f) number here.is;
    }

pub form_is_alike : FormIsAlike
form_is_alike text parts top methods form = record {
  fields = λ k n j i m f g d at at_f at_g at_d other.
      let constants = constant_mentions parts in
      let one = form_from form.file constants top 0 (methods_of parts) methods form.are_methods k m at in
      alike one.is.body.setting f g (one_of form.file constants m one n f at_f) (one_of form.file constants m one j g at_g) i d at_d other;
}

-- ---- what is not refuted

surely_bool : (a b : Bool) → Surely (a ≡ b) → a ≡ b
surely_bool true true sure = refl
surely_bool false false sure = refl
surely_bool true false sure = absurd (sure (λ same. absurd cc))
surely_bool false true sure = absurd (sure (λ same. absurd cc))

surely_words : (a b : List ℕ) → Surely (a ≡ b) → a ≡ b
surely_words a b sure =
    let decided = bytes_eq-Decides a b in
    decided.0 (surely_bool (bytes_eq a b) true (surely_from sure decided.1))

surely_part : (a b : Part) → Surely (a ≡ b) → a ≡ b
surely_part parts.Header parts.Header sure = refl
surely_part parts.Control parts.Control sure = refl
surely_part parts.Local parts.Local sure = refl
surely_part parts.Header parts.Control sure = absurd (sure (λ same. absurd cc))
surely_part parts.Header parts.Local sure = absurd (sure (λ same. absurd cc))
surely_part parts.Control parts.Header sure = absurd (sure (λ same. absurd cc))
surely_part parts.Control parts.Local sure = absurd (sure (λ same. absurd cc))
surely_part parts.Local parts.Header sure = absurd (sure (λ same. absurd cc))
surely_part parts.Local parts.Control sure = absurd (sure (λ same. absurd cc))

abbrev first_bit : Bool → List Bool → Bool
first_bit b [] = b
first_bit b (c ∷ cs) = c

abbrev more_bits : List Bool → List Bool
more_bits [] = []
more_bits (c ∷ cs) = cs

surely_bits : (a b : List Bool) → Surely (a ≡ b) → a ≡ b
surely_bits [] [] sure = refl
surely_bits [] (y ∷ b) sure = absurd (sure (λ same. absurd cc))
surely_bits (x ∷ a) [] sure = absurd (sure (λ same. absurd cc))
surely_bits (x ∷ a) (y ∷ b) sure =
    let first : x ≡ y = surely_bool x y (surely_from sure (ap (first_bit x))) in
    let rest : a ≡ b = surely_bits a b (surely_from sure (ap more_bits)) in
    λ i. first i ∷ rest i

abbrev bits_in : List Bool → Option (List Bool) → List Bool
bits_in bits (Some b) = b
bits_in bits None = bits

surely_initial : (a b : Option (List Bool)) → Surely (a ≡ b) → a ≡ b
surely_initial None None sure = refl
surely_initial None (Some b) sure = absurd (sure (λ same. absurd cc))
surely_initial (Some a) None sure = absurd (sure (λ same. absurd cc))
surely_initial (Some a) (Some b) sure = ap Some (surely_bits a b (surely_from sure (ap (bits_in a))))

surely_declared : (a b : Declared) → Surely (a ≡ b) → a ≡ b
surely_declared a b sure =
    let name = surely_words a.name b.name (surely_from sure (ap (λ (z : Declared). z.name))) in
    let part = surely_part a.part b.part (surely_from sure (ap (λ (z : Declared). z.part))) in
    let asked = surely_bool a.asked b.asked (surely_from sure (ap (λ (z : Declared). z.asked))) in
    λ i. record { name = name i; part = part i; asked = asked i }

abbrev HasAlike : Format → ℕ → Field → Type 0
HasAlike g i d = (e : Field) × (slice_get g.fields i ≡ Some e) × IsAlike d e

surely_alike : (g : Format) (i : ℕ) (d : Field) → Surely (HasAlike g i d) → HasAlike g i d
surely_alike g i d sure = by (slice_get g.fields i) refl
  where
    by : (o : Option Field) → slice_get g.fields i ≡ o → HasAlike g i d
    by None at = absurd (sure (λ has. let wrong : None ≡ Some has.0 = sym at ∙ has.1 in absurd cc))
    by (Some e) at =
        let same = λ (has : HasAlike g i d). some_is (sym has.1 ∙ at) in (
          e,
          at,
          record {
            declared_is = surely_declared e.declared d.declared (surely_from sure (λ has. ap (λ (z : Field). z.declared) (sym (same has)) ∙ has.2.declared_is));
            initial_is = surely_initial e.initial d.initial (surely_from sure (λ has. ap (λ (z : Field). z.initial) (sym (same has)) ∙ has.2.initial_is));
          },
        )

pub kept_is_alike : KeptIsAlike
kept_is_alike methods kept top alike are = record {
  fields = λ k n j i m f g d at at_f at_g at_d other.
      surely_alike g i d (surely_from (with_format methods kept top k n m f are at at_f) (λ there. alike.fields k n j i m f g d there.1 at_f at_g at_d other));
}
