-- Lists of fields that are declared alike, and lengths that lie in bounds.
use Rattle.std.proofs.Common.{◌≡◌, ◌∙◌, refl, sym, ap, subst, ℕ, suc, zero, map, length, List, [], ◌∷◌, Bool, true, false, arith, option_map}
use Rattle.std.specs.Prelude.{slice_get, Some, None, ◌↔◌, IsTrue}
use Rattle.std.proofs.lemmas.Option.{slice_get-map}
use Rattle.sem_profile.specs.declared.profile.Sizes.{Sizes}
use Rattle.sem_profile.specs.declared.profile.FormatSizes.{FormatSizes}
use Rattle.sem_profile.specs.declared.profile.Declared.{Declared}
use Rattle.sem_profile.specs.declared.profile.Field.{Field}
use Rattle.sem_filling.specs.declared.filling.Filling.{Filling}
use Rattle.sem_filling.specs.declared.filling.FilledField.{FilledField}
use Rattle.sem_filling.specs.Fillings.{sides_of, fields_of, header, packed}
use Rattle.sem_filling.specs.Bounded.{SidesLie, LengthsLie}
use Rattle.sem_filling.specs.Level.{FieldLies, FieldsLie}

-- an element of a mapped list is that of the list
mapped_at : {A B : Type 0} (f : A → B) (xs : List A) (i : ℕ) (y : B) → slice_get (map f xs) i ≡ Some y → (x : A) × (slice_get xs i ≡ Some x) × (f x ≡ y)
mapped_at f [] i y at = let wrong : None ≡ Some y = at in absurd cc
mapped_at f (x ∷ xs) zero y at = let one : Some (f x) ≡ Some y = at in (x, refl, cc)
mapped_at f (x ∷ xs) (suc i) y at = mapped_at f xs i y at

-- the fields' bounds, over the fields themselves
pub fields_lie : (sizes : List Sizes) (filled : List FilledField) → ((i : ℕ) (g : FilledField) → slice_get filled i ≡ Some g → FieldLies sizes i (sides_of g)) → FieldsLie sizes filled
fields_lie sizes filled each i s at b there =
    let found = mapped_at sides_of filled i s at in
    subst (λ t. SidesLie b (length t.uncompressed) (length t.compressed)) found.2 (each i found.0 found.1 b there)

pub field_lies_at : (sizes : List Sizes) (filled : List FilledField) (i : ℕ) (g : FilledField) → slice_get filled i ≡ Some g → FieldsLie sizes filled → FieldLies sizes i (sides_of g)
field_lies_at sizes filled i g at all = all i (sides_of g) (slice_get-map sides_of filled i ∙ ap (option_map sides_of) at)

pub lengths_lie : (sizes : FormatSizes) (f : Filling) (n m : ℕ) (b : Bool) → FieldsLie sizes.fields (fields_of f) → n ≡ length (header f) → m ≡ length (packed f)
    → IsTrue b ↔ SidesLie sizes.whole n m → IsTrue b ↔ LengthsLie sizes f
lengths_lie sizes f n m b fields n_is m_is same = (
  λ t. record {
    fields = λ i s bounds here there. fields i s here bounds there;
    whole = subst (λ k. SidesLie sizes.whole k (length (packed f))) n_is (subst (λ k. SidesLie sizes.whole n k) m_is (same.0 t));
  },
  λ lie. same.1 (subst (λ k. SidesLie sizes.whole k m) (sym n_is) (subst (λ k. SidesLie sizes.whole (length (header f)) k) (sym m_is) lie.whole)),
)

pub fields_lie_not : (sizes : FormatSizes) (f : Filling) (b : Bool) → (FieldsLie sizes.fields (fields_of f) → IsTrue b) → b ≡ false → IsTrue b ↔ LengthsLie sizes f
fields_lie_not sizes f b all e = (λ t. let wrong : false ≡ true = sym e ∙ t in absurd cc, λ lie. all (λ i s at bounds there. lie.fields i s bounds at there))

abbrev pub declared_of : List FilledField → List Declared
declared_of filled = map (λ s. s.declared) (map sides_of filled)

pub declared_alike : (filled : List FilledField) (fields : List Field) → length fields ≡ length filled
    → ((i : ℕ) (g : FilledField) → slice_get filled i ≡ Some g → (d : Field) → slice_get fields i ≡ Some d → (sides_of g).declared ≡ d.declared) → declared_of filled ≡ map (λ d. d.declared) fields
declared_alike [] [] e each = refl
declared_alike [] (y ∷ ys) e each = absurd (omega (arith, e))
declared_alike (x ∷ xs) [] e each = absurd (omega (arith, e))
declared_alike (x ∷ xs) (y ∷ ys) e each = λ i. each 0 x refl y refl i ∷ declared_alike xs ys (omega (arith, e)) (λ j g here d there. each (suc j) g here d there) i

pub declared_at : (filled : List FilledField) (fields : List Field) (i : ℕ) (g : FilledField) (d : Field) → declared_of filled ≡ map (λ d. d.declared) fields
    → slice_get filled i ≡ Some g → slice_get fields i ≡ Some d → (sides_of g).declared ≡ d.declared
declared_at filled fields i g d same here there =
    let one : Some (sides_of g).declared ≡ Some d.declared =
    sym (slice_get-map (λ s. s.declared) (map sides_of filled) i ∙ ap (option_map (λ s. s.declared)) (slice_get-map sides_of filled i ∙ ap (option_map sides_of) here))
    ∙ ap (λ zs. slice_get zs i) same ∙ slice_get-map (λ d. d.declared) fields i ∙ ap (option_map (λ d. d.declared)) there in
    cc
