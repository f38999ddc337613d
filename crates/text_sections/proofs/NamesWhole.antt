-- The causes of all faults of a method's names and sections.
use Rattle.std.proofs.Common.{◌≡◌, ℕ, ◌⊎◌, inl, inr, List, sym, Some, Option, subst}
use Rattle.std.specs.List.{filter_map}
use Rattle.text_tree.specs.declared.tree.Section.{Section}
use Rattle.text_tree.specs.declared.tree.Method.{Method}
use Rattle.sem_profile.specs.declared.fault.ProfileFault.{ProfileFault}
use Rattle.sem_profile.specs.Precedence.{earlier}
use Rattle.text_sections.specs.declared.mention.Mention.{Mention}
use Rattle.text_sections.specs.declared.names.Lists.{Lists}
use Rattle.text_sections.specs.Sections.{incomplete}
use Rattle.text_sections.specs.Causes.{Answers, IsSecond}
use Rattle.text_sections.specs.Names.{ParameterCause, EncodingCause, KnownCause, ContextCause, SectionsCause, HeadCause, lacks_sections, parameter, second_format, FieldCause, second_in_base, encoding, known, context, section, NameCause, head, field, lists_of, for_all_formats, format_name}
use Rattle.text_sections.proofs.CausesFolding.{answers_join, answers_both, answers_itself}

pub heads_judged : (text : List ℕ) (constants : List Mention) (m : Method) {a b c inner o : Option ProfileFault} → a ≡ incomplete m → Answers (ParameterCause text constants m.parameters) b
    → Answers (IsSecond text (filter_map format_name m.sections)) c → inner ≡ earlier b c → o ≡ earlier a inner → Answers (HeadCause text constants m) o
heads_judged text constants m {a} {b} {c} {inner} lack parameters named inner_is is =
    answers_join {C = λ f. incomplete m ≡ Some f} {D = λ f. ParameterCause text constants m.parameters f ⊎ IsSecond text (filter_map format_name m.sections) f}
    (λ f c. elim c as (λ _. HeadCause text constants m f) [ inl x ↦ lacks_sections x | inr y ↦ elim y as (λ _. HeadCause text constants m f) [ inl p ↦ parameter p | inr n ↦ second_format n ] ]) cases
    (subst (Answers (λ f. incomplete m ≡ Some f)) (sym lack) (answers_itself (incomplete m)))
    (subst (Answers (λ f. ParameterCause text constants m.parameters f ⊎ IsSecond text (filter_map format_name m.sections) f)) (sym inner_is) (answers_both parameters named)) is
  where
    cases : (f : ProfileFault) → HeadCause text constants m f → (incomplete m ≡ Some f) ⊎ (ParameterCause text constants m.parameters f ⊎ IsSecond text (filter_map format_name m.sections) f)
    cases f (lacks_sections x) = inl x
    cases f (parameter p) = inr (inl p)
    cases f (second_format n) = inr (inr n)

abbrev pub Four : List ℕ → Lists → ProfileFault → Type 0
Four text lists f = (IsSecond text lists.base f ⊎ EncodingCause text lists f) ⊎ (KnownCause text lists f ⊎ ContextCause text lists f)

pub lists_judged : (text : List ℕ) (lists : Lists) {a b c d ab cd o : Option ProfileFault} → Answers (IsSecond text lists.base) a → Answers (EncodingCause text lists) b → Answers (KnownCause text lists) c → Answers (ContextCause text lists) d
    → ab ≡ earlier a b → cd ≡ earlier c d → o ≡ earlier ab cd → Answers (Four text lists) o
lists_judged text lists second encodings known_ones contexts first_is second_is is =
    let of_first = subst (Answers (λ f. IsSecond text lists.base f ⊎ EncodingCause text lists f)) (sym first_is) (answers_both second encodings) in
    let of_second = subst (Answers (λ f. KnownCause text lists f ⊎ ContextCause text lists f)) (sym second_is) (answers_both known_ones contexts) in
    subst (Answers (Four text lists)) (sym is) (answers_both of_first of_second)

pub fields_judged : (text : List ℕ) (sections : List Section) {four e o : Option ProfileFault} → Answers (Four text (lists_of text sections)) four
    → Answers (SectionsCause text (for_all_formats text sections) sections) e → o ≡ earlier four e → Answers (FieldCause text sections) o
fields_judged text sections four own is =
    answers_join {C = Four text (lists_of text sections)} {D = SectionsCause text (for_all_formats text sections) sections} to from four own is
  where
    to : (f : ProfileFault) → Four text (lists_of text sections) f ⊎ SectionsCause text (for_all_formats text sections) sections f → FieldCause text sections f
    to f (inl (inl (inl x))) = second_in_base x
    to f (inl (inl (inr x))) = encoding x
    to f (inl (inr (inl x))) = known x
    to f (inl (inr (inr x))) = context x
    to f (inr x) = section x

    from : (f : ProfileFault) → FieldCause text sections f → Four text (lists_of text sections) f ⊎ SectionsCause text (for_all_formats text sections) sections f
    from f (second_in_base x) = inl (inl (inl x))
    from f (encoding x) = inl (inl (inr x))
    from f (known x) = inl (inr (inl x))
    from f (context x) = inl (inr (inr x))
    from f (section x) = inr x

pub names_judged : (text : List ℕ) (constants : List Mention) (m : Method) {a b o : Option ProfileFault} → Answers (HeadCause text constants m) a → Answers (FieldCause text m.sections) b → o ≡ earlier a b
    → Answers (NameCause text constants m) o
names_judged text constants m heads fields is =
    answers_join {C = HeadCause text constants m} {D = FieldCause text m.sections} (λ f c. elim c as (λ _. NameCause text constants m f) [ inl x ↦ head x | inr y ↦ field y ]) from heads fields is
  where
    from : (f : ProfileFault) → NameCause text constants m f → HeadCause text constants m f ⊎ FieldCause text m.sections f
    from f (head x) = inl x
    from f (field x) = inr x
