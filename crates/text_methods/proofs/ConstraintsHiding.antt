-- A statement that encodes a field has no fault in its encoding where no field's encoding has one.
use Rattle.std.proofs.Common.{◌≡◌, ◌∙◌, ap, refl, sym, ℕ, Bool, true, false, List, Option, Some, None}
use Rattle.std.specs.Prelude.{◌&&◌, nat_eq, slice_get, unwrap_or}
use Rattle.std.specs.Option.{option_map}
use Rattle.std.proofs.lemmas.Bool.{eqb-true}
use Rattle.text_tree.specs.declared.tree.Item.{Item}
use Rattle.text_tree.specs.declared.tree.Item.TheVariants as items
use Rattle.text_tree.specs.declared.tree.Section.{Section}
use Rattle.sem_profile.specs.declared.fault.ProfileFault.{ProfileFault}
use Rattle.text_sections.specs.declared.mention.Mention.{Mention}
use Rattle.text_sections.specs.Causes.{earliest, is_one_of}
use Rattle.text_sections.specs.Fields.{encoding_of}
use Rattle.text_sections.proofs.CausesFolding.{earliest_answers}
use Rattle.text_statements.specs.Names.{Names}
use Rattle.text_statements.specs.declared.callee.Methods.{Methods}
use Rattle.text_methods.specs.Constraints.{is_at, choice_of}
use Rattle.text_methods.specs.Encodings.{given_fault, field_fault, own_fault, items_at, fine_ones, AreFine}
use Rattle.text_methods.proofs.KeptLemmas.{at_place}

-- where there is no earliest fault, none has one
each_fine : {A : Type 0} (f : A → Option ProfileFault) (xs : List A) (k : ℕ) (x : A) → earliest f xs ≡ None → slice_get xs k ≡ Some x → f x ≡ None
each_fine f xs k x fine at = by (f x) refl
  where
    by : (o : Option ProfileFault) → f x ≡ o → f x ≡ None
    by None e = e
    by (Some g) e = absurd ((earliest_answers f xs).fine fine g (is_one_of k at e))

both_hold : (a b : Bool) → (a && b) ≡ true → (a ≡ true) × (b ≡ true)
both_hold true b e = (refl, e)
both_hold false b e = let wrong : false ≡ true = e in absurd cc

-- what a choice that is at a place is
record Chosen (chosen : List (Option Mention)) (number place : ℕ) : Type 0 where
  k : ℕ
  m : Mention
  chosen_at : slice_get chosen k ≡ Some (Some m)
  section_is : m.section ≡ number
  item_is : m.item ≡ place

chosen_by : (chosen : List (Option Mention)) (number place k : ℕ) (o : Option (Option Mention)) → slice_get chosen k ≡ o → is_at number place (unwrap_or o None) ≡ true → Chosen chosen number place
chosen_by chosen number place k (Some (Some m)) at is =
    let both = both_hold (nat_eq m.section number) (nat_eq m.item place) is in
    record { k = k; m = m; chosen_at = at; section_is = eqb-true m.section number both.0; item_is = eqb-true m.item place both.1 }
chosen_by chosen number place k (Some None) at is = let wrong : false ≡ true = is in absurd cc
chosen_by chosen number place k None at is = let wrong : false ≡ true = is in absurd cc

chosen_of : (chosen : List (Option Mention)) (number place : ℕ) (field : Option ℕ) → is_at number place (choice_of chosen field) ≡ true → Chosen chosen number place
chosen_of chosen number place (Some k) is = chosen_by chosen number place k (slice_get chosen k) refl is
chosen_of chosen number place None is = let wrong : false ≡ true = is in absurd cc

as_own : (s : Names) (methods : Methods) (item : Item) → given_fault s methods (encoding_of item) ≡ own_fault s methods item
as_own s methods (items.Bound b) = refl
as_own s methods (items.Field name bracket) = refl
as_own s methods (items.Enforce at condition) = refl

section_by : (sections : List Section) (number : ℕ) (all : List Item) (o : Option Section) → slice_get sections number ≡ o → option_map (λ (z : Section). z.items) o ≡ Some all
    → (section : Section) × (slice_get sections number ≡ Some section) × (section.items ≡ all)
section_by sections number all (Some section) at is = let same : section.items ≡ all = cc in (section, at, same)
section_by sections number all None at is = let wrong : None ≡ Some all = is in absurd cc

pub are_fine : (s : Names) (methods : Methods) (sections : List Section) (chosen : List (Option Mention)) (number : ℕ) (all : List Item) (fault : Option ProfileFault)
    → fault ≡ earliest (field_fault s methods sections) chosen → items_at sections number ≡ Some all → AreFine s methods (fine_ones fault chosen) number all
are_fine s methods sections chosen number all None none own field place item is at =
    let c = chosen_of chosen number place field is in
    let here = section_by sections number all (slice_get sections number) refl own in
    let section_at : slice_get sections c.m.section ≡ Some here.0 = ap (slice_get sections) c.section_is ∙ here.1 in
    let item_at : slice_get here.0.items c.m.item ≡ Some item = ap (slice_get here.0.items) c.item_is ∙ ap (λ xs. slice_get xs place) here.2 ∙ at in
    let fine : field_fault s methods sections (Some c.m) ≡ None = each_fine (field_fault s methods sections) chosen c.k (Some c.m) (sym none) c.chosen_at in
    sym (as_own s methods item) ∙ ap (given_fault s methods) (sym (at_place sections c.m here.0 item section_at item_at)) ∙ fine
are_fine s methods sections chosen number all (Some f) none own None place item is at = let wrong : false ≡ true = is in absurd cc
are_fine s methods sections chosen number all (Some f) none own (Some k) place item is at = let wrong : false ≡ true = is in absurd cc
