-- Where a called header field takes from the source.
use Rattle.std.proofs.Common.{◌≡◌, ◌∙◌, refl, sym, ap, ℕ, ◌+◌, ◌-◌, ◌≤◌, Bool, true, List, length, drop, min}
use Rattle.std.specs.Prelude.{Option, Some, None, IsSomeAnd, slice_get}
use Rattle.std.proofs.lemmas.List.{drop-drop, drop_min, length-drop}
use Rattle.sem_expr.specs.declared.expr.Side.TheVariants.{Uncompressed}
use Rattle.sem_profile.specs.declared.profile.Field.{Field}
use Rattle.sem_profile.specs.declared.profile.Format.{Format}
use Rattle.sem_filling.specs.Fillings.{is_header}
use Rattle.cert_rules.specs.declared.slots.Slot.{Slot}
use Rattle.cert_rules.specs.Facts.{before}
use Rattle.cert_rules.specs.Rules.{headers_before}
use Rattle.walk_steps.specs.Joined.{header_places, joined_length}
use Rattle.cert_candidates.specs.Knowing.{writer_knows_all}
use Rattle.cert_candidates.specs.Writing.{header_offset}
use Rattle.walk_write.proofs.CallsOffsets.{offset_known}

pub offset_there : (format : Format) (slots : List Slot) (i : ℕ) → length slots ≡ length format.fields → IsSomeAnd (slice_get format.fields i) (λ d. is_header d.declared.part ≡ true) →
    writer_knows_all format slots (headers_before format i) ≡ true → joined_length slots Uncompressed (before i (header_places 0 format.fields)) ≡ Some (header_offset format slots i)
offset_there format slots i count header known = by (slice_get format.fields i) refl header
  where
    by : (o : Option Field) → slice_get format.fields i ≡ o → IsSomeAnd o (λ (d : Field). is_header d.declared.part ≡ true) → joined_length slots Uncompressed (before i (header_places 0 format.fields)) ≡ Some (header_offset format slots i)
    by None e h = absurd h
    by (Some d) e h = offset_known format slots count i d e h known

-- no more bits are passed than there are
pub skipped : (bits : List Bool) (from offset rest few : ℕ) → from ≤ length bits → rest ≡ length bits → few ≡ min offset (rest - from) → drop (from + few) bits ≡ drop offset (drop from bits)
skipped bits from offset rest few within rest_is few_is =
    let count : rest - from ≡ length (drop from bits) = ap (λ n. n - from) rest_is ∙ sym (length-drop from bits) in
    sym (drop-drop few from bits) ∙ (ap (λ n. drop n (drop from bits)) (few_is ∙ ap (min offset) count) ∙ drop_min offset (drop from bits))
