use Rattle.std.proofs.Common.{◌≡◌, sym, subst, List, ℕ}
use Rattle.std.specs.Str.{IsUtf8}
use Rattle.hex.specs.Hex.{encode_lower}
use Rattle.sem_bits.proofs.Texts.{digits_text, is_read}
use Rattle.sem_bits.proofs.text.octets_text.Goals as goal

pub unwrap-requires-2 : goal.unwrap-requires-2
unwrap-requires-2 c =
    let written : c.encode_to_slice.new.output ≡ encode_lower c.args.octets.now = rw c.unwrap.ensures at c.encode_to_slice.ensures.written in
    let P : List ℕ → Type 0 = λ x. IsUtf8 x in
    is_read c.from_utf8.result c.encode_to_slice.new.output _ _ c.from_utf8.ensures.cases (subst P (sym written) (digits_text c.args.octets.now))
