use Rattle.std.proofs.Common.{◌≡◌, sym, subst, List, ℕ}
use Rattle.std.specs.Str.{IsUtf8}
use Rattle.hex.specs.Hex.{encode_lower}
use Rattle.sem_bits.proofs.Texts.{digits_text}
use Rattle.tool_input.proofs.texts.push_octets.Goals as goal

pub from_utf8_unchecked-digits-requires : goal.from_utf8_unchecked-digits-requires
from_utf8_unchecked-digits-requires c =
    let written : c.encode_to_slice.new.output ≡ encode_lower c.args.octets.now = rw c.unwrap.ensures at c.encode_to_slice.ensures.written in
    let P : List ℕ → Type 0 = λ x. IsUtf8 x in
    subst P (sym written) (digits_text c.args.octets.now)
