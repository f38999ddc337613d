-- The tables of small trees: a bit that parts two formats, two bits that part three, and tests at which a table stops.
use Rattle.std.proofs.Common.{◌≡◌, [], ◌∷◌, refl}
use Rattle.std.specs.Prelude.{pos}
use Rattle.sem_bits.specs.Number.{enc}
use Rattle.cert_types.specs.declared.certificate.Node.TheVariants as node
use Rattle.cert_tables.specs.Tables.{made}

two_formats : made ((node.Bit 0 ∷ node.Leaf 0 ∷ node.Leaf 1 ∷ []) ∷ []) ≡ 1 ∷ 2 ∷ []
unfolding enc
two_formats = refl

three_formats : made ((node.Leaf 0 ∷ []) ∷ (node.Bit 0 ∷ node.Leaf 0 ∷ node.Bit 1 ∷ node.Leaf 1 ∷ node.Leaf 2 ∷ []) ∷ []) ≡ 1 ∷ 1 ∷ 3 ∷ 4 ∷ []
unfolding enc
three_formats = refl

-- bits nine apart stand in two tables, and a parameter ends a table
far_bits : made ((node.Bit 0 ∷ node.Leaf 0 ∷ node.Bit 9 ∷ node.Leaf 1 ∷ node.Parameter 0 (pos 0) ∷ node.Leaf 2 ∷ node.Bit 10 ∷ node.Leaf 3 ∷ node.Nowhere ∷ []) ∷ []) ≡ 1 ∷ 2 ∷ 3 ∷ 4 ∷ []
unfolding enc
far_bits = refl

-- so does a reference, and a bit below it has no table
past_reference : made ((node.Bit 0 ∷ node.Leaf 0 ∷ node.Reference 1 (pos 5) ∷ node.Bit 1 ∷ node.Leaf 1 ∷ node.Leaf 2 ∷ node.Nowhere ∷ []) ∷ []) ≡ 1 ∷ 2 ∷ []
unfolding enc
past_reference = refl
