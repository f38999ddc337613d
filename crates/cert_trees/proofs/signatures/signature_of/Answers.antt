use Rattle.cert_trees.proofs.signatures.signature_of.Goals as goal

pub returns : goal.returns
returns c = record {
  bits = rw (c.as_slice.ensures, c.as_slice-2.ensures, c.as_slice-3.ensures, c.get.ensures) at c.in_ok-known_bits.ensures;
  equations = rw c.as_slice-4.ensures at c.in_ok-equations.ensures;
  references = rw (c.as_slice-5.ensures, c.as_slice-6.ensures) at c.in_ok-references.ensures;
}
