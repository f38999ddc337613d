use Rattle.text_statements.specs.Encodings.{uncompressed_value, compressed_value, irregular, static, lsb, crc, own}
use Rattle.text_statements.proofs.encodings.call.Goals as goal

pub returns-in_ok-found-in-UncompressedValue-clause-means : goal.returns-in_ok-found-in-UncompressedValue-clause-means
returns-in_ok-found-in-UncompressedValue-clause-means c = rw c.in-UncompressedValue.is (uncompressed_value _ c.in_ok-found-in-UncompressedValue.ensures.means)

pub returns-in_ok-found-in-CompressedValue-clause-means : goal.returns-in_ok-found-in-CompressedValue-clause-means
returns-in_ok-found-in-CompressedValue-clause-means c = rw c.in-CompressedValue.is (compressed_value _ c.in_ok-found-in-CompressedValue.ensures.means)

pub returns-in_ok-length-in-Irregular-clause-means : goal.returns-in_ok-length-in-Irregular-clause-means
returns-in_ok-length-in-Irregular-clause-means c = rw c.in-Irregular.is (irregular c.in_ok-length-in-Irregular.ensures.means)

pub returns-in_ok-no_arguments-in-Static-clause-means : goal.returns-in_ok-no_arguments-in-Static-clause-means
returns-in_ok-no_arguments-in-Static-clause-means c = rw c.in-Static.is (static c.in_ok-no_arguments-in-Static.ensures.means)

pub returns-in_ok-found-in-Lsb-clause-means : goal.returns-in_ok-found-in-Lsb-clause-means
returns-in_ok-found-in-Lsb-clause-means c = rw c.in-Lsb.is (lsb _ c.in_ok-found-in-Lsb.ensures.means)

pub returns-in_ok-new-in-Crc-clause-means : goal.returns-in_ok-new-in-Crc-clause-means
returns-in_ok-new-in-Crc-clause-means c = rw (c.in-Crc.is, c.in_ok-new-in-Crc.ensures) (crc c.in_ok-found-in-Crc.ensures.means)

pub returns-in_ok-arguments-in-Own-clause-means : goal.returns-in_ok-arguments-in-Own-clause-means
returns-in_ok-arguments-in-Own-clause-means c = let many = rw c.arity.ensures at c.in_ok-arguments-in-Own.ensures.means in rw c.in-Own.is (own many)
