-- The plans of the example are those of the order: they compute.
use Rattle.std.proofs.Common.{refl}
use Rattle.cert_types.specs.declared.certificate.Version.TheVariants.{One, Two}
use Rattle.cert_prove.specs.OrderExample.{ExampleIsOrdered}

pub example_is_ordered : ExampleIsOrdered
example_is_ordered One table sizes = record {
  read = record { follows = (refl, refl, (refl, refl, (refl, refl, (refl, refl, tt)))); complete = refl };
  write = record { follows = (refl, refl, (refl, refl, (refl, refl, (refl, refl, (refl, refl, (refl, refl, tt)))))); complete = refl };
}
example_is_ordered Two table sizes = record {
  read = record { follows = (refl, refl, (refl, refl, (refl, refl, (refl, refl, tt)))); complete = refl };
  write = record { follows = (refl, refl, (refl, refl, (refl, refl, (refl, refl, (refl, refl, (refl, refl, tt)))))); complete = refl };
}
