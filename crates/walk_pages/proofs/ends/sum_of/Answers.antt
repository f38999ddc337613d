use Rattle.std.proofs.Common.{[], rules, List, Bool}
use Rattle.sem_profile.specs.declared.profile.Library.TheVariants as library
use Rattle.sem_filling.specs.Entries.{Path}
use Rattle.sem_filling.specs.Fits.{Context}
use Rattle.sem_profile.specs.declared.profile.Field.{Field}
use Rattle.sem_pages.specs.Pages.{IsCodedOn}
use Rattle.sem_pages.proofs.CodedSides.{found_weaker}
use Rattle.sem_pages.proofs.Pages.{plain_has}
use Rattle.walk_pages.specs.Drafts.{IsSummed}
use Rattle.walk_pages.proofs.ends.sum_of.Goals as goal

pub returns-in-Library-Crc : goal.returns-in-Library-Crc
returns-in-Library-Crc c =
    found_weaker (λ (w : List Bool). (ctx : Context) (path : Path) (d : Field) → IsCodedOn ctx path c.args.view.now d (library.Crc c.get-in-Library-Crc.result.now) [] w) (λ (w : List Bool). IsSummed c.args.view.now c.args.field.now w) c.summed.result
    (λ w coded methods ctx path s plain l bears.
    plain_has methods ctx path l c.args.field.now s (library.Crc c.get-in-Library-Crc.result.now) [] w (search rules) plain (coded ctx path c.args.field.now l bears))
    c.summed.ensures
