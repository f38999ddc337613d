-- Tests on tokens.
use Rattle.std.specs.Prelude.{Bool, false}
use denote.Enum.Bare.{sameb}
use Rattle.text_source.specs.contracts.token.Mark.{the_type}
use Rattle.text_source.specs.declared.token.Mark.{Mark}
use Rattle.text_source.specs.declared.token.TokenKind.{TokenKind}
use Rattle.text_source.specs.declared.token.TokenKind.TheVariants as k

unfoldable pub same_mark : Mark → Mark → Bool
same_mark = sameb the_type

abbrev pub is_mark : Mark → TokenKind → Bool
is_mark mark (k.Mark other) = same_mark other mark
is_mark mark _ = false
