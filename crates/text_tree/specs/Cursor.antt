-- That tokens are data.
use Rattle.std.specs.Coded.{Coded}
use Rattle.text_source.specs.declared.token.Token.{Token}
use Rattle.text_source.specs.contracts.token.Token as token

abbrev pub token_code : Coded Token
token_code = token.the_row.coded
