-- The examples' answers are the reader's, one computation. Assumes nothing.
use mathlib.Core.List.{map}
use mathlib.Core.Path.{◌≡◌, refl}
use Rattle.mailbox.specs.Examples.{ruled, wanted, table}
use Rattle.mailbox.specs.Grammar.{white_byte, atext, quote_text, comment_text, takes}
use Rattle.mailbox.specs.Reader.{mailbox}

pub values : map ruled table ≡ map wanted table
unfolding table mailbox white_byte atext quote_text comment_text takes
values = refl
