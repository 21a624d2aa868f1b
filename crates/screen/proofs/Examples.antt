-- Document 01's example of the lister, and the further ones, hold of the definitions. Assumes nothing.
use mathlib.Core.List.{map}
use mathlib.Core.Path.{◌≡◌, refl}
use Rattle.rules.specs.Bytes.{blank_byte, token_byte, gap_byte}
use Rattle.rules.specs.Lines.{text, blank, indented, folds}
use Rattle.rules.specs.Paragraph.{recognised, leads, accepted, block_start}
use Rattle.rules.specs.Title.{line_end, two_ends, body_start}
use Rattle.rules.specs.Trailer.{named, coloned, trailer_line, token_in, value_in, unfolded}
use Rattle.rules.specs.White.{white_space, forms, form_at, trim_start, trim_end, trim}
use Rattle.screen.specs.Examples.{ruled, wanted, table}
use Rattle.screen.specs.Listing.{decimal, lines_of, listing}

pub cases : map ruled table ≡ map wanted table
unfolding table listing lines_of decimal text blank indented folds recognised leads accepted block_start line_end two_ends body_start named coloned trailer_line token_in value_in unfolded white_space forms form_at trim_start trim_end trim blank_byte token_byte gap_byte
cases = refl
