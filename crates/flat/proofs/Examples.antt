-- The worked examples of K1 hold of the statements. Assumes nothing.
use mathlib.Core.List.{map}
use mathlib.Core.Path.{◌≡◌, refl}
use Rattle.rules.specs.Bytes.{blank_byte, token_byte, gap_byte, lower}
use Rattle.rules.specs.Lines.{ending, text, blank, indented, folds}
use Rattle.rules.specs.Trailer.{named, coloned, trailer_line, token_in, gap_in, value_in, unfolded, value_is_written}
use Rattle.rules.specs.White.{white_space, forms, form_at, trim_start, trim_end, trim, trim_at}
use Rattle.rules.specs.Paragraph.{accepted, block_start, leads, recognised}
use Rattle.rules.specs.Title.{body_start, line_end, two_ends}
use Rattle.divider.specs.Divider.{cut, divider}
use Rattle.listing.specs.Listing.{records_of, values_of}
use Rattle.flat.specs.Examples.{stated, table, wanted}

pub cases : map stated table ≡ map wanted table
unfolding table records_of values_of cut divider body_start two_ends line_end block_start accepted leads recognised ending text blank indented folds named coloned trailer_line token_in gap_in value_in unfolded value_is_written white_space forms form_at trim_start trim_end trim trim_at blank_byte token_byte gap_byte lower
cases = refl
