-- The worked examples of document 02, K3, hold of the definitions. Assumes nothing.
use mathlib.Core.List.{map}
use mathlib.Core.Path.{◌≡◌, refl}
use Rattle.rules.specs.Bytes.{blank_byte, token_byte, gap_byte}
use Rattle.rules.specs.Lines.{ending, text, blank, indented, folds}
use Rattle.rules.specs.Paragraph.{recognised, leads, accepted, block_start, ending_below, message_trailers}
use Rattle.rules.specs.Title.{line_end, two_ends, body_start}
use Rattle.rules.specs.Trailer.{named, coloned, trailer_line, token_in, value_in, unfolded}
use Rattle.rules.specs.White.{white_space, forms, form_at, trim_start, trim_end, trim}
use Rattle.appending.specs.Added.{good_token, good_value, has_line, has_block, kept, above, added}
use Rattle.adding.specs.Examples.{ruled, wanted, table}

pub cases : map ruled table ≡ map wanted table
unfolding table good_token good_value has_line has_block kept above added ending text blank indented folds recognised leads accepted block_start message_trailers ending_below line_end two_ends body_start named coloned trailer_line token_in value_in unfolded white_space forms form_at trim_start trim_end trim blank_byte token_byte gap_byte
cases = refl
