-- The worked examples of the calls on a body hold of their statements. Assumes nothing.
use mathlib.Core.List.{map}
use mathlib.Core.Path.{◌≡◌, refl}
use Rattle.rules.specs.Bytes.{blank_byte, token_byte, gap_byte, lower}
use Rattle.rules.specs.Lines.{ending, text, blank, indented, folds}
use Rattle.rules.specs.Paragraph.{recognised, leads, accepted, block_start, ending_below}
use Rattle.rules.specs.Trailer.{named, coloned, trailer_line, token_in, gap_in, value_in, unfolded, value_is_written, same, asked}
use Rattle.rules.specs.White.{white_space, forms, form_at, trim_start, trim_end, trim, trim_at}
use Rattle.body.specs.Examples.{stated, table, wanted}

pub cases : map stated table ≡ map wanted table
unfolding table ending text blank indented folds recognised leads accepted block_start ending_below named coloned trailer_line token_in gap_in value_in unfolded value_is_written same asked white_space forms form_at trim_start trim_end trim trim_at blank_byte token_byte gap_byte lower
cases = refl
