-- The worked examples of K6 hold of the statements, and so do the rows of refused last bytes. Assumes nothing.
use mathlib.Core.List.{map}
use mathlib.Core.Path.{◌≡◌, refl}
use Rattle.rules.specs.Bytes.{blank_byte, token_byte, gap_byte}
use Rattle.rules.specs.Lines.{ending, text, blank, indented, folds}
use Rattle.rules.specs.Paragraph.{accepted, block_start, leads, recognised}
use Rattle.rules.specs.Trailer.{named, coloned, trailer_line, token_in, gap_in, value_in, unfolded, value_is_written}
use Rattle.rules.specs.White.{white_space, forms, form_at, trim_start, trim_end, trim, trim_at}
use Rattle.listing.specs.Listing.{records_of, values_of}
use Rattle.foot.specs.Examples.{refusals, stated, stated_of, table, wanted, wanted_of}
use Rattle.foot.specs.Foot.{foot_enough, told_records, told_values}

pub cases : map stated table ≡ map wanted table
unfolding table foot_enough told_records told_values records_of values_of accepted block_start leads recognised ending text blank indented folds named coloned trailer_line token_in gap_in value_in unfolded value_is_written white_space forms form_at trim_start trim_end trim trim_at blank_byte token_byte gap_byte
cases = refl

-- for each kind of refused last bytes two fronts that give different trailers
pub refused_differ : map stated_of refusals ≡ map wanted_of refusals
unfolding refusals foot_enough told_records told_values records_of values_of accepted block_start leads recognised ending text blank indented folds named coloned trailer_line token_in gap_in value_in unfolded value_is_written white_space forms form_at trim_start trim_end trim trim_at blank_byte token_byte gap_byte
refused_differ = refl
