-- The worked examples of K10 hold of its statements. Assumes nothing.
use mathlib.Core.List.{map}
use mathlib.Core.Path.{◌≡◌, refl}
use Rattle.rules.specs.Bytes.{blank_byte, gap_byte, lower, token_byte}
use Rattle.rules.specs.Lines.{blank, folds, indented, text}
use Rattle.rules.specs.Paragraph.{accepted, block_start, leads, recognised, message_trailers}
use Rattle.rules.specs.Title.{body_start, line_end, two_ends}
use Rattle.rules.specs.Trailer.{coloned, gap_in, named, same, token_in, trailer_line, unfolded, value_in}
use Rattle.rules.specs.White.{form_at, forms, trim, trim_at, trim_end, trim_start, white_space}
use Rattle.closing.specs.Closing.{answer}
use Rattle.closing.specs.Contents.{digit, good_records, good_state, good_vehicle, number_of}
use Rattle.divider.specs.Divider.{cut, divider}
use Rattle.erasing.specs.Examples.{stated, table, wanted}

pub cases : map stated table ≡ map wanted table
unfolding table message_trailers answer digit number_of good_vehicle good_records good_state cut divider text body_start two_ends line_end block_start blank blank_byte accepted folds indented leads recognised trailer_line named coloned token_in gap_in value_in token_byte gap_byte lower same unfolded white_space forms form_at trim_start trim_end trim trim_at
cases = refl
