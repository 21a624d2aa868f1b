-- The worked examples of document 02, K11, hold of the definitions. Assumes nothing.
use mathlib.Core.List.{map}
use mathlib.Core.Path.{◌≡◌, refl}
use Rattle.rules.specs.Bytes.{blank_byte, token_byte, gap_byte, lower}
use Rattle.rules.specs.Lines.{text, blank, indented, folds}
use Rattle.rules.specs.Paragraph.{recognised, leads, accepted, block_start, message_trailers}
use Rattle.rules.specs.Title.{line_end, two_ends, body_start}
use Rattle.rules.specs.Trailer.{named, coloned, trailer_line, token_in, same}
use Rattle.bundle.specs.Bundle.{u32le, bundle_of, u32_at, is_bundle, messages_in}
use Rattle.counting.specs.Report.{figure_of}
use Rattle.reporting.specs.Examples.{ruled, wanted, table}

pub cases : map ruled table ≡ map wanted table
unfolding table u32le bundle_of u32_at is_bundle messages_in message_trailers figure_of text blank indented folds recognised leads accepted block_start line_end two_ends body_start named coloned trailer_line token_in same blank_byte token_byte gap_byte lower
cases = refl
