-- The examples of K12 hold of the rules. Assumes nothing.
use mathlib.Core.List.{map}
use mathlib.Core.Path.{◌≡◌, refl}
use Rattle.rules.specs.Bytes.{blank_byte, token_byte, gap_byte}
use Rattle.rules.specs.ExamplesK12.{ruled, wanted, table}
use Rattle.rules.specs.Lines.{text, blank, indented, folds}
use Rattle.rules.specs.Paragraph.{recognised, leads, accepted, block_start}
use Rattle.rules.specs.Trailer.{named, coloned, trailer_line, token_in}

pub examples : map ruled table ≡ map wanted table
unfolding table text blank indented folds recognised leads accepted block_start named coloned trailer_line token_in blank_byte token_byte gap_byte
examples = refl
