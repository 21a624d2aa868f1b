-- The worked examples of K7 hold of its statements. Assumes nothing.
use mathlib.Core.List.{[], ◌++◌, map}
use mathlib.Core.Path.{◌≡◌, refl}
use Prim.Native.Nat.{ℕ, ◌+◌, ◌<◌}
use native.Mathlib.Omega.{arith}
use borrow.Author.Tests.{lt-ltb}
use lib.ListN.{length, length-replicate, replicate}
use Rattle.rules.specs.Answers.{says, limit}
use Rattle.rules.specs.Bytes.{blank_byte, bytes, gap_byte, token_byte}
use Rattle.rules.specs.Lines.{blank, folds, indented, text}
use Rattle.rules.specs.Paragraph.{accepted, block_start, leads, recognised}
use Rattle.rules.specs.Title.{body_start, line_end, two_ends}
use Rattle.rules.specs.Trailer.{coloned, named, trailer_line}
use Rattle.divider.specs.Divider.{cut, divider}
use Rattle.divider.specs.Readings.{end_answer}
use Rattle.divider.specs.declared.Reading.{Reading}
use Rattle.reading.specs.Examples.{padded, stated, table, wanted}

over_limit : (n : ℕ) → limit < 4 + n → end_answer Reading.AboveDivider (padded n) ≡ says 1 []
unfolding padded
over_limit n h = rw (lt-ltb limit (length (bytes "---\n" ++ replicate n 120)) (omega (arith, length-replicate {A = ℕ} n 120)))

pub cases : (map stated table ≡ map wanted table) × (end_answer Reading.AboveDivider (padded 1_048_573) ≡ says 1 [])
unfolding table cut divider text body_start two_ends line_end block_start blank blank_byte accepted folds indented leads recognised trailer_line named coloned token_byte gap_byte
cases = (refl, over_limit 1_048_573 (omega arith))
