-- The examples of K9 hold of the rules. Assumes nothing.
use mathlib.Core.List.{map}
use mathlib.Core.Path.{◌≡◌, refl}
use Rattle.rules.specs.Bytes.{blank_byte}
use Rattle.rules.specs.ExamplesK9.{ruled, wanted, table}
use Rattle.rules.specs.Summary.{spaced, summary}
use Rattle.rules.specs.Trailer.{unfolded}
use Rattle.rules.specs.White.{white_space, forms, form_at, trim_start, trim_end, trim}

pub examples : map ruled table ≡ map wanted table
unfolding table unfolded spaced summary white_space forms form_at trim_start trim_end trim blank_byte
examples = refl
