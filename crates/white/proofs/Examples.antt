-- The examples of trimming hold of the rules. Assumes nothing.
use mathlib.Core.List.{map}
use mathlib.Core.Path.{◌≡◌, refl}
use Rattle.rules.specs.White.{white_space, forms, form_at, trim_start, trim_end, trim, trim_at}
use Rattle.white.specs.Examples.{wanted, ruled, table}

pub cases : map ruled table ≡ map wanted table
unfolding table white_space forms form_at trim_start trim_end trim trim_at
cases = refl
