-- `header::is_one_of_four` meets its contract: a name of less than four bytes is none of them. Assumes nothing.
use mathlib.Core.Bool.{false}
use mathlib.Core.List.{List}
use mathlib.Core.Path.{◌≡◌, refl}
use Prim.Native.Nat.{ℕ, ◌<◌}
use native.Mathlib.Omega.{arith}
use lib.ListN.{length}
use Rattle.rules.specs.Bytes.{bytes}
use Rattle.text.proofs.Equal.{equal_long}
use Rattle.commit.specs.Grammar.{four}
use Rattle.header.proofs.is_one_of_four.Goals as goal

short : (name : List ℕ) → length name < 4 → false ≡ four name
unfolding four
short name h =
    rw (
      equal_long name (bytes "tree") (λ e. absurd (omega arith)),
      equal_long name (bytes "parent") (λ e. absurd (omega arith)),
      equal_long name (bytes "author") (λ e. absurd (omega arith)),
      equal_long name (bytes "committer") (λ e. absurd (omega arith)),
    ) refl

pub returns-then-name-lt4 : goal.returns-then-name-lt4
returns-then-name-lt4 c = short c.args.name.now c.if-name-lt4.true

pub returns : goal.returns
unfolding four
returns c = rw (c.is_name.ensures, c.is_name-2.ensures, c.is_name-3.ensures, c.is_name-4.ensures)
