-- What is answered of a raw value, by whether it has more than one line. Assumes nothing.
use Rattle.std.specs.Prelude.{Ok}
use mathlib.Core.Bool.{true, false}
use mathlib.Core.List.{List}
use mathlib.Core.Path.{◌≡◌}
use Prim.Native.Nat.{ℕ, ◌+◌}
use native.Mathlib.Nat.{add_assoc}
use native.Mathlib.Omega.{arith}
use borrow.Author.Tests.{le-ltb}
use lib.ListN.{length}
use Rattle.rules.specs.Record.{fitted, part, written_found, written_of}
use Rattle.rules.specs.Trailer.{unfolded, value_is_written}
use Rattle.rules.specs.White.{trim, trim_at}
use Rattle.rules.specs.declared.Value.{Value}
use Rattle.value.specs.Value.{value_found}

module _ (at : ℕ) (raw : List ℕ) where
  -- with more than one line it is the unfolded value that is written
  pub value_folded : value_is_written raw ≡ true → (room : ℕ) → written_found (unfolded raw) room ≡ value_found at raw room
  value_folded q room = rw q

  pub buffer_folded : value_is_written raw ≡ true → (out : List ℕ) → fitted (unfolded raw) out ≡ fitted (written_of raw) out
  buffer_folded q out = rw q

  -- with at most one line it is a part of the input, and nothing is written
  pub value_part : value_is_written raw ≡ false → (room : ℕ)
      → Ok (Value.InInput (part (at + trim_at raw) (at + (trim_at raw + length (trim raw))))) ≡ value_found at raw room
  value_part q room = rw (q, le-ltb room 0 (omega arith), add_assoc)

  pub buffer_part : value_is_written raw ≡ false → (out : List ℕ) → out ≡ fitted (written_of raw) out
  buffer_part q out = rw (q, le-ltb (length out) 0 (omega arith))
