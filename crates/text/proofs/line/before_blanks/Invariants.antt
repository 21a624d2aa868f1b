-- `text::line::before_blanks` meets its contract. The invariant: the runs before `start` are left, and all from there on is blank. Assumes nothing.
use Rattle.std.specs.Slice.Exact.{rchunks_exact_rest, rchunks_exact_remainder, rchunks_exact_size}
use mathlib.Core.Bool.{true}
use mathlib.Core.List.{◌++◌}
use mathlib.Core.Path.{◌≡◌}
use Prim.Native.Nat.{◌%◌, ◌≤◌, ◌<◌}
use lib.ListN.{length, take, drop}
use Rattle.rules.specs.Bytes.{blank_byte}
use Rattle.rules.specs.Lists.{all}
use Rattle.text.proofs.line.before_blanks.Given as goal

abbrev pub invariant-loop-run : goal.invariant-loop-run
invariant-loop-run l = record {
  size : rchunks_exact_size l.run-iterator ≡ 64;
  left : rchunks_exact_remainder l.run-iterator ++ rchunks_exact_rest l.run-iterator ≡ take l.start l.s;
  whole : length (rchunks_exact_rest l.run-iterator) % 64 ≡ 0;
  short : length (rchunks_exact_remainder l.run-iterator) < 64;
  within : l.start ≤ length l.s;
  blank : all blank_byte (drop l.start l.s) ≡ true;
}
