-- The trailers of a message: those of its body, at their places in the message; and where their walk begins. Assumes nothing.
use mathlib.Core.List.{List, map}
use mathlib.Core.Path.{◌≡◌}
use Prim.Native.Nat.{ℕ, ◌+◌, ◌-◌, ◌≤◌}
use native.Mathlib.Omega.{arith}
use lib.ListN.{length, take, drop, length-drop}
use Rattle.rules.specs.Paragraph.{block_start, message_trailers, trailers_of}
use Rattle.rules.specs.Title.{body, body_start}
use Rattle.rules.specs.Trailer.{walk_from}
use Rattle.rules.proofs.Paragraph.{start_within}
use Rattle.rules.proofs.Parts.{rest}
use Rattle.rules.proofs.Title.{body_fits}
use Rattle.rules.proofs.Walk.{message_walk, shifted}

pub message_trailers_lem : (m : List ℕ) → message_trailers m ≡ map (shifted (body_start m)) (trailers_of (body m))
unfolding message_trailers
message_trailers_lem m = message_walk m (block_start (body m))

-- the walk begins in the message
pub start_in_message : (m : List ℕ) → body_start m + block_start (body m) ≤ length m
start_in_message m = omega (arith, body_fits m, start_within (body m), length-drop (body_start m) m)

-- the same by two numbers that were found: where the body starts, and where its block starts in what is handed on
module _ (m : List ℕ) (s k : ℕ) (p : s ≡ body_start m) (q : k ≡ block_start (take (length m - s) (drop s m))) where
  pub walk_begins : s + k ≡ body_start m + block_start (body m)
  walk_begins = rw (q, rest m s, p)

  pub walk_at : message_trailers m ≡ walk_from m (s + k)
  unfolding message_trailers
  walk_at = rw walk_begins

  pub walk_fits : s + k ≤ length m
  walk_fits = omega (arith, walk_begins, start_in_message m)
