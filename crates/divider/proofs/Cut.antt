-- A message is cut in exactly one way, and what is kept is its front. Assumes nothing.
use mathlib.Core.List.{List, ◌++◌}
use mathlib.Core.Path.{◌≡◌, refl, sym, ap, ◌∙◌}
use Prim.Native.Nat.{ℕ, ◌≤◌}
use native.Mathlib.Omega.{arith}
use lib.ListN.{length, take, length-append}
use lib.Seq.{take-append_seam}
use Rattle.rules.specs.Lines.{Line, lines}
use Rattle.rules.specs.Lists.{join, past, run}
use Rattle.rules.proofs.Lines.{join-lines}
use Rattle.rules.proofs.Lists.{join-append, past_stops, run_all, run_cut, run_past}
use Rattle.divider.specs.Divider.{Cut, cut, plain}

pub cut_is : (message : List ℕ) → Cut message (cut message)
unfolding cut
cut_is message = record {
  above = run plain (lines message);
  below = past plain (lines message);
  reads = sym (run_past plain (lines message));
  none_above = run_all plain (lines message);
  divides = past_stops plain (lines message);
  keeps = refl;
}

pub cut_only : {message kept : List ℕ} → Cut message kept → kept ≡ cut message
unfolding cut
cut_only c = c.keeps ∙ ap join (sym (ap (run plain) c.reads ∙ (run_cut plain c.above c.below c.none_above c.divides).0))

pub exactly_one_cut : (message : List ℕ) → (kept : List ℕ) × Cut message kept × ((other : List ℕ) → Cut message other → other ≡ kept)
exactly_one_cut message = (cut message, cut_is message, λ other c. cut_only c)

-- what is kept is the message's front, and the rest is behind it
pub cut_front : (message : List ℕ) → message ≡ cut message ++ join (past plain (lines message))
unfolding cut
cut_front message =
    let ls : List Line = lines message in
    sym (join-lines message) ∙ ap join (sym (run_past plain ls)) ∙ join-append (run plain ls) (past plain ls)

pub cut_within : (message : List ℕ) → length (cut message) ≤ length message
cut_within message = omega (arith, ap length (cut_front message), length-append (cut message) (join (past plain (lines message))))

pub cut_taken : (message : List ℕ) → take (length (cut message)) message ≡ cut message
cut_taken message =
    ap (take (length (cut message))) (cut_front message) ∙ take-append_seam (cut message) (join (past plain (lines message)))
