-- K9, for the calls: a summary, summarised again, is answered as the part that it is. Assumes nothing.
use mathlib.Core.List.{List, []}
use mathlib.Core.Path.{◌≡◌}
use Prim.Native.Nat.{ℕ}
use native.Mathlib.Nat.{zero-add}
use lib.ListN.{length}
use Rattle.rules.specs.Record.{part}
use Rattle.rules.specs.Summary.{summary}
use Rattle.rules.specs.declared.Value.{Value}
use Rattle.rules.proofs.SummaryTwice.{summary_is_part, summary_trims}
use Rattle.message.specs.Message.{summary_of, summary_writes}

pub summary_again : (s : List ℕ) → (summary_writes (summary s) ≡ []) × (summary_of (summary s) ≡ Value.InInput (part 0 (length (summary s))))
summary_again s =
    let (same, front) = summary_trims s in
    (rw (summary_is_part s), rw (summary_is_part s, same, front, zero-add (length (summary s))))
