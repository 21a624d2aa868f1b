-- `summary::summarise` meets its contract. Assumes nothing.
use mathlib.Core.Path.{◌≡◌, sym}
use Prim.Native.Nat.{ℕ, ◌+◌, ◌≤◌}
use native.Mathlib.Omega.{arith}
use lib.ListN.{length, take, drop, length-drop}
use lib.Seq.{length-take-le}
use Rattle.rules.specs.Bytes.{LF}
use Rattle.rules.specs.White.{trim_end}
use Rattle.find.specs.Find.{until_lf}
use mathlib.Core.List.{List}
use Rattle.summary.specs.Followed.{until_followed}
use Rattle.summary.proofs.Followed.{until_fits}
use Rattle.summary.proofs.Pieces.{found_within}
use Rattle.summary.proofs.Plain.{blank_there, stop_from}
use Rattle.summary.proofs.Stop.{kept_fits, kept_summary, stop_fits}
use Rattle.summary.proofs.summarise.Goals as goal
use Rattle.summary.proofs.summarise.Goals.{After-find_stop-end}

pub find_followed-blank-requires : goal.find_followed-blank-requires
find_followed-blank-requires c = found_within c.args.message.now 0 c.args.first (omega (arith, c.requires.1)) (omega arith)

pub find_stop-end-requires : goal.find_stop-end-requires
find_stop-end-requires c =
    let m = c.args.message.now in
    let first = c.args.first in
    let found = c.find_followed-blank.ensures in
    let within = found_within m 0 first (omega (arith, c.requires.1)) (omega arith) in
    (omega (arith, found, within, until_fits 0 32 (drop first m), length-drop first m), blank_there m first c.find_followed-blank.result found)

-- where it stops, seen from the first LF on
stop : (c : After-find_stop-end) → let a = c.args in
    c.find_stop-end.result ≡ a.first + until_followed LF LF (drop a.first a.message.now)
stop c =
    let a = c.args in
    stop_from a.message.now a.first c.find_followed-blank.result c.find_followed-blank.ensures c.find_stop-end.result c.find_stop-end.ensures

pub slice_bounds-trim_end-end : goal.slice_bounds-trim_end-end
slice_bounds-trim_end-end c =
    let m = c.args.message.now in
    sym (length-take-le c.find_stop-end.result m (stop_fits m c.args.first _ c.requires.1 (stop c)))

-- what is kept of the message lies before the stop, and that in the message
bounds : (m : List ℕ) (first end kept : ℕ) → first ≡ until_lf m → end ≡ first + until_followed LF LF (drop first m)
    → kept ≡ length (trim_end (take end m)) → kept ≤ length m
bounds m first end kept e s k = omega (arith, kept_fits m first end e s kept k, stop_fits m first end e s)

pub slice_bounds-text-end : goal.slice_bounds-text-end
slice_bounds-text-end c =
    let m = c.args.message.now in
    let s = stop (goal.at.slice_bounds-text-end c).After-find_stop-end in
    sym (length-take-le c.trim_end-kept.result m (bounds m c.args.first _ _ c.requires.1 s c.trim_end-kept.ensures))

pub is_plain-requires-clause-kept_in_bounds : goal.is_plain-requires-clause-kept_in_bounds
is_plain-requires-clause-kept_in_bounds c =
    bounds c.args.message.now c.args.first _ _ c.requires.1 (stop (goal.at.is_plain-requires-clause-kept_in_bounds c).After-find_stop-end) c.trim_end-kept.ensures

-- and what its pieces add up to is the summary
pub returns-then-is_plain : goal.returns-then-is_plain
returns-then-is_plain c =
    let s = stop (goal.at.returns-then-is_plain c).After-find_stop-end in
    let read = kept_summary c.args.message.now c.args.first _ c.requires.1 s _ c.trim_end-kept.ensures c.requires.0 in
    record { value = rw (← read) c.write_plain.ensures.value; out_after = rw (← read) c.write_plain.ensures.out_after }

pub returns : goal.returns
returns c =
    let s = stop (goal.at.returns c).After-find_stop-end in
    let read = kept_summary c.args.message.now c.args.first _ c.requires.1 s _ c.trim_end-kept.ensures c.requires.0 in
    record { value = rw (← read) c.write_folded.ensures.value; out_after = rw (← read) c.write_folded.ensures.out_after }
