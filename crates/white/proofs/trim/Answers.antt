-- `white::trim` meets its contract. Assumes nothing.
use mathlib.Core.Path.{◌≡◌}
use Prim.Native.Nat.{◌-◌}
use native.Mathlib.Omega.{arith}
use lib.ListN.{length}
use Rattle.rules.specs.White.{trim_start, trim, trim_at}
use Rattle.rules.proofs.White.{trim_fits}
use Rattle.white.proofs.Scan.{kept, kept_place, empty_place}
use Rattle.white.proofs.trim.Goals as goal
use Rattle.white.proofs.trim.Goals.{After-trim_end-kept}

-- the two scans together keep what trimming keeps
all_kept : (c : After-trim_end-kept) → c.trim_end-kept.result ≡ length (trim c.args.s.now)
all_kept c = kept c.args.s.now c.trim_start-start.ensures c.trim_end-kept.ensures

pub returns-then-kept-eq0 : goal.returns-then-kept-eq0
returns-then-kept-eq0 c =
    let all = all_kept (goal.at.returns-then-kept-eq0 c).After-trim_end-kept in
    let e : trim_at c.args.s.now ≡ 0 = empty_place _ (omega arith) in
    (omega arith, omega arith)

pub overflow_add-result : goal.overflow_add-result
overflow_add-result c =
    let s = c.args.s.now in
    let all = all_kept (goal.at.overflow_add-result c).After-trim_end-kept in
    omega (arith, kept_place s (omega arith), trim_fits s)

pub returns : goal.returns
returns c =
    let s = c.args.s.now in
    let all = all_kept (goal.at.returns c).After-trim_end-kept in
    let e : trim_at s ≡ length s - length (trim_start s) = kept_place s (omega arith) in
    (omega arith, omega arith)
