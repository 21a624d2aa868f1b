-- `trailer::line::parse_trailer_line` meets its contract. Assumes nothing.
use mathlib.Core.Path.{◌≡◌, sym, ap, ◌∙◌}
use Prim.Native.Nat.{◌+◌}
use native.Mathlib.Omega.{arith}
use lib.ListN.{length, drop}
use Rattle.rules.proofs.Parts.{rest}
use Rattle.rules.specs.Bytes.{gap_byte}
use Rattle.rules.specs.Lists.{run}
use Rattle.trailer.proofs.Parsed.{no_token, token_within, gap_within, ends_there, other_there, colon_there}
use Rattle.trailer.proofs.Runs.{run_prefix}
use Rattle.trailer.proofs.line.parse_trailer_line.Goals as goal
use Rattle.trailer.proofs.line.parse_trailer_line.Goals.{After-gap_len, then-separator-line-via-then-separator-line, then-separator-line-via-else-separator-line+then-line-separator-ne58}

pub returns-then-token_end-eq0 : goal.returns-then-token_end-eq0
returns-then-token_end-eq0 c = sym (no_token _ (omega (arith, c.token_end-token_end.ensures)))

pub slice_bounds-gap_len-count : goal.slice_bounds-gap_len-count
slice_bounds-gap_len-count c = omega (arith, token_within c.args.line.now, c.token_end-token_end.ensures)

pub slice_bounds-gap_len-start : goal.slice_bounds-gap_len-start
slice_bounds-gap_len-start c = omega (arith, token_within c.args.line.now, c.token_end-token_end.ensures)

-- where the gap ends
gap_end : (c : After-gap_len) → let token_end = c.token_end-token_end.result in
    token_end + c.gap_len.result ≡ token_end + length (run gap_byte (drop token_end c.args.line.now))
gap_end c =
    let l = c.args.line.now in
    let token_end = c.token_end-token_end.result in
    ap (λ n. token_end + n) (rw rest at c.gap_len.ensures ∙ run_prefix gap_byte (drop token_end l))

pub overflow_add-separator : goal.overflow_add-separator
overflow_add-separator c = omega (arith, gap_within _ _ _ c.token_end-token_end.ensures (gap_end c))

pub bounds-line-separator : goal.bounds-line-separator
bounds-line-separator c =
    omega (arith, gap_within _ _ _ c.token_end-token_end.ensures (gap_end (goal.at.bounds-line-separator c).After-gap_len))

pub returns-then-separator-line : goal.returns-then-separator-line
returns-then-separator-line c =
    let end = gap_end (goal.at.returns-then-separator-line c).After-gap_len in
    sym (elim c.then-separator-line.branch [
      | then-separator-line-via-then-separator-line w ↦ ends_there _ _ _ c.token_end-token_end.ensures end (omega arith) w.if-separator-line.true
      | then-separator-line-via-else-separator-line+then-line-separator-ne58 w ↦
          other_there _ _ _ c.token_end-token_end.ensures end (omega arith) w.if-separator-line.false w.if-line-separator-ne58.true
    ])

pub returns : goal.returns
returns c =
    let end = gap_end (goal.at.returns c).After-gap_len in
    sym (colon_there _ _ _ c.token_end-token_end.ensures end (omega arith) c.if-separator-line.false c.if-line-separator-ne58.false)
