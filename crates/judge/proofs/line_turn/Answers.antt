-- `judge::line_turn` meets its contract: the line is cut where its name ends, and after that at its LF. Assumes nothing.
use mathlib.Core.List.{List}
use mathlib.Core.Path.{◌≡◌, sym, ap, ◌∙◌}
use Prim.Native.Nat.{ℕ, ◌+◌, ◌<◌}
use native.Mathlib.Omega.{arith}
use lib.ListN.{length, drop, get_or}
use Rattle.rules.specs.Bytes.{LF}
use Rattle.rules.specs.Lines.{inner}
use Rattle.rules.specs.Lists.{run}
use Rattle.commit.specs.Grammar.{name_byte}
use Rattle.judge.specs.Scan.{turned}
use Rattle.judge.proofs.Cuts.{Cut, cut, behind_name, name_unended, empty_line_lem, name_alone, text_unended, content_line}
use Rattle.judge.proofs.line_turn.Goals as goal
use Rattle.judge.proofs.line_turn.Goals.{After-find_lf-end}

-- the name, up to the place that was found
name : (s : List ℕ) (at q : ℕ) → at < length s → q ≡ at + length (run name_byte (drop at s)) → Cut name_byte s at q
name s at q h d = cut name_byte s at q (omega arith) d

-- the content, up to the LF that was found
text : (s : List ℕ) (at q e : ℕ) → Cut name_byte s at q → q < length s → (get_or s q 0 ≡ LF → ⊥) → e ≡ at + length (run inner (drop at s)) → Cut inner s (q + 1) e
text s at q e k h n d = cut inner s (q + 1) e (omega arith) (behind_name s at q e k h n d)

pub returns-then-name-content : goal.returns-then-name-content
returns-then-name-content c =
    let a = c.args in
    let f = c.name_end-name in
    name_unended a.content.now a.at a.phase f.result c.requires (name a.content.now a.at f.result c.requires f.ensures.1) c.if-name-content.true

pub returns-then-name-at : goal.returns-then-name-at
returns-then-name-at c =
    let a = c.args in
    let f = c.name_end-name in
    name_alone a.content.now a.at a.phase f.result (name a.content.now a.at f.result c.requires f.ensures.1) (omega arith) c.if-content-name-eq10.true c.if-name-at.true

pub returns-in_err-turn : goal.returns-in_err-turn
returns-in_err-turn c =
    let a = c.args in
    let f = c.name_end-name in
    empty_line_lem a.content.now a.at a.phase f.result c.empty_turn.result c.from_residual.result (name a.content.now a.at f.result c.requires f.ensures.1) (omega arith)
    c.if-content-name-eq10.true (omega arith) c.empty_turn.ensures (c.from_residual.ensures ∙ sym (ap (turned (f.result + 1)) c.in_err-turn.was))

pub returns-then-content-name-eq10 : goal.returns-then-content-name-eq10
returns-then-content-name-eq10 c =
    let a = c.args in
    let f = c.name_end-name in
    empty_line_lem a.content.now a.at a.phase f.result c.empty_turn.result _ (name a.content.now a.at f.result c.requires f.ensures.1) (omega arith)
    c.if-content-name-eq10.true (omega arith) c.empty_turn.ensures (sym (ap (turned (f.result + 1)) c.in_ok-turn.was))

-- both, where the LF has been looked for
cuts : (w : After-find_lf-end)
    → Cut name_byte w.args.content.now w.args.at w.name_end-name.result × Cut inner w.args.content.now (w.name_end-name.result + 1) w.find_lf-end.result
cuts w =
    let a = w.args in
    let f = w.name_end-name in
    let k = name a.content.now a.at f.result w.requires f.ensures.1 in
    (k, text a.content.now a.at f.result w.find_lf-end.result k (omega arith) w.if-content-name-eq10.false w.find_lf-end.ensures)

pub returns-then-end-content : goal.returns-then-end-content
returns-then-end-content c =
    let a = c.args in
    let t = cuts (goal.at.returns-then-end-content c).After-find_lf-end in
    text_unended a.content.now a.at a.phase c.name_end-name.result c.find_lf-end.result t.0 t.1 (omega arith) c.if-content-name-eq10.false c.if-end-content.true

pub returns-in_err-turn-2 : goal.returns-in_err-turn-2
returns-in_err-turn-2 c =
    let a = c.args in
    let t = cuts (goal.at.returns-in_err-turn-2 c).After-find_lf-end in
    content_line a.content.now a.at a.phase c.name_end-name.result c.find_lf-end.result c.content_turn.result _ t.0 t.1 (omega arith) c.if-content-name-eq10.false
    (omega (arith, t.1.within, c.if-end-content.false)) c.content_turn.ensures (c.from_residual-in_err-turn-2.ensures ∙ sym (ap (turned (c.find_lf-end.result + 1)) c.in_err-turn-2.was))

pub returns : goal.returns
returns c =
    let a = c.args in
    let t = cuts (goal.at.returns c).After-find_lf-end in
    content_line a.content.now a.at a.phase c.name_end-name.result c.find_lf-end.result c.content_turn.result _ t.0 t.1 (omega arith) c.if-content-name-eq10.false
    (omega (arith, t.1.within, c.if-end-content.false)) c.content_turn.ensures (sym (ap (turned (c.find_lf-end.result + 1)) c.in_ok-turn-2.was))

pub slice_bounds-content_turn-count-2 : goal.slice_bounds-content_turn-count-2
slice_bounds-content_turn-count-2 c =
    omega (arith, (cuts (goal.at.slice_bounds-content_turn-count-2 c).After-find_lf-end).1.long)

pub slice_bounds-content_turn-start-2 : goal.slice_bounds-content_turn-start-2
slice_bounds-content_turn-start-2 c =
    omega (arith, (cuts (goal.at.slice_bounds-content_turn-start-2 c).After-find_lf-end).1.long)

pub slice_bounds-content_turn-end-2 : goal.slice_bounds-content_turn-end-2
slice_bounds-content_turn-end-2 c =
    omega (arith, (cuts (goal.at.slice_bounds-content_turn-end-2 c).After-find_lf-end).1.within)
