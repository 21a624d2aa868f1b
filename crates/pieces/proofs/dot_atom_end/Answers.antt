-- `pieces::dot_atom_end` meets its contract. Assumes nothing.
use mathlib.Core.Path.{sym, ◌∙◌}
use Prim.Native.Nat.{◌+◌}
use native.Mathlib.Omega.{arith}
use borrow.Author.Rules.{rules}
use Rattle.pieces.proofs.Laws.{AtomEnd, InDots, atom_end_lem, dot_dies, dot_text, dot_ends, dot_at_end, no_dot, dot_again}
use Rattle.pieces.proofs.dot_atom_end.Goals as goal
use Rattle.pieces.proofs.dot_atom_end.Goals.{After-run_end-j}

pub returns-then-not-is_atext : goal.returns-then-not-is_atext
returns-then-not-is_atext c =
    dot_dies c.loop-i.invariant.same c.loop-i.invariant.later c.loop-i-test.true (sym c.is_atext.ensures ∙ c.if-not-is_atext.true)

-- behind an atom
atom-passed : (c : After-run_end-j) →
    let s = c.args.s.now in
    let j = c.run_end-j.result in
    InDots s c.args.at j × AtomEnd s (c.loop-i.i + 1) j
atom-passed c =
    let x = atom_end_lem c.args.s.now (c.loop-i.i + 1) c.run_end-j.result (search rules) c.run_end-j.ensures in
    (dot_text c.loop-i.invariant.same c.loop-i-test.true (sym c.is_atext.ensures ∙ c.if-not-is_atext.false) x, x)

pub returns-then-j-s : goal.returns-then-j-s
returns-then-j-s c =
    let f = atom-passed (goal.at.returns-then-j-s c).After-run_end-j in
    dot_ends c.loop-i.invariant.later f.0 f.1 (dot_at_end c.args.s.now c.run_end-j.result (omega arith))

pub bounds-s-j : goal.bounds-s-j
bounds-s-j c = omega (arith, (atom-passed (goal.at.bounds-s-j c).After-run_end-j).1.within)

pub returns-then-s-j-ne46 : goal.returns-then-s-j-ne46
returns-then-s-j-ne46 c =
    let f = atom-passed (goal.at.returns-then-s-j-ne46 c).After-run_end-j in
    dot_ends c.loop-i.invariant.later f.0 f.1 (no_dot c.args.s.now c.run_end-j.result (omega (arith, f.1.within)) c.if-s-j-ne46.true)

pub loop-i-preserved : goal.loop-i-preserved
loop-i-preserved c =
    let f = atom-passed (goal.at.loop-i-preserved c).After-run_end-j in
    record {
      later = omega (arith, f.1.later, c.loop-i.invariant.later);
      within = omega (arith, f.1.within);
      same = dot_again f.0 (omega (arith, f.1.within)) c.if-s-j-ne46.false;
    }
