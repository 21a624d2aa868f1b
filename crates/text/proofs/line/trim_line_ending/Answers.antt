-- `text::line::trim_line_ending` meets its contract. Assumes nothing.
use mathlib.Core.Path.{◌≡◌}
use Prim.Native.Nat.{◌-◌, ◌≤◌, ◌<◌}
use native.Mathlib.Omega.{arith}
use borrow.Author.Rules.{rules}
use lib.ListN.{length, get_or}
use Rattle.rules.specs.Bytes.{LF, CR}
use Rattle.text.proofs.Endings.{bare_by, cr_by, crlf_by, lf_by}
use Rattle.text.proofs.line.trim_line_ending.Goals as goal

pub returns-in-13 : goal.returns-in-13
returns-in-13 c =
    let s = c.args.line.now in
    let first : get_or s (length s - 2) 0 ≡ CR = search rules in
    let last : get_or s (length s - 1) 0 ≡ LF = search rules in
    crlf_by s (search rules) first last

pub returns-in-13-2 : goal.returns-in-13-2
returns-in-13-2 c =
    let s = c.args.line.now in
    let some : 0 < length s = grind arith in
    let last : get_or s (length s - 1) 0 ≡ CR = grind arith in
    cr_by s some last

pub returns-in-10 : goal.returns-in-10
returns-in-10 c =
    let s = c.args.line.now in
    let some : 0 < length s = grind arith in
    let last : get_or s (length s - 1) 0 ≡ LF = grind arith in
    let other : 2 ≤ length s → get_or s (length s - 2) 0 ≡ CR → ⊥ = λ h e. grind arith in
    lf_by s some last other

pub returns-in_default : goal.returns-in_default
returns-in_default c = bare_by c.args.line.now (λ h. grind arith)

pub returns-in_default-2 : goal.returns-in_default-2
returns-in_default-2 c = bare_by c.args.line.now (λ h. (λ e. grind arith, λ e. grind arith))

pub returns-in_default-3 : goal.returns-in_default-3
returns-in_default-3 c = bare_by c.args.line.now (λ h. (λ e. grind arith, λ e. grind arith))
