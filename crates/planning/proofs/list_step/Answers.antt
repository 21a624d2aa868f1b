-- `planning::list_step` meets its contract.
use mathlib.Core.Path.{ap, ◌∙◌}
use Rattle.std.specs.Prelude.{Some}
use Prim.Native.Nat.{◌+◌, ◌≤◌, ◌<◌, ◌^◌}
use native.Mathlib.Omega.{arith}
use Rattle.rules.proofs.Number.{fits_is}
use Rattle.planning.proofs.Stepping.{end_fits, first_line, found_is, left, next_within, not_refused, read_fits, start_fits, turn_fits, turn_is}
use Rattle.planning.proofs.list_step.Goals as goal

pub move_on-here-requires : goal.move_on-here-requires
move_on-here-requires c = start_fits c.args.text.now c.args.spot c.args.at c.args.out.now c.requires

pub move_over-next-requires : goal.move_over-next-requires
move_over-next-requires c =
    let fit = end_fits c.args.text.now c.args.spot c.args.at c.args.out.now c.requires c.move_on-here.ensures in
    record { line_bound = fit.0; input_len = fit.1 }

pub read_trailer-requires : goal.read_trailer-requires
read_trailer-requires c =
    let may = read_fits c.args.text.now c.args.spot c.args.at c.args.out.now c.requires in
    record { value_start_bound = may.0; body_value = may.1 }

pub unwrap-read-requires : goal.unwrap-read-requires
unwrap-read-requires c =
    not_refused c.args.text.now c.args.spot c.args.at c.args.out.now c.requires c.move_on-here.ensures c.read_trailer.ensures.value

pub turn-requires : goal.turn-requires
turn-requires c =
    let i = c.args.text.now in
    let p = c.args.spot in
    let at = c.args.at in
    let o = c.args.out.now in
    let y = c.requires in
    let h = c.move_on-here.ensures in
    let e = found_is i p at o y h c.unwrap-read.ensures c.read_trailer.ensures.value in
    let next = next_within i p at o y h e c.move_over-next.ensures in
    let one : 1 ≤ c.unwrap-read.result.line = rw e (first_line i p at o y) in
    let few : p.done.records + 1 < 2 ^ 64 = omega (arith, y.few, fits_is i p.cursor y.placed) in
    record { value_bound = turn_fits i p at o y h e c.move_over-next.ensures (omega arith); records_bound = (few, next, one) }

pub returns : goal.returns
returns c =
    let i = c.args.text.now in
    let p = c.args.spot in
    let at = c.args.at in
    let o = c.args.out.now in
    let y = c.requires in
    let h = c.move_on-here.ensures in
    let e = found_is i p at o y h c.unwrap-read.ensures c.read_trailer.ensures.value in
    record {
      value = ap Some c.turn.ensures ∙ turn_is i p at o y h e c.move_over-next.ensures c.args.told;
      out_after = left i p at o y _ c.read_trailer.ensures.out_after;
    }
