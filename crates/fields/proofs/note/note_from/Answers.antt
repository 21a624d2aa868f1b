-- `fields::note::note_from` meets its contract: each `?` goes past a reason for a refusal, or stops at it. Assumes nothing.
use Rattle.std.proofs.Common.{rules}
use mathlib.Core.List.{◌++◌}
use mathlib.Core.Path.{sym, ◌∙◌}
use Rattle.rules.specs.Trailer.{walk_from}
use Rattle.closing.specs.Closing.{by_field}
use Rattle.closing.specs.declared.Fault.{Fault}
use Rattle.closing.specs.declared.Field.{Field}
use Rattle.fields.proofs.Seen.{Once, once, missing, present, repeated, raw_inside, not_repeated, bad, not_bad}
use Rattle.fields.proofs.Verdicts.{Left, all_left, passed, stopped, none_missing, none_repeated, noted_is, count_read}
use Rattle.fields.proofs.note.note_from.Goals as goal
use Rattle.fields.proofs.note.note_from.Goals.{In_ok-state_found, In_ok-state_raw}

-- ---- all three are looked for first

pub returns-in_err-vehicle_found : goal.returns-in_err-vehicle_found
returns-in_err-vehicle_found c =
    let ts = walk_from c.args.message.now c.args.at in
    stopped (all_left ts)
    (missing Field.Vehicle ts (sym c.in_err-vehicle_found.ensures.0 ∙ c.tally_fields-tallies.ensures.vehicle_is)) c.from_residual.result (search rules)

pub returns-in_err-records_found : goal.returns-in_err-records_found
returns-in_err-records_found c =
    let ts = walk_from c.args.message.now c.args.at in
    stopped (passed (all_left ts) (present Field.Vehicle ts (sym c.in_ok-vehicle_found.ensures ∙ c.tally_fields-tallies.ensures.vehicle_is)))
    (missing Field.Records ts (sym c.in_err-records_found.ensures.0 ∙ c.tally_fields-tallies.ensures.records_is)) c.from_residual-in_err-records_found.result (search rules)

pub returns-in_err-state_found : goal.returns-in_err-state_found
returns-in_err-state_found c =
    let ts = walk_from c.args.message.now c.args.at in
    stopped (passed (passed (all_left ts) (present Field.Vehicle ts (sym c.in_ok-vehicle_found.ensures ∙ c.tally_fields-tallies.ensures.vehicle_is))) (present Field.Records ts (sym c.in_ok-records_found.ensures ∙ c.tally_fields-tallies.ensures.records_is)))
    (missing Field.OffloadState ts (sym c.in_err-state_found.ensures.0 ∙ c.tally_fields-tallies.ensures.state_is)) c.from_residual-in_err-state_found.result (search rules)

-- ---- then repeats

repeats_left : (m : In_ok-state_found) → Left (walk_from m.args.message.now m.args.at) (by_field Fault.Repeated ++ by_field Fault.BadContent)
repeats_left m =
    none_missing (walk_from m.args.message.now m.args.at) (sym m.in_ok-vehicle_found.ensures ∙ m.tally_fields-tallies.ensures.vehicle_is)
    (sym m.in_ok-records_found.ensures ∙ m.tally_fields-tallies.ensures.records_is) (sym m.in_ok-state_found.ensures ∙ m.tally_fields-tallies.ensures.state_is)

pub returns-in_err-vehicle_raw : goal.returns-in_err-vehicle_raw
returns-in_err-vehicle_raw c =
    let ts = walk_from c.args.message.now c.args.at in
    stopped (repeats_left (goal.at.returns-in_err-vehicle_raw c).In_ok-state_found)
    (repeated Field.Vehicle ts (sym c.in_ok-vehicle_found.ensures ∙ c.tally_fields-tallies.ensures.vehicle_is) c.in_err-vehicle_raw.ensures.0) c.from_residual-in_err-vehicle_raw.result (search rules)

pub returns-in_err-records_raw : goal.returns-in_err-records_raw
returns-in_err-records_raw c =
    let ts = walk_from c.args.message.now c.args.at in
    let v : Once Field.Vehicle c.args.message.now c.args.at c.in_ok-vehicle_raw.vehicle_raw = once c.in_ok-vehicle_raw.ensures c.in_ok-vehicle_found.ensures c.tally_fields-tallies.ensures.vehicle_is in
    stopped (passed (repeats_left (goal.at.returns-in_err-records_raw c).In_ok-state_found) (not_repeated v))
    (repeated Field.Records ts (sym c.in_ok-records_found.ensures ∙ c.tally_fields-tallies.ensures.records_is) c.in_err-records_raw.ensures.0) c.from_residual-in_err-records_raw.result (search rules)

pub returns-in_err-state_raw : goal.returns-in_err-state_raw
returns-in_err-state_raw c =
    let ts = walk_from c.args.message.now c.args.at in
    let v : Once Field.Vehicle c.args.message.now c.args.at c.in_ok-vehicle_raw.vehicle_raw = once c.in_ok-vehicle_raw.ensures c.in_ok-vehicle_found.ensures c.tally_fields-tallies.ensures.vehicle_is in
    let r : Once Field.Records c.args.message.now c.args.at c.in_ok-records_raw.records_raw = once c.in_ok-records_raw.ensures c.in_ok-records_found.ensures c.tally_fields-tallies.ensures.records_is in
    stopped (passed (passed (repeats_left (goal.at.returns-in_err-state_raw c).In_ok-state_found) (not_repeated v)) (not_repeated r))
    (repeated Field.OffloadState ts (sym c.in_ok-state_found.ensures ∙ c.tally_fields-tallies.ensures.state_is) c.in_err-state_raw.ensures.0) c.from_residual-in_err-state_raw.result (search rules)

-- ---- then contents

vehicle_once : (m : In_ok-state_raw) → Once Field.Vehicle m.args.message.now m.args.at m.in_ok-vehicle_raw.vehicle_raw
vehicle_once m = once m.in_ok-vehicle_raw.ensures m.in_ok-vehicle_found.ensures m.tally_fields-tallies.ensures.vehicle_is

records_once : (m : In_ok-state_raw) → Once Field.Records m.args.message.now m.args.at m.in_ok-records_raw.records_raw
records_once m = once m.in_ok-records_raw.ensures m.in_ok-records_found.ensures m.tally_fields-tallies.ensures.records_is

state_once : (m : In_ok-state_raw) → Once Field.OffloadState m.args.message.now m.args.at m.in_ok-state_raw.state_raw
state_once m = once m.in_ok-state_raw.ensures m.in_ok-state_found.ensures m.tally_fields-tallies.ensures.state_is

contents_left : (m : In_ok-state_raw) → Left (walk_from m.args.message.now m.args.at) (by_field Fault.BadContent)
contents_left m = none_repeated (vehicle_once m) (records_once m) (state_once m)

pub content-requires : goal.content-requires
content-requires c = raw_inside (vehicle_once c)

pub content-requires-2 : goal.content-requires-2
content-requires-2 c = raw_inside (records_once (goal.at.content-requires-2 c).In_ok-state_raw)

pub content-requires-3 : goal.content-requires-3
content-requires-3 c = raw_inside (state_once (goal.at.content-requires-3 c).In_ok-state_raw)

pub returns-in_err-vehicle : goal.returns-in_err-vehicle
returns-in_err-vehicle c =
    let m = (goal.at.returns-in_err-vehicle c).In_ok-state_raw in
    stopped (contents_left m) (bad (vehicle_once m) c.in_err-vehicle.ensures.0) c.from_residual-in_err-vehicle.result (search rules)

pub returns-in_err-records : goal.returns-in_err-records
returns-in_err-records c =
    let m = (goal.at.returns-in_err-records c).In_ok-state_raw in
    stopped (passed (contents_left m) (not_bad (vehicle_once m) c.in_ok-vehicle.ensures)) (bad (records_once m) c.in_err-records.ensures.0) c.from_residual-in_err-records.result (search rules)

pub returns-in_err-state : goal.returns-in_err-state
returns-in_err-state c =
    let m = (goal.at.returns-in_err-state c).In_ok-state_raw in
    stopped (passed (passed (contents_left m) (not_bad (vehicle_once m) c.in_ok-vehicle.ensures)) (not_bad (records_once m) c.in_ok-records.ensures)) (bad (state_once m) c.in_err-state.ensures.0) c.from_residual-in_err-state.result (search rules)

-- ---- and else it is a note

pub number_of-count-requires-clause-few : goal.number_of-count-requires-clause-few
number_of-count-requires-clause-few c = (count_read (records_once (goal.at.number_of-count-requires-clause-few c).In_ok-state_raw) c.in_ok-records.ensures).0

pub number_of-count-requires-clause-digits : goal.number_of-count-requires-clause-digits
number_of-count-requires-clause-digits c = (count_read (records_once (goal.at.number_of-count-requires-clause-digits c).In_ok-state_raw) c.in_ok-records.ensures).1

pub returns : goal.returns
returns c =
    let m = (goal.at.returns c).In_ok-state_raw in
    rw (c.number_of-count.ensures, c.is_complete-complete.ensures)
    (noted_is (vehicle_once m) (records_once m) (state_once m) c.in_ok-vehicle.ensures c.in_ok-records.ensures c.in_ok-state.ensures)
