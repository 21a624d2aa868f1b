-- The calls on a whole message in either reading, from what is shown once for every call (divider/proofs/Readings): the first is
-- untouched, and "demands 2 and 3 speak of the cut message in the second". Assumes nothing.
use mathlib.Core.Bool.{false}
use mathlib.Core.List.{List, [], map}
use mathlib.Core.Logic.{◌↔◌}
use mathlib.Core.Path.{◌≡◌}
use Prim.Native.Nat.{ℕ}
use lib.ListN.{length}
use Rattle.rules.specs.Answers.{says, over_limit}
use Rattle.rules.specs.Division.{Block, Division, blocks, walk_parts}
use Rattle.rules.specs.Lines.{lines}
use Rattle.rules.specs.Lists.{join}
use Rattle.rules.specs.Manual.{ManualGroup, ManualTrailers}
use Rattle.rules.specs.Paragraph.{BlockStart, block_start, trailers_of}
use Rattle.rules.specs.Title.{body, body_start}
use Rattle.rules.specs.Trailer.{Trailer, walk_from}
use Rattle.rules.proofs.Blocks.{walks_agree}
use Rattle.rules.proofs.Division.{exactly_one_division}
use Rattle.rules.proofs.ManualTrailers.{manual_trailers}
use Rattle.rules.proofs.Paragraph.{exactly_one_start, start_within}
use Rattle.rules.proofs.Walk.{message_walk, shifted}
use Rattle.divider.specs.Divider.{cut}
use Rattle.divider.specs.Readings.{in_reading, left_in}
use Rattle.divider.specs.declared.Reading.{Reading}
use Rattle.divider.proofs.Readings.{first_untouched, second_of_cut}
use Rattle.message.specs.Decode.{title_answer}
use Rattle.message.specs.Message.{summary_buffer, walk_answer, walk_start}
use Rattle.reading.specs.Reading.{summary_with}

-- ---- the first reading is the call that stood there before

pub title_whole : (message : List ℕ) → in_reading Reading.Whole title_answer message ≡ title_answer message
title_whole message = first_untouched (says 1 []) title_answer message (λ e. rw e)

pub summary_whole : (room : ℕ) (message : List ℕ) → in_reading Reading.Whole (summary_with room) message ≡ summary_with room message
summary_whole room message = first_untouched (says 1 []) (summary_with room) message (λ e. rw e)

pub buffer_whole : (out message : List ℕ) → left_in Reading.Whole summary_buffer message out ≡ summary_buffer message out
buffer_whole out message = first_untouched out (λ (s : List ℕ). summary_buffer s out) message (λ e. rw e)

pub walk_whole : (message : List ℕ) → in_reading Reading.Whole walk_answer message ≡ walk_answer message
walk_whole message = first_untouched (says 1 []) walk_answer message (λ e. rw e)

-- ---- demand 2 in the second reading: each answer is what the definition says of the cut message

module _ (message : List ℕ) (short : over_limit message ≡ false) where
  pub title_above : in_reading Reading.AboveDivider title_answer message ≡ title_answer (cut message)
  title_above = second_of_cut (says 1 []) title_answer message short

  pub summary_above : (room : ℕ) → in_reading Reading.AboveDivider (summary_with room) message ≡ summary_with room (cut message)
  summary_above room = second_of_cut (says 1 []) (summary_with room) message short

  pub buffer_above : (out : List ℕ) → left_in Reading.AboveDivider summary_buffer message out ≡ summary_buffer (cut message) out
  buffer_above out = second_of_cut out (λ (s : List ℕ). summary_buffer s out) message short

  pub walk_above : in_reading Reading.AboveDivider walk_answer message ≡ walk_answer (cut message)
  walk_above = second_of_cut (says 1 []) walk_answer message short

-- the steps from there on give the trailers of the cut message's body, which are those of the manual's group
pub trailers_above : (message : List ℕ)
    → walk_from (cut message) (walk_start (cut message)).at ≡ map (shifted (body_start (cut message))) (trailers_of (body (cut message)))
trailers_above message = message_walk (cut message) (block_start (body (cut message)))

pub manual_above : (message : List ℕ) (m : ManualGroup (lines (body (cut message)))) (ts : List Trailer)
    → ManualTrailers (length (join m.above)) m.lines ts ↔ (ts ≡ trailers_of (body (cut message)))
manual_above message = manual_trailers (body (cut message))

-- ---- demand 3 in the second reading: one start and one division of the cut message's body, and the walks agree

pub start_above : (message : List ℕ) → (k : ℕ) × BlockStart (body (cut message)) k × ((j : ℕ) → BlockStart (body (cut message)) j → j ≡ k)
start_above message = exactly_one_start (body (cut message))

pub division_above : (message : List ℕ) → let b = body (cut message) in
    (bs : List Block) × Division b (block_start b) bs × ((cs : List Block) → Division b (block_start b) cs → cs ≡ bs)
division_above message = exactly_one_division (body (cut message)) (block_start (body (cut message))) (start_within (body (cut message)))

pub walks_above : (message : List ℕ) → let b = body (cut message) in walk_parts 0 (blocks b (block_start b)) ≡ trailers_of b
walks_above message = walks_agree (body (cut message)) (block_start (body (cut message))) (start_within (body (cut message)))
