-- All trailers at once: document 02, K1. "Add a listing that fills a caller's table with one record for each trailer, in walk order;
-- folded values are unfolded one behind another, each into the part of the buffer still free. Table and buffer hold exactly what the
-- single steps give, called until the end, save that places in the buffer count from its own front; entries and bytes behind them stay."
use Rattle.std.specs.Prelude.{List, [], ◌∷◌, ◌++◌, ◌≡◌, ℕ, ◌+◌, ◌-◌, length, take, drop, Option, Some, None, Ok}
use Rattle.rules.specs.Answers.{trailer_step_says}
use Rattle.rules.specs.Number.{moved_on}
use Rattle.rules.specs.Record.{part, record_of, step_with, written_of}
use Rattle.rules.specs.Trailer.{Trailer, end_of, place_of, raw_value, walk_from}
use Rattle.rules.specs.declared.Cursor.{Cursor}
use Rattle.rules.specs.declared.Kind.{Kind}
use Rattle.rules.specs.declared.Part.{Part}
use Rattle.rules.specs.declared.TrailerRef.{TrailerRef}
use Rattle.rules.specs.declared.Value.{Value}
use Rattle.body.specs.Body.{step_answer, step_buffer}
use Rattle.listing.specs.declared.FromEnd.{FromEnd}

-- "places in the buffer count from its own front": those of a value in a tail that begins behind n bytes of it
abbrev pub shifted : ℕ → Value → Value
shifted n (Value.InInput p) = Value.InInput p
shifted n (Value.InBuffer p) = Value.InBuffer (part (n + p.start) (n + p.end))

abbrev pub shifted_record : ℕ → TrailerRef → TrailerRef
shifted_record n r = record { token = r.token; value = shifted n r.value; ending = r.ending; line = r.line }

-- how many bytes a value takes that was written to the front of a buffer
abbrev pub taken : Value → ℕ
taken (Value.InInput p) = 0
taken (Value.InBuffer p) = p.end

-- "the single steps [..], called until the end", each lent "the part of the buffer still free": from a cursor on, with so many bytes of
-- the buffer used, they give these records and leave this buffer
pub data Steps (input : List ℕ) : Cursor → ℕ → List ℕ → List TrailerRef → List ℕ → Type 0 where
  ended : {c : Cursor} {used : ℕ} {out : List ℕ} (next : Cursor)
      → trailer_step_says (Ok (step_with None next)) ≡ step_answer Kind.All input c (length (drop used out)) → Steps input c used out [] out
  stepped : {c : Cursor} {used : ℕ} {out : List ℕ} {rs : List TrailerRef} {left : List ℕ} (r : TrailerRef) (next : Cursor)
      → trailer_step_says (Ok (step_with (Some r) next)) ≡ step_answer Kind.All input c (length (drop used out))
      → Steps input next (used + taken r.value) (take used out ++ step_buffer Kind.All input c (drop used out)) rs left
      → Steps input c used out (shifted_record used r ∷ rs) left

-- ---- computed: the steps give this, and nothing else (proofs/Steps, steps_give and given_by_steps)

-- the records of these trailers, the first of them the first from the cursor on, with so many bytes of the buffer used
unfoldable pub records_of : List ℕ → Cursor → ℕ → List Trailer → List TrailerRef
records_of input c used [] = []
records_of input c used (t ∷ ts) =
    shifted_record used (record_of (moved_on input c (place_of t)).line t)
    ∷ records_of input (moved_on input c (end_of t)) (used + length (written_of (raw_value t))) ts

-- their written values, one behind another
unfoldable pub values_of : List Trailer → List ℕ
values_of [] = []
values_of (t ∷ ts) = written_of (raw_value t) ++ values_of ts

-- of the walk from a cursor on
abbrev pub records_from : List ℕ → Cursor → List TrailerRef
records_from input c = records_of input c 0 (walk_from input c.at)

abbrev pub values_from : List ℕ → Cursor → List ℕ
values_from input c = values_of (walk_from input c.at)

-- the sum of some numbers
abbrev pub sum : List ℕ → ℕ
sum [] = 0
sum (n ∷ ns) = n + sum ns

-- a part of the input, told by its distances from the end of `size` bytes
abbrev pub distances : ℕ → Part → Part
distances size p = part (size - p.start) (size - p.end)

abbrev pub told_value : ℕ → Value → Value
told_value size (Value.InInput p) = Value.InInput (distances size p)
told_value size (Value.InBuffer p) = Value.InBuffer p

-- told from the front, or from the end of `size` bytes, with so many lines from the walk's start on
abbrev pub from_front : Option FromEnd
from_front = None

abbrev pub from_end : ℕ → ℕ → Option FromEnd
from_end size lines = Some (record { size = size; lines = lines })

-- a record as it is told; its line was counted from 1 at the walk's start
abbrev pub tell : Option FromEnd → TrailerRef → TrailerRef
tell None r = r
tell (Some end) r = record {
  token = distances end.size r.token;
  value = told_value end.size r.value;
  ending = r.ending;
  line = end.lines + 1 - r.line;
}
