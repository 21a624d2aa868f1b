-- K1's records of trailers that stand further on, told from the end, are those of the trailers themselves (told_same): the cursors may
-- start at other places and with other numbers, as long as the lines that are told from make up for it (Even). Assumes nothing.
use Rattle.std.specs.Prelude.{if◌then◌else◌}
use mathlib.Core.Bool.{Bool, true, false}
use mathlib.Core.List.{List, [], ◌∷◌, ◌++◌, map}
use mathlib.Core.Path.{◌≡◌, refl, sym, ap, ◌∙◌}
use Prim.Native.Nat.{ℕ, ◌+◌, ◌-◌, ◌≤◌}
use native.Mathlib.Nat.{zero-add}
use native.Mathlib.Omega.{arith}
use lib.Dec.{T}
use lib.ListN.{length, take, length-append}
use lib.Seq.{take-append-add}
use Rattle.rules.proofs.Number.{feeds_append, feeds_split}
use Rattle.rules.proofs.Walk.{shifted as further, those_place, walk_moves, walk_step}
use Rattle.rules.specs.Lists.{filled}
use Rattle.rules.specs.Number.{line_feeds, moved_on}
use Rattle.rules.specs.Record.{part, record_of, value_of, written_of}
use Rattle.rules.specs.Trailer.{Trailer, trailer, end_of, ending_of, place_of, raw_value, raw_value_at, those, token_of, unfolded, value_is_written, walk_from}
use Rattle.rules.specs.White.{trim, trim_at}
use Rattle.rules.specs.declared.Cursor.{Cursor}
use Rattle.rules.specs.declared.Ending.{Ending}
use Rattle.rules.specs.declared.TrailerRef.{TrailerRef}
use Rattle.rules.specs.declared.Value.{Value}
use Rattle.listing.specs.Listing.{from_end, records_from, records_of, shifted, shifted_record, tell, told_value, values_of}

-- ---- the first trailer of a walk stands at the position or behind it

all_pass : (ts : List Trailer) → those (λ _. true) ts ≡ ts
all_pass [] = refl
all_pass (t ∷ ts) = ap (λ (us : List Trailer). t ∷ us) (all_pass ts)

pub walk_place : (s : List ℕ) (at : ℕ) (t : Trailer) (ts : List Trailer) → walk_from s at ≡ t ∷ ts → at ≤ place_of t
walk_place s at t ts e = those_place s (λ _. true) at (t ∷ ts) t ts e (all_pass (t ∷ ts))

-- ---- values

pub values_moved : (k : ℕ) (ts : List Trailer) → values_of (map (further k) ts) ≡ values_of ts
unfolding values_of
values_moved k [] = refl
values_moved k (trailer at l js ∷ ts) = rw (values_moved k ts)

pub not_moved : (ts : List Trailer) → map (further 0) ts ≡ ts
not_moved [] = refl
not_moved (trailer at l js ∷ ts) = rw (zero-add at, not_moved ts)

-- ---- one record

abbrev made : ℕ → ℕ → Value → Ending → ℕ → TrailerRef
made start end value ending line = record { token = part start end; value = value; ending = ending; line = line }

same_record : (ending : Ending) {a b x y i j : ℕ} {v w : Value} → a ≡ b → x ≡ y → v ≡ w → i ≡ j → made a x v ending i ≡ made b y w ending j
same_record ending e f g h = rw (e, f, g, h)

module _ (above s : List ℕ) where
  away : (i j : ℕ) → j ≡ length above + i → length (above ++ s) - j ≡ length s - i
  away i j e = omega (arith, length-append above s)

  value_moved : (used i j : ℕ) (raw : List ℕ) → j ≡ length above + i
      → told_value (length (above ++ s)) (shifted used (value_of j raw)) ≡ told_value (length s) (shifted used (value_of i raw))
  value_moved used i j raw e = by (value_is_written raw)
    where
      by : (b : Bool)
          → told_value (length (above ++ s)) (shifted used (if b then Value.InBuffer (part 0 (length (unfolded raw))) else Value.InInput (part (j + trim_at raw) (j + trim_at raw + length (trim raw)))))
          ≡ told_value (length s) (shifted used (if b then Value.InBuffer (part 0 (length (unfolded raw))) else Value.InInput (part (i + trim_at raw) (i + trim_at raw + length (trim raw)))))
      by true = refl
      by false =
          rw (
            away (i + trim_at raw) (j + trim_at raw) (omega arith),
            away (i + trim_at raw + length (trim raw)) (j + trim_at raw + length (trim raw)) (omega arith),
          )

  record_moved : (n m line number used : ℕ) (t : Trailer) → n + number ≡ m + line
      → tell (from_end (length (above ++ s)) n) (shifted_record used (record_of line (further (length above) t)))
      ≡ tell (from_end (length s) m) (shifted_record used (record_of number t))
  record_moved n m line number used (trailer at l js) e =
      let t : Trailer = trailer at l js in
      let value = raw_value_at t in
      let counted : n + 1 - line ≡ m + 1 - number = omega arith in
      same_record (ending_of t) (away at (length above + at) refl)
      (away (at + length (token_of t)) (length above + at + length (token_of t)) (omega arith))
      (value_moved used value (raw_value_at (further (length above) t)) (raw_value t) (omega arith)) counted

  -- ---- all of a walk

  -- of a cursor in `above ++ s` and one in `s`: what their numbers count from differs as the lines do that are told from
  abbrev Even : ℕ → ℕ → Cursor → Cursor → Type 0
  Even n m c d = n + d.line + line_feeds (take c.at (above ++ s)) ≡ m + c.line + (line_feeds above + line_feeds (take d.at s))

  feeds_above : (k : ℕ) → line_feeds (take (length above + k) (above ++ s)) ≡ line_feeds above + line_feeds (take k s)
  feeds_above k = ap line_feeds (take-append-add above s k) ∙ feeds_append above (take k s)

  -- moved on to the same place, they count the same
  even_moved : (n m : ℕ) (c d : Cursor) (k j : ℕ) → Even n m c d → j ≡ length above + k → c.at ≤ j → d.at ≤ k
      → n + (moved_on s d k).line ≡ m + (moved_on (above ++ s) c j).line
  even_moved n m c d k j e f h g =
      omega (arith, e, feeds_above k, ap (λ (i : ℕ). line_feeds (take i (above ++ s))) f, feeds_split (above ++ s) c.at j h, feeds_split s d.at k g)

  moved_records : (n m used : ℕ) (c d : Cursor) (ts : List Trailer) → Even n m c d
      → walk_from (above ++ s) c.at ≡ map (further (length above)) ts → walk_from s d.at ≡ ts
      → map (tell (from_end (length (above ++ s)) n)) (records_of (above ++ s) c used (map (further (length above)) ts))
      ≡ map (tell (from_end (length s) m)) (records_of s d used ts)
  unfolding records_of
  moved_records n m used c d [] e f g = refl
  moved_records n m used c d (trailer at l js ∷ ts) e f g =
      let t : Trailer = trailer at l js in
      let u : Trailer = further (length above) t in
      let us : List Trailer = map (further (length above)) ts in
      let here = even_moved n m c d at (place_of u) e refl (walk_place (above ++ s) c.at u us f) (walk_place s d.at t ts g) in
      let end_is : end_of u ≡ length above + end_of t = omega arith in
      let c-moves = walk_moves (above ++ s) c.at u us f in
      let d-moves = walk_moves s d.at t ts g in
      let there = even_moved n m c d (end_of t) (end_of u) e end_is (omega (arith, c-moves)) (omega (arith, d-moves)) in
      let next : Even n m (moved_on (above ++ s) c (end_of u)) (moved_on s d (end_of t)) =
      omega (arith, there, feeds_above (end_of t), ap (λ (i : ℕ). line_feeds (take i (above ++ s))) end_is) in
      rw (
        record_moved n m (moved_on (above ++ s) c (place_of u)).line (moved_on s d at).line used t here,
        moved_records n m (used + length (written_of (raw_value t))) (moved_on (above ++ s) c (end_of u)) (moved_on s d (end_of t)) ts next
            (walk_step (above ++ s) c.at u us f) (walk_step s d.at t ts g),
      )

  pub told_same : (n m : ℕ) (c d : Cursor) (ts : List Trailer) → (T (filled ts) → Even n m c d)
      → walk_from (above ++ s) c.at ≡ map (further (length above)) ts → walk_from s d.at ≡ ts
      → map (tell (from_end (length (above ++ s)) n)) (records_from (above ++ s) c) ≡ map (tell (from_end (length s) m)) (records_from s d)
  unfolding records_of
  told_same n m c d [] e f g = rw (f, g)
  told_same n m c d (t ∷ ts) e f g =
      ap (λ (us : List Trailer). map (tell (from_end (length (above ++ s)) n)) (records_of (above ++ s) c 0 us)) f
      ∙ moved_records n m 0 c d (t ∷ ts) (e tt) f g
      ∙ ap (λ (us : List Trailer). map (tell (from_end (length s) m)) (records_of s d 0 us)) (sym g)
