-- The walk's trailers are those of the manual's group, and no others (manual_trailers); without a group there are none
-- (no_manual_group). Assumes nothing.
use mathlib.Core.Bool.{Bool, true, false}
use mathlib.Core.List.{List, [], ◌∷◌, ◌++◌}
use mathlib.Core.Logic.{◌↔◌}
use mathlib.Core.Path.{◌≡◌, refl, sym, ap, ◌∙◌}
use Prim.Native.Nat.{ℕ, ◌+◌}
use native.Mathlib.Omega.{arith}
use lib.Dec.{T, T_not, not_T}
use lib.ListN.{length, length-append}
use Rattle.rules.specs.Lines.{Line, lines, folds}
use Rattle.rules.specs.Lists.{All, Stops, join, run}
use Rattle.rules.specs.Manual.{ManualGroup, ManualTrailers, none, found, skipped}
use Rattle.rules.specs.Paragraph.{above_lines, Body, empty, ended, body_lines, IsBody, Group, group, group_lines, IsGroups}
use Rattle.rules.specs.Paragraph.{Grouped, grouped, grouped_lines, IsGrouped, accepted, groups, parse, trailers_of}
use Rattle.rules.specs.Trailer.{TrailerLine, Trailer, trailer, trailer_line, token_in, gap_in, value_in, walk}
use Rattle.rules.proofs.BodyTrailers.{block_trailers, body_trailers}
use Rattle.rules.proofs.Lists.{all_of, is_false, is_true, run_cut}
use Rattle.rules.proofs.Manual.{accepted_is_group, block_is_group, group_last_run, has_block}
use Rattle.rules.proofs.Paragraph.{groups_is, groups-lines, groups_stop, last_run_unique, no_last_run, tree_last_run, parse-lines, parse_is}
use Rattle.rules.proofs.Trailer.{plain, folds_no_trailer, is_trailer_line, trailer_line_lem, walk_skips, walk_trailer}

-- ---- a line is a trailer line or begins no trailer

no_reading : (l : Line) → T (plain l) → (token gap value : List ℕ) → TrailerLine l token gap value → ⊥
no_reading l n token gap value r = T_not (trailer_line l) n (is_trailer_line l token gap value r)

no_trailer : (l : Line) → ((token gap value : List ℕ) → TrailerLine l token gap value → ⊥) → T (plain l)
no_trailer l n = not_T (trailer_line l) (λ t. n (token_in l) (gap_in l) (value_in l) (trailer_line_lem l t))

-- a trailer line with the lines under it, and the lines behind them
walk_found : (at : ℕ) (l : Line) (js ls : List Line) → T (trailer_line l) → All folds js → Stops folds ls
    → walk at (l ∷ (js ++ ls)) ≡ trailer at l js ∷ walk (at + length l + length (join js)) ls
walk_found at l js ls t f s =
    let (own, behind) = run_cut folds js ls f s in
    walk_trailer at (at + length l + length (join (run folds (js ++ ls)))) l (js ++ ls) t refl ∙ rw (own, behind)

-- ---- the manual's reading of any lines is the walk's

pub reading_is_walk : {at : ℕ} {ls : List Line} {ts : List Trailer} → ManualTrailers at ls ts → ts ≡ walk at ls
reading_is_walk none = refl
reading_is_walk (found {at} {l} {js} {ls} {ts} token gap value r f s more) =
    ap (λ (us : List Trailer). trailer at l js ∷ us) (reading_is_walk more)
    ∙ sym (walk_found at l js ls (is_trailer_line l token gap value r) f s)
reading_is_walk (skipped {at} {l} {ls} n more) = reading_is_walk more ∙ sym (walk_skips at l ls (no_trailer l n))

-- ---- and the walk is such a reading

skip_all : (at end : ℕ) (js ls : List Line) → All plain js → end ≡ at + length (join js)
    → ManualTrailers end ls (walk end ls) → ManualTrailers at (js ++ ls) (walk at (js ++ ls))
skip_all at end [] ls n e r = let here : end ≡ at = omega arith in rw here at r
skip_all at end (j ∷ js) ls n e r =
    let rest = skip_all (at + length j) end js ls n.1 (omega (arith, length-append j (join js))) r in
    rw (is_false (trailer_line j) n.0) (skipped (no_reading j n.0) rest)

groups_read : (at : ℕ) (gs : List Group) → IsGroups gs → ManualTrailers at (group_lines gs) (walk at (group_lines gs))
groups_read at [] w = none
groups_read at (group l js ∷ gs) w = by (trailer_line l) refl (groups_read end gs w.2)
  where
    rest : List Line
    rest = group_lines gs

    end : ℕ
    end = at + length l + length (join js)

    by : (b : Bool) → trailer_line l ≡ b → ManualTrailers end rest (walk end rest)
        → ManualTrailers at (l ∷ (js ++ rest)) (walk at (l ∷ (js ++ rest)))
    by true q more =
        let here : T (trailer_line l) = rw q tt in
        let stop : Stops folds rest = groups_stop gs w.2 in
        rw (walk_found at l js rest here w.1 stop)
        (found (token_in l) (gap_in l) (value_in l) (trailer_line_lem l here) w.1 stop more)
    by false q more =
        let under : All plain js = all_of folds plain folds_no_trailer js w.1 in
        skip_all at end (l ∷ js) rest (rw q tt, under) (omega (arith, length-append l (join js))) more

pub walk_is_reading : (at : ℕ) (ls : List Line) → ManualTrailers at ls (walk at ls)
walk_is_reading at ls = by (groups ls) (groups_is ls) (groups-lines ls)
  where
    by : (g : Grouped) → IsGrouped g → grouped_lines g ≡ ls → ManualTrailers at ls (walk at ls)
    by (grouped top gs) w e =
        let first : ℕ = at + length (join top) in
        rw (← e) (skip_all at first top (group_lines gs) (all_of folds plain folds_no_trailer top w.0) refl (groups_read first gs w.1))

-- ---- the manual's group

group_trailers : {ls : List Line} (t : Body) → IsBody t → body_lines t ≡ ls → (m : ManualGroup ls)
    → block_trailers t ≡ walk (length (join m.above)) m.lines
group_trailers (empty bs) w e m = absurd (no_last_run m.above m.lines m.below bs (group_last_run m) w (sym (e ∙ m.read)))
group_trailers (ended a p bs) w e m =
    let (above, run, below) = last_run_unique (above_lines a) (grouped_lines p) bs m.above m.lines m.below
    (tree_last_run a p bs w) (group_last_run m) (e ∙ m.read) in
    let block : T (accepted p) = rw (accepted_is_group p w.3, run) m.is_group in
    rw (is_true (accepted p) block, above, run)

-- the walk's trailers are those of the manual's group, and no others
pub manual_trailers : (body : List ℕ) (m : ManualGroup (lines body)) (ts : List Trailer)
    → ManualTrailers (length (join m.above)) m.lines ts ↔ (ts ≡ trailers_of body)
manual_trailers body m ts = (λ r. reading_is_walk r ∙ sym same, λ e. rw (e, same) (walk_is_reading (length (join m.above)) m.lines))
  where
    same : trailers_of body ≡ walk (length (join m.above)) m.lines
    same = body_trailers body ∙ group_trailers (parse (lines body)) (parse_is (lines body)) (parse-lines (lines body)) m

no_block : (t : Body) → (T (has_block t) → ⊥) → block_trailers t ≡ []
unfolding has_block
no_block (empty bs) n = refl
no_block (ended a p bs) n = rw (is_false (accepted p) (not_T (accepted p) n))

-- and without a group there are none
pub no_manual_group : (body : List ℕ) → (ManualGroup (lines body) → ⊥) → trailers_of body ≡ []
no_manual_group body n = body_trailers body ∙ no_block (parse (lines body)) (λ h. n (block_is_group (lines body) h))
