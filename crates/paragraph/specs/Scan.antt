-- What the backward scan counts of the last paragraph, read off the paragraph's tree (rules, Paragraph).
use Rattle.std.specs.Prelude.{Bool, true, false, ◌||◌, ℕ, ◌+◌, length, if◌then◌else◌}
use mathlib.Core.List.{List, [], ◌∷◌, drop_last}
use Rattle.rules.specs.Lines.{Line, text, indented}
use Rattle.rules.specs.Lists.{join}
use Rattle.rules.specs.Paragraph.{accepts, Body, empty, ended, above_lines, grouped, recognised, leads, lead_count, other_count, any_recognised}
use Rattle.paragraph.specs.declared.Scan.{Scan}
use Rattle.paragraph.specs.declared.Paragraph.{Paragraph}

-- whether there is a non-blank line, whether one is recognised, t, n, and the indented lines at the paragraph's top, which count
-- for nothing or as others by what stands above them
abbrev pub counts : Bool → Bool → ℕ → ℕ → ℕ → Scan
counts saw one t n top =
    record {
      saw_non_blank_line = saw;
      recognized_prefix = one;
      trailer_lines = t;
      non_trailer_lines = n;
      possible_continuation_lines = top;
    }

abbrev pub counted : Body → Scan
counted (empty bs) = counts false false 0 0 0
counted (ended a (grouped top gs) bs) = counts true (any_recognised gs) (lead_count gs) (other_count gs) (length top)

-- the counts with one more line above, which is not blank
abbrev pub scanned : Line → Scan → Scan
scanned l s =
    if leads l then counts true (recognised l || s.recognized_prefix) (s.trailer_lines + 1) s.non_trailer_lines 0
    else if indented l then
    counts true s.recognized_prefix s.trailer_lines s.non_trailer_lines (s.possible_continuation_lines + 1)
    else counts true s.recognized_prefix s.trailer_lines (s.non_trailer_lines + (1 + s.possible_continuation_lines)) 0

-- whether a paragraph with these counts is a block: the indented lines at its top count as others
abbrev pub is_block : Scan → Bool
is_block s = accepts s.trailer_lines (s.non_trailer_lines + s.possible_continuation_lines) s.recognized_prefix

-- where the last paragraph starts, and its counts; where there is none, 0 and no counts
abbrev pub start_in : Body → ℕ
start_in (empty bs) = 0
start_in (ended a p bs) = length (join (above_lines a))

abbrev pub paragraph : ℕ → Scan → Paragraph
paragraph k s = record { start = k; scan = s }

abbrev pub last_paragraph : Body → Paragraph
last_paragraph t = paragraph (start_in t) (counted t)

-- where the text of the last line ends; 0 where there is no line
abbrev pub text_end : List Line → ℕ
text_end [] = 0
text_end (l ∷ []) = length (text l)
text_end (k ∷ l ∷ ls) = length k + text_end (l ∷ ls)

-- the same of the last line but one
abbrev pub end_above : List Line → ℕ
end_above ls = text_end (drop_last ls)
