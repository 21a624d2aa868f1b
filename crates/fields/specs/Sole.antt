-- The answers about a raw value's lines: the first from a place on that trims to something, and the one that alone does.
use Rattle.std.specs.Prelude.{List, [], ◌≡◌, ℕ, ◌+◌, ◌-◌, ◌≤◌, ◌<◌, length, take, drop, Option, Some, None}
use Rattle.rules.specs.Lines.{lines}
use Rattle.rules.specs.declared.Part.{Part}
use Rattle.closing.specs.Judged.{sole_line, first_kept, kept_at, behind_kept}
use Rattle.fields.specs.declared.sole.Kept.{Kept}

-- a part of a byte string
abbrev pub part_in : List ℕ → Part → List ℕ
part_in s p = take (p.end - p.start) (drop p.start s)

-- `r` is that line of `value` from `at` on
pub record IsKept (value : List ℕ) (at : ℕ) (r : Kept) : Type 0 where
  pub order : (r.part.start < r.part.end) × (r.part.end ≤ length value) × (r.next ≤ length value)
  pub place : r.part.start ≡ at + kept_at (lines (drop at value))
  pub kept : part_in value r.part ≡ first_kept (lines (drop at value))
  pub behind : lines (drop r.next value) ≡ behind_kept (lines (drop at value))

abbrev pub KeptAt : List ℕ → ℕ → Option Kept → Type 0
KeptAt value at (Some r) = IsKept value at r
KeptAt value at None = first_kept (lines (drop at value)) ≡ []

-- `p` is the sole line
pub record IsSole (value : List ℕ) (p : Part) : Type 0 where
  pub order : (p.start < p.end) × (p.end ≤ length value)
  pub place : p.start ≡ kept_at (lines value)
  pub sole : part_in value p ≡ sole_line value

abbrev pub SoleAt : List ℕ → Option Part → Type 0
SoleAt value (Some p) = IsSole value p
SoleAt value None = sole_line value ≡ []
