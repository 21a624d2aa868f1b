-- Bytes that an LF directly follows: two LFs, where a summary stops, and a blank before an LF, which goes.
use Rattle.std.specs.Prelude.{Bool, false, ◌&&◌, ◌||◌, List, [], ◌∷◌, ℕ, suc, eqb, if◌then◌else◌}
use Rattle.rules.specs.Bytes.{LF, within}

-- a byte is from `low` to `high`, and the next one is an LF
abbrev pub followed : ℕ → ℕ → ℕ → ℕ → Bool
followed low high c d = within low high c && eqb d LF

-- there is such a byte
abbrev pub any_followed : ℕ → ℕ → List ℕ → Bool
any_followed low high [] = false
any_followed low high (c ∷ []) = false
any_followed low high (c ∷ d ∷ s) = followed low high c d || any_followed low high (d ∷ s)

-- how many bytes stand before the first one; all of them where there is none
abbrev pub until_followed : ℕ → ℕ → List ℕ → ℕ
until_followed low high [] = 0
until_followed low high (c ∷ []) = 1
until_followed low high (c ∷ d ∷ s) = if followed low high c d then 0 else suc (until_followed low high (d ∷ s))
