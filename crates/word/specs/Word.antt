-- Bytes as one number, the first of them lowest, and flags: a byte's highest bit, set where the byte does not pass. They are here for speed
-- alone; no document speaks of them.
use Rattle.std.specs.Prelude.{Bool, List, [], ◌∷◌, ℕ, ◌+◌, ◌*◌, ◌^◌, ◌<◌, get_or, if◌then◌else◌}

abbrev pub Bytes : List ℕ → Type 0
Bytes s = (i : ℕ) → get_or s i 0 < 256

-- one number of all bytes, each as f gives it
unfoldable pub each : (ℕ → ℕ) → List ℕ → ℕ
each f [] = 0
each f (b ∷ s) = each f s * 2 ^ 8 + f b

abbrev pub packed : List ℕ → ℕ
packed s = each (λ b. b) s

abbrev pub flag : (ℕ → Bool) → ℕ → ℕ
flag q b = if q b then 0 else 128
