-- A record has seven numbers. Assumes nothing.
use mathlib.Core.List.{List, ◌++◌}
use mathlib.Core.Path.{◌≡◌, refl, ap}
use Prim.Native.Nat.{ℕ, suc}
use lib.ListN.{length}
use Rattle.rules.specs.Answers.{value_says}
use Rattle.rules.specs.declared.TrailerRef.{TrailerRef}
use Rattle.rules.specs.declared.Value.{Value}
use Rattle.flat.specs.Flat.{numbers_of}

value_three : (v : Value) (ns : List ℕ) → length (value_says v ++ ns) ≡ suc (suc (suc (length ns)))
value_three (Value.InInput p) ns = refl
value_three (Value.InBuffer p) ns = refl

pub seven : (r : TrailerRef) → length (numbers_of r) ≡ 7
seven r = ap (λ (k : ℕ). suc (suc k)) (value_three r.value _)
