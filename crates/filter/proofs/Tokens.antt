-- The tokens that are asked for, as a chain of tests that the code makes. Assumes nothing.
use mathlib.Core.Bool.{Bool, true, false, not, ◌&&◌, ◌||◌, or-false}
use mathlib.Core.List.{List, [], ◌∷◌}
use mathlib.Core.Path.{◌≡◌, refl}
use Prim.Native.Nat.{ℕ, suc}
use native.Mathlib.Omega.{arith}
use borrow.Author.Tests.{ne_eqb}
use lib.Dec.{eqb}
use lib.ListN.{length}
use Rattle.rules.specs.Trailer.{acked_by, asked, assisted_by, attribution, author, co_authored_by, reviewed_by, same, signed_off_by, tested_by}

pub author_is : (token : List ℕ) → author token ≡ same token signed_off_by || same token co_authored_by
unfolding author
author_is token = rw (or-false (same token co_authored_by))

regroup : (a b c d e f : Bool) → a || (b || (c || (d || (e || (f || false))))) ≡ ((((a || b) || c) || d) || e) || f
regroup true b c d e f = refl
regroup false true c d e f = refl
regroup false false true d e f = refl
regroup false false false true e f = refl
regroup false false false false true f = refl
regroup false false false false false f = or-false f

pub attribution_is : (token : List ℕ) → attribution token
    ≡ ((((same token signed_off_by || same token co_authored_by) || same token assisted_by) || same token acked_by) || same token reviewed_by) || same token tested_by
unfolding attribution
attribution_is token =
    regroup (same token signed_off_by) (same token co_authored_by) (same token assisted_by)
    (same token acked_by) (same token reviewed_by) (same token tested_by)

pub asked_is : (name token : List ℕ) → asked name token ≡ not (eqb (length name) 0) && same name token
unfolding asked
asked_is [] token = refl
asked_is (c ∷ name) token = rw (ne_eqb (suc (length name)) 0 (omega arith))
