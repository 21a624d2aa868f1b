-- An answer of a listing is told by its number and its values, so a statement `listing_says r ≡ ..` decides it. Assumes nothing.
use Rattle.std.specs.Prelude.{Option, Some, None, Err}
use mathlib.Core.List.{List, [], ◌∷◌}
use mathlib.Core.Path.{◌≡◌, refl}
use Prim.Native.Nat.{ℕ, zero, suc}
use Rattle.rules.proofs.Answers.{Decides, reread, said_decides}
use Rattle.listing.specs.Answers.{listed_values, listing_refused, listing_says, looked_says}
use Rattle.listing.specs.Turns.{counts}
use Rattle.listing.specs.declared.Counts.{Counts}
use Rattle.listing.specs.declared.Listed.{Listed}
use Rattle.listing.specs.declared.ListingError.{ListingError}

abbrev needed : List ℕ → Counts
needed [] = counts 0 0
needed (records ∷ []) = counts 0 0
needed (records ∷ bytes ∷ rest) = counts records bytes

-- an error, by what its number is more than 1
abbrev refusal : ℕ → List ℕ → ListingError
refusal zero values = ListingError.TooLong
refusal (suc zero) values = ListingError.BadPlace
refusal (suc (suc zero)) values = ListingError.NoRoom (needed values)
refusal (suc (suc (suc zero))) values = ListingError.ShortTable (needed values)
refusal (suc (suc (suc (suc n)))) values = ListingError.MoreBytes

abbrev with_looked : Counts → List ℕ → Listed
with_looked c [] = record { counts = c; looked = None }
with_looked c (looked ∷ rest) = record { counts = c; looked = Some looked }

abbrev listed : List ℕ → Listed
listed [] = with_looked (counts 0 0) []
listed (records ∷ []) = with_looked (counts 0 0) []
listed (records ∷ bytes ∷ rest) = with_looked (counts records bytes) rest

pub listing_decides : Decides listing_says
listing_decides = said_decides listed_values listing_refused listed refusal by error
  where
    of : (c : Counts) (o : Option ℕ) → listed (c.records ∷ c.bytes ∷ looked_says o) ≡ record { counts = c; looked = o }
    of c (Some looked) = refl
    of c None = refl

    by : (l : Listed) → listed (listed_values l) ≡ l
    by l = of l.counts l.looked

    error : (e : ListingError) → reread listed refusal (listing_refused e) ≡ Err e
    error ListingError.TooLong = refl
    error ListingError.BadPlace = refl
    error ListingError.MoreBytes = refl
    error (ListingError.ShortTable c) = refl
    error (ListingError.NoRoom c) = refl
