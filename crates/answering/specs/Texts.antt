-- The text that answers an input, whatever its bytes.
use Rattle.std.specs.Prelude.{ℕ, cond, List, [], ◌∷◌, ◌++◌, length, codes, decimal, ◌==◌, nat_lt}
use Rattle.bounds.specs.Meanings.{ceiling_passes, shortfall_passes, exempt_passes}
use Rattle.charges.specs.Findings.{Meanings}
use Rattle.entries.specs.Files.{Told}
use Rattle.entries.specs.Table.{kinds}
use Rattle.ledger.specs.Ledger.{loaded, empty, fault, step}
use Rattle.ledger.specs.Listing.{listing}

-- the market's own bounds in the four places
abbrev pub standard_meanings : Meanings
standard_meanings = record { curves = exempt_passes ceiling_passes; amounts = ceiling_passes; impacts = ceiling_passes; quantities = shortfall_passes }

-- an end of line is 10
abbrev pub too_long : List ℕ
too_long = codes "TOO LONG" ++ (10 ∷ [])

-- the fault's number and its place
abbrev pub refused : Told → List ℕ
refused t = codes "REFUSED " ++ (decimal t.number ++ (codes " AT " ++ (decimal t.place ++ (10 ∷ []))))

-- a new book's fault on the file, or its listing once it holds the file
abbrev pub file_text : Meanings → List ℕ → List ℕ
file_text m file =
    cond ((fault kinds (empty kinds) (loaded file)).number == 0)
    (listing m (step kinds (empty kinds) (loaded file)).slots)
    (refused (fault kinds (empty kinds) (loaded file)))

abbrev pub text_for : Meanings → List ℕ → List ℕ
text_for m input = cond (nat_lt 65536 (length input)) too_long (file_text m input)
