-- The three files that leave a book, drawn from slots and the meanings of the bounds.
use Rattle.std.specs.Prelude.{◌≡◌, ℕ, ◌≤◌, List, take}
use Rattle.charges.specs.Findings.{Meanings}
use Rattle.entries.specs.Table.{kinds}
use Rattle.ledger.specs.Slots.{Slots, entry_file}
use Rattle.ledger.specs.Mitigation.{mitigated_file}
use Rattle.ledger.specs.Listing.{listing}
use Rattle.histories.specs.declared.document.Document.{Document}
use Rattle.histories.specs.declared.document.Document.TheVariants.{Entries, Mitigated, Listing}
use Rattle.histories.specs.declared.drawn.Files.{Files}
use Rattle.histories.specs.declared.file.File.{File}

-- the bytes that count
abbrev pub bytes_of : File → List ℕ
bytes_of f = take f.length f.bytes

-- a file that is these bytes, within the array
pub record Holds (bytes : List ℕ) (f : File) : Type 0 where
  pub same : bytes_of f ≡ bytes
  pub short : f.length ≤ 31319

-- what each document is drawn from
abbrev pub drawn : Document → Meanings → Slots → List ℕ
drawn Entries m s = entry_file kinds s
drawn Mitigated m s = mitigated_file m s
drawn Listing m s = listing m s

-- the three files of one book
pub record DrawnFrom (m : Meanings) (s : Slots) (files : Files) : Type 0 where
  pub entry_file_drawn : Holds (drawn Entries m s) files.entries
  pub mitigated_file_drawn : Holds (drawn Mitigated m s) files.mitigated
  pub listing_drawn : Holds (drawn Listing m s) files.listing
