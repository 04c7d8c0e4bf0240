-- The answers to the lines of a script, each on the ledger that the lines above it leave.
use Rattle.std.specs.Prelude.{ℕ, ◌+◌, List, [], ◌∷◌, ◌++◌, Some, None, Option}
use Rattle.charges.specs.Findings.{Meanings}
use Rattle.entries.specs.Entries.{head}
use Rattle.entries.specs.Table.{kinds}
use Rattle.ledger.specs.Ledger.{Ledger, posted, cleared, loaded, closed, fault, step}
use Rattle.ledger.specs.Listing.{listing as listing_of}
use Rattle.ledger.specs.Mitigation.{mitigated_file}
use Rattle.ledger.specs.Slots.{entry_file}
use Rattle.scripts.specs.Commands.{Order, post, load, clear, close, ask, entries, mitigated, listing, command_of}
use Rattle.transcripts.specs.Replies.{told_text, hex_line, found_text, no_call}

-- what an order leaves: a question and a file change nothing
abbrev pub after : Ledger → Order → Ledger
after l (post bytes) = step kinds l (posted bytes)
after l (load file) = step kinds l (loaded file)
after l (clear kind first sub) = step kinds l (cleared (head kind first sub))
after l close = step kinds l closed
after l (ask resource) = l
after l entries = l
after l mitigated = l
after l listing = l

-- what an order is answered by
abbrev pub reply : Meanings → Ledger → Order → List ℕ
reply m l (post bytes) = told_text (fault kinds l (posted bytes))
reply m l (load file) = told_text (fault kinds l (loaded file))
reply m l (clear kind first sub) = told_text (fault kinds l (cleared (head kind first sub)))
reply m l close = told_text (fault kinds l closed)
reply m l (ask resource) = found_text m l.slots resource
reply m l entries = hex_line (entry_file kinds l.slots)
reply m l mitigated = hex_line (mitigated_file m l.slots)
reply m l listing = hex_line (listing_of m l.slots)

-- a line that is no order changes nothing, and its number is told
abbrev pub after_line : Ledger → Option Order → Ledger
after_line l None = l
after_line l (Some order) = after l order

abbrev pub reply_line : Meanings → Ledger → ℕ → Option Order → List ℕ
reply_line m l number None = no_call number
reply_line m l number (Some order) = reply m l order

-- the answers in turn, where `above` lines stand above these
abbrev pub transcript : Meanings → Ledger → ℕ → List (List ℕ) → List ℕ
transcript m l above [] = []
transcript m l above (line ∷ more) =
    reply_line m l (above + 1) (command_of line) ++ transcript m (after_line l (command_of line)) (above + 1) more
