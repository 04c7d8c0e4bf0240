-- A script answered line by line.
use Rattle.std.proofs.Common.{◌≡◌, ℕ, ◌+◌, List, [], ◌∷◌, ◌++◌, Some, None, Option, sym, ap, ◌∙◌, subst, append_assoc}
use Rattle.charges.specs.Findings.{Meanings}
use Rattle.entries.specs.Table.{kinds}
use Rattle.entries.specs.Entries.{head}
use Rattle.ledger.specs.Ledger.{Ledger, posted, cleared, loaded, closed, empty}
use Rattle.ledger.specs.Slots.{WellFormed}
use Rattle.ledger.proofs.Keeping.{step_keeps, ledger_keeps}
use Rattle.scripts.specs.Commands.{Order, post, load, clear, close, ask, entries, mitigated, listing, command_of}
use Rattle.scripts.specs.Texts.{lines_of}
use Rattle.transcripts.specs.Transcripts.{after, after_line, reply_line, transcript}

after_keeps : (l : Ledger) (o : Order) → WellFormed kinds l.slots → WellFormed kinds (after l o).slots
after_keeps l (post bytes) well = step_keeps kinds l (posted bytes) well
after_keeps l (load file) well = step_keeps kinds l (loaded file) well
after_keeps l (clear kind first sub) well = step_keeps kinds l (cleared (head kind first sub)) well
after_keeps l close well = step_keeps kinds l closed well
after_keeps l (ask resource) well = well
after_keeps l entries well = well
after_keeps l mitigated well = well
after_keeps l listing well = well

line_keeps : (l : Ledger) (o : Option Order) → WellFormed kinds l.slots → WellFormed kinds (after_line l o).slots
line_keeps l None well = well
line_keeps l (Some o) well = after_keeps l o well

-- so far `number` lines are answered by `text`, which leaves the ledger l, and `rest` is left
pub record Answered (m : Meanings) (script rest : List ℕ) (l : Ledger) (text : List ℕ) (number : ℕ) : Type 0 where
  pub well : WellFormed kinds l.slots
  pub left : text ++ transcript m l number (lines_of rest) ≡ transcript m (empty kinds) 0 (lines_of script)

-- a new ledger, and no line answered
pub begins : (m : Meanings) (script rest : List ℕ) (l : Ledger) (text : List ℕ) (number : ℕ) → l ≡ empty kinds → text ≡ [] → rest ≡ script → number ≡ 0 → Answered m script rest l text number
begins m script rest l text number new none whole first = record {
  well = subst (λ (x : Ledger). WellFormed kinds x.slots) (sym new) (ledger_keeps kinds []);
  left = λ i. none i ++ transcript m (new i) (first i) (lines_of (whole i));
}

module _ {m : Meanings} {script rest : List ℕ} {l : Ledger} {text : List ℕ} {number : ℕ} (so : Answered m script rest l text number) where
  pub goes_on : (k : Meanings) → k ≡ m → (line more : List ℕ) (l' : Ledger) (answer shown text' : List ℕ) → lines_of rest ≡ line ∷ lines_of more
      → (at : ℕ) → at ≡ number → answer ≡ reply_line k l (at + 1) (command_of line) → l' ≡ after_line l (command_of line) → shown ≡ answer → text' ≡ text ++ shown
      → (next : ℕ) → next ≡ number + 1 → Answered m script more l' text' next
  goes_on k alike line more l' answer shown text' cut at counted said is same pushed next one-more =
      record {
        well = subst (λ (x : Ledger). WellFormed kinds x.slots) (sym is) (line_keeps l (command_of line) so.well);
        left =
            (λ i. (pushed ∙ ap (λ a. text ++ a) (same ∙ said ∙ (λ j. reply_line (alike j) l (counted j + 1) (command_of line)))) i ++ transcript m (is i) (one-more i) (lines_of more))
            ∙ append_assoc text _ _
            ∙ ap (λ ls. text ++ transcript m l number ls) (sym cut)
            ∙ so.left;
      }
