-- The laws at the table of the seven kinds.
use Rattle.std.proofs.Common.{sym, refl, ap, ◌∙◌, lit<}
use Rattle.entries.specs.Table.{kinds}
use Rattle.ledger.specs.Slots.{load}
use Rattle.ledger.specs.Ledger.{ledger, nothing}
use Rattle.ledger.specs.Laws.{Places, Reached, Reloads, Injective}
use Rattle.ledger.proofs.Places.{Solid, placed_from, exists_from, within_from, named_from}
use Rattle.ledger.proofs.Keeping.{ledger_keeps}
use Rattle.ledger.proofs.Reloading.{reload, taken, obeyed, ledgered}

pub solid : Solid kinds
solid = (lit< tt, (lit< tt, (lit< tt, (lit< tt, (lit< tt, (lit< tt, (lit< tt, tt)))))))

pub places : Places
places = record {
  count = refl;
  placed = λ i h. placed_from 1 kinds i h;
  exists = λ i h. exists_from 1 kinds i solid h;
  within = λ h z. within_from 1 kinds h z;
  named = λ h z. named_from 1 kinds h z;
}

pub reached : Reached
reached acts = ledger_keeps kinds acts

pub reloads : Reloads
reloads s well = record {
  taken = taken kinds s well solid;
  same = reload kinds s well;
  obeyed = obeyed kinds s well solid;
  ledgered = ledgered kinds s well solid;
}

pub injective : Injective
injective a b e =
    sym (reload kinds (ledger kinds a).slots (reached a))
    ∙ ap (λ file. load kinds file (nothing kinds)) e
    ∙ reload kinds (ledger kinds b).slots (reached b)
