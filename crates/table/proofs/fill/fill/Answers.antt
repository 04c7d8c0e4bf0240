use Rattle.std.proofs.Common.{Ok, Option, ap, ◌∙◌, subst}
use Rattle.entries.specs.declared.entry.Entry.{Entry}
use Rattle.entries.specs.Entries.{Raw}
use Rattle.entries.specs.Files.{head_fault, body_fault, Next}
use Rattle.entries.specs.Table.{kinds}
use Rattle.ledger.proofs.Keeping.{sound}
use Rattle.table.proofs.Filling.{left_starts, left_more, left_none, never_refused, sound_here}
use Rattle.table.proofs.fill.fill.Goals as goal

pub walk-init : goal.walk-init
walk-init c = record { left = left_starts _ _ _ c.at_first-cursor.ensures.value c.requires; ranged = λ fit. fit }

pub next_sound-requires : goal.next_sound-requires
next_sound-requires c = record { between = c.walk.invariant.left.walked.between; sound = sound_here c.walk.invariant.left c.requires }

pub returns-in_default : goal.returns-in_default
returns-in_default c = record {
  slots = never_refused c.walk.invariant.left c.requires _ _ c.next_sound.ensures c.in_default.not-Ok;
  ranged = c.walk.invariant.ranged;
}

pub returns-in_default-next : goal.returns-in_default-next
returns-in_default-next c =
    let P : Option Entry → Type 0 = λ o. Next kinds c.args.file.now c.walk.cursor c.next_sound.new.cursor (Ok o) in
    record { slots = left_none c.walk.invariant.left (subst P c.in_default-next.is c.in-Ok.ensures).0; ranged = c.walk.invariant.ranged }

pub take-requires : goal.take-requires
take-requires c =
    let P : Option Entry → Type 0 = λ o. Next kinds c.args.file.now c.walk.cursor c.next_sound.new.cursor (Ok o) in
    let next = subst P c.in-Some.is c.in-Ok.ensures in
    let held = sound kinds 0 _ next.1 in
    record {
      slot = ap (λ (r : Raw). head_fault kinds r.head) next.2 ∙ held.named;
      fault = ap (λ (r : Raw). body_fault kinds r.head r.body) next.2 ∙ held.held;
    }

pub walk-preserved : goal.walk-preserved
walk-preserved c =
    let P : Option Entry → Type 0 = λ o. Next kinds c.args.file.now c.walk.cursor c.next_sound.new.cursor (Ok o) in
    let next = subst P c.in-Some.is c.in-Ok.ensures in
    record {
      left = left_more c.walk.invariant.left _ _ next.0 next.1 next.2 next.3 _ c.take.ensures.slots;
      ranged = λ fit. c.take.ensures.ranged (c.walk.invariant.ranged fit);
    }
