use Rattle.std.proofs.Common.{◌≡◌, ◌<◌, is_some, refl, sym, ap, ◌∙◌, arith}
use Rattle.std.proofs.lemmas.Grind.{common_steps}
use Rattle.std.specs.Option.{option_map}
use Rattle.bodies.specs.Bodies.{standing_bytes}
use Rattle.bodies.specs.Numbers.{word_bytes, number_bytes}
use Rattle.table.specs.Ranges.{price_ranged, quantity_ranged}
use Rattle.table.specs.Holding.{holds}
use Rattle.table.proofs.Fullness.{some_mapped}
use Rattle.table.proofs.Records.{standing_changed, offer_changed, reference_changed, quantity_changed, price_changed, remark_changed, changes_at, full_at}
use Rattle.table.proofs.record.clear.Goals as goal

pub returns-in-2 : goal.returns-in-2
unfolding holds
returns-in-2 c =
    let r = c.args.resource.now in
    let h = c.args.head in
    let zero : 0 ≡ h.sub = grind (arith, common_steps) in
    let now = changes_at r h 2 0 (sym c.in-2.is) zero (standing_changed r _ _ (ap (option_map standing_bytes) c.take.ensures.after)) in
    record { changed = now.changed; was = full_at r h 2 0 (sym c.in-2.is) zero _ (c.is_some.ensures ∙ ap is_some c.take.ensures.value ∙ some_mapped standing_bytes _); kept = now.kept }

pub returns-in-3 : goal.returns-in-3
unfolding holds
returns-in-3 c =
    let r = c.args.resource.now in
    let h = c.args.head in
    let e = c.clear_parameter.ensures in
    let now = changes_at r h 3 h.sub (sym c.in-3.is) refl (offer_changed r h.sub _ _ (record { changed = e.changed; kept = e.kept })) in
    record { changed = now.changed; was = full_at r h 3 h.sub (sym c.in-3.is) refl _ e.was; kept = now.kept }

pub returns-in-4 : goal.returns-in-4
unfolding holds
returns-in-4 c =
    let r = c.args.resource.now in
    let h = c.args.head in
    let e = c.clear_parameter-in-4.ensures in
    let now = changes_at r h 4 h.sub (sym c.in-4.is) refl (reference_changed r h.sub _ _ (record { changed = e.changed; kept = e.kept })) in
    record { changed = now.changed; was = full_at r h 4 h.sub (sym c.in-4.is) refl _ e.was; kept = now.kept }

pub returns-in-5 : goal.returns-in-5
unfolding holds
returns-in-5 c =
    let r = c.args.resource.now in
    let h = c.args.head in
    let e = c.take-in-5.ensures in
    let few : h.sub < 4 = grind (arith, common_steps) in
    let now = changes_at r h 5 h.sub (sym c.in-5.is) refl (quantity_changed r h.sub _ _ (omega arith) (ap (option_map word_bytes) e.after) (ap quantity_ranged e.after)) in
    record { changed = now.changed; was = full_at r h 5 h.sub (sym c.in-5.is) refl _ (c.is_some-in-5.ensures ∙ ap is_some e.value ∙ some_mapped word_bytes _); kept = now.kept }

pub returns-in-6 : goal.returns-in-6
unfolding holds
returns-in-6 c =
    let r = c.args.resource.now in
    let h = c.args.head in
    let e = c.take-in-6.ensures in
    let few : h.sub < 12 = grind (arith, common_steps) in
    let now = changes_at r h 6 h.sub (sym c.in-6.is) refl (price_changed r h.sub _ _ (omega arith) (ap (option_map number_bytes) e.after) (ap price_ranged e.after)) in
    record { changed = now.changed; was = full_at r h 6 h.sub (sym c.in-6.is) refl _ (c.is_some-in-6.ensures ∙ ap is_some e.value ∙ some_mapped number_bytes _); kept = now.kept }

pub returns-in_default : goal.returns-in_default
unfolding holds
returns-in_default c =
    let r = c.args.resource.now in
    let h = c.args.head in
    let seven : 7 ≡ h.kind = grind (arith, common_steps) in
    let zero : 0 ≡ h.sub = grind (arith, common_steps) in
    let now = changes_at r h 7 0 seven zero (remark_changed r _ _ refl) in
    record { changed = now.changed; was = full_at r h 7 0 seven zero _ c.has_words.ensures; kept = now.kept }
