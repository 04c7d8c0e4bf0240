use Rattle.std.proofs.Common.{◌∙◌, sym, refl}
use Rattle.scripts.proofs.Cutting.{front_is, back_is, no_byte, no_back, found, not_found}
use Rattle.scripts.proofs.texts.split_at_first.Goals as goal

pub returns-in_err-end : goal.returns-in_err-end
returns-in_err-end c =
    let none = not_found c.args.byte c.args.text.now (sym c.find.ensures ∙ c.in_err-end.was) in
    rw (c.from_residual.ensures) (record { test = no_byte c.args.byte c.args.text.now _ refl none; parts = no_back c.args.byte c.args.text.now _ refl none })

pub returns : goal.returns
returns c =
    let at = found c.args.byte c.args.text.now c.in_ok-end.end (sym c.find.ensures ∙ c.in_ok-end.was) in
    record { test = rw (← at.0) at.1; parts = (front_is _ _ _ at.0, back_is _ _ _ at.0) }
