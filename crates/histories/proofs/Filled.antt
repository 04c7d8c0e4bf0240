-- An array that a file was written into, with the length that was told.
use Rattle.std.proofs.Common.{◌≡◌, ℕ, ◌≤◌, List, length, Result, ap, ◌∙◌, refl, arith}
use Rattle.std.proofs.lemmas.List.{take_at}
use Rattle.std.specs.Result.{result_unwrap_or}
use Rattle.bodies.specs.declared.fault.Refusal.{Refusal}
use Rattle.files.specs.Placing.{Written}
use Rattle.histories.specs.Documents.{Holds}

pub filled : (file before after : List ℕ) (answer : Result ℕ Refusal) (n : ℕ) → Written 0 file before after answer
    → length file ≤ length before → length file ≤ 31319 → n ≡ result_unwrap_or answer 0 → Holds file (record { bytes = after; length = n })
filled file before after answer n w fits most is =
    let written = w.written (omega arith) in
    let all = is ∙ ap (λ r. result_unwrap_or r 0) written.0 in
    record { same = rw (all, written.1) (take_at _ _ _ refl); short = rw all most }
