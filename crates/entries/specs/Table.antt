-- The seven kinds of entry, in file order.
use Rattle.std.specs.Prelude.{List, [], ◌∷◌}
use Rattle.entries.specs.Sections.{Section}
use Rattle.bodies.specs.Bodies.{line_fault, standing_fault, parameter_fault, quantity_fault, price_fault, remark_fault}

-- lines, standings, offers, references, reference quantities, prices, remarks
abbrev pub kinds : List Section
kinds =
    record { firsts = 5; subs = 10; fault = line_fault }
    ∷ record { firsts = 32; subs = 1; fault = λ _. standing_fault }
    ∷ record { firsts = 32; subs = 8; fault = parameter_fault }
    ∷ record { firsts = 32; subs = 8; fault = parameter_fault }
    ∷ record { firsts = 32; subs = 4; fault = λ _. quantity_fault }
    ∷ record { firsts = 32; subs = 12; fault = λ _. price_fault }
    ∷ record { firsts = 32; subs = 1; fault = λ _. remark_fault }
    ∷ []
