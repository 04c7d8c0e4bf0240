-- What a lent buffer holds once something is written at its front.
use Rattle.std.specs.Prelude.{ℕ, List, ◌++◌, length, drop}

-- bs in front, and behind them what was there
abbrev pub onto : List ℕ → List ℕ → List ℕ
onto bs old = bs ++ drop (length bs) old
