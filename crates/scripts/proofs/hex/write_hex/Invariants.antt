use Rattle.std.proofs.Common.{◌≡◌, ◌++◌, drop, string_bytes}
use Rattle.scripts.specs.Digits.{hex_of}
use Rattle.scripts.proofs.hex.write_hex.Given as goal

abbrev pub invariant-loop-byte : goal.invariant-loop-byte
invariant-loop-byte l = string_bytes l.out ++ hex_of (drop l.byte-index l.bytes) ≡ string_bytes l.initial.out ++ hex_of l.bytes
