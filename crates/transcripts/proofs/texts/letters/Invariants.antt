use Rattle.std.proofs.Common.{◌≡◌, take, string_bytes}
use Rattle.transcripts.specs.Replies.{spelled}
use Rattle.transcripts.proofs.texts.letters.Given as goal

abbrev pub invariant-loop-verdict : goal.invariant-loop-verdict
invariant-loop-verdict l = string_bytes l.text ≡ spelled (take l.verdict-index l.verdicts)
