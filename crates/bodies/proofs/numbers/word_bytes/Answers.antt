use Rattle.std.proofs.Common.{◌≡◌, ℕ, ◌<◌, ◌^◌, List, ap, ◌∙◌, rules}
use Rattle.bodies.specs.Numbers.{word, word_bytes}
use Rattle.bodies.proofs.Bytes.{word_back_alone}
use Rattle.bodies.proofs.numbers.word_bytes.Goals as goal

pub returns-clause-value : goal.returns-clause-value
unfolding word_bytes
returns-clause-value c = search rules

back : (bytes : List ℕ) (n : ℕ) → n < 2 ^ 32 → bytes ≡ word_bytes n → word bytes ≡ n
back bytes n small is = ap word is ∙ word_back_alone n small

pub returns-clause-back : goal.returns-clause-back
unfolding word_bytes
returns-clause-back c = back _ c.args.n (search rules) (search rules)
