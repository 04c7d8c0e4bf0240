-- A letter for each verdict, in turn.
use Rattle.std.proofs.Common.{◌≡◌, ℕ, ◌+◌, ◌<◌, ◌≤◌, List, [], ◌∷◌, ◌++◌, length, get_or, take, sym, ap, ◌∙◌}
use Rattle.std.proofs.lemmas.List.{take_more, take_all, map_push}
use Rattle.vocabulary.specs.declared.verdict.Verdict.{Verdict}
use Rattle.vocabulary.specs.Numbers.{letter}
use Rattle.transcripts.specs.Replies.{spelled}

module _ (verdicts : List Verdict) (text : List ℕ) (i : ℕ) (so : text ≡ spelled (take i verdicts)) where
  pub one_more : (d : Verdict) (after one : List ℕ) → i < length verdicts → after ≡ text ++ one → one ≡ spelled (get_or verdicts i d ∷ []) → after ≡ spelled (take (i + 1) verdicts)
  one_more d after one less pushed is =
      pushed ∙ (λ j. so j ++ is j) ∙ sym (map_push letter (take i verdicts) (get_or verdicts i d)) ∙ ap spelled (sym (take_more verdicts i d less))

  pub all : length verdicts ≤ i → text ≡ spelled verdicts
  all long = so ∙ ap spelled (take_all i verdicts long)
