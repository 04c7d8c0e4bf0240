-- A call taken out of a script.
use Rattle.std.proofs.Common.{◌≡◌, ℕ, zero, suc, ◌+◌, ◌<◌, true, List, [], ◌∷◌, ◌++◌, map, length, get_or, take, vec_items, vec_len, sym, ap, ◌∙◌, arith}
use Rattle.std.proofs.lemmas.List.{length-map, get_or-map, map_push, take_more}
use Rattle.std.proofs.lemmas.Bool.{and_parts}
use Rattle.scripts.specs.Commands.{Order, close}
use Rattle.scripts.specs.Ranges.{taken_from, within, all_within}
use Rattle.scripts.specs.Scripts.{calls_in, said_by}
use Rattle.histories.specs.declared.call.Call.{Call}
use Rattle.scripts.specs.declared.script.Script.{Script}
use Rattle.scripts.specs.declared.scripted.Scripted.{Scripted}

each_within : (size : ℕ) (calls : List Scripted) (i : ℕ) (d : Scripted) → all_within size calls ≡ true → i < length calls → within size (get_or calls i d) ≡ true
each_within size [] i d h less = absurd (omega arith)
each_within size (call ∷ more) zero d h less = (and_parts _ _ h).0
each_within size (call ∷ more) (suc i) d h less = each_within size more i d (and_parts _ _ h).1 (omega arith)

module _ (script : Script) where
  pub count : vec_len script.calls ≡ length (calls_in script)
  count = script.calls.ok.0 ∙ sym (length-map (vec_items script.calls) (taken_from (vec_items script.bytes)))

  module _ (index : ℕ) (call : Scripted) (less : index < vec_len script.calls) (is : call ≡ get_or (vec_items script.calls) index call) where
    short : index < length (vec_items script.calls)
    short = let long = script.calls.ok.0 in omega arith

    pub one_within : within (length (vec_items script.bytes)) call ≡ true
    one_within = ap (within (length (vec_items script.bytes))) is ∙ each_within _ (vec_items script.calls) index call script.inside short

    pub one_said : taken_from (vec_items script.bytes) call ≡ get_or (calls_in script) index close
    one_said =
        ap (taken_from (vec_items script.bytes)) is
        ∙ sym (get_or-map (taken_from (vec_items script.bytes)) (vec_items script.calls) index call close short)

-- one call more in the list
pub one_listed : (calls : List Order) (done after : List Call) (index : ℕ) (call : Call) → map said_by done ≡ take index calls
    → index < length calls → said_by call ≡ get_or calls index close → after ≡ done ++ call ∷ [] → map said_by after ≡ take (index + 1) calls
one_listed calls done after index call so less is pushed =
    ap (map said_by) pushed ∙ map_push said_by done call ∙ (λ i. so i ++ is i ∷ []) ∙ sym (take_more calls index close less)
