-- The history after any start of a list of calls: the induction along the list that the other laws use. Assumes nothing.
use mathlib.Core.Path.{◌≡◌, sym, subst, ◌∙◌}
use mathlib.Core.Logic.{inl, inr}
use mathlib.Core.List.{List, [], ◌∷◌, ◌++◌, append-nil, append_assoc}
use mathlib.Core.Option.{none}
use Rattle.bench.specs.Terms.{Seat}
use Rattle.bench.specs.Calls.{Call, Typed, AllTyped}
use Rattle.bench.specs.History.{History, fresh, refusal, accepted, after}
use Rattle.bench.proofs.CallLaws.{step_cases}
use Rattle.bench.proofs.HistoryLaws.{after_nil, after_snoc}
use Rattle.demand.specs.Places.{At}

-- a list of calls, built from its first call on
snoc_ind : (P : List Call → Type 0) → P [] → ((pre : List Call) (c : Call) → P pre → P (pre ++ (c ∷ []))) → (cs : List Call) → P cs
snoc_ind P z s cs = go [] z cs
  where
    go : (pre : List Call) → P pre → (rest : List Call) → P (pre ++ rest)
    go pre h [] = subst P (sym (append-nil pre)) h
    go pre h (c ∷ rest) = subst P (append_assoc pre (c ∷ []) rest) (go (pre ++ (c ∷ [])) (s pre c h) rest)

module _ (S : Seat) where
  -- What holds at the start, and is kept by each accepted call of the list, holds after every start of the list.
  pub along : (cs : List Call) (P : History → Type 0)
      → P (fresh S)
      → ((pre : List Call) (c : Call) → At cs pre c → refusal S (after S pre) c ≡ none → P (after S pre) → P (accepted S (after S pre) c))
      → (pre post : List Call) → cs ≡ pre ++ post → P (after S pre)
  along cs P z s =
      snoc_ind (λ (pre : List Call). (post : List Call) → cs ≡ pre ++ post → P (after S pre))
      (λ post e. subst P (sym (after_nil S)) z)
      (λ pre c ih post e.
      let e' : cs ≡ pre ++ (c ∷ post) = e ∙ append_assoc pre (c ∷ []) post in
      let h : P (after S pre) = ih (c ∷ post) e' in
      subst P (sym (after_snoc S pre c))
      (elim (step_cases S (after S pre) c) [
        | inl same ↦ subst P (sym same) h
        | inr ok ↦ subst P (sym ok.1) (s pre c (post, e') ok.0 h)
      ]))

-- ---- lists of the code's types: a start of one, and the call after it

pub typed_start : (pre post : List Call) → AllTyped (pre ++ post) → AllTyped pre
typed_start [] post t = tt
typed_start (c ∷ cs) post t = (t.0, typed_start cs post t.1)

pub typed_next : (pre : List Call) (c : Call) (post : List Call) → AllTyped (pre ++ (c ∷ post)) → Typed c
typed_next [] c post t = t.0
typed_next (x ∷ xs) c post t = typed_next xs c post t.1
