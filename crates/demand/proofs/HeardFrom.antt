-- Where a LOG that a bench has heard came from: taken in a gathering, or made as a vote; and that it is heard from then on. Assumes
-- nothing.
use Prim.Native.Nat.{ℕ, ◌≤◌, ◌<◌}
use native.Mathlib.Omega.{arith}
use mathlib.Core.Path.{◌≡◌, sym, ap, subst, ◌∙◌}
use mathlib.Core.Logic.{◌⊎◌, inl, inr}
use mathlib.Core.List.Memᴰ
use mathlib.Core.List.{List, [], ◌∷◌, ◌++◌, Memᴰ as Mem}
use mathlib.Core.Option.{Option, some, none, some-injective}
use Rattle.message.specs.Logs.{Block}
use Rattle.message.specs.Message.{Content, Meaning, log_message, means}
use Rattle.bench.specs.Terms.{Seat}
use Rattle.bench.specs.Calls.{Call, begin, receive, act, find}
use Rattle.bench.specs.History.{History, refusal, file_made, closed, accepted, made_by, decided_by, after}
use Rattle.bench.proofs.CallLaws.{act_ok, receive_ok, Receives, filed_heard, filed_cases, made_cases, accepted_begin, accepted_receive}
use Rattle.bench.proofs.CallLaws.{accepted_find}
use Rattle.bench.proofs.CallLaws.{accepted_act}
use Rattle.bench.proofs.HistoryLaws.{after_ok}
use Rattle.demand.specs.Places.{At, ActsAfter, MakesAfter, TakesAfter}
use Rattle.demand.proofs.Starts.{along}
use Rattle.demand.proofs.Beats.{UpTo, up_to_now, up_to_step, Below, below_act, below_step, has_beat, heard_grow, later, Order, same}
use Rattle.demand.proofs.Beats.{before, behind, ordered}

-- ---- where a LOG that is heard came from

-- taken at a beat up to the last begun one, or made in an act below the gathering
pub data From (S : Seat) (cs : List Call) (p : History) (h : Content) : Type 0 where
  taken : (pre : List Call) (b : ℕ) → TakesAfter S cs pre b h → UpTo p b → From S cs p h
  made : (pre : List Call) (b : ℕ) → MakesAfter S cs pre b h → Below p b → From S cs p h

call_kind : Call → ℕ
call_kind (begin b) = 0
call_kind (receive bytes) = 1
call_kind (act x r o) = 2
call_kind (find e) = 3

receive_is_no_act : (bytes : List ℕ) (x : Block) (r : ℕ) (o : List ℕ) → receive bytes ≡ act x r o → ⊥
unfolding call_kind
receive_is_no_act bytes x r o e = let z : ◌≡◌ {A = ℕ} 1 2 = ap call_kind e in omega arith

module _ (S : Seat) (cs : List Call) where
  from_step : (p : History) (c : Call) (h : Content) → refusal S p c ≡ none → From S cs p h → From S cs (accepted S p c) h
  from_step p c h ok (taken pre b t u) = taken pre b t (up_to_step S p b c ok u)
  from_step p c h ok (made pre b t u) = made pre b t (below_step S p b c ok u)

  heard_from_step : (pre : List Call) (c : Call) → At cs pre c → refusal S (after S pre) c ≡ none
      → ((h : Content) → Mem h (after S pre).heard → From S cs (after S pre) h)
      → (h : Content) → Mem h (accepted S (after S pre) c).heard → From S cs (accepted S (after S pre) c) h
  heard_from_step pre (begin b) at ok ih h i =
      from_step (after S pre) (begin b) h ok (ih h (subst (λ (q : History). Mem h q.heard) (accepted_begin S (after S pre) b) i))
  heard_from_step pre (receive bytes) at ok ih h i =
      go (filed_cases p r.message h (subst (λ (q : History). Mem h q.heard) (accepted_receive S p bytes r.message r.read) i))
    where
      p : History
      p = after S pre

      r : Receives S p bytes
      r = receive_ok S p bytes ok

      go : (r.message ≡ log_message h) ⊎ Mem h p.heard → From S cs (accepted S p (receive bytes)) h
      go (inr j) = from_step p (receive bytes) h ok (ih h j)
      go (inl e) =
          let b = has_beat S pre r.gathering in
          taken pre b.0
          (record { bytes = bytes; place = at; ok = ok; beat = b.1; read = r.read ∙ ap means e })
          (up_to_step S p b.0 (receive bytes) ok (up_to_now p b.0 b.1))
  heard_from_step pre (act x r o) at ok ih h i =
      go (made_cases (closed p m (decided_by S p)) m h (subst (λ (q : History). Mem h q.heard) (accepted_act S p x r o) i))
    where
      p : History
      p = after S pre

      m : Option Meaning
      m = made_by S p x r

      go : (m ≡ some (log_message h)) ⊎ Mem h p.heard → From S cs (accepted S p (act x r o)) h
      go (inr j) = from_step p (act x r o) h ok (ih h j)
      go (inl e) =
          let b = has_beat S pre (act_ok S p x r o ok).1 in
          made pre b.0
          (record { acts = record { block = x; priority = r; out = o; place = at; ok = ok; beat = b.1 }; made = e })
          (below_act S p b.0 x r o ok (up_to_now p b.0 b.1))
  heard_from_step pre (find e) at ok ih h i =
      from_step (after S pre) (find e) h ok (ih h (subst (λ (q : History). Mem h q.heard) (accepted_find S (after S pre) e) i))

  -- Every LOG heard after a start of the list was taken or made in it.
  pub heard_from : (pre post : List Call) → cs ≡ pre ++ post → (h : Content) → Mem h (after S pre).heard → From S cs (after S pre) h
  heard_from =
      along S cs (λ (p : History). (h : Content) → Mem h p.heard → From S cs p h) (λ h i. absurd (Memᴰ.not-nil i)) heard_from_step

  -- ---- and back

  -- a LOG taken in a gathering of a beat up to b' is among those heard at the act of b'
  pub taken_heard : (pre : List Call) (b : ℕ) (h : Content) → TakesAfter S cs pre b h → (pre' : List Call) (b' : ℕ) → ActsAfter S cs pre' b'
      → b ≤ b'
      → Mem h (after S pre').heard
  taken_heard pre b h t pre' b' a l = go (ordered cs pre _ pre' _ t.place a.place)
    where
      new : Mem h (after S (pre ++ (receive t.bytes ∷ []))).heard
      new =
          subst (λ (q : History). Mem h q.heard)
          (sym (after_ok S pre (receive t.bytes) t.ok ∙ accepted_receive S (after S pre) t.bytes (log_message h) t.read))
          (filed_heard (after S pre) h)

      go : Order pre (receive t.bytes) pre' (act a.block a.priority a.out) → Mem h (after S pre').heard
      go (same e f) = absurd (receive_is_no_act _ _ _ _ f)
      go (before mid e) = rw e (heard_grow S (pre ++ (receive t.bytes ∷ [])) mid h new)
      go (behind mid e) =
          let g = (receive_ok S (after S pre) t.bytes t.ok).gathering in
          let k : b' < b = later S cs pre' b' a mid b (rw e at g) (rw e at t.beat) in
          absurd (omega arith)

  -- one made in an act of an earlier beat likewise
  pub made_heard_later : (pre : List Call) (b : ℕ) (h : Content) → MakesAfter S cs pre b h → (pre' : List Call) (b' : ℕ)
      → ActsAfter S cs pre' b' → b < b'
      → Mem h (after S pre').heard
  made_heard_later pre b h t pre' b' a l = go (ordered cs pre _ pre' _ t.acts.place a.place)
    where
      p : History
      p = after S pre

      new : Mem h (after S (pre ++ (act t.acts.block t.acts.priority t.acts.out ∷ []))).heard
      new =
          subst (λ (q : History). Mem h q.heard)
          (sym
          (after_ok S pre (act t.acts.block t.acts.priority t.acts.out) t.acts.ok
          ∙ accepted_act S p t.acts.block t.acts.priority t.acts.out
          ∙ ap (file_made (closed p (made_by S p t.acts.block t.acts.priority) (decided_by S p))) t.made))
          (filed_heard (closed p (made_by S p t.acts.block t.acts.priority) (decided_by S p)) h)

      go : Order pre (act t.acts.block t.acts.priority t.acts.out) pre' (act a.block a.priority a.out)
          → Mem h (after S pre').heard
      go (same e f) =
          let k : b ≡ b' = some-injective _ _ (sym t.acts.beat ∙ ap (λ (x : List Call). (after S x).last) e ∙ a.beat) in
          absurd (omega arith)
      go (before mid e) = rw e (heard_grow S (pre ++ (act t.acts.block t.acts.priority t.acts.out ∷ [])) mid h new)
      go (behind mid e) =
          let g = (act_ok S p t.acts.block t.acts.priority t.acts.out t.acts.ok).1 in
          let k : b' < b = later S cs pre' b' a mid b (rw e at g) (rw e at t.acts.beat) in
          absurd (omega arith)
