-- Beats and gatherings along one bench's list of calls: what is recorded or heard stays, a gathering after an act is of a later beat, and
-- each beat has one act. Assumes nothing.
use Prim.Native.Nat.{ℕ, suc, ◌≤◌, ◌<◌}
use native.Mathlib.Omega.{arith}
use native.Mathlib.Nat.{le_refl}
use mathlib.Core.Path.{◌≡◌, refl, sym, ap, subst, ◌∙◌}
use mathlib.Core.Logic.{inl, inr}
use mathlib.Core.List.Memᴰ
use mathlib.Core.List.{List, [], ◌∷◌, ◌++◌, append-nil, Memᴰ as Mem}
use mathlib.Core.List.{head-eq_of_cons-eq, tail-eq_of_cons-eq}
use mathlib.Core.Option.{Option, some, none, some-injective}
use mathlib.Core.Bool.{true, false, false≢true}
use borrow.Author.Tests.{leb-false}
use Rattle.message.specs.Logs.{Block}
use Rattle.message.specs.Message.{Content}
use Rattle.bench.specs.Terms.{Seat}
use Rattle.bench.specs.Calls.{Call, begin, receive, act, find}
use Rattle.bench.specs.History.{History, ActRecord, beat_now, refusal, not_above, closed, accepted, made_by, decided_by, after}
use Rattle.bench.proofs.CallLaws.{begin_ok, act_ok, receive_ok, file_last, made_last, made_gathering, file_heard, made_heard, accepted_find}
use Rattle.bench.proofs.CallLaws.{accepted_begin, accepted_receive, accepted_act, record_of, accepted_actions_act, accepted_actions_receive}
use Rattle.bench.proofs.HistoryLaws.{after_from_keeps, after-append, after_ok}
use Rattle.demand.specs.Places.{At, ActsAfter}
use Rattle.demand.proofs.Starts.{along}

-- ---- the last begun beat

-- b is at most the last begun beat
pub record UpTo (p : History) (b : ℕ) : Type 0 where
  pub top : ℕ
  pub last : p.last ≡ some top
  pub le : b ≤ top

pub up_to_now : (p : History) (b : ℕ) → p.last ≡ some b → UpTo p b
up_to_now p b e = record { top = b; last = e; le = le_refl b }

-- the same where the last begun beat is known
pub up_to_le : (p : History) (b c : ℕ) → UpTo p b → p.last ≡ some c → b ≤ c
up_to_le p b c u e = let t : u.top ≡ c = some-injective _ _ (sym u.last ∙ e) in let l = u.le in omega arith

pub beat_is : (p : History) (b : ℕ) → p.last ≡ some b → beat_now p ≡ b
beat_is p b e = rw e

above_last : (b : ℕ) (o : Option ℕ) (t : ℕ) → not_above b o ≡ false → o ≡ some t → t < b
above_last b o t h e = leb-false b t (rw e at h)

module _ (S : Seat) where
  -- a later beat is higher
  up_to_begin : (p : History) (b c : ℕ) → refusal S p (begin c) ≡ none → UpTo p b → UpTo (accepted S p (begin c)) (suc b)
  up_to_begin p b c ok u =
      let l = above_last c p.last u.top (begin_ok S p c ok).1 u.last in
      let k = u.le in
      record { top = c; last = ap (λ (q : History). q.last) (accepted_begin S p c); le = omega arith }

  -- the beat does not change but by a Begin
  pub receive_last : (p : History) (bytes : List ℕ) → refusal S p (receive bytes) ≡ none → (accepted S p (receive bytes)).last ≡ p.last
  receive_last p bytes ok =
      let r = receive_ok S p bytes ok in
      ap (λ (q : History). q.last) (accepted_receive S p bytes r.message r.read) ∙ file_last p r.message

  act_last : (p : History) (x : Block) (r : ℕ) (o : List ℕ) → (accepted S p (act x r o)).last ≡ p.last
  act_last p x r o =
      let m = made_by S p x r in
      ap (λ (q : History). q.last) (accepted_act S p x r o) ∙ made_last (closed p m (decided_by S p)) m

  -- an act ends the gathering
  pub act_gathering : (p : History) (x : Block) (r : ℕ) (o : List ℕ) → (accepted S p (act x r o)).gathering ≡ false
  act_gathering p x r o =
      let m = made_by S p x r in
      ap (λ (q : History). q.gathering) (accepted_act S p x r o) ∙ made_gathering (closed p m (decided_by S p)) m

  pub up_to_step : (p : History) (b : ℕ) (c : Call) → refusal S p c ≡ none → UpTo p b → UpTo (accepted S p c) b
  up_to_step p b (begin c) ok u =
      let w = up_to_begin p b c ok u in let l = w.le in record { top = w.top; last = w.last; le = omega arith }
  up_to_step p b (receive bytes) ok u = record { top = u.top; last = receive_last p bytes ok ∙ u.last; le = u.le }
  up_to_step p b (act x r o) ok u = record { top = u.top; last = act_last p x r o ∙ u.last; le = u.le }
  up_to_step p b (find e) ok u = subst (λ (q : History). UpTo q b) (sym (accepted_find S p e)) u

-- b is below the beat of a gathering, and at most the last begun beat
abbrev pub Below : History → ℕ → Type 0
Below p b = UpTo p b × (p.gathering ≡ true → UpTo p (suc b))

module _ (S : Seat) where
  -- an act is below the gatherings after it
  pub below_act : (p : History) (b : ℕ) (x : Block) (r : ℕ) (o : List ℕ) → refusal S p (act x r o) ≡ none → UpTo p b
      → Below (accepted S p (act x r o)) b
  below_act p b x r o ok u = (up_to_step S p b (act x r o) ok u, λ g. absurd (false≢true (sym (act_gathering S p x r o) ∙ g)))

  pub below_step : (p : History) (b : ℕ) (c : Call) → refusal S p c ≡ none → Below p b → Below (accepted S p c) b
  below_step p b (begin c) ok w = (up_to_step S p b (begin c) ok w.0, λ g. up_to_begin S p b c ok w.0)
  below_step p b (receive bytes) ok w = (
    up_to_step S p b (receive bytes) ok w.0,
    λ g. up_to_step S p (suc b) (receive bytes) ok (w.1 (receive_ok S p bytes ok).gathering),
  )
  below_step p b (act x r o) ok w = below_act p b x r o ok w.0
  below_step p b (find e) ok w = subst (λ (q : History). Below q b) (sym (accepted_find S p e)) w

  -- in a gathering there is a beat
  abbrev HasBeat : History → Type 0
  HasBeat p = p.gathering ≡ true → (b : ℕ) × (p.last ≡ some b)

  has_beat_step : (p : History) (c : Call) → refusal S p c ≡ none → HasBeat p → HasBeat (accepted S p c)
  has_beat_step p (begin b) ok h g = (b, ap (λ (q : History). q.last) (accepted_begin S p b))
  has_beat_step p (receive bytes) ok h g = let x = h (receive_ok S p bytes ok).gathering in (x.0, receive_last S p bytes ok ∙ x.1)
  has_beat_step p (act x r o) ok h g = absurd (false≢true (sym (act_gathering S p x r o) ∙ g))
  has_beat_step p (find e) ok h g = subst HasBeat (sym (accepted_find S p e)) h g

  pub has_beat : (pre : List Call) → (after S pre).gathering ≡ true → (b : ℕ) × ((after S pre).last ≡ some b)
  has_beat pre =
      along S pre HasBeat (λ g. absurd (false≢true g)) (λ start c at ok h. has_beat_step (after S start) c ok h) pre []
      (sym (append-nil pre))

  -- ---- what is recorded, or heard, stays

  actions_step : (d : ActRecord) (p : History) (c : Call) → refusal S p c ≡ none → Mem d p.actions → Mem d (accepted S p c).actions
  actions_step d p (begin b) ok i = subst (λ (q : History). Mem d q.actions) (sym (accepted_begin S p b)) i
  actions_step d p (receive bytes) ok i = subst (λ (l : List ActRecord). Mem d l) (sym (accepted_actions_receive S p bytes ok)) i
  actions_step d p (act x r o) ok i = subst (λ (l : List ActRecord). Mem d l) (sym (accepted_actions_act S p x r o)) (Mem.tail i)
  actions_step d p (find e) ok i = subst (λ (q : History). Mem d q.actions) (sym (accepted_find S p e)) i

  heard_step : (h : Content) (p : History) (c : Call) → refusal S p c ≡ none → Mem h p.heard → Mem h (accepted S p c).heard
  heard_step h p (begin b) ok i = subst (λ (q : History). Mem h q.heard) (sym (accepted_begin S p b)) i
  heard_step h p (receive bytes) ok i =
      let r = receive_ok S p bytes ok in
      subst (λ (q : History). Mem h q.heard) (sym (accepted_receive S p bytes r.message r.read)) (file_heard p r.message h i)
  heard_step h p (act x r o) ok i =
      let m = made_by S p x r in
      subst (λ (q : History). Mem h q.heard) (sym (accepted_act S p x r o)) (made_heard (closed p m (decided_by S p)) m h i)
  heard_step h p (find e) ok i = subst (λ (q : History). Mem h q.heard) (sym (accepted_find S p e)) i

  pub heard_grow : (xs ys : List Call) (h : Content) → Mem h (after S xs).heard → Mem h (after S (xs ++ ys)).heard
  heard_grow xs ys h i =
      subst (λ (q : History). Mem h q.heard) (sym (after-append S xs ys))
      (after_from_keeps S (λ (q : History). Mem h q.heard) (heard_step h) (after S xs) ys i)

  -- an act is on record from then on
  pub act_recorded : (pre mid : List Call) (x : Block) (r : ℕ) (o : List ℕ) → refusal S (after S pre) (act x r o) ≡ none
      → Mem (record_of S (after S pre) x r) (after S ((pre ++ (act x r o ∷ [])) ++ mid)).actions
  act_recorded pre mid x r o ok =
      subst (λ (q : History). Mem d q.actions) (sym (after-append S (pre ++ (act x r o ∷ [])) mid))
      (after_from_keeps S (λ (q : History). Mem d q.actions) (actions_step d) (after S (pre ++ (act x r o ∷ []))) mid
      (subst (λ (l : List ActRecord). Mem d l)
      (sym (ap (λ (q : History). q.actions) (after_ok S pre (act x r o) ok) ∙ accepted_actions_act S (after S pre) x r o))
      (Mem.head refl)))
    where
      d : ActRecord
      d = record_of S (after S pre) x r

  -- ---- the acts so far are below the beat of a gathering

  abbrev ActsBelow : History → Type 0
  ActsBelow p = (d : ActRecord) → Mem d p.actions → Below p d.beat

  acts_below_step : (p : History) (c : Call) → refusal S p c ≡ none → HasBeat p → ActsBelow p → ActsBelow (accepted S p c)
  acts_below_step p (begin b) ok has h d i =
      below_step p d.beat (begin b) ok (h d (subst (λ (q : History). Mem d q.actions) (accepted_begin S p b) i))
  acts_below_step p (receive bytes) ok has h d i =
      below_step p d.beat (receive bytes) ok (h d (subst (λ (l : List ActRecord). Mem d l) (accepted_actions_receive S p bytes ok) i))
  acts_below_step p (act x r o) ok has h d i =
      elim (Memᴰ.cases_cons (subst (λ (l : List ActRecord). Mem d l) (accepted_actions_act S p x r o) i)) [
        | inl e ↦ let b = has (act_ok S p x r o ok).1 in
            let k : d.beat ≡ b.0 = ap (λ (y : ActRecord). y.beat) e ∙ beat_is p b.0 b.1 in
            below_act p d.beat x r o ok (record { top = b.0; last = b.1; le = omega arith })
        | inr j ↦ below_step p d.beat (act x r o) ok (h d j)
      ]
  acts_below_step p (find e) ok has h d i = subst ActsBelow (sym (accepted_find S p e)) h d i

  actions_below : (pre : List Call) → ActsBelow (after S pre)
  actions_below pre =
      along S pre ActsBelow (λ d i. absurd (Memᴰ.not-nil i))
      (λ start c at ok h. acts_below_step (after S start) c ok (has_beat start) h) pre [] (sym (append-nil pre))

  -- A gathering after an act is of a later beat.
  pub later : (cs pre : List Call) (b : ℕ) (a : ActsAfter S cs pre b) (mid : List Call) (b' : ℕ)
      → (after S ((pre ++ (act a.block a.priority a.out ∷ [])) ++ mid)).gathering ≡ true
      → (after S ((pre ++ (act a.block a.priority a.out ∷ [])) ++ mid)).last ≡ some b'
      → b < b'
  later cs pre b a mid b' g e =
      let whole = (pre ++ (act a.block a.priority a.out ∷ [])) ++ mid in
      let w = actions_below whole (record_of S (after S pre) a.block a.priority)
      (act_recorded pre mid a.block a.priority a.out a.ok) in
      let l = up_to_le (after S whole) _ b' (w.1 g) e in
      let k = beat_is (after S pre) b a.beat in
      omega arith

-- ---- two places of one list: one place, or one call comes before the other

pub data Order (xs : List Call) (x : Call) (ys : List Call) (y : Call) : Type 0 where
  same : xs ≡ ys → x ≡ y → Order xs x ys y
  before : (mid : List Call) → ys ≡ (xs ++ (x ∷ [])) ++ mid → Order xs x ys y
  behind : (mid : List Call) → xs ≡ (ys ++ (y ∷ [])) ++ mid → Order xs x ys y

order : (xs : List Call) (x : Call) (us ys : List Call) (y : Call) (vs : List Call) → xs ++ (x ∷ us) ≡ ys ++ (y ∷ vs) → Order xs x ys y
order [] x us [] y vs e = same refl (head-eq_of_cons-eq e)
order [] x us (b ∷ ys) y vs e = before ys (ap (λ (c : Call). c ∷ ys) (sym (head-eq_of_cons-eq e)))
order (a ∷ xs) x us [] y vs e = behind xs (ap (λ (c : Call). c ∷ xs) (head-eq_of_cons-eq e))
order (a ∷ xs) x us (b ∷ ys) y vs e = grow (head-eq_of_cons-eq e) (order xs x us ys y vs (tail-eq_of_cons-eq e))
  where
    grow : a ≡ b → Order xs x ys y → Order (a ∷ xs) x (b ∷ ys) y
    grow h (same p q) = same (λ i. h i ∷ p i) q
    grow h (before mid p) = before mid (λ i. (sym h) i ∷ p i)
    grow h (behind mid p) = behind mid (λ i. h i ∷ p i)

pub ordered : (cs xs : List Call) (x : Call) (ys : List Call) (y : Call) → At cs xs x → At cs ys y → Order xs x ys y
ordered cs xs x ys y p q = order xs x p.0 ys y q.0 (sym p.1 ∙ q.1)

-- one act a beat: of two acts not refused the later is of a later beat
pub once : (S : Seat) (cs pre pre' : List Call) (b : ℕ) → ActsAfter S cs pre b → ActsAfter S cs pre' b → pre ≡ pre'
once S cs pre pre' b a a' = go (ordered cs pre _ pre' _ a.place a'.place)
  where
    go : Order pre (act a.block a.priority a.out) pre' (act a'.block a'.priority a'.out) → pre ≡ pre'
    go (same e f) = e
    go (before mid e) =
        let g = (act_ok S (after S pre') a'.block a'.priority a'.out a'.ok).1 in
        let l : b < b = later S cs pre b a mid b (rw e at g) (rw e at a'.beat) in
        absurd (omega arith)
    go (behind mid e) =
        let g = (act_ok S (after S pre) a.block a.priority a.out a.ok).1 in
        let l : b < b = later S cs pre' b a' mid b (rw e at g) (rw e at a.beat) in
        absurd (omega arith)
