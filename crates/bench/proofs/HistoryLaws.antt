-- Laws of a list of calls by the history: what it comes to, what it answers, its acts by beat, and what stands after it. Assumes nothing.
use Prim.Native.Nat.{ℕ}
use mathlib.Core.Path.{◌≡◌, refl, sym, ap, subst, ◌∙◌}
use mathlib.Core.Logic.{◌⊎◌, inl, inr}
use mathlib.Core.List.Memᴰ
use mathlib.Core.List.{List, [], ◌∷◌, ◌++◌, Memᴰ as Mem}
use mathlib.Core.Option.{some, none, none-ne-some, some-injective}
use mathlib.Core.Bool.{Bool, true, false, ◌||◌, false≢true}
use lib.Dec.{eqb}
use borrow.Author.Tests.{eqb-true, eqb-false, eq-eqb}
use Rattle.message.specs.Choice.{pick}
use Rattle.message.specs.Message.{Content}
use Rattle.message.proofs.TestLaws.{or_true}
use Rattle.bench.specs.Terms.{Seat}
use Rattle.bench.specs.Calls.{Call}
use Rattle.bench.specs.Acts.{Stand, settle}
use Rattle.bench.specs.History.{History, ActRecord, fresh, refusal, accepted, step, answer, after_from, after, answers_from, answers_to}
use Rattle.bench.specs.History.{heard_at, acted_at, awake, stand_in, stand}
use Rattle.bench.proofs.CallLaws.{step_cases, step_ok}

module _ (S : Seat) where
  -- ---- the history after a list of calls

  pub after_from_nil : (p : History) → after_from S p [] ≡ p
  unfolding after_from
  after_from_nil p = refl

  pub after_from_cons : (p : History) (c : Call) (cs : List Call) → after_from S p (c ∷ cs) ≡ after_from S (step S p c) cs
  unfolding after_from
  after_from_cons p c cs = refl

  after_from-append : (p : History) (xs ys : List Call) → after_from S p (xs ++ ys) ≡ after_from S (after_from S p xs) ys
  unfolding after_from
  after_from-append p [] ys = refl
  after_from-append p (x ∷ xs) ys = after_from-append (step S p x) xs ys

  -- what each accepted call keeps, a list of calls keeps
  pub after_from_keeps : (P : History → Type 0) → ((p : History) (c : Call) → refusal S p c ≡ none → P p → P (accepted S p c))
      → (p : History) (cs : List Call) → P p → P (after_from S p cs)
  unfolding after_from
  after_from_keeps P k p [] h = h
  after_from_keeps P k p (c ∷ cs) h = after_from_keeps P k (step S p c) cs (elim (step_cases S p c) [
    | inl e ↦ subst P (sym e) h
    | inr e ↦ subst P (sym e.1) (k p c e.0 h)
  ])

  pub after_from_lem : (cs : List Call) → after S cs ≡ after_from S (fresh S) cs
  unfolding after
  after_from_lem cs = refl

  pub after_nil : after S [] ≡ fresh S
  after_nil = after_from_lem [] ∙ after_from_nil (fresh S)

  pub after-append : (xs ys : List Call) → after S (xs ++ ys) ≡ after_from S (after S xs) ys
  unfolding after
  after-append xs ys = after_from-append (fresh S) xs ys

  -- after one call more
  pub after_snoc : (pre : List Call) (c : Call) → after S (pre ++ (c ∷ [])) ≡ step S (after S pre) c
  unfolding after_from
  after_snoc pre c = after-append pre (c ∷ [])

  pub after_ok : (pre : List Call) (c : Call) → refusal S (after S pre) c ≡ none → after S (pre ++ (c ∷ [])) ≡ accepted S (after S pre) c
  after_ok pre c ok = after_snoc pre c ∙ step_ok S (after S pre) c ok

  -- ---- the answers

  pub answers_from_nil : (p : History) → answers_from S p [] ≡ []
  unfolding answers_from
  answers_from_nil p = refl

  pub answers_from_cons : (p : History) (c : Call) (cs : List Call) → answers_from S p (c ∷ cs) ≡ answer S p c ∷ answers_from S (step S p c) cs
  unfolding answers_from
  answers_from_cons p c cs = refl

  pub answers_to_from : (cs : List Call) → answers_to S cs ≡ answers_from S (fresh S) cs
  unfolding answers_to
  answers_to_from cs = refl

  -- ---- awake, and what stands, by the acts

  pub awake_acted : (cs : List Call) (b : ℕ) → awake S cs b ≡ acted_at (after S cs).actions b
  unfolding awake
  awake_acted cs b = refl

  pub stand_in_lem : (cs : List Call) → stand S cs ≡ stand_in S.stood (after S cs).actions
  unfolding stand
  stand_in_lem cs = refl

-- ---- a list of acts: what stands after it

pub stand_in_nil : (st : Stand) → stand_in st [] ≡ st
unfolding stand_in
stand_in_nil st = refl

pub stand_in_cons : (st : Stand) (d : ActRecord) (ds : List ActRecord) → stand_in st (d ∷ ds) ≡ settle (stand_in st ds) d.decided
unfolding stand_in
stand_in_cons st d ds = refl

-- ---- its acts by beat

pub acted_at_mem : (ds : List ActRecord) (b : ℕ) → acted_at ds b ≡ true → (d : ActRecord) × Mem d ds × (d.beat ≡ b)
unfolding acted_at
acted_at_mem [] b e = absurd (false≢true e)
acted_at_mem (d ∷ ds) b e = go (eqb d.beat b) refl e (acted_at_mem ds b)
  where
    go : (t : Bool) → eqb d.beat b ≡ t → (t || acted_at ds b) ≡ true → (acted_at ds b ≡ true → (x : ActRecord) × Mem x ds × (x.beat ≡ b))
        → (x : ActRecord) × Mem x (d ∷ ds) × (x.beat ≡ b)
    go true q f below = (d, Mem.head refl, eqb-true d.beat b q)
    go false q f below = let x = below f in (x.0, Mem.tail x.1, x.2)

pub mem_acted_at : (ds : List ActRecord) (d : ActRecord) (b : ℕ) → Mem d ds → d.beat ≡ b → acted_at ds b ≡ true
unfolding acted_at
mem_acted_at [] d b i e = absurd (Memᴰ.not-nil i)
mem_acted_at (x ∷ xs) d b i e = elim (Memᴰ.cases_cons i) [
  | inl q ↦ rw (eq-eqb x.beat b (ap (λ (y : ActRecord). y.beat) (sym q) ∙ e))
  | inr j ↦ rw (mem_acted_at xs d b j e) (or_true (eqb x.beat b))
]

pub heard_at_mem : (ds : List ActRecord) (b : ℕ) (l : List Content) → heard_at ds b ≡ some l
    → (d : ActRecord) × Mem d ds × (d.beat ≡ b) × (d.heard ≡ l)
unfolding heard_at
heard_at_mem [] b l e = absurd (none-ne-some _ e)
heard_at_mem (d ∷ ds) b l e = go (eqb d.beat b) refl e (heard_at_mem ds b l)
  where
    go : (t : Bool) → eqb d.beat b ≡ t → pick t (some d.heard) (heard_at ds b) ≡ some l
        → (heard_at ds b ≡ some l → (x : ActRecord) × Mem x ds × (x.beat ≡ b) × (x.heard ≡ l))
        → (x : ActRecord) × Mem x (d ∷ ds) × (x.beat ≡ b) × (x.heard ≡ l)
    go true q f below = (d, Mem.head refl, eqb-true d.beat b q, some-injective _ _ f)
    go false q f below = let x = below f in (x.0, Mem.tail x.1, x.2, x.3)

pub mem_heard_at : (ds : List ActRecord) (d : ActRecord) (b : ℕ) → Mem d ds → d.beat ≡ b → (l : List Content) × (heard_at ds b ≡ some l)
unfolding heard_at
mem_heard_at [] d b i e = absurd (Memᴰ.not-nil i)
mem_heard_at (x ∷ xs) d b i e = go (eqb x.beat b) refl (Memᴰ.cases_cons i) (λ j. mem_heard_at xs d b j e)
  where
    go : (t : Bool) → eqb x.beat b ≡ t → (d ≡ x) ⊎ Mem d xs → (Mem d xs → (l : List Content) × (heard_at xs b ≡ some l))
        → (l : List Content) × (pick t (some x.heard) (heard_at xs b) ≡ some l)
    go true q j below = (x.heard, refl)
    go false q (inl j) below = absurd (eqb-false x.beat b q (ap (λ (y : ActRecord). y.beat) (sym j) ∙ e))
    go false q (inr j) below = below j
