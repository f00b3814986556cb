-- Two readings of one agreement, by the beats of their snapshots and counts: when their grades agree, and when one has the other's. Assumes
-- nothing.
use Prim.Native.Nat.{ℕ, ◌<◌, ◌≤◌}
use native.Mathlib.Decide.{ℕ_discrete}
use native.Mathlib.Omega.{arith}
use mathlib.Core.Path.{◌≡◌, sym, ◌∙◌, subst}
use mathlib.Core.Logic.{inl, inr}
use mathlib.Core.Bool.{true}
use Rattle.message.specs.Logs.{Log, Compatible}
use Rattle.agreement.specs.Sets.{Inside}
use Rattle.agreement.specs.Reading.{Grade, may_support}
use Rattle.agreement.proofs.ReadingLaws.{may_iff, consistency, uniqueness, graded_delivery}
use Rattle.demand.proofs.Hearing.{Hearing, Reads, reading}

module _ (H : Hearing) where
  -- what a rule-keeper sent, every rule-keeper has at its later beats, the sender itself included
  pub arrives : {r t b c k x : ℕ} {L : Log} → H.sent r b k x L → H.awake t k c ≡ true → b < c → c ≤ H.close k → H.took t c k x L
  arrives {r} {t} {b} {c} {k} {x} {L} e a l m = elim (ℕ_discrete r t) [
    | yes p ↦ subst (λ q. H.took q c k x L) p (H.kept e (subst (λ q. H.awake q k c ≡ true) (sym p) a) l)
    | no p ↦ H.delivery e p a l m
  ]

  module _ {r k s g : ℕ} (R : Reads H r k s g) where
    -- who may support is in V now, with the log that it had in the snapshot: so that log was sent by then
    old_log : (x : ℕ) → may_support (reading H r k s g) x ≡ true → (H.single r g k x ≡ true) × H.sent r s k x (H.log r g k x)
    unfolding reading
    old_log x h =
        let c = (may_iff (reading H r k s g) x).0 h in
        let old = H.single_some R.snaps c.1 in
        let same = H.single_only R.acts c.0 (H.grows R.snaps R.acts R.order old.0) in
        (c.0, rw same at old.1)

    may_heard : (n : ℕ) → Inside n (may_support (reading H r k s g)) (H.heard r g k)
    may_heard n x l h = H.heard_of_lem R.acts (H.single_some R.acts (old_log x h).0).0

    -- grades of one reading do not conflict
    pub one_reading : (n : ℕ) (w : ℕ → ℕ) (L M : Log) → Grade n w (reading H r k s g) L → Grade n w (reading H r k s g) M → Compatible L M
    unfolding reading
    one_reading n w L M = uniqueness n w (reading H r k s g) L M (may_heard n)

    -- the log of one who may support at r is with t, if t counts after r's snapshot
    log_there : {t u h : ℕ} → Reads H t k u h → s < h → (x : ℕ) → may_support (reading H r k s g) x ≡ true → H.took t h k x (H.log r g k x)
    log_there T l x e = arrives (old_log x e).1 T.acts l T.in_window

  -- Grades of two readings do not conflict, if each counts after the other's snapshot.
  pub two_readings : {r k s g t u h : ℕ} (R : Reads H r k s g) (T : Reads H t k u h) → s < h → u < g
      → (n : ℕ) (w : ℕ → ℕ) (L M : Log) → Grade n w (reading H r k s g) L → Grade n w (reading H t k u h) M → Compatible L M
  unfolding reading
  two_readings {r} {k} {s} {g} {t} {u} {h} R T l m n w L M =
      consistency n w (reading H r k s g) (reading H t k u h) L M
      (may_heard R n)
      (λ x i e. H.heard_of_lem T.acts (log_there R T l x e))
      (λ x i e. H.heard_of_lem R.acts (log_there T R m x e))
      (may_heard T n)
      (λ x i d e. H.single_only T.acts (old_log T x e).0 (log_there R T l x d))

  module _ {r k s g t u h : ℕ} (R : Reads H r k s g) (T : Reads H t k u h) (younger : s < u) (sooner : h < g) where
    -- One who may support at r is in V at t until r counts: had t found it an equivocator, r would have both logs from t and not count it.
    single_there : (x c : ℕ) → may_support (reading H r k s g) x ≡ true → H.awake t k c ≡ true → s < c → c < g → H.single t c k x ≡ true
    single_there x c e a l m = elim (H.single_or a (H.heard_of_lem a (arrives (old_log R x e).1 a l (omega (arith, R.in_window))))) [
      | inl y ↦ y
      | inr d ↦ absurd (d.differ (only d.sent_first ∙ sym (only d.sent_second)))
    ]
      where
        only : {L : Log} → H.sent t c k x L → L ≡ H.log r g k x
        only f = H.single_only R.acts (old_log R x e).0 (arrives f R.acts m R.in_window)

    -- A log with the grade at r has it at t, if t's snapshot is younger than r's and t counts before r does.
    pub between_readings : (n : ℕ) (w : ℕ → ℕ) (L : Log) → Grade n w (reading H r k s g) L → Grade n w (reading H t k u h) L
    unfolding reading
    between_readings n w L = graded_delivery n w (reading H r k s g) (reading H t k u h) L
        (λ x i e. (may_iff (reading H t k u h) x).1 (
          single_there x h e T.acts (omega (arith, T.order)) sooner,
          single_there x u e T.snaps younger (omega (arith, T.order)),
        ))
        (λ x i e. H.single_only T.acts (single_there x h e T.acts (omega (arith, T.order)) sooner)
        (log_there R T (omega (arith, T.order)) x e))
        (λ x i e. H.heard_of_lem R.acts (arrives (H.heard_some T.acts e).2 R.acts sooner R.in_window))
