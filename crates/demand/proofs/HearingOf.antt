-- A volume that meets the premises on delivery and numbers is a Hearing: what its rule-keepers hear of each other's LOGs. Assumes nothing.
use Rattle.agreement.proofs.GradeSources.{log_by}
use Prim.Native.Nat.{ℕ, zero, suc, ◌+◌, ◌-◌, ◌≤◌, ◌<◌}
use native.Mathlib.Omega.{arith}
use native.Mathlib.Decide.{ℕ_discrete}
use mathlib.Core.Path.{◌≡◌, refl, sym, ap, subst, ◌∙◌}
use mathlib.Core.Logic.{◌⊎◌, inl, inr}
use mathlib.Core.List.{List, []}
use mathlib.Core.Option.{Option, some, none}
use mathlib.Core.Bool.{Bool, true, false, ◌&&◌, and-eq-true_iff}
use lib.Dec.{ltb}
use borrow.Author.Tests.{ltb-true, lt-ltb}
use Rattle.message.specs.Logs.{Log}
use Rattle.message.specs.Message.{Content}
use Rattle.agreement.specs.Kept.{heard_of}
use Rattle.agreement.specs.Heard.{heard_logs, voters_of, only_log}
use Rattle.agreement.proofs.SenderLaws.{heard_S, S_some, V_only, V_some, S_cases}
use Rattle.bench.specs.Calls.{Call}
use Rattle.bench.specs.History.{after, awake, heard_at}
use Rattle.demand.specs.Places.{ActsAfter, MakesAfter, TakesAfter, Sends, sends_made, sends_on, With}
use Rattle.demand.specs.Premises.{Volume, seat, Keeps}
use Rattle.demand.proofs.Hearing.{Hearing, Twice}
use Rattle.demand.proofs.Beats.{up_to_le}
use Rattle.demand.proofs.Timetable.{Timetable}
use Rattle.demand.proofs.ActPlaces.{awake_acts, acts_awake, act_heard}
use Rattle.demand.proofs.SentOn.{SentBy, sent_status}
use Rattle.demand.proofs.Taking.{Took, took_taken, took_made, took_mem, mem_took, with_took}

-- ---- the first beat after b at which a test holds

record First (p : ℕ → Bool) (b c : ℕ) : Type 0 where
  beat : ℕ
  past : b < beat
  until : beat ≤ c
  holds : p beat ≡ true
  none_before : (m : ℕ) → b < m → m < beat → p m ≡ false

first_after : (p : ℕ → Bool) (k b : ℕ) → p (b + suc k) ≡ true → First p b (b + suc k)
first_after p zero b e =
    let s : b + 1 ≡ suc b = omega arith in
    record { beat = b + 1; past = omega arith; until = omega arith; holds = e; none_before = λ m l k. absurd (omega arith) }
first_after p (suc k) b e = go (p (suc b)) refl (first_after p k (suc b) (subst (λ (i : ℕ). p i ≡ true) (omega arith) e))
  where
    go : (t : Bool) → p (suc b) ≡ t → First p (suc b) (suc b + suc k) → First p b (b + suc (suc k))
    go true q x = record { beat = suc b; past = omega arith; until = omega arith; holds = q; none_before = λ m l j. absurd (omega arith) }
    go false q x =
        let l = x.past in
        let u = x.until in
        record {
          beat = x.beat;
          past = omega arith;
          until = omega arith;
          holds = x.holds;
          none_before = λ m i j. elim (ℕ_discrete m (suc b)) [ yes s ↦ ap p s ∙ q | no s ↦ x.none_before m (omega arith) j ];
        }

-- ---- rule-keepers and their acts

-- r keeps the rules, and has a number of the volume
unfoldable pub keepsb : Volume → ℕ → Bool
keepsb W r = W.keeper r && ltb r W.terms.n

-- and is awake at b
unfoldable pub awakeb : Volume → ℕ → ℕ → Bool
awakeb W r b = keepsb W r && awake (seat W r) (W.calls r) b

abbrev or_nobody : Option (List Content) → List Content
or_nobody none = []
or_nobody (some l) = l

-- the LOGs that r has heard when it acts at b
unfoldable pub heard_by : Volume → ℕ → ℕ → List Content
heard_by W r b = or_nobody (heard_at (after (seat W r) (W.calls r)).actions b)

pub keeps_of : (W : Volume) (r : ℕ) → keepsb W r ≡ true → Keeps W r
unfolding keepsb
keeps_of W r e = let x = (and-eq-true_iff _ _).0 e in (ltb-true r W.terms.n x.1, x.0)

of_keeps : (W : Volume) (r : ℕ) → Keeps W r → keepsb W r ≡ true
unfolding keepsb
of_keeps W r k = rw (k.1, lt-ltb r W.terms.n k.0)

-- an act of a rule-keeper, and what it has heard
pub record Place (W : Volume) (r b : ℕ) : Type 0 where
  pub keeps : Keeps W r
  pub pre : List Call
  pub acts : ActsAfter (seat W r) (W.calls r) pre b
  pub heard : heard_by W r b ≡ (after (seat W r) pre).heard

pub heard_at_lem : (W : Volume) (r b : ℕ) (pre : List Call) → ActsAfter (seat W r) (W.calls r) pre b
    → heard_by W r b ≡ (after (seat W r) pre).heard
unfolding heard_by
heard_at_lem W r b pre a = rw (act_heard (seat W r) (W.calls r) pre b a)

pub awake_place : (W : Volume) (r b : ℕ) → awakeb W r b ≡ true → Place W r b
unfolding awakeb
awake_place W r b e =
    let x = (and-eq-true_iff _ _).0 e in
    let y = awake_acts (seat W r) (W.calls r) b x.1 in
    record { keeps = keeps_of W r x.0; pre = y.0; acts = y.1; heard = heard_at_lem W r b y.0 y.1 }

pub place_awake : (W : Volume) (r b : ℕ) → Keeps W r → (pre : List Call) → ActsAfter (seat W r) (W.calls r) pre b → awakeb W r b ≡ true
unfolding awakeb
place_awake W r b k pre a = rw (of_keeps W r k, acts_awake (seat W r) (W.calls r) pre b a)

-- a rule-keeper made the LOG or passed it on, by beat b
pub record Sent (W : Volume) (r b : ℕ) (h : Content) : Type 0 where
  pub keeps : Keeps W r
  pub beat : ℕ
  pub le : beat ≤ b
  pub sends : Sends (seat W r) (W.calls r) beat h

module _ (W : Volume) where
  abbrev TookW : ℕ → ℕ → ℕ → ℕ → Log → Type 0
  TookW r b k x L = Took (seat W r) (W.calls r) b (log_by x k L)

  abbrev SentW : ℕ → ℕ → ℕ → ℕ → Log → Type 0
  SentW r b k x L = Sent W r b (log_by x k L)

  -- ---- S and V at an act

  sent_of : (r b : ℕ) (p : Place W r b) (h : Content) → SentBy (seat W r) (W.calls r) (after (seat W r) p.pre) h → Sent W r b h
  sent_of r b p h s =
      record {
        keeps = p.keeps;
        beat = s.beat;
        le = up_to_le (after (seat W r) p.pre) s.beat b s.up_to p.acts.beat;
        sends =
            s.sends;
      }

  pub heard_of_lem : (r b k x : ℕ) (L : Log) → awakeb W r b ≡ true → TookW r b k x L → heard_of (heard_logs (heard_by W r b) k x) ≡ true
  heard_of_lem r b k x L a t =
      let p = awake_place W r b a in
      rw p.heard (heard_S (after (seat W r) p.pre).heard (log_by x k L)
      (took_mem (seat W r) (W.calls r) p.pre b p.acts (log_by x k L) t))

  pub heard_some : (r b k x : ℕ) → awakeb W r b ≡ true → heard_of (heard_logs (heard_by W r b) k x) ≡ true
      → (L : Log) × TookW r b k x L × SentW r b k x L
  heard_some r b k x a e =
      let p = awake_place W r b a in
      let st = sent_status (seat W r) (W.calls r) k x p.pre _ p.acts.place.1 in
      let y = S_some (after (seat W r) p.pre).heard k x _ st (rw p.heard at e) in
      (y.0, mem_took (seat W r) (W.calls r) p.pre b p.acts (log_by x k y.0) y.1, sent_of r b p (log_by x k y.0) y.2)

  pub single_some : (r b k x : ℕ) → awakeb W r b ≡ true → voters_of (heard_logs (heard_by W r b) k) x ≡ true
      → TookW r b k x (only_log (heard_logs (heard_by W r b) k x)) × SentW r b k x (only_log (heard_logs (heard_by W r b) k x))
  single_some r b k x a e =
      let p = awake_place W r b a in
      let st = sent_status (seat W r) (W.calls r) k x p.pre _ p.acts.place.1 in
      let y = V_some (after (seat W r) p.pre).heard k x _ st (rw p.heard at e) in
      rw p.heard (
        mem_took (seat W r) (W.calls r) p.pre b p.acts (log_by x k (only_log (heard_logs (after (seat W r) p.pre).heard k x)))
            y.0,
        sent_of r b p (log_by x k (only_log (heard_logs (after (seat W r) p.pre).heard k x))) y.1,
      )

  pub single_only : (r b k x : ℕ) (L : Log) → awakeb W r b ≡ true → voters_of (heard_logs (heard_by W r b) k) x ≡ true → TookW r b k x L
      → L ≡ only_log (heard_logs (heard_by W r b) k x)
  single_only r b k x L a e t =
      let p = awake_place W r b a in
      rw p.heard
      (V_only (after (seat W r) p.pre).heard k x L (rw p.heard at e)
      (took_mem (seat W r) (W.calls r) p.pre b p.acts (log_by x k L) t))

  pub single_or : (r b k x : ℕ) → awakeb W r b ≡ true → heard_of (heard_logs (heard_by W r b) k x) ≡ true
      → (voters_of (heard_logs (heard_by W r b) k) x ≡ true) ⊎ Twice (TookW r b k x) (SentW r b k x)
  single_or r b k x a e =
      let p = awake_place W r b a in
      let st = sent_status (seat W r) (W.calls r) k x p.pre _ p.acts.place.1 in
      let took = mem_took (seat W r) (W.calls r) p.pre b p.acts in
      elim (S_cases (after (seat W r) p.pre).heard k x _ st (rw p.heard at e)) [
        | inl v ↦ inl (rw p.heard v)
        | inr y ↦ inr (record {
          first = y.0;
          second = y.1;
          took_first = took (log_by x k y.0) y.2;
          took_second = took (log_by x k y.1) y.3;
          sent_first = sent_of r b p (log_by x k y.0) y.4;
          sent_second = sent_of r b p (log_by x k y.1) y.5;
          differ = y.6;
        })
      ]

  -- ---- what is taken stays, what is sent arrives

  pub grows : (r b c k x : ℕ) (L : Log) → b ≤ c → TookW r b k x L → TookW r c k x L
  grows r b c k x L l (took_taken pre d t m) = took_taken pre d t (omega arith)
  grows r b c k x L l (took_made pre d t m) = took_made pre d t (omega arith)

  pub kept : (r b c k x : ℕ) (L : Log) → SentW r b k x L → b < c → TookW r c k x L
  kept r b c k x L s l = let m = s.le in elim s.sends [
    | sends_made pre t ↦ took_made pre s.beat t (omega arith)
    | sends_on pre t f ↦ took_taken pre s.beat t (omega arith)
  ]

-- ---- who keeps the rules through which beat

-- `to x b`: bench x keeps the rules through beat b. A volume's lists of calls have what was done while keeping them.
pub record Keeping (W : Volume) : Type 0 where
  pub to : ℕ → ℕ → Bool
  pub to_keeps : {x b : ℕ} → to x b ≡ true → keepsb W x ≡ true
  pub to_before : {x b c : ℕ} → b ≤ c → to x c ≡ true → to x b ≡ true
  pub awake_to : {x b : ℕ} → awakeb W x b ≡ true → to x b ≡ true

-- the premise on delivery, with the last beat at which LOGs of an agreement are taken by any calendar
abbrev pub DeliveryBy : (ℕ → ℕ) → Volume → Type 0
DeliveryBy close W =
    (p q : ℕ) → Keeps W p → Keeps W q → (p ≡ q → ⊥)
    → (b : ℕ) (m : Content) → Sends (seat W p) (W.calls p) b m
    → (pre : List Call) (b' : ℕ) → ActsAfter (seat W q) (W.calls q) pre b'
    → b < b'
    → ((c : ℕ) → b < c → c < b' → awake (seat W q) (W.calls q) c ≡ false)
    → b' ≤ close m.view
    → (m.sender ≡ q → ⊥)
    → With (seat W q) pre m

-- the premise on numbers: in gatherings of beats through which a bench keeps the rules, others take no LOG with its number that it did not
-- make
abbrev pub NumbersBy : (W : Volume) → Keeping W → Type 0
NumbersBy W K =
    (p q : ℕ) → Keeps W p → Keeps W q
    → (pre : List Call) (b : ℕ) (m : Content) → TakesAfter (seat W q) (W.calls q) pre b m
    → m.sender ≡ p
    → K.to p b ≡ true
    → (pre' : List Call) × (b' : ℕ) × MakesAfter (seat W p) (W.calls p) pre' b' m

module _ (W : Volume) (C : Timetable W.terms) (K : Keeping W) where
  -- a LOG that its maker is sent back, it made before
  own_made : NumbersBy W K → (r s b k : ℕ) (L : Log) → Keeps W r → Keeps W s → K.to s b ≡ true → (r ≡ s → ⊥)
      → Sends (seat W r) (W.calls r) b (log_by s k L)
      → (c : ℕ) → b < c → TookW W s c k s L
  own_made N r s b k L kr ks to d (sends_made pre t) c l = absurd (d (sym (C.made_own t)))
  own_made N r s b k L kr ks to d (sends_on pre t f) c l =
      let y = N s r ks kr pre b (log_by s k L) t refl to in
      let v : y.1 ≡ C.input k = C.made_beat y.2 in
      let w : C.input k ≤ b = C.taken_late t in
      took_made y.0 y.1 y.2 (omega arith)

  pub delivery : DeliveryBy C.close W → NumbersBy W K → (r s b c k x : ℕ) (L : Log) → SentW W r b k x L → (r ≡ s → ⊥)
      → awakeb W s c ≡ true → b < c → c ≤ C.close k
      → TookW W s c k x L
  unfolding awakeb
  delivery D N r s b c k x L sent d a l m =
      let q = (and-eq-true_iff _ _).0 a in
      let ks = keeps_of W s q.0 in
      let le = sent.le in
      let gap : sent.beat + suc (c - sent.beat - 1) ≡ c = omega arith in
      let f = first_after (awake (seat W s) (W.calls s)) (c - sent.beat - 1) sent.beat
      (subst (λ (i : ℕ). awake (seat W s) (W.calls s) i ≡ true) (sym gap) q.1) in
      let y = awake_acts (seat W s) (W.calls s) f.beat f.holds in
      let top = f.until in
      elim (ℕ_discrete x s) [
        | yes e ↦ subst (λ (z : ℕ). TookW W s c k z L) (sym e)
            (own_made N r s sent.beat k L sent.keeps ks (K.to_before (omega arith) (K.awake_to a)) d
            (subst (λ (z : ℕ). Sends (seat W r) (W.calls r) sent.beat (log_by z k L)) e sent.sends) c (omega arith))
        | no e ↦ with_took (seat W s) (W.calls s) y.0 f.beat y.1 (log_by x k L)
            (D r s sent.keeps ks d sent.beat (log_by x k L) sent.sends y.0 f.beat y.1 f.past f.none_before
            (omega arith) e)
            c (omega arith)
      ]

  -- What the rule-keepers of a volume hear. An act reads every agreement.
  unfoldable pub hearing : DeliveryBy C.close W → NumbersBy W K → Hearing
  hearing D N = record {
    awake = λ r k b. awakeb W r b;
    close = C.close;
    took = TookW W;
    sent = SentW W;
    heard = λ r b k x. heard_of (heard_logs (heard_by W r b) k x);
    single = λ r b k x. voters_of (heard_logs (heard_by W r b) k) x;
    log = λ r b k x. only_log (heard_logs (heard_by W r b) k x);
    heard_of_lem = λ {r} {b} {k} {x} {L} a t. heard_of_lem W r b k x L a t;
    heard_some = λ {r} {b} {k} {x} a e. heard_some W r b k x a e;
    single_some = λ {r} {b} {k} {x} a e. single_some W r b k x a e;
    single_only = λ {r} {b} {k} {x} {L} a e t. single_only W r b k x L a e t;
    single_or = λ {r} {b} {k} {x} a e. single_or W r b k x a e;
    grows = λ {r} {b} {c} {k} {x} {L} a a' l t. grows W r b c k x L l t;
    kept = λ {r} {b} {c} {k} {x} {L} s a l. kept W r b c k x L s l;
    delivery = λ {r} {t} {b} {c} {k} {x} {L} s d a l m. delivery D N r t b c k x L s d a l m;
  }
