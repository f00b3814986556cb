-- A volume that meets the premises, by any calendar with a Timetable, votes as `Execution` says, so no two logs decided in it conflict.
-- Assumes nothing.
use Prim.Native.Nat.{ℕ, zero, suc, ◌≤◌, ◌<◌}
use native.Mathlib.Omega.{arith}
use native.Mathlib.Nat.{le_refl}
use mathlib.Core.Path.{◌≡◌, refl, sym, ap, subst, ◌∙◌}
use mathlib.Core.List.{List}
use mathlib.Core.Option.{Option, some, none}
use mathlib.Core.Bool.{Bool, true, false, not, ◌&&◌, and-eq-true_iff, not-not}
use Rattle.message.specs.Logs.{Log, Prefix, Compatible}
use Rattle.message.specs.Message.{Content, Meaning, said}
use Rattle.agreement.specs.Sets.{weigh}
use Rattle.agreement.specs.Reading.{Grade, LongestLog}
use Rattle.agreement.specs.Heard.{heard_logs, voters_of, reading_from}
use Rattle.agreement.proofs.GradeSources.{log_by}
use Rattle.bench.specs.Terms.{Seat, weight_of}
use Rattle.bench.specs.Calls.{Call, begin, receive, act, find}
use Rattle.bench.specs.History.{History, made_by, after}
use Rattle.bench.proofs.CallLaws.{act_ok}
use Rattle.demand.specs.Places.{ActsAfter, MakesAfter, sends_made, Decides}
use Rattle.demand.specs.Premises.{Volume, seat, Keeps}
use Rattle.demand.proofs.Hearing as protocol
use Rattle.demand.proofs.Hearing.{reading, Execution}
use Rattle.demand.proofs.Safety.{safety}
use Rattle.demand.proofs.Beats.{Order, same, before, behind, ordered, later}
use Rattle.demand.proofs.Snapshots.{ReadAfter}
use Rattle.demand.proofs.Taking.{Took, took_taken, took_made}
use Rattle.demand.proofs.Timetable.{Timetable, GradeAfter}
use Rattle.demand.proofs.HearingOf.{awakeb, Keeping, DeliveryBy, NumbersBy, heard_by, keeps_of, Sent, heard_at_lem, awake_place}
use Rattle.demand.proofs.HearingOf.{place_awake, hearing}

-- ---- one LOG a beat

-- what a call makes
abbrev made_on : Seat → History → Call → Option Meaning
made_on S p (begin b) = none
made_on S p (receive bytes) = none
made_on S p (act block priority out) = made_by S p block priority
made_on S p (find e) = none

abbrev said_or : Content → Option Meaning → Content
said_or d none = d
said_or d (some m) = said m

made_once : (S : Seat) (cs pre pre' : List Call) (b : ℕ) (m m' : Content) → MakesAfter S cs pre b m → MakesAfter S cs pre' b m' → m ≡ m'
made_once S cs pre pre' b m m' t t' = go (ordered cs pre _ pre' _ t.acts.place t'.acts.place)
  where
    a : ActsAfter S cs pre b
    a = t.acts

    a' : ActsAfter S cs pre' b
    a' = t'.acts

    go : Order pre (act a.block a.priority a.out) pre' (act a'.block a'.priority a'.out) → m ≡ m'
    go (same e f) =
        let q : made_by S (after S pre) a.block a.priority ≡ made_by S (after S pre') a'.block a'.priority =
        λ i. made_on S (after S (e i)) (f i) in
        ap (said_or m) (sym t.made ∙ q ∙ t'.made)
    go (before mid e) =
        let g = (act_ok S (after S pre') a'.block a'.priority a'.out a'.ok).1 in
        let l : b < b = later S cs pre b a mid b (rw e at g) (rw e at a'.beat) in
        absurd (omega arith)
    go (behind mid e) =
        let g = (act_ok S (after S pre) a.block a.priority a.out a.ok).1 in
        let l : b < b = later S cs pre' b a' mid b (rw e at g) (rw e at a.beat) in
        absurd (omega arith)

-- ---- votes

module _ (W : Volume) (C : Timetable W.terms) (Q : Keeping W) where
  -- a rule-keeper made the LOG of agreement k with log L
  pub record Voted (x k : ℕ) (L : Log) : Type 0 where
    pub keeps : Keeps W x
    pub pre : List Call
    pub made : MakesAfter (seat W x) (W.calls x) pre (C.input k) (log_by x k L)

  -- awake for the look and for the vote; in the first agreement for the vote
  unfoldable pub awakeTo : ℕ → ℕ → Bool
  awakeTo zero x = awakeb W x (C.input 0)
  awakeTo (suc k) x = awakeb W x (C.look k) && awakeb W x (C.input (suc k))

  -- who counts for the majority of agreement k: those who keep the rules until it takes no more LOGs; all who do not count against it
  unfoldable pub memberOf : ℕ → ℕ → Bool
  memberOf k x = awakeTo k x && Q.to x (C.close k)

  abbrev breakerOf : ℕ → ℕ → Bool
  breakerOf k x = not (Q.to x (C.close k))

  -- the premise on the majority, for each agreement in which a rule-keeper is awake between its votes and its look
  abbrev pub MajorityIn : Type 0
  MajorityIn = (k r b : ℕ) → awakeb W r b ≡ true → C.input k ≤ b → b ≤ C.look k → k ≤ C.last
      → weigh W.terms.n (weight_of W.terms) (breakerOf k) < weigh W.terms.n (weight_of W.terms) (memberOf k)

  voted_of : (x k b : ℕ) (L : Log) → Keeps W x → (pre : List Call) → MakesAfter (seat W x) (W.calls x) pre b (log_by x k L) → Voted x k L
  voted_of x k b L kx pre t =
      record { keeps = kx; pre = pre; made = subst (λ (c : ℕ). MakesAfter (seat W x) (W.calls x) pre c (log_by x k L)) (C.made_beat t) t }

  -- the premise on numbers, for what is taken or made
  numbers : NumbersBy W Q → (r b k x : ℕ) (L : Log) → awakeb W r b ≡ true → b ≤ C.close k → Took (seat W r) (W.calls r) b (log_by x k L)
      → Q.to x (C.close k) ≡ true → Voted x k L
  numbers N r b k x L a i (took_taken pre c t l) e =
      let kx = keeps_of W x (Q.to_keeps e) in
      let y = N x r kx (awake_place W r b a).keeps pre c (log_by x k L) t refl (Q.to_before (omega arith) e) in
      voted_of x k y.1 L kx y.0 y.2
  numbers N r b k x L a i (took_made pre c t l) e =
      let q : x ≡ r = C.made_own t in
      voted_of x k c L (keeps_of W x (Q.to_keeps e)) pre
      (subst (λ (z : ℕ). MakesAfter (seat W z) (W.calls z) pre c (log_by x k L)) (sym q) t)

  voted_acts : (k x : ℕ) (L : Log) → Voted x k L → awakeb W x (C.input k) ≡ true
  voted_acts k x L d = place_awake W x (C.input k) d.keeps d.pre d.made.acts

  voted_awake : (k x : ℕ) (L : Log) → Voted x k L → awakeTo k x ≡ true
  unfolding awakeTo
  voted_awake zero x L d = voted_acts 0 x L d
  voted_awake (suc k) x L d =
      let g = (C.made_lock d.made).1 in
      (and-eq-true_iff _ _).1 (place_awake W x (C.look k) d.keeps g.start g.acts, voted_acts (suc k) x L d)

  voted_member : (k x : ℕ) (L : Log) → Voted x k L → Q.to x (C.close k) ≡ true → memberOf k x ≡ true
  unfolding memberOf
  voted_member k x L d e = (and-eq-true_iff _ _).1 (voted_awake k x L d, e)

  member_split : (k x : ℕ) → memberOf k x ≡ true → (awakeTo k x ≡ true) × (Q.to x (C.close k) ≡ true)
  unfolding memberOf
  member_split k x e = (and-eq-true_iff _ _).0 e

  member_parts : (k x : ℕ) → memberOf (suc k) x ≡ true → (awakeb W x (C.look k) ≡ true) × (awakeb W x (C.input (suc k)) ≡ true)
  unfolding awakeTo
  member_parts k x e = (and-eq-true_iff _ _).0 (member_split (suc k) x e).0

  kept_to : (k x : ℕ) → breakerOf k x ≡ false → Q.to x (C.close k) ≡ true
  kept_to k x e = sym (not-not (Q.to x (C.close k))) ∙ ap not e

  voted_once : (k x : ℕ) (L M : Log) → Voted x k L → Voted x k M → L ≡ M
  voted_once k x L M d e =
      ap (λ (m : Content). m.log)
      (made_once (seat W x) (W.calls x) d.pre e.pre (C.input k) (log_by x k L) (log_by x k M) d.made e.made)

  voted_sent : (k x : ℕ) (L : Log) → Voted x k L → Sent W x (C.input k) (log_by x k L)
  voted_sent k x L d = record { keeps = d.keeps; beat = C.input k; le = le_refl (C.input k); sends = sends_made d.pre d.made }

  module _ (D : DeliveryBy C.close W) (N : NumbersBy W Q) where
    -- the reading of two acts, as the Hearing has it
    longest_read : (x k s g : ℕ) (start pre : List Call) (K : Log) → ActsAfter (seat W x) (W.calls x) start s
        → ActsAfter (seat W x) (W.calls x) pre g
        → ReadAfter (seat W x) (W.calls x) pre k start K
        → LongestLog W.terms.n (weight_of W.terms) (reading (hearing W C Q D N) x k s g) K
    unfolding reading hearing
    longest_read x k s g start pre K a b q =
        let i = sym (heard_at_lem W x g pre b) in
        let j = sym (heard_at_lem W x s start a) in
        subst (λ (l : List Content). LongestLog W.terms.n (weight_of W.terms)
        (reading_from (heard_logs l k) (voters_of (heard_logs (heard_by W x s) k))) K) i
        (subst (λ (l : List Content). LongestLog W.terms.n (weight_of W.terms)
        (reading_from (heard_logs (after (seat W x) pre).heard k) (voters_of (heard_logs l k))) K) j q)

    voted_lock : (k x : ℕ) (L : Log) → Voted x (suc k) L
        → (K : Log) × LongestLog W.terms.n (weight_of W.terms)
        (reading (hearing W C Q D N) x k (C.look k) (C.input (suc k))) K × Prefix K L
    voted_lock k x L d =
        let y = C.made_lock d.made in
        let g = y.1 in
        (y.0, longest_read x k (C.look k) (C.input (suc k)) g.start d.pre y.0 g.acts d.made.acts g.longest, y.2)

    votes_first : (x : ℕ) → memberOf 0 x ≡ true → (L : Log) × Voted x 0 L
    unfolding awakeTo
    votes_first x e =
        let p = awake_place W x (C.input 0) (member_split 0 x e).0 in
        let y = C.first_made p.acts in
        (y.0, record { keeps = p.keeps; pre = p.pre; made = y.1 })

    votes_next : (k x : ℕ) → memberOf (suc k) x ≡ true → suc k ≤ C.last
        → (K : Log) → Grade W.terms.n (weight_of W.terms) (reading (hearing W C Q D N) x k (C.look k) (C.input (suc k))) K
        → (L : Log) × Voted x (suc k) L
    unfolding reading hearing
    votes_next k x e l K g =
        let both = member_parts k x e in
        let p = awake_place W x (C.look k) both.0 in
        let q = awake_place W x (C.input (suc k)) both.1 in
        let h : GradeAfter (seat W x) q.pre k p.pre K =
        subst (λ (l : List Content). Grade W.terms.n (weight_of W.terms)
        (reading_from (heard_logs (after (seat W x) q.pre).heard k) (voters_of (heard_logs l k))) K) p.heard
        (subst (λ (l : List Content). Grade W.terms.n (weight_of W.terms)
        (reading_from (heard_logs l k) (voters_of (heard_logs (heard_by W x (C.look k)) k))) K) q.heard g) in
        let y = C.next_made l p.acts q.acts K h in
        (y.0, record { keeps = q.keeps; pre = q.pre; made = y.1 })

    -- How rule-keepers vote.
    pub run : MajorityIn → Execution (hearing W C Q D N)
    unfolding hearing
    run J = record {
      n = W.terms.n;
      w = weight_of W.terms;
      last = C.last;
      input = C.input;
      look = C.look;
      input_look = C.input_look;
      look_next = C.look_next;
      next_close = C.next_close;
      member = memberOf;
      breaker = breakerOf;
      voted = Voted;
      member_keeps = λ {k} {x} e. ap not (member_split k x e).1;
      member_looks = λ {k} {x} e. (member_parts k x e).0;
      member_acts = λ {k} {x} e. (member_parts k x e).1;
      numbers = λ {r} {b} {k} {x} {L} a l t e. numbers N r b k x L a l t (kept_to k x e);
      voted_member = λ {k} {x} {L} d e. voted_member k x L d (kept_to k x e);
      voted_once = λ {k} {x} {L} {M} d e. voted_once k x L M d e;
      voted_sent = λ {k} {x} {L} d. voted_sent k x L d;
      voted_lock = λ {k} {x} {L} d. voted_lock k x L d;
      votes_first = λ {x} e. votes_first x e;
      votes_next = λ {k} {x} e l K g. votes_next k x e l K g;
      majority = λ k {r} {b} a l m kl. J k r b a l m kl;
    }

    -- a decision, as the protocol has it
    decided_of : (J : MajorityIn) (r : ℕ) (L : Log) → Keeps W r → (d : Decides (seat W r) (W.calls r) L)
        → protocol.Decides (hearing W C Q D N) (run J) r (C.agreement d) L
    unfolding hearing run
    decided_of J r L kr d =
        let s = C.graded d in
        let lo = C.before_look d in
        let mid = C.look_next (C.agreement d) in
        let hi = C.after_lock d in
        record {
          s = C.snapshot d;
          g = d.beat;
          reads =
              record {
                snaps = place_awake W r (C.snapshot d) kr s.start s.acts;
                acts = place_awake W r d.beat kr d.pre d.acts;
                order = omega arith;
                in_window = C.in_window d;
              };
          after_input = C.after_input d;
          before_look = C.before_look d;
          after_lock = C.after_lock d;
          in_range = C.in_range d;
          grade = (longest_read r (C.agreement d) (C.snapshot d) d.beat s.start d.pre L s.acts d.acts s.longest).grade;
        }

    -- No two decided logs conflict, at two rule-keepers or at one, in any views.
    pub no_conflict_by : MajorityIn → (i j : ℕ) → Keeps W i → Keeps W j → (L M : Log) → Decides (seat W i) (W.calls i) L
        → Decides (seat W j) (W.calls j) M → Compatible L M
    no_conflict_by J i j ki kj L M d e = safety (hearing W C Q D N) (run J) (decided_of J i L ki d) (decided_of J j M kj e)
