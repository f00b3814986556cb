-- Safety, for every calendar: no two logs that rule-keepers may decide conflict. Assumes nothing.
use mathlib.Core.List.{[]}
use Prim.Native.Nat.{ℕ, zero, suc, ◌≤◌, ◌<◌}
use native.Mathlib.Decide.{dec_lt, le_ind}
use native.Mathlib.Nat.{le_refl}
use native.Mathlib.Omega.{arith}
use mathlib.Core.Path.{◌≡◌, sym, ◌∙◌, subst}
use mathlib.Core.Logic.{◌⊎◌, inl, inr}
use mathlib.Core.Bool.{true}
use Rattle.message.specs.Logs.{Log, Prefix, empty, Compatible}
use Rattle.message.proofs.LogLaws.{prefix_trans, compatible_swap}
use Rattle.message.proofs.TestLaws.{either}
use Rattle.agreement.specs.Reading.{Grade}
use Rattle.agreement.proofs.ReadingLaws.{may_iff, validity}
use Rattle.demand.proofs.Hearing.{Hearing, Reads, reading, Execution, Decides}
use Rattle.demand.proofs.TwoReadings.{arrives, one_reading, two_readings, between_readings}

module _ (H : Hearing) (R : Execution H) where
  -- the votes of all members in k extend L
  abbrev Extends : Log → ℕ → Type 0
  Extends L k = (x : ℕ) (M : Log) → R.voted x k M → R.member k x ≡ true → Prefix L M

  -- all members vote in k
  abbrev AllVote : ℕ → Type 0
  AllVote k = (x : ℕ) → R.member k x ≡ true → (L : Log) × R.voted x k L

  -- ---- what all members' votes extend has the grade

  -- a member is in V wherever its agreement is read after the votes, with its vote
  member_single : {t k x c : ℕ} {L : Log} → R.voted x k L → R.member k x ≡ true → H.awake t k c ≡ true → R.input k < c → c ≤ H.close k
      → (H.single t c k x ≡ true) × (L ≡ H.log t c k x)
  member_single {t} {k} {x} {c} {L} v m a l i = (single, H.single_only a single got)
    where
      got : H.took t c k x L
      got = arrives H (R.voted_sent v) a l i

      only : {M : Log} → H.took t c k x M → M ≡ L
      only f = R.voted_once (R.numbers a i f (R.member_keeps m)) v

      single : H.single t c k x ≡ true
      single = elim (H.single_or a (H.heard_of_lem a got)) [
        | inl y ↦ y
        | inr d ↦ absurd (d.differ (only d.took_first ∙ sym (only d.took_second)))
      ]

  -- who is heard is a member or a breaker
  heard_cover : {t k g x : ℕ} → H.awake t k g ≡ true → g ≤ H.close k → H.heard t g k x ≡ true
      → (R.member k x ≡ true) ⊎ (R.breaker k x ≡ true)
  heard_cover {k = k} {x = x} a i e =
      either (R.breaker k x) inr (λ p. inl (R.voted_member (R.numbers a i (H.heard_some a e).1 p) p))

  module _ {t k s g : ℕ} (T : Reads H t k s g) (after : R.input k < s) (until : s ≤ R.look k) (all : AllVote k) (kl : k ≤ R.last) where
    all_grade : (L : Log) → Extends L k → Grade R.n R.w (reading H t k s g) L
    unfolding reading
    all_grade L ext = validity R.n R.w (reading H t k s g) (R.member k) (R.breaker k) L
        (λ x i m. (may_iff (reading H t k s g) x).1
        ((counts x m).0, (member_single (all x m).1 m T.snaps after (omega (arith, T.order, T.in_window))).0))
        (λ x i m. rw (counts x m).1 at (ext x (all x m).0 (all x m).1 m))
        (λ x i e. heard_cover T.acts T.in_window e)
        (R.majority k T.snaps (omega arith) until kl)
      where
        counts : (x : ℕ) (m : R.member k x ≡ true) → (H.single t g k x ≡ true) × ((all x m).0 ≡ H.log t g k x)
        counts x m = member_single (all x m).1 m T.acts (omega (arith, T.order)) T.in_window

  -- ---- the votes of the next agreement

  -- the reading on which a member's vote in k + 1 rests
  lock_reads : (k x : ℕ) → R.member (suc k) x ≡ true → Reads H x k (R.look k) (R.input (suc k))
  lock_reads k x m = record { snaps = R.member_looks m; acts = R.member_acts m; order = R.look_next k; in_window = R.next_close k }

  lock_grade : (k x : ℕ) (L : Log) → R.member (suc k) x ≡ true → AllVote k → k ≤ R.last → Extends L k
      → Grade R.n R.w (reading H x k (R.look k) (R.input (suc k))) L
  lock_grade k x L m all kl = all_grade (lock_reads k x m) (R.input_look k) (le_refl (R.look k)) all kl L

  -- All members vote in every agreement: the empty log is a prefix of every vote, so there is always a lock.
  all_vote : (k : ℕ) → k ≤ R.last → AllVote k
  all_vote zero kl x m = R.votes_first m
  all_vote (suc k) kl x m = R.votes_next m kl [] (lock_grade k x [] m (all_vote k (omega arith)) (omega arith) (λ y M v n. empty))

  -- a vote extends every log with the grade that its lock has
  lock_extends : (k x : ℕ) (L M : Log) → Grade R.n R.w (reading H x k (R.look k) (R.input (suc k))) L → R.voted x (suc k) M
      → Prefix L M
  lock_extends k x L M g v = let lock = R.voted_lock v in prefix_trans (lock.1.longest L g) lock.2

  -- ---- what is decided in k, all later votes extend

  decided_next : {r k : ℕ} {L : Log} → Decides H R r k L → Extends L (suc k)
  decided_next {r} {k} {L} d x M v m =
      lock_extends k x L M (between_readings H d.reads (lock_reads k x m) d.before_look d.after_lock R.n R.w L d.grade) v

  extends_next : (k : ℕ) (L : Log) → suc k ≤ R.last → Extends L k → Extends L (suc k)
  extends_next k L kl ext x M v m = lock_extends k x L M (lock_grade k x L m (all_vote k (omega arith)) (omega arith) ext) v

  decided_stays : {r k : ℕ} {L : Log} → Decides H R r k L → (m : ℕ) → k < m → m ≤ R.last → Extends L m
  decided_stays {r} {k} {L} d =
      le_ind (λ m. m ≤ R.last → Extends L m) (λ l. decided_next d) (λ m l ih ml. extends_next m L ml (ih (omega arith)))

  -- ---- two decisions

  -- the log decided before has the later one's grade too
  later : {r k t m : ℕ} {L M : Log} → Decides H R r k L → Decides H R t m M → k < m → Compatible L M
  later {r} {k} {t} {m} {L} {M} d e l =
      one_reading H e.reads R.n R.w L M
      (all_grade e.reads e.after_input (omega (arith, e.before_look)) (all_vote m e.in_range) e.in_range L
      (decided_stays d m l e.in_range))
      e.grade

  same : {r t k : ℕ} {L M : Log} → Decides H R r k L → Decides H R t k M → Compatible L M
  same {r} {t} {k} {L} {M} d e =
      two_readings H d.reads e.reads
      (omega (arith, d.before_look, R.look_next k, e.after_lock))
      (omega (arith, e.before_look, R.look_next k, d.after_lock))
      R.n R.w L M d.grade e.grade

  -- Safety, in any two agreements, at two benches or at one.
  pub safety : {r k t m : ℕ} {L M : Log} → Decides H R r k L → Decides H R t m M → Compatible L M
  safety {r} {k} {t} {m} {L} {M} d e = elim (dec_lt k m) [
    | yes l ↦ later d e l
    | no p ↦ elim (dec_lt m k) [
      | yes l ↦ compatible_swap (later e d l)
      | no q ↦ let k≡m : k ≡ m = omega arith in same d (subst (λ j. Decides H R t j M) (sym k≡m) e)
    ]
  ]
