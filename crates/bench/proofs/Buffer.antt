-- The outgoing buffer after an Act, for every record, list, offer and buffer: a made message stands at its front, and the bytes past it
-- keep their values; where nothing is made, refused Acts included, all of them do. A made message always has room: it has 64 blocks at the
-- most. The other calls have no buffer. Assumes nothing.
use Prim.Native.Nat.{ℕ, zero, suc, ◌≤◌, ◌<◌}
use native.Mathlib.Omega.{arith}
use mathlib.Core.Bool.{false, not, and-eq-true_iff}
use mathlib.Core.List.{List, [], ◌∷◌, ◌++◌}
use mathlib.Core.Logic.{inl, inr}
use mathlib.Core.Option.{Option, some, none, some-injective}
use mathlib.Core.Path.{◌≡◌, refl, ap, subst, ◌∙◌}
use borrow.Author.Tests.{ltb-true, ltb-false}
use lib.Dec.{eqb, ltb}
use lib.ListN.{length, get_or, drop, length-append}
use Rattle.message.specs.Limits.{most_blocks, last_view}
use Rattle.message.specs.Logs.{Block, Log}
use Rattle.message.specs.Message.{Meaning, log_of, bytes_of, meaning_in}
use Rattle.message.proofs.TestLaws.{either, or_false}
use Rattle.message.proofs.CauseLaws.{passes, judged, judged_alike}
use Rattle.message.proofs.PartLaws.{put_front}
use Rattle.message.proofs.WrittenFields.{length_message}
use Rattle.agreement.specs.Limits.{most_senders}
use Rattle.agreement.specs.Record.{two, snapshot_at}
use Rattle.agreement.specs.Kept.{kept_proposal}
use Rattle.agreement.proofs.KeptLaws.{kept_length}
use Rattle.agreement.proofs.RecordLaws.{by_short}
use Rattle.agreement.proofs.GradeSources.{vote_from}
use Rattle.bench.specs.Layout.{logs_place, proposals_place, most_bytes}
use Rattle.bench.specs.Calendar.{view_of, place_in, Act, proposing, voting, deciding, snapping, act_at}
use Rattle.bench.specs.Calls.{Reply, refused, done, took, acted, found, State, Core, core_of, Step}
use Rattle.bench.specs.Acts.{may_propose, propose, vote, is_view, in_views, makes, out_after}
use Rattle.bench.specs.Record.{agreement_of, proposals_of, beat_of, too_long, bad_proposer, any_place, beyond_proposals, Bench}
use Rattle.bench.specs.ByRecord.{refuse, step_by, act_step, begun, begin_rows, begin_of, file_message, taken, receive_rows, receive_of}
use Rattle.bench.specs.ByRecord.{used_of, seen_of, over, acted_of, acted_now, act_rows, act_of}
use Rattle.bench.specs.Tested.{Tested}
use Rattle.bench.proofs.TestedLaws.{within_limits, long_blocks, long_out}
use Rattle.bench.proofs.Valid.{no_place}
use Rattle.bench.proofs.ValidAgreements.{get_d_all}

-- ---- what an answer says was made; a refusal made nothing

abbrev pub made_in : Reply → Option Meaning
made_in (refused k) = none
made_in done = none
made_in (took w) = none
made_in (acted m) = m
made_in (found block inside) = none

-- ---- logs that are read have 64 blocks at the most

lock_short : (s : Core) (v : ℕ) (L : Log) → used_of s v voting ≡ some L → length L ≤ most_blocks
unfolding used_of
lock_short s zero L e = subst (λ (M : Log). length M ≤ most_blocks) (some-injective [] L e) (omega arith)
lock_short s (suc u) L e =
    by_short s.names s.counts (logs_place u) (agreement_of s.bench u) (snapshot_at two (agreement_of s.bench u).marks) L e

-- the proposals of view v, in a record within its limits
module _ (b : Bench) (e : beyond_proposals b.n b.proposals ≡ false) where
  pub proposed_short : (v i : ℕ) → i < most_senders → get_or (proposals_of b v).lengths i 0 ≤ most_blocks
  unfolding proposals_of beyond_proposals
  proposed_short v i h =
      let none-bad = (or_false (ltb last_view b.proposals.marks.view) (any_place (bad_proposer b.n b.proposals)) e).1 in
      let one = (or_false (too_long b.proposals.lengths i) _ (no_place (bad_proposer b.n b.proposals) none-bad i h)).0 in
      either (eqb b.proposals.marks.view v)
      (λ t. rw t (ltb-false most_blocks (get_or b.proposals.lengths i 0) one))
      (λ t. rw t (let z = get_d_all {A = ℕ} most_senders i 0 in omega arith))

-- ---- so has what is made

abbrev Short : Option Meaning → Type 0
Short none = Unit {0}
Short (some m) = length (log_of m) ≤ most_blocks

module _ (own v : ℕ) where
  propose_short : (block : Block) (priority : ℕ) (o : Option Log) → Short (propose own v block priority o)
  unfolding propose
  propose_short block priority none = tt
  propose_short block priority (some C) =
      either (may_propose block C)
      (λ e.
      let t = ltb-true (length C) most_blocks ((and-eq-true_iff (not (eqb block.name 0)) (ltb (length C) most_blocks)).0 e).1 in
      let l = length-append C (block ∷ []) in
      rw e (omega arith))
      (λ e. rw e tt)

  vote_short : (choose : Log → Log) (o : Option Log) → ((L : Log) → o ≡ some L → length (choose L) ≤ most_blocks)
      → Short (vote own v choose o)
  unfolding vote
  vote_short choose none h = tt
  vote_short choose (some L) h = h L refl

  in_views_short : (o : Option Meaning) → Short o → Short (in_views v o)
  in_views_short o h = either (is_view v) (λ t. rw t h) (λ t. rw t tt)

module _ (s : Core) (e : beyond_proposals s.bench.n s.bench.proposals ≡ false) where
  -- the vote is the lock, or a proposal
  chosen_short : (v : ℕ) (L : Log) → length L ≤ most_blocks → length ((seen_of s v voting).choose L) ≤ most_blocks
  chosen_short v L h =
      let kept = kept_proposal s.names s.counts proposals_place (proposals_of s.bench v) in
      elim (vote_from most_senders kept L) [
        | inl q ↦ rw q h
        | inr t ↦
            let k = kept_length s.names s.counts proposals_place (proposals_of s.bench v) t.sender t.proposal t.its in
            let w = proposed_short s.bench e v t.sender t.below in
            rw t.voted (omega arith)
      ]

  makes_short : (own v : ℕ) (block : Block) (priority : ℕ) (a : Act) → Short (makes own v block priority (seen_of s v a) a)
  unfolding makes
  makes_short own v block priority proposing =
      in_views_short own v (propose own v block priority (used_of s v proposing)) (propose_short own v block priority (used_of s v proposing))
  makes_short own v block priority voting =
      in_views_short own v (vote own v (seen_of s v voting).choose (used_of s v voting))
      (vote_short own v (seen_of s v voting).choose (used_of s v voting) (λ L q. chosen_short v L (lock_short s v L q)))
  makes_short own v block priority deciding = tt
  makes_short own v block priority snapping = tt

-- and a buffer that is long enough has room for it
abbrev Fits : List ℕ → Option Meaning → Type 0
Fits out none = Unit {0}
Fits out (some m) = (length (log_of m) ≤ most_blocks) × (length (bytes_of m) ≤ length out)

fits : (out : List ℕ) (o : Option Meaning) → Short o → most_bytes ≤ length out → Fits out o
fits out none h r = tt
fits out (some m) h r = (h, let l = length_message m in omega arith)

-- ---- Begin and Receive have no buffer

pub begin_out : (s : State) (beat : ℕ) → (begin_of s beat).answer.out ≡ []
unfolding begin_of
begin_out s beat =
    judged (refuse s []) (begun s beat) (λ (r : Step). r.answer.out ≡ []) (begin_rows s beat)
    (λ k e. refl)
    (λ e. refl)

pub receive_out : (s : State) (bytes : List ℕ) → (receive_of s bytes).answer.out ≡ []
unfolding receive_of
receive_out s bytes =
    judged (refuse s []) (step_by s.lent.totals (taken (file_message (core_of s) bytes (meaning_in bytes))))
    (λ (r : Step). r.answer.out ≡ []) (receive_rows s bytes)
    (λ k e. refl)
    (λ e. refl)

-- ---- the Act

module _ (s : State) (block : Block) (priority : ℕ) (out : List ℕ) where
  abbrev v : ℕ
  v = view_of (beat_of s.bench)

  abbrev a : Act
  a = act_at (place_in (beat_of s.bench))

  -- what holds of each refused Act, and of what is done
  by-causes : (P : Step → Type 0) → ((k : ℕ) → P (refuse s out k))
      → (Tested (core_of s) out → P (act_step s (acted_now (core_of s) block priority out))) → P (act_of s block priority out)
  unfolding act_of
  by-causes P f g =
      judged (refuse s out) (act_step s (acted_now (core_of s) block priority out)) P (act_rows s out)
      (λ k e. f k)
      (λ e.
      let (limits, (lists, (right, (room, rest)))) = passes (act_rows s out) e in
      g (record { usable = record { limits = limits; lists = long_blocks s.lent lists }; room = room }))

  -- one equation, refused Acts included
  pub act_out : (act_of s block priority out).answer.out ≡ out_after (made_in (act_of s block priority out).answer.reply) out
  unfolding acted_of
  act_out = by-causes (λ (r : Step). r.answer.out ≡ out_after (made_in r.answer.reply) out) (λ k. refl) (λ t. refl)

  made_fits : Fits out (made_in (act_of s block priority out).answer.reply)
  unfolding acted_of
  made_fits =
      by-causes (λ (r : Step). Fits out (made_in r.answer.reply))
      (λ k. tt)
      (λ t.
      fits out (makes s.bench.own v block priority (seen_of (over (core_of s)) v a) a)
      (makes_short (over (core_of s)) (within_limits s.bench t.usable.limits).1 s.bench.own v block priority a)
      (long_out t))

  -- nothing made, refused or not: the buffer handed in
  pub out_kept : made_in (act_of s block priority out).answer.reply ≡ none → (act_of s block priority out).answer.out ≡ out
  out_kept e = act_out ∙ ap (λ (o : Option Meaning). out_after o out) e

  module _ (m : Meaning) (e : (act_of s block priority out).answer.reply ≡ acted (some m)) where
    its : Fits out (some m)
    its = subst (λ (r : Reply). Fits out (made_in r)) e made_fits

    pub made_short : length (log_of m) ≤ most_blocks
    made_short = its.0

    -- a message: at the front, and the rest as handed in
    pub out_made : (act_of s block priority out).answer.out ≡ bytes_of m ++ drop (length (bytes_of m)) out
    out_made = act_out ∙ ap (λ (r : Reply). out_after (made_in r) out) e ∙ put_front out (bytes_of m) its.1

-- What the buffer holds shows nowhere else: neither in what is made nor in what is held.
module _ (s : State) (block : Block) (priority : ℕ) (out o : List ℕ) (e : ltb (length out) most_bytes ≡ ltb (length o) most_bytes) where
  same_but : {B : Type 0} (h : Step → B) → ((k : ℕ) → h (refuse s out k) ≡ h (refuse s o k))
      → ((v : ℕ) (a : Act) → h (act_step s (acted_of (over (core_of s)) block priority out v a)) ≡ h
      (act_step s (acted_of (over (core_of s)) block priority o v a)))
      → h (act_of s block priority out) ≡ h (act_of s block priority o)
  unfolding act_of
  same_but h d f =
      rw e (judged_alike h (act_rows s o) (refuse s out) (refuse s o)
      (act_step s (acted_now (core_of s) block priority out))
      (act_step s (acted_now (core_of s) block priority o))
      d (f (view_of (beat_of s.bench)) (act_at (place_in (beat_of s.bench)))))

  pub same_reply : (act_of s block priority out).answer.reply ≡ (act_of s block priority o).answer.reply
  unfolding acted_of
  same_reply = same_but (λ (r : Step). r.answer.reply) (λ k. refl) (λ v a. refl)

  pub same_held : (act_of s block priority out).held ≡ (act_of s block priority o).held
  unfolding acted_of
  same_held = same_but (λ (r : Step). r.held) (λ k. refl) (λ v a. refl)
