-- What a rule-keeper makes or passes on can be handed to every bench of its volume, so the premise on delivery asks nothing that cannot be
-- done. Assumes nothing.
use Prim.Native.Nat.{ℕ, ◌≤◌, ◌<◌}
use native.Mathlib.Omega.{arith}
use mathlib.Core.Path.{◌≡◌, subst}
use mathlib.Core.List.{List, ◌∷◌}
use mathlib.Core.Option.{none}
use mathlib.Core.Bool.{true}
use Rattle.message.specs.Message.{Content, log_message, bytes_of, means, read_of, Writable}
use Rattle.message.proofs.WrittenFields.{length_message}
use Rattle.message.proofs.Codec.{read_written, read_writable, message_below}
use Rattle.agreement.specs.Limits.{most_senders}
use Rattle.bench.specs.Terms.{Seat}
use Rattle.bench.specs.Calendar.{log_window}
use Rattle.bench.specs.Calls.{Call, receive, act, Typed, AllTyped}
use Rattle.bench.specs.History.{History, beat_now, refusal, after}
use Rattle.bench.proofs.CallLaws.{receive_refusal}
use Rattle.bench.proofs.GoodHistory.{after_good, made_good}
use Rattle.demand.specs.Places.{At, Sends, sends_made, sends_on}
use Rattle.demand.proofs.Starts.{typed_start, typed_next}

module _ (S : Seat) (cs : List Call) (lo : S.own < S.terms.n) (t : AllTyped cs) where
  typed_at : (pre : List Call) (c : Call) → At cs pre c → AllTyped pre × Typed c
  typed_at pre c at = let u = subst AllTyped at.1 t in (typed_start pre (c ∷ at.0) u, typed_next pre c at.0 u)

  sent_writable : (b : ℕ) (m : Content) → Sends S cs b m → Writable S.terms.n m
  sent_writable b m (sends_made pre x) =
      let a = x.acts in
      let y = typed_at pre (act a.block a.priority a.out) a.place in
      let c = y.1 in
      made_good S a.block a.priority lo c.0 c.1 c.2 (after S pre) (after_good S pre lo y.0) (log_message m) x.made
  sent_writable b m (sends_on pre x f) =
      read_writable S.terms.n x.bytes (log_message m) (typed_at pre (receive x.bytes) x.place).1.0 x.read

  -- Every LOG that a bench makes or passes on is read back from its bytes by every bench of the volume.
  pub sent_readable : (b : ℕ) (m : Content) → Sends S cs b m → read_of S.terms.n (bytes_of (log_message m)) ≡ means (log_message m)
  sent_readable b m s = read_written S.terms.n (log_message m) (sent_writable b m s)

  -- Its bytes may be handed to Receive, and in a gathering with its view open they are taken, whatever went before.
  pub sent_typed : (b : ℕ) (m : Content) → S.terms.n ≤ most_senders → Sends S cs b m → Typed (receive (bytes_of (log_message m)))
  sent_typed b m l s =
      let w = sent_writable b m s in
      let k = length_message (log_message m) in
      let h = w.short in
      (message_below S.terms.n (log_message m) (omega arith) w, omega arith)

  pub sent_taken : (b : ℕ) (m : Content) → Sends S cs b m → (p : History) → p.gathering ≡ true → log_window m.view (beat_now p) ≡ true
      → refusal S p (receive (bytes_of (log_message m))) ≡ none
  sent_taken b m s p g w = receive_refusal S p (bytes_of (log_message m)) (log_message m) (sent_readable b m s) g w
