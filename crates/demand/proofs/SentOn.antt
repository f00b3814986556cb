-- Which LOGs heard a bench has made or passed on: of each sender in a view its one log, or two that differ. Assumes nothing.
use Rattle.agreement.proofs.GradeSources.{log_by}
use Prim.Native.Nat.{ℕ}
use mathlib.Core.Path.{◌≡◌, refl, sym, ap, subst, ◌∙◌}
use mathlib.Core.Logic.{◌⊎◌, inl, inr}
use mathlib.Core.List.{List, ◌∷◌, ◌++◌}
use mathlib.Core.Option.{Option, some, none}
use mathlib.Core.Bool.{Bool, true, false, ◌&&◌, and-eq-true_iff}
use lib.Dec.{eqb}
use borrow.Author.Tests.{eqb-true}
use Rattle.message.specs.Choice.{pick}
use Rattle.message.specs.Logs.{Block, Log, same_log}
use Rattle.message.specs.Message.{Content, Meaning, log_message, proposal_message, means, read_of}
use Rattle.agreement.specs.Filing.{first, second}
use Rattle.agreement.specs.Kept.{word_on}
use Rattle.agreement.specs.Heard.{logs_from, heard_logs}
use Rattle.agreement.proofs.KeptOfLaws.{logs_from_nil, logs_from_cons}
use Rattle.agreement.proofs.SenderLaws.{Status, no_log, status_add, status_map}
use Rattle.bench.specs.Terms.{Seat}
use Rattle.bench.specs.Calls.{Call, begin, receive, act, took, find}
use Rattle.bench.specs.History.{History, refusal, file, file_made, closed, accepted, made_by, decided_by, after, word_for}
use Rattle.bench.proofs.CallLaws.{act_ok, receive_ok, taken_reply_lem, word_log, log_heard, proposal_heard, accepted_begin, accepted_receive}
use Rattle.bench.proofs.CallLaws.{accepted_find}
use Rattle.bench.proofs.CallLaws.{accepted_act}
use Rattle.demand.specs.Places.{At, MakesAfter, TakesAfter, PassedOn, Sends, sends_made, sends_on}
use Rattle.demand.proofs.Starts.{along}
use Rattle.demand.proofs.Beats.{UpTo, up_to_now, up_to_step, has_beat}

-- made or passed on in the list, at a beat up to the last one of the history p
pub record SentBy (S : Seat) (cs : List Call) (p : History) (h : Content) : Type 0 where
  pub beat : ℕ
  pub sends : Sends S cs beat h
  pub up_to : UpTo p beat

-- the answer to a LOG has it passed on
abbrev Fresh : History → Content → Type 0
Fresh p h = (word_for p (log_message h) ≡ first) ⊎ (word_for p (log_message h) ≡ second)

module _ (S : Seat) (cs : List Call) (v s : ℕ) where
  abbrev SentLog : History → Log → Type 0
  SentLog p L = SentBy S cs p (log_by s v L)

  abbrev Sound : History → Type 0
  Sound p = Status (SentLog p) (logs_from p.heard v s)

  sent_step : (p : History) (c : Call) → refusal S p c ≡ none → (L : Log) → SentLog p L → SentLog (accepted S p c) L
  sent_step p c ok L w = record { beat = w.beat; sends = w.sends; up_to = up_to_step S p w.beat c ok w.up_to }

  -- a call that adds no LOG
  sound_same : (p : History) (c : Call) → refusal S p c ≡ none → Sound p → (accepted S p c).heard ≡ p.heard → Sound (accepted S p c)
  sound_same p c ok g e =
      subst (λ (l : List Content). Status (SentLog (accepted S p c)) (logs_from l v s)) (sym e)
      (status_map (SentLog p) (SentLog (accepted S p c)) (logs_from p.heard v s) (sent_step p c ok) g)

  -- the word on a LOG is the word on its sender's logs
  fresh_word : (p : History) (h : Content) → h.view ≡ v → h.sender ≡ s
      → (word_on same_log (heard_logs p.heard v s) h.log ≡ first) ⊎ (word_on same_log (heard_logs p.heard v s) h.log ≡ second)
      → Fresh p h
  fresh_word p h ev es w = rw (word_log p h, ev, es) w

  -- a call that adds the LOG h, which is sent on where it is fresh
  sound_more : (p : History) (c : Call) → refusal S p c ≡ none → Sound p → (h : Content) → (accepted S p c).heard ≡ h ∷ p.heard
      → (Fresh p h → SentBy S cs (accepted S p c) h) → Sound (accepted S p c)
  sound_more p c ok g h e sent =
      subst (Status (SentLog q)) (sym (ap (λ (l : List Content). logs_from l v s) e ∙ logs_from_cons h p.heard v s))
      (go (eqb h.view v && eqb h.sender s) refl)
    where
      q : History
      q = accepted S p c

      old : Status (SentLog q) (logs_from p.heard v s)
      old = status_map (SentLog p) (SentLog q) (logs_from p.heard v s) (sent_step p c ok) g

      by : h.view ≡ v → h.sender ≡ s → h ≡ log_by s v h.log
      by ev es i = record { sender = es i; view = ev i; log = h.log }

      go : (t : Bool) → (eqb h.view v && eqb h.sender s) ≡ t
          → Status (SentLog q) (pick t (h.log ∷ logs_from p.heard v s) (logs_from p.heard v s))
      go false f = old
      go true f =
          let x = (and-eq-true_iff _ _).0 f in
          let ev = eqb-true h.view v x.0 in
          let es = eqb-true h.sender s x.1 in
          status_add (SentLog q) (logs_from p.heard v s) h.log
          (λ w. subst (SentBy S cs q) (by ev es) (sent (fresh_word p h ev es w))) old

  sound_receive : (pre : List Call) (bytes : List ℕ) → At cs pre (receive bytes) → refusal S (after S pre) (receive bytes) ≡ none
      → Sound (after S pre) → Sound (accepted S (after S pre) (receive bytes))
  sound_receive pre bytes at ok g = let r = receive_ok S (after S pre) bytes ok in go r.message r.read r.gathering
    where
      p : History
      p = after S pre

      answered : (h : Content) → read_of S.terms.n bytes ≡ means (log_message h) → Fresh p h → PassedOn S cs pre bytes
      answered h e (inl w) = inl (taken_reply_lem S p bytes (log_message h) ok e ∙ ap took w)
      answered h e (inr w) = inr (taken_reply_lem S p bytes (log_message h) ok e ∙ ap took w)

      heard_is : (m : Meaning) → read_of S.terms.n bytes ≡ means m → (accepted S p (receive bytes)).heard ≡ (file p m).heard
      heard_is m e = ap (λ (x : History). x.heard) (accepted_receive S p bytes m e)

      go : (m : Meaning) → read_of S.terms.n bytes ≡ means m → p.gathering ≡ true → Sound (accepted S p (receive bytes))
      go (proposal_message h k) e gath = sound_same p (receive bytes) ok g (heard_is (proposal_message h k) e ∙ proposal_heard p h k)
      go (log_message h) e gath =
          let b = has_beat S pre gath in
          let t : TakesAfter S cs pre b.0 h = record { bytes = bytes; place = at; ok = ok; beat = b.1; read = e } in
          sound_more p (receive bytes) ok g h (heard_is (log_message h) e ∙ log_heard p h) (λ w. record {
            beat = b.0;
            sends = sends_on pre t (answered h e w);
            up_to = up_to_step S p b.0 (receive bytes) ok (up_to_now p b.0 b.1);
          })

  sound_act : (pre : List Call) (x : Block) (r : ℕ) (o : List ℕ) → At cs pre (act x r o) → refusal S (after S pre) (act x r o) ≡ none
      → Sound (after S pre) → Sound (accepted S (after S pre) (act x r o))
  sound_act pre x r o at ok g = go (made_by S p x r) refl
    where
      p : History
      p = after S pre

      shut : History
      shut = closed p (made_by S p x r) (decided_by S p)

      heard_is : (m : Option Meaning) → made_by S p x r ≡ m → (accepted S p (act x r o)).heard ≡ (file_made shut m).heard
      heard_is m e = ap (λ (y : History). y.heard) (accepted_act S p x r o ∙ ap (file_made shut) e)

      go : (m : Option Meaning) → made_by S p x r ≡ m → Sound (accepted S p (act x r o))
      go none e = sound_same p (act x r o) ok g (heard_is none e)
      go (some (proposal_message h k)) e = sound_same p (act x r o) ok g (heard_is (some (proposal_message h k)) e ∙ proposal_heard shut h k)
      go (some (log_message h)) e =
          let b = has_beat S pre (act_ok S p x r o ok).1 in
          let t : MakesAfter S cs pre b.0 h =
          record { acts = record { block = x; priority = r; out = o; place = at; ok = ok; beat = b.1 }; made = e } in
          sound_more p (act x r o) ok g h (heard_is (some (log_message h)) e ∙ log_heard shut h) (λ w. record {
            beat = b.0;
            sends = sends_made pre t;
            up_to = up_to_step S p b.0 (act x r o) ok (up_to_now p b.0 b.1);
          })

  sound_step : (pre : List Call) (c : Call) → At cs pre c → refusal S (after S pre) c ≡ none
      → Sound (after S pre) → Sound (accepted S (after S pre) c)
  sound_step pre (begin b) at ok g =
      sound_same (after S pre) (begin b) ok g (ap (λ (q : History). q.heard) (accepted_begin S (after S pre) b))
  sound_step pre (receive bytes) at ok g = sound_receive pre bytes at ok g
  sound_step pre (act x r o) at ok g = sound_act pre x r o at ok g
  sound_step pre (find e) at ok g =
      sound_same (after S pre) (find e) ok g (ap (λ (q : History). q.heard) (accepted_find S (after S pre) e))

  -- After any start of the list a sender's LOGs of a view are none, or one log that was sent on, or more than one, and two different ones
  -- were.
  pub sent_status : (pre post : List Call) → cs ≡ pre ++ post → Status (SentLog (after S pre)) (logs_from (after S pre).heard v s)
  sent_status = along S cs Sound (no_log (logs_from_nil v s)) sound_step
