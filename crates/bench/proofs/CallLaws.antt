-- Laws of one call by the history: what it takes not to be refused, the word answered, what filing leaves, and what an accepted call gives.
-- Assumes nothing.
use Prim.Native.Nat.{ℕ, ◌≤◌}
use mathlib.Core.Path.{◌≡◌, refl, sym, ap, subst, ◌∙◌}
use mathlib.Core.Logic.{◌⊎◌, inl, inr}
use mathlib.Core.List.Memᴰ
use mathlib.Core.List.{List, ◌∷◌, Memᴰ as Mem, []}
use mathlib.Core.Option.{Option, some, none}
use mathlib.Core.Bool.{true, false, not}
use lib.ListN.{length}
use borrow.Author.Tests.{ltb-false, not-false}
use Rattle.message.specs.Logs.{Block, same_log}
use Rattle.message.specs.Message.{Content, Meaning, log_message, proposal_message, means, read_of, meaning_in, read_causes}
use Rattle.message.specs.Causes.{by}
use Rattle.message.proofs.CauseLaws.{Passes, passes, no_failure, passes_both, passes_each}
use Rattle.message.proofs.Acceptance.{accepts, accepted as read-accepted}
use Rattle.agreement.specs.Filing.{Word}
use Rattle.agreement.specs.Kept.{word_on}
use Rattle.agreement.specs.Heard.{heard_logs}
use Rattle.bench.specs.Terms.{Seat}
use Rattle.bench.specs.Layout.{most_bytes}
use Rattle.bench.specs.Calendar.{last_beat}
use Rattle.bench.specs.Calls.{Call, begin, receive, act, done, took, Answer, open_to, find}
use Rattle.bench.specs.History.{ActRecord, History, beat_now, not_above, refusal, word_for, file, file_made, closed, made_by, decided_by}
use Rattle.bench.specs.History.{accepted, word_read, accepted_answer, step, answer, causes}

-- ---- a call is refused and changes nothing, or is accepted

step_refused : (S : Seat) (p : History) (c : Call) (k : ℕ) → refusal S p c ≡ some k → step S p c ≡ p
unfolding step
step_refused S p c k e = rw e

pub step_ok : (S : Seat) (p : History) (c : Call) → refusal S p c ≡ none → step S p c ≡ accepted S p c
unfolding step
step_ok S p c e = rw e

pub step_cases : (S : Seat) (p : History) (c : Call)
    → (step S p c ≡ p) ⊎ ((refusal S p c ≡ none) × (step S p c ≡ accepted S p c))
step_cases S p c = go (refusal S p c) refl
  where
    go : (r : Option ℕ) → refusal S p c ≡ r → (step S p c ≡ p) ⊎ ((refusal S p c ≡ none) × (step S p c ≡ accepted S p c))
    go none e = inr (e, step_ok S p c e)
    go (some k) e = inl (step_refused S p c k e)

-- ---- what it takes not to be refused

-- none of its causes is a failure, and conversely
unrefused : (S : Seat) (p : History) (c : Call) → refusal S p c ≡ none → Passes (causes S p c)
unfolding refusal
unrefused S p c e = passes (causes S p c) e

pub accepts_call : (S : Seat) (p : History) (c : Call) → Passes (causes S p c) → refusal S p c ≡ none
unfolding refusal
accepts_call S p c x = no_failure (causes S p c) x

pub begin_ok : (S : Seat) (p : History) (b : ℕ) → refusal S p (begin b) ≡ none → (b ≤ last_beat) × (not_above b p.last ≡ false)
begin_ok S p b e = let (late, (above, end)) = unrefused S p (begin b) e in (ltb-false last_beat b late, above)

pub act_ok : (S : Seat) (p : History) (block : Block) (priority : ℕ) (out : List ℕ)
    → refusal S p (act block priority out) ≡ none → (most_bytes ≤ length out) × (p.gathering ≡ true)
act_ok S p block priority out e =
    let (short, (idle, end)) =
    unrefused S p (act block priority out) e in (ltb-false (length out) most_bytes short, not-false p.gathering idle)

-- a message that is taken
pub record Receives (S : Seat) (p : History) (bytes : List ℕ) : Type 0 where
  pub message : Meaning
  pub read : read_of S.terms.n bytes ≡ means message
  pub gathering : p.gathering ≡ true
  pub in_window : open_to message (beat_now p) ≡ true

pub receive_ok : (S : Seat) (p : History) (bytes : List ℕ) → refusal S p (receive bytes) ≡ none → Receives S p bytes
receive_ok S p bytes e =
    let (idle, rest) = unrefused S p (receive bytes) e in
    let (reads, (shut, end)) =
    passes_each (read_causes S.terms.n bytes) (by 21 (not (open_to (meaning_in bytes) (beat_now p))) ∷ []) rest in
    record {
      message = meaning_in bytes;
      read = accepts S.terms.n bytes reads;
      gathering = not-false p.gathering idle;
      in_window = not-false (open_to (meaning_in bytes) (beat_now p)) shut;
    }

means_injective : (m k : Meaning) → means m ≡ means k → m ≡ k
means_injective m k e = cc

-- the message read was open to its kind
pub receive_open : (S : Seat) (p : History) (bytes : List ℕ) (m : Meaning) → refusal S p (receive bytes) ≡ none
    → read_of S.terms.n bytes ≡ means m → open_to m (beat_now p) ≡ true
receive_open S p bytes m ok e =
    let r = receive_ok S p bytes ok in
    subst (λ (k : Meaning). open_to k (beat_now p) ≡ true) (means_injective r.message m (sym r.read ∙ e)) r.in_window

pub receive_refusal : (S : Seat) (p : History) (bytes : List ℕ) (m : Meaning)
    → read_of S.terms.n bytes ≡ means m → p.gathering ≡ true → open_to m (beat_now p) ≡ true → refusal S p (receive bytes) ≡ none
receive_refusal S p bytes m q g w =
    let (reads, same) = read-accepted S.terms.n bytes m q in
    accepts_call S p (receive bytes) (
      ap not g,
      passes_both (read_causes S.terms.n bytes) (by 21 (not (open_to (meaning_in bytes) (beat_now p))) ∷ []) reads
          (rw (same, w), tt),
    )

-- ---- the word answered to a message taken

pub taken_reply_lem : (S : Seat) (p : History) (bytes : List ℕ) (m : Meaning) → refusal S p (receive bytes) ≡ none
    → read_of S.terms.n bytes ≡ means m
    → (answer S p (receive bytes)).reply ≡ took (word_for p m)
unfolding answer accepted_answer
taken_reply_lem S p bytes m ok r =
    let a : answer S p (receive bytes) ≡ accepted_answer S p (receive bytes) = rw ok in
    ap (λ (x : Answer). x.reply) a ∙ ap (word_read p) r

pub begun_reply : (S : Seat) (p : History) (b : ℕ) → refusal S p (begin b) ≡ none → (answer S p (begin b)).reply ≡ done
unfolding answer accepted_answer
begun_reply S p b ok = let a : answer S p (begin b) ≡ accepted_answer S p (begin b) = rw ok in ap (λ (x : Answer). x.reply) a

-- the word on a LOG is the word on its sender's logs of the view
pub word_log : (p : History) (m : Content) → word_for p (log_message m) ≡ word_on same_log (heard_logs p.heard m.view m.sender) m.log
unfolding word_for
word_log p m = refl

pub took_injective : (v w : Word) → took v ≡ took w → v ≡ w
took_injective v w e = cc

-- ---- what filing leaves as it is

pub file_last : (p : History) (m : Meaning) → (file p m).last ≡ p.last
unfolding file
file_last p (log_message h) = refl
file_last p (proposal_message h k) = refl

file_gathering : (p : History) (m : Meaning) → (file p m).gathering ≡ p.gathering
unfolding file
file_gathering p (log_message h) = refl
file_gathering p (proposal_message h k) = refl

pub file_actions : (p : History) (m : Meaning) → (file p m).actions ≡ p.actions
unfolding file
file_actions p (log_message h) = refl
file_actions p (proposal_message h k) = refl

-- what was heard stays
pub file_heard : (p : History) (m : Meaning) (h : Content) → Mem h p.heard → Mem h (file p m).heard
unfolding file
file_heard p (log_message k) h i = Mem.tail i
file_heard p (proposal_message k r) h i = i

pub made_last : (p : History) (o : Option Meaning) → (file_made p o).last ≡ p.last
made_last p none = refl
made_last p (some m) = file_last p m

pub made_gathering : (p : History) (o : Option Meaning) → (file_made p o).gathering ≡ p.gathering
made_gathering p none = refl
made_gathering p (some m) = file_gathering p m

made_actions : (p : History) (o : Option Meaning) → (file_made p o).actions ≡ p.actions
made_actions p none = refl
made_actions p (some m) = file_actions p m

pub made_heard : (p : History) (o : Option Meaning) (h : Content) → Mem h p.heard → Mem h (file_made p o).heard
made_heard p none h i = i
made_heard p (some m) h i = file_heard p m h i

-- ---- what filing adds to the LOGs heard

pub log_heard : (p : History) (m : Content) → (file p (log_message m)).heard ≡ m ∷ p.heard
unfolding file
log_heard p m = refl

pub filed_heard : (p : History) (m : Content) → Mem m (file p (log_message m)).heard
filed_heard p m = subst (Mem m) (sym (log_heard p m)) (Mem.head refl)

pub proposal_heard : (p : History) (m : Content) (priority : ℕ) → (file p (proposal_message m priority)).heard ≡ p.heard
unfolding file
proposal_heard p m priority = refl

-- a LOG heard after filing is the one filed, or was heard before
pub filed_cases : (p : History) (m : Meaning) (h : Content) → Mem h (file p m).heard → (m ≡ log_message h) ⊎ Mem h p.heard
filed_cases p (log_message k) h i =
    elim (Memᴰ.cases_cons (subst (Mem h) (log_heard p k) i)) [ inl e ↦ inl (ap log_message (sym e)) | inr j ↦ inr j ]
filed_cases p (proposal_message k r) h i = inr (subst (Mem h) (proposal_heard p k r) i)

pub made_cases : (p : History) (o : Option Meaning) (h : Content) → Mem h (file_made p o).heard
    → (o ≡ some (log_message h)) ⊎ Mem h p.heard
made_cases p none h i = inr i
made_cases p (some m) h i = elim (filed_cases p m h i) [ inl e ↦ inl (ap {B = Option Meaning} some e) | inr j ↦ inr j ]

-- ---- an accepted call

-- the history after a Begin
abbrev after_begin : History → ℕ → History
after_begin p b = record { last = some b; gathering = true; heard = p.heard; proposals = p.proposals; actions = p.actions }

pub accepted_begin : (S : Seat) (p : History) (b : ℕ) → accepted S p (begin b) ≡ after_begin p b
unfolding accepted
accepted_begin S p b = refl

pub accepted_receive : (S : Seat) (p : History) (bytes : List ℕ) (m : Meaning) → read_of S.terms.n bytes ≡ means m
    → accepted S p (receive bytes) ≡ file p m
unfolding accepted
accepted_receive S p bytes m e = rw e

pub accepted_act : (S : Seat) (p : History) (block : Block) (priority : ℕ) (out : List ℕ)
    → accepted S p (act block priority out) ≡ file_made (closed p (made_by S p block priority) (decided_by S p)) (made_by S p block priority)
unfolding accepted
accepted_act S p block priority out = refl

-- a look-up changes nothing
pub accepted_find : (S : Seat) (p : History) (e : ℕ) → accepted S p (find e) ≡ p
unfolding accepted
accepted_find S p e = refl

-- what is recorded of an act
abbrev pub record_of : (S : Seat) → History → Block → ℕ → ActRecord
record_of S p block priority =
    record { beat = beat_now p; heard = p.heard; made = made_by S p block priority; decided = decided_by S p }

pub accepted_actions_act : (S : Seat) (p : History) (block : Block) (priority : ℕ) (out : List ℕ)
    → (accepted S p (act block priority out)).actions ≡ record_of S p block priority ∷ p.actions
accepted_actions_act S p block priority out =
    let m = made_by S p block priority in
    ap (λ (q : History). q.actions) (accepted_act S p block priority out) ∙ made_actions (closed p m (decided_by S p)) m

pub accepted_actions_receive : (S : Seat) (p : History) (bytes : List ℕ) → refusal S p (receive bytes) ≡ none
    → (accepted S p (receive bytes)).actions ≡ p.actions
accepted_actions_receive S p bytes ok =
    let r = receive_ok S p bytes ok in
    ap (λ (q : History). q.actions) (accepted_receive S p bytes r.message r.read) ∙ file_actions p r.message
