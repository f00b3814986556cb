-- What a list of messages comes to, one message at a time: kept_of goes by the rule that a record files by, and so do heard_logs and
-- heard_proposals. Assumes nothing.
use Prim.Native.Nat.{ℕ}
use mathlib.Core.Bool.{Bool, true, false, not, ◌&&◌, ◌||◌, and-false, and-eq-true_iff}
use mathlib.Core.List.{List, [], ◌∷◌, Memᴰ}
use mathlib.Core.Logic.{◌⊎◌, inl, inr, ◌≢◌, Ne-symm}
use mathlib.Core.Path.{◌≡◌, refl, ap, ◌∙◌}
use borrow.Author.Tests.{eqb-true, eq-eqb, ne_eqb}
use lib.Dec.{eqb}
use Rattle.message.specs.Choice.{pick}
use Rattle.message.specs.Logs.{Log, same_log}
use Rattle.message.specs.Message.{Content}
use Rattle.message.proofs.TestLaws.{either}
use Rattle.message.proofs.LogLaws.{same_log_iff}
use Rattle.agreement.specs.Filing.{first, known}
use Rattle.agreement.specs.Kept.{Kept, nothing, only, differing, word_on, keep, Proposed, same_proposal}
use Rattle.agreement.specs.Heard.{some_differs, kept_of, logs_from, heard_logs, ProposalHeard, proposals_from, heard_proposals}

-- ---- one message more

-- d and e: one of the earlier ones differs from the newest of them, y, and from x
add_step : {A : Type 0} (same : A → A → Bool) (x y : A) (d e : Bool) → (same x y ≡ true → (x ≡ y) × (e ≡ d))
    → pick (not (same x y) || e) differing (only x) ≡ keep same (pick d differing (only y)) x
unfolding keep
add_step same x y true e h = either (same x y) (λ q. rw (q, (h q).1) refl) (λ q. rw q refl)
add_step {A} same x y false e h = either (same x y) (λ q. rw (q, (h q).1) (ap {B = Kept A} only (h q).0)) (λ q. rw q refl)

-- the newest message is kept by the rule, for a test that holds of equals only
kept_of_add : {A : Type 0} (same : A → A → Bool) → ((a b : A) → same a b ≡ true → a ≡ b) → (x : A) (xs : List A)
    → kept_of same (x ∷ xs) ≡ keep same (kept_of same xs) x
unfolding kept_of some_differs keep
kept_of_add same sound x [] = refl
kept_of_add same sound x (y ∷ ys) =
    add_step same x y (some_differs same y ys) (some_differs same x ys)
    (λ q. (sound x y q, ap (λ a. some_differs same a ys) (sound x y q)))

-- ---- the tests

same_log_sound : (a b : Log) → same_log a b ≡ true → a ≡ b
same_log_sound a b e = (same_log_iff a b).0 e

same_proposal_sound : (a b : Proposed) → same_proposal a b ≡ true → a ≡ b
same_proposal_sound a b e =
    let t = (and-eq-true_iff (same_log a.log b.log) (eqb a.priority b.priority)).0 e in
    let l = same_log_sound a.log b.log t.0 in
    let p = eqb-true a.priority b.priority t.1 in
    λ i. record { log = l i; priority = p i }

-- ---- whether a message of view u from sender t is one of view v from sender s

mine : (v s : ℕ) → (eqb v v && eqb s s) ≡ true
mine v s = rw (eq-eqb v v refl, eq-eqb s s refl) refl

other : (u t v s : ℕ) → (v ≢ u) ⊎ (s ≢ t) → (eqb u v && eqb t s) ≡ false
other u t v s (inl h) = rw (ne_eqb u v (Ne-symm h)) refl
other u t v s (inr h) = rw (ne_eqb t s (Ne-symm h)) (and-false (eqb u v))

-- ---- LOGs

pub logs_from_nil : (v s : ℕ) → logs_from [] v s ≡ []
unfolding logs_from
logs_from_nil v s = refl

pub logs_from_cons : (m : Content) (ms : List Content) (v s : ℕ)
    → logs_from (m ∷ ms) v s ≡ pick (eqb m.view v && eqb m.sender s) (m.log ∷ logs_from ms v s) (logs_from ms v s)
unfolding logs_from
logs_from_cons m ms v s = refl

module _ (heard : List Content) (m : Content) where
  -- one more of its sender and view
  pub heard_same : heard_logs (m ∷ heard) m.view m.sender ≡ keep same_log (heard_logs heard m.view m.sender) m.log
  unfolding logs_from
  heard_same = rw (mine m.view m.sender) (kept_of_add same_log same_log_sound m.log (logs_from heard m.view m.sender))

  -- of another sender or view nothing changes
  heard_apart : (v s : ℕ) → (eqb m.view v && eqb m.sender s) ≡ false → heard_logs (m ∷ heard) v s ≡ heard_logs heard v s
  unfolding logs_from
  heard_apart v s e = rw e refl

  pub heard_other : (v s : ℕ) → (v ≢ m.view) ⊎ (s ≢ m.sender) → heard_logs (m ∷ heard) v s ≡ heard_logs heard v s
  heard_other v s d = heard_apart v s (other m.view m.sender v s d)

  -- the first of its sender and view, and the same again
  pub heard_first : heard_logs heard m.view m.sender ≡ nothing → heard_logs (m ∷ heard) m.view m.sender ≡ only m.log
  unfolding keep
  heard_first e = heard_same ∙ ap (λ (k : Kept Log). keep same_log k m.log) e

  pub heard_again : heard_logs heard m.view m.sender ≡ only m.log → heard_logs (m ∷ heard) m.view m.sender ≡ only m.log
  unfolding keep
  heard_again e = heard_same ∙ ap (λ (k : Kept Log). keep same_log k m.log) e ∙ rw ((same_log_iff m.log m.log).1 refl)

-- and the answers to these
pub word_first : (L : Log) → word_on same_log nothing L ≡ first
unfolding word_on
word_first L = refl

pub word_again : (L : Log) → word_on same_log (only L) L ≡ known
unfolding word_on
word_again L = rw ((same_log_iff L L).1 refl)

-- where no LOG is of this view and sender
heard_none : (heard : List Content) (v s : ℕ) → ((m : Content) → Memᴰ m heard → (v ≢ m.view) ⊎ (s ≢ m.sender))
    → heard_logs heard v s ≡ nothing
unfolding kept_of logs_from
heard_none [] v s h = refl
heard_none (m ∷ ms) v s h =
    heard_other ms m v s (h m (Memᴰ.head refl)) ∙ heard_none ms v s (λ k i. h k (Memᴰ.tail i))

pub heard_no_view : (heard : List Content) (v s : ℕ) → ((m : Content) → Memᴰ m heard → v ≢ m.view) → heard_logs heard v s ≡ nothing
heard_no_view heard v s h = heard_none heard v s (λ m i. inl (h m i))

-- ---- the same of PROPOSALs

module _ (heard : List ProposalHeard) (m : ProposalHeard) where
  pub proposals_same : heard_proposals (m ∷ heard) m.content.view m.content.sender
      ≡ keep same_proposal (heard_proposals heard m.content.view m.content.sender)
      (record { log = m.content.log; priority = m.priority })
  unfolding proposals_from
  proposals_same =
      rw (mine m.content.view m.content.sender)
      (kept_of_add same_proposal same_proposal_sound (record { log = m.content.log; priority = m.priority })
      (proposals_from heard m.content.view m.content.sender))

  proposals_apart : (v s : ℕ) → (eqb m.content.view v && eqb m.content.sender s) ≡ false
      → heard_proposals (m ∷ heard) v s ≡ heard_proposals heard v s
  unfolding proposals_from
  proposals_apart v s e = rw e refl

  pub proposals_other : (v s : ℕ) → (v ≢ m.content.view) ⊎ (s ≢ m.content.sender)
      → heard_proposals (m ∷ heard) v s ≡ heard_proposals heard v s
  proposals_other v s d = proposals_apart v s (other m.content.view m.content.sender v s d)

proposals_none : (heard : List ProposalHeard) (v s : ℕ)
    → ((m : ProposalHeard) → Memᴰ m heard → (v ≢ m.content.view) ⊎ (s ≢ m.content.sender)) → heard_proposals heard v s ≡ nothing
unfolding kept_of proposals_from
proposals_none [] v s h = refl
proposals_none (m ∷ ms) v s h =
    proposals_other ms m v s (h m (Memᴰ.head refl)) ∙ proposals_none ms v s (λ k i. h k (Memᴰ.tail i))

pub proposals_no_view : (heard : List ProposalHeard) (v s : ℕ) → ((m : ProposalHeard) → Memᴰ m heard → v ≢ m.content.view)
    → heard_proposals heard v s ≡ nothing
proposals_no_view heard v s h = proposals_none heard v s (λ m i. inl (h m i))
