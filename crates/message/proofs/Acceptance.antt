-- What it takes for bytes to be accepted, as tests and as facts, and the log in accepted bytes. Assumes nothing.
use Prim.Native.Nat.{ℕ, ◌+◌, ◌*◌, ◌≤◌, ◌<◌}
use native.Mathlib.Omega.{arith}
use mathlib.Core.Path.{◌≡◌, sym, ap, ◌∙◌}
use mathlib.Core.Logic.{◌⊎◌, inl, inr}
use mathlib.Core.List.{List}
use mathlib.Core.Option.{some}
use mathlib.Core.Bool.{true, false, not, ◌&&◌, ◌||◌}
use lib.Dec.{eqb}
use lib.ListN.{length}
use borrow.Author.Tests.{ltb-false, leb-false, eqb-true, le-ltb, lt-leb, eq-eqb, ne_eqb, not-false}
use Rattle.message.specs.Limits.{most_blocks, last_view, head_length, name_width, block_width}
use Rattle.message.specs.Causes.{first_failure}
use Rattle.message.specs.Logs.{names_of, counts_of}
use Rattle.message.specs.Message.{said, Meaning, log_message, proposal_message, log_kind, proposal_kind, count_in, sender_in, kind_in}
use Rattle.message.specs.Message.{byte_three, view_in, priority_in, names_in, counts_in, blocks_in, content_in, meaning_in, missized}
use Rattle.message.specs.Message.{malformed, zero_named, read_causes, Parsed, refused, means, read_of}
use Rattle.message.proofs.LogLaws.{names_in_step, counts_in_step, length_in_step}
use Rattle.message.proofs.NumberLaws.{length_numbers}
use Rattle.message.proofs.TestLaws.{either, or_false}
use Rattle.message.proofs.CauseLaws.{Passes, passes, no_failure, judged_refused, judged_done, judged}

-- ---- what is read

module _ (n : ℕ) (s : List ℕ) where
  -- refused by the first failure
  pub read_refused : (k : ℕ) → first_failure (read_causes n s) ≡ some k → read_of n s ≡ refused k
  unfolding read_of
  read_refused k e = judged_refused refused (means (meaning_in s)) (read_causes n s) k e

  pub read_cause : (k : ℕ) → read_of n s ≡ refused k → first_failure (read_causes n s) ≡ some k
  unfolding read_of
  read_cause k =
      judged refused (means (meaning_in s)) (λ (r : Parsed). r ≡ refused k → first_failure (read_causes n s) ≡ some k) (read_causes n s)
      (λ j e r. let q : j ≡ k = cc in e ∙ ap some q)
      (λ e r. let z : ◌≡◌ {A = ℕ} 0 1 = cc in absurd (omega arith))

  -- accepted where none holds
  pub accepts : Passes (read_causes n s) → read_of n s ≡ means (meaning_in s)
  unfolding read_of
  accepts a = judged_done refused (means (meaning_in s)) (read_causes n s) (no_failure (read_causes n s) a)

  pub accepted : (m : Meaning) → read_of n s ≡ means m → Passes (read_causes n s) × (meaning_in s ≡ m)
  unfolding read_of
  accepted m =
      judged refused (means (meaning_in s)) (λ (r : Parsed). r ≡ means m → Passes (read_causes n s) × (meaning_in s ≡ m)) (read_causes n s)
      (λ k e r. let z : ◌≡◌ {A = ℕ} 0 1 = cc in absurd (omega arith))
      (λ e r. (passes (read_causes n s) e, cc))

-- a kind, and the priority that it lets a message have: zero in a LOG
abbrev pub KindFits : ℕ → ℕ → Type 0
KindFits kind priority = ((kind ≡ log_kind) × (priority ≡ 0)) ⊎ (kind ≡ proposal_kind)

-- The same as facts of the bytes.
pub record Form (n : ℕ) (s : List ℕ) : Type 0 where
  pub few : count_in s ≤ most_blocks
  pub sized : length s ≡ head_length + block_width * count_in s
  pub kind : KindFits (kind_in s) (priority_in s)
  pub three : byte_three s ≡ 0
  pub sender : sender_in s < n
  pub view : view_in s ≤ last_view
  pub named : zero_named s ≡ false

pub form : (n : ℕ) (s : List ℕ) → Passes (read_causes n s) → Form n s
unfolding malformed
form n s (long, (sized, (formed, (known, (early, (named, end)))))) =
    let x = or_false _ _ sized in
    let y = or_false _ _ formed in
    let z = or_false _ _ y.1 in
    let k : (eqb (kind_in s) log_kind || eqb (kind_in s) proposal_kind) ≡ true = not-false _ y.0 in
    let p : (eqb (kind_in s) log_kind && not (eqb (priority_in s) 0)) ≡ false = z.1 in
    record {
      few = ltb-false most_blocks (count_in s) x.0;
      sized = eqb-true _ _ (not-false _ x.1);
      kind = either (eqb (kind_in s) log_kind)
          (λ yes. inl (eqb-true _ _ yes, eqb-true _ _ (not-false _ (rw yes at p))))
          (λ no. inr (eqb-true _ _ (rw no at k)));
      three = eqb-true _ _ (not-false _ z.0);
      sender = leb-false n (sender_in s) known;
      view = ltb-false last_view (view_in s) early;
      named = named;
    }

malformed_not : (s : List ℕ) → KindFits (kind_in s) (priority_in s) → byte_three s ≡ 0 → malformed s ≡ false
unfolding malformed
malformed_not s (inl k) z = rw (k.0, k.1, z)
malformed_not s (inr k) z = rw (k, z)

pub of_form : (n : ℕ) (s : List ℕ) → Form n s → Passes (read_causes n s)
of_form n s f =
    let l : head_length ≤ length s = let e = f.sized in omega arith in
    let sized : missized s ≡ false =
    rw (le-ltb most_blocks (count_in s) f.few, eq-eqb (length s) (head_length + block_width * count_in s) f.sized) in (
      le-ltb (length s) head_length l,
      (
        sized,
        (
          malformed_not s f.kind f.three,
          (lt-leb n (sender_in s) f.sender, (le-ltb last_view (view_in s) f.view, (f.named, tt))),
        ),
      ),
    )

-- ---- the parts of the log in the bytes

module _ (s : List ℕ) (k : ℕ) where
  lists_in_step : length (names_in s k) ≡ length (counts_in s k)
  lists_in_step = length_numbers 8 s 16 k ∙ sym (length_numbers 2 s (head_length + name_width * k) k)

  pub names_read : names_of (blocks_in s k) ≡ names_in s k
  names_read = names_in_step (names_in s k) (counts_in s k) lists_in_step

  pub counts_in_lem : counts_of (blocks_in s k) ≡ counts_in s k
  counts_in_lem = counts_in_step (names_in s k) (counts_in s k) lists_in_step

  pub length_blocks : length (blocks_in s k) ≡ k
  length_blocks = length_in_step (names_in s k) (counts_in s k) lists_in_step ∙ length_numbers 8 s 16 k

pub meaning_log : (s : List ℕ) → kind_in s ≡ log_kind → meaning_in s ≡ log_message (content_in s)
unfolding meaning_in
meaning_log s k = rw (eq-eqb (kind_in s) log_kind k)

pub meaning_other : (s : List ℕ) → (kind_in s ≡ log_kind → ⊥) → meaning_in s ≡ proposal_message (content_in s) (priority_in s)
unfolding meaning_in
meaning_other s k = rw (ne_eqb (kind_in s) log_kind k)

pub meaning_proposal : (s : List ℕ) → kind_in s ≡ proposal_kind → meaning_in s ≡ proposal_message (content_in s) (priority_in s)
meaning_proposal s k = meaning_other s (λ e. omega arith)

-- either kind says the content in the bytes
pub said_in : (s : List ℕ) → said (meaning_in s) ≡ content_in s
unfolding meaning_in
said_in s = either (eqb (kind_in s) log_kind) (λ yes. rw yes) (λ no. rw no)
