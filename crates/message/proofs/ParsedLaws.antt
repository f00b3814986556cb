-- The reader's answer and what it says of the bytes: one answer for each reading, and what a caller may take from it. Assumes nothing.
use Prim.Native.Nat.{ℕ}
use mathlib.Core.Path.{◌≡◌, sym, ap, ◌∙◌}
use mathlib.Core.List.{List}
use lib.ListN.{length}
use Rattle.std.specs.Prelude.{Result, Ok, Err}
use Rattle.message.specs.Message.{Content, log_message, proposal_message, refused, means, read_of, content_of, meaning_of, parsed_of}
use Rattle.message.specs.Refusals.{number_of}
use Rattle.message.specs.declared.Head.{Head}
use Rattle.message.specs.declared.Message.{Message}
use Rattle.message.specs.declared.Message.TheVariants as messages
use Rattle.message.specs.declared.refusal.Refusal.{Refusal}
use Rattle.message.proofs.Acceptance.{length_blocks}
use Rattle.message.proofs.RefusalLaws.{number_of_injective}

-- the head is known by the content that it says: the blocks are as many as the log's
content_head : (s : List ℕ) (h j : Head) → content_of s h ≡ content_of s j → h ≡ j
content_head s h j e =
    let v = ap (λ (x : Content). x.view) e in
    let w = ap (λ (x : Content). x.sender) e in
    let b : h.blocks ≡ j.blocks =
    sym (length_blocks s h.blocks) ∙ ap (λ (x : Content). length x.log) e ∙ length_blocks s j.blocks in
    λ i. record { view = v i; sender = w i; blocks = b i }

-- no two messages have one meaning
meaning_of_injective : (s : List ℕ) (a b : Message) → meaning_of s a ≡ meaning_of s b → a ≡ b
meaning_of_injective s (messages.Log h) (messages.Log j) e =
    let c : content_of s h ≡ content_of s j = cc in ap messages.Log (content_head s h j c)
meaning_of_injective s (messages.Proposal h p) (messages.Proposal j q) e =
    let c : content_of s h ≡ content_of s j = cc in
    let d = content_head s h j c in
    let f : p ≡ q = cc in
    λ i. messages.Proposal (d i) (f i)
meaning_of_injective s (messages.Log h) (messages.Proposal j q) e = cc
meaning_of_injective s (messages.Proposal h p) (messages.Log j) e = cc

-- no two answers say the same of the bytes
pub parsed_of_injective : (s : List ℕ) (a b : Result Message Refusal) → parsed_of s a ≡ parsed_of s b → a ≡ b
unfolding parsed_of
parsed_of_injective s (Ok a) (Ok b) e = let m : meaning_of s a ≡ meaning_of s b = cc in ap Ok (meaning_of_injective s a b m)
parsed_of_injective s (Err x) (Err y) e = let n : number_of x ≡ number_of y = cc in ap Err (number_of_injective x y n)
parsed_of_injective s (Ok a) (Err y) e = cc
parsed_of_injective s (Err x) (Ok b) e = cc

-- ---- what a case of the answer says

pub read_as_log : (n : ℕ) (s : List ℕ) (r : Result Message Refusal) (h : Head) → parsed_of s r ≡ read_of n s → r ≡ Ok (messages.Log h)
    → read_of n s ≡ means (log_message (content_of s h))
unfolding parsed_of
read_as_log n s r h e c = sym e ∙ ap (parsed_of s) c

pub read_as_proposal : (n : ℕ) (s : List ℕ) (r : Result Message Refusal) (h : Head) (priority : ℕ) → parsed_of s r ≡ read_of n s
    → r ≡ Ok (messages.Proposal h priority)
    → read_of n s ≡ means (proposal_message (content_of s h) priority)
unfolding parsed_of
read_as_proposal n s r h priority e c = sym e ∙ ap (parsed_of s) c

pub read_as_refused : (n : ℕ) (s : List ℕ) (r : Result Message Refusal) (why : Refusal) → parsed_of s r ≡ read_of n s → r ≡ Err why
    → read_of n s ≡ refused (number_of why)
unfolding parsed_of
read_as_refused n s r why e c = sym e ∙ ap (parsed_of s) c
