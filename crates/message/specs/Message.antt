-- The message: its meaning, its one writing, and what is read from bytes (document 01, "The message" and refusals 1 to 6 of "From the
-- input"). Assumes nothing.
use Rattle.std.specs.Prelude.{ℕ, ◌+◌, ◌*◌, ◌^◌, ◌<◌, ◌≤◌, List, [], ◌∷◌, ◌++◌, Bool, false, not, ◌&&◌, ◌||◌, ◌≡◌, eqb, leb, ltb, length, get_or, Result, Ok, Err}
use Rattle.message.specs.Limits.{most_blocks, last_view, head_length, name_width, count_width, block_width}
use Rattle.message.specs.Choice.{pick, any_of}
use Rattle.message.specs.Causes.{Cause, by, judged_by}
use Rattle.message.specs.Numbers.{AllBelow, number_at, numbers_at, bytes_for, bytes_for_each}
use Rattle.message.specs.Logs.{Log, in_step, names_of, counts_of}
use Rattle.message.specs.Refusals.{number_of}
use Rattle.message.specs.declared.Head.{Head}
use Rattle.message.specs.declared.Message.{Message}
use Rattle.message.specs.declared.Message.TheVariants as messages
use Rattle.message.specs.declared.refusal.Refusal.{Refusal}

-- ---- the meaning

-- What every message says: who sends it, for which view, and a log.
pub record Content : Type 0 where
  pub sender : ℕ
  pub view : ℕ
  pub log : Log

-- The number of the agreement in which a LOG counts: each view has one, GA v. Hearing, filing and windows of LOGs go by this number.
abbrev pub agreement_number : Content → ℕ
agreement_number m = m.view

-- A LOG is a content; a PROPOSAL has a priority besides.
pub data Meaning : Type 0 where
  log_message : Content → Meaning
  proposal_message : Content → ℕ → Meaning

-- the content of either kind, and its log
abbrev pub said : Meaning → Content
said (log_message m) = m
said (proposal_message m priority) = m

abbrev pub log_of : Meaning → Log
log_of m = (said m).log

-- byte 2: the kind
abbrev pub log_kind : ℕ
log_kind = 1

abbrev pub proposal_kind : ℕ
proposal_kind = 2

-- ---- the one writing of a meaning: block count, sender, kind, a zero; view; priority; the names; the counts

unfoldable pub message_bytes : Content → ℕ → ℕ → List ℕ
message_bytes m kind priority =
    length m.log
    ∷ m.sender
    ∷ kind
    ∷ 0
    ∷ (bytes_for 4 m.view ++
    (bytes_for 8 priority ++ (bytes_for_each name_width (names_of m.log) ++ bytes_for_each count_width (counts_of m.log))))

-- The priority is zero in a LOG.
unfoldable pub bytes_of : Meaning → List ℕ
bytes_of (log_message m) = message_bytes m log_kind 0
bytes_of (proposal_message m priority) = message_bytes m proposal_kind priority

-- ---- the fields of bytes, by their places

abbrev pub count_in : List ℕ → ℕ
count_in s = get_or s 0 0

abbrev pub sender_in : List ℕ → ℕ
sender_in s = get_or s 1 0

abbrev pub kind_in : List ℕ → ℕ
kind_in s = get_or s 2 0

abbrev pub byte_three : List ℕ → ℕ
byte_three s = get_or s 3 0

abbrev pub view_in : List ℕ → ℕ
view_in s = number_at 4 s 4

abbrev pub priority_in : List ℕ → ℕ
priority_in s = number_at 8 s 8

-- the names and the counts of k blocks, and these in step
abbrev pub names_in : List ℕ → ℕ → List ℕ
names_in s k = numbers_at name_width s head_length k

abbrev pub counts_in : List ℕ → ℕ → List ℕ
counts_in s k = numbers_at count_width s (head_length + name_width * k) k

abbrev pub blocks_in : List ℕ → ℕ → Log
blocks_in s k = in_step (names_in s k) (counts_in s k)

-- the log that the bytes hold: as many blocks as byte 0 says
abbrev pub log_in : List ℕ → Log
log_in s = blocks_in s (count_in s)

abbrev pub content_in : List ℕ → Content
content_in s = record { sender = sender_in s; view = view_in s; log = log_in s }

unfoldable pub meaning_in : List ℕ → Meaning
meaning_in s = pick (eqb (kind_in s) log_kind) (log_message (content_in s)) (proposal_message (content_in s) (priority_in s))

-- ---- refusals 1 to 6, each a test that holds where the message is refused

-- 1: under 16 bytes
abbrev pub too_short : List ℕ → Bool
too_short s = ltb (length s) head_length

-- 2: over 64 blocks, or a length that is "not 16 + 10k"
abbrev pub missized : List ℕ → Bool
missized s = ltb most_blocks (count_in s) || not (eqb (length s) (head_length + block_width * count_in s))

-- 3: the kind is neither, byte 3 is not zero, or a LOG has a priority
unfoldable pub malformed : List ℕ → Bool
malformed s =
    not (eqb (kind_in s) log_kind || eqb (kind_in s) proposal_kind)
    || (not (eqb (byte_three s) 0)
    || (eqb (kind_in s) log_kind && not (eqb (priority_in s) 0)))

-- 4: the sender is n or above
abbrev pub unknown_sender : ℕ → List ℕ → Bool
unknown_sender n s = leb n (sender_in s)

-- 5: the view is past the last
abbrev pub past_last_view : List ℕ → Bool
past_last_view s = ltb last_view (view_in s)

-- 6: a name is zero
abbrev pub any_zero : List ℕ → Bool
any_zero names = any_of (λ name. eqb name 0) names

abbrev pub zero_named : List ℕ → Bool
zero_named s = any_zero (names_in s (count_in s))

-- ---- reading

-- What reading gives: the number of the first refusal that holds, or the meaning.
pub data Parsed : Type 0 where
  refused : ℕ → Parsed
  means : Meaning → Parsed

-- 1 to 6 in their order
abbrev pub read_causes : ℕ → List ℕ → List Cause
read_causes n s =
    by 1 (too_short s)
    ∷ by 2 (missized s)
    ∷ by 3 (malformed s)
    ∷ by 4 (unknown_sender n s)
    ∷ by 5 (past_last_view s)
    ∷ by 6 (zero_named s)
    ∷ []

unfoldable pub read_of : ℕ → List ℕ → Parsed
read_of n s = judged_by (read_causes n s) refused (means (meaning_in s))

-- ---- the reader's answer: what each case of it says of the bytes that were read

abbrev pub content_of : List ℕ → Head → Content
content_of s h = record { sender = h.sender; view = h.view; log = blocks_in s h.blocks }

-- the code's message, as a meaning
abbrev pub meaning_of : List ℕ → Message → Meaning
meaning_of s (messages.Log h) = log_message (content_of s h)
meaning_of s (messages.Proposal h priority) = proposal_message (content_of s h) priority

unfoldable pub parsed_of : List ℕ → Result Message Refusal → Parsed
parsed_of s (Ok m) = means (meaning_of s m)
parsed_of s (Err why) = refused (number_of why)

-- ---- meanings in range: what may be written and is then read back

-- A content within the limits of n benches: names of 64 bits, not zero, and counts of 16 bits.
pub record Writable (n : ℕ) (m : Content) : Type 0 where
  pub sender : m.sender < n
  pub view : m.view ≤ last_view
  pub short : length m.log ≤ most_blocks
  pub named : any_zero (names_of m.log) ≡ false
  pub names : AllBelow (2 ^ 64) (names_of m.log)
  pub counts : AllBelow (2 ^ 16) (counts_of m.log)

abbrev pub WritableMeaning : ℕ → Meaning → Type 0
WritableMeaning n (log_message m) = Writable n m
WritableMeaning n (proposal_message m priority) = Writable n m × (priority < 2 ^ 64)
