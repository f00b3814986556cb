-- Logs in the two lent lists, names in one and entry counts in the other (document 01, "Four calls"), and what the functions over them
-- promise. Assumes nothing.
use Rattle.std.specs.Prelude.{ℕ, ◌+◌, ◌*◌, List, [], ◌∷◌, ◌++◌, Bool, true, false, ◌&&◌, ◌≡◌, leb, length, get_or}
use Rattle.message.specs.Limits.{most_blocks, head_length, block_width}
use Rattle.message.specs.Choice.{pick}
use Rattle.message.specs.Numbers.{part, put}
use Rattle.message.specs.Logs.{Block, Log, is_prefix, same_log, shared_length, in_step, names_of, counts_of}
use Rattle.message.specs.Message.{Meaning, log_message, proposal_message, bytes_of, count_in, log_in}

-- the block at place a
abbrev pub block_at : List ℕ → List ℕ → ℕ → Block
block_at names counts a = record { name = get_or names a 0; count = get_or counts a 0 }

-- the log of k blocks from place a on
unfoldable pub log_at : List ℕ → List ℕ → ℕ → ℕ → Log
log_at names counts a k = in_step (part names a k) (part counts a k)

-- k blocks from place a on are a log, of at most 64 blocks, within both lists
abbrev pub within : List ℕ → List ℕ → ℕ → ℕ → Bool
within names counts a k = leb k most_blocks && (leb (a + k) (length names) && leb (a + k) (length counts))

-- byte 0 says at most 64 blocks, and the bytes hold them; what follows them does not matter
abbrev pub holds_log : List ℕ → Bool
holds_log s = leb (count_in s) most_blocks && leb (head_length + block_width * count_in s) (length s)

-- ---- tests

-- The log of x blocks at a is a prefix of the log of y blocks at b; no, where one of them is no log within the lists.
unfoldable pub prefix_at : List ℕ → List ℕ → ℕ → ℕ → ℕ → ℕ → Bool
prefix_at names counts a x b y =
    (within names counts a x && within names counts b y) && is_prefix (log_at names counts a x) (log_at names counts b y)

-- How many blocks the two start with alike; 0, where one of them is no log within the lists.
unfoldable pub shared_at : List ℕ → List ℕ → ℕ → ℕ → ℕ → ℕ → ℕ
shared_at names counts a x b y =
    pick (within names counts a x && within names counts b y) (shared_length (log_at names counts a x) (log_at names counts b y)) 0

-- The log in the message s is the log of x blocks at a; no, where one of them is no log.
unfoldable pub matches_at : List ℕ → List ℕ → List ℕ → ℕ → ℕ → Bool
matches_at s names counts a x = (holds_log s && within names counts a x) && same_log (log_in s) (log_at names counts a x)

-- ---- storing a log

-- What storing gives: whether it was done, and both lists afterwards.
pub record Stored : Type 0 where
  pub done : Bool
  pub names : List ℕ
  pub counts : List ℕ

-- L stored from place a on where `ok` holds; else nothing changes
unfoldable pub store_of : Bool → List ℕ → List ℕ → ℕ → Log → Stored
store_of ok names counts a L =
    pick ok
    (record { done = true; names = put names a (names_of L); counts = put counts a (counts_of L) })
    (record { done = false; names = names; counts = counts })

-- A call answered and left the lists so.
pub record Stores (t : Stored) (answer : Bool) (names counts : List ℕ) : Type 0 where
  pub answered : answer ≡ t.done
  pub name_list : names ≡ t.names
  pub count_list : counts ≡ t.counts

-- filing: the log in the message s, to place a
abbrev pub file_of : List ℕ → List ℕ → ℕ → List ℕ → Stored
file_of names counts a s = store_of (holds_log s && within names counts a (count_in s)) names counts a (log_in s)

-- copying: the log of k blocks at a, to place b, where it ends at or before b
abbrev pub copy_of : List ℕ → List ℕ → ℕ → ℕ → ℕ → Stored
copy_of names counts a b k = store_of (leb (a + k) b && within names counts b k) names counts b (log_at names counts a k)

-- ---- writing a message

-- the k blocks at place a are a log within the lists, a message may have m blocks, and the buffer has room for it
unfoldable pub room_for : List ℕ → List ℕ → List ℕ → ℕ → ℕ → ℕ → Bool
room_for out names counts a k m = leb m most_blocks && (within names counts a k && leb (head_length + block_width * m) (length out))

-- What writing gives: whether it was done, and the outgoing buffer afterwards.
pub record Written : Type 0 where
  pub done : Bool
  pub out : List ℕ

-- the message at the front of the buffer where `ok` holds; else nothing changes
unfoldable pub write_of : Bool → List ℕ → Meaning → Written
write_of ok out m = pick ok (record { done = true; out = put out 0 (bytes_of m) }) (record { done = false; out = out })

-- A call answered and left the buffer so.
pub record Writes (t : Written) (answer : Bool) (out : List ℕ) : Type 0 where
  pub answered : answer ≡ t.done
  pub buffer : out ≡ t.out

-- the LOG of the k blocks at place a
abbrev pub log_from : List ℕ → List ℕ → ℕ → ℕ → ℕ → ℕ → Meaning
log_from names counts a k sender view = log_message (record { sender = sender; view = view; log = log_at names counts a k })

abbrev pub write_log_of : List ℕ → List ℕ → List ℕ → ℕ → ℕ → ℕ → ℕ → Written
write_log_of out names counts a k sender view = write_of (room_for out names counts a k k) out (log_from names counts a k sender view)

-- the PROPOSAL of the k blocks at place a and one block more
abbrev pub proposal_from : List ℕ → List ℕ → ℕ → ℕ → Block → ℕ → ℕ → ℕ → Meaning
proposal_from names counts a k block sender view priority =
    proposal_message (record { sender = sender; view = view; log = log_at names counts a k ++ (block ∷ []) }) priority

abbrev pub write_proposal_of : List ℕ → List ℕ → List ℕ → ℕ → ℕ → Block → ℕ → ℕ → ℕ → Written
write_proposal_of out names counts a k block sender view priority =
    write_of (room_for out names counts a k (k + 1)) out (proposal_from names counts a k block sender view priority)
