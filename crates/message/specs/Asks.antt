-- What functions inside this crate ask of their callers and promise them, by name. No public function asks anything. Assumes nothing.
use Rattle.std.specs.Prelude.{ℕ, ◌+◌, ◌*◌, ◌≤◌, Bool, true, false, ◌&&◌, List, [], ◌∷◌, ◌++◌, ◌≡◌, eqb, length}
use Rattle.message.specs.Limits.{most_blocks, head_length, name_width, count_width, block_width}
use Rattle.message.specs.Choice.{pick}
use Rattle.message.specs.Numbers.{part, put, bytes_for, bytes_for_each}
use Rattle.message.specs.Message.{log_kind, proposal_kind}
use Rattle.message.specs.Store.{room_for}
use Rattle.message.specs.declared.Head.{Head}
use Rattle.message.specs.declared.Message.{Message}
use Rattle.message.specs.declared.Message.TheVariants as messages

-- the first bytes of every message
abbrev pub head_of : ℕ → ℕ → ℕ → ℕ → ℕ → List ℕ
head_of m sender kind view priority = m ∷ sender ∷ kind ∷ 0 ∷ (bytes_for 4 view ++ bytes_for 8 priority)

-- the buffer with a message's head, the names of the k blocks at place a, and their counts past m names
abbrev pub with_first : List ℕ → List ℕ → List ℕ → ℕ → ℕ → ℕ → List ℕ → List ℕ
with_first out names counts a k m head =
    put (put (put out 0 head) head_length (bytes_for_each name_width (part names a k))) (head_length + name_width * m)
    (bytes_for_each count_width (part counts a k))

-- the head of either kind, and the bytes that it is written in: the priority is zero in a LOG
abbrev pub head_in : Message → Head
head_in (messages.Log h) = h
head_in (messages.Proposal h priority) = h

abbrev pub head_bytes : Message → List ℕ
head_bytes (messages.Log h) = head_of h.blocks h.sender log_kind h.view 0
head_bytes (messages.Proposal h priority) = head_of h.blocks h.sender proposal_kind h.view priority

abbrev pub blocks_of : Message → ℕ
blocks_of m = (head_in m).blocks

-- a message has at most 64 blocks, and k of them may be written first
pub record FirstOf (k : ℕ) (m : Message) : Type 0 where
  pub of_message : k ≤ blocks_of m
  pub few : blocks_of m ≤ most_blocks

-- where there is room, the head of a message is written and the first k of its blocks, the ones at place a
pub record WritesFirst (out names counts : List ℕ) (a k : ℕ) (m : Message) (answer : Bool) (o : List ℕ) : Type 0 where
  pub answered : answer ≡ room_for out names counts a k (blocks_of m)
  pub buffer : o ≡ pick answer (with_first out names counts a k (blocks_of m) (head_bytes m)) out

-- k blocks at a and k at b lie within the lists
pub record TwoLogs (names counts : List ℕ) (a b k : ℕ) : Type 0 where
  pub first_name : a + k ≤ length names
  pub second_name : b + k ≤ length names
  pub first_count : a + k ≤ length counts
  pub second_count : b + k ≤ length counts

-- the bytes hold k blocks, and k places from a on lie within the lists
pub record BytesAndLog (s names counts : List ℕ) (a k : ℕ) : Type 0 where
  pub bytes : head_length + block_width * k ≤ length s
  pub in_names : a + k ≤ length names
  pub in_counts : a + k ≤ length counts

-- two lists have the same numbers, one by one
unfoldable pub alike : List ℕ → List ℕ → Bool
alike [] [] = true
alike [] (y ∷ ys) = false
alike (x ∷ xs) [] = false
alike (x ∷ xs) (y ∷ ys) = eqb x y && alike xs ys
