-- What functions inside this crate ask and promise each other; nothing outside it depends on these. Assumes nothing.
use Rattle.std.specs.Prelude.{ℕ, zero, suc, ◌+◌, ◌*◌, ◌/◌, ◌^◌, ◌≤◌, ◌<◌, Bool, true, false, ◌&&◌, ◌||◌, not, List, ◌⊎◌, ◌≡◌, leb, ltb, length, get_or, Some, None, MatchOption}
use Rattle.std.specs.Prelude as std
use Rattle.std.proofs.Math.Option.{Option, some, none}
use Rattle.message.specs.Limits.{most_blocks}
use Rattle.message.specs.Logs.{Block, Log, same_block, is_prefix}
use Rattle.message.specs.Store.{block_at, log_at, prefix_at}
use Rattle.agreement.specs.Limits.{most_senders, span, place_of}
use Rattle.agreement.specs.Sets.{share, count, member, removing}
use Rattle.agreement.specs.Record.{Agreement, lacks_room, overlong, is_voter, filed_log}
use Rattle.agreement.specs.Proposals.{HasPlace}
use Rattle.agreement.specs.declared.Longest.{Longest}
use Rattle.agreement.specs.declared.sets.Iter.{Iter}

-- The lists have room from `base` on, and no length is over 64.
pub record Readable (names counts : List ℕ) (base : ℕ) (lengths : List ℕ) : Type 0 where
  pub in_names : base + span ≤ length names
  pub in_counts : base + span ≤ length counts
  pub short : (i : ℕ) → i < most_senders → get_or lengths i 0 ≤ most_blocks

-- the logs that are read are those of the record that is lent, which can be read
abbrev pub Lent : List ℕ → List ℕ → ℕ → List ℕ → List ℕ → List ℕ → ℕ → List ℕ → Type 0
Lent names counts base lengths ns cs b ls =
    ((lacks_room names counts base || overlong lengths) ≡ false) × (ns ≡ names) × (cs ≡ counts) × (b ≡ base) × (ls ≡ lengths)

-- the number tells of each sender below k whether it is in the set p, and has no other sender
pub record SetOf (p : ℕ → Bool) (k : ℕ) (set : ℕ) : Type 0 where
  pub at : (j : ℕ) → j < k → member set j ≡ p j
  pub below : set < 2 ^ k

-- ---- the senders of a set one after another

-- i is the lowest sender of the set
pub record Lowest (set i : ℕ) : Type 0 where
  pub few : i < most_senders
  pub inside : member set i ≡ true
  pub least : (j : ℕ) → j < i → member set j ≡ false

-- of the senders left, i is the lowest, and the others are the rest
abbrev pub Taken : ℕ → ℕ → ℕ → Type 0
Taken left i rest = Lowest left i × (rest ≡ removing left i)

-- the lowest sender is given with its digit, as long as one is left
abbrev pub TakesLowest : Iter → std.Option (ℕ × ℕ) → Iter → Type 0
TakesLowest s r t = MatchOption r ((s.left ≡ 0) × (t.left ≡ 0)) (λ p. Taken s.left p.0 t.left × (p.1 ≡ 2 ^ p.0))

-- kept are the senders of the set for which the test says so
pub record Filtered (says : ℕ → Bool → Type 0) (set kept : ℕ) : Type 0 where
  pub at : (j : ℕ) → j < most_senders → member set j ≡ true → says j (member kept j)
  pub inside : (j : ℕ) → member set j ≡ false → member kept j ≡ false
  pub below : kept < 2 ^ most_senders

-- ---- following the majority, block by block

-- of the senders that may support, those whose log starts with L
abbrev pub backing : List ℕ → List ℕ → ℕ → List ℕ → ℕ → Log → ℕ → Bool
backing names counts base lengths may L j = member may j && is_prefix L (filed_log names counts base lengths j)

-- more than half of `all` are among them
abbrev pub Majority : List ℕ → List ℕ → ℕ → List ℕ → ℕ → ℕ → Log → Type 0
Majority names counts base lengths may all L = all < 2 * count most_senders (backing names counts base lengths may L)

-- the block that stands after l blocks at sender i's place
abbrev pub next_block : List ℕ → List ℕ → ℕ → ℕ → ℕ → Block
next_block names counts base l i = block_at names counts (place_of base i + l)

-- of the followers, those whose log goes on after l blocks with block x
abbrev pub narrowed : List ℕ → List ℕ → ℕ → List ℕ → ℕ → ℕ → Block → ℕ → Bool
narrowed names counts base lengths followers l x j =
    member followers j && (ltb l (get_or lengths j 0) && same_block x (next_block names counts base l j))

-- the same, whether or not the log has more than l blocks
abbrev pub have_block : List ℕ → List ℕ → ℕ → ℕ → ℕ → Block → ℕ → Bool
have_block names counts base followers l x j = member followers j && same_block x (next_block names counts base l j)

-- k blocks at place a are the k blocks at place b
unfoldable pub alike : List ℕ → List ℕ → ℕ → ℕ → ℕ → Bool
alike names counts a b zero = true
alike names counts a b (suc k) = alike names counts a b k && same_block (block_at names counts (a + k)) (block_at names counts (b + k))

-- how many blocks are looked at together where the majority may go on
abbrev pub chunk_length : ℕ
chunk_length = 8

-- of the followers, those whose log goes on after l blocks with the next k blocks at sender c's place
abbrev pub narrowed_by : List ℕ → List ℕ → ℕ → List ℕ → ℕ → ℕ → ℕ → ℕ → ℕ → Bool
narrowed_by names counts base lengths followers l c k j =
    member followers j && (leb (l + k) (get_or lengths j 0) && alike names counts (place_of base c + l) (place_of base j + l) k)

-- that, for a chunk of blocks, or nobody
pub record Far (names counts : List ℕ) (base : ℕ) (lengths : List ℕ) (followers : ℕ) (l c : ℕ) (far : ℕ) : Type 0 where
  pub some : 0 < count most_senders (member far)
      → (l + chunk_length ≤ most_blocks) × SetOf (narrowed_by names counts base lengths followers l c chunk_length) most_senders far

-- a chunk of blocks at place a, and one after l blocks at sender j's place, lie within the lists
pub record Chunk (names counts : List ℕ) (l a j : ℕ) : Type 0 where
  pub few : l + chunk_length ≤ most_blocks
  pub from_names : a + chunk_length ≤ length names
  pub from_counts : a + chunk_length ≤ length counts
  pub sender : j < most_senders

-- The majority vote (Boyer and Moore), as long as followers are left: of those that had their turn, twice those that have the candidate's
-- block are at most `weight` more than all, and twice those that have any other block at least `weight` fewer.
pub record Leads (names counts : List ℕ) (base : ℕ) (followers : ℕ) (l who left best weight : ℕ) : Type 0 where
  pub most : (x : Block)
      → 2 * count most_senders (have_block names counts base followers l x) + count most_senders (member left)
      + share (not (same_block x (next_block names counts base l best))) weight
      ≤ 2 * count most_senders (have_block names counts base left l x) + count most_senders (member followers)
      + share (same_block x (next_block names counts base l best)) weight
  pub place : best < most_senders
  pub from : (best ≡ who) ⊎ (member followers best ≡ true)
  pub inside : (j : ℕ) → member left j ≡ true → member followers j ≡ true
  pub room : weight + count most_senders (member left) ≤ most_senders

-- a block that more than half of the followers have is the one of sender c, who is a follower, or is `who`
pub record MajorityAt (names counts : List ℕ) (base : ℕ) (followers : ℕ) (l who c : ℕ) : Type 0 where
  pub place : c < most_senders
  pub led : (x : Block) → count most_senders (member followers) < 2 * count most_senders (have_block names counts base followers l x)
      → same_block x (next_block names counts base l c) ≡ true
  pub from : (c ≡ who) ⊎ (member followers c ≡ true)

-- the senders that may support are no more than `all`, and more than half of it
pub record Extending (may all : ℕ) : Type 0 where
  pub few : count most_senders (member may) ≤ all
  pub enough : all < 2 * count most_senders (member may)

-- the followers are those whose log starts with the l blocks at sender `who`'s place, and are a majority
pub record Following (names counts : List ℕ) (base : ℕ) (lengths : List ℕ) (may : ℕ) (all who l : ℕ) (followers : ℕ) : Type 0 where
  pub at : (j : ℕ) → j < most_senders
      → member followers j ≡ backing names counts base lengths may (log_at names counts (place_of base who) l) j
  pub enough : all < 2 * count most_senders (member followers)

-- the l blocks at sender `who`'s place have a majority, and no longer log has one
pub record Top (names counts : List ℕ) (base : ℕ) (lengths : List ℕ) (may : ℕ) (all who l : ℕ) : Type 0 where
  pub place : who < most_senders
  pub few : l ≤ most_blocks
  pub majority : Majority names counts base lengths may all (log_at names counts (place_of base who) l)
  pub longest : (M : Log) → Majority names counts base lengths may all M → length M ≤ l

abbrev pub TopOf : List ℕ → List ℕ → ℕ → List ℕ → ℕ → ℕ → std.Option Longest → Type 0
TopOf names counts base lengths may all None = ⊥
TopOf names counts base lengths may all (Some p) = Top names counts base lengths may all p.sender p.blocks

pub record Extended (names counts : List ℕ) (base : ℕ) (lengths : List ℕ) (may : ℕ) (all : ℕ) (r : std.Option Longest) : Type 0 where
  pub top : TopOf names counts base lengths may all r

-- some sender below n passes the test, by what it says of each
pub record Passes (says : ℕ → Bool → Type 0) (n : ℕ) (r : Bool) : Type 0 where
  pub some : r ≡ true → (i : ℕ) × (i < n) × says i true
  pub none : r ≡ false → (i : ℕ) → i < n → says i false

-- ---- counting supporters

-- sender j may support, and its log starts with the k blocks at place a
unfoldable pub backs : List ℕ → List ℕ → ℕ → Agreement → ℕ → ℕ → ℕ → ℕ → Bool
backs names counts base g among a k j =
    (is_voter g j && member among j) && prefix_at names counts a k (place_of base j) (get_or g.lengths j 0)

-- ---- proposing

-- sender i, after the best so far, is better by its priority
abbrev pub beats : (ℕ → ℕ) → Option ℕ → ℕ → Bool
beats priority none i = true
beats priority (some j) i = ltb (priority j) (priority i)

-- The best proposer so far and the next sender each have a place in the record.
pub record Contest (best : std.Option ℕ) (i : ℕ) : Type 0 where
  pub place : HasPlace best
  pub few : i < most_senders
