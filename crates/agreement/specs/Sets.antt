-- Sets of senders, as tests of a sender's number, and how many are in a set. Assumes nothing.
use Rattle.std.specs.Prelude.{ℕ, zero, suc, ◌+◌, ◌-◌, ◌/◌, ◌%◌, ◌^◌, ◌<◌, ◌≡◌, Bool, true, false, not, eqb}
use Rattle.message.specs.Choice.{pick}

-- what one sender adds: its weight where it is in the set
abbrev pub share : Bool → ℕ → ℕ
share true k = k
share false k = 0

-- the weight of the senders below n that are in the set p, where sender i weighs w i
unfoldable pub weigh : ℕ → (ℕ → ℕ) → (ℕ → Bool) → ℕ
weigh zero w p = 0
weigh (suc n) w p = share (p n) (w n) + weigh n w p

-- in this register each sender weighs 1
abbrev pub ones : ℕ → ℕ
ones i = 1

-- how many of the senders below n are in the set p
abbrev pub count : ℕ → (ℕ → Bool) → ℕ
count n p = weigh n ones p

-- p lies inside q, among the senders below n
abbrev pub Inside : ℕ → (ℕ → Bool) → (ℕ → Bool) → Type 0
Inside n p q = (i : ℕ) → i < n → p i ≡ true → q i ≡ true

-- ---- a set as a record keeps it: a number, its digits in twos one for each sender

-- digit i is 1: sender i is in the set
unfoldable pub member : ℕ → ℕ → Bool
member set i = eqb (set / 2 ^ i % 2) 1

-- the set and sender i
unfoldable pub adding : ℕ → ℕ → ℕ
unfolding member
adding set i = pick (member set i) set (set + 2 ^ i)

-- the set without sender i
unfoldable pub removing : ℕ → ℕ → ℕ
unfolding member
removing set i = pick (member set i) (set - 2 ^ i) set

-- ---- a flag as a record keeps it: zero no, any other yes
abbrev pub is_yes : ℕ → Bool
is_yes flag = not (eqb flag 0)
