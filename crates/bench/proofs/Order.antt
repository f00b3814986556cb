-- The first failure is given: calls with many faults at once, then one fault less each time; and calls with two faults alone, which stand
-- next to each other in the order. One table, computed. Assumes nothing.
use Prim.Native.Nat.{ℕ}
use mathlib.Core.List.{List, [], ◌∷◌, ◌++◌, map}
use mathlib.Core.Option.{none}
use mathlib.Core.Path.{◌≡◌, refl}
use lib.ListN.{replicate}
use Rattle.message.specs.Choice.{any_of}
use Rattle.message.specs.Causes.{first_failure, judged_by}
use Rattle.message.specs.Limits.{most_blocks}
use Rattle.message.specs.Numbers.{part, put, number_at, numbers_at}
use Rattle.message.specs.Logs.{Block, in_step, counts_of}
use Rattle.message.specs.Store.{log_at}
use Rattle.message.specs.Message.{malformed, meaning_in}
use Rattle.agreement.specs.Sets.{weigh, member, adding, removing}
use Rattle.agreement.specs.Record.{empty_agreement}
use Rattle.agreement.specs.Proposals.{empty_proposals}
use Rattle.bench.specs.Layout.{Lent}
use Rattle.bench.specs.Totals.{totals_from, unlike, sum_of, block_holding, inside_block}
use Rattle.bench.specs.Calls.{Reply, refused, done, acted, found, State}
use Rattle.bench.specs.Acts.{makes}
use Rattle.bench.specs.Record.{any_place, beyond_agreement, beyond_proposals, beyond, agreement_of, with_agreement, Bench}
use Rattle.bench.specs.ByRecord.{open_of, begin_of, receive_of, settled, snapped_by, changed, acted_of, act_of, find_of}
use Rattle.bench.proofs.LimitTable.{plain}

-- ---- the rows

pub data Row : Type 0 where
  -- n, own number, the lists
  opens : ℕ → ℕ → Lent → Reply → Row
  -- a beat
  begins : State → ℕ → Reply → Row
  -- the bytes
  takes : State → List ℕ → Reply → Row
  -- the outgoing buffer; one block is offered
  acts : State → List ℕ → Reply → Row
  -- an entry number
  finds : State → ℕ → Reply → Row

abbrev block : Block
block = record { name = 5; count = 1 }

abbrev pub worked : Row → Reply
worked (opens n own l r) = (open_of n own l).reply
worked (begins s beat r) = (begin_of s beat).answer.reply
worked (takes s bytes r) = (receive_of s bytes).answer.reply
worked (acts s out r) = (act_of s block 9 out).answer.reply
worked (finds s e r) = (find_of s e).answer.reply

abbrev pub stated : Row → Reply
stated (opens n own l r) = r
stated (begins s beat r) = r
stated (takes s bytes r) = r
stated (acts s out r) = r
stated (finds s e r) = r

-- ---- records and lists

-- so many names and counts, each 1, and these totals; where no total matters, each of 64 is 7
abbrev lists : ℕ → ℕ → List ℕ → Lent
lists x y totals = record { names = replicate x 1; counts = replicate y 1; totals = totals }

abbrev lent : ℕ → ℕ → Lent
lent x y = lists x y (replicate most_blocks 7)

abbrev pub held : Bench → ℕ → ℕ → State
held b x y = record { bench = b; lent = lent x y }

-- a record with these totals; of two blocks they are 1 and 2
abbrev totalled : Bench → List ℕ → State
totalled b totals = record { bench = b; lent = lists 6208 6208 totals }

abbrev right : ℕ → List ℕ
right more = 1 ∷ 2 ∷ replicate more 7

abbrev wrong : ℕ → List ℕ
wrong more = 1 ∷ 3 ∷ replicate more 7

-- bench 4 of 5, two blocks decided: acted at beat 8, and gathering at beat 8
abbrev decided : Bench
decided = plain 5 4 9 2

abbrev gathering_two : Bench
gathering_two = record {
  n = 5;
  own = 4;
  next = 9;
  gathering = 1;
  even = empty_agreement 0;
  odd = empty_agreement 0;
  proposals = empty_proposals 0;
  decided = 2;
  parted = 0;
}

-- beyond its limits
abbrev bad : Bench
bad = plain 0 0 0 0

-- bench 4 of 5, acted at beat 8, or at beat 5; a gathering said to be under way, `next` being one more than the beat
abbrev idle : Bench
idle = plain 5 4 9 0

abbrev still : Bench
still = plain 5 4 6 0

abbrev pub gathering : ℕ → Bench
gathering next = record {
  n = 5;
  own = 4;
  next = next;
  gathering = 1;
  even = empty_agreement 0;
  odd = empty_agreement 0;
  proposals = empty_proposals 0;
  decided = 0;
  parted = 0;
}

-- gathering at beat 5, and beyond its limits by n alone
abbrev bad_gathering : Bench
bad_gathering = record {
  n = 33;
  own = 4;
  next = 6;
  gathering = 1;
  even = empty_agreement 0;
  odd = empty_agreement 0;
  proposals = empty_proposals 0;
  decided = 0;
  parted = 0;
}

-- bytes: block count, sender, kind, byte 3; the view; the priority, of eight bytes alike
abbrev head : ℕ → ℕ → ℕ → ℕ → List ℕ → ℕ → List ℕ
head k sender kind three view priority = k ∷ sender ∷ kind ∷ three ∷ (view ++ replicate 8 priority)

-- a view over its limit, and view 1
abbrev late : List ℕ
late = replicate 4 255

abbrev one : List ℕ
one = 1 ∷ 0 ∷ 0 ∷ 0 ∷ []

abbrev pub rows : List Row
rows =
    -- Open: 7, 8
    opens 0 0 (lent 6207 6207) (refused 7)
    ∷ opens 33 0 (lent 6208 6208) (refused 7)
    ∷ opens 5 5 (lent 6208 6208) (refused 7)
    ∷ opens 5 4 (lent 6207 6208) (refused 8)
    ∷ opens 5 4 (lent 6208 6207) (refused 8)
    ∷ opens 5 4 (lent 0 0) (refused 8)
    ∷ opens 5 4 (lent 6208 6208) done
    ∷ opens 1 0 (lent 6208 6209) done
    ∷ opens 32 31 (lent 6209 6208) done
    -- by each of the three lists
    ∷ opens 5 4 (lists 6208 6208 (replicate 63 7)) (refused 8)
    ∷ opens 5 4 (lists 6208 6208 []) (refused 8)
    ∷ opens 33 0 (lists 6208 6208 []) (refused 7)
    ∷ opens 5 4 (lists 6208 6208 (replicate 65 7)) done
    -- Begin: 9, 8, 9 by the totals, 10, 20
    ∷ begins (held bad 6207 6207) 4000007 (refused 9)
    ∷ begins (held idle 6207 6208) 4000007 (refused 8)
    ∷ begins (held idle 6208 6207) 4000007 (refused 8)
    ∷ begins (held idle 6208 6208) 4000007 (refused 10)
    ∷ begins (held idle 6208 6208) 4294967295 (refused 10)
    ∷ begins (held idle 6208 6208) 8 (refused 20)
    ∷ begins (held idle 6208 6208) 0 (refused 20)
    ∷ begins (held idle 6208 6208) 9 done
    ∷ begins (held idle 6209 6208) 4000006 done
    ∷ begins (held (plain 5 4 0 0) 6208 6208) 0 done
    ∷ begins (held (plain 5 4 4000007 0) 6208 6208) 4000006 (refused 20)
    ∷ begins (held (gathering 5) 6208 6208) 4 (refused 20)
    ∷ begins (held (gathering 5) 6208 6208) 5 done
    -- no beat begun: no 20, whatever the flag says
    ∷ begins (held (gathering 0) 6208 6208) 0 done
    -- 9 and 8, with 20 and without; 8 and 20
    ∷ begins (held (plain 0 0 9 0) 6207 6207) 8 (refused 9)
    ∷ begins (held bad 6208 6207) 8 (refused 9)
    ∷ begins (held idle 6207 6208) 8 (refused 8)
    -- 10 and 20 meet only in a record beyond its limits
    ∷ begins (held (plain 5 4 4000008 0) 6208 6208) 4000007 (refused 9)
    -- 8 by the totals alone, with 9 by them, 10 and 20; 9 by the totals with 10, with 20, and alone; none
    ∷ begins (totalled decided (wrong 61)) 4000007 (refused 8)
    ∷ begins (totalled decided (right 61)) 9 (refused 8)
    ∷ begins (totalled decided (wrong 62)) 4000007 (refused 9)
    ∷ begins (totalled decided (wrong 62)) 8 (refused 9)
    ∷ begins (totalled decided (wrong 62)) 9 (refused 9)
    ∷ begins (totalled decided (2 ∷ 2 ∷ replicate 62 7)) 9 (refused 9)
    ∷ begins (totalled decided (0 ∷ 1 ∷ replicate 62 7)) 9 (refused 9)
    ∷ begins (totalled decided (right 62)) 4000007 (refused 10)
    ∷ begins (totalled decided (right 62)) 9 done
    ∷ begins (totalled decided (right 63)) 9 done
    -- 9 of the record before 8 by the totals
    ∷ begins (totalled bad []) 9 (refused 9)
    -- Receive: 9, 8, 9 by the totals, 22, 1 to 6, 21
    ∷ takes (held bad 6207 6207) [] (refused 9)
    ∷ takes (held idle 6208 6207) [] (refused 8)
    ∷ takes (held idle 6207 6208) [] (refused 8)
    ∷ takes (held idle 6208 6208) [] (refused 22)
    ∷ takes (held (gathering 0) 6208 6208) [] (refused 22)
    ∷ takes (held (gathering 1) 6208 6208) [] (refused 1)
    ∷ takes (held (gathering 1) 6208 6208) (head 1 9 9 9 late 255) (refused 2)
    ∷ takes (held (gathering 1) 6208 6208) (head 1 9 9 9 late 255 ++ replicate 10 0) (refused 3)
    ∷ takes (held (gathering 1) 6208 6208) (head 1 5 2 0 late 255 ++ replicate 10 0) (refused 4)
    ∷ takes (held (gathering 1) 6208 6208) (head 1 4 2 0 late 255 ++ replicate 10 0) (refused 5)
    ∷ takes (held (gathering 1) 6208 6208) (head 1 4 2 0 one 255 ++ replicate 10 0) (refused 6)
    ∷ takes (held (gathering 1) 6208 6208) (head 1 4 2 0 one 255 ++ replicate 10 1) (refused 21)
    -- 9 and 8, of a message open at beat 5; 8 and 22; 22 with 2, 3, 4, 5, 6 and 21
    ∷ takes (held bad_gathering 6207 6208) (head 1 4 2 0 one 255 ++ replicate 10 1) (refused 9)
    ∷ takes (held still 6208 6207) (head 1 4 2 0 one 255 ++ replicate 10 1) (refused 8)
    ∷ takes (held still 6208 6208) (head 1 4 2 0 one 255 ++ replicate 9 1) (refused 22)
    ∷ takes (held still 6208 6208) (head 1 4 2 1 one 255 ++ replicate 10 1) (refused 22)
    ∷ takes (held still 6208 6208) (head 1 5 2 0 one 255 ++ replicate 10 1) (refused 22)
    ∷ takes (held still 6208 6208) (head 1 4 2 0 late 255 ++ replicate 10 1) (refused 22)
    ∷ takes (held still 6208 6208) (head 1 4 2 0 one 255 ++ replicate 10 0) (refused 22)
    ∷ takes (held idle 6208 6208) (head 1 4 2 0 one 255 ++ replicate 10 1) (refused 22)
    -- 1 and 2: under 16 bytes no length is right; 2, by its count and by its length, and 3
    ∷ takes (held (gathering 6) 6208 6208) (replicate 15 65) (refused 1)
    ∷ takes (held (gathering 6) 6208 6208) (head 65 4 3 0 one 255 ++ replicate 650 1) (refused 2)
    ∷ takes (held (gathering 6) 6208 6208) (head 1 4 1 0 one 1 ++ replicate 9 1) (refused 2)
    -- 3, by the kind, byte 3 and a LOG's priority, and 4
    ∷ takes (held (gathering 6) 6208 6208) (head 1 5 3 0 one 255 ++ replicate 10 1) (refused 3)
    ∷ takes (held (gathering 6) 6208 6208) (head 1 5 2 1 one 255 ++ replicate 10 1) (refused 3)
    ∷ takes (held (gathering 6) 6208 6208) (head 1 5 1 0 one 1 ++ replicate 10 1) (refused 3)
    -- 4 and 5 (a view over its limit is open at no beat); 5 and 6; 6 and 21
    ∷ takes (held (gathering 6) 6208 6208) (head 1 5 2 0 late 255 ++ replicate 10 1) (refused 4)
    ∷ takes (held (gathering 6) 6208 6208) (head 1 4 2 0 late 255 ++ replicate 10 0) (refused 5)
    ∷ takes (held (gathering 7) 6208 6208) (head 1 4 2 0 one 255 ++ replicate 10 0) (refused 6)
    -- 8 by the totals, and 9 by them, with 22, with 1 and with 21
    ∷ takes (totalled decided (wrong 61)) [] (refused 8)
    ∷ takes (totalled decided (wrong 62)) [] (refused 9)
    ∷ takes (totalled gathering_two (wrong 62)) [] (refused 9)
    ∷ takes (totalled gathering_two (wrong 62)) (head 1 4 2 0 one 255 ++ replicate 10 1) (refused 9)
    ∷ takes (totalled decided (right 62)) [] (refused 22)
    ∷ takes (totalled gathering_two (right 62)) [] (refused 1)
    -- Act: 9, 8, 9 by the totals, 11, 22
    ∷ acts (held bad 6207 6207) (replicate 655 7) (refused 9)
    ∷ acts (held idle 6207 6208) (replicate 655 7) (refused 8)
    ∷ acts (held idle 6208 6207) (replicate 655 7) (refused 8)
    ∷ acts (held idle 6208 6208) (replicate 655 7) (refused 11)
    ∷ acts (held idle 6208 6208) (replicate 656 7) (refused 22)
    ∷ acts (held (gathering 0) 6208 6208) (replicate 656 7) (refused 22)
    -- 9 and 8; 8 and 11
    ∷ acts (held bad_gathering 6207 6208) (replicate 656 7) (refused 9)
    ∷ acts (held (gathering 4) 6207 6208) (replicate 655 7) (refused 8)
    -- 11 even where nothing would be made
    ∷ acts (held (gathering 4) 6208 6208) (replicate 655 7) (refused 11)
    ∷ acts (held (gathering 4) 6208 6208) (replicate 656 7) (acted none)
    -- 8 by the totals, and 9 by them, with 11 and with 22
    ∷ acts (totalled gathering_two (wrong 61)) (replicate 655 7) (refused 8)
    ∷ acts (totalled gathering_two (wrong 62)) (replicate 655 7) (refused 9)
    ∷ acts (totalled decided (wrong 62)) (replicate 656 7) (refused 9)
    ∷ acts (totalled gathering_two (right 62)) (replicate 655 7) (refused 11)
    ∷ acts (totalled decided (right 62)) (replicate 656 7) (refused 22)
    -- a second act
    ∷ acts (act_of (held (gathering 4) 6208 6208) block 9 (replicate 656 7)).held (replicate 656 7) (refused 22)
    -- Find: 9, 8, 9 by the totals, 23; in a gathering and at rest
    ∷ finds (totalled bad []) 5 (refused 9)
    ∷ finds (totalled decided (wrong 61)) 5 (refused 8)
    ∷ finds (held decided 6207 6208) 5 (refused 8)
    ∷ finds (held decided 6208 6207) 5 (refused 8)
    ∷ finds (totalled decided (wrong 62)) 5 (refused 9)
    ∷ finds (totalled decided (wrong 62)) 0 (refused 9)
    ∷ finds (totalled decided (right 62)) 2 (refused 23)
    ∷ finds (totalled decided (right 62)) 1 (found 1 0)
    ∷ finds (totalled gathering_two (right 62)) 0 (found 0 0)
    ∷ finds (held (gathering 0) 6208 6208) 0 (refused 23)
    ∷ []

pub rows_hold : map worked rows ≡ map stated rows
unfolding
    open_of begin_of receive_of find_of unlike totals_from sum_of block_holding inside_block log_at part put counts_of acted_of act_of makes
    changed settled snapped_by agreement_of with_agreement judged_by first_failure malformed
    meaning_in any_of number_at numbers_at in_step
    beyond beyond_agreement beyond_proposals any_place weigh member adding removing
rows_hold = refl
