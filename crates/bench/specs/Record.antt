-- The bench's record: the agreement of a view in it, its beat, its changes, and its limits (document 01, "Four calls" and refusals 9, 20
-- and 22). All for every record, odd ones too. Assumes nothing.
use Rattle.std.specs.Prelude.{ℕ, ◌+◌, ◌-◌, Bool, not, ◌&&◌, ◌||◌, List, eqb, leb, ltb, get_or}
use Rattle.message.specs.Limits.{most_blocks, last_view}
use Rattle.message.specs.Choice.{pick}
use Rattle.agreement.specs.Limits.{most_senders}
use Rattle.agreement.specs.Sets.{count, member, is_yes}
use Rattle.agreement.specs.Record.{Agreement, agreement_from, empty_agreement, is_voter, is_equivocator, is_sender}
use Rattle.agreement.specs.Proposals.{Proposals, proposals_from, empty_proposals}
use Rattle.bench.specs.Layout.{is_even, out_of_range}
use Rattle.bench.specs.Calendar.{last_beat}
use Rattle.bench.specs.declared.Head.{Head}
use Rattle.bench.specs.declared.Rows.{Rows}
use Rattle.bench.specs.declared.Bench as struct

-- What a record holds, as the definitions take it: a flag is a number, zero for no and any other for yes.
pub record Bench : Type 0 where
  -- how many benches the volume has, and which of them this one is
  pub n : ℕ
  pub own : ℕ
  -- the last begun beat plus one, zero where none was begun
  pub next : ℕ
  -- a gathering is under way
  pub gathering : ℕ
  -- the agreements of the even and of the odd view, and the proposals, each with its view
  pub even : Agreement
  pub odd : Agreement
  pub proposals : Proposals
  -- the blocks of the decided log, and whether a decision conflicted with it
  pub decided : ℕ
  pub parted : ℕ

-- the parts that the code keeps: the head, the blocks of each log in the even and in the odd agreement, those proposed, and their
-- priorities
abbrev pub bench_from : Head → List ℕ → List ℕ → List ℕ → List ℕ → Bench
bench_from h even odd proposed priorities = record {
  n = h.n;
  own = h.own;
  next = h.next;
  gathering = h.gathering;
  even = agreement_from h.even even;
  odd = agreement_from h.odd odd;
  proposals = proposals_from h.shown proposed priorities;
  decided = h.decided;
  parted = h.parted;
}

-- the same, with the arrays together
abbrev pub bench_with : Head → Rows → Bench
bench_with h r = bench_from h r.even r.odd r.proposed r.priorities

-- the whole record, as it is handed in and given back
abbrev pub bench_of : struct.Bench → Bench
bench_of b = bench_with b.head b.rows

-- Fresh, by n and own number: nothing filed, no beat begun, the decided log empty.
abbrev pub fresh_bench : ℕ → ℕ → Bench
fresh_bench n own = record {
  n = n;
  own = own;
  next = 0;
  gathering = 0;
  even = empty_agreement 0;
  odd = empty_agreement 0;
  proposals = empty_proposals 0;
  decided = 0;
  parted = 0;
}

-- ---- whose agreement: that of view v stands in the slot of v's parity, and only where the slot's view is v; else nothing of view v is
-- filed

abbrev pub of_view : Agreement → ℕ → Agreement
of_view g v = pick (eqb g.marks.view v) g (empty_agreement v)

abbrev pub slot_of : Bench → ℕ → Agreement
slot_of b v = pick (is_even v) b.even b.odd

unfoldable pub agreement_of : Bench → ℕ → Agreement
agreement_of b v = of_view (slot_of b v) v

abbrev pub proposed_in : Proposals → ℕ → Proposals
proposed_in g v = pick (eqb g.marks.view v) g (empty_proposals v)

unfoldable pub proposals_of : Bench → ℕ → Proposals
proposals_of b v = proposed_in b.proposals v

-- ---- the beat

-- of the last Begin; `next` is one more, and zero where none was begun
abbrev pub beat_of : Bench → ℕ
beat_of b = b.next - 1

-- 20: a beat not above the last begun
abbrev pub not_above_last : Bench → ℕ → Bool
not_above_last b beat = ltb beat b.next

-- 22: no gathering under way; there is none before a beat is begun
abbrev pub idle : Bench → Bool
idle b = not (is_yes b.gathering) || eqb b.next 0

-- ---- changes of the record

-- g is the agreement of view v from now on
unfoldable pub with_agreement : Bench → ℕ → Agreement → Bench
with_agreement b v g = record {
  n = b.n;
  own = b.own;
  next = b.next;
  gathering = b.gathering;
  even = pick (is_even v) g b.even;
  odd = pick (is_even v) b.odd g;
  proposals = b.proposals;
  decided = b.decided;
  parted = b.parted;
}

abbrev pub with_proposals : Bench → Proposals → Bench
with_proposals b g = record {
  n = b.n;
  own = b.own;
  next = b.next;
  gathering = b.gathering;
  even = b.even;
  odd = b.odd;
  proposals = g;
  decided = b.decided;
  parted = b.parted;
}

-- an Act ends the gathering
abbrev pub with_gathering_over : Bench → Bench
with_gathering_over b = record {
  n = b.n;
  own = b.own;
  next = b.next;
  gathering = 0;
  even = b.even;
  odd = b.odd;
  proposals = b.proposals;
  decided = b.decided;
  parted = b.parted;
}

-- the decided log has k blocks
abbrev pub with_decided : Bench → ℕ → Bench
with_decided b k = record {
  n = b.n;
  own = b.own;
  next = b.next;
  gathering = b.gathering;
  even = b.even;
  odd = b.odd;
  proposals = b.proposals;
  decided = k;
  parted = b.parted;
}

-- the mark is set
abbrev pub with_parted : Bench → Bench
with_parted b = record {
  n = b.n;
  own = b.own;
  next = b.next;
  gathering = b.gathering;
  even = b.even;
  odd = b.odd;
  proposals = b.proposals;
  decided = b.decided;
  parted = 1;
}

-- ---- 9: a record beyond its limits, by exactly the causes listed, over all 32 places of each array

-- some of the 32 places passes the test
unfoldable pub any_place : (ℕ → Bool) → Bool
any_place p = ltb 0 (count most_senders p)

-- "a set naming n or above"
abbrev pub names_beyond : ℕ → ℕ → ℕ → Bool
names_beyond n set i = leb n i && member set i

-- "a sender in both V and E"
abbrev pub in_both : Agreement → ℕ → Bool
in_both g i = is_voter g i && is_equivocator g i

-- "a snapshot sender outside S"
abbrev pub unheard_of : Agreement → ℕ → ℕ → Bool
unheard_of g snapshot i = member snapshot i && not (is_sender g i)

-- "a length over 64"
abbrev pub too_long : List ℕ → ℕ → Bool
too_long lengths i = ltb most_blocks (get_or lengths i 0)

abbrev pub bad_sender : ℕ → Agreement → ℕ → Bool
bad_sender n g i =
    too_long g.lengths i
    || (names_beyond n g.marks.voters i
    || (names_beyond n g.marks.equivocators i
    || (names_beyond n g.marks.one.senders i
    || (names_beyond n g.marks.two.senders i
    || (in_both g i
    || (unheard_of g g.marks.one.senders i
    || unheard_of g g.marks.two.senders i))))))

unfoldable pub beyond_agreement : ℕ → Agreement → Bool
beyond_agreement n g = ltb last_view g.marks.view || any_place (bad_sender n g)

abbrev pub bad_proposer : ℕ → Proposals → ℕ → Bool
bad_proposer n g i = too_long g.lengths i || (names_beyond n g.marks.filed i || names_beyond n g.marks.aside i)

unfoldable pub beyond_proposals : ℕ → Proposals → Bool
beyond_proposals n g = ltb last_view g.marks.view || any_place (bad_proposer n g)

-- a beat over its limit: `next` is one more than it
unfoldable pub beyond : Bench → Bool
beyond b =
    out_of_range b.n b.own
    || (ltb (last_beat + 1) b.next
    || (ltb most_blocks b.decided
    || (beyond_agreement b.n b.even
    || (beyond_agreement b.n b.odd
    || beyond_proposals b.n b.proposals))))
