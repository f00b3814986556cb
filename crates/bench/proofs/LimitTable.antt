-- Refusal 9, cause by cause, on both sides of each limit; and odd records that no cause listed refuses: one table, computed. Assumes
-- nothing.
use Prim.Native.Nat.{ℕ, ◌^◌, ◌-◌}
use mathlib.Core.Bool.{Bool, true, false}
use mathlib.Core.List.{List, [], ◌∷◌, map}
use mathlib.Core.Path.{◌≡◌, refl}
use lib.ListN.{replicate, set}
use Rattle.agreement.specs.Limits.{most_senders}
use Rattle.agreement.specs.Sets.{weigh, member}
use Rattle.agreement.specs.Record.{empty_agreement, Agreement}
use Rattle.agreement.specs.Proposals.{empty_proposals, Proposals}
use Rattle.bench.specs.Record.{any_place, beyond_agreement, beyond_proposals, beyond, Bench}

-- ---- records

-- nobody; one sender; a length of k blocks at place i
abbrev pub nobody : ℕ
nobody = 0

abbrev pub only : ℕ → ℕ
only i = 2 ^ i

abbrev pub long : ℕ → ℕ → List ℕ
long i k = set (replicate most_senders 0) i k

-- by n, own number, `next` and the decided length
abbrev pub plain : ℕ → ℕ → ℕ → ℕ → Bench
plain n own next decided = record {
  n = n;
  own = own;
  next = next;
  gathering = 0;
  even = empty_agreement 0;
  odd = empty_agreement 0;
  proposals = empty_proposals 0;
  decided = decided;
  parted = 0;
}

-- by view, lengths, V, E, snapshots one and two
abbrev pub agreement : ℕ → List ℕ → ℕ → ℕ → ℕ → ℕ → Agreement
agreement v lengths voters equivocators one two = record {
  marks = record {
    view = v;
    voters = voters;
    equivocators = equivocators;
    one = record { senders = one; taken = 0 };
    two =
        record { senders = two; taken = 0 };
  };
  lengths = lengths;
}

-- by view, lengths, the senders with one, and those set aside
abbrev pub proposals : ℕ → List ℕ → ℕ → ℕ → Proposals
proposals v lengths filed aside = record {
  marks = record { view = v; filed = filed; aside = aside };
  lengths = lengths;
  priorities = replicate most_senders (2 ^ 64 - 1);
}

-- bench 4 of 5, with one part that is not empty
abbrev parts : Agreement → Agreement → Proposals → Bench
parts even odd proposals = record {
  n = 5;
  own = 4;
  next = 0;
  gathering = 0;
  even = even;
  odd = odd;
  proposals = proposals;
  decided = 0;
  parted = 0;
}

abbrev even : Agreement → Bench
even g = parts g (empty_agreement 0) (empty_proposals 0)

abbrev odd : Agreement → Bench
odd g = parts (empty_agreement 0) g (empty_proposals 0)

abbrev offered : Proposals → Bench
offered g = parts (empty_agreement 0) (empty_agreement 0) g

-- no length, only sets: V, E, snapshots one and two
abbrev sets : ℕ → ℕ → ℕ → ℕ → Agreement
sets voters equivocators one two = agreement 0 (long 0 0) voters equivocators one two

-- no length, and both snapshots said to be taken: these
abbrev taken : ℕ → ℕ → Agreement
taken one two = record {
  marks = record {
    view = 0;
    voters = nobody;
    equivocators = nobody;
    one = record { senders = one; taken = 1 };
    two =
        record { senders = two; taken = 1 };
  };
  lengths = long 0 0;
}

-- nothing filed, and these flags of the snapshots
abbrev saying : ℕ → ℕ → Agreement
saying one two = record {
  marks = record {
    view = 0;
    voters = nobody;
    equivocators = nobody;
    one = record { senders = nobody; taken = one };
    two =
        record { senders = nobody; taken = two };
  };
  lengths = long 0 0;
}

-- bench 0 of n
abbrev volume : ℕ → Agreement → Bench
volume n g = record {
  n = n;
  own = 0;
  next = 0;
  gathering = 0;
  even = g;
  odd = empty_agreement 0;
  proposals = empty_proposals 0;
  decided = 0;
  parted = 0;
}

-- ---- the rows

pub record Row : Type 0 where
  pub bench : Bench
  pub refused : Bool

abbrev valid : Bench → Row
valid b = record { bench = b; refused = false }

abbrev bad : Bench → Row
bad b = record { bench = b; refused = true }

abbrev pub rows : List Row
rows =
    -- n
    bad (plain 0 0 0 0)
    ∷ valid (plain 1 0 0 0)
    ∷ valid (plain 32 31 0 0)
    ∷ bad (plain 33 0 0 0)
    ∷ bad (plain 255 0 0 0)
    -- the own number
    ∷ valid (plain 5 4 0 0)
    ∷ bad (plain 5 5 0 0)
    ∷ bad (plain 1 1 0 0)
    ∷ bad (plain 32 32 0 0)
    -- a beat: 4,000,006 is stored as one more
    ∷ valid (plain 5 4 4000007 0)
    ∷ bad (plain 5 4 4000008 0)
    ∷ bad (plain 5 4 4294967295 0)
    -- the decided length
    ∷ valid (plain 5 4 0 64)
    ∷ bad (plain 5 4 0 65)
    ∷ bad (plain 5 4 0 255)
    ∷ bad (plain 5 4 0 65535)
    -- a view
    ∷ valid (even (empty_agreement 1000000))
    ∷ bad (even (empty_agreement 1000001))
    ∷ valid (odd (empty_agreement 1000000))
    ∷ bad (odd (empty_agreement 1000001))
    ∷ valid (offered (empty_proposals 1000000))
    ∷ bad (offered (empty_proposals 1000001))
    -- a length, at every place, filed or not
    ∷ valid (even (agreement 0 (replicate most_senders 64) nobody nobody nobody nobody))
    ∷ bad (even (agreement 0 (long 0 65) nobody nobody nobody nobody))
    ∷ bad (even (agreement 0 (long 31 65) nobody nobody nobody nobody))
    ∷ valid (odd (agreement 1 (replicate most_senders 64) nobody nobody nobody nobody))
    ∷ bad (odd (agreement 1 (long 0 65) nobody nobody nobody nobody))
    ∷ bad (odd (agreement 1 (long 31 255) nobody nobody nobody nobody))
    ∷ valid (offered (proposals 0 (replicate most_senders 64) nobody nobody))
    ∷ bad (offered (proposals 0 (long 0 65) nobody nobody))
    ∷ bad (offered (proposals 0 (long 31 65) nobody nobody))
    -- a set naming n or above: V, ..
    ∷ valid (even (sets (only 4) nobody nobody nobody))
    ∷ bad (even (sets (only 5) nobody nobody nobody))
    ∷ bad (odd (sets (only 31) nobody nobody nobody))
    -- all below n, which is one less than 2^n; the same and sender n; ..
    ∷ valid (even (sets 31 nobody 31 31))
    ∷ bad (even (sets 63 nobody nobody nobody))
    ∷ valid (volume 31 (sets (2 ^ 31 - 1) nobody nobody nobody))
    ∷ bad (volume 31 (sets (2 ^ 32 - 1) nobody nobody nobody))
    ∷ valid (volume 32 (sets (2 ^ 32 - 1) nobody nobody nobody))
    -- E,
    ∷ valid (odd (sets nobody (only 4) nobody nobody))
    ∷ bad (even (sets nobody (only 5) nobody nobody))
    ∷ bad (odd (sets nobody (only 31) nobody nobody))
    -- the snapshots; such a sender is outside S, or V or E names it too, so this is never the only cause;
    ∷ valid (even (sets (only 4) nobody (only 4) (only 4)))
    ∷ bad (even (sets nobody nobody (only 5) nobody))
    ∷ bad (odd (sets (only 5) nobody (only 5) nobody))
    ∷ bad (odd (sets nobody nobody nobody (only 31)))
    ∷ bad (even (sets nobody (only 5) nobody (only 5)))
    -- the proposals, and those set aside
    ∷ valid (offered (proposals 0 (long 0 0) (only 4) (only 4)))
    ∷ bad (offered (proposals 0 (long 0 0) (only 5) nobody))
    ∷ bad (offered (proposals 0 (long 0 0) nobody (only 5)))
    ∷ bad (offered (proposals 0 (long 0 0) (only 31) (only 31)))
    -- a sender in both V and E
    ∷ valid (even (sets (only 3) (only 4) nobody nobody))
    ∷ bad (even (sets (only 0) (only 0) nobody nobody))
    ∷ bad (odd (sets (only 4) (only 4) nobody nobody))
    -- a snapshot sender outside S; one in E since is inside
    ∷ valid (even (sets (only 3) (only 4) (only 3) (only 4)))
    ∷ valid (odd (sets nobody (only 0) (only 0) (only 0)))
    ∷ bad (even (sets nobody nobody (only 0) nobody))
    ∷ bad (even (sets (only 1) nobody nobody (only 0)))
    ∷ bad (odd (sets nobody (only 1) (only 4) nobody))
    ∷ bad (odd (sets (only 3) (only 1) (only 3) (only 4)))
    -- the flag of a snapshot does not matter
    ∷ bad (even (taken (only 0) nobody))
    ∷ bad (even (taken nobody (only 0)))
    ∷ bad (odd (taken (only 4) nobody))
    ∷ bad (odd (taken nobody (only 4)))
    ∷ bad (even (taken nobody (only 5)))
    -- Nothing else is a cause. A gathering with no beat begun, marked as parted; ..
    ∷ valid (record {
      n = 5;
      own = 4;
      next = 0;
      gathering = 1;
      even = empty_agreement 0;
      odd = empty_agreement 0;
      proposals = empty_proposals 0;
      decided = 0;
      parted = 1;
    })
    -- flags that are neither 0 nor 1; ..
    ∷ valid (record {
      n = 5;
      own = 4;
      next = 0;
      gathering = 2;
      even = saying 2 4294967295;
      odd = saying 65536 0;
      proposals = empty_proposals 0;
      decided = 0;
      parted = 65535;
    })
    -- a view to come, and in the other parity's slot; ..
    ∷ valid (parts (agreement 7 (long 0 1) (only 0) nobody nobody nobody) (agreement 8 (long 0 1) (only 0) nobody nobody nobody)
    (empty_proposals 9))
    -- a proposal set aside that is not filed; a snapshot said to be taken, of nobody; a length of nobody's
    ∷ valid (offered (proposals 9 (long 31 1) nobody (only 0)))
    ∷ valid (even (record {
      marks = record {
        view = 0;
        voters = nobody;
        equivocators = nobody;
        one = record { senders = nobody; taken = 1 };
        two =
            record { senders = nobody; taken = 1 };
      };
      lengths = long 4 64;
    }))
    ∷ []

pub rows_hold : map (λ (r : Row). beyond r.bench) rows ≡ map (λ (r : Row). r.refused) rows
unfolding beyond beyond_agreement beyond_proposals any_place weigh member
rows_hold = refl
