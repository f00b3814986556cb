-- An agreement stays within its limits: with nothing filed, after each change of it, and so after filing. Its arrays keep their 32 places
-- (`sized`). Assumes nothing.
use Prim.Native.Nat.{ℕ, zero, suc, ◌^◌, ◌≤◌, ◌<◌}
use native.Mathlib.Omega.{arith}
use mathlib.Core.Bool.{Bool, true, false, ◌&&◌, ◌||◌, false≢true}
use mathlib.Core.List.{List}
use mathlib.Core.Path.{◌≡◌, refl, sym, subst, ◌∙◌}
use borrow.Author.Tests.{eqb-true, eqb-false}
use lib.Dec.{eqb}
use lib.ListN.{get_or, set, replicate, length-set, length-replicate}
use lib.Seq.{get_or-set_same, get_or-set_other}
use Rattle.message.specs.Limits.{most_blocks, last_view}
use Rattle.message.specs.Message.{count_in}
use Rattle.message.proofs.TestLaws.{either}
use Rattle.agreement.specs.Limits.{most_senders}
use Rattle.agreement.specs.Sets.{member, adding, removing}
use Rattle.agreement.specs.Record.{empty_agreement, is_voter, is_equivocator, with_first, with_second, SnapshotNumber, one, two, with_snapshot}
use Rattle.agreement.specs.Record.{Agreement}
use Rattle.agreement.specs.Filing.{file_of}
use Rattle.agreement.proofs.FilingLaws.{few_blocks}
use Rattle.agreement.proofs.KeptLaws.{file_cases}
use Rattle.agreement.proofs.MaskLaws.{member_zero, adding_lt, adding_same, adding_other, removing_lt, removing_same, removing_other}
use Rattle.bench.proofs.Valid.{ValidSender, ValidAgreement, nothing_valid}

-- ---- nothing filed

pub get_d_all : {A : Type 0} (m i : ℕ) (a : A) → get_or (replicate m a) i a ≡ a
get_d_all zero i a = refl
get_d_all (suc m) zero a = refl
get_d_all (suc m) (suc i) a = get_d_all m i a

-- the empty set names no sender beyond
pub nobody : 0 < 2 ^ most_senders
nobody = omega arith

pub empty_valid : (n v : ℕ) → v ≤ last_view → ValidAgreement n (empty_agreement v)
empty_valid n v h = record {
  view = h;
  sender = λ i. nothing_valid n i _ _ _ _ _ (get_d_all most_senders i 0) (member_zero i) (member_zero i) (member_zero i) (member_zero i);
  sized = record {
    filed = record { lengths = length-replicate {A = ℕ} most_senders 0; voters = nobody; equivocators = nobody };
    one = nobody;
    two = nobody;
  };
}

-- ---- cases

-- place i, and every other
pub at_place : (P : ℕ → Type 0) (i j : ℕ) → P i → ((j ≡ i → ⊥) → P j) → P j
at_place P i j here else = either (eqb j i) (λ t. subst P (sym (eqb-true j i t)) here) (λ t. else (eqb-false j i t))

or_left : (a b : Bool) → a ≡ true → (a || b) ≡ true
or_left true b e = refl
or_left false b e = absurd (false≢true e)

-- ---- changes of an agreement

-- a sender of one log
voter_valid : (n i k : ℕ) (e one two : Bool) → i < n → k ≤ most_blocks → e ≡ false → ValidSender n i k true e one two
voter_valid n i k e a b h l q = record {
  short = l;
  no_voter = λ x. absurd (omega arith);
  no_equivocator = λ x. q;
  not_in_one = λ x. absurd (omega arith);
  not_in_two = λ x. absurd (omega arith);
  apart = λ x. q;
  one_heard = λ x. refl;
  two_heard = λ x. refl;
}

-- a sender of two
equivocator_valid : (n i k : ℕ) (one two : Bool) → i < n → k ≤ most_blocks → ValidSender n i k false true one two
equivocator_valid n i k a b h l = record {
  short = l;
  no_voter = λ x. refl;
  no_equivocator = λ x. absurd (omega arith);
  not_in_one = λ x. absurd (omega arith);
  not_in_two = λ x. absurd (omega arith);
  apart = λ x. absurd (false≢true x);
  one_heard = λ x. refl;
  two_heard = λ x. refl;
}

module _ (n : ℕ) (g : Agreement) (f : ValidAgreement n g) where
  pub not_both : (i : ℕ) → (is_voter g i && is_equivocator g i) ≡ false
  not_both i = either (is_voter g i) (λ t. rw (t, (f.sender i).apart t)) (λ t. rw t)

  module _ (i : ℕ) (room : i < most_senders) (here : i < n) where
    -- sender i's first log, where it is no equivocator
    module _ (k : ℕ) (few : k ≤ most_blocks) (e : is_equivocator g i ≡ false) where
      abbrev FirstAt : ℕ → Type 0
      FirstAt j =
          ValidSender n j (get_or (set g.lengths i k) j 0) (member (adding g.marks.voters i) j) (is_equivocator g j)
          (member g.marks.one.senders j) (member g.marks.two.senders j)

      first_here : FirstAt i
      first_here =
          rw (
            get_or-set_same g.lengths i k 0 (omega (arith, f.sized.filed.lengths)),
            adding_same g.marks.voters i,
          ) (voter_valid n i k (is_equivocator g i) (member g.marks.one.senders i) (member g.marks.two.senders i) here few e)

      first_else : (j : ℕ) → (j ≡ i → ⊥) → FirstAt j
      first_else j d = rw (get_or-set_other g.lengths i j k 0 d, adding_other g.marks.voters i j d) (f.sender j)

      first_valid : ValidAgreement n (with_first g i k)
      first_valid = record {
        view = f.view;
        sender = λ j. at_place FirstAt i j first_here (first_else j);
        sized = record {
          filed = record {
            lengths = length-set g.lengths i k ∙ f.sized.filed.lengths;
            voters = adding_lt g.marks.voters i most_senders f.sized.filed.voters room;
            equivocators = f.sized.filed.equivocators;
          };
          one = f.sized.one;
          two = f.sized.two;
        };
      }

    -- sender i's second log
    abbrev SecondAt : ℕ → Type 0
    SecondAt j =
        ValidSender n j (get_or g.lengths j 0) (member (removing g.marks.voters i) j) (member (adding g.marks.equivocators i) j)
        (member g.marks.one.senders j) (member g.marks.two.senders j)

    second_here : SecondAt i
    second_here =
        rw (
          removing_same g.marks.voters i,
          adding_same g.marks.equivocators i,
        ) (equivocator_valid n i (get_or g.lengths i 0) (member g.marks.one.senders i) (member g.marks.two.senders i) here
        (f.sender i).short)

    second_else : (j : ℕ) → (j ≡ i → ⊥) → SecondAt j
    second_else j d = rw (removing_other g.marks.voters i j d, adding_other g.marks.equivocators i j d) (f.sender j)

    second_valid : ValidAgreement n (with_second g i)
    second_valid = record {
      view = f.view;
      sender = λ j. at_place SecondAt i j second_here (second_else j);
      sized = record {
        filed = record {
          lengths = f.sized.filed.lengths;
          voters = removing_lt g.marks.voters i most_senders f.sized.filed.voters;
          equivocators = adding_lt g.marks.equivocators i most_senders f.sized.filed.equivocators room;
        };
        one = f.sized.one;
        two = f.sized.two;
      };
    }

  -- a snapshot
  pub snapshot_valid : (k : SnapshotNumber) → ValidAgreement n (with_snapshot k g)
  snapshot_valid one = record {
    view = f.view;
    sender = λ i. record {
      short = (f.sender i).short;
      no_voter = (f.sender i).no_voter;
      no_equivocator = (f.sender i).no_equivocator;
      not_in_one = (f.sender i).no_voter;
      not_in_two = (f.sender i).not_in_two;
      apart = (f.sender i).apart;
      one_heard = or_left (is_voter g i) (is_equivocator g i);
      two_heard = (f.sender i).two_heard;
    };
    sized = record {
      filed = record { lengths = f.sized.filed.lengths; voters = f.sized.filed.voters; equivocators = f.sized.filed.equivocators };
      one = f.sized.filed.voters;
      two = f.sized.two;
    };
  }
  snapshot_valid two = record {
    view = f.view;
    sender = λ i. record {
      short = (f.sender i).short;
      no_voter = (f.sender i).no_voter;
      no_equivocator = (f.sender i).no_equivocator;
      not_in_one = (f.sender i).not_in_one;
      not_in_two = (f.sender i).no_voter;
      apart = (f.sender i).apart;
      one_heard = (f.sender i).one_heard;
      two_heard = or_left (is_voter g i) (is_equivocator g i);
    };
    sized = record {
      filed = record { lengths = f.sized.filed.lengths; voters = f.sized.filed.voters; equivocators = f.sized.filed.equivocators };
      one = f.sized.one;
      two = f.sized.filed.voters;
    };
  }

  -- filing a LOG from sender i, whatever the bytes: what holds no log is not filed
  pub file_valid : (names counts : List ℕ) (base : ℕ) (s : List ℕ) (i : ℕ) → i < n
      → ValidAgreement n (file_of g names counts base s i).agreement
  file_valid names counts base s i here =
      file_cases g names counts base s i (ValidAgreement n) f
      (λ q. second_valid i q.few here)
      (λ q e. first_valid i q.few here (count_in s) (few_blocks names counts base s i q) e)
