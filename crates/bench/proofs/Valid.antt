-- What a record within its limits keeps to, as facts; and that refusal 9's test fails exactly where they hold. Assumes nothing.
use Prim.Native.Nat.{ℕ, ◌+◌, ◌^◌, ◌≤◌, ◌<◌}
use native.Mathlib.Decide.{dec_le}
use native.Mathlib.Omega.{arith}
use mathlib.Core.Bool.{Bool, true, false, not, ◌&&◌, ◌||◌, false≢true}
use mathlib.Core.List.{List}
use mathlib.Core.Path.{◌≡◌, refl, sym, ◌∙◌}
use borrow.Author.Tests.{eqb-false, ltb-false, leb-false, ne_eqb, le-ltb, lt-leb, le-leb, leb-true, ltb-true, not-false}
use lib.Dec.{eqb, leb, ltb}
use lib.ListN.{length, get_or, get_or-eq_default}
use Rattle.message.specs.Limits.{most_blocks, last_view}
use Rattle.message.proofs.TestLaws.{either, or_false}
use Rattle.agreement.specs.Limits.{most_senders}
use Rattle.agreement.specs.Sets.{count, member}
use Rattle.agreement.specs.Record.{is_voter, is_equivocator, is_sender, Agreement}
use Rattle.agreement.specs.Kept.{Sized, SizedProposals}
use Rattle.agreement.specs.Proposals.{Proposals}
use Rattle.agreement.proofs.SetLaws.{Meet, weigh_some, weigh_none}
use Rattle.agreement.proofs.MaskLaws.{member_past}
use Rattle.bench.specs.Layout.{out_of_range}
use Rattle.bench.specs.Calendar.{last_beat}
use Rattle.bench.specs.Record.{any_place, names_beyond, in_both, unheard_of, too_long, bad_sender, beyond_agreement, bad_proposer}
use Rattle.bench.specs.Record.{beyond_proposals, beyond, Bench}

-- ---- the arrays have a place for each of 32 senders, and the sets name none beyond, as the code's types say

pub record SizedAgreement (g : Agreement) : Type 0 where
  pub filed : Sized g
  pub one : g.marks.one.senders < 2 ^ most_senders
  pub two : g.marks.two.senders < 2 ^ most_senders

pub record SizedBench (b : Bench) : Type 0 where
  pub even : SizedAgreement b.even
  pub odd : SizedAgreement b.odd
  pub proposals : SizedProposals b.proposals

-- ---- the facts

-- Place i of an agreement of n benches: its length, and whether the sender is in V, in E, in snapshot one, in snapshot two.
pub record ValidSender (n i blocks : ℕ) (v e one two : Bool) : Type 0 where
  pub short : blocks ≤ most_blocks
  pub no_voter : n ≤ i → v ≡ false
  pub no_equivocator : n ≤ i → e ≡ false
  pub not_in_one : n ≤ i → one ≡ false
  pub not_in_two : n ≤ i → two ≡ false
  pub apart : v ≡ true → e ≡ false
  pub one_heard : one ≡ true → (v || e) ≡ true
  pub two_heard : two ≡ true → (v || e) ≡ true

-- Past the arrays' ends a length reads as 0 and a set as empty, so the facts hold at every number.
pub record ValidAgreement (n : ℕ) (g : Agreement) : Type 0 where
  pub view : g.marks.view ≤ last_view
  pub sender : (i : ℕ) → ValidSender n i (get_or g.lengths i 0) (is_voter g i) (is_equivocator g i) (member g.marks.one.senders i)
      (member g.marks.two.senders i)
  pub sized : SizedAgreement g

-- Place i of the proposals: its length, and whether there is one, and whether it is set aside.
pub record ValidProposer (n i blocks : ℕ) (filed aside : Bool) : Type 0 where
  pub short : blocks ≤ most_blocks
  pub not_filed : n ≤ i → filed ≡ false
  pub not_aside : n ≤ i → aside ≡ false

pub record ValidProposals (n : ℕ) (g : Proposals) : Type 0 where
  pub view : g.marks.view ≤ last_view
  pub proposer : (i : ℕ) → ValidProposer n i (get_or g.lengths i 0) (member g.marks.filed i) (member g.marks.aside i)
  pub sized : SizedProposals g

pub record Valid (b : Bench) : Type 0 where
  pub some : 1 ≤ b.n
  pub few : b.n ≤ most_senders
  pub own : b.own < b.n
  pub next : b.next ≤ last_beat + 1
  pub decided : b.decided ≤ most_blocks
  pub even : ValidAgreement b.n b.even
  pub odd : ValidAgreement b.n b.odd
  pub proposals : ValidProposals b.n b.proposals

-- ---- tests of two parts

and_off : (a b : Bool) → (a && b) ≡ false → a ≡ true → b ≡ false
and_off true b e h = e
and_off false b e h = absurd (false≢true h)

off_and : (a b : Bool) → (a ≡ true → b ≡ false) → (a && b) ≡ false
off_and true b h = h refl
off_and false b h = refl

off_or : (a b : Bool) → a ≡ false → b ≡ false → (a || b) ≡ false
off_or true b e f = absurd (false≢true (sym e))
off_or false b e f = f

not_off : (a : Bool) → a ≡ true → not a ≡ false
not_off true e = refl
not_off false e = absurd (false≢true e)

-- a test that holds where it does not
neither : {A : Type 0} {t : Bool} → t ≡ true → t ≡ false → A
neither e f = absurd (false≢true (sym f ∙ e))

-- ---- a test of all 32 places

pub no_place : (p : ℕ → Bool) → any_place p ≡ false → (i : ℕ) → i < most_senders → p i ≡ false
unfolding any_place
no_place p e i h = let z = ltb-false 0 (count most_senders p) e in weigh_none most_senders p i (omega arith) h

none_placed : (p : ℕ → Bool) → ((i : ℕ) → i < most_senders → p i ≡ false) → any_place p ≡ false
unfolding any_place
none_placed p h =
    either (ltb 0 (count most_senders p))
    (λ t. let m : Meet most_senders p p = weigh_some most_senders (λ i. 1) p (ltb-true 0 (count most_senders p) t) in
    neither m.left (h m.sender m.below))
    (λ t. t)

-- ---- one sender

module _ (n i : ℕ) where
  below : (b : Bool) → (leb n i && b) ≡ false → n ≤ i → b ≡ false
  below b e h = and_off (leb n i) b e (le-leb n i h)

  named : (b : Bool) → (n ≤ i → b ≡ false) → (leb n i && b) ≡ false
  named b h = off_and (leb n i) b (λ t. h (leb-true n i t))

  heard : (b s : Bool) → (b && not s) ≡ false → b ≡ true → s ≡ true
  heard b s e h = not-false s (and_off b (not s) e h)

  unheard : (b s : Bool) → (b ≡ true → s ≡ true) → (b && not s) ≡ false
  unheard b s h = off_and b (not s) (λ t. not_off s (h t))

  valid_sender : (g : Agreement) → bad_sender n g i ≡ false
      → ValidSender n i (get_or g.lengths i 0) (is_voter g i) (is_equivocator g i) (member g.marks.one.senders i)
      (member g.marks.two.senders i)
  valid_sender g e =
      let a = or_false (too_long g.lengths i) _ e in
      let b = or_false (names_beyond n g.marks.voters i) _ a.1 in
      let c = or_false (names_beyond n g.marks.equivocators i) _ b.1 in
      let d = or_false (names_beyond n g.marks.one.senders i) _ c.1 in
      let f = or_false (names_beyond n g.marks.two.senders i) _ d.1 in
      let h = or_false (in_both g i) _ f.1 in
      let k = or_false (unheard_of g g.marks.one.senders i) _ h.1 in
      record {
        short = ltb-false most_blocks (get_or g.lengths i 0) a.0;
        no_voter = below (is_voter g i) b.0;
        no_equivocator = below (is_equivocator g i) c.0;
        not_in_one = below (member g.marks.one.senders i) d.0;
        not_in_two = below (member g.marks.two.senders i) f.0;
        apart = and_off (is_voter g i) (is_equivocator g i) h.0;
        one_heard = heard (member g.marks.one.senders i) (is_sender g i) k.0;
        two_heard = heard (member g.marks.two.senders i) (is_sender g i) k.1;
      }

  not_bad : (g : Agreement)
      → ValidSender n i (get_or g.lengths i 0) (is_voter g i) (is_equivocator g i) (member g.marks.one.senders i)
      (member g.marks.two.senders i)
      → bad_sender n g i ≡ false
  not_bad g f =
      off_or (too_long g.lengths i) _ (le-ltb most_blocks (get_or g.lengths i 0) f.short)
      (off_or (names_beyond n g.marks.voters i) _ (named (is_voter g i) f.no_voter)
      (off_or (names_beyond n g.marks.equivocators i) _ (named (is_equivocator g i) f.no_equivocator)
      (off_or (names_beyond n g.marks.one.senders i) _ (named (member g.marks.one.senders i) f.not_in_one)
      (off_or (names_beyond n g.marks.two.senders i) _ (named (member g.marks.two.senders i) f.not_in_two)
      (off_or (in_both g i) _ (off_and (is_voter g i) (is_equivocator g i) f.apart)
      (off_or (unheard_of g g.marks.one.senders i) _ (unheard (member g.marks.one.senders i) (is_sender g i) f.one_heard)
      (unheard (member g.marks.two.senders i) (is_sender g i) f.two_heard)))))))

-- ---- one agreement, and the proposals

-- past an array's end
past : {A : Type 0} (l : List A) (i : ℕ) (d : A) → length l ≡ most_senders → most_senders ≤ i → get_or l i d ≡ d
past l i d e h = get_or-eq_default l d (omega arith)

-- a place where nothing is filed
pub nothing_valid : (n i blocks : ℕ) (v e one two : Bool) → blocks ≡ 0 → v ≡ false → e ≡ false → one ≡ false → two ≡ false
    → ValidSender n i blocks v e one two
nothing_valid n i blocks v e one two k p q r s = record {
  short = omega arith;
  no_voter = λ h. p;
  no_equivocator = λ h. q;
  not_in_one = λ h. r;
  not_in_two = λ h. s;
  apart = λ t. q;
  one_heard = λ t. neither t r;
  two_heard = λ t. neither t s;
}

pub unfiled_valid : (n i blocks : ℕ) (filed aside : Bool) → blocks ≡ 0 → filed ≡ false → aside ≡ false
    → ValidProposer n i blocks filed aside
unfiled_valid n i blocks filed aside k p q = record { short = omega arith; not_filed = λ h. p; not_aside = λ h. q }

module _ (n : ℕ) (g : Agreement) where
  valid_agreement : beyond_agreement n g ≡ false → SizedAgreement g → ValidAgreement n g
  unfolding beyond_agreement
  valid_agreement e z =
      let a = or_false (ltb last_view g.marks.view) (any_place (bad_sender n g)) e in
      record {
        view = ltb-false last_view g.marks.view a.0;
        sender = λ i. elim (dec_le most_senders i) [
          | yes h ↦ nothing_valid n i _ _ _ _ _
              (past g.lengths i 0 z.filed.lengths h) (member_past g.marks.voters most_senders i z.filed.voters h)
              (member_past g.marks.equivocators most_senders i z.filed.equivocators h)
              (member_past g.marks.one.senders most_senders i z.one h)
              (member_past g.marks.two.senders most_senders i z.two h)
          | no h ↦ valid_sender n i g (no_place (bad_sender n g) a.1 i (omega arith))
        ];
        sized = z;
      }

  agreement_not_beyond : ValidAgreement n g → beyond_agreement n g ≡ false
  unfolding beyond_agreement
  agreement_not_beyond f =
      off_or (ltb last_view g.marks.view) _ (le-ltb last_view g.marks.view f.view)
      (none_placed (bad_sender n g) (λ i h. not_bad n i g (f.sender i)))

module _ (n : ℕ) (g : Proposals) where
  valid_proposer : (i : ℕ) → bad_proposer n g i ≡ false
      → ValidProposer n i (get_or g.lengths i 0) (member g.marks.filed i) (member g.marks.aside i)
  valid_proposer i e =
      let a = or_false (too_long g.lengths i) _ e in
      let b = or_false (names_beyond n g.marks.filed i) (names_beyond n g.marks.aside i) a.1 in
      record {
        short = ltb-false most_blocks (get_or g.lengths i 0) a.0;
        not_filed = below n i (member g.marks.filed i) b.0;
        not_aside = below n i (member g.marks.aside i) b.1;
      }

  proposer_not_bad : (i : ℕ) → ValidProposer n i (get_or g.lengths i 0) (member g.marks.filed i) (member g.marks.aside i)
      → bad_proposer n g i ≡ false
  proposer_not_bad i f =
      off_or (too_long g.lengths i) _ (le-ltb most_blocks (get_or g.lengths i 0) f.short)
      (off_or (names_beyond n g.marks.filed i) _ (named n i (member g.marks.filed i) f.not_filed)
      (named n i (member g.marks.aside i) f.not_aside))

  valid_proposals : beyond_proposals n g ≡ false → SizedProposals g → ValidProposals n g
  unfolding beyond_proposals
  valid_proposals e z =
      let a = or_false (ltb last_view g.marks.view) (any_place (bad_proposer n g)) e in
      record {
        view = ltb-false last_view g.marks.view a.0;
        proposer = λ i. elim (dec_le most_senders i) [
          | yes h ↦ unfiled_valid n i _ _ _ (past g.lengths i 0 z.lengths h)
              (member_past g.marks.filed most_senders i z.filed h) (member_past g.marks.aside most_senders i z.aside h)
          | no h ↦ valid_proposer i (no_place (bad_proposer n g) a.1 i (omega arith))
        ];
        sized = z;
      }

  proposals_not_beyond : ValidProposals n g → beyond_proposals n g ≡ false
  unfolding beyond_proposals
  proposals_not_beyond f =
      off_or (ltb last_view g.marks.view) _ (le-ltb last_view g.marks.view f.view)
      (none_placed (bad_proposer n g) (λ i h. proposer_not_bad i (f.proposer i)))

-- ---- the record

-- n and own number are in range
pub in_range : (n own : ℕ) → out_of_range n own ≡ false → (1 ≤ n) × (n ≤ most_senders) × (own < n)
in_range n own e =
    let a = or_false (eqb n 0) _ e in
    let b = or_false (ltb most_senders n) (leb n own) a.1 in
    let c = eqb-false n 0 a.0 in
    (omega arith, ltb-false most_senders n b.0, leb-false n own b.1)

of_range : (n own : ℕ) → 1 ≤ n → n ≤ most_senders → own < n → out_of_range n own ≡ false
of_range n own a b c =
    off_or (eqb n 0) _ (ne_eqb n 0 (λ e. omega arith)) (off_or (ltb most_senders n) _ (le-ltb most_senders n b) (lt-leb n own c))

-- What is not beyond its limits is valid, ..
pub valid : (b : Bench) → beyond b ≡ false → SizedBench b → Valid b
unfolding beyond
valid b e z =
    let a = or_false (out_of_range b.n b.own) _ e in
    let c = or_false (ltb (last_beat + 1) b.next) _ a.1 in
    let d = or_false (ltb most_blocks b.decided) _ c.1 in
    let f = or_false (beyond_agreement b.n b.even) _ d.1 in
    let h = or_false (beyond_agreement b.n b.odd) (beyond_proposals b.n b.proposals) f.1 in
    let r = in_range b.n b.own a.0 in
    record {
      some = r.0;
      few = r.1;
      own = r.2;
      next = ltb-false (last_beat + 1) b.next c.0;
      decided = ltb-false most_blocks b.decided d.0;
      even = valid_agreement b.n b.even f.0 z.even;
      odd = valid_agreement b.n b.odd h.0 z.odd;
      proposals = valid_proposals b.n b.proposals h.1 z.proposals;
    }

-- .. and what is valid is not beyond its limits.
pub not_beyond : (b : Bench) → Valid b → beyond b ≡ false
unfolding beyond
not_beyond b f =
    off_or (out_of_range b.n b.own) _ (of_range b.n b.own f.some f.few f.own)
    (off_or (ltb (last_beat + 1) b.next) _ (le-ltb (last_beat + 1) b.next f.next)
    (off_or (ltb most_blocks b.decided) _ (le-ltb most_blocks b.decided f.decided)
    (off_or (beyond_agreement b.n b.even) _ (agreement_not_beyond b.n b.even f.even)
    (off_or (beyond_agreement b.n b.odd) _ (agreement_not_beyond b.n b.odd f.odd)
    (proposals_not_beyond b.n b.proposals f.proposals)))))
