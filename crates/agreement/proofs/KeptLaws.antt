-- Filing is the one rule of Kept: the answer is the rule's, what is kept of the sender is the rule's, and of every other sender what it
-- was. Assumes nothing.
use Prim.Native.Nat.{ℕ, ◌≤◌}
use native.Mathlib.Decide.{dec_le}
use native.Mathlib.Omega.{arith}
use mathlib.Core.Bool.{Bool, true, false, ◌&&◌, ◌||◌, false≢true}
use mathlib.Core.List.{List}
use mathlib.Core.Path.{◌≡◌, refl, sym, ap, ◌∙◌}
use lib.Dec.{eqb}
use lib.ListN.{length, get_or}
use lib.Seq.{get_or-set_same, get_or-set_other}
use Rattle.message.specs.Limits.{most_blocks}
use Rattle.message.specs.Choice.{pick}
use Rattle.message.specs.Numbers.{put}
use Rattle.message.specs.Logs.{same_log, names_of, counts_of}
use Rattle.message.specs.Message.{count_in, log_in}
use Rattle.message.specs.Store.{log_at}
use Rattle.message.proofs.TestLaws.{either, or_false}
use Rattle.message.proofs.Acceptance.{length_blocks}
use Rattle.message.proofs.ListedLaws.{length_at_lem, log_stored, log_before, log_past}
use Rattle.agreement.specs.Limits.{place_of}
use Rattle.agreement.specs.Sets.{member}
use Rattle.agreement.specs.Record.{Agreement, is_voter, is_equivocator, is_sender, filed_log, with_first, with_second, SnapshotNumber, one}
use Rattle.agreement.specs.Record.{two, with_snapshot}
use Rattle.agreement.specs.Filing.{unfit, file_of, Fit}
use Rattle.agreement.specs.Proposals.{Proposals, with_proposal, with_aside, file_proposal_of}
use Rattle.agreement.specs.Kept.{Kept, nothing, only, differing, Sized, SizedProposals, SameRest, heard_of, single_of, word_on, keep}
use Rattle.agreement.specs.Kept.{kept_log, Proposed, same_proposal, kept_proposal}
use Rattle.agreement.proofs.MaskLaws.{adding_same, adding_other, removing_other}
use Rattle.agreement.proofs.FilingLaws.{fit, fit_not_unfit, few_blocks}

-- two differed of whoever is in E
pub kept_equivocator : (names counts : List ℕ) (base : ℕ) (g : Agreement) (i : ℕ) → is_equivocator g i ≡ true
    → kept_log names counts base g i ≡ differing
unfolding kept_log
kept_equivocator names counts base g i e = rw e

-- by what was found: two differed before; there is one, and this is the same, or another; there is none
pub cases : (A : Type 0) (q v e : Bool) → (q ≡ true → A) → (q ≡ false → v ≡ true → e ≡ true → A) → (q ≡ false → v ≡ true → e ≡ false → A)
    → (q ≡ false → v ≡ false → A) → A
cases A q v e f g h k = either q f (λ a. either v (λ b. either e (g a b) (h a b)) (k a))

-- ---- the list places

module _ (names counts : List ℕ) (base : ℕ) (s : List ℕ) (i : ℕ) (f : Fit names counts base s i) where
  -- the log in the bytes, read back where it was filed
  filed_back : log_at (put names (place_of base i) (names_of (log_in s))) (put counts (place_of base i) (counts_of (log_in s))) (place_of base i)
      (count_in s) ≡ log_in s
  filed_back =
      let e = length_blocks s (count_in s) in
      let n = f.in_names in
      let m = f.in_counts in
      let h = f.few in
      let k = few_blocks names counts base s i f in
      ap (log_at (put names (place_of base i) (names_of (log_in s))) (put counts (place_of base i) (counts_of (log_in s))) (place_of base i))
      (sym e)
      ∙ log_stored names counts (place_of base i) (log_in s) (omega arith) (omega arith)

  -- another sender's log stays
  filed_apart : (j k : ℕ) → (j ≡ i → ⊥) → k ≤ most_blocks
      → log_at (put names (place_of base i) (names_of (log_in s))) (put counts (place_of base i) (counts_of (log_in s)))
      (place_of base j) k ≡ log_at names counts (place_of base j) k
  filed_apart j k d h =
      let e = length_blocks s (count_in s) in
      let b = few_blocks names counts base s i f in
      elim (dec_le i j) [
        | yes l ↦ log_past names counts (place_of base i) (log_in s) (place_of base j) k (omega arith)
        | no l ↦ log_before names counts (place_of base i) (log_in s) (place_of base j) k (omega arith)
      ]

module _ (g : Agreement) (names counts : List ℕ) (base : ℕ) (s : List ℕ) (i : ℕ) (f : Fit names counts base s i) where
  cases3 : (A : Type 0) → (is_equivocator g i ≡ true → A)
      → (is_equivocator g i ≡ false → is_voter g i ≡ true → same_log (log_in s) (filed_log names counts base g.lengths i) ≡ true → A)
      → (is_equivocator g i ≡ false → is_voter g i ≡ true → same_log (log_in s) (filed_log names counts base g.lengths i) ≡ false → A)
      → (is_equivocator g i ≡ false → is_voter g i ≡ false → A) → A
  cases3 A = cases A (is_equivocator g i) (is_voter g i) (same_log (log_in s) (filed_log names counts base g.lengths i))

  fits : unfit names counts base s i ≡ false
  fits = fit_not_unfit names counts base s i f

  -- the answer is the rule's
  pub file_word : (file_of g names counts base s i).word ≡ word_on same_log (kept_log names counts base g i) (log_in s)
  unfolding file_of word_on kept_log
  file_word =
      cases3 ((file_of g names counts base s i).word ≡ word_on same_log (kept_log names counts base g i) (log_in s))
      (λ q. rw (fits, q) refl) (λ q v e. rw (fits, q, v, e) refl) (λ q v e. rw (fits, q, v, e) refl) (λ q v. rw (fits, q, v) refl)

  -- what is kept of the sender is the rule's
  pub file_kept : Sized g
      → kept_log (file_of g names counts base s i).names (file_of g names counts base s i).counts base
      (file_of g names counts base s i).agreement i
      ≡ keep same_log (kept_log names counts base g i) (log_in s)
  unfolding file_of keep kept_log
  file_kept z =
      cases3
      (kept_log (file_of g names counts base s i).names (file_of g names counts base s i).counts base
      (file_of g names counts base s i).agreement i
      ≡ keep same_log (kept_log names counts base g i) (log_in s))
      (λ q. rw (fits, q) (rw q refl))
      (λ q v e. rw (fits, q, v, e) (rw (q, v) refl))
      (λ q v e. rw (fits, q, v, e) (rw (adding_same g.marks.equivocators i) refl))
      (λ q v. rw (fits, q, v) (rw (
        q,
        adding_same g.marks.voters i,
        get_or-set_same g.lengths i (count_in s) 0 (omega (arith, f.few, z.lengths)),
        filed_back names counts base s i f,
      ) refl))

  -- what is kept of another sender stays
  pub file_apart : (j : ℕ) → (j ≡ i → ⊥) → get_or g.lengths j 0 ≤ most_blocks
      → kept_log (file_of g names counts base s i).names (file_of g names counts base s i).counts base
      (file_of g names counts base s i).agreement j
      ≡ kept_log names counts base g j
  unfolding file_of kept_log
  file_apart j d h =
      cases3
      (kept_log (file_of g names counts base s i).names (file_of g names counts base s i).counts base
      (file_of g names counts base s i).agreement j
      ≡ kept_log names counts base g j)
      (λ q. rw (fits, q) refl)
      (λ q v e. rw (fits, q, v, e) refl)
      (λ q v e. rw (fits, q, v, e, adding_other g.marks.equivocators i j d, removing_other g.marks.voters i j d) refl)
      (λ q v. rw (
        fits,
        q,
        v,
        adding_other g.marks.voters i j d,
        get_or-set_other g.lengths i j (count_in s) 0 d,
        filed_apart names counts base s i f j (get_or g.lengths j 0) d h,
      ) refl)

-- Whatever was handed in, filing leaves the record as it was, or with one more LOG that fits: another of the sender, or its first.
module _ (g : Agreement) (names counts : List ℕ) (base : ℕ) (s : List ℕ) (i : ℕ) where
  pub file_cases : (P : Agreement → Type 0) → P g → (Fit names counts base s i → P (with_second g i))
      → (Fit names counts base s i → is_equivocator g i ≡ false → P (with_first g i (count_in s)))
      → P (file_of g names counts base s i).agreement
  unfolding file_of
  file_cases P old another new =
      cases (P (file_of g names counts base s i).agreement)
      (unfit names counts base s i || is_equivocator g i) (is_voter g i) (same_log (log_in s) (filed_log names counts base g.lengths i))
      (λ q. rw q old)
      (λ q v e. rw (q, v, e) old)
      (λ q v e. rw (q, v, e) (another (fit names counts base s i (both q).0)))
      (λ q v. rw (q, v) (new (fit names counts base s i (both q).0) (both q).1))
    where
      both : (unfit names counts base s i || is_equivocator g i) ≡ false
          → (unfit names counts base s i ≡ false) × (is_equivocator g i ≡ false)
      both q = or_false (unfit names counts base s i) (is_equivocator g i) q

-- filing changes nothing else of the record, whatever was handed in
pub file_rest : (g : Agreement) (names counts : List ℕ) (base : ℕ) (s : List ℕ) (i : ℕ)
    → SameRest g (file_of g names counts base s i).agreement
file_rest g names counts base s i =
    file_cases g names counts base s i (SameRest g)
    (record { view = refl; one = refl; two = refl })
    (λ f. record { view = refl; one = refl; two = refl })
    (λ f e. record { view = refl; one = refl; two = refl })

-- ---- what a grade reads, by what is kept

module _ (names counts : List ℕ) (base : ℕ) (g : Agreement) (i : ℕ) where
  pub kept_sender : is_sender g i ≡ heard_of (kept_log names counts base g i)
  unfolding kept_log
  kept_sender = go (is_voter g i) (is_equivocator g i)
    where
      go : (v e : Bool) → (v || e) ≡ heard_of (pick e differing (pick v (only (filed_log names counts base g.lengths i)) nothing))
      go true true = refl
      go true false = refl
      go false true = refl
      go false false = refl

  -- in fits record within its limits is a sender in both V and E
  module _ (apart : (is_voter g i && is_equivocator g i) ≡ false) where
    pub kept_voter : is_voter g i ≡ single_of (kept_log names counts base g i)
    unfolding kept_log
    kept_voter = go (is_voter g i) (is_equivocator g i) apart
      where
        go : (v e : Bool) → (v && e) ≡ false
            → v ≡ single_of (pick e differing (pick v (only (filed_log names counts base g.lengths i)) nothing))
        go true true a = a
        go true false a = refl
        go false true a = refl
        go false false a = refl

    pub kept_only : is_voter g i ≡ true → kept_log names counts base g i ≡ only (filed_log names counts base g.lengths i)
    unfolding kept_log
    kept_only v = either (is_equivocator g i) (λ e. absurd (false≢true (sym apart ∙ rw (v, e) refl))) (λ e. rw (e, v) refl)

-- a snapshot leaves what is kept
pub kept_snapshot : (k : SnapshotNumber) (names counts : List ℕ) (base : ℕ) (g : Agreement) (i : ℕ)
    → kept_log names counts base (with_snapshot k g) i ≡ kept_log names counts base g i
unfolding kept_log
kept_snapshot one names counts base g i = refl
kept_snapshot two names counts base g i = refl

-- ---- the same of proposals

module _ (g : Proposals) (names counts : List ℕ) (base : ℕ) (s : List ℕ) (i priority : ℕ) (f : Fit names counts base s i) where
  -- the proposal in the bytes
  abbrev sent : Proposed
  sent = record { log = log_in s; priority = priority }

  -- as it is filed already
  abbrev same : Bool
  same = same_log (log_in s) (filed_log names counts base g.lengths i) && eqb priority (get_or g.priorities i 0)

  found : (A : Type 0) → (member g.marks.aside i ≡ true → A)
      → (member g.marks.aside i ≡ false → member g.marks.filed i ≡ true → same ≡ true → A)
      → (member g.marks.aside i ≡ false → member g.marks.filed i ≡ true → same ≡ false → A)
      → (member g.marks.aside i ≡ false → member g.marks.filed i ≡ false → A) → A
  found A = cases A (member g.marks.aside i) (member g.marks.filed i) same

  fine : unfit names counts base s i ≡ false
  fine = fit_not_unfit names counts base s i f

  pub proposal_word : (file_proposal_of g names counts base s i priority).word ≡ word_on same_proposal (kept_proposal names counts base g i) sent
  unfolding file_proposal_of word_on kept_proposal
  proposal_word =
      found ((file_proposal_of g names counts base s i priority).word ≡ word_on same_proposal (kept_proposal names counts base g i) sent)
      (λ q. rw (fine, q) refl) (λ q v e. rw (fine, q, v, e) refl) (λ q v e. rw (fine, q, v, e) refl) (λ q v. rw (fine, q, v) refl)

  pub proposal_kept : SizedProposals g
      → kept_proposal (file_proposal_of g names counts base s i priority).names (file_proposal_of g names counts base s i priority).counts base
      (file_proposal_of g names counts base s i priority).proposals i
      ≡ keep same_proposal (kept_proposal names counts base g i) sent
  unfolding file_proposal_of keep kept_proposal
  proposal_kept z =
      found
      (kept_proposal (file_proposal_of g names counts base s i priority).names (file_proposal_of g names counts base s i priority).counts base
      (file_proposal_of g names counts base s i priority).proposals i
      ≡ keep same_proposal (kept_proposal names counts base g i) sent)
      (λ q. rw (fine, q) (rw q refl))
      (λ q v e. rw (fine, q, v, e) (rw (q, v) refl))
      (λ q v e. rw (fine, q, v, e) (rw (adding_same g.marks.aside i) refl))
      (λ q v. rw (fine, q, v) (rw (
        q,
        adding_same g.marks.filed i,
        get_or-set_same g.lengths i (count_in s) 0 (omega (arith, f.few, z.lengths)),
        get_or-set_same g.priorities i priority 0 (omega (arith, f.few, z.priorities)),
        filed_back names counts base s i f,
      ) refl))

  pub proposal_apart : (j : ℕ) → (j ≡ i → ⊥) → get_or g.lengths j 0 ≤ most_blocks
      → kept_proposal (file_proposal_of g names counts base s i priority).names (file_proposal_of g names counts base s i priority).counts base
      (file_proposal_of g names counts base s i priority).proposals j
      ≡ kept_proposal names counts base g j
  unfolding file_proposal_of kept_proposal
  proposal_apart j d h =
      found
      (kept_proposal (file_proposal_of g names counts base s i priority).names (file_proposal_of g names counts base s i priority).counts base
      (file_proposal_of g names counts base s i priority).proposals j
      ≡ kept_proposal names counts base g j)
      (λ q. rw (fine, q) refl)
      (λ q v e. rw (fine, q, v, e) refl)
      (λ q v e. rw (fine, q, v, e, adding_other g.marks.aside i j d) refl)
      (λ q v. rw (
        fine,
        q,
        v,
        adding_other g.marks.filed i j d,
        get_or-set_other g.lengths i j (count_in s) 0 d,
        get_or-set_other g.priorities i j priority 0 d,
        filed_apart names counts base s i f j (get_or g.lengths j 0) d h,
      ) refl)

module _ (g : Proposals) (names counts : List ℕ) (base : ℕ) (s : List ℕ) (i priority : ℕ) where
  pub proposal_cases : (P : Proposals → Type 0) → P g → (Fit names counts base s i → P (with_aside g i))
      → (Fit names counts base s i → P (with_proposal g i (count_in s) priority))
      → P (file_proposal_of g names counts base s i priority).proposals
  unfolding file_proposal_of
  proposal_cases P old another new =
      cases (P (file_proposal_of g names counts base s i priority).proposals)
      (unfit names counts base s i || member g.marks.aside i) (member g.marks.filed i)
      (same_log (log_in s) (filed_log names counts base g.lengths i) && eqb priority (get_or g.priorities i 0))
      (λ q. rw q old)
      (λ q v e. rw (q, v, e) old)
      (λ q v e. rw (q, v, e) (another (fits q)))
      (λ q v. rw (q, v) (new (fits q)))
    where
      fits : (unfit names counts base s i || member g.marks.aside i) ≡ false → Fit names counts base s i
      fits q = fit names counts base s i (or_false (unfit names counts base s i) _ q).0

  pub proposal_view : (file_proposal_of g names counts base s i priority).proposals.marks.view ≡ g.marks.view
  proposal_view = proposal_cases (λ (h : Proposals). h.marks.view ≡ g.marks.view) refl (λ f. refl) (λ f. refl)

-- the one proposal kept of a sender has as many blocks as the record says
pub kept_length : (names counts : List ℕ) (base : ℕ) (g : Proposals) (i : ℕ) (a : Proposed) → kept_proposal names counts base g i ≡ only a
    → length a.log ≡ get_or g.lengths i 0
unfolding kept_proposal
kept_length names counts base g i a e =
    either (member g.marks.aside i)
    (λ t. absurd (false≢true (ap single_of (rw t at e))))
    (λ t. either (member g.marks.filed i)
    (λ f. ap length_of (sym (rw (t, f) at e)) ∙ length_at_lem names counts (place_of base i) (get_or g.lengths i 0))
    (λ f. absurd (false≢true (ap single_of (rw (t, f) at e)))))
  where
    length_of : Kept Proposed → ℕ
    length_of nothing = 0
    length_of (only b) = length b.log
    length_of differing = 0
