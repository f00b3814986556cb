-- A record's grades and its vote are those of what it keeps of each sender, and only the senders below n matter to them. Assumes nothing.
use Prim.Native.Nat.{ℕ, zero, suc, ◌+◌, ◌-◌, ◌≤◌, ◌<◌}
use native.Mathlib.Nat.{le_refl}
use native.Mathlib.Omega.{arith}
use mathlib.Core.Bool.{Bool, true, false, not, ◌&&◌, ◌||◌, false≢true}
use mathlib.Core.List.{List}
use mathlib.Core.Option.{Option, some, none, none-ne-some}
use mathlib.Core.Path.{◌≡◌, refl, sym, ap, subst, ◌∙◌}
use borrow.Author.Tests.{ltb-true, ltb-false, le-ltb}
use lib.Dec.{ltb}
use lib.ListN.{length, get_or}
use Rattle.message.specs.Limits.{most_blocks}
use Rattle.message.specs.Choice.{pick}
use Rattle.message.specs.Logs.{Log, is_prefix}
use Rattle.message.specs.Store.{log_at, within, prefix_at}
use Rattle.message.proofs.TestLaws.{either, or_false}
use Rattle.message.proofs.LogLaws.{prefix_length}
use Rattle.message.proofs.ListedLaws.{length_at_lem}
use Rattle.message.proofs.Inside.{prefix_inside}
use Rattle.agreement.specs.Limits.{most_senders, span, place_of}
use Rattle.agreement.specs.Sets.{ones, count, member, is_yes}
use Rattle.agreement.specs.Reading.{longest}
use Rattle.agreement.specs.Record.{Agreement, is_voter, is_equivocator, filed_log, lacks_room, overlong, reading_of}
use Rattle.agreement.specs.Grades.{grade_among, grade_by, grade_of}
use Rattle.agreement.specs.Kept.{snapshot_in, Kept, nothing, only, differing, single_of, heard_of, kept_log, Proposed, kept_proposal}
use Rattle.agreement.specs.declared.Snapshot.{Snapshot}
use Rattle.agreement.specs.Heard.{proposed_log, only_log, reading_from, grade_now, grade_with, may_choose, priority_of, or_lock, vote_among}
use Rattle.agreement.specs.Proposals.{Proposals, fits, if_fits, best_of, choice_of}
use Rattle.agreement.proofs.SetLaws.{weigh_some}
use Rattle.agreement.proofs.LimitLaws.{none_passes}
use Rattle.agreement.proofs.ReadingLaws.{grade_supporter, Alike, Beyond}
use Rattle.agreement.proofs.LongestLaws.{longest_iff, longest_cong, longest_cut, record_heard}
use Rattle.agreement.proofs.FilingLaws.{within_room}
use Rattle.agreement.proofs.ChoiceLaws.{best_cut, best_is}
use Rattle.agreement.proofs.KeptLaws.{kept_sender, kept_voter, kept_only}

-- ---- an agreement of n senders, within the limits of its record

pub record Within (n : ℕ) (g : Agreement) : Type 0 where
  pub few : n ≤ most_senders
  -- no sender at n or above is in V or in E
  pub voters : (i : ℕ) → n ≤ i → i < most_senders → is_voter g i ≡ false
  pub equivocators : (i : ℕ) → n ≤ i → i < most_senders → is_equivocator g i ≡ false
  -- no sender is in both
  pub apart : (i : ℕ) → i < most_senders → is_voter g i ≡ true → is_equivocator g i ≡ false
  -- no log is over 64 blocks
  pub short : (i : ℕ) → i < most_senders → get_or g.lengths i 0 ≤ most_blocks

short_not_overlong : (lengths : List ℕ) → ((i : ℕ) → i < most_senders → get_or lengths i 0 ≤ most_blocks) → overlong lengths ≡ false
unfolding overlong
short_not_overlong lengths h =
    either (overlong lengths)
    (λ t.
    let long : ℕ → Bool = λ (i : ℕ). ltb most_blocks (get_or lengths i 0) in
    let m = weigh_some most_senders ones long (ltb-true 0 (count most_senders long) t) in
    absurd (false≢true (sym (le-ltb most_blocks (get_or lengths m.sender 0) (h m.sender m.below)) ∙ m.left)))
    (λ t. t)

-- a log that is given has 64 blocks at the most, whatever the record holds
graded_short : (names counts : List ℕ) (base : ℕ) (g : Agreement) (among : ℕ) (L : Log) → grade_among names counts base g among ≡ some L
    → length L ≤ most_blocks
unfolding grade_among overlong
graded_short names counts base g among L e =
    either (lacks_room names counts base || overlong g.lengths)
    (λ t. absurd (none-ne-some L (rw t at e)))
    (λ t.
    let r : longest most_senders ones (reading_of names counts base g among) ≡ some L = rw t at e in
    let R = reading_of names counts base g among in
    let l = (longest_iff most_senders ones R (record_heard most_senders names counts base g among) (some L)).0 r in
    let s = grade_supporter most_senders ones R L l.grade in
    let i = s.sender in
    let over : ℕ → Bool = λ (j : ℕ). ltb most_blocks (get_or g.lengths j 0) in
    let none_over = (or_false (lacks_room names counts base) (overlong g.lengths) t).1 in
    let k = ltb-false most_blocks (get_or g.lengths i 0) (none_passes over none_over i s.below) in
    let p = prefix_length s.extends in
    let n = length_at_lem names counts (place_of base i) (get_or g.lengths i 0) in
    omega arith)

pub by_short : (names counts : List ℕ) (base : ℕ) (g : Agreement) (x : Snapshot) (L : Log) → grade_by names counts base g x ≡ some L
    → length L ≤ most_blocks
by_short names counts base g x L e =
    either (is_yes x.taken)
    (λ t.
    graded_short names counts base g x.senders L
    (subst (λ (b : Bool). pick b (grade_among names counts base g x.senders) none ≡ some L) t e))
    (λ t. absurd (none-ne-some L (rw t at e)))

module _ (n : ℕ) (names counts : List ℕ) (base : ℕ) (g : Agreement) (w : Within n g) where
  not_both : (i : ℕ) → i < most_senders → (is_voter g i && is_equivocator g i) ≡ false
  not_both i l = go (is_voter g i) (is_equivocator g i) (w.apart i l)
    where
      go : (v e : Bool) → (v ≡ true → e ≡ false) → (v && e) ≡ false
      go true e h = h refl
      go false e h = refl

  beyond : (among : ℕ) → Beyond n (most_senders - n) (reading_of names counts base g among)
  beyond among =
      let f = w.few in
      record {
        heard = λ i h l. rw (w.voters i h (omega arith), w.equivocators i h (omega arith)) refl;
        single = λ i h l. w.voters i h (omega arith);
      }

  alike : (among : ℕ) (snap : ℕ → Bool) → ((i : ℕ) → i < n → member among i ≡ snap i)
      → Alike n (reading_of names counts base g among) (reading_from (kept_log names counts base g) snap)
  alike among snap s =
      let f = w.few in
      record {
        heard = λ i l. kept_sender names counts base g i;
        single = λ i l. kept_voter names counts base g i (not_both i (omega arith));
        snap = s;
        log = λ i l v. sym (ap only_log (kept_only names counts base g i (not_both i (omega arith)) v));
      }

  module _ (room : lacks_room names counts base ≡ false) where
    grade_among_lem : (among : ℕ) (snap : ℕ → Bool) → ((i : ℕ) → i < n → member among i ≡ snap i)
        → grade_among names counts base g among ≡ longest n ones (reading_from (kept_log names counts base g) snap)
    unfolding grade_among
    grade_among_lem among snap s =
        let f = w.few in
        let e : n + (most_senders - n) ≡ most_senders = omega arith in
        rw (room, short_not_overlong g.lengths w.short)
        (ap (λ (k : ℕ). longest k ones (reading_of names counts base g among)) (sym e)
        ∙ longest_cut n (most_senders - n) ones (reading_of names counts base g among) (beyond among)
        ∙ longest_cong n ones (alike among snap s))

    -- grade 0 uses no snapshot
    pub grade_zero : grade_of names counts base g 0 ≡ grade_now n ones (kept_log names counts base g)
    unfolding grade_now
    grade_zero =
        let f = w.few in
        grade_among_lem g.marks.voters (λ (i : ℕ). single_of (kept_log names counts base g i))
        (λ i l. kept_voter names counts base g i (not_both i (omega arith)))

    grade_with_lem : (has : Bool) (among : ℕ)
        → pick has (grade_among names counts base g among) none ≡ grade_with n ones (kept_log names counts base g)
        (pick has (some (member among)) none)
    unfolding grade_with
    grade_with_lem true among = grade_among_lem among (member among) (λ i l. refl)
    grade_with_lem false among = refl

    -- any other is there only with its snapshot
    pub grade_by_lem : (s : Snapshot) → grade_by names counts base g s ≡ grade_with n ones (kept_log names counts base g) (snapshot_in s)
    grade_by_lem s = grade_with_lem (is_yes s.taken) s.senders

-- ---- a grade depends on what is kept of the senders below n, and on the snapshot below n

module _ (n : ℕ) (w : ℕ → ℕ) (logs logs' : ℕ → Kept Log) (h : (i : ℕ) → i < n → logs i ≡ logs' i) where
  reading_alike : (snap snap' : ℕ → Bool) → ((i : ℕ) → i < n → snap i ≡ snap' i) → Alike n (reading_from logs snap) (reading_from logs' snap')
  reading_alike snap snap' s = record {
    heard = λ i l. ap heard_of (h i l);
    single = λ i l. ap single_of (h i l);
    snap = s;
    log = λ i l v. ap only_log (h i l);
  }

  pub grade_now_cong : grade_now n w logs ≡ grade_now n w logs'
  unfolding grade_now
  grade_now_cong =
      longest_cong n w
      (reading_alike (λ (i : ℕ). single_of (logs i)) (λ (i : ℕ). single_of (logs' i)) (λ i l. ap single_of (h i l)))

  pub grade_with_cong : (o : Option (ℕ → Bool)) → grade_with n w logs o ≡ grade_with n w logs' o
  unfolding grade_with
  grade_with_cong none = refl
  grade_with_cong (some snap) = longest_cong n w (reading_alike snap snap (λ i l. refl))

-- ---- the best sender, by who passes below n and by the priorities of those that pass

module _ (p p' : ℕ → Bool) (q q' : ℕ → ℕ) where
  -- one sender more, where its priority and that of the best so far are the same
  one_more : (n : ℕ) (t : Bool) (o : Option ℕ) → (t ≡ true → q n ≡ q' n) → ((j : ℕ) → o ≡ some j → q j ≡ q' j)
      → if_fits t q o n ≡ if_fits t q' o n
  one_more n true none f h = refl
  one_more n true (some j) f h = let a = h j refl in let b = f refl in λ i. some (pick (ltb (a i) (b i)) n j)
  one_more n false o f h = refl

  best_cong : (n : ℕ) → ((i : ℕ) → i < n → p i ≡ p' i) → ((i : ℕ) → i < n → p i ≡ true → q i ≡ q' i) → best_of n p q ≡ best_of n p' q'
  unfolding best_of
  best_cong zero f h = refl
  best_cong (suc n) f h =
      let e = f n (le_refl (suc n)) in
      let r = best_cong n (λ i l. f i (omega arith)) (λ i l. h i (omega arith)) in
      one_more n (p n) (best_of n p q) (h n (le_refl (suc n)))
      (λ j s. let b = best_is p q n j s in h j (omega (arith, b.below)) b.passes)
      ∙ (λ i. if_fits (e i) q' (r i) n)

-- ---- the vote

-- the test and the priority of each sender, as a vote reads them
abbrev may : Log → (ℕ → Kept Proposed) → ℕ → Bool
may L kept s = may_choose L (kept s)

abbrev priority : (ℕ → Kept Proposed) → ℕ → ℕ
priority kept s = priority_of (kept s)

-- senders from n on change nothing where nothing of them is kept
vote_cut : (n d : ℕ) (kept : ℕ → Kept Proposed) (L : Log) → ((i : ℕ) → n ≤ i → i < n + d → kept i ≡ nothing)
    → vote_among (n + d) kept L ≡ vote_among n kept L
unfolding vote_among
vote_cut n d kept L h = ap (or_lock kept L) (best_cut n d (may L kept) (priority kept) (λ i a b. ap (may_choose L) (h i a b)))

-- of a record that has nothing of senders at n or above, the vote among 32 is that among n
pub vote_kept : (n : ℕ) (names counts : List ℕ) (base : ℕ) (g : Proposals) (L : Log) → n ≤ most_senders
    → ((i : ℕ) → n ≤ i → i < most_senders → member g.marks.filed i ≡ false)
    → ((i : ℕ) → n ≤ i → i < most_senders → member g.marks.aside i ≡ false)
    → vote_among most_senders (kept_proposal names counts base g) L ≡ vote_among n (kept_proposal names counts base g) L
unfolding kept_proposal
vote_kept n names counts base g L f filed aside =
    let e : n + (most_senders - n) ≡ most_senders = omega arith in
    ap (λ (k : ℕ). vote_among k (kept_proposal names counts base g) L) (sym e)
    ∙ vote_cut n (most_senders - n) (kept_proposal names counts base g) L
    (λ i h l. rw (aside i h (omega arith), filed i h (omega arith)) refl)

-- ---- the record's choice, the lock being the k blocks at place a

module _ (names counts : List ℕ) (base : ℕ) (g : Proposals) (a k : ℕ) (room : lacks_room names counts base ≡ false)
    (short : (i : ℕ) → i < most_senders → get_or g.lengths i 0 ≤ most_blocks) (lock : within names counts a k ≡ true) where
  prefix_filed : (i : ℕ) → i < most_senders
      → prefix_at names counts a k (place_of base i) (get_or g.lengths i 0) ≡ is_prefix (log_at names counts a k)
      (filed_log names counts base g.lengths i)
  prefix_filed i l =
      let r = or_false (ltb (length names) (base + span)) (ltb (length counts) (base + span)) room in
      let n = ltb-false (length names) (base + span) r.0 in
      let m = ltb-false (length counts) (base + span) r.1 in
      prefix_inside names counts a k (place_of base i) (get_or g.lengths i 0) lock
      (within_room names counts base i (get_or g.lengths i 0) n m l (short i l))

  -- sender i's proposal as it is filed
  abbrev filed : ℕ → Proposed
  filed i = record { log = filed_log names counts base g.lengths i; priority = get_or g.priorities i 0 }

  fits_kept : (i : ℕ) → i < most_senders
      → fits names counts base g a k i ≡ may_choose (log_at names counts a k) (kept_proposal names counts base g i)
  unfolding kept_proposal
  fits_kept i l = rw (prefix_filed i l) (go (member g.marks.filed i) (member g.marks.aside i))
    where
      go : (f s : Bool) → (f && (not s && is_prefix (log_at names counts a k) (filed i).log))
          ≡ may_choose (log_at names counts a k) (pick s differing (pick f (only (filed i)) nothing))
      go true true = refl
      go true false = refl
      go false true = refl
      go false false = refl

  priority_kept : (i : ℕ) → fits names counts base g a k i ≡ true
      → get_or g.priorities i 0 ≡ priority_of (kept_proposal names counts base g i)
  unfolding kept_proposal
  priority_kept i e = go (member g.marks.filed i) (member g.marks.aside i)
      (prefix_at names counts a k (place_of base i) (get_or g.lengths i 0)) e
    where
      go : (f s t : Bool) → (f && (not s && t)) ≡ true → (filed i).priority ≡ priority_of (pick s differing (pick f (only (filed i)) nothing))
      go true true t q = absurd (false≢true q)
      go true false t q = refl
      go false s t q = absurd (false≢true q)

  -- the sender chosen is that of what is kept
  pub choice_vote : choice_of names counts base g a k
      ≡ best_of most_senders (λ (s : ℕ). may_choose (log_at names counts a k) (kept_proposal names counts base g s))
      (λ (s : ℕ). priority_of (kept_proposal names counts base g s))
  unfolding choice_of
  choice_vote =
      rw room
      (best_cong (fits names counts base g a k) (may (log_at names counts a k) (kept_proposal names counts base g))
      (λ (i : ℕ). get_or g.priorities i 0) (priority (kept_proposal names counts base g)) most_senders fits_kept (λ i l. priority_kept i))

  -- and so is the log voted for
  pub choice_voted : or_lock (kept_proposal names counts base g) (log_at names counts a k) (choice_of names counts base g a k)
      ≡ vote_among most_senders (kept_proposal names counts base g) (log_at names counts a k)
  unfolding vote_among
  choice_voted = ap (or_lock (kept_proposal names counts base g) (log_at names counts a k)) choice_vote

-- a proposal that fits is kept: filed, and not set aside
pub fits_log : (names counts : List ℕ) (base : ℕ) (g : Proposals) (a k i : ℕ) → fits names counts base g a k i ≡ true
    → proposed_log (kept_proposal names counts base g i) ≡ filed_log names counts base g.lengths i
unfolding kept_proposal
fits_log names counts base g a k i e =
    go (member g.marks.filed i) (member g.marks.aside i) (prefix_at names counts a k (place_of base i) (get_or g.lengths i 0)) e
  where
    kept : Proposed
    kept = record { log = filed_log names counts base g.lengths i; priority = get_or g.priorities i 0 }

    go : (f s t : Bool) → (f && (not s && t)) ≡ true → proposed_log (pick s differing (pick f (only kept) nothing)) ≡ kept.log
    go true true t q = absurd (false≢true q)
    go true false t q = refl
    go false s t q = absurd (false≢true q)
