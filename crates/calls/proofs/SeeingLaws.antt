-- What an act sees, as the code finds it: a grade's log and the log voted for, each by its place in the lists. Assumes nothing.
use Prim.Native.Nat.{ℕ, ◌+◌, ◌-◌, ◌*◌, ◌≤◌, ◌<◌}
use native.Mathlib.Omega.{arith}
use mathlib.Core.Bool.{true, false}
use mathlib.Core.List.{List, []}
use mathlib.Core.Option.{Option, some, none, none-ne-some}
use mathlib.Core.Path.{◌≡◌, refl, sym, ap, subst, ◌∙◌}
use Rattle.std.specs.Prelude.{Some, None}
use Rattle.std.specs.Prelude as std
use borrow.Author.Tests.{eq-eqb, ne_eqb, le-ltb}
use lib.Dec.{eqb}
use lib.ListN.{length, get_or}
use Rattle.message.specs.Limits.{most_blocks}
use Rattle.message.specs.Choice.{pick}
use Rattle.message.specs.Logs.{Log}
use Rattle.message.specs.Store.{log_at, within}
use Rattle.message.proofs.TestLaws.{either}
use Rattle.message.proofs.ListedLaws.{log_empty}
use Rattle.agreement.specs.Limits.{most_senders, span, place_of}
use Rattle.agreement.specs.Record.{agreement_from, lacks_room}
use Rattle.agreement.specs.Kept.{Kept, Proposed, kept_proposal}
use Rattle.agreement.specs.Heard.{or_lock}
use Rattle.agreement.specs.Grades.{grade_of, log_of, Gives}
use Rattle.agreement.specs.Proposals.{Proposals, proposals_from, choice_of, chosen, Chooses}
use Rattle.agreement.specs.declared.Marks.{Marks}
use Rattle.agreement.specs.declared.Shown.{Shown}
use Rattle.agreement.specs.declared.Longest.{Longest}
use Rattle.agreement.proofs.ChoiceLaws.{best_place, choice_fits}
use Rattle.agreement.proofs.RecordLaws.{choice_voted, fits_log}
use Rattle.agreement.proofs.EmptyLaws.{empty_grade, empty_choice}
use Rattle.bench.specs.Layout.{is_even, logs_place, proposals_place}
use Rattle.bench.specs.Calendar.{Act, proposing, voting, deciding, snapping, grade_read}
use Rattle.bench.specs.Acts.{used_first}
use Rattle.bench.specs.Calls.{Core}
use Rattle.bench.specs.Record.{bench_from, bench_with, of_view, proposed_in, proposals_of}
use Rattle.bench.specs.ByRecord.{used_of, seen_of}
use Rattle.bench.specs.Answers.{core_with}
use Rattle.bench.specs.Tested.{Usable}
use Rattle.bench.proofs.ActLaws.{used_of_first, used_of_later, used_of_snapping, same_used}
use Rattle.bench.proofs.Slots.{proposals_slot}
use Rattle.bench.proofs.TestedLaws.{within_limits, lists_roomy, before_within}
use Rattle.bench.proofs.Buffer.{proposed_short}
use Rattle.bench.specs.declared.Head.{Head}
use Rattle.bench.specs.declared.Rows.{Rows}
use Rattle.calls.specs.Steps.{row_of, option_of, Finds, ballot, ballot_of}
use Rattle.calls.specs.declared.calendar.Act as calendar
use Rattle.calls.specs.declared.seeing.Listed.{Listed}
use Rattle.calls.proofs.RecordCases.{slot_is}

-- ---- a grade in a slot

module _ (names counts : List ℕ) (base v k : ℕ) (m : Marks) (lengths : List ℕ) where
  pub of_its_view : (r : std.Option Longest) → m.view ≡ v → Gives (grade_of names counts base (agreement_from m lengths) k) names counts base r
      → Gives (grade_of names counts base (of_view (agreement_from m lengths) v) k) names counts base r
  of_its_view r e g = rw (eq-eqb m.view v e) g

  pub of_another : (m.view ≡ v → ⊥) → Gives (grade_of names counts base (of_view (agreement_from m lengths) v) k) names counts base None
  of_another e = rw (ne_eqb m.view v e) (record { log = sym (empty_grade names counts base v k); placed = tt })

-- ---- the log used

-- the empty log
empty_given : (names counts : List ℕ) (base : ℕ) → Gives (some []) names counts base (Some (record { sender = 0; blocks = 0 }))
empty_given names counts base =
    record { log = ap some (log_empty names counts (place_of base 0) 0 (omega arith)); placed = (omega arith, omega arith) }

-- candidate and lock of view 0 are the empty log, and there is no decision
first_used : (a : Act) (k : ℕ) → some k ≡ grade_read a → k < 2 → used_first a ≡ some []
first_used proposing k e l = refl
first_used voting k e l = refl
first_used deciding k e l = let f : k ≡ 2 = cc in absurd (omega arith)
first_used snapping k e l = absurd (none-ne-some k (sym e))

first_unused : (a : Act) (k : ℕ) → some k ≡ grade_read a → 2 ≤ k → used_first a ≡ none
first_unused proposing k e l = let f : k ≡ 0 = cc in absurd (omega arith)
first_unused voting k e l = let f : k ≡ 1 = cc in absurd (omega arith)
first_unused deciding k e l = refl
first_unused snapping k e l = refl

-- an act that reads no grade uses no log
reads_none : (c : Core) (v : ℕ) (a : Act) → none ≡ grade_read a → used_of c v a ≡ none
reads_none c v proposing e = absurd (none-ne-some 0 e)
reads_none c v voting e = absurd (none-ne-some 1 e)
reads_none c v deciding e = absurd (none-ne-some 2 e)
reads_none c v snapping e = used_of_snapping c v

module _ (h : Head) (e o p q names counts : List ℕ) (v : ℕ) (act : calendar.Act) (read : std.Option ℕ)
    (asked : option_of read ≡ grade_read (row_of act)) where
  abbrev c : Core
  c = core_with (bench_from h e o p q) names counts

  abbrev Used : std.Option Longest → Type 0
  Used r = Gives (used_of c v (row_of act)) names counts (logs_place (v - 1)) r

  pub used_none : read ≡ None → Used None
  used_none t = record { log = sym (reads_none c v (row_of act) (sym (ap option_of t) ∙ asked)); placed = tt }

  module _ (k : ℕ) (t : read ≡ Some k) where
    grade_is : some k ≡ grade_read (row_of act)
    grade_is = sym (ap option_of t) ∙ asked

    pub used_first_lem : v ≡ 0 → k < 2 → Used (Some (record { sender = 0; blocks = 0 }))
    used_first_lem z l = rw (z, used_of_first, first_used (row_of act) k grade_is l) (empty_given names counts (logs_place 0))

    pub used_not_first : v ≡ 0 → 2 ≤ k → Used None
    used_not_first z l = rw (z, used_of_first, first_unused (row_of act) k grade_is l) (record { log = refl; placed = tt })

    pub used_later : (v ≡ 0 → ⊥) → (m : Marks) (lengths : List ℕ) (base : ℕ) (r : std.Option Longest)
        → m ≡ pick (is_even (v - 1)) h.even h.odd → lengths ≡ pick (is_even (v - 1)) e o → base ≡ logs_place (v - 1)
        → Gives (grade_of names counts base (of_view (agreement_from m lengths) (v - 1)) k) names counts base r → Used r
    used_later later m lengths base r x y at w = record {
      log = ap (λ (n : ℕ). log_of names counts n r) (sym at)
          ∙ w.log
          ∙ (λ i. grade_of names counts (at i) (slot_is h e o p q (v - 1) m lengths x y i) k)
          ∙ rw (used_of_later c v (row_of act) later, ← grade_is);
      placed = w.placed;
    }

-- the proposals do not matter to it
pub used_whole : (h : Head) (e o p q p' q' names counts : List ℕ) (v : ℕ) (a : Act)
    → used_of (core_with (bench_from h e o p q) names counts) v a ≡ used_of (core_with (bench_from h e o p' q') names counts) v a
used_whole h e o p q p' q' names counts v a =
    same_used (core_with (bench_from h e o p' q') names counts) (core_with (bench_from h e o p q) names counts) v a refl refl refl refl

-- ---- the proposals of the view

module _ (names counts : List ℕ) (v a k : ℕ) (m : Shown) (p s : List ℕ) where
  pub best_of_view : (c : std.Option ℕ) → m.view ≡ v → Chooses (choice_of names counts proposals_place (proposals_from m p s) a k) c
      → Chooses (choice_of names counts proposals_place (proposed_in (proposals_from m p s) v) a k) c
  best_of_view c e w = rw (eq-eqb m.view v e) w

  pub best_of_none : (m.view ≡ v → ⊥) → Chooses (choice_of names counts proposals_place (proposed_in (proposals_from m p s) v) a k) None
  best_of_none e = rw (ne_eqb m.view v e) (record { sender = sym (empty_choice names counts proposals_place v a k); place = tt })

-- ---- the vote

module _ (h : Head) (rows : Rows) (names counts : List ℕ) (v : ℕ) where
  abbrev whole : Core
  whole = core_with (bench_with h rows) names counts

  module _ (r : std.Option Listed) (g : Finds (used_of whole v voting) names counts r) where
    module _ (u : Usable whole) (l : Listed) (t : r ≡ Some l) (choice : std.Option ℕ)
        (w : Chooses (choice_of names counts proposals_place (proposed_in (proposals_from h.shown rows.proposed rows.priorities) v) l.at l.blocks)
        choice) where
      abbrev filed : Proposals
      filed = proposals_of (bench_with h rows) v

      lock : Finds (used_of whole v voting) names counts (Some l)
      lock = subst (Finds (used_of whole v voting) names counts) t g

      abbrev kept : ℕ → Kept Proposed
      kept = kept_proposal names counts proposals_place filed

      abbrev L : Log
      L = log_at names counts l.at l.blocks

      room : lacks_room names counts proposals_place ≡ false
      room =
          let (n, m) = lists_roomy names counts u.lists in
          rw (le-ltb (length names) (proposals_place + span) (omega arith), le-ltb (length counts) (proposals_place + span) (omega arith))

      lock_within : within names counts l.at l.blocks ≡ true
      lock_within = before_within names counts u.lists l.at l.blocks lock.before

      short : (i : ℕ) → i < most_senders → get_or filed.lengths i 0 ≤ most_blocks
      short = proposed_short (bench_with h rows) (within_limits (bench_with h rows) u.limits).1 v

      choice_is : choice_of names counts proposals_place filed l.at l.blocks ≡ chosen choice
      choice_is = rw proposals_slot (sym w.sender)

      -- the log that a choice stands for
      abbrev voted_for : std.Option ℕ → Log
      voted_for x = or_lock kept L (chosen x)

      voted : some (voted_for choice) ≡ ballot_of whole v
      voted =
          ap (λ (o : Option ℕ). some (or_lock kept L o)) (sym choice_is)
          ∙ ap some (choice_voted names counts proposals_place filed l.at l.blocks room short lock_within)
          ∙ ap (ballot (seen_of whole v voting).choose) lock.log

      pub ballot_lock : choice ≡ None → Finds (ballot_of whole v) names counts (Some l)
      ballot_lock c = record { log = ap (λ (x : std.Option ℕ). some (voted_for x)) (sym c) ∙ voted; before = lock.before }

      -- a proposal that is voted for is of the view, so its length stands in the array
      own_length : (j : ℕ) → choice ≡ Some j → get_or rows.proposed j 0 ≡ get_or filed.lengths j 0
      own_length j c =
          rw proposals_slot
          (either (eqb h.shown.view v) (λ q. rw q)
          (λ q. absurd (none-ne-some j
          (sym (empty_choice names counts proposals_place v l.at l.blocks) ∙ sym (rw q at w).sender ∙ ap chosen c))))

      pub ballot_proposal : (j : ℕ) → choice ≡ Some j
          → Finds (ballot_of whole v) names counts
          (Some (record { at = proposals_place + most_blocks * j; blocks = get_or rows.proposed j 0 }))
      ballot_proposal j c =
          let few = best_place choice j w.place c in
          let blocks = short j few in
          let own = own_length j c in
          let fit = choice_fits names counts proposals_place filed l.at l.blocks j (choice_is ∙ ap chosen c) in
          record {
            log =
                ap (λ (n : ℕ). some (log_at names counts (place_of proposals_place j) n)) own
                ∙ ap some (sym (fits_log names counts proposals_place filed l.at l.blocks j fit))
                ∙ ap (λ (x : std.Option ℕ). some (voted_for x)) (sym c)
                ∙ voted;
            before = (omega arith, omega arith);
          }
