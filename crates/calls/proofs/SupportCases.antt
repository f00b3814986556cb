-- What an act reads, with its counts, case by case as the code finds it. Assumes nothing.
use Prim.Native.Nat.{ℕ, ◌-◌}
use native.Mathlib.Omega.{arith}
use mathlib.Core.List.{List}
use mathlib.Core.Option.{Option, some, none}
use mathlib.Core.Path.{◌≡◌, refl, sym, ap, subst, ◌∙◌}
use Rattle.std.specs.Prelude.{Some, None}
use Rattle.std.specs.Prelude as std
use Rattle.std.specs.Option.{unwrap_or}
use borrow.Author.Tests.{ne_eqb}
use Rattle.message.specs.Choice.{pick}
use Rattle.message.specs.Logs.{Log}
use Rattle.message.proofs.ListedLaws.{log_empty}
use Rattle.agreement.specs.Limits.{most_senders, place_of}
use Rattle.agreement.specs.Sets.{count}
use Rattle.agreement.specs.Record.{Agreement, agreement_from, empty_agreement, is_sender}
use Rattle.agreement.specs.Grades.{snapshot_for, log_of, Placed, Gives}
use Rattle.agreement.specs.Tally.{supporters_of, supporters_at}
use Rattle.agreement.specs.declared.Marks.{Marks}
use Rattle.agreement.specs.declared.Longest.{Longest}
use Rattle.agreement.proofs.TallyLaws.{supporters_placed}
use Rattle.agreement.proofs.EmptyLaws.{empty_senders, empty_supporters}
use Rattle.bench.specs.Layout.{is_even, logs_place}
use Rattle.bench.specs.Calendar.{Act, grade_read}
use Rattle.bench.specs.Calls.{Core}
use Rattle.bench.specs.Record.{Bench, bench_from, of_view}
use Rattle.bench.specs.ByRecord.{used_of}
use Rattle.bench.specs.Answers.{core_with}
use Rattle.bench.specs.Support.{agreement_before, read_of_grade, among_of_grade, or_empty, senders_read, supporters_read, SupportGives}
use Rattle.bench.specs.declared.Head.{Head}
use Rattle.bench.specs.declared.Counted.{Counted}
use Rattle.bench.proofs.ActLaws.{before_first, before_later, same_before}
use Rattle.calls.specs.Steps.{row_of, option_of, CountsIn}
use Rattle.calls.specs.declared.calendar.Act as calendar
use Rattle.calls.proofs.RecordCases.{slot_is}
use Rattle.calls.proofs.SeeingLaws.{used_whole}

-- ---- how many support the log of a grade

module _ (names counts : List ℕ) (base : ℕ) (m : Marks) (lengths : List ℕ) (among n : ℕ) (r : std.Option Longest) where
  abbrev g : Agreement
  g = agreement_from m lengths

  abbrev or_first : std.Option Longest → Longest
  or_first o = unwrap_or o (record { sender = 0; blocks = 0 })

  -- the empty log stands for a grade's where there is none
  pub tally_read : (l : Longest) → l ≡ or_first r → Placed r → n ≡ supporters_at names counts base g among l.sender l.blocks
      → n ≡ supporters_of names counts base g among (or_empty (log_of names counts base r))
  tally_read l e p h = h ∙ ap (λ (x : Longest). supporters_at names counts base g among x.sender x.blocks) e ∙ read r p
    where
      read : (o : std.Option Longest) → Placed o
          → supporters_at names counts base g among (or_first o).sender (or_first o).blocks
          ≡ supporters_of names counts base g among (or_empty (log_of names counts base o))
      read None q =
          supporters_placed names counts base g among 0 0 (omega arith) (omega arith)
          ∙ ap (supporters_of names counts base g among) (log_empty names counts (place_of base 0) 0 (omega arith))
      read (Some x) (few, short) = supporters_placed names counts base g among x.sender x.blocks few short

-- ---- in a slot

module _ (names counts : List ℕ) (base v k : ℕ) (m : Marks) (lengths : List ℕ) (grade : std.Option Longest) where
  pub counted_none : (m.view ≡ v → ⊥)
      → CountsIn names counts base (of_view (agreement_from m lengths) v) k grade (record { grade = grade; supporters = 0; senders = 0 })
  counted_none e =
      rw (ne_eqb m.view v e)
      (record {
        same = refl;
        supporters = sym (empty_supporters names counts base v _ _);
        few_supporters = omega arith;
        senders = sym (empty_senders v);
        few_senders = omega arith;
      })

-- ---- what the act reads

-- the counts of an agreement, by the grade that is read
abbrev heard : Agreement → Option ℕ → ℕ
heard g o = count most_senders (is_sender (read_of_grade g o))

abbrev behind : List ℕ → List ℕ → ℕ → Agreement → Log → Option ℕ → ℕ
behind names counts base g L o = supporters_of names counts base (read_of_grade g o) (among_of_grade (read_of_grade g o) o) L

-- in an empty one nobody is heard
none_heard : (names counts : List ℕ) (base : ℕ) (L : Log) (o : Option ℕ)
    → (heard (empty_agreement 0) o ≡ 0) × (behind names counts base (empty_agreement 0) L o ≡ 0)
none_heard names counts base L none = (empty_senders 0, empty_supporters names counts base 0 _ L)
none_heard names counts base L (some k) = (empty_senders 0, empty_supporters names counts base 0 _ L)

module _ (h : Head) (e o p q names counts : List ℕ) (v : ℕ) (act : calendar.Act) (read : std.Option ℕ)
    (asked : option_of read ≡ grade_read (row_of act)) (r : std.Option Longest) where
  abbrev b : Bench
  b = bench_from h e o p q

  abbrev s : Core
  s = core_with b names counts

  module _ (u : Gives (used_of s v (row_of act)) names counts (logs_place (v - 1)) r) where
    abbrev Reads : Counted → Type 0
    Reads c = SupportGives s v (row_of act) c

    nobody : (senders_read s v (row_of act) ≡ 0) × (supporters_read s v (row_of act) ≡ 0)
        → Reads (record { grade = r; supporters = 0; senders = 0 })
    nobody (x, y) = record { grade = u; supporters = sym y; few_supporters = omega arith; senders = sym x; few_senders = omega arith }

    -- snapshot two reads none
    pub read_late : read ≡ None → Reads (record { grade = r; supporters = 0; senders = 0 })
    read_late t =
        let x : grade_read (row_of act) ≡ none = sym asked ∙ ap option_of t in
        nobody (
          ap (heard (agreement_before b v)) x ∙ empty_senders 0,
          ap (behind names counts (logs_place (v - 1)) (agreement_before b v) (or_empty (used_of s v (row_of act)))) x
              ∙ empty_supporters names counts _ 0 _ _,
        )

    pub read_first : v ≡ 0 → Reads (record { grade = r; supporters = 0; senders = 0 })
    read_first z =
        nobody
        (subst (λ (g : Agreement). (heard g (grade_read (row_of act)) ≡ 0)
        × (behind names counts (logs_place (v - 1)) g (or_empty (used_of s v (row_of act))) (grade_read (row_of act)) ≡ 0))
        (sym (ap (agreement_before b) z ∙ before_first b))
        (none_heard names counts (logs_place (v - 1)) (or_empty (used_of s v (row_of act))) (grade_read (row_of act))))

    pub read_later : (k : ℕ) → read ≡ Some k → (v ≡ 0 → ⊥) → (m : Marks) (lengths : List ℕ) (base : ℕ) (c : Counted)
        → m ≡ pick (is_even (v - 1)) h.even h.odd → lengths ≡ pick (is_even (v - 1)) e o → base ≡ logs_place (v - 1)
        → CountsIn names counts base (of_view (agreement_from m lengths) (v - 1)) k r c → Reads c
    read_later k t later m lengths base c x y at w =
        let g : Agreement = of_view (agreement_from m lengths) (v - 1) in
        let before : g ≡ agreement_before b v = slot_is h e o p q (v - 1) m lengths x y ∙ sym (before_later b v later) in
        let grade_is : some k ≡ grade_read (row_of act) = sym (ap option_of t) ∙ asked in
        record {
          grade = subst (Gives (used_of s v (row_of act)) names counts (logs_place (v - 1))) (sym w.same) u;
          supporters = w.supporters
              ∙ ap (λ (a : ℕ). supporters_of names counts a g (snapshot_for k g.marks).senders (or_empty (log_of names counts a r))) at
              ∙ ap (λ (L : Option Log). supporters_of names counts (logs_place (v - 1)) g (snapshot_for k g.marks).senders (or_empty L)) u.log
              ∙ ap (λ (a : Agreement). behind names counts (logs_place (v - 1)) a (or_empty (used_of s v (row_of act))) (some k)) before
              ∙ ap (behind names counts (logs_place (v - 1)) (agreement_before b v) (or_empty (used_of s v (row_of act)))) grade_is;
          few_supporters = w.few_supporters;
          senders = w.senders ∙ ap (λ (a : Agreement). heard a (some k)) before ∙ ap (heard (agreement_before b v)) grade_is;
          few_senders = w.few_senders;
        }

-- ---- the proposals do not matter to it

module _ (h : Head) (e o p q p' q' names counts : List ℕ) (v : ℕ) (a : Act) (c : Counted) where
  abbrev one : Core
  one = core_with (bench_from h e o p q) names counts

  abbrev other : Core
  other = core_with (bench_from h e o p' q') names counts

  pub read_whole : SupportGives one v a c → SupportGives other v a c
  read_whole w =
      let x : used_of one v a ≡ used_of other v a = used_whole h e o p q p' q' names counts v a in
      let y : agreement_before one.bench v ≡ agreement_before other.bench v = same_before other.bench one.bench v refl refl in
      record {
        grade = record { log = w.grade.log ∙ x; placed = w.grade.placed };
        supporters = w.supporters
            ∙ ap (λ (L : Option Log). behind names counts (logs_place (v - 1)) (agreement_before one.bench v) (or_empty L) (grade_read a)) x
            ∙ ap (λ (g : Agreement). behind names counts (logs_place (v - 1)) g (or_empty (used_of other v a)) (grade_read a)) y;
        few_supporters = w.few_supporters;
        senders = w.senders ∙ ap (λ (g : Agreement). heard g (grade_read a)) y;
        few_senders = w.few_senders;
      }
