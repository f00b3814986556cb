-- Filing, as the code does it: in the slot of the view's parity, or among the proposals. Assumes nothing.
use Prim.Native.Nat.{ℕ}
use mathlib.Core.Bool.{Bool, true, false}
use mathlib.Core.List.{List}
use mathlib.Core.Path.{◌≡◌, sym, ap, subst, ◌∙◌}
use Rattle.std.specs.Prelude.{Ok}
use Rattle.agreement.specs.Filing.{Files, file_of}
use Rattle.agreement.specs.Limits.{span}
use Rattle.agreement.specs.Record.{Agreement, agreement_from}
use Rattle.agreement.specs.Proposals.{Proposals, proposals_from, FilesProposal, file_proposal_of}
use Rattle.agreement.specs.declared.Marks.{Marks}
use Rattle.agreement.specs.declared.Shown.{Shown}
use Rattle.agreement.specs.declared.Answer.{Answer}
use Rattle.agreement.specs.declared.Given.{Given}
use Rattle.bench.specs.Layout.{is_even, logs_place, proposals_place}
use Rattle.bench.specs.Calls.{took}
use Rattle.bench.specs.Record.{Bench, bench_with, of_view, agreement_of, proposed_in, proposals_of, with_agreement, with_proposals}
use Rattle.bench.specs.ByRecord.{file_log, file_proposal, taken}
use Rattle.bench.specs.Answers.{core_with}
use Rattle.bench.specs.declared.Head.{Head}
use Rattle.bench.specs.declared.Rows.{Rows}
use Rattle.bench.proofs.Replies.{taken_word}
use Rattle.bench.proofs.Slots.{with_slots, agreement_even, agreement_odd, proposals_slot, stored_even, stored_odd}
use Rattle.calls.specs.Steps.{TakeGives}
use Rattle.calls.proofs.RecordCases.{place_even, place_odd}

-- ---- the head with another agreement, or other proposals

abbrev pub even_head : Head → Marks → Head
even_head h m = record {
  next = h.next;
  n = h.n;
  own = h.own;
  decided = h.decided;
  parted = h.parted;
  gathering = h.gathering;
  even = m;
  odd =
      h.odd;
  shown = h.shown;
}

abbrev pub odd_head : Head → Marks → Head
odd_head h m = record {
  next = h.next;
  n = h.n;
  own = h.own;
  decided = h.decided;
  parted = h.parted;
  gathering = h.gathering;
  even =
      h.even;
  odd = m;
  shown = h.shown;
}

abbrev shown_head : Head → Shown → Head
shown_head h m = record {
  next = h.next;
  n = h.n;
  own = h.own;
  decided = h.decided;
  parted = h.parted;
  gathering = h.gathering;
  even = h.even;
  odd =
      h.odd;
  shown = m;
}

-- ---- the rows with other blocks in one of them

abbrev pub even_rows : Rows → List ℕ → Rows
even_rows r lengths = record { priorities = r.priorities; even = lengths; odd = r.odd; proposed = r.proposed }

abbrev pub odd_rows : Rows → List ℕ → Rows
odd_rows r lengths = record { priorities = r.priorities; even = r.even; odd = lengths; proposed = r.proposed }

abbrev shown_rows : Rows → List ℕ → List ℕ → Rows
shown_rows r lengths priorities = record { priorities = priorities; even = r.even; odd = r.odd; proposed = lengths }

-- ---- by the parity of the view: what is read of the record, and what is stored

module _ (r : Bool) (v : ℕ) (q : r ≡ is_even v) (b : Bench) where
  pub read_even : r ≡ true → of_view b.even v ≡ agreement_of b v
  read_even t = sym (agreement_even b v (sym q ∙ t))

  pub read_odd : r ≡ false → of_view b.odd v ≡ agreement_of b v
  read_odd t = sym (agreement_odd b v (sym q ∙ t))

  pub keep_even : r ≡ true → (f g : Agreement) → f ≡ g → with_slots b f b.odd ≡ with_agreement b v g
  keep_even t f g e = rw e (sym (stored_even b v g (sym q ∙ t)))

  pub keep_odd : r ≡ false → (f g : Agreement) → f ≡ g → with_slots b b.even f ≡ with_agreement b v g
  keep_odd t f g e = rw e (sym (stored_odd b v g (sym q ∙ t)))

-- ---- a LOG

module _ (h : Head) (rows : Rows) (names counts bytes : List ℕ) (v i : ℕ) where
  abbrev b : Bench
  b = bench_with h rows

  module _ (ls ns cs : List ℕ) where
    -- by the parity of the view
    module _ (r : Bool) (q : r ≡ is_even v) (f : Given Answer Marks) where
      log_filed : (g : Agreement) (c : Bench) (base : ℕ) → base ≡ logs_place v → g ≡ agreement_of b v
          → Files (file_of g names counts base bytes i) f ls ns cs
          → ((x : Agreement) → agreement_from f.after ls ≡ x → c ≡ with_agreement b v x)
          → TakeGives (taken (file_log (core_with b names counts) bytes v i)) (Ok f.answer) c ns cs
      log_filed g c base at o d kept =
          let x : Files (file_of (agreement_of b v) names counts (logs_place v) bytes i) f ls ns cs =
          subst (λ (y : Agreement). Files (file_of y names counts (logs_place v) bytes i) f ls ns cs) o
          (subst (λ (p : ℕ). Files (file_of g names counts p bytes i) f ls ns cs) at d) in
          record {
            answered = taken_word f.answer ∙ ap took x.answered;
            bench = kept _ (λ j. record { marks = x.marks j; lengths = x.length_list j });
            name_list = x.name_list;
            count_list = x.count_list;
          }

      pub filed_even : r ≡ true → Files (file_of (of_view (agreement_from h.even rows.even) v) names counts 0 bytes i) f ls ns cs
          → TakeGives (taken (file_log (core_with b names counts) bytes v i)) (Ok f.answer)
          (bench_with (even_head h f.after) (even_rows rows ls)) ns cs
      filed_even t d =
          log_filed _ (bench_with (even_head h f.after) (even_rows rows ls)) 0 (place_even r v q t)
          (read_even r v q b t) d (keep_even r v q b t (agreement_from f.after ls))

      pub filed_odd : r ≡ false → Files (file_of (of_view (agreement_from h.odd rows.odd) v) names counts span bytes i) f ls ns cs
          → TakeGives (taken (file_log (core_with b names counts) bytes v i)) (Ok f.answer)
          (bench_with (odd_head h f.after) (odd_rows rows ls)) ns cs
      filed_odd t d =
          log_filed _ (bench_with (odd_head h f.after) (odd_rows rows ls)) span (place_odd r v q t)
          (read_odd r v q b t) d (keep_odd r v q b t (agreement_from f.after ls))

    -- ---- a PROPOSAL

    module _ (priority : ℕ) (m : Shown) (f : Given Answer Shown) (lengths ps ps' : List ℕ)
        (d : FilesProposal (file_proposal_of (proposals_from m lengths ps) names counts proposals_place bytes i priority) f ls ps' ns cs) where
      pub filed_proposal : proposals_from m lengths ps ≡ proposed_in (proposals_from h.shown rows.proposed rows.priorities) v
          → TakeGives (taken (file_proposal (core_with b names counts) bytes v i priority)) (Ok f.answer)
          (bench_with (shown_head h f.after) (shown_rows rows ls ps')) ns cs
      filed_proposal g =
          let x : FilesProposal (file_proposal_of (proposals_of b v) names counts proposals_place bytes i priority) f ls ps' ns cs =
          subst (λ (a : Proposals). FilesProposal (file_proposal_of a names counts proposals_place bytes i priority) f ls ps' ns cs)
          (g ∙ sym (proposals_slot b v)) d in
          record {
            answered = taken_word f.answer ∙ ap took x.answered;
            bench = ap {A = Proposals} {B = Bench} (with_proposals b)
                (λ j. record { marks = x.marks j; lengths = x.length_list j; priorities = x.priority_list j });
            name_list = x.name_list;
            count_list = x.count_list;
          }
