-- Reading a grade: from the log that the majority follows to the longest log with the grade. Assumes nothing.
use Prim.Native.Nat.{ℕ, zero, suc, ◌+◌, ◌*◌, ◌≤◌, ◌<◌}
use native.Mathlib.Omega.{arith}
use mathlib.Core.Bool.{Bool, true, false, ◌&&◌, ◌||◌, and-eq-true_iff}
use mathlib.Core.List.{List, []}
use mathlib.Core.Path.{◌≡◌, refl, sym, ap, ◌∙◌}
use borrow.Author.Tests.{ne_eqb, ltb-false}
use lib.Dec.{ltb}
use lib.ListN.{length, get_or}
use Rattle.std.specs.Prelude as std
use Rattle.std.specs.Prelude.{Some, None}
use Rattle.message.specs.Limits.{most_blocks}
use Rattle.message.specs.Logs.{Log, is_prefix}
use Rattle.message.specs.Store.{log_at}
use Rattle.message.proofs.TestLaws.{or_false}
use Rattle.message.proofs.ListedLaws.{length_at_lem}
use Rattle.agreement.specs.Limits.{most_senders, span, place_of}
use Rattle.agreement.specs.Sets.{weigh, ones, count, member}
use Rattle.agreement.specs.Reading.{Reading, may_support, supports, Grade, longest}
use Rattle.agreement.specs.Record.{Agreement, agreement_from, is_sender, lacks_room, overlong, reading_of, snapshot_now}
use Rattle.agreement.specs.Grades.{grade_among, snapshot_for, grade_of, Gives}
use Rattle.agreement.specs.Steps.{Readable, Lent, SetOf, backing, Extending, Extended}
use Rattle.agreement.specs.declared.Snapshot.{Snapshot}
use Rattle.agreement.specs.declared.Marks.{Marks}
use Rattle.agreement.specs.declared.Longest.{Longest}
use Rattle.agreement.proofs.SetLaws.{weigh_mono, weigh_cong, weigh_none}
use Rattle.agreement.proofs.LongestLaws.{longest_nothing, longest-by-length, record_heard}
use Rattle.agreement.proofs.ExtendLaws.{back_empty}

-- what following the majority asks
pub extend_asks : (voters equivocators among may all x : ℕ)
    → SetOf (λ (i : ℕ). member voters i && member among i) most_senders may
    → all ≡ count most_senders (λ (i : ℕ). member voters i || member equivocators i) → x ≡ count most_senders (member may)
    → all < 2 * x → Extending may all
extend_asks voters equivocators among may all x both heard e h = record {
  few =
      let m = weigh_mono most_senders ones (member may) (λ (i : ℕ). member voters i || member equivocators i) (λ j l t.
      rw ((and-eq-true_iff (member voters j) (member among j)).0 (sym (both.at j l) ∙ t)).0 refl) in
      omega arith;
  enough = omega arith;
}

module _ (names counts : List ℕ) (base : ℕ) (m : Marks) (lengths : List ℕ) (among : ℕ) where
  abbrev g : Agreement
  g = agreement_from m lengths

  -- what the grade reads
  abbrev R : Reading
  R = reading_of names counts base g among

  module _ (may : ℕ) (both : SetOf (λ (i : ℕ). member m.voters i && member among i) most_senders may) (all : ℕ)
      (heard : all ≡ count most_senders (is_sender g)) where
    abbrev back : Log → ℕ → Bool
    back = backing names counts base lengths may

    -- supporters, as they are counted
    supporters : (L : Log) → weigh most_senders ones (supports R L) ≡ count most_senders (back L)
    unfolding supports may_support
    supporters L =
        weigh_cong most_senders ones (supports R L) (back L) (λ j h. ap (λ (t : Bool). t && is_prefix L (R.log j)) (sym (both.at j h)))

    -- to have the grade is to have a majority
    of_grade : (L : Log) → Grade most_senders ones R L → all < 2 * count most_senders (back L)
    unfolding Grade
    of_grade L q = let e = supporters L in omega arith

    to_grade : (L : Log) → all < 2 * count most_senders (back L) → Grade most_senders ones R L
    unfolding Grade
    to_grade L q = let e = supporters L in omega arith

    pub find_found : (r : std.Option Longest) → Extended names counts base lengths may all r
        → Gives (longest most_senders ones R) names counts base r
    find_found None c = absurd c.top
    find_found (Some p) c = record {
      log = sym (longest-by-length most_senders ones R (record_heard most_senders names counts base g among)
          (log_at names counts (place_of base p.sender) p.blocks)
          (to_grade (log_at names counts (place_of base p.sender) p.blocks) c.top.majority)
          (λ M q. let a = c.top.longest M (of_grade M q) in let e = length_at_lem names counts (place_of base p.sender) p.blocks in omega arith));
      placed = (c.top.place, c.top.few);
    }

    -- where the empty log lacks the grade, no log has it
    pub find_none : (x : ℕ) → x ≡ count most_senders (member may) → 2 * x ≤ all
        → Gives (longest most_senders ones R) names counts base None
    find_none x e h = record {
      log = sym (longest_nothing most_senders ones R (λ q.
          let a = of_grade [] q in
          let b = weigh_cong most_senders ones (back []) (member may) (back_empty names counts base lengths may all) in
          omega arith));
      placed = tt;
    }

-- ---- every record

module _ (names counts : List ℕ) (base : ℕ) (lengths : List ℕ) (v x : Bool) (e : v ≡ lacks_room names counts base)
    (f : x ≡ ltb 0 (count most_senders (λ (i : ℕ). ltb most_blocks (get_or lengths i 0)))) where
  pub barred_by : (t : Bool) → (v || x) ≡ t → (lacks_room names counts base || overlong lengths) ≡ t
  unfolding overlong
  barred_by t h = rw (← e, ← f) h

module _ (names counts : List ℕ) (base : ℕ) (lengths : List ℕ) where
  pub readable_where : (lacks_room names counts base || overlong lengths) ≡ false → Readable names counts base lengths
  unfolding overlong
  readable_where t =
      let p = or_false (lacks_room names counts base) (ltb 0 (count most_senders (λ (i : ℕ). ltb most_blocks (get_or lengths i 0)))) t in
      let q = or_false (ltb (length names) (base + span)) (ltb (length counts) (base + span)) p.0 in
      let z = ltb-false 0 (count most_senders (λ (i : ℕ). ltb most_blocks (get_or lengths i 0))) p.1 in
      record {
        in_names = ltb-false (length names) (base + span) q.0;
        in_counts = ltb-false (length counts) (base + span) q.1;
        short = λ i h. ltb-false most_blocks (get_or lengths i 0)
            (weigh_none most_senders (λ (j : ℕ). ltb most_blocks (get_or lengths j 0)) i (omega arith) h);
      }

  module _ (m : Marks) (among : ℕ) where
    pub among_none : (r : std.Option Longest) → r ≡ None → (lacks_room names counts base || overlong lengths) ≡ true
        → Gives (grade_among names counts base (agreement_from m lengths) among) names counts base r
    unfolding grade_among
    among_none r e t = rw e (record { log = rw t; placed = tt })

    pub among_found : (ns cs ls : List ℕ) (b : ℕ) → Lent names counts base lengths ns cs b ls → (r : std.Option Longest)
        → Gives (longest most_senders ones (reading_of ns cs b (agreement_from m ls) among)) ns cs b r
        → Gives (grade_among names counts base (agreement_from m lengths) among) names counts base r
    unfolding grade_among
    among_found ns cs ls b k r h = rw (k.0) (rw (k.1, k.2, k.3, k.4) at h)

-- ---- which snapshot serves a grade, from the tests of the code

pub serves_zero : (m : Marks) (k : ℕ) (r : Snapshot) → k ≡ 0 → r ≡ snapshot_now m → r ≡ snapshot_for k m
serves_zero m k r e f = rw e f

pub serves_one : (m : Marks) (k : ℕ) → k ≡ 1 → m.two ≡ snapshot_for k m
serves_one m k e = rw e

pub serves_two : (m : Marks) (k : ℕ) → (k ≡ 0 → ⊥) → (k ≡ 1 → ⊥) → m.one ≡ snapshot_for k m
serves_two m zero e f = absurd (e refl)
serves_two m (suc zero) e f = absurd (f refl)
serves_two m (suc (suc k)) e f = refl

-- ---- a grade by its snapshot

module _ (names counts : List ℕ) (base : ℕ) (g : Agreement) (k : ℕ) (s : Snapshot) (e : s ≡ snapshot_for k g.marks) where
  pub with_snapshot_lem : (r : std.Option Longest) → (s.taken ≡ 0 → ⊥) → Gives (grade_among names counts base g s.senders) names counts base r
      → Gives (grade_of names counts base g k) names counts base r
  with_snapshot_lem r t h = rw (← e, ne_eqb s.taken 0 t) h
