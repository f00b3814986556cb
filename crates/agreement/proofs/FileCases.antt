-- Filing a LOG, case by case: what was found, and so what is answered and left. Assumes nothing.
use Prim.Native.Nat.{ℕ, ◌<◌}
use mathlib.Core.List.{List}
use mathlib.Core.Bool.{Bool, true, false}
use mathlib.Core.Path.{◌≡◌, refl, sym, ap, ◌∙◌}
use borrow.Author.Tests.{lt-leb}
use lib.ListN.{set}
use Rattle.message.specs.Numbers.{put}
use Rattle.message.specs.Logs.{same_log, names_of, counts_of}
use Rattle.message.specs.Message.{count_in, log_in}
use Rattle.agreement.specs.Limits.{most_senders, place_of}
use Rattle.agreement.specs.Sets.{member}
use Rattle.agreement.specs.Record.{Agreement, agreement_from, is_voter, is_equivocator, filed_log, heard_once, heard_twice}
use Rattle.agreement.specs.Filing.{unfit, file_of, Files, Fit, marked_by, LogStored}
use Rattle.agreement.specs.declared.Marks.{Marks}
use Rattle.agreement.specs.declared.Answer.{Answer}
use Rattle.agreement.specs.declared.Answer.TheVariants.{First, Second, Known}
use Rattle.agreement.proofs.FilingLaws.{fit_not_unfit}

module _ (m : Marks) (lengths names counts : List ℕ) (base : ℕ) (s : List ℕ) (i : ℕ) where
  -- known, and all is as it was
  abbrev g : Agreement
  g = agreement_from m lengths

  abbrev Still : Type 0
  Still = Files (file_of g names counts base s i) (record { answer = Known; after = m }) lengths names counts

  file-unfit : (r : Bool) → r ≡ unfit names counts base s i → r ≡ true → Still
  unfolding file_of
  file-unfit r e t = rw (← e, t) (record { answered = refl; marks = refl; length_list = refl; name_list = refl; count_list = refl })

  module _ (f : Fit names counts base s i) where
    file_equivocator : (z : Bool) → z ≡ is_equivocator g i → z ≡ true → Still
    unfolding file_of
    file_equivocator z p q =
        rw (fit_not_unfit names counts base s i f, ← p, q)
        (record { answered = refl; marks = refl; length_list = refl; name_list = refl; count_list = refl })

    module _ (z : Bool) (p : z ≡ is_equivocator g i) (q : z ≡ false) (y : Bool) (u : y ≡ is_voter g i) where
      module _ (v : y ≡ true) (r : Bool) (e : r ≡ same_log (log_in s) (filed_log names counts base lengths i)) where
        file_same : r ≡ true → Still
        unfolding file_of
        file_same t = rw (fit_not_unfit names counts base s i f, ← p, q, ← u, v, ← e, t)
            (record { answered = refl; marks = refl; length_list = refl; name_list = refl; count_list = refl })

        file_other : (h : Marks) → r ≡ false → h ≡ heard_twice m i
            → Files (file_of g names counts base s i) (record { answer = Second; after = h }) lengths names counts
        unfolding file_of
        file_other h t w = rw (fit_not_unfit names counts base s i f, ← p, q, ← u, v, ← e, t)
            (record { answered = refl; marks = w; length_list = refl; name_list = refl; count_list = refl })

      file_new : (h : Marks) (ls ns cs : List ℕ) → y ≡ false
          → (ns ≡ put names (place_of base i) (names_of (log_in s))) × (cs ≡ put counts (place_of base i) (counts_of (log_in s)))
          → ls ≡ set lengths i (count_in s) → h ≡ heard_once m i
          → Files (file_of g names counts base s i) (record { answer = First; after = h }) ls ns cs
      unfolding file_of
      file_new h ls ns cs v (a, b) l w =
          rw (fit_not_unfit names counts base s i f, ← p, q, ← u, v)
          (record { answered = refl; marks = w; length_list = l; name_list = a; count_list = b })

-- ---- the marks by the answer

module _ (m : Marks) (a : Answer) (i : ℕ) where
  pub marked_once : (h : Marks) → i < most_senders → a ≡ First → h ≡ heard_once m i → h ≡ marked_by m a i
  marked_once h l e w = w ∙ rw (e, lt-leb most_senders i l)

  pub marked_twice : (h : Marks) → i < most_senders → a ≡ Second → h ≡ heard_twice m i → h ≡ marked_by m a i
  marked_twice h l e w = w ∙ rw (e, lt-leb most_senders i l)

-- ---- the same by the two sets alone

module _ (voters equivocators : ℕ) (lengths names counts : List ℕ) (base : ℕ) (s : List ℕ) (i : ℕ) where
  abbrev Kept : Type 0
  Kept = LogStored voters equivocators lengths names counts base s i Known lengths names counts

  pub store_unfit : (r : Bool) → r ≡ unfit names counts base s i → r ≡ true → Kept
  store_unfit r e t = record { whole = λ m a b. file-unfit m lengths names counts base s i r e t }

  module _ (f : Fit names counts base s i) where
    pub store_equivocator : (z : Bool) → z ≡ member equivocators i → z ≡ true → Kept
    store_equivocator z p q =
        record { whole = λ m a b. file_equivocator m lengths names counts base s i f z (p ∙ ap (λ (k : ℕ). member k i) (sym b)) q }

    module _ (z : Bool) (p : z ≡ member equivocators i) (q : z ≡ false) (y : Bool) (u : y ≡ member voters i) where
      module _ (v : y ≡ true) (r : Bool) (e : r ≡ same_log (log_in s) (filed_log names counts base lengths i)) where
        pub store_same : r ≡ true → Kept
        store_same t = record {
          whole = λ m a b.
              file_same m lengths names counts base s i f z (p ∙ ap (λ (k : ℕ). member k i) (sym b)) q y
              (u ∙ ap (λ (k : ℕ). member k i) (sym a)) v r e t;
        }

        pub store_other : r ≡ false → LogStored voters equivocators lengths names counts base s i Second lengths names counts
        store_other t = record {
          whole = λ m a b.
              file_other m lengths names counts base s i f z (p ∙ ap (λ (k : ℕ). member k i) (sym b)) q y
              (u ∙ ap (λ (k : ℕ). member k i) (sym a)) v r e (marked_by m Second i) t
              (sym (marked_twice m Second i (heard_twice m i) f.few refl refl));
        }

      pub store_new : (ls ns cs : List ℕ) → y ≡ false
          → (ns ≡ put names (place_of base i) (names_of (log_in s))) × (cs ≡ put counts (place_of base i) (counts_of (log_in s)))
          → ls ≡ set lengths i (count_in s) → LogStored voters equivocators lengths names counts base s i First ls ns cs
      store_new ls ns cs v w l = record {
        whole = λ m a b.
            file_new m lengths names counts base s i f z (p ∙ ap (λ (k : ℕ). member k i) (sym b)) q y
            (u ∙ ap (λ (k : ℕ). member k i) (sym a)) (marked_by m First i) ls ns cs v w l
            (sym (marked_once m First i (heard_once m i) f.few refl refl));
      }

-- marks and lists together
pub filed_by : (m h : Marks) (lengths names counts : List ℕ) (base : ℕ) (s : List ℕ) (i : ℕ) (a : Answer) (ls ns cs : List ℕ)
    → LogStored m.voters m.equivocators lengths names counts base s i a ls ns cs → h ≡ marked_by m a i
    → Files (file_of (agreement_from m lengths) names counts base s i) (record { answer = a; after = h }) ls ns cs
filed_by m h lengths names counts base s i a ls ns cs d e =
    let x = d.whole m refl refl in
    record { answered = x.answered; marks = e ∙ x.marks; length_list = x.length_list; name_list = x.name_list; count_list = x.count_list }
