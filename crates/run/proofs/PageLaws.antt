-- The page of a roll: its bytes one after the other, and a law for each return of the code that writes it. Assumes nothing.
use Prim.Native.Nat.{ℕ, zero, suc, ◌+◌, ◌/◌, ◌%◌, ◌≤◌, ◌<◌}
use native.Mathlib.Omega.{arith}
use mathlib.Core.Bool.{Bool, true, false, ◌||◌}
use mathlib.Core.List.{List, [], ◌∷◌, ◌++◌}
use mathlib.Core.Path.{◌≡◌, refl, sym, ap, ◌∙◌}
use borrow.Author.Tests.{lt-ltb, le-ltb, ltb-false}
use borrow.Author.Count.{below_more}
use lib.ListN.{length, get_or, set, length-append}
use lib.Seq.{get_or-set_same, get_or-set_other, ext_get_or}
use Rattle.std.specs.Prelude.{Option, Some, None}
use Rattle.message.specs.Numbers.{part}
use Rattle.message.proofs.TestLaws.{or_false, or_true}
use Rattle.message.proofs.NumberLaws.{bytes_four, length_bytes}
use Rattle.message.proofs.PartLaws.{part_all, length_part}
use Rattle.agreement.specs.Sets.{member, is_yes}
use Rattle.agreement.specs.Record.{Agreement, agreement_from}
use Rattle.agreement.specs.declared.Marks.{Marks}
use Rattle.agreement.specs.declared.Longest.{Longest}
use Rattle.bench.specs.Layout.{Lent}
use Rattle.bench.specs.Calendar.{Act}
use Rattle.bench.specs.Calls.{Core, State}
use Rattle.bench.specs.Support.{SupportGives}
use Rattle.bench.specs.Record.{Bench}
use Rattle.bench.specs.declared.Counted.{Counted}
use Rattle.run.specs.Roll.{events_of, misshapen}
use Rattle.run.specs.RollSteps.{Puts, Few, Runs, unshown}
use Rattle.run.specs.Held.{held_after, first_calls, opening_of, open_refuses, held_at, scant, too_few, nothing_shown}
use Rattle.run.specs.Page.{flag, flags_from, set_bytes, head_bytes, sets_bytes, slot_bytes, grade_bytes, read_bytes, page_bytes, page_length}
use Rattle.run.specs.Page.{ReadsNow, GivesPage, no_page}
use Rattle.run.proofs.TextLaws.{puts_then, puts_three}
use Rattle.run.proofs.HeldLaws.{silent}

-- ---- a set

pub flag_is : (t : Bool) → mir.Val.bool_byte t ≡ flag t
flag_is true = refl
flag_is false = refl

length_flags : (s : ℕ) (i m : ℕ) → length (flags_from s i m) ≡ m
unfolding flags_from
length_flags s i zero = refl
length_flags s i (suc m) = ap suc (length_flags s (i + 1) m)

flags_at : (s : ℕ) (i m k : ℕ) → k < m → get_or (flags_from s i m) k 0 ≡ flag (member s (i + k))
unfolding flags_from
flags_at s i zero k h = absurd (omega arith)
flags_at s i (suc m) zero h = ap (λ (j : ℕ). flag (member s j)) (omega arith)
flags_at s i (suc m) (suc k) h = flags_at s (i + 1) m k (omega arith) ∙ ap (λ (j : ℕ). flag (member s j)) (omega arith)

pub flags_more : (s : ℕ) (l : List ℕ) (i : ℕ) → i < length l → ((k : ℕ) → k < i → get_or l k 0 ≡ flag (member s k)) → (x : ℕ) (r : Bool)
    → x ≡ mir.Val.bool_byte r
    → r ≡ member s i
    → (k : ℕ) → k < i + 1 → get_or (set l i x) k 0 ≡ flag (member s k)
flags_more s l i h f x r e q =
    below_more _ i
    (λ k g. let n : k ≡ i → ⊥ = omega arith in get_or-set_other l i k x 0 n ∙ f k g)
    (get_or-set_same l i x 0 h ∙ e ∙ flag_is r ∙ ap flag q)

pub flags_are : (s : ℕ) (l : List ℕ) (i : ℕ) → length l ≡ 32 → 32 ≤ i → ((k : ℕ) → k < i → get_or l k 0 ≡ flag (member s k)) → l ≡ set_bytes s
flags_are s l i e q f =
    let n = length_flags s 0 32 in
    ext_get_or 0 l (set_bytes s) (omega arith)
    (λ k h. let z : 0 + k ≡ k = omega arith in f k (omega arith) ∙ ap (λ (j : ℕ). flag (member s j)) (sym z) ∙ sym (flags_at s 0 32 k (omega arith)))

-- ---- an agreement: its numbers first, with no lengths beside them

module _ (g : Marks) (at : ℕ) (l : List ℕ) (p : ℕ) (m : List ℕ) where
  pub head_put : (v : List ℕ) (x y : ℕ) → v ≡ g.view % 256 ∷ g.view / 256 % 256 ∷ g.view / 65536 % 256 ∷ g.view / 16777216 % 256 ∷ []
      → x ≡ flag (is_yes g.one.taken)
      → y ≡ flag (is_yes g.two.taken)
      → Puts (get_or v 0 0 ∷ get_or v 1 0 ∷ get_or v 2 0 ∷ get_or v 3 0 ∷ x ∷ y ∷ []) at l p m
      → Puts (head_bytes (agreement_from g [])) at l p m
  unfolding head_bytes
  head_put v x y d e f h =
      let second : g.view / 256 / 256 ≡ g.view / 65536 = omega arith in
      let third : g.view / 65536 / 256 ≡ g.view / 16777216 = omega arith in
      rw (bytes_four g.view, second, third, ← e, ← f) (rw d at h)

  module _ (q : ℕ) (o : List ℕ) (r : ℕ) (u : List ℕ) where
    pub slot_put : (lengths : List ℕ) → length lengths ≡ 32 → Puts (head_bytes (agreement_from g [])) at l p m → Puts lengths p m q o
        → Puts (sets_bytes (agreement_from g [])) q o r u → Puts (slot_bytes (agreement_from g lengths)) at l r u
    unfolding slot_bytes head_bytes sets_bytes
    slot_put lengths e a b c =
        let row : part lengths 0 32 ≡ lengths = rw (← e) (part_all lengths) in
        puts_three (head_bytes (agreement_from g [])) (part lengths 0 32) (sets_bytes (agreement_from g [])) at l p m q o r u a
        (rw row b) c

    pub sets_put : (r' : ℕ) (u' : List ℕ) → Puts (set_bytes g.voters) at l p m → Puts (set_bytes g.equivocators) p m q o
        → Puts (set_bytes g.one.senders) q o r u → Puts (set_bytes g.two.senders) r u r' u'
        → Puts (sets_bytes (agreement_from g [])) at l r' u'
    unfolding sets_bytes
    sets_put r' u' a b c d =
        puts_then (set_bytes g.voters)
        (set_bytes g.equivocators ++ (set_bytes g.one.senders ++ set_bytes g.two.senders)) at l p m r' u' a
        (puts_three (set_bytes g.equivocators) (set_bytes g.one.senders) (set_bytes g.two.senders) p m q o r u r' u' b c d)

-- ---- what is read

module _ (c : Counted) (at : ℕ) (l : List ℕ) (p : ℕ) (m : List ℕ) where
  pub read_nothing : c.grade ≡ None → Puts (0 ∷ 0 ∷ 0 ∷ c.supporters ∷ c.senders ∷ []) at l p m → Puts (read_bytes c) at l p m
  unfolding read_bytes
  read_nothing e h = rw e h

  pub read_longest : (g : Longest) → c.grade ≡ Some g → Puts (1 ∷ g.sender ∷ g.blocks ∷ c.supporters ∷ c.senders ∷ []) at l p m
      → Puts (read_bytes c) at l p m
  unfolding read_bytes
  read_longest g e h = rw e h

pub counts_few : (x : Core) (v : ℕ) (a : Act) (c : Counted) → SupportGives x v a c → Few c
counts_few x v a c g = record { supporters = g.few_supporters; senders = g.few_senders }

-- ---- the page

pub page_put : (b : Bench) (c : Counted) (at : ℕ) (l : List ℕ) (p : ℕ) (m : List ℕ) (q : ℕ) (o : List ℕ) (r : ℕ) (u : List ℕ)
    → Puts (slot_bytes b.even) at l p m
    → Puts (slot_bytes b.odd) p m q o → Puts (read_bytes c) q o r u → Puts (page_bytes b c) at l r u
unfolding page_bytes
page_put b c at l p m q o r u f g h = puts_three (slot_bytes b.even) (slot_bytes b.odd) (read_bytes c) at l p m q o r u f g h

slot_length : (g : Agreement) → length (slot_bytes g) ≡ 166
unfolding slot_bytes head_bytes sets_bytes
slot_length g = simp (length-append, length_bytes, length_part, length_flags)

grade_length : (a : Option Longest) → length (grade_bytes a) ≡ 3
grade_length None = refl
grade_length (Some g) = refl

pub page_length_lem : (b : Bench) (c : Counted) → length (page_bytes b c) ≡ page_length
unfolding page_bytes read_bytes
page_length_lem b c = simp (length-append, slot_length, grade_length)

-- ---- the calls before it

page_given : (s : List ℕ) (l : Lent) (k : ℕ) (o : Bench) → o ≡ (opening_of s l).bench → (y : State)
    → y ≡ held_after (record { bench = o; lent = l }) (first_calls s k) → (c : Counted) → ReadsNow y c
    → (before : List ℕ) (r : ℕ) (after : List ℕ) → Puts (page_bytes y.bench c) 0 before r after
    → GivesPage false (held_at s l k) l before r y.lent.names y.lent.counts after
page_given s l k o e y f c g before r after p =
    let h : y ≡ held_at s l k = rw e at f in
    record {
      answered = let n = page_length_lem y.bench c in p.place ∙ omega arith;
      name_list = ap (λ (x : State). x.lent.names) h;
      count_list = ap (λ (x : State). x.lent.counts) h;
      kept = λ e. let z : ◌≡◌ {A = ℕ} 0 1 = cc in absurd (omega arith);
      shown = λ e. record { count = c; reads = rw h at g; page = rw h at p.text };
    }

-- ---- whether there is one

or_three : (a b c d : Bool) → (a || (b || (c || d))) ≡ ((a || (b || c)) || d)
or_three true b c d = refl
or_three false true c d = refl
or_three false false c d = refl

module _ (least : ℕ) (s : List ℕ) (k : ℕ) (before : List ℕ) where
  pub shown_scant : length before < least → unshown least s k before ≡ true
  shown_scant h = rw (lt-ltb (length before) least h)

  pub shown_no_roll : misshapen s ≡ true → unshown least s k before ≡ true
  shown_no_roll e = rw e (or_true (scant least before))

  module _ (e : ℕ) (q : e ≡ events_of s) where
    pub shown_few : e < k → unshown least s k before ≡ true
    shown_few h = rw (lt-ltb (events_of s) k (omega arith), or_true (misshapen s)) (or_true (scant least before))

    pub shown_all : least ≤ length before → misshapen s ≡ false → k ≤ e → unshown least s k before ≡ false
    shown_all h f i = rw (le-ltb (length before) least h, f, le-ltb (events_of s) k (omega arith))

  module _ (e : unshown least s k before ≡ false) where
    within : (scant least before ≡ false) × ((misshapen s || too_few s k) ≡ false)
    within = or_false (scant least before) (misshapen s || too_few s k) e

    pub shown_room : least ≤ length before
    shown_room = ltb-false (length before) least within.0

    pub shown_calls : k ≤ events_of s
    shown_calls = ltb-false (events_of s) k (or_false (misshapen s) (too_few s k) within.1).1

  -- and then the bench is opened, or not
  module _ (l : Lent) where
    parts : nothing_shown least s k l before ≡ (unshown least s k before || open_refuses s l)
    unfolding nothing_shown
    parts = or_three (scant least before) (misshapen s) (too_few s k) (open_refuses s l)

    pub nothing_unshown : unshown least s k before ≡ true → nothing_shown least s k l before ≡ true
    nothing_unshown e = parts ∙ rw e

    pub nothing_shut : open_refuses s l ≡ true → nothing_shown least s k l before ≡ true
    nothing_shut e = parts ∙ rw e (or_true (unshown least s k before))

    pub something_shown : unshown least s k before ≡ false → open_refuses s l ≡ false → nothing_shown least s k l before ≡ false
    something_shown e f = parts ∙ rw (e, f)

-- ---- the promise

module _ (s : List ℕ) (k : ℕ) (l : Lent) (before : List ℕ) where
  pub page_none : no_page s k l before ≡ true → GivesPage (no_page s k l before) (held_at s l k) l before 0 l.names l.counts before
  page_none f =
      record {
        answered = rw f;
        name_list = rw f;
        count_list = rw f;
        kept = λ g. refl;
        shown = λ g. let z : ◌≡◌ {A = ℕ} 0 1 = cc in absurd (omega arith);
      }

  pub page_whole : no_page s k l before ≡ false → (o : Bench) → o ≡ (opening_of s l).bench → (y : State) (q : ℕ) (mid : List ℕ)
      → Runs false s k (record { bench = o; lent = l }) 0 before y q mid → (c : Counted) → ReadsNow y c
      → (r : ℕ) (after : List ℕ) → Puts (page_bytes y.bench c) 0 mid r after
      → GivesPage (no_page s k l before) (held_at s l k) l before r y.lent.names y.lent.counts after
  page_whole e o h y q mid f c g r after p =
      rw e
      (page_given s l k o h y f.left c g before r after
      (rw (silent s k (record { bench = o; lent = l }) before y q mid f) at p))
