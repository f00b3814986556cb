-- Laws of the longest log with a grade: what `longest` computes is that log, or none where no log has the grade. Assumes nothing.
use Prim.Native.Nat.{ℕ, zero, suc, ◌+◌, ◌≤◌, ◌<◌}
use native.Mathlib.Decide.{dec_le}
use native.Mathlib.Nat.{le_refl}
use native.Mathlib.Omega.{arith}
use mathlib.Core.Path.{◌≡◌, refl, sym, ap, subst, ◌∙◌, fun_ext}
use mathlib.Core.Logic.{inl, inr, ◌↔◌}
use mathlib.Core.List.Memᴰ
use mathlib.Core.List.{List, [], ◌∷◌, ◌++◌, Memᴰ}
use mathlib.Core.Option.{Option, some, none, none-ne-some}
use mathlib.Core.Bool.{Bool, true, false, false≢true}
use lib.Dec.{ltb}
use lib.ListN.{length}
use borrow.Author.Tests.{ltb-true, ltb-false}
use Rattle.message.specs.Choice.{pick}
use Rattle.message.specs.Logs.{Block, Log, Prefix, empty, more}
use Rattle.message.proofs.TestLaws.{either}
use Rattle.message.proofs.LogLaws.{prefix_antisym, prefix_shorter}
use Rattle.agreement.specs.Sets.{Inside}
use Rattle.agreement.specs.Reading.{Reading, may_support, Grade, has_grade, LongestLog, Is, under, prefixes, candidates, longer}
use Rattle.agreement.specs.Reading.{longest_of, longest}
use Rattle.agreement.specs.Record.{Agreement, reading_of}
use Rattle.agreement.proofs.ReadingLaws.{may_iff, grade_iff, grade_prefix, grade_supporter, Alike, has_grade_cong, Beyond}
use Rattle.agreement.proofs.ReadingLaws.{has_grade_cut, uniqueness}

-- there is one right answer
pub longest_only : (n : ℕ) (w : ℕ → ℕ) (R : Reading) (o p : Option Log) → Is n w R o → Is n w R p → o ≡ p
longest_only n w R none none h k = refl
longest_only n w R none (some M) h k = absurd (h M k.grade)
longest_only n w R (some L) none h k = absurd (k L h.grade)
longest_only n w R (some L) (some M) h k =
    ap {B = Option Log} some (prefix_antisym (k.longest L h.grade) (h.longest M k.grade))

-- ---- the first longest log of a list that passes a test

-- L passes, and no log of the list that passes is longer
record LongestIn (p : Log → Bool) (Ls : List Log) (L : Log) : Type 0 where
  passes : p L ≡ true
  bound : (M : Log) → Memᴰ M Ls → p M ≡ true → length M ≤ length L

abbrev Found : (Log → Bool) → List Log → Option Log → Type 0
Found p Ls none = (M : Log) → Memᴰ M Ls → p M ≡ true → ⊥
Found p Ls (some L) = LongestIn p Ls L

not_both : {A : Type 0} (t : Bool) → t ≡ true → t ≡ false → A
not_both t e f = absurd (false≢true (sym f ∙ e))

skip : (p : Log → Bool) (K : Log) (Ls : List Log) (o : Option Log) → p K ≡ false → Found p Ls o → Found p (K ∷ Ls) o
skip p K Ls none e h = λ M i q. elim (Memᴰ.cases_cons i) [
  | inl s ↦ not_both (p M) q (ap p s ∙ e)
  | inr j ↦ h M j q
]
skip p K Ls (some L) e h = record {
  passes = h.passes;
  bound = λ M i q. elim (Memᴰ.cases_cons i) [ inl s ↦ not_both (p M) q (ap p s ∙ e) | inr j ↦ h.bound M j q ];
}

take : (p : Log → Bool) (K : Log) (Ls : List Log) (o : Option Log) → p K ≡ true → Found p Ls o → Found p (K ∷ Ls) (longer K o)
unfolding longer
take p K Ls none e h = record {
  passes = e;
  bound = λ M i q. elim (Memᴰ.cases_cons i) [
    | inl s ↦ let k : length M ≡ length K = ap length s in omega arith
    | inr j ↦ absurd (h M j q)
  ];
}
take p K Ls (some L) e h =
    either (ltb (length L) (length K))
    (λ t. let l = ltb-true (length L) (length K) t in rw t (record {
      passes = e;
      bound = λ M i q. elim (Memᴰ.cases_cons i) [
        | inl s ↦ let k : length M ≡ length K = ap length s in omega arith
        | inr j ↦ let k = h.bound M j q in omega arith
      ];
    }))
    (λ t. let l = ltb-false (length L) (length K) t in rw t (record {
      passes = h.passes;
      bound = λ M i q. elim (Memᴰ.cases_cons i) [
        | inl s ↦ let k : length M ≡ length K = ap length s in omega arith
        | inr j ↦ h.bound M j q
      ];
    }))

found : (p : Log → Bool) (Ls : List Log) → Found p Ls (longest_of p Ls)
unfolding longest_of
found p [] = λ M i q. Memᴰ.not-nil i
found p (K ∷ Ls) = either (p K) (λ e. rw e (take p K Ls (longest_of p Ls) e (found p Ls)))
    (λ e. rw e (skip p K Ls (longest_of p Ls) e (found p Ls)))

-- ---- every log with the grade is a candidate

under_mem : (b : Block) (L : Log) (Ls : List Log) → Memᴰ L Ls → Memᴰ (b ∷ L) (under b Ls)
unfolding under
under_mem b L [] i = absurd (Memᴰ.not-nil i)
under_mem b L (M ∷ Ms) i = elim (Memᴰ.cases_cons i) [
  | inl e ↦ Memᴰ.head (ap (λ (x : Log). b ∷ x) e)
  | inr j ↦ Memᴰ.tail (under_mem b L Ms j)
]

prefixes_mem : {P Q : Log} → Prefix P Q → Memᴰ P (prefixes Q)
unfolding prefixes
prefixes_mem {Q = []} empty = Memᴰ.head refl
prefixes_mem {Q = b ∷ Q} empty = Memᴰ.head refl
prefixes_mem (more {b = b} {P = P} {Q = Q} h) = Memᴰ.tail (under_mem b P (prefixes Q) (prefixes_mem h))

candidates_mem : (n : ℕ) (R : Reading) (i : ℕ) (L : Log) → i < n → R.single i ≡ true → Prefix L (R.log i) → Memᴰ L (candidates n R)
unfolding candidates
candidates_mem zero R i L l e h = absurd (omega arith)
candidates_mem (suc n) R i L l e h = elim (dec_le n i) [
  | yes k ↦ let q : i ≡ n = omega arith in
      let s = subst (λ (j : ℕ). R.single j ≡ true) q e in
      rw s (Memᴰ.append_left (candidates n R) (prefixes_mem (subst (λ (j : ℕ). Prefix L (R.log j)) q h)))
  | no k ↦ Memᴰ.append_right (pick (R.single n) (prefixes (R.log n)) []) (candidates_mem n R i L (omega arith) e h)
]

grade_candidate : (n : ℕ) (w : ℕ → ℕ) (R : Reading) (L : Log) → Grade n w R L → Memᴰ L (candidates n R)
grade_candidate n w R L g =
    let s = grade_supporter n w R L g in candidates_mem n R s.sender L s.below ((may_iff R s.sender).0 s.may).0 s.extends

-- ---- where no log has the grade

module _ (n : ℕ) (w : ℕ → ℕ) (R : Reading) where
  of_found : (o : Option Log) → Found (has_grade n w R) (candidates n R) o → (o ≡ none) ↔ ((M : Log) → Grade n w R M → ⊥)
  of_found none h = (λ e M g. h M (grade_candidate n w R M g) ((grade_iff n w R M).1 g), λ f. refl)
  of_found (some L) h = (λ e. absurd (none-ne-some _ (sym e)), λ f. absurd (f L ((grade_iff n w R L).0 h.passes)))

  -- "none where no log .. has it", and only there
  pub longest_none_iff : (longest n w R ≡ none) ↔ ((M : Log) → Grade n w R M → ⊥)
  unfolding longest
  longest_none_iff = of_found (longest n w R) (found (has_grade n w R) (candidates n R))

  -- that is so exactly if the empty log lacks the grade, since it is a prefix of every log
  pub longest_empty_iff : (longest n w R ≡ none) ↔ (Grade n w R [] → ⊥)
  longest_empty_iff = (λ e. longest_none_iff.0 e [], λ f. longest_none_iff.1 (λ M g. f (grade_prefix n w R empty g)))

  pub longest_nothing : (Grade n w R [] → ⊥) → longest n w R ≡ none
  longest_nothing = longest_empty_iff.1

  -- ---- where everyone who may support is heard

  module _ (heard : Inside n (may_support R) R.heard) where
    -- the longest of them is the one that has all others as prefixes
    of_length : (L : Log) → Grade n w R L → ((M : Log) → Grade n w R M → length M ≤ length L) → LongestLog n w R L
    of_length L g b = record { grade = g; longest = λ M h. prefix_shorter (uniqueness n w R M L heard h g) (b M h) }

    is_found : (o : Option Log) → Found (has_grade n w R) (candidates n R) o → Is n w R o
    is_found none h = λ M g. h M (grade_candidate n w R M g) ((grade_iff n w R M).1 g)
    is_found (some L) h =
        of_length L ((grade_iff n w R L).0 h.passes) (λ M g. h.bound M (grade_candidate n w R M g) ((grade_iff n w R M).1 g))

    -- what is computed is right
    longest_is : Is n w R (longest n w R)
    unfolding longest
    longest_is = is_found (longest n w R) (found (has_grade n w R) (candidates n R))

    -- an answer is what is computed exactly if it is right
    pub longest_iff : (o : Option Log) → (longest n w R ≡ o) ↔ Is n w R o
    longest_iff o = (λ e. subst (λ (p : Option Log). Is n w R p) e longest_is, λ h. longest_only n w R (longest n w R) o longest_is h)

    -- to be the longest by length is enough
    pub longest-by-length : (L : Log) → Grade n w R L → ((M : Log) → Grade n w R M → length M ≤ length L) → longest n w R ≡ some L
    longest-by-length L g b = (longest_iff (some L)).1 (of_length L g b)

-- ---- readings alike have the same longest log

pick_cong : (a b : Bool) (L M : Log) → a ≡ b → (a ≡ true → L ≡ M) → pick a (prefixes L) [] ≡ pick b (prefixes M) []
pick_cong true b L M p h = let q = h refl in λ i. pick (p i) (prefixes (q i)) []
pick_cong false b L M p h = rw (← p)

candidates_cong : (n : ℕ) (R T : Reading) → Alike n R T → candidates n R ≡ candidates n T
unfolding candidates
candidates_cong zero R T a = refl
candidates_cong (suc n) R T a =
    let p = pick_cong (R.single n) (T.single n) (R.log n) (T.log n) (a.single n (le_refl (suc n))) (a.log n (le_refl (suc n))) in
    let q = candidates_cong n R T (record {
      heard = λ i l. a.heard i (omega arith);
      single = λ i l. a.single i (omega arith);
      snap = λ i l. a.snap i (omega arith);
      log = λ i l. a.log i (omega arith);
    }) in
    λ i. p i ++ q i

pub longest_cong : (n : ℕ) (w : ℕ → ℕ) {R T : Reading} → Alike n R T → longest n w R ≡ longest n w T
unfolding longest
longest_cong n w {R} {T} a =
    let p : has_grade n w R ≡ has_grade n w T = fun_ext (λ L. has_grade_cong n w a L) in
    let q = candidates_cong n R T a in
    λ i. longest_of (p i) (q i)

-- ---- counting more senders than may be heard changes nothing

candidates_cut : (n d : ℕ) (R : Reading) → Beyond n d R → candidates (n + d) R ≡ candidates n R
unfolding candidates
candidates_cut n zero R b = let s : n + 0 ≡ n = omega arith in ap (λ (k : ℕ). candidates k R) s
candidates_cut n (suc d) R b =
    let s : n + suc d ≡ suc (n + d) = omega arith in
    let e = b.single (n + d) (omega arith) (omega arith) in
    let r = candidates_cut n d R (record { heard = λ i h l. b.heard i h (omega arith); single = λ i h l. b.single i h (omega arith) }) in
    ap (λ (k : ℕ). candidates k R) s ∙ (λ i. pick (e i) (prefixes (R.log (n + d))) [] ++ r i)

pub longest_cut : (n d : ℕ) (w : ℕ → ℕ) (R : Reading) → Beyond n d R → longest (n + d) w R ≡ longest n w R
unfolding longest
longest_cut n d w R b =
    let p : has_grade (n + d) w R ≡ has_grade n w R = fun_ext (λ L. has_grade_cut n d w R b L) in
    let q = candidates_cut n d R b in
    λ i. longest_of (p i) (q i)

-- ---- in every record, everyone who may support is heard: it is in V, and so in S

pub record_heard : (n : ℕ) (names counts : List ℕ) (base : ℕ) (g : Agreement) (among : ℕ)
    → Inside n (may_support (reading_of names counts base g among)) (reading_of names counts base g among).heard
record_heard n names counts base g among i l e = rw ((may_iff (reading_of names counts base g among) i).0 e).0 refl
