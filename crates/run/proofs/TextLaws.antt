-- Writing words and numbers into the text. Assumes nothing.
use Prim.Native.Nat.{ℕ, suc, ◌+◌, ◌-◌, ◌/◌, ◌%◌, ◌≤◌, ◌<◌}
use native.Mathlib.Numerals.{add-one}
use native.Mathlib.Omega.{arith}
use mathlib.Core.List.{List, [], ◌∷◌, ◌++◌, append_assoc}
use mathlib.Core.Path.{◌≡◌, refl, sym, ap, ◌∙◌}
use borrow.Author.Tests.{lt-ltb, le-ltb, eq-eqb, ne_eqb}
use lib.ListN.{length, get_or, set, drop, length-append}
use lib.Seq.{drop-cons, drop-length}
use Rattle.message.specs.Numbers.{put}
use Rattle.message.proofs.PartLaws.{put_nil, put_cons, put-append}
use Rattle.agreement.specs.Sets.{is_yes}
use Rattle.run.specs.Texts.{ascii, digits, decimal}
use Rattle.run.specs.RollText.{mark_text, first_line}
use Rattle.run.specs.RollSteps.{Puts, pair_of}

-- ---- a word, byte by byte

module _ (z l word : List ℕ) (p i : ℕ) (e : z ≡ put l p (drop i word)) where
  pub word_next : (x : ℕ) → i < length word → x ≡ get_or word i 0 → z ≡ put (set l p x) (p + 1) (drop (i + 1) word)
  word_next x h q = e ∙ rw (add-one i, drop-cons word i 0 h, q) (put_cons l p (get_or word i 0) (drop (suc i) word))

  pub word_end : length word ≤ i → i ≤ length word → l ≡ z
  word_end h k = let n : i ≡ length word = omega arith in sym (e ∙ rw (n, drop-length word) (put_nil l p))

-- ---- one after the other

pub puts_none : (xs : List ℕ) (at : ℕ) (l : List ℕ) → xs ≡ [] → Puts xs at l at l
puts_none xs at l e = record { place = rw e (omega arith); text = rw (e, put_nil l at) }

pub puts_then : (xs ys : List ℕ) (at : ℕ) (l : List ℕ) (r : ℕ) (m : List ℕ) (q : ℕ) (o : List ℕ) → Puts xs at l r m → Puts ys r m q o
    → Puts (xs ++ ys) at l q o
puts_then xs ys at l r m q o f g = record {
  place = g.place ∙ (rw length-append (omega (arith, f.place)));
  text = g.text ∙ rw (f.text, f.place) (sym (put-append l at xs ys));
}

-- the mark, of a flag that is a number
module _ (x at : ℕ) (l : List ℕ) (r : ℕ) (m : List ℕ) where
  pub puts_marked : (x ≡ 0 → ⊥) → Puts (ascii " parted\n") at l r m → Puts (mark_text (is_yes x) ++ ascii "\n") at l r m
  puts_marked e p = rw (ne_eqb x 0 e) p

  pub puts_unmarked : x ≡ 0 → Puts (ascii "\n") at l r m → Puts (mark_text (is_yes x) ++ ascii "\n") at l r m
  puts_unmarked e p = rw (eq-eqb x 0 e) p

module _ (xs ys zs : List ℕ) (at : ℕ) (l : List ℕ) (p : ℕ) (m : List ℕ) (q : ℕ) (o : List ℕ) (r : ℕ) (u : List ℕ) where
  pub puts_three : Puts xs at l p m → Puts ys p m q o → Puts zs q o r u → Puts (xs ++ (ys ++ zs)) at l r u
  puts_three f g h = puts_then xs (ys ++ zs) at l p m r u f (puts_then ys zs p m q o r u g h)

-- a word and its number, and then the rest
pub puts_after : (xs ys zs : List ℕ) (at : ℕ) (l : List ℕ) (p : ℕ) (m : List ℕ) (r : ℕ) (u : List ℕ) → Puts (xs ++ ys) at l p m
    → Puts zs p m r u
    → Puts (xs ++ (ys ++ zs)) at l r u
puts_after xs ys zs at l p m r u f g = rw (← append_assoc xs ys zs) (puts_then (xs ++ ys) zs at l p m r u f g)

pub puts_first : (own n : ℕ) (l : List ℕ) (p : ℕ) (m : List ℕ) (q : ℕ) (o : List ℕ) (r : ℕ) (u : List ℕ)
    → Puts (ascii "bench " ++ decimal own) 0 l p m
    → Puts (ascii " of " ++ decimal n) p m q o → Puts (ascii "\n") q o r u → Puts (first_line own n) 0 l r u
unfolding first_line
puts_first own n l p m q o r u f g h =
    puts_after (ascii "bench ") (decimal own) (ascii " of " ++ (decimal n ++ ascii "\n")) 0 l p m r u f
    (puts_after (ascii " of ") (decimal n) (ascii "\n") p m q o r u g h)

-- ---- digits

digits_step : (m x : ℕ) → 0 < m → 10 ≤ x → digits m x ≡ digits (m - 1) (x / 10) ++ ((48 + x % 10) ∷ [])
unfolding digits
digits_step m x h k = let e : m ≡ suc (m - 1) = omega arith in ap (λ (n : ℕ). digits n x) e ∙ rw (le-ltb x 10 k)

digits_one : (m x : ℕ) → 0 < m → x < 10 → digits m x ≡ (48 + x) ∷ []
unfolding digits
digits_one m x h k = let e : m ≡ suc (m - 1) = omega arith in ap (λ (n : ℕ). digits n x) e ∙ rw (lt-ltb x 10 k)

pub digits_none : (m x : ℕ) → m ≡ 0 → digits m x ≡ []
unfolding digits
digits_none m x e = rw e

pub digit_one : (m x at : ℕ) (l : List ℕ) → 0 < m → x < 10 → Puts (digits m x) at l (at + 1) (set l at (48 + x))
digit_one m x at l n h = let e = digits_one m x n h in record { place = rw e; text = rw (e, put_cons, put_nil) }

digits_two : (m x : ℕ) → 1 < m → 10 ≤ x → x < 100 → digits m x ≡ pair_of x
digits_two m x h k l =
    digits_step m x (omega arith) k
    ∙ ap (λ (xs : List ℕ). xs ++ ((48 + x % 10) ∷ [])) (digits_one (m - 1) (x / 10) (omega arith) (omega arith))

digits_pair : (m n x : ℕ) → m ≡ n + 2 → 100 ≤ x → digits m x ≡ digits n (x / 100) ++ pair_of (x % 100)
digits_pair m n x e h =
    let k : m - 1 - 1 ≡ n = omega arith in
    let d : x / 10 / 10 ≡ x / 100 = omega arith in
    let t : x / 10 % 10 ≡ x % 100 / 10 = omega arith in
    let u : x % 10 ≡ x % 100 % 10 = omega arith in
    digits_step m x (omega arith) (omega arith)
    ∙ ap (λ (xs : List ℕ). xs ++ ((48 + x % 10) ∷ [])) (digits_step (m - 1) (x / 10) (omega arith) (omega arith))
    ∙ append_assoc (digits (m - 1 - 1) (x / 10 / 10)) ((48 + x / 10 % 10) ∷ []) ((48 + x % 10) ∷ [])
    ∙ (λ i. digits (k i) (d i) ++ ((48 + t i) ∷ (48 + u i) ∷ []))

pub pair_puts : (x at : ℕ) (l : List ℕ) → Puts (pair_of x) at l (at + 2) (set (set l at (48 + x / 10)) (at + 1) (48 + x % 10))
pair_puts x at l = record { place = refl; text = rw (put_cons l at, put_cons, put_nil) }

pub digits_are_two : (m x at : ℕ) (l : List ℕ) (r : ℕ) (o : List ℕ) → 1 < m → 10 ≤ x → x < 100 → Puts (pair_of x) at l r o
    → Puts (digits m x) at l r o
digits_are_two m x at l r o h k g f = rw (digits_two m x h k g) f

pub pair_more : (m n x at : ℕ) (l : List ℕ) (p : ℕ) (o : List ℕ) (r : ℕ) (u : List ℕ) → m ≡ n + 2 → 100 ≤ x
    → Puts (digits n (x / 100)) at l p o
    → Puts (pair_of (x % 100)) p o r u → Puts (digits m x) at l r u
pair_more m n x at l p o r u e h f g = rw (digits_pair m n x e h) (puts_then (digits n (x / 100)) (pair_of (x % 100)) at l p o r u f g)
