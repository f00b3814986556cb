-- S, V and the log of a sender in V, over a list of LOGs heard: each by the LOGs in the list, which of a sender's LOGs have to be passed
-- on, and the grades. Assumes nothing.
use Prim.Native.Nat.{ℕ}
use mathlib.Core.Path.{◌≡◌, refl, sym, ap, subst, ◌∙◌}
use mathlib.Core.Logic.{◌⊎◌, inl, inr}
use mathlib.Core.List.Memᴰ
use mathlib.Core.List.{List, [], ◌∷◌, Memᴰ as Mem}
use mathlib.Core.Option.{Option, some, none}
use mathlib.Core.Bool.{Bool, true, false, not, ◌&&◌, false≢true}
use lib.Dec.{eqb}
use borrow.Author.Tests.{eq-eqb}
use Rattle.message.specs.Choice.{pick}
use Rattle.message.specs.Logs.{Log, same_log}
use Rattle.message.specs.Message.{Content}
use Rattle.message.proofs.TestLaws.{either, or_false}
use Rattle.message.proofs.LogLaws.{same_log_iff}
use Rattle.agreement.specs.Reading.{Grade, LongestLog, longest}
use Rattle.agreement.specs.Filing.{first, second}
use Rattle.agreement.specs.Kept.{Kept, only, differing, word_on, heard_of, single_of}
use Rattle.agreement.specs.Heard.{some_differs, kept_of, logs_from, heard_logs, voters_of, only_log, reading_from, grade_with}
use Rattle.agreement.proofs.GradeSources.{single_heard, reading_heard, log_by, logs_mem}
use Rattle.agreement.proofs.LongestLaws.{longest_iff, longest_none_iff}

-- ---- one sender's logs in one view

mem_logs : (heard : List Content) (h : Content) → Mem h heard → Mem h.log (logs_from heard h.view h.sender)
unfolding logs_from
mem_logs [] h i = absurd (Memᴰ.not-nil i)
mem_logs (k ∷ ks) h i = go (Memᴰ.cases_cons i) (mem_logs ks h)
  where
    more : (t : Bool) → Mem h.log (logs_from ks h.view h.sender)
        → Mem h.log (pick t (k.log ∷ logs_from ks h.view h.sender) (logs_from ks h.view h.sender))
    more true j = Mem.tail j
    more false j = j

    go : (h ≡ k) ⊎ Mem h ks → (Mem h ks → Mem h.log (logs_from ks h.view h.sender))
        → Mem h.log (logs_from (k ∷ ks) h.view h.sender)
    go (inl e) below =
        rw (
          eq-eqb k.view h.view (ap (λ (x : Content). x.view) (sym e)),
          eq-eqb k.sender h.sender (ap (λ (x : Content). x.sender) (sym e)),
        )
        (Mem.head (ap (λ (x : Content). x.log) e))
    go (inr j) below = more (eqb k.view h.view && eqb k.sender h.sender) (below j)

-- ---- what a list of logs comes to

-- no log differs from x exactly if all are x
differs_all : (x : Log) (ys : List Log) → some_differs same_log x ys ≡ false → (y : Log) → Mem y ys → y ≡ x
unfolding some_differs
differs_all x [] e y i = absurd (Memᴰ.not-nil i)
differs_all x (z ∷ zs) e y i =
    let q = or_false (not (same_log x z)) (some_differs same_log x zs) e in
    elim (Memᴰ.cases_cons i) [
      | inl p ↦ p ∙ sym ((same_log_iff x z).0 (either (same_log x z) (λ t. t) (λ t. absurd (false≢true (sym q.0 ∙ ap not t)))))
      | inr j ↦ differs_all x zs q.1 y j
    ]

all_differs : (x : Log) (ys : List Log) → ((y : Log) → Mem y ys → y ≡ x) → some_differs same_log x ys ≡ false
unfolding some_differs
all_differs x [] h = refl
all_differs x (z ∷ zs) h =
    rw ((same_log_iff x z).1 (sym (h z (Mem.head refl)))) (all_differs x zs (λ y i. h y (Mem.tail i)))

-- where one log is kept, each of the list is that one
single_all : (Ls : List Log) → single_of (kept_of same_log Ls) ≡ true → (M : Log) → Mem M Ls → M ≡ only_log (kept_of same_log Ls)
unfolding kept_of
single_all [] e M i = absurd (Memᴰ.not-nil i)
single_all (x ∷ xs) e M i = go (some_differs same_log x xs) refl e
  where
    go : (t : Bool) → some_differs same_log x xs ≡ t → single_of {A = Log} (pick t differing (only x)) ≡ true
        → M ≡ only_log (pick t differing (only x))
    go true q f = absurd (false≢true f)
    go false q f = elim (Memᴰ.cases_cons i) [ inl p ↦ p | inr j ↦ differs_all x xs q M j ]

-- and the other way about
all_only : (Ls : List Log) (L : Log) → Mem L Ls → ((M : Log) → Mem M Ls → M ≡ L) → kept_of same_log Ls ≡ only L
unfolding kept_of
all_only [] L i all = absurd (Memᴰ.not-nil i)
all_only (x ∷ xs) L i all =
    let e = all x (Mem.head refl) in
    rw (all_differs x xs (λ y j. all y (Mem.tail j) ∙ sym e)) (ap {B = Kept Log} only e)

-- ---- none, one or two logs, and whether they had to be passed on

-- What a sender's logs in a view come to: none; all one log, of which P holds; or two different ones, of which both P holds.
pub data Status (P : Log → Type 0) (Ls : List Log) : Type 0 where
  no_log : Ls ≡ [] → Status P Ls
  one_log : (L : Log) → P L → Mem L Ls → ((M : Log) → Mem M Ls → M ≡ L) → Status P Ls
  two_logs : (L M : Log) → P L → P M → Mem L Ls → Mem M Ls → (L ≡ M → ⊥) → Status P Ls

-- one more log: it is enough that P holds of it where the answer to it is first or second
pub status_add : (P : Log → Type 0) (Ls : List Log) (K : Log)
    → ((word_on same_log (kept_of same_log Ls) K ≡ first) ⊎ (word_on same_log (kept_of same_log Ls) K ≡ second) → P K) → Status P Ls
    → Status P (K ∷ Ls)
unfolding word_on kept_of
status_add P Ls K new (no_log e) =
    one_log K (new (inl (rw e))) (Mem.head refl)
    (λ M i. elim (Memᴰ.cases_cons i) [ inl p ↦ p | inr j ↦ absurd (Memᴰ.not-nil (rw e at j)) ])
status_add P Ls K new (one_log L h i all) =
    either (same_log K L)
    (λ q. one_log L h (Mem.tail i) (λ M j. elim (Memᴰ.cases_cons j) [ inl p ↦ p ∙ (same_log_iff K L).0 q | inr k ↦ all M k ]))
    (λ q.
    two_logs L K h (new (inr (rw (all_only Ls L i all) (rw q)))) (Mem.tail i) (Mem.head refl)
    (λ e. false≢true (sym q ∙ (same_log_iff K L).1 (sym e))))
status_add P Ls K new (two_logs L M g h i j d) = two_logs L M g h (Mem.tail i) (Mem.tail j) d

pub status_map : (P Q : Log → Type 0) (Ls : List Log) → ((L : Log) → P L → Q L) → Status P Ls → Status Q Ls
status_map P Q Ls f (no_log e) = no_log e
status_map P Q Ls f (one_log L h i a) = one_log L (f L h) i a
status_map P Q Ls f (two_logs L M g h i j d) = two_logs L M (f L g) (f M h) i j d

-- ---- S, V and the log of a sender in V

some_kept : (Ls : List Log) (L : Log) → Mem L Ls → heard_of (kept_of same_log Ls) ≡ true
unfolding kept_of
some_kept [] L i = absurd (Memᴰ.not-nil i)
some_kept (x ∷ xs) L i = either (some_differs same_log x xs) (λ q. rw q) (λ q. rw q)

-- a sender heard is in S
pub heard_S : (heard : List Content) (h : Content) → Mem h heard → heard_of (heard_logs heard h.view h.sender) ≡ true
heard_S heard h i = some_kept (logs_from heard h.view h.sender) h.log (mem_logs heard h i)

-- a log taken of a sender in V is its log
pub V_only : (heard : List Content) (v s : ℕ) (L : Log) → voters_of (heard_logs heard v) s ≡ true → Mem (log_by s v L) heard
    → L ≡ only_log (heard_logs heard v s)
V_only heard v s L e i = single_all (logs_from heard v s) e L (mem_logs heard (log_by s v L) i)

module _ (heard : List Content) (v s : ℕ) (P : Log → Type 0) (status : Status P (logs_from heard v s)) where
  -- a LOG of a sender in S
  pub S_some : heard_of (heard_logs heard v s) ≡ true → (L : Log) × Mem (log_by s v L) heard × P L
  unfolding kept_of
  S_some e = go status
    where
      go : Status P (logs_from heard v s) → (L : Log) × Mem (log_by s v L) heard × P L
      go (no_log q) = absurd (false≢true (rw q at e))
      go (one_log L h i a) = (L, logs_mem heard v s L i, h)
      go (two_logs L M g h i j d) = (L, logs_mem heard v s L i, g)

  -- the LOG of a sender in V
  pub V_some : voters_of (heard_logs heard v) s ≡ true
      → Mem (log_by s v (only_log (heard_logs heard v s))) heard × P (only_log (heard_logs heard v s))
  V_some e =
      let x = S_some (single_heard (heard_logs heard v s) e) in
      let p = V_only heard v s x.0 e x.1 in
      (subst (λ (L : Log). Mem (log_by s v L) heard) p x.1, subst P p x.2)

  -- a sender in S is in V, or has two different LOGs
  pub S_cases : heard_of (heard_logs heard v s) ≡ true
      → (voters_of (heard_logs heard v) s ≡ true)
      ⊎ ((L : Log) × (M : Log) × Mem (log_by s v L) heard × Mem (log_by s v M) heard × P L × P M × (L ≡ M → ⊥))
  unfolding kept_of
  S_cases e = go status
    where
      go : Status P (logs_from heard v s)
          → (voters_of (heard_logs heard v) s ≡ true)
          ⊎ ((L : Log) × (M : Log) × Mem (log_by s v L) heard × Mem (log_by s v M) heard × P L × P M × (L ≡ M → ⊥))
      go (no_log q) = absurd (false≢true (rw q at e))
      go (one_log L h i a) = inl (ap single_of (all_only (logs_from heard v s) L i a))
      go (two_logs L M g h i j d) = inr (L, M, logs_mem heard v s L i, logs_mem heard v s M j, g, h, d)

-- ---- a grade with its snapshot

-- the log given is the longest of the reading
pub grade_longest : (n : ℕ) (w : ℕ → ℕ) (logs : ℕ → Kept Log) (among : ℕ → Bool) (L : Log) → grade_with n w logs (some among) ≡ some L
    → LongestLog n w (reading_from logs among) L
unfolding grade_with
grade_longest n w logs among L e = (longest_iff n w (reading_from logs among) (reading_heard n w logs among) (some L)).0 e

-- where some log has the grade, one is given
pub grade_some : (n : ℕ) (w : ℕ → ℕ) (logs : ℕ → Kept Log) (among : ℕ → Bool) (K : Log) → Grade n w (reading_from logs among) K
    → (L : Log) × (grade_with n w logs (some among) ≡ some L)
unfolding grade_with
grade_some n w logs among K g = go (longest n w (reading_from logs among)) refl
  where
    go : (o : Option Log) → longest n w (reading_from logs among) ≡ o → (L : Log) × (longest n w (reading_from logs among) ≡ some L)
    go none e = absurd ((longest_none_iff n w (reading_from logs among)).0 e K g)
    go (some L) e = (L, e)
