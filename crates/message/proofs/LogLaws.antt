-- Laws of prefix and conflict: the order, what two logs that do not conflict are to each other, and the tests tied to the relations.
-- Assumes nothing.
use Prim.Native.Nat.{ℕ, suc, ◌≤◌}
use native.Mathlib.Nat.{le_of_suc-le-suc}
use native.Mathlib.Omega.{arith}
use mathlib.Core.Path.{◌≡◌, refl, sym, ap, subst, ◌∙◌}
use mathlib.Core.Logic.{inl, inr, ◌↔◌}
use mathlib.Core.List.{List, [], ◌∷◌, ◌++◌}
use mathlib.Core.Bool.{Bool, true, false, ◌&&◌, false≢true, and-eq-true_iff}
use lib.ListN.{length}
use lib.Dec.{leb}
use borrow.Author.Tests.{eqb-true, eq-eqb, leb-true, leb-false, le-leb, lt-leb}
use Rattle.message.specs.Choice.{pick}
use Rattle.message.specs.Logs.{Block, Log, Prefix, empty, more, Conflict, Compatible, same_block, is_prefix, same_log, shared_length}
use Rattle.message.specs.Logs.{in_step, names_of, counts_of}
use Rattle.message.proofs.TestLaws.{either}

-- ---- the order

pub prefix_refl : (P : Log) → Prefix P P
prefix_refl [] = empty
prefix_refl (b ∷ P) = more (prefix_refl P)

pub prefix_trans : {P Q R : Log} → Prefix P Q → Prefix Q R → Prefix P R
prefix_trans empty k = empty
prefix_trans (more h) (more k) = more (prefix_trans h k)

prefix_antisym_by : {P Q R S : Log} → Prefix P Q → Prefix R S → Q ≡ R → S ≡ P → P ≡ Q
prefix_antisym_by empty empty e f = sym e
prefix_antisym_by empty (more k) e f = cc
prefix_antisym_by (more h) empty e f = cc
prefix_antisym_by (more {b = b} {P = P} {Q = Q} h) (more {P = R} {Q = S} k) e f =
    let q : Q ≡ R = cc in
    let p : S ≡ P = cc in
    ap (λ l. b ∷ l) (prefix_antisym_by h k q p)

pub prefix_antisym : {P Q : Log} → Prefix P Q → Prefix Q P → P ≡ Q
prefix_antisym h k = prefix_antisym_by h k refl refl

pub prefix_length : {P Q : Log} → Prefix P Q → length P ≤ length Q
prefix_length empty = omega arith
prefix_length (more h) = omega (arith, prefix_length h)

-- a prefix, by the blocks that follow it
prefix_append : (P t : Log) → Prefix P (P ++ t)
prefix_append [] t = empty
prefix_append (b ∷ P) t = more (prefix_append P t)

prefix_tail : {P Q : Log} → Prefix P Q → (t : Log) × (P ++ t ≡ Q)
prefix_tail {Q = Q} empty = (Q, refl)
prefix_tail (more {b = b} h) = ((prefix_tail h).0, ap (λ l. b ∷ l) (prefix_tail h).1)

pub prefix_iff : (P Q : Log) → Prefix P Q ↔ ((t : Log) × (P ++ t ≡ Q))
prefix_iff P Q = (prefix_tail, λ e. subst (λ l. Prefix P l) e.1 (prefix_append P e.0))

-- two prefixes of one log, of one length
pub prefix_same : {P Q R : Log} → Prefix P R → Prefix Q R → length P ≡ length Q → P ≡ Q
prefix_same empty empty e = refl
prefix_same empty (more k) e = absurd (omega arith)
prefix_same (more h) empty e = absurd (omega arith)
prefix_same (more {b = b} h) (more k) e = ap (λ l. b ∷ l) (prefix_same h k (omega arith))

-- ---- logs that do not conflict

pub compatible_swap : {P Q : Log} → Compatible P Q → Compatible Q P
compatible_swap (inl h) = inr h
compatible_swap (inr h) = inl h

-- two prefixes of one log do not conflict
pub compatible_under : {P Q R : Log} → Prefix P R → Prefix Q R → Compatible P Q
compatible_under empty k = inl empty
compatible_under (more h) empty = inr empty
compatible_under (more h) (more k) = grow (compatible_under h k)
  where
    grow : {b : Block} {P Q : Log} → Compatible P Q → Compatible (b ∷ P) (b ∷ Q)
    grow (inl h) = inl (more h)
    grow (inr h) = inr (more h)

-- of two logs that do not conflict, the one that is not longer is the prefix
prefix_long : {P Q : Log} → Prefix Q P → length P ≤ length Q → Prefix P Q
prefix_long {P = []} empty l = empty
prefix_long {P = b ∷ P} empty l = absurd (omega arith)
prefix_long (more h) l = more (prefix_long h (le_of_suc-le-suc l))

pub prefix_shorter : {P Q : Log} → Compatible P Q → length P ≤ length Q → Prefix P Q
prefix_shorter (inl h) l = h
prefix_shorter (inr h) l = prefix_long h l

-- ---- the tests

pub same_block_eq : (a b : Block) → same_block a b ≡ true → a ≡ b
same_block_eq a b h =
    let e = (and-eq-true_iff _ _).0 h in
    let p = eqb-true a.name b.name e.0 in
    let q = eqb-true a.count b.count e.1 in
    λ i. record { name = p i; count = q i }

pub same_block_refl : (a : Block) → same_block a a ≡ true
same_block_refl a = rw (eq-eqb a.name a.name refl, eq-eqb a.count a.count refl)

prefix_of : (P Q : Log) → is_prefix P Q ≡ true → Prefix P Q
unfolding is_prefix
prefix_of [] Q h = empty
prefix_of (a ∷ P) [] h = absurd (false≢true h)
prefix_of (a ∷ P) (b ∷ Q) h =
    let e = (and-eq-true_iff _ _).0 h in
    subst (λ c. Prefix (a ∷ P) (c ∷ Q)) (same_block_eq a b e.0) (more (prefix_of P Q e.1))

of_prefix : {P Q : Log} → Prefix P Q → is_prefix P Q ≡ true
unfolding is_prefix
of_prefix empty = refl
of_prefix (more {b = b} h) = (and-eq-true_iff _ _).1 (same_block_refl b, of_prefix h)

-- the test holds exactly of a prefix
pub is_prefix_iff : (P Q : Log) → (is_prefix P Q ≡ true) ↔ Prefix P Q
is_prefix_iff P Q = (prefix_of P Q, of_prefix)

same_log_eq : (P Q : Log) → same_log P Q ≡ true → P ≡ Q
unfolding same_log
same_log_eq [] [] e = refl
same_log_eq [] (q ∷ Q) e = absurd (false≢true e)
same_log_eq (p ∷ P) [] e = absurd (false≢true e)
same_log_eq (p ∷ P) (q ∷ Q) e =
    let x = (and-eq-true_iff _ _).0 e in
    let b = same_block_eq p q x.0 in
    let r = same_log_eq P Q x.1 in
    λ i. b i ∷ r i

same_log_refl : (P : Log) → same_log P P ≡ true
unfolding same_log
same_log_refl [] = refl
same_log_refl (p ∷ P) = rw (same_block_refl p, same_log_refl P)

-- the test holds exactly of the same log
pub same_log_iff : (P Q : Log) → (same_log P Q ≡ true) ↔ (P ≡ Q)
same_log_iff P Q = (same_log_eq P Q, λ e. subst (λ (R : Log). same_log P R ≡ true) e (same_log_refl P))

-- ---- how far two logs are alike

pub shared_most : (P Q : Log) → (shared_length P Q ≤ length P) × (shared_length P Q ≤ length Q)
unfolding shared_length
shared_most [] Q = (omega arith, omega arith)
shared_most (p ∷ P) [] = (omega arith, omega arith)
shared_most (p ∷ P) (q ∷ Q) = go (same_block p q) (shared_most P Q)
  where
    go : (t : Bool) → (shared_length P Q ≤ length P) × (shared_length P Q ≤ length Q)
        → (pick t (suc (shared_length P Q)) 0 ≤ length (p ∷ P)) × (pick t (suc (shared_length P Q)) 0 ≤ length (q ∷ Q))
    go true h = (omega arith, omega arith)
    go false h = (omega arith, omega arith)

leb_suc : (m n : ℕ) → leb m n ≡ leb (suc m) (suc n)
leb_suc m n =
    either (leb m n) (λ t. t ∙ sym (le-leb (suc m) (suc n) (omega (arith, leb-true m n t))))
    (λ t. t ∙ sym (lt-leb (suc m) (suc n) (omega (arith, leb-false m n t))))

-- of the prefixes of P, those of Q are the ones no longer than the shared length
pub shared_covers : {M P : Log} → Prefix M P → (Q : Log) → is_prefix M Q ≡ leb (length M) (shared_length P Q)
unfolding is_prefix shared_length
shared_covers {P = P} empty Q = sym (le-leb 0 (shared_length P Q) (omega arith))
shared_covers (more {P = M} h) [] = sym (lt-leb (suc (length M)) 0 (omega arith))
shared_covers (more {b = b} {P = M} {Q = P} h) (q ∷ Q) = go (same_block b q) (shared_covers h Q)
  where
    go : (t : Bool) → is_prefix M Q ≡ leb (length M) (shared_length P Q)
        → (t && is_prefix M Q) ≡ leb (suc (length M)) (pick t (suc (shared_length P Q)) 0)
    go true e = e ∙ leb_suc (length M) (shared_length P Q)
    go false e = sym (lt-leb (suc (length M)) 0 (omega arith))

-- To conflict and to be compatible are each other's negation: a claim may be read either way.
pub no_conflict_iff : (P Q : Log) → (Conflict P Q → ⊥) ↔ Compatible P Q
no_conflict_iff P Q = (go (is_prefix P Q) refl (is_prefix Q P) refl, λ c d. elim c [ inl h ↦ d.0 h | inr h ↦ d.1 h ])
  where
    go : (s : Bool) → is_prefix P Q ≡ s → (t : Bool) → is_prefix Q P ≡ t → (Conflict P Q → ⊥) → Compatible P Q
    go true e t f n = inl (prefix_of P Q e)
    go false e true f n = inr (prefix_of Q P f)
    go false e false f n = absurd (n ((λ h. false≢true (sym e ∙ of_prefix h)), λ h. false≢true (sym f ∙ of_prefix h)))

-- ---- names and counts in step

pub length_names : (L : Log) → length (names_of L) ≡ length L
unfolding names_of
length_names [] = refl
length_names (b ∷ L) = ap suc (length_names L)

pub length_counts : (L : Log) → length (counts_of L) ≡ length L
unfolding counts_of
length_counts [] = refl
length_counts (b ∷ L) = ap suc (length_counts L)

-- a log is its names and its counts in step
pub log_in_step : (L : Log) → in_step (names_of L) (counts_of L) ≡ L
unfolding in_step names_of counts_of
log_in_step [] = refl
log_in_step (b ∷ L) = ap (λ (l : Log). b ∷ l) (log_in_step L)

pub names_in_step : (ns cs : List ℕ) → length ns ≡ length cs → names_of (in_step ns cs) ≡ ns
unfolding in_step names_of
names_in_step [] cs e = refl
names_in_step (n ∷ ns) [] e = absurd (omega arith)
names_in_step (n ∷ ns) (c ∷ cs) e = ap (λ (l : List ℕ). n ∷ l) (names_in_step ns cs (omega arith))

pub counts_in_step : (ns cs : List ℕ) → length ns ≡ length cs → counts_of (in_step ns cs) ≡ cs
unfolding in_step counts_of
counts_in_step [] [] e = refl
counts_in_step [] (c ∷ cs) e = absurd (omega arith)
counts_in_step (n ∷ ns) [] e = absurd (omega arith)
counts_in_step (n ∷ ns) (c ∷ cs) e = ap (λ (l : List ℕ). c ∷ l) (counts_in_step ns cs (omega arith))

pub length_in_step : (ns cs : List ℕ) → length ns ≡ length cs → length (in_step ns cs) ≡ length ns
unfolding in_step
length_in_step [] cs e = refl
length_in_step (n ∷ ns) [] e = absurd (omega arith)
length_in_step (n ∷ ns) (c ∷ cs) e = ap suc (length_in_step ns cs (omega arith))

pub names_append : (L M : Log) → names_of (L ++ M) ≡ names_of L ++ names_of M
unfolding names_of
names_append [] M = refl
names_append (b ∷ L) M = ap (λ (l : List ℕ). b.name ∷ l) (names_append L M)

pub counts_append : (L M : Log) → counts_of (L ++ M) ≡ counts_of L ++ counts_of M
unfolding counts_of
counts_append [] M = refl
counts_append (b ∷ L) M = ap (λ (l : List ℕ). b.count ∷ l) (counts_append L M)

pub names_one : (x : Block) → names_of (x ∷ []) ≡ x.name ∷ []
unfolding names_of
names_one x = refl

pub counts_one : (x : Block) → counts_of (x ∷ []) ≡ x.count ∷ []
unfolding counts_of
counts_one x = refl
