-- Logs within the limits of the message: the empty log, the prefixes of one, and one with a block more. Assumes nothing.
use Prim.Native.Nat.{ℕ, zero, suc, ◌^◌, ◌≤◌, ◌<◌}
use native.Mathlib.Omega.{arith}
use mathlib.Core.Bool.{Bool, false, ◌||◌, or_assoc}
use mathlib.Core.List.{List, [], ◌∷◌, ◌++◌}
use mathlib.Core.Logic.{◌≢◌}
use mathlib.Core.Path.{◌≡◌, refl, sym, ap, subst, ◌∙◌}
use borrow.Author.Tests.{ne_eqb}
use lib.Dec.{eqb}
use lib.ListN.{length, length-append}
use Rattle.message.specs.Limits.{most_blocks, last_view}
use Rattle.message.specs.Choice.{any_of}
use Rattle.message.specs.Numbers.{AllBelow}
use Rattle.message.specs.Logs.{Block, Log, Prefix, names_of, counts_of}
use Rattle.message.specs.Message.{Content, any_zero, Writable}
use Rattle.message.proofs.TestLaws.{or_false}
use Rattle.message.proofs.LogLaws.{prefix_iff, names_append, counts_append}
use Rattle.message.proofs.PartLaws.{one_below, append_below}

-- A log that a message within the limits may have (Message: Writable).
pub record GoodLog (L : Log) : Type 0 where
  pub short : length L ≤ most_blocks
  pub named : any_zero (names_of L) ≡ false
  pub names : AllBelow (2 ^ 64) (names_of L)
  pub counts : AllBelow (2 ^ 16) (counts_of L)

pub writable_log : {n : ℕ} {m : Content} → Writable n m → GoodLog m.log
writable_log w = record { short = w.short; named = w.named; names = w.names; counts = w.counts }

pub log_writable : {n sender view : ℕ} {L : Log} → sender < n → view ≤ last_view → GoodLog L
    → Writable n (record { sender = sender; view = view; log = L })
log_writable s v g = record { sender = s; view = v; short = g.short; named = g.named; names = g.names; counts = g.counts }

-- ---- the empty log, a log's prefixes, and one block more

pub empty_good : GoodLog []
unfolding any_of names_of counts_of
empty_good = record { short = omega arith; named = refl; names = λ i. omega arith; counts = λ i. omega arith }

any_append : (p : ℕ → Bool) (xs ys : List ℕ) → any_of p (xs ++ ys) ≡ (any_of p xs || any_of p ys)
unfolding any_of
any_append p [] ys = refl
any_append p (x ∷ xs) ys = ap (λ (t : Bool). p x || t) (any_append p xs ys) ∙ sym (or_assoc (p x) (any_of p xs) (any_of p ys))

below_front : (B : ℕ) (xs ys : List ℕ) → 0 < B → AllBelow B (xs ++ ys) → AllBelow B xs
below_front B [] ys z h i = z
below_front B (x ∷ xs) ys z h zero = h 0
below_front B (x ∷ xs) ys z h (suc i) = below_front B xs ys z (λ j. h (suc j)) i

front_good : (P t : Log) → GoodLog (P ++ t) → GoodLog P
front_good P t g =
    let l = length-append P t in
    let s = g.short in
    let z = sym (any_append (λ name. eqb name 0) (names_of P) (names_of t)) ∙ ap any_zero (sym (names_append P t)) ∙ g.named in
    record {
      short = omega arith;
      named = (or_false (any_zero (names_of P)) (any_zero (names_of t)) z).0;
      names = below_front (2 ^ 64) (names_of P) (names_of t) (omega arith) (subst (AllBelow (2 ^ 64)) (names_append P t) g.names);
      counts = below_front (2 ^ 16) (counts_of P) (counts_of t) (omega arith) (subst (AllBelow (2 ^ 16)) (counts_append P t) g.counts);
    }

-- with a log, its prefixes
pub prefix_good : {P Q : Log} → Prefix P Q → GoodLog Q → GoodLog P
prefix_good {P} {Q} h g = let t = (prefix_iff P Q).0 h in front_good P t.0 (subst GoodLog (sym t.1) g)

-- and one block more, where there is room
pub append_good : (L : Log) (b : Block) → length L < most_blocks → b.name ≢ 0 → b.name < 2 ^ 64 → b.count < 2 ^ 16
    → GoodLog L → GoodLog (L ++ (b ∷ []))
unfolding any_of names_of counts_of
append_good L b s z S c g =
    let l = length-append L (b ∷ []) in
    record {
      short = omega arith;
      named =
          ap any_zero (names_append L (b ∷ [])) ∙ any_append (λ name. eqb name 0) (names_of L) (b.name ∷ [])
          ∙ rw (g.named, ne_eqb b.name 0 z) refl;
      names =
          subst (AllBelow (2 ^ 64)) (sym (names_append L (b ∷ [])))
          (append_below (2 ^ 64) (names_of L) (b.name ∷ []) g.names (one_below (2 ^ 64) b.name S));
      counts =
          subst (AllBelow (2 ^ 16)) (sym (counts_append L (b ∷ [])))
          (append_below (2 ^ 16) (counts_of L) (b.count ∷ []) g.counts (one_below (2 ^ 16) b.count c));
    }
