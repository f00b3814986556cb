-- The majority vote, turn by turn: a block that more than half of the followers have is the winner's. Assumes nothing.
use Prim.Native.Nat.{ℕ, zero, suc, ◌+◌, ◌-◌, ◌*◌, ◌≤◌, ◌<◌}
use native.Mathlib.Omega.{arith}
use mathlib.Core.Bool.{Bool, true, false, not, false≢true}
use mathlib.Core.List.{List}
use mathlib.Core.Logic.{inl, inr}
use mathlib.Core.Path.{◌≡◌, refl, sym, ap, ◌∙◌}
use Rattle.message.specs.Logs.{Block, same_block}
use Rattle.message.proofs.TestLaws.{either}
use Rattle.message.proofs.LogLaws.{same_block_eq, same_block_refl}
use Rattle.agreement.specs.Limits.{most_senders}
use Rattle.agreement.specs.Sets.{share, weigh, count, member}
use Rattle.agreement.specs.Steps.{Taken, next_block, have_block, Leads, MajorityAt}
use Rattle.agreement.proofs.MembersLaws.{count_taken, one_fewer, still_in, count_no_one}

-- ---- One turn in numbers: n of m followers have a block, and u of the v that are left after this turn. a says that the block is the
-- candidate's, b that it is the one of the follower whose turn it is.

new_turn : (a b : Bool) (n m u v w : ℕ) → w ≡ 0 → 2 * n + (1 + v) + share (not a) w ≤ 2 * (share b 1 + u) + m + share a w
    → 2 * n + v + share (not b) 1 ≤ 2 * u + m + share b 1
new_turn true true n m u v w z h = omega arith
new_turn true false n m u v w z h = omega arith
new_turn false true n m u v w z h = omega arith
new_turn false false n m u v w z h = omega arith

same_turn : (a b : Bool) (n m u v w : ℕ) → b ≡ a → 2 * n + (1 + v) + share (not a) w ≤ 2 * (share b 1 + u) + m + share a w
    → 2 * n + v + share (not a) (w + 1) ≤ 2 * u + m + share a (w + 1)
same_turn true true n m u v w e h = omega arith
same_turn true false n m u v w e h = absurd (false≢true e)
same_turn false true n m u v w e h = absurd (false≢true (sym e))
same_turn false false n m u v w e h = omega arith

other_turn : (a b : Bool) (n m u v w : ℕ) → (a ≡ true → b ≡ false) → (w ≡ 0 → ⊥)
    → 2 * n + (1 + v) + share (not a) w ≤ 2 * (share b 1 + u) + m + share a w
    → 2 * n + v + share (not a) (w - 1) ≤ 2 * u + m + share a (w - 1)
other_turn true true n m u v w e z h = absurd (false≢true (sym (e refl)))
other_turn true false n m u v w e z h = omega arith
other_turn false true n m u v w e z h = omega arith
other_turn false false n m u v w e z h = omega arith

count_le : (n : ℕ) (p : ℕ → Bool) → count n p ≤ n
unfolding weigh
count_le zero p = omega arith
count_le (suc n) p = let h = count_le n p in either (p n) (λ e. rw e (omega arith)) (λ e. rw e (omega arith))

module _ (names counts : List ℕ) (base : ℕ) (followers : ℕ) (l who : ℕ) where
  abbrev block : ℕ → Block
  block = next_block names counts base l

  -- how many of these followers have block x
  abbrev having : ℕ → Block → ℕ
  having left x = count most_senders (have_block names counts base left l x)

  pub lead_none : (left : ℕ) → left ≡ followers → who < most_senders → Leads names counts base followers l who left who 0
  lead_none left same k = rw same (record {
    most = λ x. either (same_block x (block who)) (λ e. rw e (omega arith)) (λ e. rw e (omega arith));
    place = k;
    from = inl refl;
    inside = λ j e. e;
    room = let c = count_le most_senders (member followers) in omega arith;
  })

  module _ (left best weight : ℕ) (h : Leads names counts base followers l who left best weight) where
    module _ (j rest : ℕ) (t : Taken left j rest) where
      holds : (x : Block) → having left x ≡ share (same_block x (block j)) 1 + having rest x
      holds x = count_taken left j rest t (λ (i : ℕ). same_block x (block i))

      follows : count most_senders (member left) ≡ 1 + count most_senders (member rest)
      follows = one_fewer left j rest t

      within : (i : ℕ) → member rest i ≡ true → member followers i ≡ true
      within i e = h.inside i (still_in left j rest t i e)

      pub lead_new : weight ≡ 0 → Leads names counts base followers l who rest j 1
      lead_new z = record {
        most = λ x.
            let p = holds x in
            let q = follows in
            let m = h.most x in
            new_turn (same_block x (block best)) (same_block x (block j)) (having followers x) (count most_senders (member followers))
            (having rest x) (count most_senders (member rest)) weight z (omega arith);
        place = t.0.few;
        from = inr (h.inside j t.0.inside);
        inside = within;
        room = let q = follows in let m = h.room in omega arith;
      }

      module _ (r : Bool) (e : r ≡ same_block (block best) (block j)) where
        pub lead_same : r ≡ true → Leads names counts base followers l who rest best (weight + 1)
        lead_same y = record {
          most = λ x.
              let p = holds x in
              let q = follows in
              let m = h.most x in
              let b = same_block_eq (block best) (block j) (sym e ∙ y) in
              same_turn (same_block x (block best)) (same_block x (block j)) (having followers x) (count most_senders (member followers))
              (having rest x) (count most_senders (member rest)) weight
              (ap (λ (z : Block). same_block x z) (sym b)) (omega arith);
          place = h.place;
          from = h.from;
          inside = within;
          room = let q = follows in let m = h.room in omega arith;
        }

        apart : (x : Block) → r ≡ false → same_block x (block best) ≡ true → same_block x (block j) ≡ false
        apart x n a = either (same_block x (block j))
            (λ b.
            let u = same_block_eq x (block best) a in
            let v = same_block_eq x (block j) b in
            let w = sym u ∙ v in
            absurd (false≢true (sym n ∙ e ∙ ap (λ (z : Block). same_block z (block j)) w ∙ same_block_refl (block j))))
            (λ b. b)

        pub lead_other : r ≡ false → (weight ≡ 0 → ⊥) → Leads names counts base followers l who rest best (weight - 1)
        lead_other n z = record {
          most = λ x.
              let p = holds x in
              let q = follows in
              let m = h.most x in
              other_turn (same_block x (block best)) (same_block x (block j)) (having followers x) (count most_senders (member followers))
              (having rest x) (count most_senders (member rest)) weight
              (apart x n) z (omega arith);
          place = h.place;
          from = h.from;
          inside = within;
          room = let q = follows in let m = h.room in omega arith;
        }

    pub voted : left ≡ 0 → MajorityAt names counts base followers l who best
    voted none = record {
      place = h.place;
      led = λ x q. either (same_block x (block best)) (λ y. y) (λ n.
          let m = h.most x in
          let u = ap (λ (z : ℕ). having z x) none ∙ count_no_one (λ (i : ℕ). same_block x (block i)) in
          let d = ap (λ (t : Bool). share t weight) n in
          absurd (omega arith));
      from = h.from;
    }
