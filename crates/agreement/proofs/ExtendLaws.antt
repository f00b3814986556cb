-- Following the majority block by block: one block more, and the end, where no longer log has a majority. Assumes nothing.
use Prim.Native.Nat.{ℕ, ◌+◌, ◌*◌, ◌≤◌, ◌<◌}
use native.Mathlib.Decide.{dec_le}
use native.Mathlib.Omega.{arith}
use mathlib.Core.Bool.{Bool, true, ◌&&◌, and-true, and_assoc, and-eq-true_iff}
use mathlib.Core.List.{List, []}
use mathlib.Core.Logic.{inl, inr}
use mathlib.Core.Path.{◌≡◌, refl, sym, ap, subst, ◌∙◌}
use lib.Dec.{leb, ltb}
use lib.ListN.{length, get_or}
use Rattle.std.specs.Prelude.{Some}
use Rattle.message.specs.Limits.{most_blocks}
use Rattle.message.specs.Logs.{Block, Log, Prefix, empty, same_block, is_prefix}
use Rattle.message.specs.Store.{log_at}
use Rattle.message.proofs.LogLaws.{prefix_trans, prefix_length, prefix_same, prefix_shorter, compatible_under, same_block_eq, is_prefix_iff}
use Rattle.message.proofs.ListedLaws.{length_at_lem, log_empty, prefix_at_lem, prefix_there, prefix_one_more}
use Rattle.agreement.specs.Limits.{most_senders, place_of}
use Rattle.agreement.specs.Sets.{ones, count, member}
use Rattle.agreement.specs.Record.{filed_log}
use Rattle.agreement.specs.Steps.{SetOf, backing, Majority, next_block, narrowed, chunk_length, alike, narrowed_by, Far, have_block}
use Rattle.agreement.specs.Steps.{MajorityAt, Readable, Extending, Following, Extended}
use Rattle.agreement.specs.declared.Longest.{Longest}
use Rattle.agreement.proofs.SetLaws.{Meet, weigh_mono, weigh_meet, weigh_some, weigh_cong}
use Rattle.agreement.proofs.NarrowLaws.{prefix_chunk}

module _ (names counts : List ℕ) (base : ℕ) (lengths : List ℕ) (may : ℕ) (all : ℕ) where
  -- the first l blocks at sender i's place
  abbrev at : ℕ → ℕ → Log
  at i l = log_at names counts (place_of base i) l

  -- sender i's log
  abbrev log : ℕ → Log
  log i = filed_log names counts base lengths i

  abbrev back : Log → ℕ → Bool
  back = backing names counts base lengths may

  abbrev next : ℕ → ℕ → Block
  next = next_block names counts base

  backs : (L : Log) (j : ℕ) → back L j ≡ true → (member may j ≡ true) × Prefix L (log j)
  backs L j e = let a = (and-eq-true_iff (member may j) (is_prefix L (log j))).0 e in (a.0, (is_prefix_iff L (log j)).0 a.1)

  -- who backs a log backs its prefixes
  back_prefix : {K L : Log} → Prefix K L → (j : ℕ) → j < most_senders → back L j ≡ true → back K j ≡ true
  back_prefix {K} {L} h j l e =
      let a = backs L j e in
      (and-eq-true_iff (member may j) (is_prefix K (log j))).1 (a.0, (is_prefix_iff K (log j)).1 (prefix_trans h a.1))

  back_may : (L : Log) (j : ℕ) → j < most_senders → back L j ≡ true → member may j ≡ true
  back_may L j l e = (backs L j e).0

  -- all who may support back the empty log
  pub back_empty : (j : ℕ) → j < most_senders → back [] j ≡ member may j
  back_empty j l = ap (λ (t : Bool). member may j && t) ((is_prefix_iff [] (log j)).1 empty) ∙ and-true (member may j)

  pub follow_all : Extending may all → Following names counts base lengths may all 0 0 may
  follow_all k = record {
    at = λ j l. sym (ap (λ (L : Log). back L j) (log_empty names counts (place_of base 0) 0 (omega arith)) ∙ back_empty j l);
    enough = k.enough;
  }

  module _ (who l : ℕ) (followers : ℕ) (f : Following names counts base lengths may all who l followers) where
    -- ---- one block more

    -- the followers that go on as c does, where c's log starts as theirs
    back_next : (c j : ℕ) → at c l ≡ at who l → j < most_senders
        → narrowed names counts base lengths followers l (next l c) j ≡ back (at c (l + 1)) j
    back_next c j e h =
        let n = ltb l (get_or lengths j 0) && same_block (next l c) (next l j) in
        ap (λ (t : Bool). t && n) (f.at j h)
        ∙ and_assoc (member may j) (is_prefix (at who l) (log j)) n
        ∙ ap (λ (L : Log). member may j && (is_prefix L (log j) && n)) (sym e)
        ∙ ap (λ (t : Bool). member may j && t) (sym (prefix_one_more names counts (place_of base c) (place_of base j) l (get_or lengths j 0)))

    module _ (narrow : ℕ) (n : ℕ) (q : n ≡ count most_senders (member narrow)) where
      follow : (c : ℕ) → at c l ≡ at who l → SetOf (narrowed names counts base lengths followers l (next l c)) most_senders narrow
          → all < 2 * n
          → Following names counts base lengths may all c (l + 1) narrow
      follow c e s h = record { at = λ j k. s.at j k ∙ back_next c j e k; enough = omega arith }

      pub follow_same : SetOf (narrowed names counts base lengths followers l (next l who)) most_senders narrow → all < 2 * n
          → Following names counts base lengths may all who (l + 1) narrow
      follow_same = follow who refl

      -- the log of a follower starts as all of them
      starts : (c : ℕ) → MajorityAt names counts base followers l who c → at c l ≡ at who l
      starts c v = elim v.from [
        | inl e ↦ ap (λ (i : ℕ). at i l) e
        | inr m ↦
            let p = (backs (at who l) c (sym (f.at c v.place) ∙ m)).1 in
            sym (prefix_there names counts (place_of base c) (get_or lengths c 0) (at who l) p
            ∙ ap (at c) (length_at_lem names counts (place_of base who) l))
      ]

      pub follow_majority : (c : ℕ) → MajorityAt names counts base followers l who c
          → SetOf (narrowed names counts base lengths followers l (next l c)) most_senders narrow → all < 2 * n
          → Following names counts base lengths may all c (l + 1) narrow
      follow_majority c v = follow c (starts c v)

    -- a chunk of blocks more
    back_chunk : (k j : ℕ) → j < most_senders → narrowed_by names counts base lengths followers l who k j ≡ back (at who (l + k)) j
    back_chunk k j h =
        let n = leb (l + k) (get_or lengths j 0) && alike names counts (place_of base who + l) (place_of base j + l) k in
        ap (λ (t : Bool). t && n) (f.at j h)
        ∙ and_assoc (member may j) (is_prefix (at who l) (log j)) n
        ∙ ap (λ (t : Bool). member may j && t) (sym (prefix_chunk names counts (place_of base who) (place_of base j) l (get_or lengths j 0) k))

    module _ (far : ℕ) (n : ℕ) (r : Far names counts base lengths followers l who far) (q : n ≡ count most_senders (member far))
        (h : all < 2 * n) where
      pub follow_far : Following names counts base lengths may all who (l + chunk_length) far
      follow_far = record { at = λ j k. (r.some (omega arith)).1.at j k ∙ back_chunk chunk_length j k; enough = omega arith }

      pub far_few : l + chunk_length ≤ most_blocks
      far_few = (r.some (omega arith)).0

    -- ---- the end

    majority : Majority names counts base lengths may all (at who l)
    majority = let e = weigh_cong most_senders ones (member followers) (back (at who l)) f.at in let h = f.enough in omega arith

    module _ (k : Extending may all) (ok : Readable names counts base lengths) where
      -- a log with a majority has a supporter, and so 64 blocks at the most
      supporter : (M : Log) → Majority names counts base lengths may all M → Meet most_senders (back M) (back M)
      supporter M h = weigh_some most_senders ones (back M) (omega arith)

      pub top_full : most_blocks ≤ l → l ≤ most_blocks → who < most_senders → (p : Longest) → (p.sender ≡ who) × (p.blocks ≡ l)
          → Extended names counts base lengths may all (Some p)
      top_full a b w p e = record {
        top = rw (e.0, e.1) (record {
          place = w;
          few = b;
          majority = majority;
          longest = λ M h.
              let m = supporter M h in
              let u = prefix_length (backs M m.sender m.left).1 in
              let e = length_at_lem names counts (place_of base m.sender) (get_or lengths m.sender 0) in
              let s = ok.short m.sender m.below in
              omega arith;
        });
      }

      -- two logs with a majority have a supporter in common: the longer one starts with the other
      extends : (M : Log) → Majority names counts base lengths may all M → l ≤ length M → Prefix (at who l) M
      extends M h g =
          let a = majority in
          let b = k.few in
          let e = length_at_lem names counts (place_of base who) l in
          let m = weigh_meet most_senders ones (back (at who l)) (back M) (member may) (back_may (at who l)) (back_may M) (omega arith) in
          prefix_shorter (compatible_under (backs (at who l) m.sender m.left).1 (backs M m.sender m.right).1) (omega arith)

      -- a longer log with a majority has a next block, that of some sender's log, which more than half of `all` have
      module _ (M : Log) (h : Majority names counts base lengths may all M) (g : l < length M) where
        abbrev s : ℕ
        s = (supporter M h).sender

        first : (x : ℕ) → x ≤ length M → Prefix (at s x) M
        first x a =
            let p = (backs M s (supporter M h).left).1 in
            subst (λ (L : Log). Prefix (at s x) L) (sym (prefix_there names counts (place_of base s) (get_or lengths s 0) M p))
            (prefix_at_lem names counts (place_of base s) x (length M) a)

        level : at s l ≡ at who l
        level =
            prefix_same (first l (omega arith)) (extends M h (omega arith))
            (length_at_lem names counts (place_of base s) l ∙ sym (length_at_lem names counts (place_of base who) l))

        going : all < 2 * count most_senders (narrowed names counts base lengths followers l (next l s))
        going =
            let a = weigh_mono most_senders ones (back M) (back (at s (l + 1))) (back_prefix (first (l + 1) (omega arith))) in
            let b = weigh_cong most_senders ones (narrowed names counts base lengths followers l (next l s)) (back (at s (l + 1)))
            (λ j. back_next s j level) in
            omega arith

        -- so the vote has found it
        won : (c : ℕ) → MajorityAt names counts base followers l who c → next l s ≡ next l c
        won c v =
            let a = going in
            let b = weigh_mono most_senders ones (narrowed names counts base lengths followers l (next l s))
            (have_block names counts base followers l (next l s)) (λ j i e.
            let x = (and-eq-true_iff (member followers j) (ltb l (get_or lengths j 0) && same_block (next l s) (next l j))).0 e in
            let y = (and-eq-true_iff (ltb l (get_or lengths j 0)) (same_block (next l s) (next l j))).0 x.1 in
            (and-eq-true_iff (member followers j) (same_block (next l s) (next l j))).1 (x.0, y.1)) in
            let d = weigh_mono most_senders ones (member followers) (member may) (λ j i e. back_may (at who l) j i (sym (f.at j i) ∙ e)) in
            let z = k.few in
            same_block_eq (next l s) (next l c) (v.led (next l s) (omega arith))

        counted : (c : ℕ) → MajorityAt names counts base followers l who c → (narrow : ℕ)
            → SetOf (narrowed names counts base lengths followers l (next l c)) most_senders narrow
            → all < 2 * count most_senders (member narrow)
        counted c v narrow t =
            let a = going in
            let b = ap (λ (x : Block). count most_senders (narrowed names counts base lengths followers l x)) (won c v) in
            let d = weigh_cong most_senders ones (member narrow) (narrowed names counts base lengths followers l (next l c)) t.at in
            omega arith

      pub top_majority : (c : ℕ) (narrow : ℕ) (n : ℕ) → MajorityAt names counts base followers l who c
          → SetOf (narrowed names counts base lengths followers l (next l c)) most_senders narrow → n ≡ count most_senders (member narrow)
          → 2 * n ≤ all
          → l ≤ most_blocks → who < most_senders → (p : Longest) → (p.sender ≡ who) × (p.blocks ≡ l)
          → Extended names counts base lengths may all (Some p)
      top_majority c narrow n v t q z b w p e = record {
        top = rw (e.0, e.1) (record {
          place = w;
          few = b;
          majority = majority;
          longest = λ M h. elim (dec_le (length M) l) [
            | yes a ↦ a
            | no a ↦ let d = counted M h (omega arith) c v narrow t in absurd (omega arith)
          ];
        });
      }
