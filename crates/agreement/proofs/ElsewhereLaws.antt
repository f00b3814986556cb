-- Filing writes one sender's place: what stands outside the span of its agreement or its proposals stays, and so does what is kept there.
-- Assumes nothing.
use Prim.Native.Nat.{ℕ, ◌+◌, ◌^◌, ◌≤◌, ◌<◌}
use native.Mathlib.Decide.{dec_lt}
use native.Mathlib.Omega.{arith}
use mathlib.Core.Bool.{false, ◌&&◌, ◌||◌}
use mathlib.Core.List.{List}
use mathlib.Core.Logic.{◌⊎◌, inl, inr}
use mathlib.Core.Path.{◌≡◌, refl, ap}
use lib.Dec.{eqb}
use lib.ListN.{length, get_or}
use Rattle.message.specs.Limits.{most_blocks}
use Rattle.message.specs.Choice.{pick}
use Rattle.message.specs.Numbers.{AllBelow, put}
use Rattle.message.specs.Logs.{Log, same_log, names_of, counts_of}
use Rattle.message.specs.Message.{count_in, log_in}
use Rattle.message.specs.Store.{log_at}
use Rattle.message.proofs.TestLaws.{or_false}
use Rattle.message.proofs.Acceptance.{length_blocks}
use Rattle.message.proofs.ListedLaws.{log_before, log_past}
use Rattle.message.proofs.PartLaws.{length-put, put_all_below}
use Rattle.agreement.specs.Limits.{most_senders, span, place_of}
use Rattle.agreement.specs.Sets.{member}
use Rattle.agreement.specs.Record.{Agreement, is_voter, is_equivocator, filed_log}
use Rattle.agreement.specs.Filing.{unfit, file_of, Fit}
use Rattle.agreement.specs.Proposals.{Proposals, file_proposal_of}
use Rattle.agreement.specs.Kept.{nothing, only, differing, kept_log, kept_proposal}
use Rattle.agreement.proofs.FilingLaws.{few_blocks, fit}
use Rattle.agreement.proofs.KeptLaws.{cases}

-- k places from a on lie outside the w places from b on
abbrev pub Apart : ℕ → ℕ → ℕ → ℕ → Type 0
Apart a k b w = (a + k ≤ b) ⊎ (b + w ≤ a)

-- The lists differ at most in the w places from b on: lengths, logs elsewhere, and the bounds of a name and of a count are as before.
pub record Elsewhere (b w : ℕ) (names counts names' counts' : List ℕ) : Type 0 where
  pub name_length : length names' ≡ length names
  pub count-length : length counts' ≡ length counts
  pub logs : (a k : ℕ) → Apart a k b w → log_at names' counts' a k ≡ log_at names counts a k
  pub name_bound : AllBelow (2 ^ 64) names → AllBelow (2 ^ 64) names'
  pub count_bound : AllBelow (2 ^ 16) counts → AllBelow (2 ^ 16) counts'

-- nothing written
pub untouched : (b w : ℕ) (names counts : List ℕ) → Elsewhere b w names counts names counts
untouched b w names counts =
    record { name_length = refl; count-length = refl; logs = λ a k h. refl; name_bound = λ h. h; count_bound = λ h. h }

-- a log of names and counts in their bounds, written at a place inside
pub put_elsewhere : (b w : ℕ) (names counts : List ℕ) (place : ℕ) (L : Log) → b ≤ place → place + length L ≤ b + w
    → AllBelow (2 ^ 64) (names_of L) → AllBelow (2 ^ 16) (counts_of L)
    → Elsewhere b w names counts (put names place (names_of L)) (put counts place (counts_of L))
put_elsewhere b w names counts place L h l n c = record {
  name_length = length-put names place (names_of L);
  count-length = length-put counts place (counts_of L);
  logs = λ a k d. elim d [
    | inl e ↦ log_before names counts place L a k (omega arith)
    | inr e ↦ log_past names counts place L a k (omega arith)
  ];
  name_bound = put_all_below (2 ^ 64) names place (names_of L) n;
  count_bound = put_all_below (2 ^ 16) counts place (counts_of L) c;
}

module _ (names counts : List ℕ) (base : ℕ) (s : List ℕ) (i : ℕ) (f : Fit names counts base s i)
    (n : AllBelow (2 ^ 64) (names_of (log_in s))) (c : AllBelow (2 ^ 16) (counts_of (log_in s))) where
  stored : Elsewhere base span names counts (put names (place_of base i) (names_of (log_in s)))
      (put counts (place_of base i) (counts_of (log_in s)))
  stored =
      let e = length_blocks s (count_in s) in
      let k = few_blocks names counts base s i f in
      let h = f.few in
      put_elsewhere base span names counts (place_of base i) (log_in s) (omega arith) (omega arith) n c

  pub file_elsewhere : (g : Agreement)
      → Elsewhere base span names counts (file_of g names counts base s i).names (file_of g names counts base s i).counts
  unfolding file_of
  file_elsewhere g =
      cases (Elsewhere base span names counts (file_of g names counts base s i).names (file_of g names counts base s i).counts)
      (unfit names counts base s i || is_equivocator g i) (is_voter g i) (same_log (log_in s) (filed_log names counts base g.lengths i))
      (λ q. rw q (untouched base span names counts))
      (λ q v e. rw (q, v, e) (untouched base span names counts))
      (λ q v e. rw (q, v, e) (untouched base span names counts))
      (λ q v. rw (q, v) stored)

  pub proposal_elsewhere : (g : Proposals) (priority : ℕ)
      → Elsewhere base span names counts (file_proposal_of g names counts base s i priority).names
      (file_proposal_of g names counts base s i priority).counts
  unfolding file_proposal_of
  proposal_elsewhere g priority =
      cases (Elsewhere base span names counts (file_proposal_of g names counts base s i priority).names
      (file_proposal_of g names counts base s i priority).counts)
      (unfit names counts base s i || member g.marks.aside i) (member g.marks.filed i)
      (same_log (log_in s) (filed_log names counts base g.lengths i) && eqb priority (get_or g.priorities i 0))
      (λ q. rw q (untouched base span names counts))
      (λ q v e. rw (q, v, e) (untouched base span names counts))
      (λ q v e. rw (q, v, e) (untouched base span names counts))
      (λ q v. rw (q, v) stored)

-- ---- past the span nothing changes, whatever is filed and from whom

module _ (names counts : List ℕ) (base : ℕ) (s : List ℕ) (i a k : ℕ) (past : base + span ≤ a) where
  abbrev Same : List ℕ → List ℕ → Type 0
  Same ns cs = log_at ns cs a k ≡ log_at names counts a k

  stored_past : Fit names counts base s i
      → Same (put names (place_of base i) (names_of (log_in s))) (put counts (place_of base i) (counts_of (log_in s)))
  stored_past f =
      let e = length_blocks s (count_in s) in
      let b = few_blocks names counts base s i f in
      let h = f.few in
      log_past names counts (place_of base i) (log_in s) a k (omega arith)

  pub file_past : (g : Agreement) → Same (file_of g names counts base s i).names (file_of g names counts base s i).counts
  unfolding file_of
  file_past g =
      cases (Same (file_of g names counts base s i).names (file_of g names counts base s i).counts)
      (unfit names counts base s i || is_equivocator g i) (is_voter g i) (same_log (log_in s) (filed_log names counts base g.lengths i))
      (λ q. rw q refl)
      (λ q v e. rw (q, v, e) refl)
      (λ q v e. rw (q, v, e) refl)
      (λ q v. rw (q, v) (stored_past (fit names counts base s i (or_false (unfit names counts base s i) (is_equivocator g i) q).0)))

  pub proposal_past : (g : Proposals) (priority : ℕ)
      → Same (file_proposal_of g names counts base s i priority).names (file_proposal_of g names counts base s i priority).counts
  unfolding file_proposal_of
  proposal_past g priority =
      cases (Same (file_proposal_of g names counts base s i priority).names (file_proposal_of g names counts base s i priority).counts)
      (unfit names counts base s i || member g.marks.aside i) (member g.marks.filed i)
      (same_log (log_in s) (filed_log names counts base g.lengths i) && eqb priority (get_or g.priorities i 0))
      (λ q. rw q refl)
      (λ q v e. rw (q, v, e) refl)
      (λ q v e. rw (q, v, e) refl)
      (λ q v.
      let fits = (or_false (unfit names counts base s i) (member g.marks.aside i) q).0 in
      rw (q, v) (stored_past (fit names counts base s i fits)))

-- ---- what is kept in another span

-- the lengths of a record within its limits, and no sender past its places
abbrev pub Short : List ℕ → Type 0
Short lengths = (i : ℕ) → get_or lengths i 0 ≤ most_blocks

module _ {b w : ℕ} {names counts names' counts' : List ℕ} (d : Elsewhere b w names counts names' counts') (base : ℕ)
    (far : Apart base span b w) where
  log_same : (lengths : List ℕ) → Short lengths → (i : ℕ) → i < most_senders
      → filed_log names' counts' base lengths i ≡ filed_log names counts base lengths i
  log_same lengths short i l =
      let k = short i in
      d.logs (place_of base i) (get_or lengths i 0) (elim far [ inl e ↦ inl (omega arith) | inr e ↦ inr (omega arith) ])

  pub kept_elsewhere : (g : Agreement) → Short g.lengths → (i : ℕ) → (most_senders ≤ i → is_voter g i ≡ false)
      → kept_log names' counts' base g i ≡ kept_log names counts base g i
  unfolding kept_log
  kept_elsewhere g short i past = elim (dec_lt i most_senders) [
    | yes l ↦ ap (λ (L : Log). pick (is_equivocator g i) differing (pick (is_voter g i) (only L) nothing)) (log_same g.lengths short i l)
    | no l ↦ rw (past (omega arith))
  ]

  pub proposal_kept_elsewhere : (g : Proposals) → Short g.lengths → (i : ℕ) → (most_senders ≤ i → member g.marks.filed i ≡ false)
      → kept_proposal names' counts' base g i ≡ kept_proposal names counts base g i
  unfolding kept_proposal
  proposal_kept_elsewhere g short i past = elim (dec_lt i most_senders) [
    | yes l ↦
        ap (λ (L : Log). pick (member g.marks.aside i) differing
        (pick (member g.marks.filed i) (only (record { log = L; priority = get_or g.priorities i 0 })) nothing))
        (log_same g.lengths short i l)
    | no l ↦ rw (past (omega arith))
  ]
