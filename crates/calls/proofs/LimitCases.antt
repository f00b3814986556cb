-- Refusal 9 as the code tests it: set by set. Assumes nothing.
use Prim.Native.Nat.{ℕ, ◌+◌}
use lib.Bits.{bit_or}
use mathlib.Core.Bool.{Bool, true, false, not, ◌&&◌, ◌||◌}
use mathlib.Core.List.{List}
use mathlib.Core.Path.{◌≡◌, refl, sym, ap, ◌∙◌}
use lib.Dec.{ltb, leb}
use lib.ListN.{get_or}
use Rattle.message.specs.Limits.{most_blocks, last_view}
use Rattle.agreement.specs.Limits.{most_senders}
use Rattle.agreement.specs.Sets.{count, member}
use Rattle.agreement.specs.Record.{agreement_from}
use Rattle.agreement.specs.Proposals.{proposals_from}
use Rattle.agreement.specs.declared.Marks.{Marks}
use Rattle.agreement.specs.declared.Shown.{Shown}
use Rattle.agreement.proofs.MaskLaws.{member_or}
use Rattle.bench.specs.Layout.{out_of_range}
use Rattle.bench.specs.Calendar.{last_beat}
use Rattle.bench.specs.Record.{bench_from, any_place, names_beyond, too_long, bad_sender, beyond_agreement, beyond_proposals, beyond}
use Rattle.bench.specs.declared.Head.{Head}
use Rattle.bench.proofs.LimitLaws.{any_place_lem, any_or, any_cong, agreement_causes, proposals_causes, beyond-causes}
use Rattle.calls.specs.Steps.{outside, bad_sets}

-- ---- sets asked together

meets_or : (t x y : Bool) → (t && (x || y)) ≡ ((t && x) || (t && y))
meets_or true x y = refl
meets_or false x y = refl

or_meets : (x y t : Bool) → ((x || y) && t) ≡ ((x && t) || (y && t))
or_meets true true t = sym (or_same t)
  where
    or_same : (t : Bool) → (t || t) ≡ t
    or_same true = refl
    or_same false = refl
or_meets true false true = refl
or_meets true false false = refl
or_meets false y t = refl

-- what holds of the places of two sets, and of one that has both
any_both : (p q r : ℕ → Bool) → ((i : ℕ) → r i ≡ (p i || q i)) → any_place r ≡ (any_place p || any_place q)
any_both p q r h = any_cong r (λ (i : ℕ). p i || q i) h ∙ any_or p q

module _ (n a b : ℕ) where
  beyond_both : any_place (names_beyond n (bit_or a b)) ≡ (any_place (names_beyond n a) || any_place (names_beyond n b))
  beyond_both =
      any_both (names_beyond n a) (names_beyond n b) (names_beyond n (bit_or a b))
      (λ i. ap (λ (t : Bool). leb n i && t) (member_or a b i) ∙ meets_or (leb n i) (member a i) (member b i))

  reaches_both : (r : Bool) → r ≡ ltb 0 (count most_senders (λ (i : ℕ). leb n i && member (bit_or a b) i))
      → r ≡ (any_place (names_beyond n a) || any_place (names_beyond n b))
  reaches_both r e = e ∙ sym (any_place_lem (names_beyond n (bit_or a b))) ∙ beyond_both

-- ---- the sets of an agreement

module _ (n : ℕ) (m : Marks) where
  abbrev heard : ℕ
  heard = bit_or m.voters m.equivocators

  abbrev snapped : ℕ
  snapped = bit_or m.one.senders m.two.senders

  exceeding : (r : Bool) → r ≡ ltb 0 (count most_senders (λ (i : ℕ). member snapped i && not (member heard i)))
      → r ≡ (any_place (outside m m.one.senders) || any_place (outside m m.two.senders))
  exceeding r e =
      e ∙ sym (any_place_lem (λ (i : ℕ). member snapped i && not (member heard i)))
      ∙ any_both (outside m m.one.senders) (outside m m.two.senders) (λ (i : ℕ). member snapped i && not (member heard i))
      (λ i.
      ap (λ (t : Bool). member snapped i && not t) (member_or m.voters m.equivocators i)
      ∙ ap (λ (t : Bool). t && not (member m.voters i || member m.equivocators i)) (member_or m.one.senders m.two.senders i)
      ∙ or_meets (member m.one.senders i) (member m.two.senders i) (not (member m.voters i || member m.equivocators i)))

  pub bad_sets_lem : (a b c : Bool)
      → a ≡ ltb 0 (count most_senders (λ (i : ℕ). leb n i && member (bit_or heard snapped) i))
      → b ≡ ltb 0 (count most_senders (λ (i : ℕ). member m.voters i && member m.equivocators i))
      → c ≡ ltb 0 (count most_senders (λ (i : ℕ). member snapped i && not (member heard i)))
      → (a || (b || c)) ≡ bad_sets n m
  unfolding bad_sets
  bad_sets_lem a b c pa pb pc =
      let x = reaches_both n heard snapped a pa in
      let y = beyond_both n m.voters m.equivocators in
      let z = beyond_both n m.one.senders m.two.senders in
      let w = pb ∙ sym (any_place_lem (λ (i : ℕ). member m.voters i && member m.equivocators i)) in
      rw (x, y, z, w, exceeding c pc)
      (in_a_row (any_place (names_beyond n m.voters)) (any_place (names_beyond n m.equivocators))
      (any_place (names_beyond n m.one.senders)) (any_place (names_beyond n m.two.senders)) _)
    where
      in_a_row : (p q r s t : Bool) → (((p || q) || (r || s)) || t) ≡ (p || (q || (r || (s || t))))
      in_a_row true q r s t = refl
      in_a_row false true r s t = refl
      in_a_row false false true s t = refl
      in_a_row false false false s t = refl

-- the eight tests of one place, each over all places
module _ (n : ℕ) (m : Marks) (lengths : List ℕ) where
  bad_any : any_place (bad_sender n (agreement_from m lengths)) ≡ (any_place (too_long lengths) || bad_sets n m)
  unfolding bad_sets
  bad_any =
      any_or (too_long lengths) _
      ∙ ap (λ (t : Bool). any_place (too_long lengths) || t)
      (any_or (names_beyond n m.voters) _ ∙ ap (λ (t : Bool). any_place (names_beyond n m.voters) || t)
      (any_or (names_beyond n m.equivocators) _ ∙ ap (λ (t : Bool). any_place (names_beyond n m.equivocators) || t)
      (any_or (names_beyond n m.one.senders) _ ∙ ap (λ (t : Bool). any_place (names_beyond n m.one.senders) || t)
      (any_or (names_beyond n m.two.senders) _ ∙ ap (λ (t : Bool). any_place (names_beyond n m.two.senders) || t)
      (any_or (λ (i : ℕ). member m.voters i && member m.equivocators i) _
      ∙ ap (λ (t : Bool). any_place (λ (i : ℕ). member m.voters i && member m.equivocators i) || t)
      (any_or (outside m m.one.senders) (outside m m.two.senders)))))))

  beyond_agreement_lem : beyond_agreement n (agreement_from m lengths) ≡ (ltb last_view m.view || (any_place (too_long lengths) || bad_sets n m))
  beyond_agreement_lem = agreement_causes n (agreement_from m lengths) ∙ ap (λ (t : Bool). ltb last_view m.view || t) bad_any

module _ (n : ℕ) (m : Shown) where
  pub beyond_shown : (b : Bool) → b ≡ ltb 0 (count most_senders (λ (i : ℕ). leb n i && member (bit_or m.filed m.aside) i))
      → (ltb last_view m.view || b)
      ≡ (ltb last_view m.view || (any_place (names_beyond n m.filed) || any_place (names_beyond n m.aside)))
  beyond_shown b f = ap (λ (t : Bool). ltb last_view m.view || t) (reaches_both n m.filed m.aside b f)

  beyond_proposals_lem : (lengths priorities : List ℕ)
      → beyond_proposals n (proposals_from m lengths priorities)
      ≡ (ltb last_view m.view ||
      (any_place (too_long lengths) || (any_place (names_beyond n m.filed) || any_place (names_beyond n m.aside))))
  beyond_proposals_lem lengths priorities =
      proposals_causes n (proposals_from m lengths priorities)
      ∙ ap (λ (t : Bool). ltb last_view m.view || t)
      (any_or (too_long lengths) _
      ∙ ap (λ (t : Bool). any_place (too_long lengths) || t) (any_or (names_beyond n m.filed) (names_beyond n m.aside)))

-- ---- the causes together

-- the lengths asked first
lengths_first : (x y z a b c d f g : Bool)
    → ((x || (y || z)) || ((a || b) || ((c || d) || (f || g)))) ≡ ((a || (x || b)) || ((c || (y || d)) || (f || (z || g))))
lengths_first true y z true b c d f g = refl
lengths_first true y z false b c d f g = refl
lengths_first false true z true b c d f g = refl
lengths_first false true z false true c d f g = refl
lengths_first false true z false false true d f g = refl
lengths_first false true z false false false d f g = refl
lengths_first false false true true b c d f g = refl
lengths_first false false true false true c d f g = refl
lengths_first false false true false false true d f g = refl
lengths_first false false true false false false true f g = refl
lengths_first false false true false false false false true g = refl
lengths_first false false true false false false false false g = refl
lengths_first false false false a b c d f g = refl

pub beyond_limits : (h : Head) (e o p q : List ℕ) (range long even odd proposals : Bool) → range ≡ out_of_range h.n h.own
    → long ≡ (ltb 0 (count most_senders (λ (i : ℕ). ltb most_blocks (get_or e i 0)))
    || (ltb 0 (count most_senders (λ (i : ℕ). ltb most_blocks (get_or o i 0))) || ltb 0
    (count most_senders (λ (i : ℕ). ltb most_blocks (get_or p i 0)))))
    → even ≡ (ltb last_view h.even.view || bad_sets h.n h.even) → odd ≡ (ltb last_view h.odd.view || bad_sets h.n h.odd)
    → proposals ≡ (ltb last_view h.shown.view ||
    (any_place (names_beyond h.n h.shown.filed) || any_place (names_beyond h.n h.shown.aside)))
    → (range || (ltb (last_beat + 1) h.next || (ltb most_blocks h.decided || (long || (even || (odd || proposals)))))) ≡ beyond
    (bench_from h e o p q)
beyond_limits h e o p q range long even odd proposals a l b c d =
    let all : (long || (even || (odd || proposals)))
    ≡ (beyond_agreement h.n (agreement_from h.even e) ||
    (beyond_agreement h.n (agreement_from h.odd o) || beyond_proposals h.n (proposals_from h.shown p q))) =
    (λ i.
    (l ∙ (λ j. sym (any_place_lem (too_long e)) j || (sym (any_place_lem (too_long o)) j || sym (any_place_lem (too_long p)) j))) i ||
    (b i || (c i || d i)))
    ∙ lengths_first (any_place (too_long e)) (any_place (too_long o)) (any_place (too_long p)) (ltb last_view h.even.view)
    (bad_sets h.n h.even)
    (ltb last_view h.odd.view) (bad_sets h.n h.odd) (ltb last_view h.shown.view)
    (any_place (names_beyond h.n h.shown.filed) || any_place (names_beyond h.n h.shown.aside))
    ∙ sym (λ i. beyond_agreement_lem h.n h.even e i || (beyond_agreement_lem h.n h.odd o i || beyond_proposals_lem h.n h.shown p q i))
    in
    (λ i. a i || (ltb (last_beat + 1) h.next || (ltb most_blocks h.decided || all i))) ∙ sym (beyond-causes (bench_from h e o p q))
