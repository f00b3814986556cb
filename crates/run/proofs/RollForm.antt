-- The form of a roll: a law for each return of the code that judges it, and what a roll of the right form has. Assumes nothing.
use Prim.Native.Nat.{ℕ, zero, suc, ◌+◌, ◌-◌, ◌*◌, ◌/◌, ◌%◌, ◌≤◌, ◌<◌}
use native.Mathlib.Omega.{arith}
use mathlib.Core.Bool.{Bool, true, false, not, ◌||◌}
use mathlib.Core.List.{List}
use mathlib.Core.Path.{◌≡◌, refl, sym, ap, ◌∙◌}
use borrow.Author.Tests.{lt-ltb, le-ltb, eqb-true, eqb-false, ne_eqb, ltb-false}
use lib.Dec.{eqb, ltb}
use lib.ListN.{length, get_or}
use Rattle.message.specs.Numbers.{AllBelow, number_at}
use Rattle.message.proofs.NumberLaws.{number_inside}
use Rattle.message.proofs.LoopLaws.{two_bytes}
use Rattle.message.proofs.TestLaws.{either, or_false}
use Rattle.run.specs.Roll.{most_roll, most_events, sizes_length, mark_length, events_of, mark_place, kind_at, zero_at, length_at, bodies_place}
use Rattle.run.specs.Roll.{right_body, wrong_mark, misfits, misshapen}
use Rattle.run.specs.RollSteps.{Marked, MarkIs, Shaped, Lies}

-- ---- a mark as one number

pub mark_is : (s : List ℕ) (i m : ℕ) → Marked s i → AllBelow 256 s
    → m ≡ kind_at s i + zero_at s i * 256 + get_or s (mark_place i + 2) 0 * 65536 + get_or s (mark_place i + 3) 0 * 16777216
    → MarkIs s i m
mark_is s i m h bytes e =
    let n : mark_place i + 2 + 1 ≡ mark_place i + 3 = omega arith in
    let u = get_or s (mark_place i + 2) 0 in
    let v = get_or s (mark_place i + 3) 0 in
    let t = two_bytes s (mark_place i + 2) u v refl (ap (λ (k : ℕ). get_or s k 0) (sym n)) in
    let w : length_at s i ≡ number_at 2 s (mark_place i + 2) = number_inside 2 s (mark_place i + 2) (omega arith) in
    let a = bytes (mark_place i) in
    let b = bytes (mark_place i + 1) in
    let c = bytes (mark_place i + 2) in
    let d = bytes (mark_place i + 3) in
    record { start = omega arith; kind = omega arith; body = omega arith; short = omega arith }

-- a mark whose second byte is not zero has a lower half that is no kind
no_kind : (m k : ℕ) → 256 ≤ m → right_body m k ≡ false
unfolding right_body
no_kind m k h = rw (ne_eqb m 1 (λ e. omega arith), ne_eqb m 2 (λ e. omega arith), ne_eqb m 3 (λ e. omega arith))

wrong_is : (s : List ℕ) (i m : ℕ) → MarkIs s i m → not (right_body (m % 65536) (m / 65536)) ≡ wrong_mark s i
unfolding wrong_mark
wrong_is s i m f =
    let q = f.start in
    let kind = f.kind in
    either (eqb (zero_at s i) 0)
    (λ yes. let z = eqb-true (zero_at s i) 0 yes in let l : m % 65536 ≡ kind_at s i = omega arith in rw (yes, l, f.body))
    (λ no. let z = eqb-false (zero_at s i) 0 no in rw (no, no_kind (m % 65536) (m / 65536) (big z)))
  where
    big : (zero_at s i ≡ 0 → ⊥) → 256 ≤ m % 65536
    big z = let q = f.start in omega arith

-- ---- the walk over the marks

misfits-step : (s : List ℕ) (i a m : ℕ) → 0 < m → misfits s i a m ≡ (wrong_mark s i || misfits s (i + 1) (a + length_at s i) (m - 1))
unfolding misfits
misfits-step s i a m h = let e : m ≡ suc (m - 1) = omega arith in ap (misfits s i a) e

pub marks_start : (s : List ℕ) (e : ℕ) → e ≡ events_of s → misfits s 0 (bodies_place s) (events_of s) ≡ misfits s 0 (4 + 4 * e) (e - 0)
marks_start s e q = let n : e - 0 ≡ e = omega arith in rw (n, q)

or_next : (a b c : Bool) → (a || (b || c)) ≡ ((a || b) || c)
or_next true b c = refl
or_next false b c = refl

-- b where a mark before event i is wrong
module _ (z b : Bool) (s : List ℕ) (i a e : ℕ) (inv : z ≡ (b || misfits s i a (e - i))) where
  pub mark_next : (m : ℕ) (r : Bool) → i < e → MarkIs s i m → r ≡ right_body (m % 65536) (m / 65536)
      → z ≡ ((b || not r) || misfits s (i + 1) (a + m / 65536) (e - (i + 1)))
  mark_next m r h f q =
      let n : e - i - 1 ≡ e - (i + 1) = omega arith in
      inv ∙ ap (λ (t : Bool). b || t) (misfits-step s i a (e - i) (omega arith))
      ∙ or_next b (wrong_mark s i) (misfits s (i + 1) (a + length_at s i) (e - i - 1))
      ∙ rw (q, wrong_is s i m f, f.body, n)

  pub marks_end : e ≤ i → (b || not (eqb a (length s))) ≡ z
  unfolding misfits
  marks_end h = let n : e - i ≡ 0 = omega arith in sym (inv ∙ ap (λ (k : ℕ). b || misfits s i a k) n)

-- bodies that start past the roll's end do not end where it ends
at_end : (a n : ℕ) → not (eqb a n) ≡ false → a ≤ n
at_end a n e = either (eqb a n) (λ yes. let q = eqb-true a n yes in omega arith)
    (λ no. let f : true ≡ false = rw no at e in let z : ◌≡◌ {A = ℕ} 0 1 = cc in omega arith)

places_grow : (s : List ℕ) (i a m : ℕ) → misfits s i a m ≡ false → a ≤ length s
unfolding misfits
places_grow s i a zero e = at_end a (length s) e
places_grow s i a (suc m) e =
    let r = places_grow s (i + 1) (a + length_at s i) m (or_false (wrong_mark s i) (misfits s (i + 1) (a + length_at s i) m) e).1 in
    omega arith

-- ---- the whole form

module _ (s : List ℕ) where
  pub shape_size : (ltb (length s) sizes_length || ltb most_roll (length s)) ≡ true → true ≡ misshapen s
  unfolding misshapen
  shape_size t = rw t

  pub shaped : misshapen s ≡ false → Shaped s
  unfolding misshapen
  shaped e =
      let parts = or_false (ltb (length s) sizes_length || ltb most_roll (length s))
      (ltb most_events (events_of s) || misfits s 0 (bodies_place s) (events_of s)) e in
      let sizes = or_false (ltb (length s) sizes_length) (ltb most_roll (length s)) parts.0 in
      let events = or_false (ltb most_events (events_of s)) (misfits s 0 (bodies_place s) (events_of s)) parts.1 in
      record {
        long = ltb-false (length s) sizes_length sizes.0;
        short = ltb-false most_roll (length s) sizes.1;
        few = ltb-false most_events (events_of s) events.0;
        fit = events.1;
      }

  module _ (t : (ltb (length s) sizes_length || ltb most_roll (length s)) ≡ false) (e : ℕ) (q : e ≡ events_of s) where
    pub shape_many : most_events < e → true ≡ misshapen s
    unfolding misshapen
    shape_many h = rw (t, lt-ltb most_events (events_of s) (omega arith))

    pub shape_scant : e ≤ most_events → length s < sizes_length + mark_length * e → true ≡ misshapen s
    shape_scant h k =
        either (misshapen s) (λ yes. sym yes)
        (λ no. let f = places_grow s 0 (bodies_place s) (events_of s) (shaped no).fit in absurd (omega arith))

    pub shape_is : (r : Bool) → e ≤ most_events → r ≡ misfits s 0 (bodies_place s) (events_of s) → r ≡ misshapen s
    unfolding misshapen
    shape_is r h f = f ∙ rw (t, le-ltb most_events (events_of s) (omega arith))

-- ---- event i of a roll of the right form, whose body starts at place a

pub fit_start : (s : List ℕ) (e : ℕ) → e ≡ events_of s → misshapen s ≡ false → misfits s 0 (4 + 4 * e) (e - 0) ≡ false
fit_start s e q form = sym (marks_start s e q) ∙ (shaped s form).fit

module _ (s : List ℕ) (i a e : ℕ) (h : i < e) (inv : misfits s i a (e - i) ≡ false) where
  rest : (wrong_mark s i || misfits s (i + 1) (a + length_at s i) (e - i - 1)) ≡ false
  rest = sym (misfits-step s i a (e - i) (omega arith)) ∙ inv

  pub fit_next : (k : ℕ) → k ≡ length_at s i → misfits s (i + 1) (a + k) (e - (i + 1)) ≡ false
  fit_next k l =
      let n : e - i - 1 ≡ e - (i + 1) = omega arith in
      rw (l, ← n) (or_false (wrong_mark s i) (misfits s (i + 1) (a + length_at s i) (e - i - 1)) rest).1

  body_fits : (k : ℕ) → k ≡ length_at s i → a + k ≤ length s
  body_fits k l = places_grow s (i + 1) (a + k) (e - (i + 1)) (fit_next k l)

pub lies : (s : List ℕ) (i a e : ℕ) → e ≡ events_of s → misfits s i a (e - i) ≡ false → i < e → Lies s i a
lies s i a e q inv h = record { event = omega arith; body = body_fits s i a e h inv (length_at s i) refl }

mark_right : (s : List ℕ) (i a m j : ℕ) → misfits s i a m ≡ false → j < m → wrong_mark s (i + j) ≡ false
unfolding misfits
mark_right s i a zero j e h = absurd (omega arith)
mark_right s i a (suc m) zero e h =
    ap (wrong_mark s) (omega arith) ∙ (or_false (wrong_mark s i) (misfits s (i + 1) (a + length_at s i) m) e).0
mark_right s i a (suc m) (suc j) e h =
    let n : i + suc j ≡ i + 1 + j = omega arith in
    ap (wrong_mark s) n
    ∙ mark_right s (i + 1) (a + length_at s i) m j (or_false (wrong_mark s i) (misfits s (i + 1) (a + length_at s i) m) e).1 (omega arith)

-- of a roll of the right form
module _ (s : List ℕ) (form : misshapen s ≡ false) where
  pub sizes_fit : 4 ≤ length s
  sizes_fit = (shaped s form).long

  pub roll_short : length s ≤ most_roll
  roll_short = (shaped s form).short

  pub events_few : events_of s ≤ most_events
  events_few = (shaped s form).few

  pub event_marked : (i : ℕ) → i < events_of s → (i < most_events) × Marked s i
  event_marked i h =
      let f = shaped s form in
      let m = places_grow s 0 (bodies_place s) (events_of s) f.fit in
      let n = f.few in
      (omega arith, omega arith)

  pub event_right : (i : ℕ) → i < events_of s → wrong_mark s i ≡ false
  event_right i h =
      let z : i ≡ 0 + i = omega arith in
      ap (wrong_mark s) z ∙ mark_right s 0 (bodies_place s) (events_of s) i (shaped s form).fit h

-- a right mark that says no other kind is an act's
pub kind_left : (s : List ℕ) (i : ℕ) → wrong_mark s i ≡ false → (kind_at s i ≡ 1 → ⊥) → (kind_at s i ≡ 2 → ⊥) → kind_at s i ≡ 3
unfolding wrong_mark right_body
kind_left s i w f g =
    either (eqb (kind_at s i) 3)
    (λ yes. eqb-true (kind_at s i) 3 yes)
    (λ no.
    let r = (or_false (not (eqb (zero_at s i) 0)) (not (right_body (kind_at s i) (length_at s i))) w).1 in
    let t : true ≡ false = rw (ne_eqb (kind_at s i) 1 f, ne_eqb (kind_at s i) 2 g, no) at r in
    let z : ◌≡◌ {A = ℕ} 0 1 = cc in
    absurd (omega arith))
